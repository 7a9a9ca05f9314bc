-- When check and Read succeed, what they return and leave, and where they differ: by the cases of their definitions.
-- Assumes nothing.
use mathlib.Core.Path.{◌≡◌, refl, sym, ap, ◌∙◌}
use mathlib.Core.Bool.{Bool, true, false}
use mathlib.Core.Logic.{◌⊎◌, inl, inr, ⊎_elim, ◌↔◌}
use Prim.Native.Nat.{ℕ, ◌*◌, ◌≤◌, ◌<◌}
use native.Mathlib.Omega.{arith}
use mathlib.Core.List.{List, [], ◌∷◌}
use borrow.Author.Tests.{le-leb, lt-leb, eq-eqb, ne_eqb}
use lib.Dec.{T, eqb, eqb→eq, T_not}
use lib.ListN.{length}
use Rattle.eit.specs.declared.Sizes.{Sizes}
use Rattle.eit.specs.Limits.{base_day_max}
use Rattle.eit.specs.Overwrite.{overwrite}
use Rattle.eit.specs.Records.{record_size, numbers_of_all}
use Rattle.eit.proofs.Test.{true_is, false_is, test_or, le_or_lt, eq_test}
use Rattle.eit.specs.declared.Record.{Record}
use Rattle.sections.specs.Decode.{header_in, split_file}
use Rattle.sections.specs.HeaderTests.{latest, is_framed, has_right_crc, is_header, has_right_numbering}
use Rattle.sections.specs.EventTests.{is_event_loop, is_within_limit}
use Rattle.sections.specs.Walk.{Progress, at_start, behind_all, Verdict, passed, refused, require, step, walk}
use Rattle.sections.specs.Read.{is_complete, identity_of, Answer, success, refusal}
use Rattle.sections.specs.Read.{at_end, check_file, Reading, file_records, fill, read}
use Rattle.sections.proofs.Walk.{AllPass, walk_passes, walk_passed}

-- ---- the numbers of a walk

-- a refusal of a section has a number from 20 to 26
abbrev Numbers : Verdict → Type 0
Numbers (passed p) = Unit {0}
Numbers (refused number offset) = (20 ≤ number) × (number ≤ 26)

require_numbers : (b : Bool) (number offset : ℕ) (next : Verdict) → 20 ≤ number → number ≤ 26 → Numbers next
    → Numbers (require b number offset next)
require_numbers true number offset next low high rest = rest
require_numbers false number offset next low high rest = (low, high)

module _ (sizes : Sizes) (base : ℕ) where
  step_numbers : (p : Progress) (bs : List ℕ) → Numbers (step sizes base p bs)
  unfolding step
  step_numbers p bs =
      require_numbers (is_framed sizes bs) 20 p.offset _ (omega arith) (omega arith)
      (require_numbers (has_right_crc bs) 21 p.offset _ (omega arith) (omega arith)
      (require_numbers (is_header p.before bs) 22 p.offset _ (omega arith) (omega arith)
      (require_numbers (has_right_numbering (latest p.before) (header_in bs)) 23 p.offset _ (omega arith)
      (omega arith)
      (require_numbers (is_event_loop base p.seen bs) 24 p.offset _ (omega arith) (omega arith)
      (require_numbers (is_within_limit sizes p.seen bs) 26 p.offset _ (omega arith) (omega arith) tt)))))

  after_numbers : (v : Verdict) (rest : List (List ℕ)) → Numbers v → ((q : Progress) → Numbers (walk sizes base q rest))
      → Numbers (elim v [ passed next ↦ walk sizes base next rest | refused number offset ↦ refused number offset ])
  after_numbers (passed next) rest first all = all next
  after_numbers (refused number offset) rest first all = first

  walk_numbers : (p : Progress) (xs : List (List ℕ)) → Numbers (walk sizes base p xs)
  unfolding walk
  walk_numbers p [] = tt
  walk_numbers p (bs ∷ rest) = after_numbers (step sizes base p bs) rest (step_numbers p bs) (λ q. walk_numbers q rest)

-- ---- check

end_complete : (size : ℕ) (p : Progress) → T (is_complete (latest p.before))
    → at_end size (passed p) ≡ success (identity_of p.before) (length p.seen)
end_complete size p t = rw (at_end, true_is (is_complete (latest p.before)) t)

end_succeeded : (size : ℕ) (v : Verdict) → Numbers v → (at_end size v).number ≡ 0
    → (p : Progress) × (v ≡ passed p) × T (is_complete (latest p.before))
end_succeeded size (refused number offset) numbers zero = absurd (omega arith)
end_succeeded size (passed p) numbers zero =
    ⊎_elim (λ t. (p, refl, t))
    (λ t. let never : ◌≡◌ {A = ℕ} 25 0 = rw (at_end, false_is (is_complete (latest p.before)) t) at zero in
    absurd (omega arith))
    (test_or (is_complete (latest p.before)))

module _ (sizes : Sizes) (base : ℕ) where
  -- the file is complete behind all of its sections
  abbrev pub Complete : List ℕ → Type 0
  Complete file = T (is_complete (latest (behind_all base at_start (split_file file)).before))

  -- what check returns of a file that it accepts
  abbrev pub success_of : List ℕ → Answer
  success_of file =
      let end = behind_all base at_start (split_file file) in
      success (identity_of end.before) (length end.seen)

  pub check_succeeds : (file : List ℕ) → base ≤ base_day_max → AllPass sizes base at_start (split_file file) → Complete file
      → check_file sizes base file ≡ success_of file
  unfolding check_file
  check_succeeds file legal all complete =
      rw (check_file, le-leb base base_day_max legal)
      (ap (at_end (length file)) (walk_passes sizes base at_start (split_file file) all)
      ∙ end_complete (length file) (behind_all base at_start (split_file file)) complete)

  pub check_succeeded : (file : List ℕ) → (check_file sizes base file).number ≡ 0
      → (base ≤ base_day_max) × AllPass sizes base at_start (split_file file) × Complete file
  unfolding check_file
  check_succeeded file zero =
      ⊎_elim
      (λ legal.
      let ended : (at_end (length file) (walk sizes base at_start (split_file file))).number ≡ 0 =
      rw (check_file, le-leb base base_day_max legal) at zero in
      let (p, is, complete) =
      end_succeeded (length file) (walk sizes base at_start (split_file file))
      (walk_numbers sizes base at_start (split_file file)) ended in
      let (all, end) = walk_passed sizes base at_start p (split_file file) is in
      (legal, all, rw end complete))
      (λ above. let never : ◌≡◌ {A = ℕ} 1 0 = rw (check_file, lt-leb base base_day_max above) at zero in
      absurd (omega arith))
      (le_or_lt base base_day_max)

end_numbers : (size : ℕ) (v : Verdict) → Numbers v → (at_end size v).number < 27
end_numbers size (refused number offset) numbers = omega (arith, numbers.1)
end_numbers size (passed p) numbers =
    ⊎_elim (λ t. rw (at_end, true_is (is_complete (latest p.before)) t) (omega arith))
    (λ t. rw (at_end, false_is (is_complete (latest p.before)) t) (omega arith))
    (test_or (is_complete (latest p.before)))

-- a call that reads a file without a record buffer never says 27
pub check_below_27 : (sizes : Sizes) (base : ℕ) (file : List ℕ) → (check_file sizes base file).number < 27
unfolding check_file
check_below_27 sizes base file =
    ⊎_elim
    (λ legal. rw (check_file, le-leb base base_day_max legal)
    (end_numbers (length file) (walk sizes base at_start (split_file file))
    (walk_numbers sizes base at_start (split_file file))))
    (λ above. rw (check_file, lt-leb base base_day_max above) (omega arith))
    (le_or_lt base base_day_max)

-- and never 2, which is Build's
end_not_2 : (size : ℕ) (v : Verdict) → Numbers v → (at_end size v).number ≡ 2 → ⊥
end_not_2 size (refused number offset) numbers two = omega (arith, numbers.0)
end_not_2 size (passed p) numbers two =
    ⊎_elim
    (λ t. let never : ◌≡◌ {A = ℕ} 0 2 = rw (at_end, true_is (is_complete (latest p.before)) t) at two in omega arith)
    (λ t. let never : ◌≡◌ {A = ℕ} 25 2 = rw (at_end, false_is (is_complete (latest p.before)) t) at two in omega arith)
    (test_or (is_complete (latest p.before)))

pub check_not_2 : (sizes : Sizes) (base : ℕ) (file : List ℕ) → (check_file sizes base file).number ≡ 2 → ⊥
unfolding check_file
check_not_2 sizes base file two =
    ⊎_elim
    (λ legal.
    end_not_2 (length file) (walk sizes base at_start (split_file file))
    (walk_numbers sizes base at_start (split_file file))
    (rw (check_file, le-leb base base_day_max legal) at two))
    (λ above. let never : ◌≡◌ {A = ℕ} 1 2 = rw (check_file, lt-leb base base_day_max above) at two in omega arith)
    (le_or_lt base base_day_max)

-- 1 before all
pub check_base : (sizes : Sizes) (base : ℕ) (file : List ℕ) → base_day_max < base
    → check_file sizes base file ≡ refusal 1 0
unfolding check_file
check_base sizes base file above = rw (check_file, lt-leb base base_day_max above)

-- ---- Read

module _ (buffer : List ℕ) (rs : List Record) (answer : Answer) where
  fill_refused : (answer.number ≡ 0 → ⊥) → fill buffer rs answer ≡ record { answer = answer; buffer = buffer }
  fill_refused some = rw (fill, ne_eqb answer.number 0 some)

  fill_short : answer.number ≡ 0 → length buffer < answer.count * record_size
      → fill buffer rs answer ≡ record { answer = refusal 27 answer.count; buffer = buffer }
  fill_short zero short =
      rw (fill, eq-eqb answer.number 0 zero, lt-leb (answer.count * record_size) (length buffer) short)

  fill_succeeds : answer.number ≡ 0 → answer.count * record_size ≤ length buffer
      → fill buffer rs answer ≡ record { answer = answer; buffer = overwrite buffer 0 (numbers_of_all rs) }
  fill_succeeds zero fits =
      rw (fill, eq-eqb answer.number 0 zero, le-leb (answer.count * record_size) (length buffer) fits)

module _ (sizes : Sizes) (base : ℕ) (file buffer : List ℕ) where
  pub read_refused : ((check_file sizes base file).number ≡ 0 → ⊥)
      → read sizes base file buffer ≡ record { answer = check_file sizes base file; buffer = buffer }
  unfolding read
  read_refused some = fill_refused buffer (file_records base file) (check_file sizes base file) some

  pub read_short : (check_file sizes base file).number ≡ 0 → length buffer < (check_file sizes base file).count * record_size
      → read sizes base file buffer ≡ record { answer = refusal 27 (check_file sizes base file).count; buffer = buffer }
  unfolding read
  read_short zero short = fill_short buffer (file_records base file) (check_file sizes base file) zero short

  pub read_succeeds : (check_file sizes base file).number ≡ 0
      → (check_file sizes base file).count * record_size ≤ length buffer
      → read sizes base file buffer
      ≡ record {
        answer = check_file sizes base file;
        buffer = overwrite buffer 0 (numbers_of_all (file_records base file));
      }
  unfolding read
  read_succeeds zero fits = fill_succeeds buffer (file_records base file) (check_file sizes base file) zero fits

  -- Read says what check says, or 27 of an accepted file whose records do not fit the record buffer
  read_cases : ((read sizes base file buffer).answer ≡ check_file sizes base file)
      ⊎ (((check_file sizes base file).number ≡ 0) × (length buffer < (check_file sizes base file).count * record_size))
  read_cases =
      ⊎_elim
      (λ t.
      let zero : (check_file sizes base file).number ≡ 0 = eqb→eq (check_file sizes base file).number 0 t in
      ⊎_elim (λ fits. inl (ap (λ (r : Reading). r.answer) (read_succeeds zero fits))) (λ short. inr (zero, short))
      (le_or_lt ((check_file sizes base file).count * record_size) (length buffer)))
      (λ t. inl (ap (λ (r : Reading). r.answer)
      (read_refused (λ zero. T_not (eqb (check_file sizes base file).number 0) t
      (eq_test (check_file sizes base file).number 0 zero)))))
      (test_or (eqb (check_file sizes base file).number 0))

  -- check and Read agree in all but 27
  pub read_agrees : ((read sizes base file buffer).answer.number ≡ 27 → ⊥)
      → (read sizes base file buffer).answer ≡ check_file sizes base file
  read_agrees other =
      ⊎_elim (λ same. same)
      (λ c. absurd (other (ap (λ (r : Reading). r.answer.number) (read_short c.0 c.1))))
      read_cases

  -- and Read says 27 exactly of a file that check accepts and whose records do not fit
  pub read_27 : ((read sizes base file buffer).answer.number ≡ 27)
      ↔ (((check_file sizes base file).number ≡ 0) × (length buffer < (check_file sizes base file).count * record_size))
  read_27 = (
    λ is. ⊎_elim
        (λ same.
        let check-27 : (check_file sizes base file).number ≡ 27 = sym (ap (λ (a : Answer). a.number) same) ∙ is in
        absurd (omega (arith, check_below_27 sizes base file)))
        (λ c. c)
        read_cases,
    λ c. ap (λ (r : Reading). r.answer.number) (read_short c.0 c.1),
  )
