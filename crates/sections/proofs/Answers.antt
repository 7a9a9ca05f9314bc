-- Which refusal Read answers with: the first test that fails (20, 21, 22, 23, 24, 26), at the first section where one
-- does, with that section's offset; and 25 with the file's length where all pass and the file is not complete. By the
-- tests of `step` and induction over the sections. Assumes nothing.
use mathlib.Core.Path.{◌≡◌, refl, sym, ap, ◌∙◌}
use mathlib.Core.Bool.{not}
use Prim.Native.Nat.{ℕ, ◌+◌, ◌≤◌}
use native.Mathlib.Nat.{add-zero}
use native.Mathlib.Omega.{arith}
use mathlib.Core.List.{List, [], ◌∷◌, ◌++◌, flatten}
use borrow.Author.Tests.{le-leb}
use lib.Dec.{T}
use lib.ListN.{length, length-append}
use Rattle.eit.specs.declared.Sizes.{Sizes}
use Rattle.eit.specs.Limits.{base_day_max}
use Rattle.eit.proofs.Test.{true_is, false_is}
use Rattle.sections.specs.Decode.{header_in, split_file}
use Rattle.sections.specs.HeaderTests.{latest, is_framed, has_right_crc, is_header, has_right_numbering}
use Rattle.sections.specs.EventTests.{is_event_loop, is_within_limit}
use Rattle.sections.specs.Walk.{Progress, at_start, behind, behind_all, Verdict, passed, refused, require, step}
use Rattle.sections.specs.Walk.{walk}
use Rattle.sections.specs.Read.{is_complete, refusal, at_end, check_file}
use Rattle.sections.proofs.Walk.{Passes, AllPass, step_passes, step_passed, walk_passes}

-- ---- one section: the first test that fails

module _ (sizes : Sizes) (base : ℕ) (p : Progress) (bs : List ℕ) where
  -- what is left of `step` behind 20 and 21, and behind 22 and 23
  abbrev from_events : Verdict
  from_events =
      require (is_event_loop base p.seen bs) 24 p.offset
      (require (is_within_limit sizes p.seen bs) 26 p.offset (passed (behind base p bs)))

  abbrev from_header : Verdict
  from_header =
      require (is_header p.before bs) 22 p.offset
      (require (has_right_numbering (latest p.before) (header_in bs)) 23 p.offset from_events)

  pub step_20 : T (not (is_framed sizes bs)) → step sizes base p bs ≡ refused 20 p.offset
  unfolding step
  step_20 fails = rw (step, false_is (is_framed sizes bs) fails)

  pub step_21 : T (is_framed sizes bs) → T (not (has_right_crc bs)) → step sizes base p bs ≡ refused 21 p.offset
  unfolding step
  step_21 framed fails = rw (step, true_is (is_framed sizes bs) framed, false_is (has_right_crc bs) fails)

  module _ (framed : T (is_framed sizes bs)) (crc_right : T (has_right_crc bs)) where
    at_header : step sizes base p bs ≡ from_header
    unfolding step
    at_header = rw (step, true_is (is_framed sizes bs) framed, true_is (has_right_crc bs) crc_right)

    pub step_22 : T (not (is_header p.before bs)) → step sizes base p bs ≡ refused 22 p.offset
    step_22 fails = at_header ∙ rw (false_is (is_header p.before bs) fails)

    pub step_23 : T (is_header p.before bs) → T (not (has_right_numbering (latest p.before) (header_in bs)))
        → step sizes base p bs ≡ refused 23 p.offset
    step_23 header fails =
        at_header ∙ rw (
          true_is (is_header p.before bs) header,
          false_is (has_right_numbering (latest p.before) (header_in bs)) fails,
        )

    module _ (header : T (is_header p.before bs))
        (numbering : T (has_right_numbering (latest p.before) (header_in bs))) where
      at_events : step sizes base p bs ≡ from_events
      at_events =
          at_header ∙ rw (
            true_is (is_header p.before bs) header,
            true_is (has_right_numbering (latest p.before) (header_in bs)) numbering,
          )

      pub step_24 : T (not (is_event_loop base p.seen bs)) → step sizes base p bs ≡ refused 24 p.offset
      step_24 fails = at_events ∙ rw (false_is (is_event_loop base p.seen bs) fails)

      pub step_26 : T (is_event_loop base p.seen bs) → T (not (is_within_limit sizes p.seen bs))
          → step sizes base p bs ≡ refused 26 p.offset
      step_26 loop fails =
          at_events ∙ rw
          (true_is (is_event_loop base p.seen bs) loop, false_is (is_within_limit sizes p.seen bs) fails)

-- ---- the first section where one fails

-- a section's offset is how many bytes stand before it
pub behind_offset : (base : ℕ) (p : Progress) (xs : List (List ℕ))
    → (behind_all base p xs).offset ≡ p.offset + length (flatten xs)
unfolding flatten
behind_offset base p [] = sym (add-zero p.offset)
behind_offset base p (bs ∷ rest) =
    behind_offset base (behind base p bs) rest
    ∙ omega (arith, length-append bs (flatten rest))

module _ (sizes : Sizes) (base : ℕ) where
  -- the walk goes on behind sections that pass
  pub walk_append : (p : Progress) (xs ys : List (List ℕ)) → AllPass sizes base p xs
      → walk sizes base p (xs ++ ys) ≡ walk sizes base (behind_all base p xs) ys
  unfolding walk
  walk_append p [] ys all = refl
  walk_append p (bs ∷ xs) ys all =
      rw (walk, step_passes sizes base p bs all.0) (walk_append (behind base p bs) xs ys all.1)

  walk_refused : (p : Progress) (bs : List ℕ) (rest : List (List ℕ)) (number offset : ℕ)
      → step sizes base p bs ≡ refused number offset
      → walk sizes base p (bs ∷ rest) ≡ refused number offset
  unfolding walk
  walk_refused p bs rest number offset e = rw (walk, e)

  -- where a refusal comes from: behind sections that all pass, at one that does not
  pub record RefusedAt (p : Progress) (xs : List (List ℕ)) (number offset : ℕ) : Type 0 where
    pub before : List (List ℕ)
    pub section : List ℕ
    pub rest : List (List ℕ)
    pub split : xs ≡ before ++ section ∷ rest
    pub pass : AllPass sizes base p before
    pub refuses : step sizes base (behind_all base p before) section ≡ refused number offset

  refused_behind : (p : Progress) (bs : List ℕ) (xs : List (List ℕ)) (number offset : ℕ) → Passes sizes base p bs
      → RefusedAt (behind base p bs) xs number offset
      → RefusedAt p (bs ∷ xs) number offset
  refused_behind p bs xs number offset passes r =
      record {
        before = bs ∷ r.before;
        section = r.section;
        rest = r.rest;
        split = λ i. bs ∷ r.split i;
        pass = (passes, r.pass);
        refuses = r.refuses;
      }

  refused_first : (p : Progress) (bs : List ℕ) (xs : List (List ℕ)) (number offset : ℕ) (v : Verdict)
      → step sizes base p bs ≡ v
      → walk sizes base p (bs ∷ xs) ≡ refused number offset
      → (walk sizes base (behind base p bs) xs ≡ refused number offset → RefusedAt (behind base p bs) xs number offset)
      → RefusedAt p (bs ∷ xs) number offset
  unfolding walk
  refused_first p bs xs number offset (passed next) is e later =
      let (passes, same) = step_passed sizes base p next bs is in
      let walked : walk sizes base next xs ≡ refused number offset = rw (walk, is) at e in
      refused_behind p bs xs number offset passes (later (rw same walked))
  refused_first p bs xs number offset (refused n o) is e later =
      record { before = []; section = bs; rest = xs; split = refl; pass = tt; refuses = is ∙ rw (walk, is) at e }

  pub refused_only : (p : Progress) (xs : List (List ℕ)) (number offset : ℕ)
      → walk sizes base p xs ≡ refused number offset
      → RefusedAt p xs number offset
  unfolding walk
  refused_only p [] number offset e = let never : ◌≡◌ {A = ℕ} 0 1 = cc in absurd (omega arith)
  refused_only p (bs ∷ xs) number offset e =
      refused_first p bs xs number offset (step sizes base p bs) refl e
      (refused_only (behind base p bs) xs number offset)

  module _ (file : List ℕ) (legal : base ≤ base_day_max) where
    -- a refusal of a section is Read's answer, and nothing behind that section is looked at
    pub check_refused : (xs rest : List (List ℕ)) (bs : List ℕ) (number : ℕ)
        → split_file file ≡ xs ++ bs ∷ rest
        → AllPass sizes base at_start xs
        → step sizes base (behind_all base at_start xs) bs ≡ refused number (behind_all base at_start xs).offset
        → check_file sizes base file ≡ refusal number (length (flatten xs))
    unfolding check_file
    check_refused xs rest bs number split all e =
        let walked : walk sizes base at_start (split_file file) ≡ refused number (length (flatten xs)) =
        ap (walk sizes base at_start) split
        ∙ walk_append at_start xs (bs ∷ rest) all
        ∙ walk_refused (behind_all base at_start xs) bs rest number (behind_all base at_start xs).offset e
        ∙ ap (refused number) (behind_offset base at_start xs ∙ omega arith) in
        rw (check_file, le-leb base base_day_max legal) (ap (at_end (length file)) walked)

    -- all sections pass, and the file ends early or is empty
    pub check_25 : AllPass sizes base at_start (split_file file)
        → T (not (is_complete (latest (behind_all base at_start (split_file file)).before)))
        → check_file sizes base file ≡ refusal 25 (length file)
    unfolding check_file
    check_25 all early =
        rw (check_file, le-leb base base_day_max legal)
        (ap (at_end (length file)) (walk_passes sizes base at_start (split_file file) all)
        ∙ rw (at_end, false_is (is_complete (latest (behind_all base at_start (split_file file)).before)) early))
