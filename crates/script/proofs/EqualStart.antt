-- What W-209 claims holds: an event with the start of another one overlaps it, so that an edit which passes 30 passes
-- 7. Assumes nothing.
use mathlib.Core.Path.{◌≡◌, refl, sym, ◌∙◌}
use mathlib.Core.Logic.{⊎_elim}
use mathlib.Core.Bool.{Bool, true, false, not}
use Prim.Native.Nat.{ℕ, ◌≤◌}
use native.Mathlib.Omega.{arith}
use mathlib.Core.List.{List, [], ◌∷◌}
use lib.Dec.{T, ltb, eqb, eqb→eq, not_T, T_not}
use Rattle.eit.specs.declared.Sizes.{Sizes}
use Rattle.eit.specs.Limits.{window_seconds}
use Rattle.eit.specs.Chain.{is_chain}
use Rattle.eit.specs.Pools.{Pools, choose}
use Rattle.eit.specs.Records.{EventList, records_of}
use Rattle.eit.specs.Among.{is_among}
use Rattle.eit.specs.Events.{follows}
use Rattle.eit.specs.Overlap.{overlap, overlaps_one}
use Rattle.eit.specs.Sound.{in_range, has_chain, all_valid, ids_of, starts_of, sound}
use Rattle.eit.specs.declared.Record.{Record}
use Rattle.eit.proofs.OverlapLaws.{starts_overlap}
use Rattle.eit.proofs.Sound.{sound_list, range_facts}
use Rattle.eit.proofs.Test.{tests, or_cases, or_left, or_right}
use Rattle.script.specs.Form.{Edit, Act, put, withdraw, move, form_of}
use Rattle.script.specs.Struck.{unstruck_in}
use Rattle.script.specs.Machine.{find, without, moved, Step, refused, check, step}
use Rattle.script.specs.Edit.{run_by, run, edit_by, edit}
use Rattle.script.specs.NoOverlap.{PassesBefore}
use Rattle.script.specs.EqualStart.{start_of_another, step_with7, EqualStart, EqualStartExamples}
use Rattle.script.proofs.Placing.{find_valid, without_valid}
use Rattle.script.proofs.Steps.{check_passed, step_or, put_30, move_30}
use Rattle.script.proofs.Machine.{step_sound}
use Rattle.script.proofs.EditBy.{by_done, by_refused, by_both}
use Rattle.script.proofs.Edit.{number_apart, run_number, edit_or}

-- an equal start is an overlap
equal_overlap : (r s : Record) → 1 ≤ r.duration → 1 ≤ s.duration → r.start ≡ s.start → T (overlap r s)
equal_overlap r s lasts lasts-too same = starts_overlap r s (omega arith) (omega arith)

pub equal_overlaps : (pools : Pools) (r : Record) (ss : List Record) → 1 ≤ r.duration → T (all_valid pools ss)
    → T (is_among r.start (starts_of ss)) → T (overlaps_one r ss)
equal_overlaps pools r [] lasts valid among = absurd among
equal_overlaps pools r (s ∷ ss) lasts valid among =
    let range : T (in_range s) = search tests in
    ⊎_elim
    (λ same.
    or_left (overlap r s) (overlaps_one r ss)
    (equal_overlap r s lasts (range_facts s range).duration_low (eqb→eq r.start s.start same)))
    (λ later.
    or_right (overlap r s) (overlaps_one r ss) (equal_overlaps pools r ss lasts (search tests) later))
    (or_cases (eqb r.start s.start) (is_among r.start (starts_of ss)) among)

-- ---- one edit

-- checks that are followed by the same where they are passed
check_same : (b : Bool) (n : ℕ) (s u : Step) → (T b → s ≡ u) → check b n s ≡ check b n u
check_same true n s u same = same tt
check_same false n s u same = refl

module _ (sizes : Sizes) (pools : Pools) (list : EventList) (t : T (sound sizes pools list)) where
  abbrev rs : List Record
  rs = records_of list

  valid : T (all_valid pools rs)
  valid = (sound_list sizes pools list t).records.valid

  -- an edit in range that has the start of another event overlaps it
  put_overlaps : (r : Record) → T (in_range r) → T (start_of_another list (put r)) → T (overlaps_one r rs)
  put_overlaps r range = equal_overlaps pools r rs (range_facts r range).duration_low valid

  move_overlaps : (id start : ℕ) → T (is_among id (ids_of rs)) → T (start_of_another list (move id start))
      → T (overlaps_one (moved id start rs) (without id rs))
  move_overlaps id start old =
      equal_overlaps pools (moved id start rs) (without id rs)
      (range_facts (find id rs) (find_valid pools id rs old valid).0).duration_low
      (without_valid pools id rs valid)

  comes_first : (a : Act) → PassesBefore pools list a → T (start_of_another list a)
      → step sizes pools list a ≡ refused 30
  comes_first (put r) (range, chain, new) equal =
      put_30 sizes pools list r range chain new (put_overlaps r range equal)
  comes_first (withdraw id) old equal = absurd equal
  comes_first (move id start) (limit, old) equal =
      move_30 sizes pools list id start limit old (move_overlaps id start old equal)

  -- one that overlaps none has not, and so 7 changes nothing
  put_free : (r : Record) → T (in_range r) → T (not (overlaps_one r rs)) → T (not (start_of_another list (put r)))
  put_free r range apart =
      not_T (start_of_another list (put r)) (λ equal. T_not (overlaps_one r rs) apart (put_overlaps r range equal))

  move_free : (id start : ℕ) → T (is_among id (ids_of rs)) → T (not (overlaps_one (moved id start rs) (without id rs)))
      → T (not (start_of_another list (move id start)))
  move_free id start old apart =
      not_T (start_of_another list (move id start))
      (λ equal.
      T_not (overlaps_one (moved id start rs) (without id rs)) apart (move_overlaps id start old equal))

  step_same : (a : Act) → step_with7 sizes pools list a ≡ step sizes pools list a
  unfolding step step_with7
  step_same (put r) =
      check_same (in_range r) 5 _ _
      (λ range. check_same (has_chain pools r) 9 _ _
      (λ chain. check_same (not (is_among r.id (ids_of rs))) 6 _ _
      (λ new. check_same (not (overlaps_one r rs)) 30 _ _
      (λ apart. check_passed (not (start_of_another list (put r))) 7 _ (put_free r range apart)))))
  step_same (withdraw id) = refl
  step_same (move id start) =
      check_same (ltb start window_seconds) 5 _ _
      (λ limit. check_same (is_among id (ids_of rs)) 6 _ _
      (λ old. check_same (not (overlaps_one (moved id start rs) (without id rs))) 30 _ _
      (λ apart. check_passed (not (start_of_another list (move id start))) 7 _ (move_free id start old apart))))

-- ---- Edit

module _ (sizes : Sizes) (pools : Pools) where
  run_same : (list : EventList) (es : List Edit) → T (sound sizes pools list)
      → run_by (step_with7 sizes pools) list es ≡ run sizes pools list es
  unfolding run_by
  run_same list [] t = refl
  run_same list (e ∷ es) t =
      ⊎_elim
      (λ (next, does).
      by_done (step_with7 sizes pools) list e es next (step_same sizes pools list t e.act ∙ does)
      ∙ run_same next es (step_sound sizes pools list e.act next does t)
      ∙ sym (by_done (step sizes pools) list e es next does))
      (λ (number, refuses).
      by_refused (step_with7 sizes pools) list e es number (step_same sizes pools list t e.act ∙ refuses)
      ∙ sym (by_refused (step sizes pools) list e es number refuses))
      (step_or (step sizes pools list e.act))

  edit_same : (list : EventList) (script : List ℕ)
      → edit_by (step_with7 sizes pools) sizes pools list script ≡ edit sizes pools list script
  unfolding edit
  edit_same list script =
      by_both (step_with7 sizes pools) (step sizes pools) sizes pools list script ◌≡◌ refl (λ at. refl) (λ at. refl)
      (λ es t. run_same list es t)

  edit_never : (list : EventList) (script : List ℕ) → (edit sizes pools list script).number ≡ 7 → ⊥
  edit_never list script =
      edit_or sizes pools (λ o. o.number ≡ 7 → ⊥) list script (λ z. omega arith) (λ at z. omega arith)
      (λ at z. omega arith)
      (λ es t.
      ⊎_elim (λ ended z. omega (arith, ended.0)) (λ is. number_apart (run sizes pools list es).number 7 is tt)
      (run_number sizes pools list es))

pub equal_start : EqualStart
equal_start =
    record {
      overlaps = equal_overlap;
      thirty_first = comes_first;
      adds_nothing = edit_same;
      never_given = edit_never;
    }

pub equal_start_examples : EqualStartExamples
unfolding edit step_with7 form_of unstruck_in sound records_of follows overlap choose is_chain
equal_start_examples =
    record {
      put_first = refl;
      put_last = refl;
      put_overlap = refl;
      move_first = refl;
      move_last = refl;
      move_own = refl;
      by_machine = refl;
    }
