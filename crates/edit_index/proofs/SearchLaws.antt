-- The search for the place of a start among the entries of an order, an entry or a part at a time. By what is left of
-- the entries once those before i are passed. Assumes nothing.
use mathlib.Core.Path.{◌≡◌, refl, sym, ap, ◌∙◌}
use mathlib.Core.Logic.{⊎_elim}
use mathlib.Core.List.{List, [], ◌∷◌, ◌++◌, map-append}
use Prim.Native.Nat.{ℕ, suc, ◌+◌, ◌-◌, ◌*◌, ◌≤◌, ◌<◌, min}
use native.Mathlib.Omega.{arith}
use lib.ListN.{length, take, drop, length-take, length-drop, length-map, take-append-drop}
use lib.Seq.{drop-drop, take_all, length-take-le}
use Rattle.std.specs.Prelude.{Some, None, cond, position, leb}
use Rattle.std.specs.List.{position_or_len}
use mathlib.Core.Bool.{Bool, not}
use borrow.Author.Tests.{lt-leb, le-leb, lt-ltb, le-ltb}
use Rattle.std.specs.Option.{unwrap_or}
use Rattle.eit.specs.Placing.{placing}
use Rattle.eit.specs.declared.Place.{Place}
use Rattle.eit.proofs.Placing.{place_search, place_is, place_length, placing_here, placing_past}
use Rattle.eit.proofs.Placing.{placing_joined, placing_behind}
use Rattle.eit.proofs.Test.{le_or_lt}
use Rattle.edit_index.specs.Order.{slot_numbers, start_in, starts_in}
use Rattle.edit_index.specs.Search.{passed_of, Passed}

starts_length : (es : List ℕ) → length (starts_in es) ≡ length es
starts_length es = length-map es start_in

-- the first `count` entries have as many starts, or as many as there are entries
pub held_starts_holds : (order : List ℕ) (count : ℕ) {many : ℕ} → many ≡ min count (length order)
    → length (starts_in (take count order)) ≡ many
held_starts_holds order count first = starts_length (take count order) ∙ length-take count order ∙ sym first

abbrev place_in : Place → ℕ
place_in p = p.place

pub passed_length : (start : ℕ) (es : List ℕ) → passed_of start es ≤ length es
passed_length start es = omega (arith, place_length start (starts_in es), starts_length es)

module _ (start : ℕ) (es : List ℕ) where
  pub pass_none : Passed start es 0
  pass_none = (omega arith, omega arith)

  -- ---- the part from i to `end`, of which p are passed

  module _ (i end p : ℕ) (so_far : Passed start es i) (is : p ≡ passed_of start (take (end - i) (drop i es))) where
    abbrev part : List ℕ
    part = starts_in (take (end - i) (drop i es))

    part_length : end ≤ length es → length part ≡ end - i
    part_length within =
        starts_length (take (end - i) (drop i es))
        ∙ length-take-le (end - i) (drop i es) (simp length-drop (omega arith))

    cut : i ≤ end → starts_in (drop i es) ≡ part ++ starts_in (drop end es)
    cut rises =
        let whole : i + (end - i) ≡ end = omega arith in
        ap starts_in (sym (take-append-drop (end - i) (drop i es)))
        ∙ map-append start_in (take (end - i) (drop i es)) (drop (end - i) (drop i es))
        ∙ ap (λ (rest : List ℕ). part ++ starts_in rest)
        (drop-drop (end - i) i es ∙ ap (λ (k : ℕ). drop k es) whole)

    pub part_later : i ≤ end → end ≤ length es → p < end - i → i + p ≡ passed_of start es
    part_later rises within some =
        let same : passed_of start (drop i es) ≡ p =
        ap (λ (ss : List ℕ). (placing start ss).place) (cut rises)
        ∙ ap place_in (placing_joined start part (starts_in (drop end es)) (omega (arith, part_length within, is)))
        ∙ sym is in
        omega (arith, so_far.1, same)

    pub part_past : i ≤ end → end ≤ length es → end - i ≤ p → Passed start es end
    part_past rises within all =
        let none : (placing start part).place ≡ length part =
        omega (arith, part_length within, is, place_length start part) in
        let left : passed_of start (drop i es) ≡ length part + passed_of start (drop end es) =
        ap (λ (ss : List ℕ). (placing start ss).place) (cut rises)
        ∙ ap place_in (placing_behind start part (starts_in (drop end es)) none) in
        (within, omega (arith, so_far.1, left, part_length within))

  -- the rest, of which p are passed
  pub pass_rest : (i p : ℕ) → Passed start es i → p ≡ passed_of start (take (length es - i) (drop i es))
      → i + p ≡ passed_of start es
  pass_rest i p so_far is =
      let all : take (length es - i) (drop i es) ≡ drop i es =
      take_all (length es - i) (drop i es) (simp length-drop (omega arith)) in
      let same : p ≡ passed_of start (drop i es) = is ∙ ap (passed_of start) all in
      omega (arith, so_far.1, same)

-- what an earlier start has passed, a later one has
pub pass_earlier : (earlier start : ℕ) → earlier ≤ start → (es : List ℕ) → Passed start es (passed_of earlier es)
pass_earlier earlier start le [] = (omega arith, omega arith)
pass_earlier earlier start le (e ∷ es) =
    ⊎_elim
    (λ past.
    let rest = pass_earlier earlier start le es in
    let own : passed_of earlier (e ∷ es) ≡ suc (passed_of earlier es) =
    ap place_in (placing_past earlier (start_in e) (starts_in es) past) in
    let other : passed_of start (e ∷ es) ≡ suc (passed_of start es) =
    ap place_in (placing_past start (start_in e) (starts_in es) (omega arith)) in
    rw own (omega (arith, rest.0), omega (arith, other, rest.1)))
    (λ later.
    let own : passed_of earlier (e ∷ es) ≡ 0 = ap place_in (placing_here earlier (start_in e) (starts_in es) later) in
    rw own (pass_none start (e ∷ es)))
    (le_or_lt (start_in e) earlier)

-- ---- the place and how many are looked at, where those before `from` are passed, and p of the others

module _ (es : List ℕ) (from start p : ℕ) (so_far : Passed start es from)
    (is : p ≡ passed_of start (take (length es - from) (drop from es))) where
  same : from + p ≡ passed_of start es
  same = pass_rest start es from p so_far is

  pub place_within : from + p ≤ length es
  place_within = omega (arith, same, passed_length start es)

  pub placed : {looked : ℕ} → looked ≡ min (length es) (from + p + 1)
      → record { place = from + p; looked = looked } ≡ placing start (starts_in es)
  placed least = place_is same (omega (arith, same, starts_length es, place_search.looked_at start (starts_in es)))

-- ---- as the code looks: the entry of a later start is not below the least that has one

module _ (start : ℕ) where
  abbrev least : ℕ
  least = (start + 1) * slot_numbers

  abbrev is_later : ℕ → Bool
  is_later e = leb ((start + 1) * slot_numbers) e

  first_is : (es : List ℕ) → position_or_len is_later es ≡ passed_of start es
  first_is [] = refl
  first_is (e ∷ es) =
      ⊎_elim
      (λ past.
      let looked : position_or_len is_later (e ∷ es) ≡ 1 + position_or_len is_later es =
      ap (λ (b : Bool). cond (not b) (1 + position_or_len is_later es) 0) (lt-leb least e (omega arith)) in
      let passed : passed_of start (e ∷ es) ≡ suc (passed_of start es) =
      ap place_in (placing_past start (start_in e) (starts_in es) past) in
      omega (arith, looked, passed, first_is es))
      (λ later.
      ap (λ (b : Bool). cond (not b) (1 + position_or_len is_later es) 0) (le-leb least e (omega arith))
      ∙ sym (ap place_in (placing_here start (start_in e) (starts_in es) later)))
      (le_or_lt (start_in e) start)

  pub first_later : (es : List ℕ)
      → unwrap_or (position (λ e. leb ((start + 1) * slot_numbers) e) es) (length es) ≡ passed_of start es
  first_later es =
      let first : ℕ = position_or_len is_later es in
      ⊎_elim
      (λ none.
      ap (λ (b : Bool). unwrap_or (cond b (Some first) None) (length es)) (le-ltb first (length es) none)
      ∙ omega (arith, first_is es, passed_length start es))
      (λ some.
      ap (λ (b : Bool). unwrap_or (cond b (Some first) None) (length es)) (lt-ltb first (length es) some)
      ∙ first_is es)
      (le_or_lt (length es) first)

  -- in whatever words the code has the least of a later start
  pub later_from : (es : List ℕ) (found : ℕ) → found ≡ least
      → unwrap_or (position (λ e. leb found e) es) (length es) ≡ passed_of start es
  later_from es found is = rw is (first_later es)
