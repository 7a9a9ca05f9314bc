-- The events between two places of a list are a part of the list's events: fewer records give the first of the events,
-- and event i is that of record i, which stands at i × 6. Assumes nothing.
use mathlib.Core.Path.{◌≡◌, refl, sym, ap, ◌∙◌}
use mathlib.Core.Logic.{⊎_elim}
use mathlib.Core.List.{List, [], ◌∷◌}
use Prim.Native.Nat.{ℕ, zero, suc, ◌+◌, ◌-◌, ◌*◌, ◌≤◌, ◌<◌}
use native.Mathlib.Omega.{arith}
use lib.ListN.{length, take, drop, length-map, length-drop}
use lib.Seq.{drop-drop}
use Rattle.eit.specs.Pools.{Pools}
use Rattle.eit.specs.Records.{record_size, front_record, records_in}
use Rattle.eit.specs.Events.{Event, event_of, events_in}
use Rattle.eit.specs.declared.Record.{Record}
use Rattle.eit.proofs.Test.{le_or_lt}
use Rattle.eit.proofs.Records.{records_length}
use Rattle.codec.proofs.FieldLaws.{drop_take}
use Rattle.list_records.proofs.RestLaws.{records_from_holds, records_end}
use Rattle.build_counts.specs.Between.{events_between}

-- ---- parts of records and of their events

-- the first records of some numbers
records_fewer : (k n : ℕ) (d : List ℕ) → k ≤ n → records_in k d ≡ take k (records_in n d)
unfolding records_in
records_fewer zero n d fewer = refl
records_fewer (suc k) zero d fewer = absurd (omega arith)
records_fewer (suc k) (suc n) d fewer =
    ap (λ (rs : List Record). front_record d ∷ rs) (records_fewer k n (drop record_size d) (omega arith))

module _ (pools : Pools) where
  events_drop : (n : ℕ) (rs : List Record) → events_in pools (drop n rs) ≡ drop n (events_in pools rs)
  events_drop zero rs = refl
  events_drop (suc n) [] = refl
  events_drop (suc n) (r ∷ rs) = events_drop n rs

  events_take : (n : ℕ) (rs : List Record) → events_in pools (take n rs) ≡ take n (events_in pools rs)
  events_take zero rs = refl
  events_take (suc n) [] = refl
  events_take (suc n) (r ∷ rs) = ap (λ (es : List Event). event_of pools r ∷ es) (events_take n rs)

-- ---- the events between two places

module _ (pools : Pools) (numbers : List ℕ) where
  -- up to the end of the list they are all from the first place on
  pub between_all : (count from : ℕ)
      → events_between pools numbers from count ≡ drop from (events_in pools (records_in count numbers))
  unfolding events_between
  between_all count from = events_drop pools from (records_in count numbers)

  -- n of them are the first n of these
  pub between_take : (count from n : ℕ) → from + n ≤ count
      → events_between pools numbers from (from + n) ≡ take n (drop from (events_in pools (records_in count numbers)))
  unfolding events_between
  between_take count from n within =
      let rs : List Record = records_in count numbers in
      let width : from + n - from ≡ n = omega arith in
      ap (λ (ss : List Record). events_in pools (drop from ss)) (records_fewer (from + n) count numbers within)
      ∙ ap (events_in pools) (drop_take from (from + n) rs ∙ ap (λ (k : ℕ). take k (drop from rs)) width)
      ∙ events_take pools n (drop from rs)
      ∙ ap (take n) (events_drop pools from rs)

  -- the first one, and the others
  pub between_more : (i end : ℕ) → i < end
      → events_between pools numbers i end
      ≡ event_of pools (front_record (drop (i * record_size) numbers)) ∷ events_between pools numbers (suc i) end
  unfolding events_between
  between_more i end within = ap (events_in pools) (records_from_holds end numbers i within)

  pub between_end : (i end : ℕ) → end ≤ i → events_between pools numbers i end ≡ []
  unfolding events_between
  between_end i end behind = ap (events_in pools) (records_end end numbers i behind)

  pub between_drop : (i end n : ℕ)
      → drop n (events_between pools numbers i end) ≡ events_between pools numbers (i + n) end
  unfolding events_between
  between_drop i end n =
      sym (events_drop pools n (drop i (records_in end numbers)))
      ∙ ap (events_in pools) (drop-drop n i (records_in end numbers))

  pub between_length : (i end : ℕ) → length (events_between pools numbers i end) ≡ end - i
  unfolding events_between
  between_length i end =
      length-map (drop i (records_in end numbers)) (event_of pools)
      ∙ length-drop i (records_in end numbers)
      ∙ ap (λ (n : ℕ). n - i) (records_length end numbers)

  -- the first of them
  pub between_front : (from end n : ℕ) → n ≤ length (events_between pools numbers from end)
      → events_between pools numbers from (from + n) ≡ take n (events_between pools numbers from end)
  between_front from end n within =
      let es : List Event = events_between pools numbers from end in
      let there : n ≤ end - from = omega (arith, between_length from end) in
      ⊎_elim
      (λ behind.
      let none : n ≡ 0 = omega arith in
      between_end from (from + n) (omega arith) ∙ sym (ap (λ (k : ℕ). take k es) none))
      (λ before. between_take end from n (omega arith) ∙ ap (take n) (sym (between_all end from)))
      (le_or_lt end from)
