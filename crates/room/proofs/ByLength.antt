-- Whether one more event leaves its segment packable goes by its start and the length of its chain alone, and falls as
-- the chain grows: the pass that packs the segment's events meets the event behind those before its place, and a
-- smaller element leaves it ahead. Assumes nothing.
use mathlib.Core.Path.{◌≡◌, refl, sym, ap, ◌∙◌}
use mathlib.Core.Bool.{Bool, true, false, not}
use mathlib.Core.Logic.{⊎_elim}
use mathlib.Core.List.{List, [], ◌∷◌, ◌++◌, Memᴰ}
use Prim.Native.Nat.{ℕ, ◌+◌, ◌≤◌}
use native.Mathlib.Omega.{arith}
use lib.Dec.{T, T_not}
use lib.ListN.{length, length-replicate}
use Rattle.std.specs.Prelude.{Option, Some, is_some}
use Rattle.eit.specs.Sizes.{room}
use Rattle.eit.specs.declared.Sizes.{Sizes}
use Rattle.eit.specs.Events.{Event}
use Rattle.eit.proofs.Test.{le_or_lt}
use Rattle.packing.specs.declared.Filling.{Filling}
use Rattle.packing.specs.Greedy.{unpackable}
use Rattle.packing.specs.OnePass.{begun, added_to, filled}
use Rattle.packing.proofs.Greedy.{too_large_unpackable}
use Rattle.packing.proofs.OnePass.{pass_packs, filled_append, smaller_held}
use Rattle.sections.specs.Segment.{segment_index}
use Rattle.sections.specs.Section.{event_overhead, event_size}
use Rattle.sections.specs.Count.{segment_events}
use Rattle.schedule.specs.SectionsOf.{is_unpackable}
use Rattle.schedule.proofs.Packable.{test_is}
use Rattle.room.specs.OneMore.{inserted, event_of_length}
use Rattle.room.specs.ChainRoom.{leaves_packable}
use Rattle.room.proofs.OneMore.{before, behind, own_segment}

not_twice : (b : Bool) → not (not b) ≡ b
not_twice true = refl
not_twice false = refl

-- events with one more between them are packable if the pass over them holds all
pub packable_between : (bytes : ℕ) (xs ys : List Event) (e : Event)
    → not (unpackable event_size bytes 8 (xs ++ e ∷ ys))
    ≡ is_some
    (filled event_size bytes
    (added_to bytes (filled event_size bytes (Some (begun bytes 7)) xs) (event_size e))
    ys)
packable_between bytes xs ys e =
    ap not (pass_packs event_size bytes 7 (xs ++ e ∷ ys))
    ∙ not_twice (is_some (filled event_size bytes (Some (begun bytes 7)) (xs ++ e ∷ ys)))
    ∙ ap (λ (f : Option Filling). is_some f) (filled_append event_size bytes (Some (begun bytes 7)) xs (e ∷ ys))

module _ (sizes : Sizes) (es : List Event) where
  -- the pass over the segment of a start, as far as the events before its place
  abbrev filled_before : ℕ → Option Filling
  filled_before start = filled event_size (room sizes) (Some (begun (room sizes) 7)) (before start es)

  -- whether it holds an event of so many bytes there, and the events behind it
  abbrev held_with : ℕ → ℕ → Bool
  held_with start bytes =
      is_some (filled event_size (room sizes) (added_to (room sizes) (filled_before start) bytes) (behind start es))

  packable_by_pass : (e : Event)
      → not (is_unpackable sizes (inserted e es) (segment_index e.start)) ≡ held_with e.start (event_size e)
  packable_by_pass e =
      ap not (test_is sizes (inserted e es) (segment_index e.start))
      ∙ ap (λ (fs : List Event). not (unpackable event_size (room sizes) 8 fs)) (own_segment e es)
      ∙ packable_between (room sizes) (before e.start es) (behind e.start es) e

  leaves_by_pass : (start n : ℕ) → leaves_packable sizes es start n ≡ held_with start (event_overhead + n)
  unfolding leaves_packable
  leaves_by_pass start n =
      packable_by_pass (event_of_length start n)
      ∙ ap (λ (m : ℕ). held_with start (event_overhead + m)) (length-replicate n 0)

  -- so it goes by the length of the chain,
  pub packable_by_length : (e : Event)
      → not (is_unpackable sizes (inserted e es) (segment_index e.start))
      ≡ leaves_packable sizes es e.start (length e.chain)
  packable_by_length e = packable_by_pass e ∙ sym (leaves_by_pass e.start (length e.chain))

  -- a shorter one does where a longer one does,
  pub shorter_leaves : (start m n : ℕ) → m ≤ n → T (leaves_packable sizes es start n)
      → T (leaves_packable sizes es start m)
  shorter_leaves start m n less leaves =
      rw (leaves_by_pass start m)
      (smaller_held event_size (room sizes) (filled_before start) (event_overhead + m) (event_overhead + n)
      (behind start es) (omega arith) (rw (leaves_by_pass start n) at leaves))

  -- and none does that has no room in a section
  pub leaves_most : (start n : ℕ) → T (leaves_packable sizes es start n) → event_overhead + n ≤ room sizes
  unfolding leaves_packable
  leaves_most start n leaves =
      let e : Event = event_of_length start n in
      let index : ℕ = segment_index start in
      let size : event_size e ≡ event_overhead + n = ap (λ (m : ℕ). event_overhead + m) (length-replicate n 0) in
      let there : Memᴰ e (segment_events index (inserted e es)) =
      rw (own_segment e es) (mem_between e (before start es) (behind start es)) in
      ⊎_elim (λ fits. fits)
      (λ large.
      absurd (T_not (is_unpackable sizes (inserted e es) index) leaves
      (rw (test_is sizes (inserted e es) index)
      (too_large_unpackable event_size (room sizes) 8 there (omega arith)))))
      (le_or_lt (event_overhead + n) (room sizes))
    where
      mem_between : (e : Event) (xs ys : List Event) → Memᴰ e (xs ++ e ∷ ys)
      mem_between e [] ys = mathlib.Core.List.Memᴰ.head refl
      mem_between e (x ∷ xs) ys = mathlib.Core.List.Memᴰ.tail (mem_between e xs ys)
