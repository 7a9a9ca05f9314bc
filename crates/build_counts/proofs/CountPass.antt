-- The pass over all segments: where it stands before a segment, what the next segment adds, and what its end says.
-- Assumes nothing.
use mathlib.Core.Path.{◌≡◌, sym, ap, ap₂, subst, ◌∙◌}
use mathlib.Core.Bool.{Bool, true, false, not}
use mathlib.Core.Logic.{⊎_elim}
use mathlib.Core.List.{List}
use Prim.Native.Nat.{ℕ, ◌+◌, ◌*◌, ◌≤◌, ◌<◌}
use native.Mathlib.Omega.{arith}
use lib.Dec.{T}
use lib.ListN.{length, get_or, set, replicate, length-set, length-replicate, get_or-replicate}
use lib.Seq.{get_or-set_same, get_or-set_other}
use Rattle.eit.specs.Sizes.{section_overhead, room}
use Rattle.eit.specs.declared.Sizes.{Sizes}
use Rattle.eit.specs.Pools.{Pools}
use Rattle.eit.specs.Events.{Event, rising}
use Rattle.eit.proofs.Test.{le_or_lt}
use Rattle.sections.specs.Count.{segment_events}
use Rattle.schedule.specs.Extent.{is_inside}
use Rattle.schedule.specs.Plan.{section_count}
use Rattle.schedule.proofs.Plan.{count_outside}
use Rattle.build_counts.specs.Between.{events_between, leading, is_next_inside}
use Rattle.build_counts.specs.Counting.{packed_of}
use Rattle.build_counts.specs.declared.count.Packed.{Packed}
use Rattle.build_counts.proofs.WalkLaws.{SegmentWalk, held_events, walk_start, walk_inside, walk_past}
use Rattle.build_counts.proofs.WalkLaws.{walk_events, walk_on}
use Rattle.build_counts.proofs.CountLaws.{bytes_from, segment_bytes, bytes_from_holds, bytes_outside, packed_small}
use Rattle.build_counts.proofs.CountLaws.{packed_count, packed_bytes}

module _ (sizes : Sizes) (pools : Pools) (numbers : List ℕ) (count : ℕ) where
  abbrev es : List Event
  es = held_events pools numbers count

  -- the segments before `index` are counted, the others are not
  pub record CountedSoFar (counts : List ℕ) (need from index : ℕ) : Type 0 where
    pub walk : SegmentWalk pools numbers count from index
    pub within : index ≤ 512
    pub long : length counts ≡ 512
    pub counted : (k : ℕ) → k < index → get_or counts k 0 ≡ section_count sizes es k
    pub others : (k : ℕ) → index ≤ k → k < 512 → get_or counts k 0 ≡ 0
    pub bytes_are : bytes_from sizes es 0 ≡ need + bytes_from sizes es index
    pub small : need ≤ index * (8 * (section_overhead + 0xFFFF))

  pub count_start : CountedSoFar (replicate 512 0) 0 0 0
  count_start =
      record {
        walk = walk_start pools numbers count;
        within = omega arith;
        long = length-replicate {A = ℕ} 512 0;
        counted = λ k few. absurd (omega arith);
        others = λ k least few. get_or-replicate 512 k 0 0 few;
        bytes_are = omega arith;
        small = omega arith;
      }

  module _ (rises : T (rising es)) {counts : List ℕ} {need from index : ℕ}
      (so_far : CountedSoFar counts need from index)
      (few : index < 512) where
    -- a segment outside the range
    pub count_past : is_next_inside index (events_between pools numbers from count) ≡ false
        → CountedSoFar counts need from (index + 1)
    count_past fails =
        let outside : T (not (is_inside es index)) =
        subst (λ (b : Bool). T (not b)) (sym (walk_inside pools numbers count rises so_far.walk ∙ fails)) tt in
        record {
          walk = walk_past pools numbers count rises so_far.walk outside;
          within = omega arith;
          long = so_far.long;
          counted =
              λ k less.
              ⊎_elim
              (λ here.
              let same : k ≡ index = omega arith in
              so_far.others k here (omega arith)
              ∙ sym (ap (section_count sizes es) same ∙ count_outside sizes es index outside))
              (λ before. so_far.counted k before)
              (le_or_lt index k);
          others = λ k least less. so_far.others k (omega arith) less;
          bytes_are =
              omega (
                arith,
                so_far.bytes_are,
                bytes_from_holds sizes es index few,
                bytes_outside sizes es rises index outside,
              );
          small = omega (arith, so_far.small);
        }

    -- a segment inside the range
    module _ (passes : is_next_inside index (events_between pools numbers from count) ≡ true) (end : ℕ)
        (is-end : end ≡ from + leading index (events_between pools numbers from count)) (space : ℕ)
        (is-space : space ≡ room sizes)
        (narrow : room sizes < 0x1_0000) (packed : Packed)
        (is-packed : packed ≡ packed_of space (events_between pools numbers from end)) where
      inside : T (is_inside es index)
      inside = subst T (sym (walk_inside pools numbers count rises so_far.walk ∙ passes)) tt

      packed_is : packed ≡ packed_of (room sizes) (segment_events index es)
      packed_is = is-packed ∙ ap₂ packed_of is-space (walk_events pools numbers count rises so_far.walk end is-end)

      count_is : packed.sections ≡ section_count sizes es index
      count_is = ap (λ (q : Packed). q.sections) packed_is ∙ packed_count sizes es rises index inside

      need_is : packed.bytes ≡ segment_bytes sizes es index
      need_is = ap (λ (q : Packed). q.bytes) packed_is ∙ packed_bytes sizes es rises index inside

      pub need_small : packed.bytes ≤ 8 * (section_overhead + 0xFFFF)
      need_small =
          omega (
            arith,
            ap (λ (q : Packed). q.bytes) packed_is,
            packed_small (room sizes) (segment_events index es) narrow,
          )

      pub count_on : CountedSoFar (set counts index packed.sections) (need + packed.bytes) end (index + 1)
      count_on =
          record {
            walk = walk_on pools numbers count rises so_far.walk end is-end;
            within = omega arith;
            long = length-set counts index packed.sections ∙ so_far.long;
            counted =
                λ k less.
                ⊎_elim
                (λ here.
                let same : k ≡ index = omega arith in
                ap (λ (i : ℕ). get_or (set counts index packed.sections) i 0) same
                ∙ get_or-set_same counts index packed.sections 0 (omega (arith, so_far.long))
                ∙ count_is
                ∙ ap (section_count sizes es) (sym same))
                (λ before. get_or-set_other counts index k packed.sections 0 (λ e. omega arith)
                ∙ so_far.counted k before)
                (le_or_lt index k);
            others =
                λ k least less.
                get_or-set_other counts index k packed.sections 0 (λ e. omega arith)
                ∙ so_far.others k (omega arith) less;
            bytes_are = omega (arith, so_far.bytes_are, bytes_from_holds sizes es index few, need_is);
            small = omega (arith, so_far.small, need_small);
          }
