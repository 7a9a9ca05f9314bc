-- A section written part by part, header, events and CRC_32, is one write of its bytes: what is left to write shrinks
-- with each write, by the laws of `overwrite`. Assumes nothing.
use Prim.Native.Nat.{ℕ, suc, ◌+◌, ◌-◌, ◌*◌, ◌≤◌, ◌<◌}
use mathlib.Core.List.{List, ◌∷◌, ◌++◌}
use mathlib.Core.Path.{◌≡◌, sym, ap, ap₂, ◌∙◌}
use native.Mathlib.Omega.{arith}
use lib.ListN.{length, take, drop}
use Rattle.eit.specs.Fields.{big_endian}
use Rattle.eit.specs.Overwrite.{overwrite}
use Rattle.eit.specs.Crc.{crc32}
use Rattle.eit.specs.Pools.{Pools, choose}
use Rattle.eit.specs.Records.{record_size, front_record}
use Rattle.eit.specs.Events.{Event, event_with, event_of}
use Rattle.eit.specs.declared.Record.{Record}
use Rattle.eit.proofs.Overwrite.{over_length, over_within, over_then}
use Rattle.sections.specs.Section.{Section, header_size, event_overhead, event_sizes, section_size}
use Rattle.sections.specs.Encode.{event_bytes, header_bytes, event_loop_bytes, covered_bytes, section_bytes}
use Rattle.sections.proofs.RowBytes.{loop_none, loop_more}
use Rattle.sections.proofs.SectionBack.{section_is, covered_is}
use Rattle.sections.proofs.Lengths.{event_length, loop_length, header_length, covered_length}
use Rattle.codec.specs.Write.{write_at}
use Rattle.codec.proofs.WriteLaws.{write_fits}
use Rattle.codec.proofs.LeftLaws.{Left, left_all, left_fits, left_more, left_end}
use Rattle.build_counts.specs.Between.{events_between}
use Rattle.build_counts.proofs.BetweenLaws.{between_more, between_end}

-- ---- the events

-- the events between two places are to be written from `at` on, and those from place i on are left
pub record EventLoopSoFar (base : ℕ) (pools : Pools) (numbers : List ℕ) (from end : ℕ) (d : List ℕ) (at : ℕ)
    (out : List ℕ) (offset i : ℕ)
    : Type 0 where
  pub left : Left d at (event_loop_bytes base (events_between pools numbers from end)) out offset
      (event_loop_bytes base (events_between pools numbers i end))

pub events_start : {base : ℕ} {pools : Pools} {numbers : List ℕ} {from end : ℕ} {d : List ℕ} {at : ℕ}
    → at + event_sizes (events_between pools numbers from end) ≤ length d
    → EventLoopSoFar base pools numbers from end d at d at from
events_start {base} {pools} {numbers} {from} {end} {d} {at} fits =
    let all : List Event = events_between pools numbers from end in
    record { left = left_all d at (event_loop_bytes base all) (omega (arith, loop_length base all)) }

module _ {base : ℕ} {pools : Pools} {numbers : List ℕ} {from end : ℕ} {d : List ℕ} {at : ℕ} {out : List ℕ}
    {offset i : ℕ} (so_far : EventLoopSoFar base pools numbers from end d at out offset i)
  where
    abbrev all : List ℕ
    all = event_loop_bytes base (events_between pools numbers from end)

    pub events_written : end ≤ i → (out ≡ overwrite d at all) × (offset ≡ at + length all)
    events_written behind =
        left_end so_far.left (ap (event_loop_bytes base) (between_end pools numbers i end behind) ∙ loop_none base)

    -- the next one, with its record and its chain as the code has them
    module _ {r : Record} {chain : List ℕ} (within : i < end) (found : r ≡ front_record (drop (i * record_size) numbers))
        (chosen : chain ≡ choose pools r.marks r.offset r.chain_length)
      where
        abbrev next : List ℕ
        next = event_bytes base (event_with r chain)

        abbrev behind : List ℕ
        behind = event_loop_bytes base (events_between pools numbers (i + 1) end)

        parts : event_loop_bytes base (events_between pools numbers i end) ≡ next ++ behind
        parts =
            let same : event_of pools (front_record (drop (i * record_size) numbers)) ≡ event_with r chain =
            ap (event_of pools) (sym found) ∙ ap (event_with r) (sym chosen) in
            let after : suc i ≡ i + 1 = omega arith in
            ap (event_loop_bytes base)
            (between_more pools numbers i end within
            ∙ ap₂ (λ (e : Event) (k : ℕ). e ∷ events_between pools numbers k end) same after)
            ∙ loop_more base (event_with r chain) (events_between pools numbers (i + 1) end)

        pub next_fits : offset + (event_overhead + length chain) ≤ length out
        next_fits = omega (arith, left_fits so_far.left next behind parts, event_length base (event_with r chain))

        pub next_written : {out' : List ℕ} → out' ≡ write_at out offset next
            → EventLoopSoFar base pools numbers from end d at out' (offset + (event_overhead + length chain)) (i + 1)
        next_written written =
            record {
              left =
                  left_more so_far.left next behind parts
                  (written ∙ write_fits out offset next (left_fits so_far.left next behind parts))
                  (omega (arith, event_length base (event_with r chain)));
            }

-- ---- the section

module _ (base : ℕ) (s : Section) (d : List ℕ) (at : ℕ) {size : ℕ} (is-size : size ≡ section_size s)
    (fits : at + size ≤ length d)
  where
    -- header and events
    covered_written : {d₁ d₂ : List ℕ}
        → d₁ ≡ write_at d at (header_bytes size s.header)
        → d₂ ≡ overwrite d₁ (at + header_size) (event_loop_bytes base s.events)
        → d₂ ≡ overwrite d at (covered_bytes base s)
    covered_written {d₁} {d₂} headed filled =
        let head : List ℕ = header_bytes size s.header in
        let loop : List ℕ = event_loop_bytes base s.events in
        let width : length head ≡ header_size = header_length size s.header in
        let seam : at + header_size ≡ at + length head = ap (λ (n : ℕ). at + n) (sym width) in
        let first : d₁ ≡ overwrite d at head = headed ∙ write_fits d at head (omega arith) in
        over_then d at head loop first (filled ∙ ap (λ (k : ℕ). overwrite d₁ k loop) seam) (omega arith)
        ∙ ap (overwrite d at) (rw is-size (sym (covered_is base s)))

    -- and CRC_32 over them
    pub section_written : {d₁ d₂ d₃ : List ℕ} {end register : ℕ}
        → d₁ ≡ write_at d at (header_bytes size s.header)
        → d₂ ≡ overwrite d₁ (at + header_size) (event_loop_bytes base s.events)
        → end ≡ at + header_size + event_sizes s.events
        → register ≡ crc32 (take (end - at) (drop at d₂))
        → d₃ ≡ write_at d₂ end (big_endian 4 register)
        → d₃ ≡ overwrite d at (section_bytes base s)
    section_written {d₁} {d₂} {d₃} {end} {register} headed filled ends summed closed =
        let covered : List ℕ = covered_bytes base s in
        let width : length covered ≡ header_size + event_sizes s.events = covered_length base s in
        let written : d₂ ≡ overwrite d at covered = covered_written headed filled in
        let same : length d₂ ≡ length d = ap length written ∙ over_length d at covered (omega arith) in
        let run : end - at ≡ length covered = omega arith in
        let sum : register ≡ crc32 covered =
        summed
        ∙ ap₂ (λ (n : ℕ) (l : List ℕ). crc32 (take n (drop at l))) run written
        ∙ ap crc32 (over_within d at covered (omega arith)) in
        let seam : end ≡ at + length covered = omega arith in
        let last : d₃ ≡ overwrite d₂ (at + length covered) (big_endian 4 (crc32 covered)) =
        closed
        ∙ write_fits d₂ end (big_endian 4 register) (omega arith)
        ∙ ap₂ (λ (k n : ℕ). overwrite d₂ k (big_endian 4 n)) seam sum in
        over_then d at covered (big_endian 4 (crc32 covered)) written last (omega arith)
        ∙ ap (overwrite d at) (sym (section_is base s))
