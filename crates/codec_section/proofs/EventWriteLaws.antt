-- The bytes of an event, field by field one write behind the other, are one write. Assumes nothing.
use Prim.Native.Nat.{ℕ, ◌+◌, ◌*◌, ◌≤◌, ◌<◌}
use mathlib.Core.Bool.{Bool, true, false}
use mathlib.Core.List.{List, ◌++◌}
use mathlib.Core.Path.{◌≡◌, ap, ◌∙◌}
use native.Mathlib.Omega.{arith}
use lib.ListN.{length}
use Rattle.eit.specs.Fields.{big_endian}
use Rattle.eit.specs.Time.{start_bytes, duration_bytes}
use Rattle.eit.specs.Pools.{marks_free_ca, marks_off_air}
use Rattle.eit.specs.declared.Record.{Record}
use Rattle.sections.specs.Section.{event_overhead}
use Rattle.sections.specs.Encode.{running_status, bit_of, status_word, event_bytes}
use Rattle.sections.proofs.Lengths.{event_length}
use Rattle.codec.specs.Write.{write_at}
use Rattle.eit.specs.Events.{event_with}
use Rattle.codec.proofs.WriteLaws.{write_then, write_short}

-- the four bits above a chain length
pub status_bits_small : (off_air free_ca : Bool) → running_status off_air * 0x2000 + bit_of free_ca * 0x1000 ≤ 0xB000
status_bits_small true true = omega arith
status_bits_small true false = omega arith
status_bits_small false true = omega arith
status_bits_small false false = omega arith

pub event_written : (d : List ℕ) (at base : ℕ) (r : Record) (chain : List ℕ) {d₁ d₂ d₃ d₄ d₅ : List ℕ} {bits : ℕ}
    → at + (event_overhead + length chain) ≤ length d
    → d₁ ≡ write_at d at (big_endian 2 r.id)
    → d₂ ≡ write_at d₁ (at + 2) (start_bytes base r.start)
    → d₃ ≡ write_at d₂ (at + 7) (duration_bytes r.duration)
    → bits ≡ running_status (marks_off_air r.marks) * 0x2000 + bit_of (marks_free_ca r.marks) * 0x1000
    → d₄ ≡ write_at d₃ (at + 10) (big_endian 2 (bits + length chain))
    → d₅ ≡ write_at d₄ (at + event_overhead) chain
    → d₅ ≡ write_at d at (event_bytes base (event_with r chain))
unfolding event_bytes
event_written d at base r chain {d₁} {d₂} {d₃} {d₄} {d₅} {bits} fits id start duration marks status last =
    let ids : List ℕ = big_endian 2 r.id in
    let starts : List ℕ = start_bytes base r.start in
    let lasts : List ℕ = duration_bytes r.duration in
    let words : List ℕ = big_endian 2 (status_word (event_with r chain)) in
    let to_start = write_then d at ids starts (omega arith) id start in
    let to-duration = write_then d at (ids ++ starts) lasts (omega arith) to_start duration in
    let same = status ∙ ap (λ (b : ℕ). write_at d₃ (at + 10) (big_endian 2 (b + length chain))) marks in
    let to-status = write_then d at (ids ++ starts ++ lasts) words (omega arith) to-duration same in
    write_then d at (ids ++ starts ++ lasts ++ words) chain (omega arith) to-status last

pub event_short : (d : List ℕ) (at base : ℕ) (r : Record) (chain : List ℕ)
    → length d < at + (event_overhead + length chain)
    → write_at d at (event_bytes base (event_with r chain)) ≡ d
event_short d at base r chain short =
    write_short d at (event_bytes base (event_with r chain)) (omega (arith, event_length base (event_with r chain)))
