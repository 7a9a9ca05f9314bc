-- How long the bytes of an event, of a section and of a file are: their sizes, which need no bytes. Assumes nothing.
use mathlib.Core.Path.{◌≡◌, refl, ap₂, ◌∙◌}
use Prim.Native.Nat.{ℕ, ◌+◌}
use native.Mathlib.Omega.{arith}
use mathlib.Core.List.{List, [], ◌∷◌, ◌++◌}
use lib.ListN.{length, length-append}
use Rattle.eit.specs.Crc.{crc32}
use Rattle.eit.specs.Fields.{big_endian}
use Rattle.eit.specs.Events.{Event}
use Rattle.sections.specs.Section.{Header, Section, event_size, header_size, event_sizes, section_size, section_sizes}
use Rattle.sections.specs.Encode.{event_bytes, header_bytes, event_loop_bytes, covered_bytes, section_bytes, file_bytes}

pub event_length : (base : ℕ) (e : Event) → length (event_bytes base e) ≡ event_size e
unfolding event_bytes
event_length base e = omega arith

pub loop_length : (base : ℕ) (es : List Event) → length (event_loop_bytes base es) ≡ event_sizes es
unfolding event_loop_bytes
loop_length base [] = refl
loop_length base (e ∷ es) =
    length-append (event_bytes base e) (event_loop_bytes base es)
    ∙ ap₂ (λ (m n : ℕ). m + n) (event_length base e) (loop_length base es)

pub header_length : (size : ℕ) (h : Header) → length (header_bytes size h) ≡ header_size
unfolding header_bytes
header_length size h = refl

pub covered_length : (base : ℕ) (s : Section) → length (covered_bytes base s) ≡ header_size + event_sizes s.events
unfolding covered_bytes
covered_length base s =
    length-append (header_bytes (section_size s) s.header) (event_loop_bytes base s.events)
    ∙ ap₂ (λ (m n : ℕ). m + n) (header_length (section_size s) s.header) (loop_length base s.events)

pub section_length : (base : ℕ) (s : Section) → length (section_bytes base s) ≡ section_size s
unfolding section_bytes
section_length base s =
    length-append (covered_bytes base s) (big_endian 4 (crc32 (covered_bytes base s)))
    ∙ omega (arith, covered_length base s)

pub file_length : (base : ℕ) (ss : List Section) → length (file_bytes base ss) ≡ section_sizes ss
unfolding file_bytes
file_length base [] = refl
file_length base (s ∷ ss) =
    length-append (section_bytes base s) (file_bytes base ss)
    ∙ ap₂ (λ (m n : ℕ). m + n) (section_length base s) (file_length base ss)

-- and the sizes of sections behind sections
pub sizes_append : (ss ts : List Section) → section_sizes (ss ++ ts) ≡ section_sizes ss + section_sizes ts
sizes_append [] ts = omega arith
sizes_append (s ∷ ss) ts = omega (arith, sizes_append ss ts)
