-- The bytes that Build's file needs are those of its sections' events, and the same under every identity. Assumes
-- nothing.
use mathlib.Core.Path.{◌≡◌, refl, ap}
use mathlib.Core.List.{List, [], ◌∷◌}
use Prim.Native.Nat.{ℕ, ◌+◌}
use Rattle.eit.specs.Sizes.{section_overhead}
use Rattle.eit.specs.declared.Sizes.{Sizes}
use Rattle.eit.specs.Identity.{zero_identity}
use Rattle.eit.specs.Events.{Event}
use Rattle.eit.specs.declared.Identity.{Identity}
use Rattle.sections.specs.Section.{Section, event_sizes, section_sizes, events_by_section}
use Rattle.schedule.specs.SectionsOf.{sections_of}
use Rattle.schedule.proofs.UnderIdentity.{sizes_same}
use Rattle.build_counts.specs.Counting.{packed_sizes, need_of}

-- the bytes of sections are those of their parts
pub parts_sizes : (ss : List Section) → section_sizes ss ≡ packed_sizes (events_by_section ss)
parts_sizes [] = refl
parts_sizes (s ∷ ss) = ap (λ (n : ℕ). section_overhead + event_sizes s.events + n) (parts_sizes ss)

pub need_is : (sizes : Sizes) (es : List Event) (identity : Identity)
    → section_sizes (sections_of sizes identity es) ≡ need_of sizes es
unfolding need_of
need_is sizes es identity = sizes_same sizes es zero_identity identity
