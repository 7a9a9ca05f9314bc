-- What Build has found out of a list's events before it writes. Assumes nothing.
use Rattle.std.specs.Prelude.{◌≡◌, not, List, ℕ, ◌≤◌, ◌<◌, T, length}
use Rattle.eit.specs.declared.Sizes.{Sizes}
use Rattle.eit.specs.Limits.{window_seconds}
use Rattle.eit.specs.Events.{Event, rising}
use Rattle.eit.specs.declared.Identity.{Identity}
use Rattle.sections.specs.Every.{Every}
use Rattle.sections.specs.Section.{section_sizes}
use Rattle.sections.specs.Each.{each}
use Rattle.schedule.specs.SectionsOf.{is_unpackable, sections_of}
use Rattle.schedule.specs.Plan.{section_count}

-- each event follows the one before, starts are in range, no segment is unpackable, each segment's sections are
-- counted, and the output is long enough
pub record Writable (sizes : Sizes) (identity : Identity) (es : List Event) (counts output : List ℕ) : Type 0 where
  pub rises : T (rising es)
  pub starts : Every (λ (e : Event). e.start < window_seconds) es
  pub packs : (index : ℕ) → T (not (is_unpackable sizes es index))
  pub counted : counts ≡ each (section_count sizes es) 0 512
  pub fits : section_sizes (sections_of sizes identity es) ≤ length output
