-- What is known of a section that passed Read's checks, as far as its records need it. Laws: proofs/FillableLaws.antt.
-- Assumes nothing.
use Rattle.std.specs.Prelude.{◌≡◌, List, ℕ, T, length}
use Rattle.sections.specs.Section.{Header, section_size}
use Rattle.sections.specs.Decode.{split_events, section_in}
use Rattle.sections.specs.EventTests.{are_events}

-- the pieces of an event loop are events of a section
pub record AreEvents (base : ℕ) (pieces : List (List ℕ)) : Type 0 where
  pub header : Header
  pub are : T (are_events base header pieces)

-- a section's pieces are events, and it has the bytes of the section that it shows
pub record Fillable (base : ℕ) (bs : List ℕ) : Type 0 where
  pub events : AreEvents base (split_events bs)
  pub size : section_size (section_in base bs) ≡ length bs
