-- Sections as data that break one of the rules (specs/Rules.antt). The value is in proofs/Examples.antt. Assumes
-- nothing.
use Rattle.std.specs.Prelude.{ℕ, false, List, [], ◌∷◌}
use Rattle.eit.specs.Sizes.{broadcast}
use Rattle.eit.specs.Events.{Event}
use Rattle.eit.specs.declared.Identity.{Identity}
use Rattle.sections.specs.Section.{Header, Section}
use Rattle.sections.specs.Rules.{Numbered, SectionRules, Rules}
use Rattle.sections.specs.Examples.{identity}

-- the header of a section of a file of one table: its version, S, G and L; and under version 0
abbrev pub under_version : ℕ → ℕ → ℕ → ℕ → Header
under_version version S G L =
    record {
      table_id = 0x50;
      section_number = S;
      last_section_number = L;
      segment_last_section_number = G;
      last_table_id = 0x50;
      triplet = identity.triplet;
      version = version;
    }

abbrev pub numbered : ℕ → ℕ → ℕ → Header
numbered S G L = under_version 0 S G L

-- two segments without events, with these versions
abbrev pub under_versions : ℕ → ℕ → List Section
under_versions first second =
    record { header = under_version first 0 0 8; events = [] }
    ∷ record { header = under_version second 8 8 8; events = [] }
    ∷ []

-- an event without descriptors: id, start, duration; and one of a second
abbrev pub lasting : ℕ → ℕ → ℕ → Event
lasting id start duration =
    record { id = id; start = start; duration = duration; off_air = false; free_ca = false; chain = [] }

abbrev pub plain_event : ℕ → ℕ → Event
plain_event id start = lasting id start 1

-- two events in one section, and in the first and the third of three segments
abbrev pub together : Event → Event → List Section
together e f = record { header = numbered 0 0 0; events = e ∷ f ∷ [] } ∷ []

abbrev pub segments_apart : Event → Event → List Section
segments_apart e f =
    record { header = numbered 0 0 16; events = e ∷ [] }
    ∷ record { header = numbered 8 8 16; events = [] }
    ∷ record { header = numbered 16 16 16; events = f ∷ [] }
    ∷ []

pub record Broken : Type 0 where
  -- a ninth section in a segment; a table that ends within a segment's eight numbers; an empty section that is not
  -- alone
  pub ninth_section : Numbered (numbered 0 8 8) → ⊥
  pub last_in_segment : Numbered (numbered 0 0 7) → ⊥
  pub empty_before_other : SectionRules broadcast identity 0x50 (record { header = numbered 0 1 1; events = [] }) → ⊥
  -- 02, W-208: two versions within a table, under whatever identity
  pub versions_differ : (any : Identity) → Rules broadcast any (under_versions 1 2) → ⊥
  -- an event that starts before the one before it; one that starts a second before that one ends; an id twice; one
  -- event too many
  pub earlier_start : Rules broadcast identity (together (plain_event 1 10) (plain_event 2 9)) → ⊥
  pub one_second : Rules broadcast identity (together (lasting 1 0 61) (lasting 2 60 60)) → ⊥
  pub one_second_apart : Rules broadcast identity (segments_apart (lasting 1 0 21_601) (lasting 2 21_600 60)) → ⊥
  pub id_twice : Rules broadcast identity (together (plain_event 1 9) (plain_event 1 10)) → ⊥
  pub one_too_many :
      Rules (record { section_limit = 4_096; event_limit = 1 }) identity
      (together (plain_event 1 9) (plain_event 2 10)) → ⊥
