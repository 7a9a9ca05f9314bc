-- 01's term: walk. Read goes over the sections of a file, one after the other (01, "When a call says no": per section
-- 20, 21, 22, 23, 24, 26). Laws: proofs/Walk.antt, proofs/Answers.antt. Assumes nothing.
use Rattle.std.specs.Prelude.{ℕ, ◌+◌, Bool, true, false, List, [], ◌∷◌, ◌++◌, map, reverse, length}
use Rattle.eit.specs.declared.Sizes.{Sizes}
use Rattle.eit.specs.Events.{Event}
use Rattle.sections.specs.Section.{Header}
use Rattle.sections.specs.Decode.{event_in, header_in, split_events}
use Rattle.sections.specs.HeaderTests.{latest, is_framed, has_right_crc, is_header, has_right_numbering}
use Rattle.sections.specs.EventTests.{is_event_loop, is_within_limit}

-- what is known before a section: its offset, and the headers and the events so far, the latest first
pub record Progress : Type 0 where
  pub offset : ℕ
  pub before : List Header
  pub seen : List Event

-- before the first section
abbrev pub at_start : Progress
at_start = record { offset = 0; before = []; seen = [] }

-- behind a section
abbrev pub behind : ℕ → Progress → List ℕ → Progress
behind base p bs =
    record {
      offset = p.offset + length bs;
      before = header_in bs ∷ p.before;
      seen = reverse (map (event_in base) (split_events bs)) ++ p.seen;
    }

-- behind some sections
abbrev pub behind_all : ℕ → Progress → List (List ℕ) → Progress
behind_all base p [] = p
behind_all base p (bs ∷ rest) = behind_all base (behind base p bs) rest

-- the sections pass, or one is refused with a number and its offset
pub data Verdict : Type 0 where
  passed : Progress → Verdict
  refused : ℕ → ℕ → Verdict

-- a test that must hold: if it fails, the section is refused with the number
abbrev pub require : Bool → ℕ → ℕ → Verdict → Verdict
require true number offset next = next
require false number offset next = refused number offset

-- per section 20, 21, 22, 23, 24, 26
unfoldable pub step : Sizes → ℕ → Progress → List ℕ → Verdict
step sizes base p bs =
    require (is_framed sizes bs) 20 p.offset
    (require (has_right_crc bs) 21 p.offset
    (require (is_header p.before bs) 22 p.offset
    (require (has_right_numbering (latest p.before) (header_in bs)) 23 p.offset
    (require (is_event_loop base p.seen bs) 24 p.offset
    (require (is_within_limit sizes p.seen bs) 26 p.offset (passed (behind base p bs)))))))

-- section after section, until one is refused
unfoldable pub walk : Sizes → ℕ → Progress → List (List ℕ) → Verdict
unfolding step
walk sizes base p [] = passed p
walk sizes base p (bs ∷ rest) =
    elim (step sizes base p bs) [
      | passed next ↦ walk sizes base next rest
      | refused number offset ↦ refused number
          offset
    ]
