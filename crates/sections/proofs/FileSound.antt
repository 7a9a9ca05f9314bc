-- The records of a file that follows the rules are a sound list with the file as day pool, and its events are the
-- sections': each part of soundness is a rule, or a law of Offsets. Assumes nothing.
use mathlib.Core.Path.{◌≡◌, sym, ap, subst, ◌∙◌}
use Prim.Native.Nat.{ℕ, ◌*◌, ◌≤◌}
use native.Mathlib.Omega.{arith}
use mathlib.Core.List.{List, [], append-nil}
use lib.Dec.{T}
use lib.ListN.{length}
use Rattle.eit.specs.declared.Sizes.{Sizes}
use Rattle.eit.specs.Fields.{Bytes}
use Rattle.eit.specs.Overwrite.{overwrite}
use Rattle.eit.specs.Records.{EventList, record_size, numbers_of_all}
use Rattle.eit.specs.Events.{events_in}
use Rattle.eit.specs.Sound.{all_valid, sound, events_of}
use Rattle.eit.specs.declared.Identity.{Identity}
use Rattle.eit.specs.declared.Record.{Record}
use Rattle.eit.proofs.Overwrite.{over_length}
use Rattle.eit.proofs.Records.{records_written, numbers_length}
use Rattle.eit.proofs.Sound.{RecordFacts, list_sound}
use Rattle.sections.specs.Every.{Every}
use Rattle.sections.specs.Section.{Section, section_events}
use Rattle.sections.specs.Encode.{file_bytes}
use Rattle.sections.specs.Decode.{sections_in}
use Rattle.sections.specs.Rules.{EventRules, Rules}
use Rattle.sections.specs.Offsets.{records_from, file_pools}
use Rattle.sections.specs.Read.{check_file, Reading, read, list_of}
use Rattle.sections.specs.Exact.{reading_of}
use Rattle.sections.proofs.Every.{every_map}
use Rattle.sections.proofs.Joined.{records_are}
use Rattle.sections.proofs.Exact.{accepted_rules, read_accepted}
use Rattle.sections.proofs.Offsets.{records_count, records_ids, records_events, records_valid}

-- the laws of Offsets, for sections with nothing around them
module _ (base : ℕ) (ss : List Section) (series : List ℕ) where
  whole_events : events_in (file_pools (file_bytes base ss) series) (records_from 0 ss) ≡ section_events ss
  whole_events = rw (append-nil (file_bytes base ss)) at (records_events base [] ss [] series)

  whole_valid : Every (λ (s : Section). Every (EventRules s.header) s.events) ss
      → T (all_valid (file_pools (file_bytes base ss) series) (records_from 0 ss))
  whole_valid = rw (append-nil (file_bytes base ss)) at (records_valid base [] ss [] series)

-- its events are the sections'
pub file_events : (base : ℕ) (ss : List Section) (series buffer : List ℕ)
    → events_of (file_pools (file_bytes base ss) series)
    (record { buffer = overwrite buffer 0 (numbers_of_all (records_from 0 ss)); count = length (records_from 0 ss) })
    ≡ section_events ss
unfolding events_of
file_events base ss series buffer =
    rw (records_written (records_from 0 ss) buffer) (whole_events base ss series)

-- the records of a file that follows the rules are a sound list with the file as day pool, wherever they are written
pub file_sound : (sizes : Sizes) (base : ℕ) (identity : Identity) (ss : List Section) (series buffer : List ℕ)
    → Rules sizes identity ss
    → length (records_from 0 ss) * record_size ≤ length buffer
    → T (sound sizes (file_pools (file_bytes base ss) series)
    (record { buffer = overwrite buffer 0 (numbers_of_all (records_from 0 ss)); count = length (records_from 0 ss) }))
file_sound sizes base identity ss series buffer rules fits =
    let rs : List Record = records_from 0 ss in
    let list : EventList = record { buffer = overwrite buffer 0 (numbers_of_all rs); count = length rs } in
    let facts : RecordFacts (file_pools (file_bytes base ss) series) rs =
    record {
      valid = whole_valid base ss series (every_map (λ s r. r.event_rules) ss rules.sections);
      rises = rw (whole_events base ss series) rules.rises;
      differ = rw (records_ids 0 ss) rules.differ;
    } in
    list_sound sizes (file_pools (file_bytes base ss) series) list
    (record {
      few = rw (records_count 0 ss) rules.few;
      held = rw (over_length buffer 0 (numbers_of_all rs) (omega (arith, numbers_length rs))) fits;
      records = rw (records_written rs buffer) facts;
    })

-- ---- what Read returns

module _ (sizes : Sizes) (base : ℕ) (file buffer series : List ℕ) where
  -- of sections that keep the rules and whose joined bytes are the file
  reading_sound : (identity : Identity) (ss : List Section) → Rules sizes identity ss → file_bytes base ss ≡ file
      → length (records_from 0 ss) * record_size ≤ length buffer
      → T (sound sizes (file_pools file series) (list_of (reading_of buffer identity (records_from 0 ss))))
  reading_sound identity ss rules joined fits =
      rw (← joined) (file_sound sizes base identity ss series buffer rules fits)

  reading_events : (identity : Identity) (ss : List Section) → file_bytes base ss ≡ file
      → events_of (file_pools file series) (list_of (reading_of buffer identity (records_from 0 ss))) ≡ section_events ss
  reading_events identity ss joined = rw (← joined) (file_events base ss series buffer)

  module _ (bytes : Bytes file) (zero : (read sizes base file buffer).answer.number ≡ 0) where
    -- the records of an accepted file are a sound list with the file as day pool
    pub accepted_sound : T (sound sizes (file_pools file series) (list_of (read sizes base file buffer)))
    accepted_sound =
        let (accepted, is, fits) = read_accepted sizes base file buffer zero in
        let (rules, joined) = accepted_rules sizes base file bytes accepted in
        subst (λ (r : Reading). T (sound sizes (file_pools file series) (list_of r)))
        (sym (is ∙ ap (reading_of buffer _) (records_are base file)))
        (reading_sound _ (sections_in base file) rules joined (rw (records_are base file) at fits))

    -- and its events are those of the sections that its bytes show
    pub accepted_events : events_of (file_pools file series) (list_of (read sizes base file buffer))
        ≡ section_events (sections_in base file)
    accepted_events =
        let (accepted, is, fits) = read_accepted sizes base file buffer zero in
        let (rules, joined) = accepted_rules sizes base file bytes accepted in
        ap (λ (r : Reading). events_of (file_pools file series) (list_of r))
        (is ∙ ap (reading_of buffer _) (records_are base file))
        ∙ reading_events (check_file sizes base file).identity (sections_in base file) joined
