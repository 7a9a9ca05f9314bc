-- The rows of specs/Cable.antt hold: each is computed, the longest by themselves. Assumes nothing.
use mathlib.Core.Path.{◌≡◌, refl, ap, ◌∙◌}
use Prim.Native.Nat.{ℕ}
use mathlib.Core.List.{List, [], ◌∷◌, ◌++◌}
use lib.ListN.{length}
use Rattle.eit.specs.Sizes.{cable}
use Rattle.eit.specs.Crc.{crc32}
use Rattle.eit.specs.Chain.{is_chain}
use Rattle.eit.specs.Pools.{choose}
use Rattle.eit.specs.Records.{records_of}
use Rattle.eit.specs.Events.{follows}
use Rattle.eit.specs.Overlap.{overlap}
use Rattle.eit.specs.Sound.{sound, events_of}
use Rattle.script.specs.Form.{form_of}
use Rattle.script.specs.Struck.{unstruck_in}
use Rattle.script.specs.Edit.{edit}
use Rattle.sections.specs.Section.{version_of}
use Rattle.sections.specs.HeaderTests.{is_framed, has_right_crc, is_header, has_right_numbering}
use Rattle.sections.specs.EventTests.{is_event, is_event_loop, is_within_limit}
use Rattle.sections.specs.Decode.{split_events, split_file}
use Rattle.sections.specs.Walk.{Progress, at_start, behind_all, passed, walk}
use Rattle.sections.specs.Read.{versions_in, at_end, check_file, read}
use Rattle.sections.specs.FileAnswers.{accepted_with, refused_with}
use Rattle.sections.proofs.Walk.{walk_passed}
use Rattle.sections.proofs.Answers.{walk_append}
use Rattle.schedule.specs.Plan.{plan}
use Rattle.schedule.specs.Build.{build}
use Rattle.schedule.specs.ExampleLists.{row}
use Rattle.samples_proved.specs.SampleLists.{chain_of}
use Rattle.samples_proved.specs.Cable.{Cable, four, fifth, with_events}

-- ---- the files of 256 and of 257 events begin with the same four sections: Read's walk over these is computed once

unfoldable behind_four : Progress
behind_four = behind_all 49_273 at_start four

four_walked : walk cable 49_273 at_start four ≡ passed behind_four
unfolding walk is_framed has_right_crc is_header has_right_numbering is_event is_event_loop is_within_limit follows is_chain crc32
    split_events behind_four
four_walked = refl

check_last : (file last : List ℕ) → split_file file ≡ four ++ (last ∷ [])
    → check_file cable 49_273 file ≡ at_end (length file) (walk cable 49_273 behind_four (last ∷ []))
unfolding check_file behind_four
check_last file last split =
    let (pass, end) = walk_passed cable 49_273 at_start behind_four four four_walked in
    ap (at_end (length file))
    (ap (walk cable 49_273 at_start) split ∙ walk_append cable 49_273 at_start four (last ∷ []) pass)

file_256 : check_file cable 49_273 (with_events 16 0xBA65_4154) ≡ accepted_with 256
unfolding walk split_file is_framed has_right_crc is_header has_right_numbering is_event is_event_loop is_within_limit follows
    is_chain crc32 split_events versions_in behind_four
file_256 = check_last (with_events 16 0xBA65_4154) (fifth 16 0xBA65_4154) refl

file_257 : check_file cable 49_273 (with_events 17 0x1908_4C13) ≡ refused_with 26 2_952
unfolding walk split_file is_framed has_right_crc is_header has_right_numbering is_event is_event_loop is_within_limit follows
    is_chain crc32 split_events behind_four
file_257 = check_last (with_events 17 0x1908_4C13) (fifth 17 0x1908_4C13) refl

pub cable_rows : Cable
unfolding edit form_of unstruck_in build plan read is_framed has_right_crc is_header has_right_numbering is_event is_event_loop
    is_within_limit sound events_of records_of follows overlap choose is_chain crc32 version_of versions_in chain_of row
cable_rows =
    record {
      chain_994 = refl;
      chain_994_plan = refl;
      chain_994_build = refl;
      chain_995_plan = refl;
      chain_995_build = refl;
      chain_995_broadcast = refl;
      events_83 = refl;
      events_84 = refl;
      put_256 = refl;
      put_257 = refl;
      list_257_edit = refl;
      list_257_build = refl;
      list_257_plan = refl;
      file_256 = file_256;
      file_257 = file_257;
      section_1024 = refl;
      section_1025 = refl;
      section_1025_crc = refl;
      section_1025_broadcast = refl;
      section_1025_crc_broadcast = refl;
    }
