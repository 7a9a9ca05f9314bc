-- What program plan writes for a script (01, "Samples with the cuts marked"). Laws: proofs/PlanLaws.antt.
-- Assumes nothing.
use Rattle.std.specs.Prelude.{ℕ, ◌≤◌, true, false, List, [], eqb, leb, length, replicate}
use Rattle.eit.specs.Sizes.{broadcast}
use Rattle.eit.specs.Identity.{zero_identity}
use Rattle.eit.specs.Pools.{Pools, lent_pools}
use Rattle.eit.specs.Records.{EventList, lent_list}
use Rattle.script.specs.Edit.{Edited, edit}
use Rattle.schedule.specs.Build.{Built, build, file_of}
use Rattle.plan_listing.specs.Fill.{Fills}
use Rattle.plan_listing.specs.Listing.{listing, refused_text, too_long}

-- "over 65,536 bytes it prints `too long`"; "output 65,536 bytes"
abbrev pub script_max : ℕ
script_max = 65_536

abbrev pub output_size : ℕ
output_size = 65_536

-- "edits an empty list in a buffer of 12,288 zeros"
abbrev pub buffer_size : ℕ
buffer_size = 12_288

-- "pools empty"
abbrev pub no_pools : Pools
no_pools = lent_pools [] []

-- "base day 49,273, ids and version 0" (`zero_identity`)
abbrev pub base_day : ℕ
base_day = 49_273

-- the text for a list, with this output: the listing of Build's file, or its refusal
unfoldable pub built_text : Built → List ℕ
unfolding listing refused_text
built_text built = elim (eqb built.number 0) [ true ↦ listing (file_of built) | false ↦ refused_text built.number ]

unfoldable pub list_text : List ℕ → EventList → List ℕ
unfolding build built_text
list_text output list = built_text (build broadcast no_pools list base_day zero_identity output)

-- the text for a script, with this buffer for the list and this output: that of the edited list, or Edit's refusal
unfoldable pub edited_text : List ℕ → Edited → List ℕ
unfolding list_text refused_text
edited_text output edited =
    elim (eqb edited.number 0) [ true ↦ list_text output edited.list | false ↦ refused_text edited.number ]

unfoldable pub text_within : List ℕ → List ℕ → List ℕ → List ℕ
unfolding edit edited_text
text_within buffer output script =
    elim (leb (length script) script_max) [
      | true ↦ edited_text output (edit broadcast no_pools (lent_list buffer 0) script)
      | false ↦ too_long
    ]

-- the text for a script
unfoldable pub plan_text : List ℕ → List ℕ
unfolding text_within
plan_text script = text_within (replicate buffer_size 0) (replicate output_size 0) script

-- bytes in which every text has room: four for each byte of the output, and some more
abbrev pub text_max : ℕ
text_max = 262_208

-- a text is written at the front of a buffer, as far as there is room, and has at most so many bytes
pub record Written (before text after : List ℕ) (end most : ℕ) : Type 0 where
  pub fills : Fills before 0 text after end
  pub short : length text ≤ most
