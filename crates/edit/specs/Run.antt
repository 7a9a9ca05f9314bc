-- What the machine's functions carry out, in the words of `run` of script: one command, and the live edits of a part of
-- a script. Laws: proofs/RunLaws.antt, HalfLaws.antt. Assumes nothing.
use Rattle.std.specs.Prelude.{ℕ, List, take}
use Rattle.eit.specs.declared.Sizes.{Sizes}
use Rattle.eit.specs.Pools.{Pools}
use Rattle.eit.specs.Records.{EventList}
use Rattle.script.specs.Form.{Command}
use Rattle.script.specs.Struck.{live}
use Rattle.script.specs.Edit.{Edited, run}
use Rattle.edit_scan.specs.Commands.{commands_at}
use Rattle.edit_scan.specs.Places.{edits_of}

-- the list after one command
abbrev pub run_one : Sizes → Pools → EventList → Command → Edited
run_one sizes pools list c = run sizes pools list (edits_of c)

-- and after the live edits among k commands from the offset `at` on, with so many UNDOs pending behind these
abbrev pub run_part : Sizes → Pools → EventList → ℕ → ℕ → ℕ → List ℕ → Edited
run_part sizes pools list undos k at script = run sizes pools list (live undos (take k (commands_at at script)))
