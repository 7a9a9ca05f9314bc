-- `run_indexed`: the command at `place` stands at i, the live edits before it are carried out, and the index stands for
-- the list then.
use Rattle.std.proofs.Common.{length, take}
use Rattle.eit.specs.Sizes.{sizes_of}
use Rattle.edit_scan.specs.Commands.{commands_at}
use Rattle.edit_scan.proofs.StandLaws.{Stands}
use Rattle.edit_index.specs.Index.{indexed_list}
use Rattle.edit.proofs.IndexRunLaws.{Running}
use Rattle.edit.proofs.run.run_indexed.Given as goal

abbrev pub invariant-loop-place : goal.invariant-loop-place
invariant-loop-place l =
    Stands l.script l.at l.k l.place l.i
    × Running (sizes_of l.caller) l.pools (indexed_list l.initial.list l.initial.index) l.live_places
    (take l.k (commands_at l.at l.script)) (length l.initial.list) l.list l.index l.place
