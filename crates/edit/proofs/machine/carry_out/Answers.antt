-- `carry_out` meets its contract: the case of the command, and what the function for it ensures. Assumes nothing.
use Rattle.eit.specs.Sizes.{sizes_of}
use Rattle.edit.proofs.IndexedLaws.{leaves_as}
use Rattle.edit.proofs.RunLaws.{none_done}
use Rattle.edit.proofs.machine.carry_out.Goals as goal

pub returns-in-Undo : goal.returns-in-Undo
returns-in-Undo c =
    leaves_as (sizes_of c.args.caller) c.args.pools.now _ _ _ c.in-Undo.ensures
    record {
      says = none_done (sizes_of c.args.caller) c.args.pools.now _;
      holds = c.requires.holds;
      fits = c.requires.fits;
    }
