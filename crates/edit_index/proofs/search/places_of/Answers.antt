-- `places_of` meets its contract: the search for the later start goes on where that for the earlier one ended.
-- Assumes nothing.
use Rattle.std.proofs.Common.{arith, sym, subst}
use Rattle.eit.specs.declared.Place.{Place}
use Rattle.edit_index.specs.Search.{Passed}
use Rattle.edit_index.proofs.SearchLaws.{pass_earlier}
use Rattle.edit_index.proofs.search.places_of.Goals as goal

pub place_from-requires : goal.place_from-requires
place_from-requires c =
    let held = c.args.entries.now in
    subst (λ (p : Place). Passed c.args.other held p.place) (sym c.place_of-earlier.ensures)
    (pass_earlier c.args.one c.args.other c.if-one-other.true held)

pub place_from-requires-2 : goal.place_from-requires-2
place_from-requires-2 c =
    let held = c.args.entries.now in
    subst (λ (p : Place). Passed c.args.one held p.place) (sym c.place_of-earlier-2.ensures)
    (pass_earlier c.args.other c.args.one (omega arith) held)
