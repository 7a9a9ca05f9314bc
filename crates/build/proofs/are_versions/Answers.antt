-- `are_versions` meets its contract: the test of all is that of the definition, version by version. Assumes nothing.
use Rattle.std.proofs.Common.{leb, ◌∙◌, rules, tests}
use Rattle.std.proofs.lemmas.Iterator.{YieldsList-from_slice}
use Rattle.std.proofs.lemmas.Iterator.Search.{all_from_yields_List}
use Rattle.build.proofs.VersionsLaws.{versions_all}
use Rattle.build.proofs.are_versions.Goals as goal

pub returns : goal.returns
returns c =
    all_from_yields_List (λ version. leb version 31) _ _ _ c.all.ensures.ran
    (YieldsList-from_slice c.args.versions.now cc)
    (λ x b q k. search (rules, tests))
    ∙ versions_all c.args.versions.now
