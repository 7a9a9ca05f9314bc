-- `samples_report::show::build_list` meets its contract: a built file lies in the output. Assumes nothing.
use Rattle.eit.specs.Sizes.{sizes_of}
use Rattle.eit.specs.Records.{lent_list}
use Rattle.build_answer.proofs.Inside.{ok_inside}
use Rattle.samples_report.proofs.show.build_list.Goals as goal

pub returns : goal.returns
returns c =
    let a = c.args in
    ok_inside (sizes_of a.caller) a.pools.now (lent_list a.list.now a.count) 49_273 a.identity a.file.now
    c.build.result c.build.new.out c.build.ensures c.build.auto.out
