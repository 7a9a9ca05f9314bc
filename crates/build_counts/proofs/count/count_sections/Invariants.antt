-- `count_sections`: before each turn the segments before `index` are counted.
use Rattle.build_counts.proofs.CountPass.{CountedSoFar}
use Rattle.build_counts.proofs.count.count_sections.Given as goal

abbrev pub invariant-loop-index : goal.invariant-loop-index
invariant-loop-index l = CountedSoFar l.fn.sizes l.pools l.list l.count l.counts l.need l.from l.index
