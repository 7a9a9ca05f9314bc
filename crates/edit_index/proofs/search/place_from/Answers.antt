-- `place_from` meets its contract: the place is how many of the entries are passed, and one more is looked at where
-- there is one. Assumes nothing.
use Rattle.std.proofs.Common.{arith}
use Rattle.edit_index.proofs.SearchLaws.{place_within, placed}
use Rattle.edit_index.proofs.search.place_from.Goals as goal

pub overflow_add-place : goal.overflow_add-place
overflow_add-place c =
    omega (
      arith,
      place_within c.args.entries.now c.args.from c.args.start c.passed_by_strides.result c.requires
          c.passed_by_strides.ensures,
    )

pub overflow_add-place-2 : goal.overflow_add-place-2
overflow_add-place-2 c =
    omega (
      arith,
      place_within c.args.entries.now c.args.from c.args.start c.passed_by_strides.result c.requires
          c.passed_by_strides.ensures,
    )

pub returns : goal.returns
returns c =
    placed c.args.entries.now c.args.from c.args.start c.passed_by_strides.result c.requires
    c.passed_by_strides.ensures (omega (arith, c.min.ensures))
