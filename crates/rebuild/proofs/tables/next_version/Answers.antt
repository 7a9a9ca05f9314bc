-- `next_version` meets its contract: a table that was not there, one that is the same in every byte, and another.
-- Assumes nothing.
use Rattle.std.proofs.Common.{length, sym, ◌∙◌}
use Rattle.std.proofs.lemmas.Bool.{eqb-true, eqb-false}
use Rattle.rebuild.proofs.NextLaws.{same_bytes, next_none, next_same, next_other}
use Rattle.rebuild.proofs.tables.next_version.Goals as goal
use Rattle.rebuild.proofs.tables.next_version.Goals.{then-is_empty-via-then-is_empty}
use Rattle.rebuild.proofs.tables.next_version.Goals.{then-is_empty-via-else-is_empty+then-eq}

pub returns-then-is_empty : goal.returns-then-is_empty
returns-then-is_empty c =
    let a = c.args in
    elim c.then-is_empty.branch [
      | then-is_empty-via-then-is_empty w ↦
          next_none a.version a.table.now a.previous.now
          (eqb-true (length a.previous.now) 0 (sym c.is_empty.ensures ∙ w.if-is_empty.true))
      | then-is_empty-via-else-is_empty+then-eq w ↦
          next_same a.version a.table.now a.previous.now
          (sym (same_bytes a.previous.now a.table.now) ∙ sym w.eq.ensures ∙ w.if-eq.true)
    ]

pub returns : goal.returns
returns c =
    let a = c.args in
    next_other a.version a.table.now a.previous.now
    (eqb-false (length a.previous.now) 0 (sym c.is_empty.ensures ∙ c.if-is_empty.false))
    (sym (same_bytes a.previous.now a.table.now) ∙ sym c.eq.ensures ∙ c.if-eq.false)
