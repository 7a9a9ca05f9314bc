-- `next_versions` meets its contract: a turn passes the table's sections in both files, and sets its version. Assumes
-- nothing.
use Rattle.std.proofs.Common.{◌≡◌, ◌+◌, ℕ, get_or, arith, rules, ◌∙◌}
use mathlib.Core.Path.{ap₂, subst}
use lib.ListN.{length-set}
use lib.Seq.{get_or-set_other}
use Rattle.eit.specs.Identity.{tables}
use Rattle.sections.specs.Segment.{table_first}
use Rattle.rebuild.specs.Tables.{next_by}
use Rattle.rebuild.proofs.NextLaws.{Reached, reached_first, reached_inside, reached_part, reached_next}
use Rattle.rebuild.proofs.NextLaws.{VersionsTo, versions_more, versions_all}
use Rattle.rebuild.proofs.tables.next_versions.Goals as goal

pub loop-table-init : goal.loop-table-init
loop-table-init c =
    record {
      few = omega arith;
      old_inside = omega arith;
      new_inside = omega arith;
      long = search rules;
      to_come = λ k behind i. get_or c.args.versions k 0;
      in_order = λ old new.
          record {
            old = reached_first c.args.previous.now old;
            new = reached_first c.args.file.now new;
            so_far = λ k low. absurd (omega arith);
          };
    }

pub slice_bounds-next_version-end : goal.slice_bounds-next_version-end
slice_bounds-next_version-end c =
    let turn = c.loop-table in
    (reached_inside c.args.previous.now (table_first + turn.table) turn.previous_at turn.invariant.old_inside
    c.table_end-previous_end.ensures).1

pub slice_bounds-next_version-end-in-loop-table : goal.slice_bounds-next_version-end-in-loop-table
slice_bounds-next_version-end-in-loop-table c =
    let turn = c.loop-table in
    (reached_inside c.args.file.now (table_first + turn.table) turn.at turn.invariant.new_inside
    c.table_end-end.ensures).1

pub loop-table-preserved : goal.loop-table-preserved
loop-table-preserved c =
    let a = c.args in
    let turn = c.loop-table in
    let old = c.table_end-previous_end in
    let new = c.table_end-end in
    record {
      few = omega arith;
      old_inside =
          (reached_inside a.previous.now (table_first + turn.table) turn.previous_at turn.invariant.old_inside
          old.ensures).1;
      new_inside =
          (reached_inside a.file.now (table_first + turn.table) turn.at turn.invariant.new_inside new.ensures).1;
      long = length-set turn.version-items turn.table c.next_version.result ∙ turn.invariant.long;
      to_come = λ k behind.
          get_or-set_other turn.version-items turn.table k c.next_version.result 0 (λ here. omega arith)
          ∙ turn.invariant.to_come k (omega arith);
      in_order = λ rising also.
          let order = turn.invariant.in_order rising also in
          let next : table_first + turn.table + 1 ≡ table_first + (turn.table + 1) = omega arith in
          record {
            old =
                subst (λ (t : ℕ). Reached a.previous.now t old.result) next
                (reached_next a.previous.now (table_first + turn.table) turn.previous_at order.old old.ensures);
            new =
                subst (λ (t : ℕ). Reached a.file.now t new.result) next
                (reached_next a.file.now (table_first + turn.table) turn.at order.new new.ensures);
            so_far =
                versions_more a.previous.now a.file.now a.versions turn.table turn.version-items c.next_version.result
                turn.invariant.long c.loop-table-test.true (turn.invariant.to_come turn.table (omega arith))
                order.so_far
                (c.next_version.ensures
                ∙ ap₂ (next_by (get_or turn.version-items turn.table 0))
                (reached_part a.previous.now (table_first + turn.table) turn.previous_at order.old old.ensures)
                (reached_part a.file.now (table_first + turn.table) turn.at order.new new.ensures));
          };
    }

pub returns : goal.returns
returns c rising also =
    let a = c.args in
    let l = c.loop-table in
    let end : l.table ≡ tables = omega (arith, c.loop-table-test.false, l.invariant.few) in
    versions_all a.previous.now a.file.now a.versions l.version-items l.invariant.long
    (subst (λ (t : ℕ). VersionsTo a.previous.now a.file.now a.versions t l.version-items) end
    (l.invariant.in_order rising also).so_far)
