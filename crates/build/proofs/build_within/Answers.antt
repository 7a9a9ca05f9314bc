-- `build_within` meets its contract: each test excludes a refusal in the paper's order, and what is left is written.
-- Assumes nothing.
use Rattle.std.proofs.Common.{sym, ◌∙◌}
use mathlib.Core.Path.{subst}
use mathlib.Core.Bool.{Bool, not}
use lib.Dec.{T}
use Rattle.eit.specs.Records.{lent_list}
use Rattle.schedule.proofs.Build.{build_base, build_version}
use Rattle.build_counts.proofs.CountEnd.{holds}
use Rattle.build.proofs.AnswerLaws.{asked_of, answer_unsound, answer_unpackable, answer_short, answer_writable}
use Rattle.build.proofs.AnswerLaws.{answer_done}
use Rattle.build.proofs.build_within.Goals as goal

pub returns-then-base_day-gt-BASE_DAY_MAX : goal.returns-then-base_day-gt-BASE_DAY_MAX
returns-then-base_day-gt-BASE_DAY_MAX c =
    let a = c.args in
    build_base a.sizes a.pools.now (lent_list a.list.now a.count) a.base_day a.identity a.out.now
    c.if-base_day-gt-BASE_DAY_MAX.true

pub returns-then-not-are_versions : goal.returns-then-not-are_versions
returns-then-not-are_versions c =
    let a = c.args in
    build_version a.sizes a.pools.now (lent_list a.list.now a.count) a.base_day a.identity a.out.now
    c.if-base_day-gt-BASE_DAY_MAX.false
    (subst (λ (b : Bool). T (not b)) (sym c.if-not-are_versions.true ∙ c.are_versions.ensures) tt)

pub returns-in_default : goal.returns-in_default
returns-in_default c =
    answer_unsound _ _ _ _ _ _ c.if-base_day-gt-BASE_DAY_MAX.false
    (holds (sym c.are_versions.ensures ∙ c.if-not-are_versions.false))
    (sym c.in_default.is ∙ c.count_sections.ensures)

pub returns-in-Some-lowest : goal.returns-in-Some-lowest
returns-in-Some-lowest c =
    answer_unpackable
    (asked_of c.if-base_day-gt-BASE_DAY_MAX.false c.are_versions.ensures c.if-not-are_versions.false
    c.count_sections.ensures c.in-Some.is)
    c.in-Some-lowest.is

pub returns-then-out-need : goal.returns-then-out-need
returns-then-out-need c =
    answer_short
    (asked_of c.if-base_day-gt-BASE_DAY_MAX.false c.are_versions.ensures c.if-not-are_versions.false
    c.count_sections.ensures c.in-Some.is)
    c.in_default-lowest.is c.if-out-need.true

pub write_file-requires : goal.write_file-requires
write_file-requires c =
    answer_writable
    (asked_of c.if-base_day-gt-BASE_DAY_MAX.false c.are_versions.ensures c.if-not-are_versions.false
    c.count_sections.ensures c.in-Some.is)
    c.in_default-lowest.is c.if-out-need.false

pub returns : goal.returns
returns c =
    answer_done
    (asked_of c.if-base_day-gt-BASE_DAY_MAX.false c.are_versions.ensures c.if-not-are_versions.false
    c.count_sections.ensures c.in-Some.is)
    c.in_default-lowest.is c.if-out-need.false c.write_file.ensures
