-- `roll` meets its contract: each test excludes a refusal in 02's order, and what is left is kept and cleared. Assumes
-- nothing.
use Rattle.std.proofs.Common.{◌≡◌, true, false, arith}
use Rattle.std.proofs.lemmas.Grind.{common_steps}
use Rattle.eit.specs.Sizes.{sizes_of}
use Rattle.eit.specs.Records.{lent_list}
use Rattle.eit.specs.Sound.{sound}
use Rattle.window.proofs.Roll.{roll_last, roll_unsound}
use Rattle.roll.proofs.RollLaws.{rolled}
use Rattle.roll.proofs.roll.Goals as goal

pub returns-then-base_day-ge-BASE_DAY_MAX : goal.returns-then-base_day-ge-BASE_DAY_MAX
returns-then-base_day-ge-BASE_DAY_MAX c =
    let a = c.args in
    roll_last (sizes_of a.caller) a.pools.now (lent_list a.list.now a.count) a.base_day
    c.if-base_day-ge-BASE_DAY_MAX.true

pub returns-then-not-is_sound : goal.returns-then-not-is_sound
returns-then-not-is_sound c =
    let a = c.args in
    let unsound : sound (sizes_of a.caller) a.pools.now (lent_list a.list.now a.count) ≡ false = cc in
    roll_unsound (sizes_of a.caller) a.pools.now (lent_list a.list.now a.count) a.base_day
    c.if-base_day-ge-BASE_DAY_MAX.false (rw unsound tt)

pub returns : goal.returns
returns c =
    let a = c.args in
    let sizes = sizes_of a.caller in
    let is : sound (sizes_of a.caller) a.pools.now (lent_list a.list.now a.count) ≡ true = cc in
    rolled sizes a.pools.now a.list.now a.count a.base_day (rw is tt) c.keep_later-kept.ensures.0
    c.if-base_day-ge-BASE_DAY_MAX.false c.keep_later-kept.ensures.1 (grind (arith, common_steps))
