-- `chain_room` meets its contract: 12 comes first, and else the length is that of a sound list. Assumes nothing.
use Rattle.std.proofs.Common.{◌≡◌, true, false, ◌∙◌}
use Rattle.eit.specs.Sizes.{sizes_of}
use Rattle.eit.specs.Records.{lent_list}
use Rattle.eit.specs.Sound.{sound}
use Rattle.room.proofs.ChainRoom.{room_unsound, room_sound}
use Rattle.chain_room.proofs.chain_room.Goals as goal

pub returns-then-not-is_sound : goal.returns-then-not-is_sound
returns-then-not-is_sound c =
    let a = c.args in
    let unsound : sound (sizes_of a.caller) a.pools.now (lent_list a.list.now a.count) ≡ false = cc in
    room_unsound (sizes_of a.caller) a.pools.now (lent_list a.list.now a.count) a.start (rw unsound tt)

pub returns : goal.returns
returns c =
    let a = c.args in
    let is : sound (sizes_of a.caller) a.pools.now (lent_list a.list.now a.count) ≡ true = cc in
    room_sound (sizes_of a.caller) a.pools.now (lent_list a.list.now a.count) a.start (rw is tt) ∙ (cc)
