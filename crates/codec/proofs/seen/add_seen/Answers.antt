-- `codec::seen::add_seen` meets its contract: a bit that is 0 is added to its word, where it has room
-- (`with_seen_room`), and else nothing changes. Assumes nothing.
use Rattle.std.proofs.Common.{◌≡◌}
use Rattle.std.proofs.Common.{arith}
use mathlib.Core.Path.{sym}
use Rattle.codec.proofs.SeenLaws.{seen_bit, bit_shifted, with_seen_room, with_seen_old, with_seen_new}
use Rattle.codec.proofs.SeenLaws.{with_seen_outside}
use Rattle.codec.proofs.seen.add_seen.Goals as goal

pub overflow_add-words : goal.overflow_add-words
overflow_add-words c =
    let words = c.args.words.now in
    let n = c.args.number in
    let clear : seen_bit words n ≡ 0 = rw (bit_shifted n) at c.if-words-k-eq0.true in
    rw (bit_shifted n) (record { fits = with_seen_room words n clear (omega arith) })

pub returns-then-words-k-eq0 : goal.returns-then-words-k-eq0
returns-then-words-k-eq0 c =
    let words = c.args.words.now in
    let n = c.args.number in
    let clear : seen_bit words n ≡ 0 = rw (bit_shifted n) at c.if-words-k-eq0.true in
    rw (bit_shifted n) (sym (with_seen_new words n clear))

pub returns-else-words-k-eq0 : goal.returns-else-words-k-eq0
returns-else-words-k-eq0 c =
    sym (with_seen_old c.args.words.now c.args.number (rw (bit_shifted c.args.number) at c.if-words-k-eq0.false))

pub returns-else-k-words : goal.returns-else-k-words
returns-else-k-words c = sym (with_seen_outside c.args.words.now c.args.number c.if-k-words.false)
