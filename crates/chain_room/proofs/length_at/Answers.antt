-- `length_at` meets its contract: a start past the last segment, one that is taken, and else the longest chain between
-- the segment's events. Assumes nothing.
use Rattle.std.proofs.Common.{◌<◌, sym, ◌∙◌}
use borrow.Author.Tests.{ltb-true, ltb-false}
use Rattle.eit.specs.Limits.{window_seconds}
use Rattle.chain_room.proofs.RoomLaws.{past_answer, taken_answer, free_answer}
use Rattle.chain_room.proofs.length_at.Goals as goal

pub returns-then-not-is_start : goal.returns-then-not-is_start
returns-then-not-is_start c =
    let a = c.args in
    past_answer a.sizes a.pools.now a.list.now a.count a.start c.requires
    (ltb-false a.start window_seconds (sym c.is_start.ensures ∙ c.if-not-is_start.true))

pub returns-then-starts_at : goal.returns-then-starts_at
returns-then-starts_at c =
    let a = c.args in
    let is-end = rw c.segment_index.ensures at (c.end_of-end.ensures a.pools.now) in
    taken_answer a.sizes a.pools.now a.list.now a.count a.start c.requires (c.skip_earlier-from.ensures a.pools.now)
    is-end (c.skip_earlier-place.ensures a.pools.now) (c.starts_at.ensures a.pools.now) c.if-starts_at.true

pub returns : goal.returns
returns c =
    let a = c.args in
    let is-end = rw c.segment_index.ensures at (c.end_of-end.ensures a.pools.now) in
    let inside : a.start < window_seconds =
    ltb-true a.start window_seconds (sym c.is_start.ensures ∙ c.if-not-is_start.false) in
    c.longest.ensures
    ∙ free_answer a.sizes a.pools.now a.list.now a.count a.start c.requires (c.skip_earlier-from.ensures a.pools.now)
    is-end (c.skip_earlier-place.ensures a.pools.now) (c.starts_at.ensures a.pools.now) c.if-starts_at.false inside
    c.room_of.ensures
