-- The line of the section read is the next of what is left; at the end the last line is.
use Rattle.std.proofs.Common.{rules, length, refl, sym}
use Rattle.read_walk.proofs.WalksLaws.{turn_of, walk_over}
use Rattle.plan_listing.proofs.FillLaws.{writes_two, writes_same}
use Rattle.plan_listing.proofs.ListingLaws.{lines_from, listing_starts, lines_end, lines_next}
use Rattle.plan_listing.specs.Listing.{newline, number_then, title_line, section_line, bytes_word}
use Rattle.plan_listing.proofs.write_listing.Goals as goal

pub loop-section-init : goal.loop-section-init
loop-section-init c =
    rw (c.into_iter-section-iterator.ensures.into_iter_gives, c.sections-section-items.ensures.0)
    (refl, rw c.sections-section-items.ensures.1 (λ end left. left))

pub loop-section-preserved : goal.loop-section-preserved
loop-section-preserved c =
    let (of, left) = c.loop-section.invariant in
    let file = c.args.file.now in
    let turn = turn_of of (_, c.in-Some.section) c.in-Some.ensures.steps in
    let line = section_line c.in-Some.section.now in
    let rest = lines_from file c.next.new.self.offset in
    let parts = lines_next file c.loop-section.section-iterator.offset turn.section turn.ends turn.inside in
    (turn.of, λ end more. left end (writes_same (sym parts) (writes_two line rest c.write_line.ensures more)))

pub returns : goal.returns
returns c =
    let file = c.args.file.now in
    let (of, left) = c.loop-section.invariant in
    let last = number_then (length file) newline in
    let over = lines_end file c.loop-section.section-iterator.offset (walk_over of c.in-None.ensures.steps) in
    let lines = left _ (writes_same (sym over) (writes_two bytes_word last c.text-2.ensures c.number.ensures)) in
    let written = writes_same (sym (listing_starts file)) (writes_two title_line (lines_from file 0) c.text.ensures lines) in
    let (bytes, end) = written.fills in search rules
