-- `Writer::write_file` meets its contract: a segment with sections adds its part, and one without adds nothing. Assumes
-- nothing.
use Rattle.std.proofs.Common.{◌≡◌, ◌/◌, arith}
use mathlib.Core.Path.{sym, ap, subst, ◌∙◌}
use Rattle.eit.specs.Pools.{Pools}
use Rattle.sections.specs.Segment.{table_of}
use Rattle.codec_section.specs.declared.header.SectionHeader.{SectionHeader}
use Rattle.codec.proofs.FieldLaws.{rest_whole}
use Rattle.schedule.specs.SectionsOf.{table_last}
use Rattle.build.specs.Held.{all_held}
use Rattle.build.specs.Rows.{IsRow, row_last}
use Rattle.build.proofs.CountsLaws.{counts_length, within, count_few, row_is, row_last_holds}
use Rattle.build.proofs.FileLaws.{file_same, table_small, file_start, file_end, file_skip, last_later}
use Rattle.build.proofs.FileLaws.{part_fits, file_more}
use Rattle.build.proofs.section.Writer.write_file.Goals as goal
use Rattle.build.proofs.section.Writer.write_file.Goals.{then-sections-gt0, else-sections-gt0}
use Rattle.build.proofs.section.Writer.write_file.Goals.{then-index-eq0, else-index-eq0}

-- last_table_id
pub overflow_cast-last_table_id : goal.overflow_cast-last_table_id
overflow_cast-last_table_id c =
    let pools = c.args.self.now.pools.now in
    omega (
      arith,
      table_small pools _ _ c.requires,
      c.table_of-last_table_id.ensures ∙ ap table_of (c.last_index.ensures pools),
    )

pub loop-index-init : goal.loop-index-init
loop-index-init c = file_start c.args.self.now.pools.now _ _ c.requires _ _

pub last_section-last-requires : goal.last_section-last-requires
last_section-last-requires c =
    subst IsRow (sym (rest_whole c.args.counts.now c.loop-index.index))
    (row_is c.requires c.loop-index.index (within c.requires c.loop-index-test.true) c.if-index-eq0.true
    c.if-sections-gt0.true)

pub first_header-header-requires : goal.first_header-header-requires
first_header-header-requires c =
    let few = within c.requires c.loop-index-test.true in
    (few, c.if-sections-gt0.true, count_few c.requires c.loop-index.index few)

pub write_segment-at-requires : goal.write_segment-at-requires
write_segment-at-requires c =
    let a = c.args in
    let pools : Pools = a.self.now.pools.now in
    let turn = c.loop-index in
    let few = within c.requires c.loop-index-test.true in
    let some = c.if-sections-gt0.true in
    let made = c.first_header-header in
    let last : c.if-index-eq0.last ≡ table_last a.sizes (all_held a.self.now a.count) (turn.index / 32) =
    elim c.if-index-eq0.branch [
      | then-index-eq0 w ↦
          w.last-is
          ∙ w.last_section-last.ensures
          ∙ ap row_last (rest_whole a.counts.now turn.index)
          ∙ row_last_holds c.requires turn.index few w.if-index-eq0.true some
      | else-index-eq0 w ↦
          w.last-is ∙ last_later pools _ _ c.requires turn.invariant few some w.if-index-eq0.false
    ] in (
      part_fits pools _ _ c.requires turn.invariant few some (c.end_of-end.ensures pools) c.room_of-room.ensures last
          (c.table_of-last_table_id.ensures ∙ ap table_of (c.last_index.ensures pools)) made.ensures,
      omega (
        arith,
        count_few c.requires turn.index few,
        ap (λ (h : SectionHeader). h.section_number) made.ensures,
      ),
    )

pub loop-index-preserved : goal.loop-index-preserved
loop-index-preserved c =
    let a = c.args in
    let pools : Pools = a.self.now.pools.now in
    let turn = c.loop-index in
    let few = within c.requires c.loop-index-test.true in
    let id = c.table_of-last_table_id.ensures ∙ ap table_of (c.last_index.ensures pools) in
    elim c.if-sections-gt0.branch [
      | then-sections-gt0 w ↦
          let some = w.if-sections-gt0.true in
          let last : w.if-index-eq0.last ≡ table_last a.sizes (all_held a.self.now a.count) (turn.index / 32) =
          elim w.if-index-eq0.branch [
            | then-index-eq0 v ↦
                v.last-is
                ∙ v.last_section-last.ensures
                ∙ ap row_last (rest_whole a.counts.now turn.index)
                ∙ row_last_holds c.requires turn.index few v.if-index-eq0.true some
            | else-index-eq0 v ↦
                v.last-is ∙ last_later pools _ _ c.requires turn.invariant few some v.if-index-eq0.false
          ] in
          file_same w.out-is w.last-is w.at-is w.from-is
          (file_more pools _ _ c.requires turn.invariant few some (w.end_of-end.ensures pools) c.room_of-room.ensures last
          id w.first_header-header.ensures w.write_segment-at.ensures.0 w.write_segment-at.ensures.1)
      | else-sections-gt0 w ↦
          file_same w.out-is w.last-is w.at-is w.from-is
          (file_skip pools _ _ c.requires turn.invariant few w.if-sections-gt0.false)
    ]

pub returns : goal.returns
returns c =
    file_end c.args.self.now.pools.now _ _ c.requires c.loop-index.invariant (omega (arith, counts_length c.requires))
