-- `codec_crc::crc_by` meets its contract, for any tables: a turn is `by_step` at the block there (`block_at`), the end
-- `by_end`. Assumes nothing.
use Rattle.std.proofs.Common.{◌≡◌, ℕ, ◌+◌, ◌*◌, ◌/◌, drop, length, sym, ap, ◌∙◌, arith}
use Rattle.codec_crc.specs.CrcTables.{block_size, crc_block}
use Rattle.codec_crc.proofs.BlockLaws.{by_step, by_end, block_at}
use Rattle.codec_crc.proofs.crc_by.Goals as goal

pub loop-block-preserved : goal.loop-block-preserved
loop-block-preserved c =
    let turn = c.loop-block in
    let bytes = c.args.bytes.now in
    let at = turn.block-index in
    let next : block_size * at + block_size ≡ block_size * (at + 1) = omega arith in
    turn.invariant ∙ by_step c.args.tables.now turn.r bytes (block_size * at) (omega arith)
    ∙ rw (c.crc_block-r.ensures, c.as_chunks.ensures.front, block_at _ (length bytes / block_size) bytes at (omega arith), next)

pub returns : goal.returns
returns c =
    let end = c.loop-block in
    let bytes = c.args.bytes.now in
    let tables = c.args.tables.now in
    let all : length bytes / block_size * block_size ≡ block_size * end.block-index = omega arith in
    c.crc_block.ensures
    ∙ ap (crc_block tables end.r) (c.as_chunks.ensures.back ∙ ap (λ (n : ℕ). drop n bytes) all)
    ∙ sym (end.invariant ∙ by_end tables end.r bytes (block_size * end.block-index) (omega arith))
