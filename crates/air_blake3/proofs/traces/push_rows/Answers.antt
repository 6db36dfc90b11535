use Rattle.std.proofs.Common.{◌++◌, ◌∙◌, ap, subst, below_more, arith}
use Rattle.blake3.specs.Sizes.{AreBlockWords}
use Rattle.air_blake3.specs.Traces.{block_for, block_in}
use Rattle.air_blake3.specs.Values.{block_row}
use Rattle.air_blake3.proofs.Pushes.{first_more, first_none}
use Rattle.air_blake3.proofs.traces.push_rows.Goals as goal

pub loop-row-init : goal.loop-row-init
loop-row-init g c = record {
  pushed = first_none (λ i. block_row g.F.Field.ring (block_in (block_for c.args.blocks.now i))) c.args.values.now.items;
  words = λ i l. absurd (omega arith);
}

pub loop-row-preserved : goal.loop-row-preserved
loop-row-preserved g c =
    let R = g.F.Field.ring in
    let blocks = c.args.blocks.now in
    record {
      pushed = c.in_ok-push_row.ensures.pushed
          ∙ ap (λ b. c.loop-row.values.items ++ block_row R (block_in b)) c.block_for-block.ensures
          ∙ first_more (λ i. block_row R (block_in (block_for blocks i))) c.args.values.now.items c.loop-row.values.items c.loop-row.row c.loop-row.invariant.pushed;
      words = below_more (λ i. AreBlockWords (block_in (block_for blocks i))) c.loop-row.row c.loop-row.invariant.words
          (subst (λ b. AreBlockWords (block_in b)) c.block_for-block.ensures c.in_ok-push_row.ensures.words);
    }
