use Rattle.std.proofs.Common.{◌++◌, ◌∙◌, sym, ap, subst}
use Rattle.blake3.specs.Compression.{Block}
use Rattle.blake3.specs.Blocks.{block_of}
use Rattle.air_blake3.specs.Values.{SatisfiesAll, block_row}
use Rattle.air_blake3.proofs.RowHolds.{block_row_holds}
use Rattle.air_blake3.proofs.rows.row_of_block.Goals as goal

pub returns-clause-row : goal.returns-clause-row
returns-clause-row g c =
    let b : Block = block_of c.args.chaining.now c.args.message.now c.args.rest.now in
    c.in_ok-push_row.ensures.pushed ∙ ap (λ ys. ys ++ block_row g.F.Field.ring b) c.new-values.ensures.items

pub returns-clause-satisfied : goal.returns-clause-satisfied
returns-clause-satisfied g c =
    let b : Block = block_of c.args.chaining.now c.args.message.now c.args.rest.now in
    subst (SatisfiesAll g.F.Field.ring g.F.Field.ZERO g.F.Field.CHARACTERISTIC) (sym (returns-clause-row g c))
    (block_row_holds g.F.Field.ring g.F.Field.ZERO g.F.Field.CHARACTERISTIC g.met.F.Field.zero_is g.met.F.PrimeField.domain
    c.compression_is_complete.ensures.compression b c.in_ok-push_row.ensures.words)
