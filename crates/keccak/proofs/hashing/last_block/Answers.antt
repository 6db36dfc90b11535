use Rattle.std.proofs.Common.{ℕ, length}
use Rattle.std.proofs.lemmas.List.{drop-replicate}
use Rattle.keccak.proofs.Blocks.{last_block_is}
use Rattle.keccak.proofs.hashing.last_block.Goals as goal

pub returns : goal.returns
returns c =
    let rest = c.args.rest.now in
    last_block_is c.args.first rest _ _ c.requires c.copy_from_slice.ensures.after (drop-replicate {X = ℕ} (length rest) 136 0)
