use Rattle.std.proofs.Common.{◌≡◌, ◌+◌, ◌∙◌, suc, ap, arith}
use Rattle.blake3.specs.Compression.{compress}
use Rattle.blake3.specs.Hashing.{block_at, chaining_value_after, first_words}
use Rattle.blake3.proofs.hashing.hash.Goals as goal

pub loop-block-init : goal.loop-block-init
unfolding chaining_value_after
loop-block-init c = c.start_words-chaining.ensures

pub loop-block-preserved : goal.loop-block-preserved
unfolding chaining_value_after
loop-block-preserved c =
    let k = c.loop-block.block in
    let s : suc k ≡ k + 1 = omega arith in
    c.next_chaining-chaining.ensures
    ∙ ap (λ h. first_words (compress (block_at c.args.message.now k h))) c.loop-block.invariant
    ∙ ap (chaining_value_after c.args.message.now) s
