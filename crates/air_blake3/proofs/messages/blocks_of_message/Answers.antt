use Rattle.std.proofs.Common.{◌≡◌, ◌+◌, ◌++◌, ◌∷◌, [], ◌∙◌, suc, sym, ap, ap₂, length, map, arith}
use Rattle.std.proofs.lemmas.List.{map-append}
use Rattle.std.proofs.lemmas.List.FromFn.{map-range_with_len_more}
use Rattle.std.specs.List.{range_with_len}
use Rattle.blake3.specs.Compression.{compress}
use Rattle.blake3.specs.Hashing.{block_at, block_count, chaining_value_after, first_words}
use Rattle.air_blake3.specs.Traces.{block_in}
use Rattle.air_blake3.proofs.LastBlock.{last_ends}
use Rattle.air_blake3.proofs.messages.blocks_of_message.Goals as goal

pub loop-index-init : goal.loop-index-init
unfolding chaining_value_after
loop-index-init c = record { chaining = c.start_words-chaining.ensures; blocks = ap (map block_in) c.new-blocks.ensures.items }

pub loop-index-preserved : goal.loop-index-preserved
unfolding chaining_value_after
loop-index-preserved c =
    let bytes = c.args.message.now in
    let k = c.loop-index.index in
    let s : suc k ≡ k + 1 = omega arith in
    let is : block_in c.block_after-block.result ≡ block_at bytes k (chaining_value_after bytes k) =
    c.block_after-block.ensures ∙ ap (block_at bytes k) c.loop-index.invariant.chaining in
    record {
      chaining = c.chaining_after-chaining.ensures ∙ ap (λ b. first_words (compress b)) is ∙ ap (chaining_value_after bytes) s;
      blocks =
          ap (map block_in) c.in_ok-push.ensures.items
          ∙ map-append block_in c.loop-index.blocks.items (c.block_after-block.result ∷ [])
          ∙ ap₂ (λ xs b. xs ++ b ∷ []) c.loop-index.invariant.blocks is
          ∙ sym (map-range_with_len_more (λ j. block_at bytes j (chaining_value_after bytes j)) 0 k k (omega arith));
    }

pub returns-clause-digest : goal.returns-clause-digest
returns-clause-digest c =
    let bytes = c.args.message.now in
    let all : c.loop-index.index ≡ block_count (length bytes) = omega arith in
    last_ends bytes c.loop-index.blocks.items
    (c.loop-index.invariant.blocks ∙ ap (λ n. map (λ j. block_at bytes j (chaining_value_after bytes j)) (range_with_len 0 n)) all)
