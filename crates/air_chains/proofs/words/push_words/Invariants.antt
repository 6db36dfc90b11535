use Rattle.std.proofs.Common.{◌≡◌, ◌++◌, drop}
use Rattle.air_chains.specs.WordValues.{word_values}
use Rattle.air_chains.proofs.words.push_words.Given as goal

-- the values so far, and those of the remaining words
abbrev pub invariant-loop-word : goal.invariant-loop-word
invariant-loop-word g l =
    l.values.items ++ word_values g.F.Field.ring (drop l.word-index l.words) ≡ l.initial.values.items ++ word_values g.F.Field.ring l.words
