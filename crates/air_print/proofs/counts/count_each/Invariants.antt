use Rattle.std.proofs.Common.{ℕ, ◌+◌, ◌==◌, take}
use Rattle.std.specs.List.{count_by}
use Rattle.air_print.specs.Counts.{AreCounted}
use Rattle.air_print.proofs.counts.count_each.Given as goal

-- the uses so far
abbrev pub invariant-loop-x : goal.invariant-loop-x
invariant-loop-x g l =
    (f : ℕ → ℕ) → AreCounted f l.initial.counts → AreCounted (λ i. f i + count_by (λ x. x == i) (take l.x-index l.used)) l.counts
