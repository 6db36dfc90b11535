use Rattle.std.proofs.Common.{zero, suc, [], ◌∷◌, All, arith}
use Rattle.air_symbolic.specs.Pools.{PoolHas}
use Rattle.air_symbolic.specs.BaseLeaves.{base_reads}
use Rattle.test_builders.proofs.words.two_made.Goals as goal

-- two facts make `All` of a list of two
both_hold : {X : Type 0} (P : X → Type 0) (x y : X) → P x → P y → All P (x ∷ y ∷ [])
both_hold P x y p q zero d lt = p
both_hold P x y p q (suc zero) d lt = q
both_hold P x y p q (suc (suc k)) d lt = absurd (omega (arith, lt))

pub returns-clause-of_ring : goal.returns-clause-of_ring
returns-clause-of_ring g c =
    both_hold (λ i. PoolHas base_reads c.made_of-2.new.builder.pool.base i) c.in_ok-low.low c.in_ok-high.high
    (c.in_ok-high.ensures.stays c.in_ok-low.low c.in_ok-low.ensures.of_ring) c.in_ok-high.ensures.of_ring
