use Rattle.std.proofs.Common.{[], ◌∷◌, ◌∙◌, subst, arith}
use Rattle.std.proofs.lemmas.List.{get_or_default}
use Rattle.air_symbolic.specs.BaseLeaves.{base_leaves, base_reads}
use Rattle.air_symbolic.specs.Nodes.{operands, IsNode}
use Rattle.air_symbolic.specs.Pools.{term_at}
use Rattle.air_builder.specs.Builders.{Means}
use Rattle.air_author.specs.Expressions.{MakesTerm}
use Rattle.air_audit.specs.Plans.{number_at, IsPlaceOf, StepMakes}
use Rattle.air_audit.proofs.Making.{leaf_made, place_made, at_lasts, both_last, current_term, next_term, sum_term, difference_term, negative_term, product_term, gate_term, places_before}
use Rattle.air_audit.proofs.flat.nodes.make_step.Goals as goal

pub make_number-requires-clause-leaf : goal.make_number-requires-clause-leaf
make_number-requires-clause-leaf g c =
    let ns = c.args.pool.now.nodes in
    let numbers = c.args.numbers.now in
    let k = c.args.place in
    λ n is. leaf_made base_leaves ns numbers k n (subst (λ s. StepMakes base_leaves (IsPlaceOf numbers k) s n) c.in-Leaf.is
    (c.requires.makes n (subst (λ i. IsNode base_leaves ns i n) (c.index-numbers-place.is ∙ get_or_default numbers k _ 0 c.requires.within) is)))

pub make-requires-in-Add-clause-usable : goal.make-requires-in-Add-clause-usable
make-requires-in-Add-clause-usable g c =
    let ns = c.args.pool.now.nodes in
    let numbers = c.args.numbers.now in
    let k = c.args.place in
    let term = term_at base_reads c.args.pool.now in
    let f = place_made base_leaves ns numbers k c.nodes_fit.ensures.nodes c.requires.here c.args.step c.requires.makes in
    let m = subst (λ s. StepMakes base_leaves (IsPlaceOf numbers k) s f.0) c.in-Add.is f.2 in
    let b = places_before numbers k (c.in-Add.x ∷ c.in-Add.y ∷ []) (operands f.0) m.1 in
    both_last g.met.AB.Ring.Algebra.laws g.met.AB.AirBuilder.laws c.args.table.now c.in-Add.x c.in-Add.y (term (number_at numbers c.in-Add.x)) (term (number_at numbers c.in-Add.y)) c.args.builder.now (c.requires.table c.in-Add.x (b 0 0 (omega arith))) (c.requires.table c.in-Add.y (b 1 0 (omega arith)))

pub make-requires-in-Sub-clause-usable : goal.make-requires-in-Sub-clause-usable
make-requires-in-Sub-clause-usable g c =
    let ns = c.args.pool.now.nodes in
    let numbers = c.args.numbers.now in
    let k = c.args.place in
    let term = term_at base_reads c.args.pool.now in
    let f = place_made base_leaves ns numbers k c.nodes_fit.ensures.nodes c.requires.here c.args.step c.requires.makes in
    let m = subst (λ s. StepMakes base_leaves (IsPlaceOf numbers k) s f.0) c.in-Sub.is f.2 in
    let b = places_before numbers k (c.in-Sub.x ∷ c.in-Sub.y ∷ []) (operands f.0) m.1 in
    both_last g.met.AB.Ring.Algebra.laws g.met.AB.AirBuilder.laws c.args.table.now c.in-Sub.x c.in-Sub.y (term (number_at numbers c.in-Sub.x)) (term (number_at numbers c.in-Sub.y)) c.args.builder.now (c.requires.table c.in-Sub.x (b 0 0 (omega arith))) (c.requires.table c.in-Sub.y (b 1 0 (omega arith)))

pub make-requires-in-Neg-clause-usable : goal.make-requires-in-Neg-clause-usable
make-requires-in-Neg-clause-usable g c =
    let ns = c.args.pool.now.nodes in
    let numbers = c.args.numbers.now in
    let k = c.args.place in
    let term = term_at base_reads c.args.pool.now in
    let f = place_made base_leaves ns numbers k c.nodes_fit.ensures.nodes c.requires.here c.args.step c.requires.makes in
    let m = subst (λ s. StepMakes base_leaves (IsPlaceOf numbers k) s f.0) c.in-Neg.is f.2 in
    let b = places_before numbers k (c.in-Neg.x ∷ []) (operands f.0) m.1 in
    at_lasts g.met.AB.Ring.Algebra.laws g.met.AB.AirBuilder.laws c.args.table.now c.in-Neg.x (term (number_at numbers c.in-Neg.x)) c.args.builder.now (c.requires.table c.in-Neg.x (b 0 0 (omega arith)))

pub make-requires-in-Mul-clause-usable : goal.make-requires-in-Mul-clause-usable
make-requires-in-Mul-clause-usable g c =
    let ns = c.args.pool.now.nodes in
    let numbers = c.args.numbers.now in
    let k = c.args.place in
    let term = term_at base_reads c.args.pool.now in
    let f = place_made base_leaves ns numbers k c.nodes_fit.ensures.nodes c.requires.here c.args.step c.requires.makes in
    let m = subst (λ s. StepMakes base_leaves (IsPlaceOf numbers k) s f.0) c.in-Mul.is f.2 in
    let b = places_before numbers k (c.in-Mul.x ∷ c.in-Mul.y ∷ []) (operands f.0) m.1 in
    both_last g.met.AB.Ring.Algebra.laws g.met.AB.AirBuilder.laws c.args.table.now c.in-Mul.x c.in-Mul.y (term (number_at numbers c.in-Mul.x)) (term (number_at numbers c.in-Mul.y)) c.args.builder.now (c.requires.table c.in-Mul.x (b 0 0 (omega arith))) (c.requires.table c.in-Mul.y (b 1 0 (omega arith)))

pub make-requires-in-Gate-clause-usable : goal.make-requires-in-Gate-clause-usable
make-requires-in-Gate-clause-usable g c =
    let ns = c.args.pool.now.nodes in
    let numbers = c.args.numbers.now in
    let k = c.args.place in
    let term = term_at base_reads c.args.pool.now in
    let f = place_made base_leaves ns numbers k c.nodes_fit.ensures.nodes c.requires.here c.args.step c.requires.makes in
    let m = subst (λ s. StepMakes base_leaves (IsPlaceOf numbers k) s f.0) c.in-Gate.is f.2 in
    let b = places_before numbers k (c.in-Gate.x ∷ c.in-Gate.y ∷ []) (operands f.0) m.1 in
    both_last g.met.AB.Ring.Algebra.laws g.met.AB.AirBuilder.laws c.args.table.now c.in-Gate.x c.in-Gate.y (term (number_at numbers c.in-Gate.x)) (term (number_at numbers c.in-Gate.y)) c.args.builder.now (c.requires.table c.in-Gate.x (b 0 0 (omega arith))) (c.requires.table c.in-Gate.y (b 1 0 (omega arith)))

pub returns-in-Current : goal.returns-in-Current
returns-in-Current g c =
    let A = g.AB.AirBuilder in
    let ns = c.args.pool.now.nodes in
    let numbers = c.args.numbers.now in
    let k = c.args.place in
    let f = place_made base_leaves ns numbers k c.nodes_fit.ensures.nodes c.requires.here c.args.step c.requires.makes in
    let m = subst (λ s. StepMakes base_leaves (IsPlaceOf numbers k) s f.0) c.in-Current.is f.2 in
    subst (λ t. MakesTerm (Means g.AB.Ring.Algebra.means A.ring_of A.reads_as) A.grew A.missing A.refuses c.args.builder.now c.make.new.builder c.make.result t)
    (current_term base_leaves ns numbers k (number_at numbers k) c.in-Current.column f.0 f.1 m) c.make.ensures

pub returns-in-Next : goal.returns-in-Next
returns-in-Next g c =
    let A = g.AB.AirBuilder in
    let ns = c.args.pool.now.nodes in
    let numbers = c.args.numbers.now in
    let k = c.args.place in
    let f = place_made base_leaves ns numbers k c.nodes_fit.ensures.nodes c.requires.here c.args.step c.requires.makes in
    let m = subst (λ s. StepMakes base_leaves (IsPlaceOf numbers k) s f.0) c.in-Next.is f.2 in
    subst (λ t. MakesTerm (Means g.AB.Ring.Algebra.means A.ring_of A.reads_as) A.grew A.missing A.refuses c.args.builder.now c.make-in-Next.new.builder c.make-in-Next.result t)
    (next_term base_leaves ns numbers k (number_at numbers k) c.in-Next.column f.0 f.1 m) c.make-in-Next.ensures

pub returns-in-Add : goal.returns-in-Add
returns-in-Add g c =
    let A = g.AB.AirBuilder in
    let ns = c.args.pool.now.nodes in
    let numbers = c.args.numbers.now in
    let k = c.args.place in
    let f = place_made base_leaves ns numbers k c.nodes_fit.ensures.nodes c.requires.here c.args.step c.requires.makes in
    let m = subst (λ s. StepMakes base_leaves (IsPlaceOf numbers k) s f.0) c.in-Add.is f.2 in
    subst (λ t. MakesTerm (Means g.AB.Ring.Algebra.means A.ring_of A.reads_as) A.grew A.missing A.refuses c.args.builder.now c.make-in-Add.new.builder c.make-in-Add.result t)
    (sum_term base_leaves ns numbers k (number_at numbers k) c.in-Add.x c.in-Add.y f.0 f.1 m) c.make-in-Add.ensures

pub returns-in-Sub : goal.returns-in-Sub
returns-in-Sub g c =
    let A = g.AB.AirBuilder in
    let ns = c.args.pool.now.nodes in
    let numbers = c.args.numbers.now in
    let k = c.args.place in
    let f = place_made base_leaves ns numbers k c.nodes_fit.ensures.nodes c.requires.here c.args.step c.requires.makes in
    let m = subst (λ s. StepMakes base_leaves (IsPlaceOf numbers k) s f.0) c.in-Sub.is f.2 in
    subst (λ t. MakesTerm (Means g.AB.Ring.Algebra.means A.ring_of A.reads_as) A.grew A.missing A.refuses c.args.builder.now c.make-in-Sub.new.builder c.make-in-Sub.result t)
    (difference_term base_leaves ns numbers k (number_at numbers k) c.in-Sub.x c.in-Sub.y f.0 f.1 m) c.make-in-Sub.ensures

pub returns-in-Neg : goal.returns-in-Neg
returns-in-Neg g c =
    let A = g.AB.AirBuilder in
    let ns = c.args.pool.now.nodes in
    let numbers = c.args.numbers.now in
    let k = c.args.place in
    let f = place_made base_leaves ns numbers k c.nodes_fit.ensures.nodes c.requires.here c.args.step c.requires.makes in
    let m = subst (λ s. StepMakes base_leaves (IsPlaceOf numbers k) s f.0) c.in-Neg.is f.2 in
    subst (λ t. MakesTerm (Means g.AB.Ring.Algebra.means A.ring_of A.reads_as) A.grew A.missing A.refuses c.args.builder.now c.make-in-Neg.new.builder c.make-in-Neg.result t)
    (negative_term base_leaves ns numbers k (number_at numbers k) c.in-Neg.x f.0 f.1 m) c.make-in-Neg.ensures

pub returns-in-Mul : goal.returns-in-Mul
returns-in-Mul g c =
    let A = g.AB.AirBuilder in
    let ns = c.args.pool.now.nodes in
    let numbers = c.args.numbers.now in
    let k = c.args.place in
    let f = place_made base_leaves ns numbers k c.nodes_fit.ensures.nodes c.requires.here c.args.step c.requires.makes in
    let m = subst (λ s. StepMakes base_leaves (IsPlaceOf numbers k) s f.0) c.in-Mul.is f.2 in
    subst (λ t. MakesTerm (Means g.AB.Ring.Algebra.means A.ring_of A.reads_as) A.grew A.missing A.refuses c.args.builder.now c.make-in-Mul.new.builder c.make-in-Mul.result t)
    (product_term base_leaves ns numbers k (number_at numbers k) c.in-Mul.x c.in-Mul.y f.0 f.1 m) c.make-in-Mul.ensures

pub returns-in-Gate : goal.returns-in-Gate
returns-in-Gate g c =
    let A = g.AB.AirBuilder in
    let ns = c.args.pool.now.nodes in
    let numbers = c.args.numbers.now in
    let k = c.args.place in
    let f = place_made base_leaves ns numbers k c.nodes_fit.ensures.nodes c.requires.here c.args.step c.requires.makes in
    let m = subst (λ s. StepMakes base_leaves (IsPlaceOf numbers k) s f.0) c.in-Gate.is f.2 in
    subst (λ t. MakesTerm (Means g.AB.Ring.Algebra.means A.ring_of A.reads_as) A.grew A.missing A.refuses c.args.builder.now c.make-in-Gate.new.builder c.make-in-Gate.result t)
    (gate_term base_leaves ns numbers k (number_at numbers k) c.in-Gate.x c.in-Gate.y f.0 f.1 m) c.make-in-Gate.ensures
