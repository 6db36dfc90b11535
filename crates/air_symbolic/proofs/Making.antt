-- The answers of simplified operations, in the words of rings.
use Rattle.std.proofs.Common.{Result, Ok, Err, IfOk, IfErr, ◌≡◌, ℕ, ◌≤◌, ◌+◌, ◌^◌, refl, sym, ap, subst, ◌∙◌, arith}
use Rattle.air_field.specs.declared.errors.RingError.{RingError}
use Rattle.air_field.specs.declared.errors.RingError.TheVariants.{Memory, DegreeOverflow}
use Rattle.air_field.specs.Ring.{CommRing}
use Rattle.air_field.specs.Extension.{Basis}
use Rattle.air_field.specs.Term.{Term, const_term, mul_term}
use Rattle.air_field.specs.Degree.{degree_by, cached_weight}
use Rattle.air_field.specs.Same.{Simplifies}
use Rattle.air_field.specs.laws.Degree.{Simplifies-refl, Simplifies-trans}
use Rattle.air_field.specs.Algebra.{Made, MadeOf, MadeOfBoth, RefusedOfBoth}
use Rattle.air_field.specs.ExtAlgebra.{Lifted}
use Rattle.air_symbolic.specs.Leaves.{Leaves}
use Rattle.air_symbolic.specs.Trees.{Tree, leaf_tree, term_of}
use Rattle.air_symbolic.specs.Pools.{Pool, IsPool, term_at, PoolHas, PoolMeans, HasTree, HasConst}
use Rattle.air_symbolic.specs.Simplification.{IsOperation}
use Rattle.air_symbolic.specs.PoolRefusals.{PoolRefuses}
use Rattle.air_symbolic.specs.BaseLeaves.{base_reads}
use Rattle.air_symbolic.specs.ExtLeaves.{ext_reads}
use Rattle.air_symbolic.specs.ExtPool.{ExtNodes, BaseMeans}
use Rattle.std.specs.Prelude.{Option, Some}
use Rattle.air_symbolic.specs.declared.pools.simplify.Simplified.{Simplified}
use Rattle.air_symbolic.specs.declared.leaves.ext_leaf.ExtLeaf.TheVariants.{Base}

IfOk-both : {X E : Type 0} (r : Result X E) (P Q R : X → Type 0) → ((x : X) → P x → Q x → R x) → IfOk r P → IfOk r Q → IfOk r R
IfOk-both (Ok x) P Q R f p q = f x p q
IfOk-both (Err e) P Q R f p q = tt

-- The answer of an operation means the operation's term.
module _ {U A F E : Type 0} {r : CommRing F} {reads : U → Leaves A F} {q : Pool U A} (pool : IsPool reads q) (p : Pool U A) (node : Option (Tree A) → Option (Tree A) → Option (Tree A)) (simplify : Option F → Option F → Option (Simplified F)) (answer : Result ℕ E) where
  pub made-both : (x y : ℕ) (term : Term F → Term F → Term F) → ((t u v w : Term F) → Simplifies r t v → Simplifies r u w → Simplifies r (term t u) (term v w))
      → IfOk answer (IsOperation reads p q node simplify x y) → IfOk answer (λ z. Simplifies r (term_at reads q z) (term (term_at reads p x) (term_at reads p y)))
      → IfOk answer (MadeOfBoth (PoolHas reads) (PoolMeans reads r) term p q x y)
  made-both x y term congruent =
      IfOk-both answer _ _ _ (λ z m s. (
        record { pool = pool; here = m.here },
        λ t u h k. record { pool = pool; here = m.here; simplifies = Simplifies-trans r _ _ _ s (congruent _ _ t u h.simplifies k.simplifies) },
      ))

  pub made-one : (x : ℕ) (term : Term F → Term F) → ((t v : Term F) → Simplifies r t v → Simplifies r (term t) (term v))
      → IfOk answer (IsOperation reads p q node simplify x x) → IfOk answer (λ z. Simplifies r (term_at reads q z) (term (term_at reads p x)))
      → IfOk answer (MadeOf (PoolHas reads) (PoolMeans reads r) term p q x)
  made-one x term congruent =
      IfOk-both answer _ _ _ (λ z m s. (
        record { pool = pool; here = m.here },
        λ t h. record { pool = pool; here = m.here; simplifies = Simplifies-trans r _ _ _ s (congruent _ t h.simplifies) },
      ))

-- A leaf means its term.
pub made-leaf : {U A F : Type 0} (r : CommRing F) (reads : U → Leaves A F) (q : Pool U A) (a : A) (z : ℕ) → IsPool reads q → HasTree q (Some (leaf_tree a)) z → Made (PoolHas reads) (PoolMeans reads r) ((reads q.base).term a) q z
made-leaf r reads q a z pool h =
    let t = (reads q.base).term a in (
      record { pool = pool; here = h.here },
      record { pool = pool; here = h.here; simplifies = subst (λ x. Simplifies r x t) (sym (ap (term_of (reads q.base).term) h.tree)) (Simplifies-refl r t) },
    )

-- A constant means its term.
pub made-constant : {U A F : Type 0} (r : CommRing F) (reads : U → Leaves A F) (q : Pool U A) (c : F) (z : ℕ) → IsPool reads q → HasConst reads q c z → Made (PoolHas reads) (PoolMeans reads r) (const_term c) q z
made-constant r reads q c z pool h =
    let a = h.constant.0 in
    subst (λ t. Made (PoolHas reads) (PoolMeans reads r) t q z) h.constant.2.term
    (made-leaf r reads q a z pool record { here = h.here; tree = h.constant.1 })

-- A product fails with `DegreeOverflow` only if its degree exceeds `usize`.
pub refused-product : {X U A F : Type 0} (r : CommRing F) (reads : U → Leaves A F) (p : Pool U A) (x y : ℕ) (q : Result X RingError) → (q ≡ Err DegreeOverflow → 2 ^ 64 ≤ degree_by cached_weight (term_at reads p x) + degree_by cached_weight (term_at reads p y)) → IfErr q (RefusedOfBoth (PoolMeans reads r) PoolRefuses mul_term p x y)
refused-product r reads p x y (Ok i) h = tt
refused-product r reads p x y (Err Memory) h = λ t u k m. tt
refused-product r reads p x y (Err DegreeOverflow) h = λ t u k m. omega (arith, h refl, k.simplifies.degree_le cached_weight, m.simplifies.degree_le cached_weight)

-- The leaf of a base expression means the terms that the base expression means.
pub made-lifted : {F EF : Type 0} (r : CommRing F) (basis : Basis F EF) (p q : ExtNodes F EF) (x : ℕ) → q.base ≡ p.base → IsPool (ext_reads basis) q → (z : ℕ) → HasTree q (Some (leaf_tree (Base x))) z → Lifted (PoolHas (ext_reads basis)) (PoolMeans (ext_reads basis) r) (BaseMeans r basis) p q x z
made-lifted r basis p q x same pool z m =
    let reads = ext_reads basis in
    let is : term_at reads q z ≡ term_at base_reads p.base x = ap (term_of (reads q.base).term) m.tree ∙ ap (λ u. term_at base_reads u x) same in (
      record { pool = pool; here = m.here },
      λ t h. record { pool = pool; here = m.here; simplifies = subst (λ u. Simplifies r u t) (sym is) h.base.simplifies },
    )

-- A number that means a term means each equal term.
pub made-equal : {U A F : Type 0} (r : CommRing F) (reads : U → Leaves A F) (q : Pool U A) (u : Term F) (z : ℕ) → Made (PoolHas reads) (PoolMeans reads r) u q z → PoolHas reads q z × ((t : Term F) → t ≡ u → PoolMeans reads r q z t)
made-equal r reads q u z m = (m.0, λ t h. subst (λ w. PoolMeans reads r q z w) (sym h) m.1)
