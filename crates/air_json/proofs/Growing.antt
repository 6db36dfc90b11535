-- Pools that grow while nodes are read.
use Rattle.std.proofs.Common.{◌≡◌, ℕ, suc, zero, ◌<◌, ◌≤◌, List, [], ◌∷◌, ◌++◌, length, map, All, refl, ap, subst, arith, length-append}
use Rattle.air_field.specs.Ring.{CommRing}
use Rattle.air_symbolic.specs.Leaves.{Leaves, LeafLaws}
use Rattle.air_symbolic.specs.Pools.{Pool, on_base, Grown}
use Rattle.air_symbolic.specs.laws.Pools.{Grown-under}

-- the pool's base was borrowed, and has grown
pub lent_grown : {U A F : Type 0} (r : CommRing F) (reads : U → Leaves A F) (grows : U → U → Type 0) (empty : U) → LeafLaws r reads grows empty → (p : Pool U A) (lent w : U) → lent ≡ p.base → grows lent w → Grown grows reads p (on_base p w)
lent_grown r reads grows empty laws p lent w e g = Grown-under r reads grows empty laws p w (subst (λ l. grows l w) e g)

pub longer : {U A F : Type 0} (reads : U → Leaves A F) (grows : U → U → Type 0) (p q : Pool U A) → Grown grows reads p q → length p.nodes ≤ length q.nodes
longer reads grows p q g = omega (arith, ap length g.nodes.1, length-append p.nodes g.nodes.0)

-- numbers below a bound
abbrev pub AllBelow : ℕ → List ℕ → Type 0
AllBelow n is = All (λ k. k < n) is

pub below_push : (m n : ℕ) (is : List ℕ) (i : ℕ) → AllBelow m is → m ≤ n → i < n → AllBelow n (is ++ i ∷ [])
below_push m n [] i h le lt zero d b = lt
below_push m n [] i h le lt (suc k) d b = absurd (omega (arith, b))
below_push m n (j ∷ is) i h le lt zero d b = omega (arith, h zero d (omega arith), le)
below_push m n (j ∷ is) i h le lt (suc k) d b = below_push m n is i (λ l e c. h (suc l) e (omega (arith, c))) le lt k d (omega (arith, b))

pub map_kept : {X : Type 0} (f g : ℕ → X) (n : ℕ) (is : List ℕ) → AllBelow n is → ((i : ℕ) → i < n → g i ≡ f i) → map g is ≡ map f is
map_kept f g n [] h kept = refl
map_kept f g n (i ∷ is) h kept =
    let first : i < n = h zero zero (omega arith) in
    cc (kept i first, map_kept f g n is (λ k d lt. h (suc k) d (omega (arith, lt))) kept)
