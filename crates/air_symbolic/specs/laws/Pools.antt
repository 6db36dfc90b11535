-- Properties of a pool that stay as it grows.
use Rattle.std.proofs.Common.{◌≡◌, ℕ, ◌<◌, [], ◌++◌, length, refl, sym, ap, subst, ◌∙◌, ◌∷◌, arith, append_assoc, append-nil}
use Rattle.std.specs.Prelude.{Some, slice_get}
use Rattle.std.proofs.Math.ListN.{length-append}
use Rattle.air_field.specs.Ring.{CommRing}
use Rattle.air_field.specs.Term.{Term}
use Rattle.air_field.specs.Same.{Simplifies, same_refl}
use Rattle.air_field.specs.Algebra.{AlgebraLaws}
use Rattle.air_symbolic.specs.Leaves.{Leaves, LeafLaws}
use Rattle.air_symbolic.specs.Trees.{term_of}
use Rattle.air_symbolic.specs.Nodes.{tree_of, NodeFits}
use Rattle.air_symbolic.specs.Pools.{Pool, on_base, IsPool, tree_at, term_at, Grown, PoolMeans, PoolHas}
use Rattle.air_symbolic.specs.PoolRefusals.{PoolRefuses}
use Rattle.air_symbolic.specs.laws.PoolRefusals.{PoolRefuses-whole}
use Rattle.air_symbolic.specs.laws.Numbers.{tree_of-kept, tree_of-valid, term_of-kept, WellFormed-kept, WellFormed-push}
use Rattle.air_symbolic.specs.declared.pools.expr.SymbolicExpr.{SymbolicExpr}

module _ {U A F : Type 0} (r : CommRing F) (reads : U → Leaves A F) (grows : U → U → Type 0) (empty : U) (laws : LeafLaws r reads grows empty) where
  pub Grown-refl : (p : Pool U A) → Grown grows reads p p
  Grown-refl p = record { base = laws.same p.base; nodes = ([], sym (append-nil p.nodes)); pool = λ (h : IsPool reads p). h }

  pub Grown-trans : (p q s : Pool U A) → Grown grows reads p q → Grown grows reads q s → Grown grows reads p s
  Grown-trans p q s h k = record {
    base = laws.joined p.base q.base s.base h.base k.base;
    nodes = (h.nodes.0 ++ k.nodes.0, k.nodes.1 ∙ ap (λ l. l ++ k.nodes.0) h.nodes.1 ∙ append_assoc p.nodes h.nodes.0 k.nodes.0);
    pool = λ (w : IsPool reads p). k.pool (h.pool w);
  }

  -- the base grows
  pub Grown-under : (p : Pool U A) (u : U) → grows p.base u → Grown grows reads p (on_base p u)
  Grown-under p u g = record {
    base = g;
    nodes = ([], sym (append-nil p.nodes));
    pool = λ (h : IsPool reads p). record {
      base = (laws.keeps p.base u g).sound h.base;
      nodes = WellFormed-kept (reads p.base) (reads u) (laws.keeps p.base u g) p.nodes h.nodes;
    };
  }

  -- appending a node that fits and is new
  pub Grown-push : (p : Pool U A) (n : SymbolicExpr A) → NodeFits (reads p.base) p.nodes n → ((i : ℕ) → slice_get p.nodes i ≡ Some n → ⊥) → Grown grows reads p (record { base = p.base; nodes = p.nodes ++ n ∷ [] })
  Grown-push p n fits absent = record {
    base = laws.same p.base;
    nodes = (n ∷ [], refl);
    pool = λ (h : IsPool reads p). record { base = h.base; nodes = WellFormed-push (reads p.base) p.nodes n h.nodes fits absent };
  }

  -- earlier numbers stay
  pub here-kept : (p q : Pool U A) (i : ℕ) → Grown grows reads p q → i < length p.nodes → i < length q.nodes
  here-kept p q i g h = omega (arith, h, ap length g.nodes.1, length-append p.nodes g.nodes.0)

  -- they keep their trees
  pub tree-kept : (p q : Pool U A) (i : ℕ) → Grown grows reads p q → i < length p.nodes → tree_at q i ≡ tree_at p i
  tree-kept p q i g h = ap (λ l. tree_of l i) g.nodes.1 ∙ tree_of-kept p.nodes g.nodes.0 i h

  -- and their terms
  pub term-kept : (p q : Pool U A) (i : ℕ) → Grown grows reads p q → PoolHas reads p i → term_at reads q i ≡ term_at reads p i
  term-kept p q i g h =
      ap (term_of (reads q.base).term) (tree-kept p q i g h.here)
      ∙ term_of-kept (reads p.base) (reads q.base) (laws.keeps p.base q.base g.base) (tree_at p i) (tree_of-valid (reads p.base) p.nodes h.pool.nodes i h.here)

  pub has-kept : (p q : Pool U A) (i : ℕ) → Grown grows reads p q → PoolHas reads p i → PoolHas reads q i
  has-kept p q i g h = record { pool = g.pool h.pool; here = here-kept p q i g h.here }

  pub means-kept : (p q : Pool U A) (i : ℕ) (t : Term F) → Grown grows reads p q → PoolMeans reads r p i t → PoolMeans reads r q i t
  means-kept p q i t g h = record {
    pool = g.pool h.pool;
    here = here-kept p q i g h.here;
    simplifies = subst (λ x. Simplifies r x t) (sym (term-kept p q i g record { pool = h.pool; here = h.here })) h.simplifies;
  }

  -- a pool is a ring of expressions
  pub pool_laws : AlgebraLaws (IsPool reads) (PoolHas reads) (PoolMeans reads r) (Grown grows reads) PoolRefuses
  pool_laws = record {
    refuses_whole = PoolRefuses-whole;
    same = Grown-refl;
    joined = Grown-trans;
    valid_stays = λ p q g h. g.pool h;
    has_stays = has-kept;
    means_stays = means-kept;
    means_has = λ p x t h. record { pool = h.pool; here = h.here };
    has_valid = λ p x h. h.pool;
    means_some = λ p x h. (term_at reads p x, record { pool = h.pool; here = h.here; simplifies = record { same = same_refl; degree_le = λ w. omega arith } });
  }
