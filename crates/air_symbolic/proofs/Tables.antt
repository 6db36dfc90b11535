-- A pool as contracts see it: the nodes of its table, over its base.
use Rattle.std.proofs.Common.{◌≡◌, ◌≢◌, ℕ, ◌+◌, List, [], ◌∷◌, ◌++◌, length, sym, ap, subst, ◌∙◌, arith, inr}
use Rattle.std.proofs.Math.ListN.{length-append}
use Rattle.std.specs.Prelude.{Some, slice_get}
use Rattle.air_field.specs.Ring.{CommRing}
use Rattle.air_symbolic.specs.Leaves.{Leaves, LeafLaws}
use Rattle.air_symbolic.specs.Nodes.{unfold_node, tree_of, NodeFits, WellFormed, IsNode}
use Rattle.air_symbolic.specs.Numbered.{Numbers}
use Rattle.air_symbolic.specs.Pools.{Pool, on_base, IsPool, IsNodeList, FitsBase, Grown, HasTree}
use Rattle.air_symbolic.specs.laws.Pools.{Grown-under, Grown-push}
use Rattle.air_symbolic.specs.laws.Numbers.{tree_of-newest}
use Rattle.air_symbolic.specs.laws.Sharing.{node_at-is}
use Rattle.air_symbolic.specs.declared.pools.expr.SymbolicExpr.{SymbolicExpr}

-- the type's invariant and `FitsBase` make the value a pool
pub pool-seen : {U A F : Type 0} (reads : U → Leaves A F) (p : Pool U A) (u : U) (xs : List (SymbolicExpr A)) → record { base = u; nodes = xs } ≡ p → IsNodeList reads xs → FitsBase reads p → IsPool reads p
pool-seen reads p u xs e kept fits = fits kept.base (subst (λ (q : Pool _ _). IsPool reads (on_base q kept.base)) e kept.pool)

-- a node read from the table is the pool's node with that number
pub IsNode-seen : {U A F : Type 0} (l : Leaves A F) (p : Pool U A) (u : U) (xs : List (SymbolicExpr A)) (i : ℕ) (n : SymbolicExpr A) → record { base = u; nodes = xs } ≡ p → WellFormed l p.nodes → slice_get xs i ≡ Some n → IsNode l p.nodes i n
IsNode-seen l p u xs i n e wf at = node_at-is l p.nodes wf i n (subst (λ (q : Pool _ _). slice_get q.nodes i ≡ Some n) e at)

module _ {U A F : Type 0} {r : CommRing F} {reads : U → Leaves A F} {grows : U → U → Type 0} {empty : U} (laws : LeafLaws r reads grows empty) (p : Pool U A) (u : U) (xs : List (SymbolicExpr A)) (seen : record { base = u; nodes = xs } ≡ p) where
  -- one more node at the table's end
  pub Grown-push-seen : (ys : List (SymbolicExpr A)) (n : SymbolicExpr A) → ys ≡ xs ++ n ∷ [] → NodeFits (reads p.base) p.nodes n → ((i : ℕ) → slice_get xs i ≢ Some n) → Grown grows reads p (record { base = u; nodes = ys })
  Grown-push-seen ys n pushed fits absent =
      subst (λ (q : Pool U A). NodeFits (reads q.base) q.nodes n → Grown grows reads q (record { base = u; nodes = ys })) seen
      (λ f. subst (λ (zs : List (SymbolicExpr A)). Grown grows reads (record { base = u; nodes = xs }) (record { base = u; nodes = zs })) (sym pushed)
      (Grown-push r reads grows empty laws (record { base = u; nodes = xs }) n f absent))
      fits

  -- so the type's invariant holds for the list
  pub list-pushed : (ys : List (SymbolicExpr A)) (n : SymbolicExpr A) → ys ≡ xs ++ n ∷ [] → NodeFits (reads p.base) p.nodes n → ((i : ℕ) → slice_get xs i ≢ Some n) → IsPool reads p → IsNodeList reads ys
  list-pushed ys n pushed fits absent pool = record { base = u; pool = (Grown-push-seen ys n pushed fits absent).pool pool }

  -- the new number has the node's tree
  pub tree-pushed : (ys : List (SymbolicExpr A)) (n : SymbolicExpr A) (i : ℕ) → ys ≡ xs ++ n ∷ [] → i ≡ length xs → HasTree {U = U} (record { base = u; nodes = ys }) (unfold_node (tree_of p.nodes) n) i
  tree-pushed ys n i pushed last = record {
    here = omega (arith, last, ap length pushed, length-append xs (n ∷ []));
    tree =
        ap (λ zs. tree_of zs i) pushed ∙ ap (tree_of (xs ++ n ∷ [])) last ∙ tree_of-newest xs n
        ∙ ap (λ (q : Pool U A). unfold_node (tree_of q.nodes) n) seen;
  }

  -- the table's base has grown
  pub Grown-under-seen : (v : U) → grows u v → Grown grows reads p (record { base = v; nodes = xs })
  Grown-under-seen v g =
      subst (λ (q : Pool U A). Grown grows reads q (record { base = v; nodes = xs })) seen (Grown-under r reads grows empty laws (record { base = u; nodes = xs }) v g)

-- a node at the table's end has the next number
pub number-pushed : {U A : Type 0} (p : Pool U A) (u : U) (xs : List (SymbolicExpr A)) → record { base = u; nodes = xs } ≡ p → (ys : List (SymbolicExpr A)) (n : SymbolicExpr A) (i : ℕ) → ys ≡ xs ++ n ∷ [] → i ≡ length xs
    → Numbers p (record { base = u; nodes = ys }) i
number-pushed p u xs seen ys n i pushed last =
    let count = ap (λ (q : Pool _ _). length q.nodes) seen in
    inr (last ∙ count, ap length pushed ∙ length-append xs (n ∷ []) ∙ ap (λ k. k + 1) count)
