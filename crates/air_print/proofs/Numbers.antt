-- Marks and values, one expression after another.
use Rattle.std.proofs.Common.{◌≡◌, ◌⊎◌, ℕ, ◌+◌, ◌<◌, List, [], ◌∷◌, ◌++◌, length, get_or, Option, None, Some, refl, sym, ap, ap₂, subst, ◌∙◌, arith, ⊎_elim}
use Rattle.std.proofs.lemmas.List.{get_or_default, get_or_append_left, get_or_push}
use Rattle.air_field.specs.Ring.{CommRing, minus, self_algebra}
use Rattle.air_field.specs.Term.{Leaf}
use Rattle.air_field.specs.Value.{value}
use Rattle.air_symbolic.specs.BaseLeaves.{base_term}
use Rattle.air_symbolic.specs.Nodes.{node_term, tree_of, OperandsBelow}
use Rattle.air_symbolic.specs.Reach.{Marked, EachOperand}
use Rattle.air_symbolic.specs.Trees.{term_of}
use Rattle.air_symbolic.specs.declared.leaves.base_leaf.BaseLeaf.{BaseLeaf}
use Rattle.air_symbolic.specs.declared.pools.expr.SymbolicExpr.{SymbolicExpr}
use Rattle.air_symbolic.specs.declared.pools.expr.SymbolicExpr.TheVariants as node
use Rattle.air_print.specs.Values.{number_value, node_value, Known, AreClosed}

-- a mark is its own index
pub mark-own : {F : Type 0} (ns : List (SymbolicExpr (BaseLeaf F))) (marks : List (Option ℕ)) (k : ℕ) (d : Option ℕ) (id : ℕ) → AreClosed ns marks → k < length marks → get_or marks k d ≡ Some id → (id ≡ k) × (id < length ns) × (get_or marks k None ≡ Some id)
mark-own ns marks k d id h lt e =
    let at : get_or marks k None ≡ Some id = get_or_default marks k None d lt ∙ e in
    let is : id ≡ k = h.own k id at in
    (is, omega (arith, is, lt, h.places), at)

-- one more value is known
pub Known-more : {F : Type 0} (r : CommRing F) (s : Leaf → F) (ns : List (SymbolicExpr (BaseLeaf F))) (marks : List (Option ℕ)) (k : ℕ) (old new : List F) (x : F) → length old ≡ k → new ≡ old ++ x ∷ [] → Known r s ns marks k old → (Marked marks k → x ≡ number_value r s ns k) → Known r s ns marks (k + 1) new
Known-more r s ns marks k old new x places e h now i below m =
    ap (λ (vs : List _). get_or vs i r.zero) e
    ∙ ⊎_elim
    (λ (lt : i < k). get_or_append_left old (x ∷ []) r.zero i (omega (arith, lt, places)) ∙ h i lt m)
    (λ (at : i ≡ k). get_or_push old x r.zero i (places ∙ sym at) ∙ now (subst (λ j. Marked marks j) at m) ∙ ap (number_value r s ns) (sym at))
    (before_or_at i k below)
  where
    before_or_at : (i k : ℕ) → i < k + 1 → (i < k) ⊎ (i ≡ k)
    before_or_at i k b = grind (arith, b)

-- the value of a node whose operands' values are known
pub node_value-is : {F : Type 0} (r : CommRing F) (s : Leaf → F) (ns : List (SymbolicExpr (BaseLeaf F))) (marks : List (Option ℕ)) (k : ℕ) (values : List F) (n : SymbolicExpr (BaseLeaf F)) → Known r s ns marks k values → OperandsBelow k n → EachOperand (λ j. Marked marks j) n → node_value r s (λ i. get_or values i r.zero) n ≡ value (self_algebra r) s (node_term base_term (λ i. term_of base_term (tree_of ns i)) n)
node_value-is r s ns marks k values (node.Leaf a) h b m = refl
node_value-is r s ns marks k values (node.Add x y d) h b m = ap₂ r.add (h x (b 0 x (omega arith)) (m 0 x (omega arith))) (h y (b 1 y (omega arith)) (m 1 y (omega arith)))
node_value-is r s ns marks k values (node.Sub x y d) h b m = ap₂ (minus r) (h x (b 0 x (omega arith)) (m 0 x (omega arith))) (h y (b 1 y (omega arith)) (m 1 y (omega arith)))
node_value-is r s ns marks k values (node.Neg x d) h b m = ap r.neg (h x (b 0 x (omega arith)) (m 0 x (omega arith)))
node_value-is r s ns marks k values (node.Mul x y d) h b m = ap₂ r.mul (h x (b 0 x (omega arith)) (m 0 x (omega arith))) (h y (b 1 y (omega arith)) (m 1 y (omega arith)))
