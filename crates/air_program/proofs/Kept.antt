-- What roots read, as a map keeps it.
use Rattle.std.specs.Ordering.{match_ordering}
use Rattle.std.specs.BTreeMap.{is_at, insert_entry}
use Rattle.std.specs.Cmp.{Equal-is}
use Rattle.std.specs.Global.{Global}
use Rattle.std.specs.Map.{lookup}
use Rattle.std.specs.Prelude.{IfSome}
use Rattle.std.proofs.Common.{◌≡◌, ℕ, Ordering, Less, Equal, Greater, List, [], ◌∷◌, All, Option, Some, Vec, refl, sym, subst}
use Rattle.std.proofs.lemmas.Bool.{cond_both}
use Rattle.std.proofs.lemmas.List.Elements.{All-nil, All-cons, All-head, All-tail}
use Rattle.std.proofs.lemmas.Map.Lookups.{CmpEqualImpliesEq}
use Rattle.air_symbolic.specs.declared.leaves.base_leaf.BaseLeaf.{BaseLeaf}
use Rattle.air_symbolic.specs.declared.pools.expr.SymbolicExpr.{SymbolicExpr}
use Rattle.air_print.specs.Reading.{Reads}

-- an empty map
pub kept-none : {F : Type 0} (ns : List (SymbolicExpr (BaseLeaf F))) (es : List (ℕ × Vec ℕ Global)) → es ≡ [] → All (λ e. Reads ns e.0 e.1.items) es
kept-none ns es is = subst (λ (xs : List (ℕ × Vec ℕ Global)). All (λ e. Reads ns e.0 e.1.items) xs) (sym is) (All-nil (λ e. Reads ns e.0 e.1.items))

module _ {F : Type 0} (ns : List (SymbolicExpr (BaseLeaf F))) (cmp : ℕ → ℕ → Ordering) (exact : CmpEqualImpliesEq cmp) (k : ℕ) where
  abbrev IsRead : ℕ × Vec ℕ Global → Type 0
  IsRead e = Reads ns e.0 e.1.items

  kept-found : (es : List (ℕ × Vec ℕ Global)) → All IsRead es → IfSome (lookup (is_at (cmp k)) es) (λ v. Reads ns k v.items)
  kept-found [] a = tt
  kept-found (e ∷ es) a =
      cond_both (is_at (cmp k) e.0) (Some e.1) (lookup (is_at (cmp k)) es) (λ o. IfSome o (λ v. Reads ns k v.items))
      (λ y. subst (λ (i : ℕ). Reads ns i e.1.items) (sym (exact k e.0 ((Equal-is (cmp k e.0)).0 y))) (All-head IsRead e es a))
      (λ n. kept-found es (All-tail IsRead e es a))

  -- what is found was kept for this root
  pub kept-read : (es : List (ℕ × Vec ℕ Global)) (v : Vec ℕ Global) → All IsRead es → Some v ≡ lookup (is_at (cmp k)) es → Reads ns k v.items
  kept-read es v a is = subst (λ (o : Option (Vec ℕ Global)). IfSome o (λ w. Reads ns k w.items)) (sym is) (kept-found es a)

  -- one more root
  pub kept-more : (v : Vec ℕ Global) → Reads ns k v.items → (es : List (ℕ × Vec ℕ Global)) → All IsRead es → All IsRead (insert_entry cmp es k v)
  kept-more v h [] a = All-cons IsRead (k, v) [] h (All-nil IsRead)
  kept-more v h (e ∷ es) a = by (cmp k e.0) refl (kept-more v h es (All-tail IsRead e es a))
    where
      by : (r : Ordering) → cmp k e.0 ≡ r → All IsRead (insert_entry cmp es k v) → All IsRead (match_ordering r ((k, v) ∷ e ∷ es) ((e.0, v) ∷ es) (e ∷ insert_entry cmp es k v))
      by Less q more = All-cons IsRead (k, v) (e ∷ es) h a
      by Equal q more = All-cons IsRead (e.0, v) es (subst (λ (i : ℕ). Reads ns i v.items) (exact k e.0 q) h) (All-tail IsRead e es a)
      by Greater q more = All-cons IsRead e (insert_entry cmp es k v) (All-head IsRead e es a) more
