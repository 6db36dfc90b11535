-- Marking numbers one after another.
use Rattle.std.proofs.Common.{◌≡◌, ◌⊎◌, ℕ, ◌+◌, ◌<◌, ◌≤◌, List, length, get_or, Contains, Option, None, Some, sym, subst, ◌∙◌, arith, ⊎_elim}
use Rattle.std.proofs.lemmas.List.{get_or_past, get_or_default}
use Rattle.std.proofs.lemmas.List.Elements.{All-weaker, All-contains}
use Rattle.air_symbolic.specs.Leaves.{Leaves}
use Rattle.air_symbolic.specs.Nodes.{operands, IsNode}
use Rattle.air_symbolic.specs.declared.pools.expr.SymbolicExpr.{SymbolicExpr}
use Rattle.air_symbolic.specs.Reach.{EachOperand, IsOperand, Marked, MarkedMore, ReachedFrom, root, operand}

-- a number has only one node
one_node : {A F : Type 0} (l : Leaves A F) (ns : List (SymbolicExpr A)) (i : ℕ) (m n : SymbolicExpr A) → IsNode l ns i m → IsNode l ns i n → m ≡ n
one_node l ns i m n h k = some_inj (sym h.node ∙ k.node)
  where
    some_inj : Some m ≡ Some n → m ≡ n
    some_inj e = cc

module _ {A F : Type 0} (l : Leaves A F) (ns : List (SymbolicExpr A)) (roots : List ℕ) where
  -- every mark is the number of its entry, and reached
  abbrev pub OnlyReached : List (Option ℕ) → Type 0
  OnlyReached marks = (i j : ℕ) → get_or marks i None ≡ Some j → (j ≡ i) × ReachedFrom l ns roots i

  -- from number k on, marked nodes have their operands marked
  abbrev pub ClosedFrom : ℕ → List (Option ℕ) → Type 0
  ClosedFrom k marks = (i : ℕ) → k ≤ i → (n : SymbolicExpr A) → Marked marks i → IsNode l ns i n → EachOperand (λ j. Marked marks j) n

  -- a mark read at entry k is k, and marked
  pub mark_read : (a : List (Option ℕ)) (k x : ℕ) (d : Option ℕ) → k < length a → OnlyReached a → get_or a k d ≡ Some x → (x ≡ k) × Marked a x
  mark_read a k x d lt h e =
      let at : get_or a k None ≡ Some x = get_or_default a k None d lt ∙ e in
      let is : x ≡ k = (h k x at).0 in
      (is, subst (λ i. get_or a i None ≡ Some x) (sym is) at)

  pub all_marked_only : (a b : List (Option ℕ)) → ((i : ℕ) → get_or a i None ≡ None) → MarkedMore (λ i. Contains roots i) a b → OnlyReached b
  all_marked_only a b none h i j e =
      ⊎_elim
      (λ (o : get_or a i None ≡ Some j). absurd (none_some (sym (none i) ∙ o)))
      (λ (n : (j ≡ i) × Contains roots i). (n.0, root n.1))
      (h.only i j e)
    where
      none_some : None ≡ Some j → ⊥
      none_some e = cc

  -- the operands of one more marked node were marked
  pub more_only : (k : ℕ) (n : SymbolicExpr A) (a b : List (Option ℕ)) → Marked a k → IsNode l ns k n → OnlyReached a → MarkedMore (λ i. IsOperand i n) a b → OnlyReached b
  more_only k n a b m is h g i j e =
      ⊎_elim
      (λ (o : get_or a i None ≡ Some j). h i j o)
      (λ (p : (j ≡ i) × IsOperand i n). (p.0, operand (h k k m).1 is p.1))
      (g.only i j e)

  pub more_closed : (k m : ℕ) (n : SymbolicExpr A) (a b : List (Option ℕ)) → m ≤ k + 1 → IsNode l ns k n → ClosedFrom m a → MarkedMore (λ i. IsOperand i n) a b → EachOperand (λ j. Marked b j) n → ClosedFrom k b
  more_closed k m n a b le is h g marked i from p mi ip =
      ⊎_elim
      (λ (e : i ≡ k). subst (λ q. EachOperand (λ j. Marked b j) q) (one_node l ns k n p is (subst (λ v. IsNode l ns v p) e ip)) marked)
      (λ (lt : k < i).
      ⊎_elim
      (λ (o : Marked a i). All-weaker (λ j. Marked a j) (λ j. Marked b j) g.stays (operands p) (h i (omega (arith, lt, le)) p o ip))
      (λ (q : (i ≡ i) × IsOperand i n). let low = All-contains (λ j. j < k) (operands n) i is.below q.1 in absurd (omega (arith, low, lt)))
      (g.only i i mi))
      (at_or_above i k from)
    where
      at_or_above : (i k : ℕ) → k ≤ i → (i ≡ k) ⊎ (k < i)
      at_or_above i k from = grind (arith, from)

  pub past_closed : (k : ℕ) (a : List (Option ℕ)) → length a ≤ k → ClosedFrom k a
  past_closed k a le i from p mi ip =
      let past : get_or a i None ≡ None = get_or_past a i None (omega (arith, le, from)) in
      absurd (none_some (sym past ∙ mi))
    where
      none_some : None ≡ Some i → ⊥
      none_some e = cc
