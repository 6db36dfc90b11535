-- Appending a node to a list and to the table of its kind.
use Rattle.std.proofs.Common.{◌≡◌, ◌≢◌, ⊎_elim, ℕ, zero, suc, List, [], ◌∷◌, ◌++◌, length, refl, sym, ap, subst, ◌∙◌}
use Rattle.std.specs.Prelude.{Option, None, Some, MatchOption}
use Rattle.std.specs.List.{slice_get}
use Rattle.air_symbolic.specs.laws.Numbers.{at_pushed}
use Rattle.air_symbolic.specs.Numbering.{IsNowhere, Entered, FindsNumbers, AreNumbered}
use Rattle.air_symbolic.specs.declared.pools.expr.SymbolicExpr.{SymbolicExpr}
use Rattle.air_symbolic.specs.declared.pools.expr.SymbolicExpr.TheVariants.{Leaf, Add, Sub, Neg, Mul}

module _ {N : Type 0} where
  kept_place : (xs : List N) (x k : N) (i : ℕ) → slice_get xs i ≡ Some k → slice_get (xs ++ x ∷ []) i ≡ Some k
  kept_place [] x k i e = absurd (cc)
  kept_place (y ∷ xs) x k zero e = e
  kept_place (y ∷ xs) x k (suc i) e = kept_place xs x k i e

  last_place : (xs : List N) (x : N) → slice_get (xs ++ x ∷ []) (length xs) ≡ Some x
  last_place [] x = refl
  last_place (y ∷ xs) x = last_place xs x

module _ {K N : Type 0} (node_of : K → ℕ → N) where
  -- a node of this kind that wasn't in the list
  pub FindsNumbers-push : ((k l : K) (d e : ℕ) → node_of k d ≡ node_of l e → k ≡ l) → (nodes : List N) (old new : K → Option ℕ) (key : K) (stated : ℕ) (node : N) (number : ℕ) → node ≡ node_of key stated → number ≡ length nodes → ((i d : ℕ) → slice_get nodes i ≢ Some (node_of key d)) → FindsNumbers node_of nodes old → (old key ≡ None → Entered old new key number) → FindsNumbers node_of (nodes ++ node ∷ []) new
  FindsNumbers-push one nodes old new key stated node number is count absent finds entered k i =
      ⊎_elim
      (λ (h : (k ≡ key) × (new k ≡ Some number)). (
        λ e. let at : length nodes ≡ i = number-is (ap (λ (j : ℕ). Some j) (sym count) ∙ sym h.1 ∙ e) in (
          stated,
          subst (λ j. slice_get (nodes ++ node ∷ []) j ≡ Some (node_of k stated)) at (last_place nodes node ∙ ap (λ (n : N). Some n) (is ∙ ap (λ l. node_of l stated) (sym h.0))),
        ),
        λ e. ⊎_elim
            (λ (q : slice_get nodes i ≡ Some (node_of k e.0)). absurd (absent i e.0 (q ∙ ap (λ l. Some (node_of l e.0)) h.0)))
            (λ (q : (i ≡ length nodes) × (node ≡ node_of k e.0)). h.1 ∙ ap (λ (j : ℕ). Some j) (count ∙ sym q.0))
            (at_pushed nodes node (node_of k e.0) i e.1),
      ))
      (λ (h : (k ≢ key) × (new k ≡ old k)). (
        λ e. let before = (finds k i).0 (sym h.1 ∙ e) in (before.0, kept_place nodes node (node_of k before.0) i before.1),
        λ e. ⊎_elim
            (λ (q : slice_get nodes i ≡ Some (node_of k e.0)). h.1 ∙ (finds k i).1 (e.0, q))
            (λ (q : (i ≡ length nodes) × (node ≡ node_of k e.0)). absurd (h.0 (one k key e.0 stated (sym q.1 ∙ is))))
            (at_pushed nodes node (node_of k e.0) i e.1),
      ))
      (entered (none-found (old key) (λ j e. absent j ((finds key j).0 e).0 ((finds key j).0 e).1)) k)
    where
      none-found : (o : Option ℕ) → ((j : ℕ) → o ≢ Some j) → o ≡ None
      none-found None never = refl
      none-found (Some j) never = absurd (never j refl)

      number-is : {m n : ℕ} → Some m ≡ Some n → m ≡ n
      number-is e = cc

  -- a table without keys
  pub FindsNumbers-none : (table : K → Option ℕ) → ((k : K) → table k ≡ None) → FindsNumbers node_of [] table
  FindsNumbers-none table none k i = (λ e. absurd (let n = none k in cc), λ e. absurd (let n = e.1 in cc))

  -- a node of another kind
  pub FindsNumbers-other : (nodes : List N) (table : K → Option ℕ) (n : N) → ((k : K) (d : ℕ) → n ≢ node_of k d) → FindsNumbers node_of nodes table → FindsNumbers node_of (nodes ++ n ∷ []) table
  FindsNumbers-other nodes table n other finds k i = (
    λ e. let before = (finds k i).0 e in (before.0, kept_place nodes n (node_of k before.0) i before.1),
    λ e. ⊎_elim
        (λ (q : slice_get nodes i ≡ Some (node_of k e.0)). (finds k i).1 (e.0, q))
        (λ (q : (i ≡ length nodes) × (n ≡ node_of k e.0)). absurd (other k e.0 q.1))
        (at_pushed nodes n (node_of k e.0) i e.1),
  )

  -- a table with the same answers
  pub FindsNumbers-same : (nodes : List N) (old new : K → Option ℕ) → ((k : K) → new k ≡ old k) → FindsNumbers node_of nodes old → FindsNumbers node_of nodes new
  FindsNumbers-same nodes old new same finds k i = (λ e. (finds k i).0 (sym (same k) ∙ e), λ e. same k ∙ (finds k i).1 e)

  -- the table's answer for a key is its node's number, or the node isn't in the list
  pub FindsNumbers-find : (nodes : List N) (table : K → Option ℕ) (k : K) (answer : Option ℕ) → FindsNumbers node_of nodes table → answer ≡ table k → MatchOption answer ((i d : ℕ) → slice_get nodes i ≢ Some (node_of k d)) (λ i. (d : ℕ) × (slice_get nodes i ≡ Some (node_of k d)))
  FindsNumbers-find nodes table k None finds e = λ i d h. absurd (let known = (finds k i).1 (d, h) in cc)
  FindsNumbers-find nodes table k (Some i) finds e = (finds k i).0 (sym e)

same-operands : (a b : ℕ × ℕ) → a.0 ≡ b.0 → a.1 ≡ b.1 → a ≡ b
same-operands (a, b) (c, d) p q = cc

-- A node in the table of its kind: every other table's answers stay.
module _ {A : Type 0} {leaf : A → Option ℕ} {sum difference : ℕ × ℕ → Option ℕ} {negative : ℕ → Option ℕ} {product : ℕ × ℕ → Option ℕ} (node : SymbolicExpr A) (number : ℕ) where
  pub enters-leaf : {new : A → Option ℕ} (k : A) → node ≡ Leaf k → (leaf k ≡ None → Entered leaf new k number) → (nodes : List (SymbolicExpr A)) → number ≡ length nodes → IsNowhere nodes node → AreNumbered nodes leaf sum difference negative product → AreNumbered (nodes ++ node ∷ []) new sum difference negative product
  enters-leaf {new = new} k is entered nodes count absent old = record {
    leaves = FindsNumbers-push (λ a _. Leaf a) (λ a b d e h. cc) nodes leaf new k 0 node number is count (subst (λ n. IsNowhere nodes n) is absent) old.leaves entered;
    sums = FindsNumbers-other (λ k. Add k.0 k.1) nodes sum node (λ l e h. cc) old.sums;
    differences = FindsNumbers-other (λ k. Sub k.0 k.1) nodes difference node (λ l e h. cc) old.differences;
    negatives = FindsNumbers-other Neg nodes negative node (λ l e h. cc) old.negatives;
    products = FindsNumbers-other (λ k. Mul k.0 k.1) nodes product node (λ l e h. cc) old.products;
  }

  pub enters-sum : {new : ℕ × ℕ → Option ℕ} (k : ℕ × ℕ) (d : ℕ) → node ≡ Add k.0 k.1 d → (sum k ≡ None → Entered sum new k number) → (nodes : List (SymbolicExpr A)) → number ≡ length nodes → IsNowhere nodes node → AreNumbered nodes leaf sum difference negative product → AreNumbered (nodes ++ node ∷ []) leaf new difference negative product
  enters-sum {new = new} k d is entered nodes count absent old = record {
    leaves = FindsNumbers-other (λ a _. Leaf a) nodes leaf node (λ l e h. cc) old.leaves;
    sums = FindsNumbers-push (λ k. Add k.0 k.1) (λ a b d e h. same-operands a b (cc) (cc)) nodes sum new k d node number is count (subst (λ n. IsNowhere nodes n) is absent) old.sums entered;
    differences = FindsNumbers-other (λ k. Sub k.0 k.1) nodes difference node (λ l e h. cc) old.differences;
    negatives = FindsNumbers-other Neg nodes negative node (λ l e h. cc) old.negatives;
    products = FindsNumbers-other (λ k. Mul k.0 k.1) nodes product node (λ l e h. cc) old.products;
  }

  pub enters-difference : {new : ℕ × ℕ → Option ℕ} (k : ℕ × ℕ) (d : ℕ) → node ≡ Sub k.0 k.1 d → (difference k ≡ None → Entered difference new k number) → (nodes : List (SymbolicExpr A)) → number ≡ length nodes → IsNowhere nodes node → AreNumbered nodes leaf sum difference negative product → AreNumbered (nodes ++ node ∷ []) leaf sum new negative product
  enters-difference {new = new} k d is entered nodes count absent old = record {
    leaves = FindsNumbers-other (λ a _. Leaf a) nodes leaf node (λ l e h. cc) old.leaves;
    sums = FindsNumbers-other (λ k. Add k.0 k.1) nodes sum node (λ l e h. cc) old.sums;
    differences = FindsNumbers-push (λ k. Sub k.0 k.1) (λ a b d e h. same-operands a b (cc) (cc)) nodes difference new k d node number is count (subst (λ n. IsNowhere nodes n) is absent) old.differences entered;
    negatives = FindsNumbers-other Neg nodes negative node (λ l e h. cc) old.negatives;
    products = FindsNumbers-other (λ k. Mul k.0 k.1) nodes product node (λ l e h. cc) old.products;
  }

  pub enters-negative : {new : ℕ → Option ℕ} (k : ℕ) (d : ℕ) → node ≡ Neg k d → (negative k ≡ None → Entered negative new k number) → (nodes : List (SymbolicExpr A)) → number ≡ length nodes → IsNowhere nodes node → AreNumbered nodes leaf sum difference negative product → AreNumbered (nodes ++ node ∷ []) leaf sum difference new product
  enters-negative {new = new} k d is entered nodes count absent old = record {
    leaves = FindsNumbers-other (λ a _. Leaf a) nodes leaf node (λ l e h. cc) old.leaves;
    sums = FindsNumbers-other (λ k. Add k.0 k.1) nodes sum node (λ l e h. cc) old.sums;
    differences = FindsNumbers-other (λ k. Sub k.0 k.1) nodes difference node (λ l e h. cc) old.differences;
    negatives = FindsNumbers-push Neg (λ a b d e h. cc) nodes negative new k d node number is count (subst (λ n. IsNowhere nodes n) is absent) old.negatives entered;
    products = FindsNumbers-other (λ k. Mul k.0 k.1) nodes product node (λ l e h. cc) old.products;
  }

  pub enters-product : {new : ℕ × ℕ → Option ℕ} (k : ℕ × ℕ) (d : ℕ) → node ≡ Mul k.0 k.1 d → (product k ≡ None → Entered product new k number) → (nodes : List (SymbolicExpr A)) → number ≡ length nodes → IsNowhere nodes node → AreNumbered nodes leaf sum difference negative product → AreNumbered (nodes ++ node ∷ []) leaf sum difference negative new
  enters-product {new = new} k d is entered nodes count absent old = record {
    leaves = FindsNumbers-other (λ a _. Leaf a) nodes leaf node (λ l e h. cc) old.leaves;
    sums = FindsNumbers-other (λ k. Add k.0 k.1) nodes sum node (λ l e h. cc) old.sums;
    differences = FindsNumbers-other (λ k. Sub k.0 k.1) nodes difference node (λ l e h. cc) old.differences;
    negatives = FindsNumbers-other Neg nodes negative node (λ l e h. cc) old.negatives;
    products = FindsNumbers-push (λ k. Mul k.0 k.1) (λ a b d e h. same-operands a b (cc) (cc)) nodes product new k d node number is count (subst (λ n. IsNowhere nodes n) is absent) old.products entered;
  }

-- A table with the same answers, among the others.
module _ {A : Type 0} {leaf : A → Option ℕ} {sum difference : ℕ × ℕ → Option ℕ} {negative : ℕ → Option ℕ} {product : ℕ × ℕ → Option ℕ} where
  pub keeps-leaf : {new : A → Option ℕ} → ((k : A) → new k ≡ leaf k) → (nodes : List (SymbolicExpr A)) → AreNumbered nodes leaf sum difference negative product → AreNumbered nodes new sum difference negative product
  keeps-leaf {new = new} same nodes old = record { leaves = FindsNumbers-same (λ a _. Leaf a) nodes leaf new same old.leaves; sums = old.sums; differences = old.differences; negatives = old.negatives; products = old.products }

  pub keeps-sum : {new : ℕ × ℕ → Option ℕ} → ((k : ℕ × ℕ) → new k ≡ sum k) → (nodes : List (SymbolicExpr A)) → AreNumbered nodes leaf sum difference negative product → AreNumbered nodes leaf new difference negative product
  keeps-sum {new = new} same nodes old = record { leaves = old.leaves; sums = FindsNumbers-same (λ k. Add k.0 k.1) nodes sum new same old.sums; differences = old.differences; negatives = old.negatives; products = old.products }

  pub keeps-difference : {new : ℕ × ℕ → Option ℕ} → ((k : ℕ × ℕ) → new k ≡ difference k) → (nodes : List (SymbolicExpr A)) → AreNumbered nodes leaf sum difference negative product → AreNumbered nodes leaf sum new negative product
  keeps-difference {new = new} same nodes old = record { leaves = old.leaves; sums = old.sums; differences = FindsNumbers-same (λ k. Sub k.0 k.1) nodes difference new same old.differences; negatives = old.negatives; products = old.products }

  pub keeps-negative : {new : ℕ → Option ℕ} → ((k : ℕ) → new k ≡ negative k) → (nodes : List (SymbolicExpr A)) → AreNumbered nodes leaf sum difference negative product → AreNumbered nodes leaf sum difference new product
  keeps-negative {new = new} same nodes old = record { leaves = old.leaves; sums = old.sums; differences = old.differences; negatives = FindsNumbers-same Neg nodes negative new same old.negatives; products = old.products }

  pub keeps-product : {new : ℕ × ℕ → Option ℕ} → ((k : ℕ × ℕ) → new k ≡ product k) → (nodes : List (SymbolicExpr A)) → AreNumbered nodes leaf sum difference negative product → AreNumbered nodes leaf sum difference negative new
  keeps-product {new = new} same nodes old = record { leaves = old.leaves; sums = old.sums; differences = old.differences; negatives = old.negatives; products = FindsNumbers-same (λ k. Mul k.0 k.1) nodes product new same old.products }
