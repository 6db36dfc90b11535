-- What roots need, and the table of expressions, one place after another.
use Rattle.std.specs.List.{AllZip, Any, list_any}
use Rattle.std.proofs.Common.{◌≡◌, ◌⊎◌, ◌≤◌, ◌||◌, ℕ, zero, suc, ◌+◌, ◌<◌, List, [], ◌∷◌, ◌++◌, length, get_or, slice_get, map, All, Contains, Bool, true, false, eqb, Some, inl, inr, refl, sym, subst, ap, ◌∙◌, arith, ⊎_elim}
use Rattle.std.proofs.lemmas.List.{get_or_default, get_or_append_left, get_or_push, length_push}
use Rattle.std.proofs.lemmas.List.Elements.{All-contains}
use Rattle.std.proofs.lemmas.List.Folds.{Any-from_list_any}
use Rattle.std.proofs.lemmas.Slice.Zip.{AllZip-map}
use Rattle.std.proofs.lemmas.Simd.{map-map}
use Rattle.std.proofs.lemmas.Option.{slice_get-get_or}
use Rattle.air_field.specs.Term.{Term}
use Rattle.air_field.specs.Part.{Part, whole, in_add_left, in_add_right, in_sub_left, in_sub_right, in_neg, in_mul_left, in_mul_right}
use Rattle.air_builder.specs.laws.Parts.{part_of_in}
use Rattle.air_symbolic.specs.Leaves.{Leaves}
use Rattle.air_symbolic.specs.Trees.{term_of}
use Rattle.air_symbolic.specs.Nodes.{node_term, tree_of, operands, IsNode, WellFormed}
use Rattle.air_symbolic.specs.laws.Nodes.{no_operand, the_operand, one_of_two}
use Rattle.air_symbolic.specs.laws.Sharing.{found}
use Rattle.air_symbolic.specs.declared.pools.expr.SymbolicExpr.{SymbolicExpr}
use Rattle.air_symbolic.specs.declared.pools.expr.SymbolicExpr.TheVariants as node
use Rattle.air_builder.specs.Assertion.{Assertion}
use Rattle.air_builder.specs.Refusals.{PartOf}
use Rattle.air_symbolic.specs.Reach.{IsOperand, ReachedFrom, root, operand}
use Rattle.air_audit.specs.declared.flat.step.Step.{Step}
use Rattle.air_audit.specs.Plans.{number_at, has_operand, some_has_operand, IsPlaceOf, IsUsed, IsPlan}
use Rattle.air_audit.specs.Tables.{HasAt, TableMade}

-- an operand's term is a part of the node's
module _ {A F : Type 0} (f : A → Term F) (at : ℕ → Term F) where
  same_part : (i x : ℕ) → i ≡ x → Part (at i) (at x)
  same_part i x e = subst (λ k. Part (at i) (at k)) e whole

  operand_part : (i : ℕ) (n : SymbolicExpr A) → IsOperand i n → Part (at i) (node_term f at n)
  operand_part i (node.Leaf a) p = absurd (no_operand i p)
  operand_part i (node.Add x y d) p = ⊎_elim (λ e. in_add_left (same_part i x e)) (λ e. in_add_right (same_part i y e)) (one_of_two i x y p)
  operand_part i (node.Sub x y d) p = ⊎_elim (λ e. in_sub_left (same_part i x e)) (λ e. in_sub_right (same_part i y e)) (one_of_two i x y p)
  operand_part i (node.Neg x d) p = in_neg (same_part i x (the_operand i x p))
  operand_part i (node.Mul x y d) p = ⊎_elim (λ e. in_mul_left (same_part i x e)) (λ e. in_mul_right (same_part i y e)) (one_of_two i x y p)

eqb_true : (i x : ℕ) → eqb i x ≡ true → i ≡ x
eqb_true i x e = grind (arith, e)

either : (a b : Bool) → (a || b) ≡ true → (a ≡ true) ⊎ (b ≡ true)
either true b e = inl refl
either false b e = inr e

is_operand : {A : Type 0} (i : ℕ) (n : SymbolicExpr A) → has_operand i n ≡ true → IsOperand i n
is_operand i n e = equal_in (Any-from_list_any (λ x. eqb i x) (operands n) e)
  where
    equal_in : Any (λ x. eqb i x ≡ true) (operands n) → Contains (operands n) i
    equal_in (k, x, lt, is, same) = (k, lt, subst (λ d. get_or (operands n) k d ≡ d) (sym (eqb_true i x same)) is)

module _ {A F : Type 0} (l : Leaves A F) (ns : List (SymbolicExpr A)) where
  -- a list that has the roots' terms as parts has those of all that they reach
  reached_part : (roots : List ℕ) (ss : List (Assertion F)) → All (λ i. PartOf (term_of l.term (tree_of ns i)) ss) roots → (i : ℕ) → ReachedFrom l ns roots i → PartOf (term_of l.term (tree_of ns i)) ss
  reached_part roots ss h i (root (k, lt, e)) = subst (λ j. PartOf (term_of l.term (tree_of ns j)) ss) e (h k i lt)
  reached_part roots ss h i (operand {j = j} {n = n} r is p) =
      part_of_in (term_of l.term (tree_of ns i)) (term_of l.term (tree_of ns j)) ss
      (subst (Part (term_of l.term (tree_of ns i))) (sym is.term) (operand_part l.term (λ x. term_of l.term (tree_of ns x)) i n p))
      (reached_part roots ss h j r)

  -- numbers that are in the pool, each of which is a root, or an operand of one of them
  module _ (wf : WellFormed l ns) (roots numbers : List ℕ) (in_pool : (k : ℕ) → k < length numbers → number_at numbers k < length ns)
      (used : (k : ℕ) → k < length numbers → IsUsed ns roots numbers (number_at numbers k)) where
    equal_root : (i : ℕ) → Any (λ r. eqb i r ≡ true) roots → ReachedFrom l ns roots i
    equal_root i (k, r, lt, is, e) = root (k, lt, at)
      where
        at : get_or roots k i ≡ i
        at = subst (λ d. get_or roots k d ≡ d) (sym (eqb_true i r e)) is

    -- an operand of a number's node is reached where that number is
    of_operand : (m i : ℕ) → length ns ≤ i + suc m
        → ((q : ℕ) → q < length numbers → length ns ≤ number_at numbers q + m → ReachedFrom l ns roots (number_at numbers q))
        → Any (λ j. some_has_operand i (slice_get ns j) ≡ true) numbers → ReachedFrom l ns roots i
    of_operand m i far earlier (q, j, q_in, is, e) =
        let same : number_at numbers q ≡ j = get_or_default numbers q 0 j q_in ∙ is in
        let here : j < length ns = subst (λ v. v < length ns) same (in_pool q q_in) in
        let f : (n : SymbolicExpr A) × IsNode l ns j n = found l ns wf j here in
        let p : IsOperand i f.0 = is_operand i f.0 (subst (λ o. some_has_operand i o ≡ true) f.1.node e) in
        let less = All-contains (λ x. x < j) (operands f.0) i f.1.below p in
        operand (subst (λ v. ReachedFrom l ns roots v) same (earlier q q_in (omega (arith, far, less, same)))) f.1 p

    -- the roots reach each number
    needed : (m k : ℕ) → k < length numbers → length ns ≤ number_at numbers k + m → ReachedFrom l ns roots (number_at numbers k)
    needed zero k lt far = let here = in_pool k lt in absurd (omega (arith, here, far))
    needed (suc m) k lt far =
        let i = number_at numbers k in
        ⊎_elim
        (λ (a : list_any (λ r. eqb i r) roots ≡ true). equal_root i (Any-from_list_any (λ r. eqb i r) roots a))
        (λ (b : list_any (λ j. some_has_operand i (slice_get ns j)) numbers ≡ true). of_operand m i far (λ q q_in less. needed m q q_in less) (Any-from_list_any (λ j. some_has_operand i (slice_get ns j)) numbers b))
        (either (list_any (λ r. eqb i r) roots) (list_any (λ j. some_has_operand i (slice_get ns j)) numbers) (used k lt))

    pub number_reached : (k : ℕ) → k < length numbers → ReachedFrom l ns roots (number_at numbers k)
    number_reached k lt = needed (length ns) k lt (omega arith)

    -- a list that has the terms at the roots' places as parts has those of all numbers
    pub number_part : (ss : List (Assertion F)) → All (λ i. PartOf (term_of l.term (tree_of ns i)) ss) roots → (k : ℕ) → k < length numbers → PartOf (term_of l.term (tree_of ns (number_at numbers k))) ss
    number_part ss all k lt = reached_part roots ss all (number_at numbers k) (number_reached k lt)

-- the roots are the numbers of their places
pub roots_are : (numbers places roots : List ℕ) → AllZip (λ p i. i ≡ number_at numbers p) places roots → roots ≡ map (number_at numbers) places
roots_are numbers places roots z = AllZip-map (number_at numbers) places roots z

-- the terms of the roots are those of the numbers of their places
pub planned_terms : {T : Type 0} (term : ℕ → T) (numbers places roots : List ℕ) → AllZip (λ p i. i ≡ number_at numbers p) places roots → map (λ p. term (number_at numbers p)) places ≡ map term roots
planned_terms term numbers places roots z = sym (map-map term (number_at numbers) places) ∙ ap (map term) (sym (roots_are numbers places roots z))

-- the same plan is one of the numbers of its roots' places
pub plan_of_places : {A F : Type 0} (l : Leaves A F) (ns : List (SymbolicExpr A)) (roots numbers : List ℕ) (steps : List Step) (places : List ℕ) → IsPlan l ns roots numbers steps places → IsPlan l ns (map (number_at numbers) places) numbers steps places
plan_of_places l ns roots numbers steps places h = subst (λ v. IsPlan l ns v numbers steps places) (roots_are numbers places roots h.stand) h

-- what a table has at the place of a number is made of the number's term
pub made_at_place : {E F : Type 0} (P : Term F → E → Type 0) (term : ℕ → Term F) (numbers : List ℕ) (table : List E) (k p i : ℕ) → TableMade P term numbers table k → IsPlaceOf numbers k p i → HasAt (P (term i)) table p
made_at_place P term numbers table k p i h at = subst (λ j. HasAt (P (term j)) table p) (sym at.1) (h p at.0)

-- a table gets one place more
pub table_more : {E F : Type 0} (P Q : Term F → E → Type 0) (term : ℕ → Term F) (numbers : List ℕ) (table : List E) (k : ℕ) (x : E) → length table ≡ k → ((t : Term F) (y : E) → P t y → Q t y) → TableMade P term numbers table k → Q (term (number_at numbers k)) x → TableMade Q term numbers (table ++ x ∷ []) (k + 1)
table_more {E} P Q term numbers table k x long f h new p below =
    ⊎_elim
    (λ (b : p < k).
    let y = h p b in
    (y.0, kept p y.0 (omega (arith, b, long)) ∙ y.1, f (term (number_at numbers p)) y.0 y.2))
    (λ (e : p ≡ k). (x, last p e, subst (λ v. Q (term (number_at numbers v)) x) (sym e) new))
    (before_or_at p k below)
  where
    before_or_at : (p k : ℕ) → p < k + 1 → (p < k) ⊎ (p ≡ k)
    before_or_at p k below = grind (arith, below)

    size : length (table ++ x ∷ []) ≡ length table + 1
    size = length_push table x

    kept : (p : ℕ) (d : E) → p < length table → slice_get (table ++ x ∷ []) p ≡ slice_get table p
    kept p d lt =
        slice_get-get_or (table ++ x ∷ []) p d (omega (arith, size, lt))
        ∙ ap (λ y. Some y) (get_or_append_left table (x ∷ []) d p lt)
        ∙ sym (slice_get-get_or table p d lt)

    last : (p : ℕ) → p ≡ k → slice_get (table ++ x ∷ []) p ≡ Some x
    last p e =
        slice_get-get_or (table ++ x ∷ []) p x (omega (arith, size, long, e))
        ∙ ap (λ y. Some y) (get_or_push table x x p (long ∙ sym e))
