-- The plan of roots.
use Rattle.std.specs.List.{AllZip, list_any}
use Rattle.std.proofs.Common.{slice_get, ◌≡◌, ◌⊎◌, ◌≤◌, ◌||◌, ℕ, zero, suc, ◌+◌, ◌<◌, List, [], ◌∷◌, ◌++◌, length, get_or, All, Bool, true, false, eqb, Option, None, Some, inl, inr, refl, sym, subst, ap, ◌∙◌, arith, ⊎_elim}
use Rattle.std.proofs.lemmas.List.Elements.{All-head, All-tail, All-contains}
use Rattle.std.proofs.lemmas.List.Folds.{list_any_at}
use Rattle.std.proofs.Math.ListN.{get_or-eq_default}
use Rattle.std.proofs.lemmas.List.{get_or_default, get_or_append_left, get_or_push}
use Rattle.air_symbolic.specs.Leaves.{Leaves}
use Rattle.air_symbolic.specs.Nodes.{operands, IsNode, OperandsBelow}
use Rattle.air_symbolic.specs.Reach.{EachOperand, IsOperand, Marked, Reached, ReachedFrom, root, operand}
use Rattle.air_symbolic.specs.declared.pools.expr.SymbolicExpr.{SymbolicExpr}
use Rattle.air_audit.specs.declared.flat.step.Step.{Step}
use Rattle.air_audit.specs.declared.flat.step.Step.TheVariants as step
use Rattle.air_audit.specs.Plans.{number_at, IsPlaceOf, step_places, StepMakes, MakesPlace, AreSteps, has_operand, some_has_operand, IsUsed, IsPlan, HavePlaces}
use Rattle.air_audit.specs.ExtPlans.{HaveRoots, IsOrder}

-- operands below k
pub each_below : {A : Type 0} (P Q : ℕ → Type 0) (k : ℕ) (n : SymbolicExpr A) → ((i : ℕ) → i < k → P i → Q i) → OperandsBelow k n → EachOperand P n → EachOperand Q n
each_below P Q k n f b h = λ j d lt. f _ (b j d lt) (h j d lt)

pub each_within : {A : Type 0} (k m : ℕ) (n : SymbolicExpr A) → k ≤ m → OperandsBelow k n → EachOperand (λ i. i < m) n
each_within k m n le b = λ j d lt. let low = b j d lt in omega (arith, le, low)

-- places that some operands have, in another way
zip_placed : (P Q : ℕ → ℕ → Type 0) (R : ℕ → Type 0) → ((p i : ℕ) → R i → P p i → Q p i) → (places is : List ℕ) → All R is → AllZip P places is → AllZip Q places is
zip_placed P Q R f [] [] r h = tt
zip_placed P Q R f [] (i ∷ is) r h = absurd h
zip_placed P Q R f (p ∷ places) [] r h = absurd h
zip_placed P Q R f (p ∷ places) (i ∷ is) r h = (f p i (All-head R i is r) h.0, zip_placed P Q R f places is (All-tail R i is r) h.1)

-- One step more makes the node of place k, whose operands stand before it.
pub one_step_more : {A F : Type 0} (l : Leaves A F) (ns : List (SymbolicExpr A)) (numbers places : List ℕ) (k id : ℕ) (steps new : List Step) (s : Step) (n : SymbolicExpr A)
    → new ≡ steps ++ s ∷ [] → length steps ≡ k → ((j : ℕ) → j < k → MakesPlace l ns numbers j (get_or steps j step.Leaf))
    → k < length numbers → id ≡ get_or numbers k id → IsNode l ns id n
    → ((m : SymbolicExpr A) → IsNode l ns (number_at numbers k) m → EachOperand (λ i. IsPlaceOf numbers k (get_or places i 0) i) m)
    → StepMakes l (λ p i. p ≡ get_or places i 0) s n → (j : ℕ) → j < k + 1 → MakesPlace l ns numbers j (get_or new j step.Leaf)
one_step_more l ns numbers places k id steps new s n pushed long before in_numbers at is placed made j below =
    subst (λ x. MakesPlace l ns numbers j x) (sym (ap (λ xs. get_or xs j step.Leaf) pushed))
    (⊎_elim
    (λ (lt : j < k).
    subst (λ x. MakesPlace l ns numbers j x) (sym (get_or_append_left steps (s ∷ []) step.Leaf j (omega (arith, lt, long)))) (before j lt))
    (λ (last : j ≡ k).
    subst (λ x. MakesPlace l ns numbers j x) (sym (get_or_push steps s step.Leaf j (long ∙ sym last)))
    (subst (λ i. MakesPlace l ns numbers i s) (sym last) makes))
    (before_or_at j k below))
  where
    before_or_at : (j k : ℕ) → j < k + 1 → (j < k) ⊎ (j ≡ k)
    before_or_at j k b = grind (arith, b)

    number : number_at numbers k ≡ id
    number = get_or_default numbers k 0 id in_numbers ∙ sym at

    makes : MakesPlace l ns numbers k s
    makes m m_is =
        let one : Some n ≡ Some m = sym is.node ∙ ap (slice_get ns) (sym number) ∙ m_is.node in
        let same : n ≡ m = cc in
        subst (StepMakes l (IsPlaceOf numbers k) s) same (
          made.0,
          zip_placed (λ p i. p ≡ get_or places i 0) (IsPlaceOf numbers k) (λ i. IsPlaceOf numbers k (get_or places i 0) i)
              (λ p i r e. subst (λ q. IsPlaceOf numbers k q i) (sym e) r)
              (step_places s) (operands n) (placed n (subst (λ v. IsNode l ns v n) (sym number) is)) made.1,
        )

eqb_same : (i x : ℕ) → i ≡ x → eqb i x ≡ true
eqb_same i x e = grind (arith, e)

or_left : (a b : Bool) → a ≡ true → (a || b) ≡ true
or_left true b e = refl
or_left false b e = cc

or_right : (a b : Bool) → b ≡ true → (a || b) ≡ true
or_right true b e = refl
or_right false b e = e

operand_found : {A : Type 0} (i : ℕ) (n : SymbolicExpr A) → IsOperand i n → has_operand i n ≡ true
operand_found i n (k, lt, e) = list_any_at (λ x. eqb i x) (operands n) k i lt (eqb_same i (get_or (operands n) k i) (sym e))

-- the roots' places
roots_within : (numbers table places roots : List ℕ) → All (λ i. IsPlaceOf numbers (length numbers) (get_or table i 0) i) roots → AllZip (λ p i. p ≡ get_or table i 0) places roots → All (λ p. p < length numbers) places
roots_within numbers table [] [] h z = λ k d lt. absurd (omega (arith, lt))
roots_within numbers table [] (i ∷ roots) h z = absurd z
roots_within numbers table (p ∷ places) [] h z = absurd z
roots_within numbers table (p ∷ places) (i ∷ roots) h z = all_cons p places
    (let at = h 0 i (omega arith) in let here = z.0 in omega (arith, at.0, here))
    (roots_within numbers table places roots (λ k d lt. h (suc k) d (omega (arith, lt))) z.1)
  where
    all_cons : (p : ℕ) (places : List ℕ) → p < length numbers → All (λ q. q < length numbers) places → All (λ q. q < length numbers) (p ∷ places)
    all_cons p places lt h zero d b = lt
    all_cons p places lt h (suc k) d b = h k d (omega (arith, b))

roots_placed : (numbers table places roots : List ℕ) → All (λ i. IsPlaceOf numbers (length numbers) (get_or table i 0) i) roots → AllZip (λ p i. p ≡ get_or table i 0) places roots → AllZip (λ p i. i ≡ number_at numbers p) places roots
roots_placed numbers table [] [] h z = tt
roots_placed numbers table [] (i ∷ roots) h z = absurd z
roots_placed numbers table (p ∷ places) [] h z = absurd z
roots_placed numbers table (p ∷ places) (i ∷ roots) h z = (
  (h 0 i (omega arith)).1 ∙ ap (λ q. number_at numbers q) (sym z.0),
  roots_placed numbers table places roots (λ k d lt. h (suc k) d (omega (arith, lt))) z.1,
)

-- each root has an entry in the table
pub roots_long : (count : ℕ) (numbers table roots : List ℕ) → HaveRoots count numbers table roots → All (λ i. i < count) roots → All (λ i. i < length table) roots
roots_long count numbers table roots h here k d lt = let at = here k d lt in omega (arith, at, h.long)

-- steps for numbers in an order are a plan
module _ {A F : Type 0} (l : Leaves A F) (ns : List (SymbolicExpr A)) (roots numbers table : List ℕ) (h : IsOrder l ns roots numbers table) where
  pub order_here : All (λ i. i < length ns) numbers
  order_here k d lt = subst (λ i. i < length ns) (get_or_default numbers k 0 d lt) (h.here k lt)

  pub is_plan : (steps : List Step) (places : List ℕ) → AreSteps l ns numbers steps → AllZip (λ p i. p ≡ get_or table i 0) places roots → IsPlan l ns roots numbers steps places
  is_plan steps places made z = record {
    here = h.here;
    made = made;
    within = roots_within numbers table places roots h.rooted.placed z;
    stand = roots_placed numbers table places roots h.rooted.placed z;
    used = h.used;
  }

module _ {A F : Type 0} (l : Leaves A F) (ns : List (SymbolicExpr A)) (roots : List ℕ) (marks : List (Option ℕ)) (r : Reached l ns roots marks) where
  -- what is marked has a place
  pub marked_here : (i : ℕ) → Marked marks i → i < length ns
  marked_here i m = ⊎_elim (λ (lt : i < length ns). lt) (λ (past : length ns ≤ i). absurd (nothing past)) (below_or_past i (length ns))
    where
      below_or_past : (i k : ℕ) → (i < k) ⊎ (k ≤ i)
      below_or_past i k = grind arith

      empty : None ≡ Some i → ⊥
      empty e = cc

      nothing : length ns ≤ i → ⊥
      nothing past = empty (sym (get_or-eq_default marks None (omega (arith, past, r.places))) ∙ m)

  reached_marked : (i : ℕ) → ReachedFrom l ns roots i → Marked marks i
  reached_marked i (root (k, lt, e)) = subst (λ j. Marked marks j) e (r.roots_marked k i lt)
  reached_marked i (operand {j = j} {n = n} f is p) = All-contains (λ k. Marked marks k) (operands n) i (r.operands_marked j n (reached_marked j f) is) p

  module _ (numbers table : List ℕ) (h : HavePlaces marks numbers table) where
    -- what is reached is needed
    reached_used : (i : ℕ) → ReachedFrom l ns roots i → IsUsed ns roots numbers i
    reached_used i (root (k, lt, e)) =
        or_left (list_any (λ j. eqb i j) roots) (list_any (λ j. some_has_operand i (slice_get ns j)) numbers)
        (list_any_at (λ j. eqb i j) roots k i lt (eqb_same i (get_or roots k i) (sym e)))
    reached_used i (operand {j = j} {n = n} f is p) =
        let at = h.placed j (reached_marked j f) in
        let q = get_or table j 0 in
        let found : some_has_operand i (slice_get ns j) ≡ true = ap (λ o. some_has_operand i o) is.node ∙ operand_found i n p in
        or_right (list_any (λ j. eqb i j) roots) (list_any (λ j. some_has_operand i (slice_get ns j)) numbers)
        (list_any_at (λ j. some_has_operand i (slice_get ns j)) numbers q 0 at.0 (subst (λ v. some_has_operand i (slice_get ns v) ≡ true) at.1 found))

    pub is_order : IsOrder l ns roots numbers table
    is_order = record {
      here = λ k lt. marked_here (number_at numbers k) (h.marked k lt);
      before = λ k lt n is. each_below (λ i. Marked marks i) (λ i. IsPlaceOf numbers k (get_or table i 0) i) (number_at numbers k) n
          (λ i below m. h.before k i lt below m) is.below (r.operands_marked (number_at numbers k) n (h.marked k lt) is);
      rooted = record {
        long = h.long ∙ r.places;
        placed = λ k d lt. h.placed (get_or roots k d) (r.roots_marked k d lt);
      };
      used = λ k lt. reached_used (number_at numbers k) (r.only_reached (number_at numbers k) (number_at numbers k) (h.marked k lt)).1;
    }
