-- The answer of a simplified operation simplifies its term.
use Rattle.std.proofs.Common.{Result, IfOk, Decides, ℕ, ◌<◌, length, ◌≡◌, Bool, true, false, cond, refl, sym, ap, ap₂, subst, ◌∙◌, arith}
use Rattle.std.proofs.lemmas.Result.{IfOk-weaker}
use Rattle.std.specs.Prelude.{Option, None, Some, option_map}
use Rattle.air_field.specs.Ring.{CommRing, minus}
use Rattle.air_field.specs.Term.{Term, const_term, add_term, sub_term, neg_term, mul_term}
use Rattle.air_field.specs.Same.{Same, same_refl, same_trans, same_add, same_neg, same_mul, const_add, const_mul, add_zero, mul_one, Simplifies}
use Rattle.air_field.specs.laws.Same.{same_sub, const_sub, const_neg, zero_add, zero_sub, sub_zero, zero_mul, mul_zero, one_mul}
use Rattle.air_field.specs.laws.Degree.{Simplifies-refl}
use Rattle.air_symbolic.specs.Leaves.{Leaves, Keeps, LeafLaws}
use Rattle.air_symbolic.specs.Trees.{Tree, leaf_tree, add_tree, sub_tree, neg_tree, mul_tree, both, term_of, IsValidTree, tree_constant}
use Rattle.air_symbolic.specs.laws.Numbers.{term_of-kept, tree_of-valid, both-valid, both-term, negative-valid, negative-term}
use Rattle.air_symbolic.specs.Pools.{Pool, IsPool, Grown, tree_at, term_at, constant_at, IsConst, HasTree, HasConst}
use Rattle.air_symbolic.specs.Simplification.{simplified_by_zero, simplified_sum, simplified_difference, simplified_product, simplified_negative, IsSimplified, HasSimplified, IsOperation}
use Rattle.air_symbolic.specs.declared.pools.simplify.Simplified.{Simplified}
use Rattle.air_symbolic.specs.declared.pools.simplify.Simplified.TheVariants.{Constant, Left, Right, Negated}

-- the operand with the term x equals the constant o, if it is one
abbrev IsKnown : {F : Type 0} → CommRing F → Term F → Option F → Type 0
IsKnown {F = F} r x o = (a : F) → o ≡ Some a → Same r (const_term a) x

-- the answer of a simplified operation on terms x and y simplifies the term z
abbrev CaseSimplifies : {F : Type 0} → CommRing F → Term F → Term F → Term F → Option (Simplified F) → Type 0
CaseSimplifies r x y z None = Unit {0}
CaseSimplifies r x y z (Some (Constant c)) = Same r (const_term c) z
CaseSimplifies r x y z (Some Left) = Simplifies r x z
CaseSimplifies r x y z (Some Right) = Simplifies r y z
CaseSimplifies r x y z (Some Negated) = Simplifies r (neg_term y) z

module _ {F : Type 0} (r : CommRing F) where
  cond-simplifies : (b : Bool) (x y z : Term F) (f g : Option (Simplified F)) → (b ≡ true → CaseSimplifies r x y z f) → CaseSimplifies r x y z g → CaseSimplifies r x y z (cond b f g)
  cond-simplifies true x y z f g h k = h refl
  cond-simplifies false x y z f g h k = k

  simplified_negative-is : (o : Option F) (x y : Term F) → IsKnown r x o → CaseSimplifies r x y (neg_term x) (simplified_negative r o)
  simplified_negative-is (Some a) x y h = same_trans const_neg (same_neg (h a refl))
  simplified_negative-is None x y h = tt

module _ {F : Type 0} (r : CommRing F) (eq : F → F → Bool) (decides : (x y : F) → Decides (eq x y) (x ≡ y)) where
  -- the case f applies if the operand u, the constant a, equals b
  tested-simplifies : (a b : F) (u x y z : Term F) (f g : Option (Simplified F)) → IsKnown r u (Some a) → (Same r (const_term b) u → CaseSimplifies r x y z f) → CaseSimplifies r x y z g → CaseSimplifies r x y z (cond (eq a b) f g)
  tested-simplifies a b u x y z f g h k = cond-simplifies r (eq a b) x y z f g (λ e. k (h b (ap (λ (c : F). Some c) ((decides a b).0 e))))

  simplified_product-is : (o p : Option F) (x y : Term F) → IsKnown r x o → IsKnown r y p → CaseSimplifies r x y (mul_term x y) (simplified_product r eq o p)
  simplified_product-is (Some a) (Some b) x y h k = same_trans const_mul (same_mul (h a refl) (k b refl))
  simplified_product-is (Some a) None x y h k =
      tested-simplifies a r.zero x x y _ (Some (Constant r.zero)) _ h (λ c. same_trans zero_mul (same_mul c same_refl))
      (tested-simplifies a r.one x x y _ (Some Right) None h (λ c. record { same = same_trans one_mul (same_mul c same_refl); degree_le = λ w. omega arith }) tt)
  simplified_product-is None (Some b) x y h k =
      tested-simplifies b r.zero y x y _ (Some (Constant r.zero)) _ k (λ c. same_trans mul_zero (same_mul same_refl c))
      (tested-simplifies b r.one y x y _ (Some Left) None k (λ c. record { same = same_trans mul_one (same_mul same_refl c); degree_le = λ w. omega arith }) tt)
  simplified_product-is None None x y h k = tt

  simplified_by_zero-is : (op : F → F → F) (from_zero : Simplified F) (term : Term F → Term F → Term F)
      → ((a b : F) (x y : Term F) → Same r (const_term a) x → Same r (const_term b) y → Same r (const_term (op a b)) (term x y))
      → ((x y : Term F) → Same r (const_term r.zero) x → CaseSimplifies r x y (term x y) (Some from_zero))
      → ((x y : Term F) → Same r (const_term r.zero) y → Simplifies r x (term x y))
      → (o p : Option F) (x y : Term F) → IsKnown r x o → IsKnown r y p → CaseSimplifies r x y (term x y) (simplified_by_zero r eq op from_zero o p)
  simplified_by_zero-is op from_zero term known left_zero right_zero (Some a) (Some b) x y h k = known a b x y (h a refl) (k b refl)
  simplified_by_zero-is op from_zero term known left_zero right_zero (Some a) None x y h k = tested-simplifies a r.zero x x y _ (Some from_zero) None h (left_zero x y) tt
  simplified_by_zero-is op from_zero term known left_zero right_zero None (Some b) x y h k = tested-simplifies b r.zero y x y _ (Some Left) None k (right_zero x y) tt
  simplified_by_zero-is op from_zero term known left_zero right_zero None None x y h k = tt

  simplified_sum-is : (o p : Option F) (x y : Term F) → IsKnown r x o → IsKnown r y p → CaseSimplifies r x y (add_term x y) (simplified_sum r eq o p)
  simplified_sum-is =
      simplified_by_zero-is r.add Right add_term (λ a b x y h k. same_trans const_add (same_add h k))
      (λ x y c. record { same = same_trans zero_add (same_add c same_refl); degree_le = λ w. omega arith })
      (λ x y c. record { same = same_trans add_zero (same_add same_refl c); degree_le = λ w. omega arith })

  simplified_difference-is : (o p : Option F) (x y : Term F) → IsKnown r x o → IsKnown r y p → CaseSimplifies r x y (sub_term x y) (simplified_difference r eq o p)
  simplified_difference-is =
      simplified_by_zero-is (minus r) Negated sub_term (λ a b x y h k. same_trans const_sub (same_sub h k))
      (λ x y c. record { same = same_trans zero_sub (same_sub c same_refl); degree_le = λ w. omega arith })
      (λ x y c. record { same = same_trans sub_zero (same_sub same_refl c); degree_le = λ w. omega arith })

-- The parts of an operation: its node, its simplification, and its term.
pub record Operates {A F : Type 0} (r : CommRing F) (l : Leaves A F) (node : Option (Tree A) → Option (Tree A) → Option (Tree A)) (simplify : Option F → Option F → Option (Simplified F)) (term : Term F → Term F → Term F) : Type 0 where
  pub valid : (t u : Option (Tree A)) → IsValidTree l.valid t → IsValidTree l.valid u → IsValidTree l.valid (node t u)
  pub means : (t u : Option (Tree A)) → IsValidTree l.valid t → IsValidTree l.valid u → term_of l.term (node t u) ≡ term (term_of l.term t) (term_of l.term u)
  pub simplifies : (o p : Option F) (x y : Term F) → IsKnown r x o → IsKnown r y p → CaseSimplifies r x y (term x y) (simplify o p)

module _ {A F : Type 0} {r : CommRing F} {eq : F → F → Bool} (decides : (x y : F) → Decides (eq x y) (x ≡ y)) (l : Leaves A F) where
  pub sum : Operates r l (both add_tree) (simplified_sum r eq) add_term
  sum = record {
    valid = both-valid l.valid add_tree (λ t u h k. (h, k));
    means = both-term l.valid l.term add_tree add_term (λ t u. refl);
    simplifies = simplified_sum-is r eq decides;
  }

  pub difference : Operates r l (both sub_tree) (simplified_difference r eq) sub_term
  difference = record {
    valid = both-valid l.valid sub_tree (λ t u h k. (h, k));
    means = both-term l.valid l.term sub_tree sub_term (λ t u. refl);
    simplifies = simplified_difference-is r eq decides;
  }

  pub product : Operates r l (both mul_tree) (simplified_product r eq) mul_term
  product = record {
    valid = both-valid l.valid mul_tree (λ t u h k. (h, k));
    means = both-term l.valid l.term mul_tree mul_term (λ t u. refl);
    simplifies = simplified_product-is r eq decides;
  }

pub negative : {A F : Type 0} (r : CommRing F) (l : Leaves A F) → Operates r l (λ t _. option_map neg_tree t) (λ o _. simplified_negative r o) (λ x _. neg_term x)
negative r l = record {
  valid = λ t u h k. negative-valid l.valid t h;
  means = λ t u h k. negative-term l.valid l.term t h;
  simplifies = λ o p x y h k. simplified_negative-is r o x y h;
}

module _ {A F : Type 0} (r : CommRing F) (l m : Leaves A F) (constant_is : (a : A) (c : F) → l.valid a → l.constant a ≡ Some c → Same r (const_term c) (l.term a)) (k : Keeps l m) where
  const-is : (t : Option (Tree A)) → IsValidTree l.valid t → (a : F) → tree_constant l.constant t ≡ Some a → Same r (const_term a) (term_of l.term t)
  const-is None h a e = absurd h
  const-is (Some (leaf_tree x)) h a e = constant_is x a h e
  const-is (Some (add_tree t u)) h a e = cc
  const-is (Some (sub_tree t u)) h a e = cc
  const-is (Some (neg_tree t)) h a e = cc
  const-is (Some (mul_tree t u)) h a e = cc

  by_const : (c : F) (v : Option (Tree A)) (x : Term F) → IsConst m c v → Same r (const_term c) x → Simplifies r (term_of m.term v) x
  by_const c v x h s =
      subst (λ y. Simplifies r y x) (sym (ap (term_of m.term) h.1 ∙ h.2.term))
      record { same = s; degree_le = λ w. omega arith }

  by_tree : (v s : Option (Tree A)) (x : Term F) → v ≡ s → IsValidTree l.valid s → Simplifies r (term_of l.term s) x → Simplifies r (term_of m.term v) x
  by_tree v s x e h st =
      subst (λ y. Simplifies r y x) (sym (ap (term_of m.term) e ∙ term_of-kept l m k s h)) st

  -- a simplified tree simplifies the node's term, if the case does
  each_case-simplifies : (t u node v : Option (Tree A)) (f : Option (Simplified F)) → IsValidTree l.valid t → IsValidTree l.valid u → IsValidTree l.valid node → CaseSimplifies r (term_of l.term t) (term_of l.term u) (term_of l.term node) f → IsSimplified m t u node f v → Simplifies r (term_of m.term v) (term_of l.term node)
  each_case-simplifies t u plain v None ht hu hn s h = by_tree v plain (term_of l.term plain) h hn (Simplifies-refl r (term_of l.term plain))
  each_case-simplifies t u plain v (Some (Constant c)) ht hu hn s h = by_const c v (term_of l.term plain) h s
  each_case-simplifies t u plain v (Some Left) ht hu hn s h = by_tree v t (term_of l.term plain) h ht s
  each_case-simplifies t u plain v (Some Right) ht hu hn s h = by_tree v u (term_of l.term plain) h hu s
  each_case-simplifies t u plain v (Some Negated) ht hu hn s h =
      by_tree v (option_map neg_tree u) (term_of l.term plain) h (negative-valid l.valid u hu)
      (subst (λ x. Simplifies r x (term_of l.term plain)) (sym (negative-term l.valid l.term u hu)) s)

  -- a simplified operation simplifies its term
  pub operation-simplifies : {node : Option (Tree A) → Option (Tree A) → Option (Tree A)} {simplify : Option F → Option F → Option (Simplified F)} {term : Term F → Term F → Term F} → Operates r l node simplify term
      → (t u : Option (Tree A)) → IsValidTree l.valid t → IsValidTree l.valid u → (v : Option (Tree A)) → IsSimplified m t u (node t u) (simplify (tree_constant l.constant t) (tree_constant l.constant u)) v
      → Simplifies r (term_of m.term v) (term (term_of l.term t) (term_of l.term u))
  operation-simplifies {node = node} {simplify = simplify} o t u ht hu v h =
      let x = term_of l.term t in
      let y = term_of l.term u in
      let f = simplify (tree_constant l.constant t) (tree_constant l.constant u) in
      let is_simplified = subst (λ z. CaseSimplifies r x y z f) (sym (o.means t u ht hu)) (o.simplifies _ _ x y (const-is t ht) (const-is u hu)) in
      subst (Simplifies r (term_of m.term v)) (o.means t u ht hu) (each_case-simplifies t u (node t u) v f ht hu (o.valid t u ht hu) is_simplified h)

-- The same for the numbers that a pool's simplified calls answer.
module _ {U A F E : Type 0} {r : CommRing F} {reads : U → Leaves A F} {grows : U → U → Type 0} {empty : U} (laws : LeafLaws r reads grows empty) {p q : Pool U A} (pool : IsPool reads p) (grown : Grown grows reads p q)
    {node : Option (Tree A) → Option (Tree A) → Option (Tree A)} {simplify : Option F → Option F → Option (Simplified F)} {term : Term F → Term F → Term F} (o : Operates r (reads p.base) node simplify term)
    {x y : ℕ} (x_in : x < length p.nodes) (y_in : y < length p.nodes) (answer : Result ℕ E) where
  -- the answer is the operation, and simplifies its term
  abbrev pub Answers : Type 0
  Answers = IfOk answer (IsOperation reads p q node simplify x y) × IfOk answer (λ z. Simplifies r (term_at reads q z) (term (term_at reads p x) (term_at reads p y)))

  whole_at : (i : ℕ) → i < length p.nodes → IsValidTree (reads p.base).valid (tree_at p i)
  whole_at i b = tree_of-valid (reads p.base) p.nodes pool.nodes i b

  answers : (f : Option (Simplified F)) → simplify (constant_at reads p x) (constant_at reads p y) ≡ f → IfOk answer (λ z. (z < length q.nodes) × IsSimplified (reads q.base) (tree_at p x) (tree_at p y) (node (tree_at p x) (tree_at p y)) f (tree_at q z)) → Answers
  answers f is h =
      let made = IfOk-weaker answer _ (IsOperation reads p q node simplify x y)
      (λ z m. record { here = m.0; tree = subst (λ g. IsSimplified (reads q.base) (tree_at p x) (tree_at p y) (node (tree_at p x) (tree_at p y)) g (tree_at q z)) (sym is) m.1 }) h in (
        made,
        IfOk-weaker answer _ _
            (λ z m. operation-simplifies r (reads p.base) (reads q.base) (laws.constant_is p.base) (laws.keeps p.base q.base grown.base) o (tree_at p x) (tree_at p y) (whole_at x x_in) (whole_at y y_in) (tree_at q z) m.tree)
            made,
      )

  pub is_simplified : {a b : Option F} {g : Option (Simplified F)} {f : Simplified F} → a ≡ constant_at reads p x → b ≡ constant_at reads p y → g ≡ simplify a b → g ≡ Some f → IfOk answer (HasSimplified reads q (tree_at p x) (tree_at p y) f) → Answers
  is_simplified {f = f} left right found is made =
      answers (Some f) (sym (ap₂ simplify left right) ∙ sym found ∙ is) (IfOk-weaker answer _ _ (λ z h. (h.here, h.tree)) made)

  pub needs_node : {a b : Option F} {g : Option (Simplified F)} → a ≡ constant_at reads p x → b ≡ constant_at reads p y → g ≡ simplify a b → g ≡ None → IfOk answer (HasTree q (node (tree_at p x) (tree_at p y))) → Answers
  needs_node left right found is made =
      answers None (sym (ap₂ simplify left right) ∙ sym found ∙ is) (IfOk-weaker answer _ _ (λ z h. (h.here, h.tree)) made)

  pub is_constant : {a b : F} → simplify (constant_at reads p x) (constant_at reads p y) ≡ Some (Constant a) → b ≡ a → IfOk answer (HasConst reads q b) → Answers
  is_constant {a = a} found is made =
      answers (Some (Constant a)) found
      (IfOk-weaker answer _ _ (λ z h. (h.here, subst (λ d. IsConst (reads q.base) d (tree_at q z)) is h.constant)) made)
