-- The simplified sum or product of a list, step by step.
use Rattle.std.proofs.Common.{◌≡◌, ℕ, suc, ◌+◌, ◌<◌, ◌≤◌, ◌^◌, Bool, List, [], ◌∷◌, All, length, map, refl, sym, ap, ap₂, subst, ◌∙◌, arith, inl, inr, drop, get_or, drop-cons, add-one, ◌-◌, take}
use Rattle.std.proofs.lemmas.List.{take_rest}
use Rattle.std.specs.Prelude.{Option, Some, None}
use Rattle.air_field.specs.Ring.{CommRing}
use Rattle.air_field.specs.Degree.{degree_by, cached_weight}
use Rattle.air_symbolic.specs.Leaves.{Leaves, Keeps, LeafLaws}
use Rattle.air_symbolic.specs.Trees.{Tree, leaf_tree, add_tree, sub_tree, neg_tree, mul_tree, both, term_of, tree_constant, IsValidTree}
use Rattle.air_symbolic.specs.Pools.{Pool, IsPool, Grown, tree_at, term_at, constant_at, IsConst}
use Rattle.air_symbolic.specs.laws.Pools.{Grown-refl, Grown-trans, here-kept, tree-kept}
use Rattle.air_symbolic.specs.laws.Numbers.{tree_of-valid, term_of-kept}
use Rattle.air_symbolic.specs.Simplification.{IsSimplified, simplified_sum, simplified_product, IsSum, IsProduct, NeedsNode}
use Rattle.air_symbolic.specs.SimplifiedLists.{JoinedFrom, IsJoined, SumStep, ProductStep, Overflows, OverflowsFrom, ProductOverflows, IsSumOfAll, IsProductOfAll}
use Rattle.air_symbolic.specs.declared.pools.simplify.Simplified.{Simplified}
use Rattle.air_symbolic.specs.declared.pools.simplify.Simplified.TheVariants.{Constant, Left, Right, Negated}

-- Simplification stays valid as the base grows.
module _ {A F : Type 0} (l m : Leaves A F) (k : Keeps l m) where
  pub tree_constant-kept : (t : Option (Tree A)) → IsValidTree l.valid t → tree_constant m.constant t ≡ tree_constant l.constant t
  tree_constant-kept None h = refl
  tree_constant-kept (Some (leaf_tree a)) h = k.constant a h
  tree_constant-kept (Some (add_tree t u)) h = refl
  tree_constant-kept (Some (sub_tree t u)) h = refl
  tree_constant-kept (Some (neg_tree t)) h = refl
  tree_constant-kept (Some (mul_tree t u)) h = refl

  pub IsConst-kept : (c : F) (t : Option (Tree A)) → IsConst l c t → IsConst m c t
  IsConst-kept c t h =
      let a : A = h.0 in
      (a, h.1, record { valid = k.valid a h.2.valid; constant = k.constant a h.2.valid ∙ h.2.constant; term = k.term a h.2.valid ∙ h.2.term })

  pub IsSimplified-kept : (t u node v : Option (Tree A)) (f : Option (Simplified F)) → IsSimplified l t u node f v → IsSimplified m t u node f v
  IsSimplified-kept t u plain v (Some (Constant c)) h = IsConst-kept c v h
  IsSimplified-kept t u plain v (Some Left) h = h
  IsSimplified-kept t u plain v (Some Right) h = h
  IsSimplified-kept t u plain v (Some Negated) h = h
  IsSimplified-kept t u plain v None h = h

Keeps-trans : {A F : Type 0} (l m n : Leaves A F) → Keeps l m → Keeps m n → Keeps l n
Keeps-trans l m n h k = record {
  sound = λ s. k.sound (h.sound s);
  valid = λ a v. k.valid a (h.valid a v);
  constant = λ a v. k.constant a (h.valid a v) ∙ h.constant a v;
  term = λ a v. k.term a (h.valid a v) ∙ h.term a v;
}

-- total is the join of the elements taken so far, and `left` are the remaining ones
pub record IsJoining {U A F W : Type 0} (reads : U → Leaves A F) (grows : U → U → Type 0) (Rest : W → U → Option (Tree A) → List (Option (Tree A)) → Type 0) (Goal : W → U → Type 0) (p s : Pool U A) (total : ℕ) (left : List ℕ) : Type 0 where
  pub grown : Grown grows reads p s
  pub total_in : total < length s.nodes
  pub left_in : All (λ x. x < length p.nodes) left
  pub leads : (v : W) (u : U) → grows s.base u → Rest v u (tree_at s total) (map (tree_at p) left) → Goal v u

-- the remaining list replaced by an equal one
pub left-is : {U A F W : Type 0} {reads : U → Leaves A F} {grows : U → U → Type 0} {Rest : W → U → Option (Tree A) → List (Option (Tree A)) → Type 0} {Goal : W → U → Type 0} {p s : Pool U A} {total : ℕ} (left after : List ℕ) → left ≡ after → IsJoining reads grows Rest Goal p s total left → IsJoining reads grows Rest Goal p s total after
left-is {reads = reads} {grows = grows} {Rest = Rest} {Goal = Goal} {p = p} {s = s} {total = total} left after e h =
    subst (λ l. IsJoining reads grows Rest Goal p s total l) e h

-- the remaining steps of a sum, of a product that answers v, and of a product that overflows
module _ {U A F : Type 0} (r : CommRing F) (eq : F → F → Bool) (reads : U → Leaves A F) where
  abbrev pub SumRest : Option (Tree A) → U → Option (Tree A) → List (Option (Tree A)) → Type 0
  SumRest v u t ts = JoinedFrom (SumStep r eq (reads u)) t ts v

  abbrev pub ProductRest : Option (Tree A) → U → Option (Tree A) → List (Option (Tree A)) → Type 0
  ProductRest v u t ts = JoinedFrom (ProductStep r eq (reads u)) t ts v

  abbrev pub OverflowRest : Unit {0} → U → Option (Tree A) → List (Option (Tree A)) → Type 0
  OverflowRest v u t ts = OverflowsFrom r eq (reads u) t ts

-- total is the product of the elements of xs taken so far, and no step has overflowed
pub record IsMultiplying {U A F : Type 0} (r : CommRing F) (eq : F → F → Bool) (reads : U → Leaves A F) (grows : U → U → Type 0) (p s : Pool U A) (xs : List ℕ) (total : ℕ) (left : List ℕ) : Type 0 where
  pub product : IsJoining reads grows (ProductRest r eq reads) (λ v u. IsJoined (reads u) r.one (ProductStep r eq (reads u)) (map (tree_at p) xs) v) p s total left
  pub overflow : IsJoining reads grows (OverflowRest r eq reads) (λ _ u. ProductOverflows r eq (reads u) (map (tree_at p) xs)) p s total left

module _ {U A F : Type 0} (r : CommRing F) (eq : F → F → Bool) (reads : U → Leaves A F) (grows : U → U → Type 0) (empty : U) (laws : LeafLaws r reads grows empty) where
  -- the steps of a sum and of a product, over a base that grows later
  module _ (s q : Pool U A) (u : U) (pool : IsPool reads s) (g : Grown grows reads s q) (later : grows q.base u) (x y : ℕ) (b : x < length s.nodes) (c : y < length s.nodes) where
    now : Keeps (reads s.base) (reads u)
    now = Keeps-trans (reads s.base) (reads q.base) (reads u) (laws.keeps s.base q.base g.base) (laws.keeps q.base u later)

    constant-later : (i : ℕ) → i < length s.nodes → tree_constant (reads u).constant (tree_at s i) ≡ constant_at reads s i
    constant-later i h = tree_constant-kept (reads s.base) (reads u) now (tree_at s i) (tree_of-valid (reads s.base) s.nodes pool.nodes i h)

    term-later : (i : ℕ) → i < length s.nodes → term_of (reads u).term (tree_at s i) ≡ term_at reads s i
    term-later i h = term_of-kept (reads s.base) (reads u) now (tree_at s i) (tree_of-valid (reads s.base) s.nodes pool.nodes i h)

    pub sum-later : (z : ℕ) → IsSum reads r eq s q x y z → SumStep r eq (reads u) (tree_at s x) (tree_at s y) (tree_at q z)
    sum-later z h =
        subst (λ f. IsSimplified (reads u) (tree_at s x) (tree_at s y) (both add_tree (tree_at s x) (tree_at s y)) f (tree_at q z))
        (sym (ap₂ (simplified_sum r eq) (constant-later x b) (constant-later y c)))
        (IsSimplified-kept (reads q.base) (reads u) (laws.keeps q.base u later) (tree_at s x) (tree_at s y) (both add_tree (tree_at s x) (tree_at s y)) (tree_at q z) _ h.tree)

    simplified-later : simplified_product r eq (tree_constant (reads u).constant (tree_at s x)) (tree_constant (reads u).constant (tree_at s y)) ≡ simplified_product r eq (constant_at reads s x) (constant_at reads s y)
    simplified-later = ap₂ (simplified_product r eq) (constant-later x b) (constant-later y c)

    degrees-later : degree_by cached_weight (term_of (reads u).term (tree_at s x)) + degree_by cached_weight (term_of (reads u).term (tree_at s y)) ≡ degree_by cached_weight (term_at reads s x) + degree_by cached_weight (term_at reads s y)
    degrees-later = ap₂ (λ t v. degree_by cached_weight t + degree_by cached_weight v) (term-later x b) (term-later y c)

    pub overflows-later : NeedsNode reads r eq s x y → 2 ^ 64 ≤ degree_by cached_weight (term_at reads s x) + degree_by cached_weight (term_at reads s y) → Overflows r eq (reads u) (tree_at s x) (tree_at s y)
    overflows-later h k = (simplified-later ∙ h, omega (arith, degrees-later))

    pub overflows-before : Overflows r eq (reads u) (tree_at s x) (tree_at s y) → NeedsNode reads r eq s x y × (2 ^ 64 ≤ degree_by cached_weight (term_at reads s x) + degree_by cached_weight (term_at reads s y))
    overflows-before h = (sym simplified-later ∙ h.0, omega (arith, degrees-later, h.1))

    pub product-later : (z : ℕ) → (NeedsNode reads r eq s x y × (2 ^ 64 ≤ degree_by cached_weight (term_at reads s x) + degree_by cached_weight (term_at reads s y)) → ⊥) → IsProduct reads r eq s q x y z → ProductStep r eq (reads u) (tree_at s x) (tree_at s y) (tree_at q z)
    product-later z n h = (
      λ o. n (overflows-before o),
      subst (λ f. IsSimplified (reads u) (tree_at s x) (tree_at s y) (both mul_tree (tree_at s x) (tree_at s y)) f (tree_at q z))
          (sym simplified-later)
          (IsSimplified-kept (reads q.base) (reads u) (laws.keeps q.base u later) (tree_at s x) (tree_at s y) (both mul_tree (tree_at s x) (tree_at s y)) (tree_at q z) _ h.tree),
    )

  -- joining begins with the first element
  pub begin_joining : {W : Type 0} (Rest : W → U → Option (Tree A) → List (Option (Tree A)) → Type 0) (p : Pool U A) (x : ℕ) (xs : List ℕ) → All (λ i. i < length p.nodes) (x ∷ xs) → IsJoining reads grows Rest (λ v u. Rest v u (tree_at p x) (map (tree_at p) xs)) p p x xs
  begin_joining Rest p x xs h = record {
    grown = Grown-refl r reads grows empty laws p;
    total_in = h 0 x (omega arith);
    left_in = λ k d lt. h (suc k) d (omega arith);
    leads = λ v u g rest. rest;
  }

  -- for a list taken apart by a pattern
  module _ (p : Pool U A) where
    pub sum_begun : (xs : List ℕ) (x : ℕ) → 0 < length xs → x ≡ get_or xs 0 x → All (λ i. i < length p.nodes) xs
        → IsJoining reads grows (SumRest r eq reads) (λ v u. IsJoined (reads u) r.zero (SumStep r eq (reads u)) (map (tree_at p) xs) v) p p x (take (length xs - 1) (drop 1 xs))
    sum_begun [] x some is h = absurd (omega (arith, some))
    sum_begun (y ∷ ys) x some is h =
        rw is (left-is ys _ (sym (take_rest (y ∷ ys) 1)) (begin_joining (SumRest r eq reads) p y ys h))

    pub product_begun : (xs : List ℕ) (x : ℕ) → 0 < length xs → x ≡ get_or xs 0 x → All (λ i. i < length p.nodes) xs
        → IsMultiplying r eq reads grows p p xs x (take (length xs - 1) (drop 1 xs))
    product_begun [] x some is h = absurd (omega (arith, some))
    product_begun (y ∷ ys) x some is h =
        rw is record {
          product = left-is ys _ (sym (take_rest (y ∷ ys) 1)) (begin_joining (ProductRest r eq reads) p y ys h);
          overflow = left-is ys _ (sym (take_rest (y ∷ ys) 1)) (begin_joining (OverflowRest r eq reads) p y ys h);
        }

  -- one more element is taken
  pub take_one : {W : Type 0} (Rest : W → U → Option (Tree A) → List (Option (Tree A)) → Type 0) (Goal : W → U → Type 0) (p s q : Pool U A) (total x z : ℕ) (left : List ℕ) → Grown grows reads s q → z < length q.nodes → IsJoining reads grows Rest Goal p s total (x ∷ left)
      → ((v : W) (u : U) (ts : List (Option (Tree A))) → grows q.base u → Rest v u (tree_at q z) ts → Rest v u (tree_at s total) (tree_at p x ∷ ts))
      → IsJoining reads grows Rest Goal p q z left
  take_one Rest Goal p s q total x z left g here h step = record {
    grown = Grown-trans r reads grows empty laws p s q h.grown g;
    total_in = here;
    left_in = λ k d lt. h.left_in (suc k) d (omega arith);
    leads = λ v u later rest. h.leads v u (laws.joined s.base q.base u g.base later) (step v u (map (tree_at p) left) later rest);
  }

  -- the trees of a list's elements, which are of the pool p, stay in s
  element-stays : (p s : Pool U A) (x : ℕ) → Grown grows reads p s → x < length p.nodes → tree_at s x ≡ tree_at p x
  element-stays p s x g b = tree-kept r reads grows empty laws p s x g b

  pub sum_taken : {Goal : Option (Tree A) → U → Type 0} (p s q : Pool U A) (total x z : ℕ) (left : List ℕ) → IsPool reads p → Grown grows reads s q → IsSum reads r eq s q total x z → IsJoining reads grows (SumRest r eq reads) Goal p s total (x ∷ left) → IsJoining reads grows (SumRest r eq reads) Goal p q z left
  sum_taken p s q total x z left pool g m h =
      let b : x < length p.nodes = h.left_in 0 x (omega arith) in
      take_one (SumRest r eq reads) _ p s q total x z left g m.here h
      (λ v u ts later rest. (
        tree_at q z,
        subst (λ t. SumStep r eq (reads u) (tree_at s total) t (tree_at q z)) (element-stays p s x h.grown b)
            (sum-later s q u (h.grown.pool pool) g later total x h.total_in (here-kept r reads grows empty laws p s x h.grown b) z m),
        rest,
      ))

  module _ (p s q : Pool U A) (total x : ℕ) (left : List ℕ) (pool : IsPool reads p) (g : Grown grows reads s q) where
    step-taken : (u : U) → grows q.base u → (z : ℕ) → Grown grows reads p s → total < length s.nodes → x < length p.nodes → (NeedsNode reads r eq s total x × (2 ^ 64 ≤ degree_by cached_weight (term_at reads s total) + degree_by cached_weight (term_at reads s x)) → ⊥) → IsProduct reads r eq s q total x z → ProductStep r eq (reads u) (tree_at s total) (tree_at p x) (tree_at q z)
    step-taken u later z grown c b n m =
        subst (λ t. ProductStep r eq (reads u) (tree_at s total) t (tree_at q z)) (element-stays p s x grown b)
        (product-later s q u (grown.pool pool) g later total x c (here-kept r reads grows empty laws p s x grown b) z n m)

    module _ (z : ℕ) (n : NeedsNode reads r eq s total x × (2 ^ 64 ≤ degree_by cached_weight (term_at reads s total) + degree_by cached_weight (term_at reads s x)) → ⊥) (m : IsProduct reads r eq s q total x z) where
      pub product_taken : {Goal : Option (Tree A) → U → Type 0} → IsJoining reads grows (ProductRest r eq reads) Goal p s total (x ∷ left) → IsJoining reads grows (ProductRest r eq reads) Goal p q z left
      product_taken h =
          take_one (ProductRest r eq reads) _ p s q total x z left g m.here h
          (λ v u ts later rest. (tree_at q z, step-taken u later z h.grown h.total_in (h.left_in 0 x (omega arith)) n m, rest))

      pub overflow_taken : {Goal : Unit {0} → U → Type 0} → IsJoining reads grows (OverflowRest r eq reads) Goal p s total (x ∷ left) → IsJoining reads grows (OverflowRest r eq reads) Goal p q z left
      overflow_taken h =
          take_one (OverflowRest r eq reads) _ p s q total x z left g m.here h
          (λ v u ts later rest. inr (tree_at q z, step-taken u later z h.grown h.total_in (h.left_in 0 x (omega arith)) n m, rest))

    -- the product with x overflows
    pub overflow_told : {Goal : Unit {0} → U → Type 0} → NeedsNode reads r eq s total x × (2 ^ 64 ≤ degree_by cached_weight (term_at reads s total) + degree_by cached_weight (term_at reads s x)) → IsJoining reads grows (OverflowRest r eq reads) Goal p s total (x ∷ left) → Goal tt q.base
    overflow_told o h =
        let b : x < length p.nodes = h.left_in 0 x (omega arith) in
        h.leads tt q.base g.base
        (inl (subst (λ t. Overflows r eq (reads q.base) (tree_at s total) t) (element-stays p s x h.grown b)
        (overflows-later s q q.base (h.grown.pool pool) g (laws.same q.base) total x h.total_in (here-kept r reads grows empty laws p s x h.grown b) o.0 o.1)))

  -- no element remains
  pub sum_ended : (p s : Pool U A) (xs : List ℕ) (total : ℕ) → IsJoining reads grows (SumRest r eq reads) (λ v u. IsJoined (reads u) r.zero (SumStep r eq (reads u)) (map (tree_at p) xs) v) p s total [] → IsSumOfAll reads r eq p s xs total
  sum_ended p s xs total h = record { here = h.total_in; tree = h.leads (tree_at s total) s.base (laws.same s.base) refl }

  pub product_ended : (p s : Pool U A) (xs : List ℕ) (total : ℕ) → IsJoining reads grows (ProductRest r eq reads) (λ v u. IsJoined (reads u) r.one (ProductStep r eq (reads u)) (map (tree_at p) xs) v) p s total [] → IsProductOfAll reads r eq p s xs total
  product_ended p s xs total h = record { here = h.total_in; tree = h.leads (tree_at s total) s.base (laws.same s.base) refl }

pub drop_item : {X : Type 0} (l : List X) (i : ℕ) (x : X) → i < length l → x ≡ get_or l i x → drop i l ≡ x ∷ drop (i + 1) l
drop_item l i x h is = drop-cons l i x h ∙ (ap (λ y. y ∷ drop (suc i) l) (sym is) ∙ ap (λ n. x ∷ drop n l) (sym (add-one i)))

-- The item at index i is the first of the remaining ones, and is in the pool.
module _ {U A F W : Type 0} {r : CommRing F} {reads : U → Leaves A F} {grows : U → U → Type 0} {empty : U} (laws : LeafLaws r reads grows empty) {Rest : W → U → Option (Tree A) → List (Option (Tree A)) → Type 0} {Goal : W → U → Type 0} {p s : Pool U A} {total x : ℕ} (rest : List ℕ) (i : ℕ) where
  pub next_in : i < length rest → x ≡ get_or rest i x → IsJoining reads grows Rest Goal p s total (drop i rest) → x < length s.nodes
  next_in b is h =
      let k = left-is _ _ (drop_item rest i x b is) h in
      here-kept r reads grows empty laws p s x k.grown (k.left_in 0 x (omega arith))
