-- Identities of commutative rings by computation: an expression is brought to two lists of products of variables, the
-- positive and the negative ones. Two expressions are equal in every commutative ring if the positive products of the
-- first with the negative ones of the second are, when sorted, the positive products of the second with the negative
-- ones of the first.
use Rattle.std.specs.Prelude.{◌≡◌, ℕ, zero, suc, ◌+◌, refl, List, [], ◌∷◌, ◌++◌, Bool, true, false, eqb, ltb, leb}
use Rattle.std.proofs.Common.{sym, ◌∙◌, ap, ap₂}
use Rattle.air_field.specs.Ring.{CommRing}
use Rattle.air_field.specs.RingOps.{RingOps}
use Rattle.air_field.specs.laws.Ring.{zero_add, one_mul, mul_zero, zero_mul, add_mul, add_left_comm, mul_left_comm, add_cancel_right, neg_add_left}

-- ---- sums over lists in a commutative monoid
record Monoid (A : Type 0) : Type 0 where
  op : A → A → A
  unit : A
  assoc : (a b c : A) → op (op a b) c ≡ op a (op b c)
  left_comm : (a b c : A) → op a (op b c) ≡ op b (op a c)
  unit_op : (a : A) → op unit a ≡ a

abbrev fold : {A B : Type 0} → Monoid A → (B → A) → List B → A
fold M f [] = M.unit
fold M f (x ∷ xs) = M.op (f x) (fold M f xs)

abbrev insert : {B : Type 0} → (B → B → Bool) → B → List B → List B
insert le x [] = x ∷ []
insert le x (y ∷ ys) = elim (le x y) [ true ↦ x ∷ y ∷ ys | false ↦ y ∷ insert le x ys ]

abbrev sort : {B : Type 0} → (B → B → Bool) → List B → List B
sort le [] = []
sort le (x ∷ xs) = insert le x (sort le xs)

fold-insert : {A B : Type 0} (M : Monoid A) (f : B → A) (le : B → B → Bool) (x : B) (ys : List B) → fold M f (insert le x ys) ≡ M.op (f x) (fold M f ys)
fold-insert M f le x [] = refl
fold-insert M f le x (y ∷ ys) =
    elim (le x y) as (λ b. fold M f (elim b [ true ↦ x ∷ y ∷ ys | false ↦ y ∷ insert le x ys ]) ≡ M.op (f x) (M.op (f y) (fold M f ys))) [
      | true ↦ refl
      | false ↦ ap (M.op (f y)) (fold-insert M f le x ys) ∙ M.left_comm (f y) (f x) (fold M f ys)
    ]

fold-sort : {A B : Type 0} (M : Monoid A) (f : B → A) (le : B → B → Bool) (xs : List B) → fold M f (sort le xs) ≡ fold M f xs
fold-sort M f le [] = refl
fold-sort M f le (x ∷ xs) = fold-insert M f le x (sort le xs) ∙ ap (M.op (f x)) (fold-sort M f le xs)

fold-append : {A B : Type 0} (M : Monoid A) (f : B → A) (xs ys : List B) → fold M f (xs ++ ys) ≡ M.op (fold M f xs) (fold M f ys)
fold-append M f [] ys = sym (M.unit_op (fold M f ys))
fold-append M f (x ∷ xs) ys = ap (M.op (f x)) (fold-append M f xs ys) ∙ sym (M.assoc (f x) (fold M f xs) (fold M f ys))

abbrev sums : {A : Type 0} → CommRing A → Monoid A
sums R = record { op = R.add; unit = R.zero; assoc = R.add_assoc; left_comm = add_left_comm R; unit_op = zero_add R }

abbrev products : {A : Type 0} → CommRing A → Monoid A
products R = record { op = R.mul; unit = R.one; assoc = R.mul_assoc; left_comm = mul_left_comm R; unit_op = one_mul R }

-- ---- products of variables, and sums of these
abbrev look : {A : Type 0} → A → List A → ℕ → A
look d [] n = d
look d (x ∷ xs) zero = x
look d (x ∷ xs) (suc n) = look d xs n

abbrev product_of : {A : Type 0} → CommRing A → List A → List ℕ → A
product_of R env m = fold (products R) (look R.zero env) m

abbrev sum_of : {A : Type 0} → CommRing A → List A → List (List ℕ) → A
sum_of R env p = fold (sums R) (product_of R env) p

abbrev each : List ℕ → List (List ℕ) → List (List ℕ)
each m [] = []
each m (n ∷ q) = (m ++ n) ∷ each m q

abbrev times_all : List (List ℕ) → List (List ℕ) → List (List ℕ)
times_all [] q = []
times_all (m ∷ p) q = each m q ++ times_all p q

sum-each : {A : Type 0} (R : CommRing A) (env : List A) (m : List ℕ) (q : List (List ℕ)) → sum_of R env (each m q) ≡ R.mul (product_of R env m) (sum_of R env q)
sum-each R env m [] = sym (mul_zero R (product_of R env m))
sum-each R env m (n ∷ q) =
    ap₂ R.add (fold-append (products R) (look R.zero env) m n) (sum-each R env m q)
    ∙ sym (R.mul_add (product_of R env m) (product_of R env n) (sum_of R env q))

sum-times_all : {A : Type 0} (R : CommRing A) (env : List A) (p q : List (List ℕ)) → sum_of R env (times_all p q) ≡ R.mul (sum_of R env p) (sum_of R env q)
sum-times_all R env [] q = sym (zero_mul R (sum_of R env q))
sum-times_all R env (m ∷ p) q =
    fold-append (sums R) (product_of R env) (each m q) (times_all p q)
    ∙ (ap₂ R.add (sum-each R env m q) (sum-times_all R env p q)
    ∙ sym (add_mul R (product_of R env m) (sum_of R env p) (sum_of R env q)))

-- ---- one form of a sum of products
abbrev before : List ℕ → List ℕ → Bool
before [] n = true
before (x ∷ m) [] = false
before (x ∷ m) (y ∷ n) = elim (eqb x y) [ true ↦ before m n | false ↦ ltb x y ]

abbrev sort_each : List (List ℕ) → List (List ℕ)
sort_each [] = []
sort_each (m ∷ p) = sort leb m ∷ sort_each p

abbrev pub canonical : List (List ℕ) → List (List ℕ)
canonical p = sort before (sort_each p)

sum-sort_each : {A : Type 0} (R : CommRing A) (env : List A) (p : List (List ℕ)) → sum_of R env (sort_each p) ≡ sum_of R env p
sum-sort_each R env [] = refl
sum-sort_each R env (m ∷ p) = ap₂ R.add (fold-sort (products R) (look R.zero env) leb m) (sum-sort_each R env p)

sum-canonical : {A : Type 0} (R : CommRing A) (env : List A) (p : List (List ℕ)) → sum_of R env (canonical p) ≡ sum_of R env p
sum-canonical R env p = fold-sort (sums R) (product_of R env) before (sort_each p) ∙ sum-sort_each R env p

-- ---- expressions
pub data Expr : Type 0 where
  var : ℕ → Expr
  nought : Expr
  unit : Expr
  plus : Expr → Expr → Expr
  times : Expr → Expr → Expr
  opp : Expr → Expr

abbrev pub less : Expr → Expr → Expr
less a b = plus a (opp b)

abbrev pub meaning : {A : Type 0} → CommRing A → List A → Expr → A
meaning R env (var i) = look R.zero env i
meaning R env nought = R.zero
meaning R env unit = R.one
meaning R env (plus a b) = R.add (meaning R env a) (meaning R env b)
meaning R env (times a b) = R.mul (meaning R env a) (meaning R env b)
meaning R env (opp a) = R.neg (meaning R env a)

-- the positive products, and the negative ones
record Parts : Type 0 where
  above : List (List ℕ)
  below : List (List ℕ)

abbrev join : Parts → Parts → Parts
join p q = record { above = p.above ++ q.above; below = p.below ++ q.below }

abbrev multiply : Parts → Parts → Parts
multiply p q =
    record {
      above = times_all p.above q.above ++ times_all p.below q.below;
      below = times_all p.above q.below ++ times_all p.below q.above;
    }

abbrev parts : Expr → Parts
parts (var i) = record { above = (i ∷ []) ∷ []; below = [] }
parts nought = record { above = []; below = [] }
parts unit = record { above = [] ∷ []; below = [] }
parts (plus a b) = join (parts a) (parts b)
parts (times a b) = multiply (parts a) (parts b)
parts (opp a) = record { above = (parts a).below; below = (parts a).above }

-- `v` is the positive part without the negative one
abbrev Means : {A : Type 0} → CommRing A → List A → A → Parts → Type 0
Means R env v p = R.add v (sum_of R env p.below) ≡ sum_of R env p.above

plus_step : {A : Type 0} (R : CommRing A) (a b n m p q : A) → R.add a n ≡ p → R.add b m ≡ q → R.add (R.add a b) (R.add n m) ≡ R.add p q
plus_step R a b n m p q h k =
    R.add_assoc a b (R.add n m)
    ∙ (ap (R.add a) (add_left_comm R b n m)
    ∙ (sym (R.add_assoc a n (R.add b m)) ∙ ap₂ R.add h k))

opp_step : {A : Type 0} (R : CommRing A) (a n p : A) → R.add a n ≡ p → R.add (R.neg a) p ≡ n
opp_step R a n p h = ap (R.add (R.neg a)) (sym h) ∙ neg_add_left R a n

times_step : {A : Type 0} (R : CommRing A) (a b n m p q : A) → R.add a n ≡ p → R.add b m ≡ q → R.add (R.mul a b) (R.add (R.mul p m) (R.mul n q)) ≡ R.add (R.mul p q) (R.mul n m)
times_step R a b n m p q h k =
    rw (← h, ← k) (simp (add_mul R, R.mul_add, R.add_assoc, add_left_comm R))

-- the sum of two products of sums
sum-times_both : {A : Type 0} (R : CommRing A) (env : List A) (a b c d : List (List ℕ))
    → sum_of R env (times_all a b ++ times_all c d) ≡ R.add (R.mul (sum_of R env a) (sum_of R env b)) (R.mul (sum_of R env c) (sum_of R env d))
sum-times_both R env a b c d =
    fold-append (sums R) (product_of R env) (times_all a b) (times_all c d)
    ∙ ap₂ R.add (sum-times_all R env a b) (sum-times_all R env c d)

means : {A : Type 0} (R : CommRing A) (env : List A) (e : Expr) → Means R env (meaning R env e) (parts e)
means R env (var i) =
    R.add_zero (look R.zero env i) ∙ (sym (R.mul_one (look R.zero env i)) ∙ sym (R.add_zero (R.mul (look R.zero env i) R.one)))
means R env nought = R.add_zero R.zero
means R env unit = refl
means R env (plus a b) =
    ap (R.add (R.add (meaning R env a) (meaning R env b))) (fold-append (sums R) (product_of R env) (parts a).below (parts b).below)
    ∙ (plus_step R (meaning R env a) (meaning R env b) (sum_of R env (parts a).below) (sum_of R env (parts b).below)
    (sum_of R env (parts a).above) (sum_of R env (parts b).above) (means R env a) (means R env b)
    ∙ sym (fold-append (sums R) (product_of R env) (parts a).above (parts b).above))
means R env (times a b) =
    let lower = sum-times_both R env (parts a).above (parts b).below (parts a).below (parts b).above in
    let upper = sum-times_both R env (parts a).above (parts b).above (parts a).below (parts b).below in
    ap (R.add (R.mul (meaning R env a) (meaning R env b))) lower
    ∙ (times_step R (meaning R env a) (meaning R env b) (sum_of R env (parts a).below) (sum_of R env (parts b).below)
    (sum_of R env (parts a).above) (sum_of R env (parts b).above) (means R env a) (means R env b)
    ∙ sym upper)
means R env (opp a) = opp_step R (meaning R env a) (sum_of R env (parts a).below) (sum_of R env (parts a).above) (means R env a)

-- ---- the test, and what it proves
abbrev pub left_form : Expr → Expr → List (List ℕ)
left_form a b = canonical ((parts a).above ++ (parts b).below)

cancel_step : {A : Type 0} (R : CommRing A) (a b n m p q : A) → R.add a n ≡ p → R.add b m ≡ q → R.add p m ≡ R.add q n → a ≡ b
cancel_step R a b n m p q h k e =
    add_cancel_right R n a b
    (add_cancel_right R m (R.add a n) (R.add b n)
    (ap (λ x. R.add x m) h
    ∙ (e
    ∙ (ap (λ x. R.add x n) (sym k)
    ∙ (R.add_assoc b m n ∙ (ap (R.add b) (R.add_comm m n) ∙ sym (R.add_assoc b n m)))))))

-- two expressions with the same form are equal in every commutative ring: `ring R (x ∷ y ∷ []) e1 e2 refl`
pub ring : {A : Type 0} (R : CommRing A) (env : List A) (a b : Expr) → left_form a b ≡ left_form b a → meaning R env a ≡ meaning R env b
ring R env a b h =
    cancel_step R (meaning R env a) (meaning R env b) (sum_of R env (parts a).below) (sum_of R env (parts b).below)
    (sum_of R env (parts a).above) (sum_of R env (parts b).above) (means R env a) (means R env b)
    (sym (fold-append (sums R) (product_of R env) (parts a).above (parts b).below)
    ∙ (sym (sum-canonical R env ((parts a).above ++ (parts b).below))
    ∙ (ap (sum_of R env) h
    ∙ (sum-canonical R env ((parts b).above ++ (parts a).below)
    ∙ fold-append (sums R) (product_of R env) (parts b).above (parts a).below))))

-- ---- lists of expressions, as a definition over `RingOps` computes them
abbrev pub expr_ops : RingOps Expr
expr_ops = record { zero = nought; one = unit; add = plus; mul = times; neg = opp }

abbrev pub values : {A : Type 0} → CommRing A → List A → List Expr → List A
values R env [] = []
values R env (e ∷ es) = meaning R env e ∷ values R env es

-- `count` variables from n on
abbrev pub vars : ℕ → ℕ → List Expr
vars n zero = []
vars n (suc count) = var n ∷ vars (n + 1) count

abbrev pub left_forms : List Expr → List Expr → List (List (List ℕ))
left_forms [] [] = []
left_forms [] (f ∷ fs) = []
left_forms (e ∷ es) [] = [] ∷ []
left_forms (e ∷ es) (f ∷ fs) = left_form e f ∷ left_forms es fs

head_same : {A : Type 0} {x y : A} {xs ys : List A} → x ∷ xs ≡ y ∷ ys → x ≡ y
head_same h = cc

tail_same : {A : Type 0} {x y : A} {xs ys : List A} → x ∷ xs ≡ y ∷ ys → xs ≡ ys
tail_same h = cc

no_empty : (m : List (List (List ℕ))) (x : List (List ℕ)) → x ∷ m ≡ [] → ⊥
no_empty m x h = cc

-- `ring` for each pair of two lists
pub ring_list : {A : Type 0} (R : CommRing A) (env : List A) (es fs : List Expr) → left_forms es fs ≡ left_forms fs es → values R env es ≡ values R env fs
ring_list R env [] [] h = refl
ring_list R env [] (f ∷ fs) h = absurd (no_empty [] [] (sym h))
ring_list R env (e ∷ es) [] h = absurd (no_empty [] [] h)
ring_list R env (e ∷ es) (f ∷ fs) h = ap₂ (λ x xs. x ∷ xs) (ring R env e f (head_same h)) (ring_list R env es fs (tail_same h))
