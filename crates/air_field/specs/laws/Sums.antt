-- Sums and convolutions in a commutative ring.
use Rattle.std.proofs.Common.{◌≡◌, ℕ, zero, suc, ◌+◌, ◌-◌, ◌≤◌, [], ◌∷◌, slice_index_or, refl, sym, ap, ap₂, ◌∙◌, arith}
use Rattle.air_field.specs.Ring.{CommRing, minus, AlgebraOver, AlgebraOverLaws}
use Rattle.air_field.specs.laws.Ring.{zero_mul, neg_unique, add_left_comm}
use Rattle.air_field.specs.Polynomial.{sum_to, convolve}

-- the coefficients of a constant
abbrev pub constant_coefficients : {E : Type 0} → CommRing E → E → ℕ → E
constant_coefficients r c n = slice_index_or (c ∷ []) n r.zero

module _ {E : Type 0} (r : CommRing E) where
  pub sum_to-ext : (f g : ℕ → E) (n : ℕ) → ((i : ℕ) → i ≤ n → f i ≡ g i) → sum_to r f n ≡ sum_to r g n
  sum_to-ext f g zero h = h 0 (omega arith)
  sum_to-ext f g (suc n) h = cc (sum_to-ext f g n (λ i b. h i (omega arith)), h (suc n) (omega arith))

  pub sum_to-nil : (f : ℕ → E) (n : ℕ) → ((i : ℕ) → i ≤ n → f i ≡ r.zero) → sum_to r f n ≡ r.zero
  sum_to-nil f zero h = h 0 (omega arith)
  sum_to-nil f (suc n) h = cc (sum_to-nil f n (λ i b. h i (omega arith)), h (suc n) (omega arith), r.add_zero r.zero)

  pub sum_to-first : (f : ℕ → E) (n : ℕ) → ((i : ℕ) → f (suc i) ≡ r.zero) → sum_to r f n ≡ f 0
  sum_to-first f zero h = refl
  sum_to-first f (suc n) h = cc (sum_to-first f n h, h n, r.add_zero (f 0))

  -- (a + b) + (c + d) = (a + c) + (b + d)
  exchange : (a b c d : E) → r.add (r.add a b) (r.add c d) ≡ r.add (r.add a c) (r.add b d)
  exchange a b c d = r.add_assoc a b (r.add c d) ∙ (ap (r.add a) (add_left_comm r b c d) ∙ sym (r.add_assoc a c (r.add b d)))

  pub sum_to-add : (f g : ℕ → E) (n : ℕ) → sum_to r (λ i. r.add (f i) (g i)) n ≡ r.add (sum_to r f n) (sum_to r g n)
  sum_to-add f g zero = refl
  sum_to-add f g (suc n) =
      ap (λ x. r.add x (r.add (f (suc n)) (g (suc n)))) (sum_to-add f g n)
      ∙ exchange (sum_to r f n) (sum_to r g n) (f (suc n)) (g (suc n))

  pub sum_to-mul_left : (c : E) (f : ℕ → E) (n : ℕ) → sum_to r (λ i. r.mul c (f i)) n ≡ r.mul c (sum_to r f n)
  sum_to-mul_left c f zero = refl
  sum_to-mul_left c f (suc n) =
      ap (λ x. r.add x (r.mul c (f (suc n)))) (sum_to-mul_left c f n) ∙ sym (r.mul_add c (sum_to r f n) (f (suc n)))

  sum_to-mul_right : (f : ℕ → E) (c : E) (n : ℕ) → r.mul (sum_to r f n) c ≡ sum_to r (λ i. r.mul (f i) c) n
  sum_to-mul_right f c n =
      r.mul_comm (sum_to r f n) c
      ∙ (sym (sum_to-mul_left c f n) ∙ sum_to-ext (λ i. r.mul c (f i)) (λ i. r.mul (f i) c) n (λ i b. r.mul_comm c (f i)))

  pub sum_to-head : (f : ℕ → E) (n : ℕ) → sum_to r f (suc n) ≡ r.add (f 0) (sum_to r (λ i. f (suc i)) n)
  sum_to-head f zero = refl
  sum_to-head f (suc n) =
      ap (λ x. r.add x (f (suc (suc n)))) (sum_to-head f n)
      ∙ r.add_assoc (f 0) (sum_to r (λ i. f (suc i)) n) (f (suc (suc n)))

  sum_to-reversed : (f : ℕ → E) (n : ℕ) → sum_to r (λ i. f (n - i)) n ≡ sum_to r f n
  sum_to-reversed f zero = refl
  sum_to-reversed f (suc n) =
      let e : suc n - 0 ≡ suc n = omega arith in
      sum_to-head (λ i. f (suc n - i)) n
      ∙ (ap₂ r.add (ap f e) (sum_to-ext (λ i. f (suc n - suc i)) (λ i. f (n - i)) n (λ i b. ap f (less i)) ∙ sum_to-reversed f n)
      ∙ r.add_comm (f (suc n)) (sum_to r f n))
    where
      less : (i : ℕ) → suc n - suc i ≡ n - i
      less i = omega arith

  -- a sum over a triangle, by diagonals and by rows
  triangle : (f : ℕ → ℕ → E) (n : ℕ) → sum_to r (λ k. sum_to r (λ i. f i (k - i)) k) n ≡ sum_to r (λ i. sum_to r (λ j. f i j) (n - i)) n
  triangle f zero = refl
  triangle f (suc n) =
      let last : suc n - suc n ≡ 0 = omega arith in
      let rows : sum_to r (λ i. sum_to r (λ j. f i j) (suc n - i)) n ≡ r.add (sum_to r (λ i. sum_to r (λ j. f i j) (n - i)) n) (sum_to r (λ i. f i (suc n - i)) n) =
      sum_to-ext (λ i. sum_to r (λ j. f i j) (suc n - i)) (λ i. r.add (sum_to r (λ j. f i j) (n - i)) (f i (suc n - i))) n (λ i b. row i b)
      ∙ sum_to-add (λ i. sum_to r (λ j. f i j) (n - i)) (λ i. f i (suc n - i)) n in
      ap (λ x. r.add x (r.add (sum_to r (λ i. f i (suc n - i)) n) (f (suc n) (suc n - suc n)))) (triangle f n)
      ∙ (sym (r.add_assoc (sum_to r (λ i. sum_to r (λ j. f i j) (n - i)) n) (sum_to r (λ i. f i (suc n - i)) n) (f (suc n) (suc n - suc n)))
      ∙ ap₂ r.add (sym rows) (ap (f (suc n)) last ∙ ap (λ m. sum_to r (λ j. f (suc n) j) m) (sym last)))
    where
      above : (i : ℕ) → i ≤ n → suc n - i ≡ suc (n - i)
      above i b = omega arith

      row : (i : ℕ) → i ≤ n → sum_to r (λ j. f i j) (suc n - i) ≡ r.add (sum_to r (λ j. f i j) (n - i)) (f i (suc n - i))
      row i b = ap (λ m. sum_to r (λ j. f i j) m) (above i b) ∙ ap (λ m. r.add (sum_to r (λ j. f i j) (n - i)) (f i m)) (sym (above i b))

  pub only-nil : (n : ℕ) → constant_coefficients r r.zero n ≡ r.zero
  only-nil zero = refl
  only-nil (suc n) = refl

  pub convolve-only_left : (c : E) (g : ℕ → E) (n : ℕ) → convolve r (constant_coefficients r c) g n ≡ r.mul c (g n)
  convolve-only_left c g n =
      sum_to-first (λ i. r.mul (constant_coefficients r c i) (g (n - i))) n (λ i. zero_mul r (g (n - suc i)))
      ∙ ap (λ k. r.mul c (g k)) (omega arith)

  pub convolve-ext : (f g h k : ℕ → E) (n : ℕ) → ((i : ℕ) → f i ≡ h i) → ((i : ℕ) → g i ≡ k i) → convolve r f g n ≡ convolve r h k n
  convolve-ext f g h k n p q =
      sum_to-ext (λ i. r.mul (f i) (g (n - i))) (λ i. r.mul (h i) (k (n - i))) n (λ i b. cc (p i, q (n - i)))

  pub convolve-comm : (f g : ℕ → E) (n : ℕ) → convolve r f g n ≡ convolve r g f n
  convolve-comm f g n =
      sum_to-ext (λ i. r.mul (f i) (g (n - i))) (λ i. r.mul (g (n - i)) (f (n - (n - i)))) n (λ i b. swap i b)
      ∙ sum_to-reversed (λ i. r.mul (g i) (f (n - i))) n
    where
      twice : (i : ℕ) → i ≤ n → i ≡ n - (n - i)
      twice i b = omega arith

      swap : (i : ℕ) → i ≤ n → r.mul (f i) (g (n - i)) ≡ r.mul (g (n - i)) (f (n - (n - i)))
      swap i b = r.mul_comm (f i) (g (n - i)) ∙ ap (λ j. r.mul (g (n - i)) (f j)) (twice i b)

  pub convolve-only_right : (f : ℕ → E) (c : E) (n : ℕ) → convolve r f (constant_coefficients r c) n ≡ r.mul (f n) c
  convolve-only_right f c n = convolve-comm f (constant_coefficients r c) n ∙ (convolve-only_left c f n ∙ r.mul_comm c (f n))

  pub convolve-add : (f g h : ℕ → E) (n : ℕ) → convolve r f (λ i. r.add (g i) (h i)) n ≡ r.add (convolve r f g n) (convolve r f h n)
  convolve-add f g h n =
      sum_to-ext (λ i. r.mul (f i) (r.add (g (n - i)) (h (n - i)))) (λ i. r.add (r.mul (f i) (g (n - i))) (r.mul (f i) (h (n - i)))) n (λ i b. r.mul_add (f i) (g (n - i)) (h (n - i)))
      ∙ sum_to-add (λ i. r.mul (f i) (g (n - i))) (λ i. r.mul (f i) (h (n - i))) n

  abbrev part : (f g h : ℕ → E) → ℕ → ℕ → ℕ → E
  part f g h n i j = r.mul (f i) (r.mul (g j) (h (n - (i + j))))

  diagonal : (f g h : ℕ → E) (n k : ℕ) → r.mul (convolve r f g k) (h (n - k)) ≡ sum_to r (λ i. part f g h n i (k - i)) k
  diagonal f g h n k =
      sum_to-mul_right (λ i. r.mul (f i) (g (k - i))) (h (n - k)) k
      ∙ sum_to-ext (λ i. r.mul (r.mul (f i) (g (k - i))) (h (n - k))) (λ i. part f g h n i (k - i)) k
      (λ i b. r.mul_assoc (f i) (g (k - i)) (h (n - k)) ∙ ap (λ m. r.mul (f i) (r.mul (g (k - i)) (h m))) (split i b))
    where
      split : (i : ℕ) → i ≤ k → n - k ≡ n - (i + (k - i))
      split i b = omega arith

  row : (f g h : ℕ → E) (n i : ℕ) → sum_to r (λ j. part f g h n i j) (n - i) ≡ r.mul (f i) (convolve r g h (n - i))
  row f g h n i =
      sum_to-mul_left (f i) (λ j. r.mul (g j) (h (n - (i + j)))) (n - i)
      ∙ ap (r.mul (f i)) (sum_to-ext (λ j. r.mul (g j) (h (n - (i + j)))) (λ j. r.mul (g j) (h (n - i - j))) (n - i) (λ j b. ap (λ m. r.mul (g j) (h m)) (nested j)))
    where
      nested : (j : ℕ) → n - (i + j) ≡ n - i - j
      nested j = omega arith

  pub convolve-assoc : (f g h : ℕ → E) (n : ℕ) → convolve r (convolve r f g) h n ≡ convolve r f (convolve r g h) n
  convolve-assoc f g h n =
      sum_to-ext (λ k. r.mul (convolve r f g k) (h (n - k))) (λ k. sum_to r (λ i. part f g h n i (k - i)) k) n (λ k b. diagonal f g h n k)
      ∙ (triangle (part f g h n) n
      ∙ sum_to-ext (λ i. sum_to r (λ j. part f g h n i j) (n - i)) (λ i. r.mul (f i) (convolve r g h (n - i))) n (λ i b. row f g h n i))

-- An embedding keeps negatives and differences.
module _ {F E : Type 0} (r : CommRing F) (a : AlgebraOver F E) (m : AlgebraOverLaws r a) where
  pub embed_neg : (x : F) → a.embed (r.neg x) ≡ a.ring.neg (a.embed x)
  embed_neg x = neg_unique a.ring (a.embed x) (a.embed (r.neg x)) (sym (m.embed_add x (r.neg x)) ∙ (ap a.embed (r.add_neg x) ∙ m.embed_zero))

  pub embed_minus : (x y : F) → a.embed (minus r x y) ≡ minus a.ring (a.embed x) (a.embed y)
  embed_minus x y = m.embed_add x (r.neg y) ∙ ap (a.ring.add (a.embed x)) (embed_neg y)
