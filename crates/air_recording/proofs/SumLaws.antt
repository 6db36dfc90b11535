-- Sums in a commutative ring: below a number, over a list, and over the indices of both kinds.
use Rattle.std.proofs.Common.{◌≡◌, ℕ, zero, suc, ◌+◌, ◌<◌, Bool, List, [], ◌∷◌, length, map, refl, sym, ap, ap₂, ◌∙◌, arith}
use Rattle.std.specs.List.{filter, enumerate_from}
use Rattle.air_field.specs.Ring.{CommRing}
use Rattle.air_field.specs.laws.Ring.{zero_mul, add_mul, add_left_comm, ring_rules}
use Rattle.air_recording.specs.Kinds.{is_base, is_extension}
use Rattle.air_recording.specs.declared.symbolic.kind.ConstraintKind.{ConstraintKind}
use Rattle.air_recording.specs.declared.symbolic.kind.ConstraintKind.TheVariants as kind
use Rattle.air_recording.specs.Folds.{sum_below, weighted_sum}

-- the indices at which the kind satisfies `is`, where the first kind has index n
abbrev pub places_from : (ConstraintKind → Bool) → ℕ → List ConstraintKind → List ℕ
places_from is n kinds = map (λ p. p.0) (filter (λ p. is p.1) (enumerate_from n kinds))

module _ {E : Type 0} (r : CommRing E) where
  pub sum_below-ext : (f g : ℕ → E) (n : ℕ) → ((i : ℕ) → i < n → f i ≡ g i) → sum_below r f n ≡ sum_below r g n
  sum_below-ext f g zero h = refl
  sum_below-ext f g (suc n) h = ap₂ r.add (sum_below-ext f g n (λ i b. h i (omega arith))) (h n (omega arith))

  pub sum_below-mul : (f : ℕ → E) (c : E) (n : ℕ) → sum_below r (λ i. r.mul (f i) c) n ≡ r.mul (sum_below r f n) c
  sum_below-mul f c zero = sym (zero_mul r c)
  sum_below-mul f c (suc n) = ap (λ x. r.add x (r.mul (f n) c)) (sum_below-mul f c n) ∙ sym (add_mul r (sum_below r f n) (f n) c)

  -- the sum of f over a list
  abbrev pub sum_over : {A : Type 0} → (A → E) → List A → E
  sum_over f [] = r.zero
  sum_over f (x ∷ xs) = r.add (f x) (sum_over f xs)

  pub sum_over-ext : {A : Type 0} (f g : A → E) (xs : List A) → ((x : A) → f x ≡ g x) → sum_over f xs ≡ sum_over g xs
  sum_over-ext f g [] h = refl
  sum_over-ext f g (x ∷ xs) h = ap₂ r.add (h x) (sum_over-ext f g xs h)

  sum_over-nil : {A : Type 0} (xs : List A) → sum_over (λ x. r.zero) xs ≡ r.zero
  sum_over-nil [] = refl
  sum_over-nil (x ∷ xs) = ap (r.add r.zero) (sum_over-nil xs) ∙ r.add_zero r.zero

  sum_over-add : {A : Type 0} (f g : A → E) (xs : List A) → sum_over (λ x. r.add (f x) (g x)) xs ≡ r.add (sum_over f xs) (sum_over g xs)
  sum_over-add f g [] = sym (r.add_zero r.zero)
  sum_over-add f g (x ∷ xs) =
      ap (r.add (r.add (f x) (g x))) (sum_over-add f g xs) ∙ simp ring_rules

  -- two sums can be exchanged
  pub sum_below-over : {A : Type 0} (f : ℕ → A → E) (xs : List A) (n : ℕ) → sum_below r (λ d. sum_over (f d) xs) n ≡ sum_over (λ x. sum_below r (λ d. f d x) n) xs
  sum_below-over f xs zero = sym (sum_over-nil xs)
  sum_below-over f xs (suc n) =
      ap (λ y. r.add y (sum_over (f n) xs)) (sum_below-over f xs n)
      ∙ sym (sum_over-add (λ x. sum_below r (λ d. f d x) n) (f n) xs)

  pub weighted_sum-map : {A : Type 0} (f g : A → E) (xs : List A) → weighted_sum r (map f xs) (map g xs) ≡ sum_over (λ x. r.mul (f x) (g x)) xs
  weighted_sum-map f g [] = refl
  weighted_sum-map f g (x ∷ xs) = ap (r.add (r.mul (f x) (g x))) (weighted_sum-map f g xs)

  -- f k + .. + f (k + n - 1)
  abbrev pub sum_from : (ℕ → E) → ℕ → ℕ → E
  sum_from f k zero = r.zero
  sum_from f k (suc n) = r.add (f k) (sum_from f (k + 1) n)

  sum_from-last : (f : ℕ → E) (k n : ℕ) → sum_from f k (suc n) ≡ r.add (sum_from f k n) (f (k + n))
  sum_from-last f k zero = r.add_comm (f k) r.zero ∙ ap (λ i. r.add r.zero (f i)) (omega arith)
  sum_from-last f k (suc n) =
      ap (r.add (f k)) (sum_from-last f (k + 1) n ∙ ap (λ i. r.add (sum_from f (k + 1) n) (f i)) (omega arith))
      ∙ sym (r.add_assoc (f k) (sum_from f (k + 1) n) (f (k + suc n)))

  pub sum_below-from : (f : ℕ → E) (n : ℕ) → sum_below r f n ≡ sum_from f 0 n
  sum_below-from f zero = refl
  sum_below-from f (suc n) =
      ap (λ x. r.add x (f n)) (sum_below-from f n)
      ∙ (ap (λ i. r.add (sum_from f 0 n) (f i)) (omega arith) ∙ sym (sum_from-last f 0 n))

  -- the indices of both kinds are all indices
  pub sum-places : (f : ℕ → E) (k : ℕ) (kinds : List ConstraintKind) → r.add (sum_over f (places_from is_base k kinds)) (sum_over f (places_from is_extension k kinds)) ≡ sum_from f k (length kinds)
  sum-places f k [] = r.add_zero r.zero
  sum-places f k (kind.Base ∷ kinds) =
      r.add_assoc (f k) (sum_over f (places_from is_base (k + 1) kinds)) (sum_over f (places_from is_extension (k + 1) kinds))
      ∙ ap (r.add (f k)) (sum-places f (k + 1) kinds)
  sum-places f k (kind.Extension ∷ kinds) =
      add_left_comm r (sum_over f (places_from is_base (k + 1) kinds)) (f k) (sum_over f (places_from is_extension (k + 1) kinds))
      ∙ ap (r.add (f k)) (sum-places f (k + 1) kinds)

-- the number of indices is the number of kinds
pub length-places : (n : ℕ) (kinds : List ConstraintKind) → length (places_from is_base n kinds) + length (places_from is_extension n kinds) ≡ length kinds
length-places n [] = refl
length-places n (kind.Base ∷ kinds) = let h : length (places_from is_base (n + 1) kinds) + length (places_from is_extension (n + 1) kinds) ≡ length kinds = length-places (n + 1) kinds in omega arith
length-places n (kind.Extension ∷ kinds) = let h : length (places_from is_base (n + 1) kinds) + length (places_from is_extension (n + 1) kinds) ≡ length kinds = length-places (n + 1) kinds in omega arith
