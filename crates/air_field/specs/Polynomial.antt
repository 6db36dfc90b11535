-- The polynomial of a term, as a function from indexes to coefficients.
use Rattle.std.specs.Prelude.{◌≡◌, ℕ, zero, suc, ◌-◌, ◌<◌, List, [], ◌∷◌, slice_index_or}
use Rattle.air_field.specs.Ring.{CommRing, minus, AlgebraOver}
use Rattle.air_field.specs.Term.{Leaf, Term, leaf_term, const_term, ext_const_term, add_term, sub_term, neg_term, mul_term}

-- f 0 + .. + f n
abbrev pub sum_to : {E : Type 0} → CommRing E → (ℕ → E) → ℕ → E
sum_to r f zero = f zero
sum_to r f (suc n) = r.add (sum_to r f n) (f (suc n))

-- the coefficients of a product
abbrev pub convolve : {E : Type 0} → CommRing E → (ℕ → E) → (ℕ → E) → ℕ → E
convolve r f g n = sum_to r (λ i. r.mul (f i) (g (n - i))) n

-- coefficient n of the term's polynomial; s gives the leaves' coefficient lists, with zeros past their ends, and a
-- constant is a constant polynomial
abbrev pub polynomial : {F E : Type 0} → AlgebraOver F E → (Leaf → List E) → Term F → ℕ → E
polynomial a s (leaf_term l) n = slice_index_or (s l) n a.ring.zero
polynomial a s (const_term c) n = slice_index_or (a.embed c ∷ []) n a.ring.zero
polynomial a s (ext_const_term c) n = slice_index_or (a.extend c ∷ []) n a.ring.zero
polynomial a s (add_term t u) n = a.ring.add (polynomial a s t n) (polynomial a s u n)
polynomial a s (sub_term t u) n = minus a.ring (polynomial a s t n) (polynomial a s u n)
polynomial a s (neg_term t) n = a.ring.neg (polynomial a s t n)
polynomial a s (mul_term t u) n = convolve a.ring (polynomial a s t) (polynomial a s u) n

-- every coefficient past n is zero
abbrev pub HasDegreeAtMost : {E : Type 0} → CommRing E → (ℕ → E) → ℕ → Type 0
HasDegreeAtMost r f n = (k : ℕ) → n < k → f k ≡ r.zero

-- all coefficients are equal
abbrev pub SamePolynomial : {E : Type 0} → (ℕ → E) → (ℕ → E) → Type 0
SamePolynomial f g = (n : ℕ) → f n ≡ g n
