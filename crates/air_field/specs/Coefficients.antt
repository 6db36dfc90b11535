-- Polynomials as lists of coefficients, lowest first, and their remainders modulo X^4 - w.
use Rattle.std.specs.Prelude.{◌≡◌, ℕ, zero, suc, ◌+◌, ◌<◌, List, [], ◌∷◌, slice_index_or}
use Rattle.air_field.specs.Ring.{CommRing}
use Rattle.air_field.specs.RingOps.{RingOps}
use Rattle.air_field.specs.Polynomial.{convolve}

-- the sum by coefficients; a list is zero past its end
abbrev pub poly_add : {A : Type 0} → RingOps A → List A → List A → List A
poly_add R [] q = q
poly_add R (x ∷ p) [] = x ∷ p
poly_add R (x ∷ p) (y ∷ q) = R.add x y ∷ poly_add R p q

abbrev pub poly_scale : {A : Type 0} → RingOps A → A → List A → List A
poly_scale R x [] = []
poly_scale R x (y ∷ q) = R.mul x y ∷ poly_scale R x q

abbrev pub poly_neg : {A : Type 0} → RingOps A → List A → List A
poly_neg R [] = []
poly_neg R (x ∷ p) = R.neg x ∷ poly_neg R p

-- the product
abbrev pub poly_mul : {A : Type 0} → RingOps A → List A → List A → List A
poly_mul R [] q = []
poly_mul R (x ∷ p) q = poly_add R (poly_scale R x q) (R.zero ∷ poly_mul R p q)

-- the sum of the products of elements with the same index
abbrev pub dot : {A : Type 0} → RingOps A → List A → List A → A
dot R [] q = R.zero
dot R (x ∷ p) [] = R.zero
dot R (x ∷ p) (y ∷ q) = R.add (R.mul x y) (dot R p q)

-- the first four coefficients, plus w times the rest, aligned at the front: X^4 is w
abbrev pub fold_four : {A : Type 0} → RingOps A → A → List A → List A
fold_four R w (a ∷ b ∷ c ∷ d ∷ p) = poly_add R (a ∷ b ∷ c ∷ d ∷ []) (poly_scale R w p)
fold_four R w p = p

-- the product modulo X^4 - w, of lists of four coefficients
abbrev pub binomial_mul : {A : Type 0} → RingOps A → A → List A → List A → List A
binomial_mul R w p q = fold_four R w (poly_mul R p q)

-- x as a polynomial of four coefficients
abbrev pub constant_four : {A : Type 0} → RingOps A → A → List A
constant_four R x = x ∷ R.zero ∷ R.zero ∷ R.zero ∷ []

-- the first n coefficients, zero past the list's end
abbrev pub pad_to : {A : Type 0} → A → ℕ → List A → List A
pad_to d zero p = []
pad_to d (suc n) [] = d ∷ pad_to d n []
pad_to d (suc n) (x ∷ p) = x ∷ pad_to d n p

-- the coefficient at an index, zero past the list's end
abbrev pub coefficient : {A : Type 0} → A → List A → ℕ → A
coefficient d p n = slice_index_or p n d

-- r is the product of p and q where X^4 is w: coefficient k of r, for k below 4, is that of the product plus w times
-- the product's coefficient k + 4
abbrev pub IsProductModulo : {A : Type 0} → CommRing A → A → List A → List A → List A → Type 0
IsProductModulo R w p q r =
    (k : ℕ) → k < 4 → coefficient R.zero r k
    ≡ R.add (convolve R (coefficient R.zero p) (coefficient R.zero q) k)
    (R.mul w (convolve R (coefficient R.zero p) (coefficient R.zero q) (4 + k)))
