-- Products of differences, as a running product ends with.
use Rattle.std.specs.Prelude.{◌≡◌, ◌≢◌, ℕ, ◌≤◌, List, [], ◌∷◌, length, Bool}
use Rattle.air_field.specs.Distinct.{AtMost}
use Rattle.air_field.specs.Ring.{CommRing, minus}
use Rattle.air_lookup.specs.Lookups.{occurrences}

-- the product of alpha - x over the list
abbrev pub product_at : {A : Type 0} → CommRing A → A → List A → A
product_at r alpha [] = r.one
product_at r alpha (x ∷ xs) = r.mul (minus r alpha x) (product_at r alpha xs)

-- If some value doesn't occur in two lists equally often, their products agree at no more elements than the longer list
-- has.
abbrev pub FewProductsAgree : {A : Type 0} → CommRing A → (A → A → Bool) → Type 0
FewProductsAgree {A} r eq =
    (xs ys : List A) (v : A) → occurrences eq v xs ≢ occurrences eq v ys → (n : ℕ) → length xs ≤ n → length ys ≤ n
    → AtMost (λ alpha. product_at r alpha xs ≡ product_at r alpha ys) n
