-- The lists of four coefficients are a commutative ring modulo X^4 - w.
use Rattle.std.specs.Prelude.{◌≡◌, refl, List, [], ◌∷◌, length}
use Rattle.std.proofs.Common.{slice_index_or, ◌∙◌, ap, arith}
use Rattle.air_field.specs.Ring.{CommRing}
use Rattle.air_field.specs.RingOps.{RingOps, ops}
use Rattle.air_field.specs.laws.RingSolver.{Expr, var, unit, nought, expr_ops, vars, ring_list}
use Rattle.air_field.specs.Coefficients.{poly_add, poly_neg, poly_scale, binomial_mul, constant_four, dot}

-- a property of every four coefficients holds for every list of length 4
pub by_four : {A : Type 0} (P : List A → Type 0) → ((a b c d : A) → P (a ∷ b ∷ c ∷ d ∷ [])) → (l : List A) → length l ≡ 4 → P l
by_four P f [] h = absurd (omega arith)
by_four P f (a ∷ []) h = absurd (omega arith)
by_four P f (a ∷ b ∷ []) h = absurd (omega arith)
by_four P f (a ∷ b ∷ c ∷ []) h = absurd (omega arith)
by_four P f (a ∷ b ∷ c ∷ d ∷ []) h = f a b c d
by_four P f (a ∷ b ∷ c ∷ d ∷ e ∷ l) h = absurd (omega arith)

-- with X^4 = w, w being variable 12
abbrev wide : List Expr → List Expr → List Expr
wide p q = binomial_mul expr_ops (var 12) p q

abbrev sum : List Expr → List Expr → List Expr
sum p q = poly_add expr_ops p q

mul_assoc_at : {A : Type 0} (R : CommRing A) (w : A) (a b c d e f g h i j k l : A)
    → binomial_mul (ops R) w (binomial_mul (ops R) w (a ∷ b ∷ c ∷ d ∷ []) (e ∷ f ∷ g ∷ h ∷ [])) (i ∷ j ∷ k ∷ l ∷ [])
    ≡ binomial_mul (ops R) w (a ∷ b ∷ c ∷ d ∷ []) (binomial_mul (ops R) w (e ∷ f ∷ g ∷ h ∷ []) (i ∷ j ∷ k ∷ l ∷ []))
mul_assoc_at R w a b c d e f g h i j k l =
    ring_list R (a ∷ b ∷ c ∷ d ∷ e ∷ f ∷ g ∷ h ∷ i ∷ j ∷ k ∷ l ∷ w ∷ [])
    (wide (wide (vars 0 4) (vars 4 4)) (vars 8 4))
    (wide (vars 0 4) (wide (vars 4 4) (vars 8 4)))
    refl

mul_add_at : {A : Type 0} (R : CommRing A) (w : A) (a b c d e f g h i j k l : A)
    → binomial_mul (ops R) w (a ∷ b ∷ c ∷ d ∷ []) (poly_add (ops R) (e ∷ f ∷ g ∷ h ∷ []) (i ∷ j ∷ k ∷ l ∷ []))
    ≡ poly_add (ops R) (binomial_mul (ops R) w (a ∷ b ∷ c ∷ d ∷ []) (e ∷ f ∷ g ∷ h ∷ [])) (binomial_mul (ops R) w (a ∷ b ∷ c ∷ d ∷ []) (i ∷ j ∷ k ∷ l ∷ []))
mul_add_at R w a b c d e f g h i j k l =
    ring_list R (a ∷ b ∷ c ∷ d ∷ e ∷ f ∷ g ∷ h ∷ i ∷ j ∷ k ∷ l ∷ w ∷ [])
    (wide (vars 0 4) (sum (vars 4 4) (vars 8 4)))
    (sum (wide (vars 0 4) (vars 4 4)) (wide (vars 0 4) (vars 8 4)))
    refl

mul_comm_at : {A : Type 0} (R : CommRing A) (w : A) (a b c d e f g h : A)
    → binomial_mul (ops R) w (a ∷ b ∷ c ∷ d ∷ []) (e ∷ f ∷ g ∷ h ∷ []) ≡ binomial_mul (ops R) w (e ∷ f ∷ g ∷ h ∷ []) (a ∷ b ∷ c ∷ d ∷ [])
mul_comm_at R w a b c d e f g h =
    ring_list R (a ∷ b ∷ c ∷ d ∷ e ∷ f ∷ g ∷ h ∷ R.zero ∷ R.zero ∷ R.zero ∷ R.zero ∷ w ∷ [])
    (wide (vars 0 4) (vars 4 4)) (wide (vars 4 4) (vars 0 4)) refl

-- x times the list, by the list of x as a constant
scale_at : {A : Type 0} (R : CommRing A) (w x a b c d : A)
    → binomial_mul (ops R) w (constant_four (ops R) x) (a ∷ b ∷ c ∷ d ∷ []) ≡ poly_scale (ops R) x (a ∷ b ∷ c ∷ d ∷ [])
scale_at R w x a b c d =
    ring_list R (a ∷ b ∷ c ∷ d ∷ x ∷ R.zero ∷ R.zero ∷ R.zero ∷ R.zero ∷ R.zero ∷ R.zero ∷ R.zero ∷ w ∷ [])
    (wide (constant_four expr_ops (var 4)) (vars 0 4)) (poly_scale expr_ops (var 4) (vars 0 4)) refl

one_at : {A : Type 0} (R : CommRing A) (w a b c d : A)
    → binomial_mul (ops R) w (a ∷ b ∷ c ∷ d ∷ []) (constant_four (ops R) R.one) ≡ a ∷ b ∷ c ∷ d ∷ []
one_at R w a b c d =
    ring_list R (a ∷ b ∷ c ∷ d ∷ R.zero ∷ R.zero ∷ R.zero ∷ R.zero ∷ R.zero ∷ R.zero ∷ R.zero ∷ R.zero ∷ w ∷ [])
    (wide (vars 0 4) (constant_four expr_ops unit)) (vars 0 4) refl

add_assoc_at : {A : Type 0} (R : CommRing A) (a b c d e f g h i j k l : A)
    → poly_add (ops R) (poly_add (ops R) (a ∷ b ∷ c ∷ d ∷ []) (e ∷ f ∷ g ∷ h ∷ [])) (i ∷ j ∷ k ∷ l ∷ [])
    ≡ poly_add (ops R) (a ∷ b ∷ c ∷ d ∷ []) (poly_add (ops R) (e ∷ f ∷ g ∷ h ∷ []) (i ∷ j ∷ k ∷ l ∷ []))
add_assoc_at R a b c d e f g h i j k l =
    ring_list R (a ∷ b ∷ c ∷ d ∷ e ∷ f ∷ g ∷ h ∷ i ∷ j ∷ k ∷ l ∷ [])
    (sum (sum (vars 0 4) (vars 4 4)) (vars 8 4)) (sum (vars 0 4) (sum (vars 4 4) (vars 8 4))) refl

add_comm_at : {A : Type 0} (R : CommRing A) (a b c d e f g h : A)
    → poly_add (ops R) (a ∷ b ∷ c ∷ d ∷ []) (e ∷ f ∷ g ∷ h ∷ []) ≡ poly_add (ops R) (e ∷ f ∷ g ∷ h ∷ []) (a ∷ b ∷ c ∷ d ∷ [])
add_comm_at R a b c d e f g h =
    ring_list R (a ∷ b ∷ c ∷ d ∷ e ∷ f ∷ g ∷ h ∷ []) (sum (vars 0 4) (vars 4 4)) (sum (vars 4 4) (vars 0 4)) refl

add_nil_at : {A : Type 0} (R : CommRing A) (a b c d : A)
    → poly_add (ops R) (a ∷ b ∷ c ∷ d ∷ []) (constant_four (ops R) R.zero) ≡ a ∷ b ∷ c ∷ d ∷ []
add_nil_at R a b c d =
    ring_list R (a ∷ b ∷ c ∷ d ∷ []) (sum (vars 0 4) (constant_four expr_ops nought)) (vars 0 4) refl

add_neg_at : {A : Type 0} (R : CommRing A) (a b c d : A)
    → poly_add (ops R) (a ∷ b ∷ c ∷ d ∷ []) (poly_neg (ops R) (a ∷ b ∷ c ∷ d ∷ [])) ≡ constant_four (ops R) R.zero
add_neg_at R a b c d =
    ring_list R (a ∷ b ∷ c ∷ d ∷ []) (sum (vars 0 4) (poly_neg expr_ops (vars 0 4))) (constant_four expr_ops nought) refl

-- ---- lists of length 4
pub mul_length : {A : Type 0} (R : CommRing A) (w : A) (p q : List A) → length p ≡ 4 → length q ≡ 4 → length (binomial_mul (ops R) w p q) ≡ 4
mul_length R w p q hp hq =
    by_four (λ l. length (binomial_mul (ops R) w l q) ≡ 4) (λ a b c d.
    by_four (λ m. length (binomial_mul (ops R) w (a ∷ b ∷ c ∷ d ∷ []) m) ≡ 4) (λ e f g h. refl) q hq) p hp

pub add_length : {A : Type 0} (R : CommRing A) (p q : List A) → length p ≡ 4 → length q ≡ 4 → length (poly_add (ops R) p q) ≡ 4
add_length R p q hp hq =
    by_four (λ l. length (poly_add (ops R) l q) ≡ 4) (λ a b c d.
    by_four (λ m. length (poly_add (ops R) (a ∷ b ∷ c ∷ d ∷ []) m) ≡ 4) (λ e f g h. refl) q hq) p hp

pub neg_length : {A : Type 0} (R : CommRing A) (p : List A) → length p ≡ 4 → length (poly_neg (ops R) p) ≡ 4
neg_length R p hp = by_four (λ l. length (poly_neg (ops R) l) ≡ 4) (λ a b c d. refl) p hp

pub four_mul_assoc : {A : Type 0} (R : CommRing A) (w : A) (p q r : List A) → length p ≡ 4 → length q ≡ 4 → length r ≡ 4
    → binomial_mul (ops R) w (binomial_mul (ops R) w p q) r ≡ binomial_mul (ops R) w p (binomial_mul (ops R) w q r)
four_mul_assoc R w p q r hp hq hr =
    by_four (λ x. binomial_mul (ops R) w (binomial_mul (ops R) w x q) r ≡ binomial_mul (ops R) w x (binomial_mul (ops R) w q r)) (λ a b c d.
    by_four (λ y. binomial_mul (ops R) w (binomial_mul (ops R) w (a ∷ b ∷ c ∷ d ∷ []) y) r ≡ binomial_mul (ops R) w (a ∷ b ∷ c ∷ d ∷ []) (binomial_mul (ops R) w y r)) (λ e f g h.
    by_four
    (λ z. binomial_mul (ops R) w (binomial_mul (ops R) w (a ∷ b ∷ c ∷ d ∷ []) (e ∷ f ∷ g ∷ h ∷ [])) z
    ≡ binomial_mul (ops R) w (a ∷ b ∷ c ∷ d ∷ []) (binomial_mul (ops R) w (e ∷ f ∷ g ∷ h ∷ []) z))
    (λ i j k l.
    mul_assoc_at R w a b c d e f g h i j k l) r hr) q hq) p hp

pub four_mul_add : {A : Type 0} (R : CommRing A) (w : A) (p q r : List A) → length p ≡ 4 → length q ≡ 4 → length r ≡ 4
    → binomial_mul (ops R) w p (poly_add (ops R) q r) ≡ poly_add (ops R) (binomial_mul (ops R) w p q) (binomial_mul (ops R) w p r)
four_mul_add R w p q r hp hq hr =
    by_four (λ x. binomial_mul (ops R) w x (poly_add (ops R) q r) ≡ poly_add (ops R) (binomial_mul (ops R) w x q) (binomial_mul (ops R) w x r)) (λ a b c d.
    by_four
    (λ y. binomial_mul (ops R) w (a ∷ b ∷ c ∷ d ∷ []) (poly_add (ops R) y r)
    ≡ poly_add (ops R) (binomial_mul (ops R) w (a ∷ b ∷ c ∷ d ∷ []) y)
    (binomial_mul (ops R) w (a ∷ b ∷ c ∷ d ∷ []) r))
    (λ e f g h.
    by_four
    (λ z. binomial_mul (ops R) w (a ∷ b ∷ c ∷ d ∷ []) (poly_add (ops R) (e ∷ f ∷ g ∷ h ∷ []) z)
    ≡ poly_add (ops R) (binomial_mul (ops R) w (a ∷ b ∷ c ∷ d ∷ []) (e ∷ f ∷ g ∷ h ∷ []))
    (binomial_mul (ops R) w (a ∷ b ∷ c ∷ d ∷ []) z))
    (λ i j k l.
    mul_add_at R w a b c d e f g h i j k l) r hr) q hq) p hp

pub four_mul_comm : {A : Type 0} (R : CommRing A) (w : A) (p q : List A) → length p ≡ 4 → length q ≡ 4
    → binomial_mul (ops R) w p q ≡ binomial_mul (ops R) w q p
four_mul_comm R w p q hp hq =
    by_four (λ x. binomial_mul (ops R) w x q ≡ binomial_mul (ops R) w q x) (λ a b c d.
    by_four (λ y. binomial_mul (ops R) w (a ∷ b ∷ c ∷ d ∷ []) y ≡ binomial_mul (ops R) w y (a ∷ b ∷ c ∷ d ∷ [])) (λ e f g h.
    mul_comm_at R w a b c d e f g h) q hq) p hp

pub four_scale : {A : Type 0} (R : CommRing A) (w x : A) (p : List A) → length p ≡ 4
    → binomial_mul (ops R) w (constant_four (ops R) x) p ≡ poly_scale (ops R) x p
four_scale R w x p hp =
    by_four (λ y. binomial_mul (ops R) w (constant_four (ops R) x) y ≡ poly_scale (ops R) x y) (λ a b c d. scale_at R w x a b c d) p hp

pub four_mul_one : {A : Type 0} (R : CommRing A) (w : A) (p : List A) → length p ≡ 4
    → binomial_mul (ops R) w p (constant_four (ops R) R.one) ≡ p
four_mul_one R w p hp =
    by_four (λ y. binomial_mul (ops R) w y (constant_four (ops R) R.one) ≡ y) (λ a b c d. one_at R w a b c d) p hp

pub four_add_assoc : {A : Type 0} (R : CommRing A) (p q r : List A) → length p ≡ 4 → length q ≡ 4 → length r ≡ 4
    → poly_add (ops R) (poly_add (ops R) p q) r ≡ poly_add (ops R) p (poly_add (ops R) q r)
four_add_assoc R p q r hp hq hr =
    by_four (λ x. poly_add (ops R) (poly_add (ops R) x q) r ≡ poly_add (ops R) x (poly_add (ops R) q r)) (λ a b c d.
    by_four (λ y. poly_add (ops R) (poly_add (ops R) (a ∷ b ∷ c ∷ d ∷ []) y) r ≡ poly_add (ops R) (a ∷ b ∷ c ∷ d ∷ []) (poly_add (ops R) y r)) (λ e f g h.
    by_four (λ z. poly_add (ops R) (poly_add (ops R) (a ∷ b ∷ c ∷ d ∷ []) (e ∷ f ∷ g ∷ h ∷ [])) z ≡ poly_add (ops R) (a ∷ b ∷ c ∷ d ∷ []) (poly_add (ops R) (e ∷ f ∷ g ∷ h ∷ []) z)) (λ i j k l.
    add_assoc_at R a b c d e f g h i j k l) r hr) q hq) p hp

pub four_add_comm : {A : Type 0} (R : CommRing A) (p q : List A) → length p ≡ 4 → length q ≡ 4
    → poly_add (ops R) p q ≡ poly_add (ops R) q p
four_add_comm R p q hp hq =
    by_four (λ x. poly_add (ops R) x q ≡ poly_add (ops R) q x) (λ a b c d.
    by_four (λ y. poly_add (ops R) (a ∷ b ∷ c ∷ d ∷ []) y ≡ poly_add (ops R) y (a ∷ b ∷ c ∷ d ∷ [])) (λ e f g h.
    add_comm_at R a b c d e f g h) q hq) p hp

pub four_add_nil : {A : Type 0} (R : CommRing A) (p : List A) → length p ≡ 4
    → poly_add (ops R) p (constant_four (ops R) R.zero) ≡ p
four_add_nil R p hp = by_four (λ y. poly_add (ops R) y (constant_four (ops R) R.zero) ≡ y) (λ a b c d. add_nil_at R a b c d) p hp

pub four_add_neg : {A : Type 0} (R : CommRing A) (p : List A) → length p ≡ 4
    → poly_add (ops R) p (poly_neg (ops R) p) ≡ constant_four (ops R) R.zero
four_add_neg R p hp = by_four (λ y. poly_add (ops R) y (poly_neg (ops R) y) ≡ constant_four (ops R) R.zero) (λ a b c d. add_neg_at R a b c d) p hp

-- ---- the product as the code writes it

-- four items, as they were read from a list
from_reads : {A : Type 0} (p : List A) (a b c d : A) → length p ≡ 4 → a ≡ slice_index_or p 0 a → b ≡ slice_index_or p 1 b → c ≡ slice_index_or p 2 c → d ≡ slice_index_or p 3 d → a ∷ b ∷ c ∷ d ∷ [] ≡ p
from_reads p a b c d h =
    by_four (λ l. a ≡ slice_index_or l 0 a → b ≡ slice_index_or l 1 b → c ≡ slice_index_or l 2 c → d ≡ slice_index_or l 3 d → a ∷ b ∷ c ∷ d ∷ [] ≡ l)
    (λ s t u v hs ht hu hv i. hs i ∷ ht i ∷ hu i ∷ hv i ∷ []) p h

-- the product as sums of products with q's coefficients, w times those that X^4 has passed
abbrev pub four_rows : {A : Type 0} → RingOps A → A → List A → A → A → A → A → List A
four_rows R w p e f g h =
    dot R p (e ∷ R.mul w h ∷ R.mul w g ∷ R.mul w f ∷ [])
    ∷ dot R p (f ∷ e ∷ R.mul w h ∷ R.mul w g ∷ [])
    ∷ dot R p (g ∷ f ∷ e ∷ R.mul w h ∷ [])
    ∷ dot R p (h ∷ g ∷ f ∷ e ∷ [])
    ∷ []

rows_at : {A : Type 0} (R : CommRing A) (w a b c d e f g h : A)
    → four_rows (ops R) w (a ∷ b ∷ c ∷ d ∷ []) e f g h ≡ binomial_mul (ops R) w (a ∷ b ∷ c ∷ d ∷ []) (e ∷ f ∷ g ∷ h ∷ [])
rows_at R w a b c d e f g h =
    ring_list R (a ∷ b ∷ c ∷ d ∷ e ∷ f ∷ g ∷ h ∷ R.zero ∷ R.zero ∷ R.zero ∷ R.zero ∷ w ∷ [])
    (four_rows expr_ops (var 12) (vars 0 4) (var 4) (var 5) (var 6) (var 7))
    (wide (vars 0 4) (vars 4 4)) refl

pub four_rows-is : {A : Type 0} (R : CommRing A) (w : A) (p q : List A) (e f g h : A) → length p ≡ 4 → length q ≡ 4
    → e ≡ slice_index_or q 0 e → f ≡ slice_index_or q 1 f → g ≡ slice_index_or q 2 g → h ≡ slice_index_or q 3 h
    → four_rows (ops R) w p e f g h ≡ binomial_mul (ops R) w p q
four_rows-is R w p q e f g h hp hq he hf hg hh =
    by_four (λ l. four_rows (ops R) w l e f g h ≡ binomial_mul (ops R) w l (e ∷ f ∷ g ∷ h ∷ [])) (λ a b c d. rows_at R w a b c d e f g h) p hp
    ∙ ap (binomial_mul (ops R) w p) (from_reads q e f g h hq he hf hg hh)
