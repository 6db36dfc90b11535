-- reading polynomials of four coefficients
use Rattle.std.specs.Bool.{Decides}
use Rattle.std.proofs.Common.{◌≡◌, ◌+◌, ◌*◌, ◌%◌, ◌∷◌, ℕ, List, [], length, Bool, eqb, get_or, take, drop, refl, sym, ◌∙◌, ap, arith}
use Rattle.std.proofs.lemmas.Slice.Eq.{slice_eq-Decides}
use Rattle.air_field.specs.laws.FourCoefficients.{by_four}
use Rattle.air_field.specs.Extension.{IsInBase}
use Rattle.air_field.specs.RingOps.{ops}
use Rattle.air_field.specs.Coefficients.{poly_add, poly_neg, dot}
use Rattle.air_field.specs.Modular.{modular_add, modular_neg}
use Rattle.air_field.specs.Residue.{residue_class, residue_ring, residues}
use Rattle.air_field.specs.laws.Modular.{class-add, equal_is}
use Rattle.air_field.specs.laws.Residues.{same_value}
use Rattle.air_field.specs.laws.SamePolynomial.{same_list}
use Rattle.air_field.specs.Binomial.{constant_polynomial, binomial_over}
use Rattle.air_field.specs.declared.fields.modulus.Modulus.{Ghosts}
use Rattle.air_field.specs.declared.fields.residue.Residue.{Residue}
use Rattle.air_field.specs.declared.fields.binomial.BinomialExtension.{BinomialExtension}
use lib.Pointwise.{pointwise}

-- four coefficients read are the list
pub given_four : {M : Type 0} {mo : Ghosts M} (l : List (Residue M mo)) (a b c d : Residue M mo) → length l ≡ 4 → a ≡ get_or l 0 a → b ≡ get_or l 1 b → c ≡ get_or l 2 c → d ≡ get_or l 3 d → a ∷ b ∷ c ∷ d ∷ [] ≡ l
given_four {M = M} {mo = mo} l a b c d h =
    by_four (λ m. a ≡ get_or m 0 a → b ≡ get_or m 1 b → c ≡ get_or m 2 c → d ≡ get_or m 3 d → a ∷ b ∷ c ∷ d ∷ [] ≡ m)
    (λ s t u v p q r w i. p i ∷ q i ∷ r i ∷ w i ∷ []) l h

-- four negatives are the list's
pub four_negatives : {M : Type 0} {mo : Ghosts M} (p : List (Residue M mo)) (a b c d : Residue M mo) → length p ≡ 4
    → modular_neg (residues mo) (get_or p 0 a) ∷ modular_neg (residues mo) (get_or p 1 b) ∷ modular_neg (residues mo) (get_or p 2 c) ∷ modular_neg (residues mo) (get_or p 3 d) ∷ [] ≡ poly_neg (ops (residue_ring mo)) p
four_negatives {M = M} {mo = mo} p a b c d hp =
    by_four (λ l. modular_neg (residues mo) (get_or l 0 a) ∷ modular_neg (residues mo) (get_or l 1 b) ∷ modular_neg (residues mo) (get_or l 2 c) ∷ modular_neg (residues mo) (get_or l 3 d) ∷ [] ≡ poly_neg (ops (residue_ring mo)) l)
    (λ s t u v. refl) p hp

abbrev pub sum_at : {M : Type 0} {mo : Ghosts M} → List (Residue M mo) → List (Residue M mo) → ℕ → (Residue M mo) → (Residue M mo) → (Residue M mo)
sum_at {M = M} {mo = mo} p q k a b = modular_add (residues mo) (get_or p k a) (get_or q k b)

-- four sums are those of the lists
pub four_sums : {M : Type 0} {mo : Ghosts M} (p q : List (Residue M mo)) (a b c d e f g h : Residue M mo) → length p ≡ 4 → length q ≡ 4
    → sum_at p q 0 a e ∷ sum_at p q 1 b f ∷ sum_at p q 2 c g ∷ sum_at p q 3 d h ∷ [] ≡ poly_add (ops (residue_ring mo)) p q
four_sums {M = M} {mo = mo} p q a b c d e f g h hp hq =
    by_four (λ l. sum_at l q 0 a e ∷ sum_at l q 1 b f ∷ sum_at l q 2 c g ∷ sum_at l q 3 d h ∷ [] ≡ poly_add (ops (residue_ring mo)) l q) (λ s t u v.
    by_four (λ m. sum_at (s ∷ t ∷ u ∷ v ∷ []) m 0 a e ∷ sum_at (s ∷ t ∷ u ∷ v ∷ []) m 1 b f ∷ sum_at (s ∷ t ∷ u ∷ v ∷ []) m 2 c g ∷ sum_at (s ∷ t ∷ u ∷ v ∷ []) m 3 d h ∷ [] ≡ poly_add (ops (residue_ring mo)) (s ∷ t ∷ u ∷ v ∷ []) m)
    (λ w x y z. refl) q hq) p hp

-- and four differences
pub four_differences : {M : Type 0} {mo : Ghosts M} (p q : List (Residue M mo)) (a b c d e f g h : Residue M mo) → length p ≡ 4 → length q ≡ 4
    → modular_add (residues mo) (get_or p 0 a) (modular_neg (residues mo) (get_or q 0 e)) ∷ modular_add (residues mo) (get_or p 1 b) (modular_neg (residues mo) (get_or q 1 f)) ∷ modular_add (residues mo) (get_or p 2 c) (modular_neg (residues mo) (get_or q 2 g)) ∷ modular_add (residues mo) (get_or p 3 d) (modular_neg (residues mo) (get_or q 3 h)) ∷ []
    ≡ poly_add (ops (residue_ring mo)) p (poly_neg (ops (residue_ring mo)) q)
four_differences {M = M} {mo = mo} p q a b c d e f g h hp hq =
    by_four (λ m. modular_add (residues mo) (get_or p 0 a) (modular_neg (residues mo) (get_or m 0 e)) ∷ modular_add (residues mo) (get_or p 1 b) (modular_neg (residues mo) (get_or m 1 f)) ∷ modular_add (residues mo) (get_or p 2 c) (modular_neg (residues mo) (get_or m 2 g)) ∷ modular_add (residues mo) (get_or p 3 d) (modular_neg (residues mo) (get_or m 3 h)) ∷ [] ≡ poly_add (ops (residue_ring mo)) p (poly_neg (ops (residue_ring mo)) m))
    (λ w x y z. four_sums p (modular_neg (residues mo) w ∷ modular_neg (residues mo) x ∷ modular_neg (residues mo) y ∷ modular_neg (residues mo) z ∷ []) a b c d e f g h hp refl) q hq

-- the test for the base field is exact
base_at : {M : Type 0} {mo : Ghosts M} (l : List (Residue M mo)) (r : Bool) (x y z : Residue M mo) → length l ≡ 4 → x ≡ residue_class mo 0 → y ≡ residue_class mo 0 → z ≡ residue_class mo 0
    → r ≡ pointwise (λ (s t : Residue M mo). eqb s.residue t.residue) (take 3 (drop 1 l)) (x ∷ y ∷ z ∷ [])
    → Decides r ((s : Residue M mo) × (l ≡ (constant_polynomial s).value))
base_at {M = M} {mo = mo} l r x y z h hx hy hz =
    by_four (λ m. r ≡ pointwise (λ (s t : Residue M mo). eqb s.residue t.residue) (take 3 (drop 1 m)) (x ∷ y ∷ z ∷ []) → Decides r ((s : Residue M mo) × (m ≡ (constant_polynomial s).value)))
    (λ a b c d e.
    let told : Decides r (b ∷ c ∷ d ∷ [] ≡ x ∷ y ∷ z ∷ []) = slice_eq-Decides (equal_is (residues mo)) (b ∷ c ∷ d ∷ []) (x ∷ y ∷ z ∷ []) r e in (
      (λ i. (a, ap (λ m. a ∷ m) (told.0 i ∙ (λ j. hx j ∷ hy j ∷ hz j ∷ [])))),
      (λ w. told.1 (ap (drop 1) w.1 ∙ (λ j. sym hx j ∷ sym hy j ∷ sym hz j ∷ []))),
    ))
    l h

pub base_tells : {M : Type 0} {mo : Ghosts M} (w : ℕ) (a : BinomialExtension M mo) (r : Bool) (x y z : Residue M mo) → x ≡ residue_class mo 0 → y ≡ residue_class mo 0 → z ≡ residue_class mo 0
    → r ≡ pointwise (λ (s t : Residue M mo). eqb s.residue t.residue) (take 3 (drop 1 a.value)) (x ∷ y ∷ z ∷ [])
    → Decides r (IsInBase (binomial_over mo w) a)
base_tells {M = M} {mo = mo} w a r x y z hx hy hz e =
    let told : Decides r ((s : Residue M mo) × (a.value ≡ (constant_polynomial s).value)) = base_at a.value r x y z a.four hx hy hz e in
    ((λ i. let w : (s : Residue M mo) × (a.value ≡ (constant_polynomial s).value) = told.0 i in (w.0, same_list a (constant_polynomial w.0) w.1)), (λ v. told.1 (v.0, ap (λ m. m.value) v.1)))

nested : {M : Type 0} (mo : Ghosts M) (w x y z : ℕ) → residue_class mo (w + x + y + z) ≡ modular_add (residues mo) (residue_class mo w) (modular_add (residues mo) (residue_class mo x) (modular_add (residues mo) (residue_class mo y) (modular_add (residues mo) (residue_class mo z) (residue_class mo 0))))
nested mo w x y z =
    ap (residue_class mo) {x = w + x + y + z} {y = w + (x + (y + (z + 0)))} (omega arith)
    ∙ (class-add (residues mo) w (x + (y + (z + 0)))
    ∙ ap (modular_add (residues mo) (residue_class mo w)) (class-add (residues mo) x (y + (z + 0))
    ∙ ap (modular_add (residues mo) (residue_class mo x)) (class-add (residues mo) y (z + 0)
    ∙ ap (modular_add (residues mo) (residue_class mo y)) (class-add (residues mo) z 0))))

abbrev pub product_at : {M : Type 0} {mo : Ghosts M} → List (Residue M mo) → List (Residue M mo) → ℕ → (Residue M mo) → (Residue M mo) → ℕ
product_at {M = M} {mo = mo} p q k a b = (get_or p k a).residue * (get_or q k b).residue

-- one reduction of the sum of four products is the sum of their classes
pub dot_reduced : {M : Type 0} {mo : Ghosts M} (r : Residue M mo) (p q : List (Residue M mo)) (a b c d e f g h : Residue M mo) → length p ≡ 4 → length q ≡ 4
    → r.residue ≡ (product_at p q 0 a e + product_at p q 1 b f + product_at p q 2 c g + product_at p q 3 d h) % mo.P
    → r ≡ dot (ops (residue_ring mo)) p q
dot_reduced {M = M} {mo = mo} r p q a b c d e f g h hp hq is =
    same_value r (residue_class mo (product_at p q 0 a e + product_at p q 1 b f + product_at p q 2 c g + product_at p q 3 d h)) is
    ∙ by_four (λ l. residue_class mo (product_at l q 0 a e + product_at l q 1 b f + product_at l q 2 c g + product_at l q 3 d h) ≡ dot (ops (residue_ring mo)) l q) (λ s t u v.
    by_four (λ m. residue_class mo (product_at (s ∷ t ∷ u ∷ v ∷ []) m 0 a e + product_at (s ∷ t ∷ u ∷ v ∷ []) m 1 b f + product_at (s ∷ t ∷ u ∷ v ∷ []) m 2 c g + product_at (s ∷ t ∷ u ∷ v ∷ []) m 3 d h) ≡ dot (ops (residue_ring mo)) (s ∷ t ∷ u ∷ v ∷ []) m) (λ w x y z.
    nested mo (s.residue * w.residue) (t.residue * x.residue) (u.residue * y.residue) (v.residue * z.residue)) q hq) p hp
