-- The two elements of an array of limbs.
use Rattle.std.proofs.Common.{Bool, true, false, ℕ, List, [], ◌∷◌, zero, suc, get_or, All, inl, arith}
use Rattle.air_field.specs.Algebra.{AlgebraLaws}
use Rattle.air_field.specs.Part.{Part, whole, in_mul_left}
use Rattle.air_field.specs.Ring.{CommRing}
use Rattle.air_field.specs.Term.{Term}
use Rattle.air_gadgets.specs.Words.{Limbs}
use Rattle.air_gadgets.specs.Gadgets.{LimbsMean, RefusesOne, carry_term, carries_term, carried_terms, whole_term}

pub low_means : {X F : Type 0} (means : X → Term F → Type 0) (xs : List X) (t : Limbs (Term F)) (d : X) → LimbsMean means xs t → means (get_or xs 0 d) t.low
low_means means [] t d h = absurd h
low_means means (y ∷ ys) t d h = h.0

pub high_means : {X F : Type 0} (means : X → Term F → Type 0) (xs : List X) (t : Limbs (Term F)) (d : X) → LimbsMean means xs t → means (get_or xs 1 d) t.high
high_means means [] t d h = absurd h
high_means means (y ∷ []) t d h = absurd h.1
high_means means (y ∷ z ∷ zs) t d h = h.1.0

pub all_two : {X : Type 0} (P : X → Type 0) (x y : X) → P x → P y → All P (x ∷ y ∷ [])
all_two P x y p q zero d lt = p
all_two P x y p q (suc zero) d lt = q
all_two P x y p q (suc (suc k)) d lt = absurd (omega (arith, lt))

-- a part of a term is a part of it with its carries
in_carries : {F : Type 0} (R : CommRing F) (two : Bool) (n : ℕ) {t u : Term F} → Part t u → Part t (carries_term R two n u)
in_carries R true n p = in_mul_left (in_mul_left p)
in_carries R false n p = in_mul_left p

pub carry_part : {F : Type 0} (R : CommRing F) (two : Bool) (n : ℕ) (t : Term F) → Part (carry_term R n t) (carries_term R two n t)
carry_part R true n t = in_mul_left whole
carry_part R false n t = whole

-- the terms are refused if a part of the whole difference is
pub carried_refused : {R E F X : Type 0} {valid : R → Type 0} {has : R → E → Type 0} {means : R → E → Term F → Type 0}
    {extends : R → R → Type 0} {refuses : X → Term F → Type 0} (laws : AlgebraLaws valid has means extends refuses)
    (C : CommRing F) (two : Bool) (e : X) (low high t : Term F) → Part t (whole_term C low high) → refuses e t
    → RefusesOne refuses e (carried_terms C two low high)
carried_refused laws C two e low high t p h =
    inl (laws.refuses_whole e t (carries_term C two 4294967296 (whole_term C low high)) (in_carries C two 4294967296 p) h)

-- a predicate of the low elements, and, in a later ring, of the high ones
module _ {V R E F X : Type 0} {valid : R → Type 0} {has : R → E → Type 0} {means : R → E → Term F → Type 0}
    {extends : R → R → Type 0} {refuses : X → Term F → Type 0} (laws : AlgebraLaws valid has means extends refuses)
    (P : V → Term F → Type 0) {q r : R} (later : extends q r) where
  pub low_of_three : {K : Term F → Term F → Term F → Type 0} (xs ys : List V) (zs : List E) (d e : V) (f : E)
      → ((t u v : Term F) → P (get_or xs 0 d) t → P (get_or ys 0 e) u → means q (get_or zs 0 f) v → K t u v)
      → (t u v : Limbs (Term F)) → LimbsMean P xs t → LimbsMean P ys u → LimbsMean (means q) zs v → K t.low u.low v.low
  low_of_three xs ys zs d e f h t u v i j k =
      h t.low u.low v.low (low_means P xs t d i) (low_means P ys u e j) (low_means (means q) zs v f k)

  pub low_of_four : {K : Term F → Term F → Term F → Term F → Type 0} (xs ys : List V) (zs ws : List E) (d e : V) (f g : E)
      → ((t u v w : Term F) → P (get_or xs 0 d) t → P (get_or ys 0 e) u → means q (get_or zs 0 f) v → means q (get_or ws 0 g) w → K t u v w)
      → (t u v w : Limbs (Term F)) → LimbsMean P xs t → LimbsMean P ys u → LimbsMean (means q) zs v → LimbsMean (means q) ws w
      → K t.low u.low v.low w.low
  low_of_four xs ys zs ws d e f g h t u v w i j k l =
      h t.low u.low v.low w.low (low_means P xs t d i) (low_means P ys u e j) (low_means (means q) zs v f k) (low_means (means q) ws w g l)

  high_later : (xs : List E) (t : Limbs (Term F)) (d : E) → LimbsMean (means q) xs t → means r (get_or xs 1 d) t.high
  high_later xs t d h = laws.means_stays q r (get_or xs 1 d) t.high later (high_means (means q) xs t d h)

  pub high_of_three : {K : Term F → Term F → Term F → Type 0} (xs ys : List V) (zs : List E) (d e : V) (f : E)
      → ((t u v : Term F) → P (get_or xs 1 d) t → P (get_or ys 1 e) u → means r (get_or zs 1 f) v → K t u v)
      → (t u v : Limbs (Term F)) → LimbsMean P xs t → LimbsMean P ys u → LimbsMean (means q) zs v → K t.high u.high v.high
  high_of_three xs ys zs d e f h t u v i j k =
      h t.high u.high v.high (high_means P xs t d i) (high_means P ys u e j) (high_later zs v f k)

  pub high_of_four : {K : Term F → Term F → Term F → Term F → Type 0} (xs ys : List V) (zs ws : List E) (d e : V) (f g : E)
      → ((t u v w : Term F) → P (get_or xs 1 d) t → P (get_or ys 1 e) u → means r (get_or zs 1 f) v → means r (get_or ws 1 g) w → K t u v w)
      → (t u v w : Limbs (Term F)) → LimbsMean P xs t → LimbsMean P ys u → LimbsMean (means q) zs v → LimbsMean (means q) ws w
      → K t.high u.high v.high w.high
  high_of_four xs ys zs ws d e f g h t u v w i j k l =
      h t.high u.high v.high w.high (high_means P xs t d i) (high_means P ys u e j) (high_later zs v f k) (high_later ws w g l)
