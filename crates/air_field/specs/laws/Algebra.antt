-- Values as a ring that makes expressions, and values of terms under leaves.
use Rattle.std.specs.Prelude.{◌≡◌, ⊤, List, refl}
use Rattle.air_field.specs.Ring.{CommRing, AlgebraOver}
use Rattle.air_field.specs.Term.{Term, const_term, ext_const_term, IsBase}
use Rattle.air_field.specs.Algebra.{AlgebraLaws, closed_value_in, closed_value}

-- a ring without state in which each element means some term
stateless_laws : {R E F X : Type 0} (means : E → Term F → Type 0) → ((x : E) → (t : Term F) × means x t)
    → AlgebraLaws {R = R} {E = E} {F = F} {X = X} (λ _. ⊤) (λ _ _. ⊤) (λ _. means) (λ _ _. ⊤) (λ _ _. ⊥)
stateless_laws means some = record {
  refuses_whole = λ e t u p h. h;
  same = λ p. tt;
  joined = λ p q s g h. tt;
  valid_stays = λ p q g h. tt;
  has_stays = λ p q x g h. tt;
  means_stays = λ p q x t g h. h;
  means_has = λ p x t h. tt;
  has_valid = λ p x h. tt;
  means_some = λ p x h. some x;
}

-- A ring of extension values: each element is the value of the terms it means, and means an extension constant.
pub value_in_laws : {R F E X : Type 0} (a : AlgebraOver F E) (coefficients : E → List F)
    → ((x : E) → a.extend (coefficients x) ≡ x)
    → AlgebraLaws {R = R} {E = E} {F = F} {X = X} (λ _. ⊤) (λ _ _. ⊤) (λ _ x t. closed_value_in a t ≡ x) (λ _ _. ⊤)
    (λ _ _. ⊥)
value_in_laws a coefficients named =
    stateless_laws (λ x t. closed_value_in a t ≡ x) (λ x. (ext_const_term (coefficients x), named x))

-- A ring of base values: its elements mean base terms only, with their values in the ring itself.
pub value_laws : {R F X : Type 0} (r : CommRing F) → AlgebraLaws {R = R} {E = F} {X = X} (λ _. ⊤) (λ _ _. ⊤) (λ _ x t. IsBase t × (closed_value r t ≡ x)) (λ _ _. ⊤) (λ _ _. ⊥)
value_laws r = stateless_laws (λ x t. IsBase t × (closed_value r t ≡ x)) (λ x. (const_term x, (tt, refl)))
