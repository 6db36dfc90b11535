-- What a ring over an extension guarantees about the base ring's elements.
use Rattle.std.specs.Prelude.{◌≡◌, ⊤, refl}
use Rattle.air_field.specs.Ring.{CommRing}
use Rattle.air_field.specs.Term.{Term, const_term, IsBase}
use Rattle.air_field.specs.Algebra.{closed_value}

-- Elements of the base ring stay in it and keep their meaning. Each means some term.
pub record ExtAlgebraLaws {R B F : Type 0} (valid : R → Type 0) (base_has : R → B → Type 0) (base_means : R → B → Term F → Type 0) (extends : R → R → Type 0) : Type 0 where
  pub base_has_stays : (p q : R) (x : B) → extends p q → base_has p x → base_has q x
  pub base_means_stays : (p q : R) (x : B) (t : Term F) → extends p q → base_means p x t → base_means q x t
  pub base_means_has : (p : R) (x : B) (t : Term F) → base_means p x t → base_has p x
  pub base_has_valid : (p : R) (x : B) → base_has p x → valid p
  pub base_means_some : (p : R) (x : B) → base_has p x → (t : Term F) × base_means p x t

-- z is an element that means what x meant in the base ring
abbrev pub Lifted : {R E B F : Type 0} → (R → E → Type 0) → (R → E → Term F → Type 0) → (R → B → Term F → Type 0) → R → R → B → E → Type 0
Lifted {F = F} has means base_means old new x z = has new z × ((t : Term F) → base_means old x t → means new z t)

-- lifting x may fail with e
abbrev pub RefusedLift : {R B F X : Type 0} → (R → B → Term F → Type 0) → (X → Term F → Type 0) → R → B → X → Type 0
RefusedLift {F = F} base_means refuses old x e = (t : Term F) → base_means old x t → refuses e t

-- A ring of values as the base ring, whose elements mean base terms.
pub values_are_base : {R F : Type 0} (r : CommRing F) → ExtAlgebraLaws {R = R} {B = F} {F = F} (λ _. ⊤) (λ _ _. ⊤) (λ _ x t. IsBase t × (closed_value r t ≡ x)) (λ _ _. ⊤)
values_are_base r = record {
  base_has_stays = λ p q x g h. tt;
  base_means_stays = λ p q x t g h. h;
  base_means_has = λ p x t h. tt;
  base_has_valid = λ p x h. tt;
  base_means_some = λ p x h. (const_term x, (tt, refl));
}
