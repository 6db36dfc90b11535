-- The laws of a ring whose elements are made by calls.
use Rattle.air_field.specs.Ring.{CommRing, AlgebraOver, self_algebra}
use Rattle.air_field.specs.Term.{Term, const_term, add_term, sub_term, mul_term}
use Rattle.air_field.specs.Value.{value}
use Rattle.air_field.specs.Part.{Part}

-- The ring keeps its elements and their meaning. An error allowed for a part of a term is allowed for the whole. Every
-- element means some term.
pub record AlgebraLaws {R E F X : Type 0} (valid : R → Type 0) (has : R → E → Type 0) (means : R → E → Term F → Type 0) (extends : R → R → Type 0) (refuses : X → Term F → Type 0) : Type 0 where
  pub refuses_whole : (e : X) (t u : Term F) → Part t u → refuses e t → refuses e u
  pub same : (p : R) → extends p p
  pub joined : (p q s : R) → extends p q → extends q s → extends p s
  pub valid_stays : (p q : R) → extends p q → valid p → valid q
  pub has_stays : (p q : R) (x : E) → extends p q → has p x → has q x
  pub means_stays : (p q : R) (x : E) (t : Term F) → extends p q → means p x t → means q x t
  pub means_has : (p : R) (x : E) (t : Term F) → means p x t → has p x
  pub has_valid : (p : R) (x : E) → has p x → valid p
  pub means_some : (p : R) (x : E) → has p x → (t : Term F) × means p x t

-- z is an element that means t
abbrev pub Made : {R E F : Type 0} → (R → E → Type 0) → (R → E → Term F → Type 0) → Term F → R → E → Type 0
Made has means t new z = has new z × means new z t

-- z is an element that means op of the term that x meant
abbrev pub MadeOf : {R E F : Type 0} → (R → E → Type 0) → (R → E → Term F → Type 0) → (Term F → Term F) → R → R → E → E → Type 0
MadeOf {F = F} has means op old new x z = has new z × ((t : Term F) → means old x t → means new z (op t))

-- z is an element that means op of the terms that x and y meant
abbrev pub MadeOfBoth : {R E F : Type 0} → (R → E → Type 0) → (R → E → Term F → Type 0) → (Term F → Term F → Term F) → R → R → E → E → E → Type 0
MadeOfBoth {F = F} has means op old new x y z = has new z × ((t u : Term F) → means old x t → means old y u → means new z (op t u))

-- making op of the term that x meant may fail with e
abbrev pub RefusedOf : {R E F X : Type 0} → (R → E → Term F → Type 0) → (X → Term F → Type 0) → (Term F → Term F) → R → E → X → Type 0
RefusedOf {F = F} means refuses op old x e = (t : Term F) → means old x t → refuses e (op t)

-- making op of the terms that x and y meant may fail with e
abbrev pub RefusedOfBoth : {R E F X : Type 0} → (R → E → Term F → Type 0) → (X → Term F → Type 0) → (Term F → Term F → Term F) → R → E → E → X → Type 0
RefusedOfBoth {F = F} means refuses op old x y e = (t u : Term F) → means old x t → means old y u → refuses e (op t u)

-- x + x
abbrev pub double_term : {F : Type 0} → Term F → Term F
double_term t = add_term t t

-- x (x - 1)
abbrev pub bool_check_term : {F : Type 0} → F → Term F → Term F
bool_check_term one t = mul_term t (sub_term t (const_term one))

-- (x + y) - 2xy
abbrev pub xor_term : {F : Type 0} → Term F → Term F → Term F
xor_term t u = sub_term (add_term t u) (double_term (mul_term t u))

-- (1 - x) y
abbrev pub andn_term : {F : Type 0} → F → Term F → Term F → Term F
andn_term one t u = mul_term (sub_term (const_term one) t) u

-- x times a constant
abbrev pub scaled_term : {F : Type 0} → F → Term F → Term F
scaled_term c t = mul_term t (const_term c)

-- the value in an algebra of a term whose leaves are all zero, as of a term without leaves
abbrev pub closed_value_in : {F E : Type 0} → AlgebraOver F E → Term F → E
closed_value_in a t = value a (λ _. a.ring.zero) t

-- the same value in the ring itself
abbrev pub closed_value : {F : Type 0} → CommRing F → Term F → F
closed_value r t = value (self_algebra r) (λ _. r.zero) t
