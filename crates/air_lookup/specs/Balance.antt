-- Entries of a lookup argument, and when they balance.
use Rattle.std.specs.Prelude.{◌≡◌, ℕ, List, [], ◌∷◌, length, Bool, not, if◌then◌else◌, ⊤}
use Rattle.std.specs.List.{filter}
use Rattle.air_field.specs.Ring.{CommRing, minus}

-- A value, and how often it is offered: a value that is looked up has a negative multiplicity.
pub record Entry (A : Type 0) : Type 0 where
  pub value : A
  pub multiplicity : A

abbrev pub sum_of : {A : Type 0} → CommRing A → List A → A
sum_of r [] = r.zero
sum_of r (x ∷ xs) = r.add x (sum_of r xs)

-- Each share times (alpha - value) is the multiplicity. So the share is the multiplicity divided by (alpha - value), if
-- alpha isn't the value; else it may be any element, and the multiplicity is zero.
abbrev pub AreShares : {A : Type 0} → CommRing A → A → List (Entry A) → List A → Type 0
AreShares r alpha [] [] = ⊤
AreShares r alpha [] (d ∷ ds) = ⊥
AreShares r alpha (e ∷ es) [] = ⊥
AreShares r alpha (e ∷ es) (d ∷ ds) = (r.mul (minus r alpha e.value) d ≡ e.multiplicity) × AreShares r alpha es ds

-- The entries have shares at alpha whose sum is s.
pub record SumsTo {A : Type 0} (r : CommRing A) (alpha : A) (entries : List (Entry A)) (s : A) : Type 0 where
  pub shares : List A
  pub are_shares : AreShares r alpha entries shares
  pub sum : sum_of r shares ≡ s

abbrev pub Balances : {A : Type 0} → CommRing A → A → List (Entry A) → Type 0
Balances r alpha entries = SumsTo r alpha entries r.zero

-- the sum of a value's multiplicities
abbrev pub total : {A : Type 0} → CommRing A → (A → A → Bool) → A → List (Entry A) → A
total r eq v [] = r.zero
total r eq v (e ∷ es) = if eq e.value v then r.add e.multiplicity (total r eq v es) else total r eq v es

-- the number of entries of other values
abbrev pub others : {A : Type 0} → (A → A → Bool) → A → List (Entry A) → ℕ
others eq v es = length (filter (λ e. not (eq e.value v)) es)
