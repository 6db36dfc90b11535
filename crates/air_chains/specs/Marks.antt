-- The first row that a term marks.
use Rattle.std.specs.Prelude.{◌≡◌, ℕ, ◌<◌, List, [], ◌∷◌, Bool, if◌then◌else◌}
use Rattle.air_field.specs.Assignment.{Trace}
use Rattle.air_field.specs.Ring.{CommRing}
use Rattle.air_field.specs.Term.{Term}
use Rattle.air_chains.specs.Rows.{height, value_at}

-- Row m is the first at which the term is one. It is zero on each row before.
pub record IsFirstMarked {F : Type 0} (R : CommRing F) (t : Trace F) (mark : Term F) (m : ℕ) : Type 0 where
  pub within : m < height t
  pub is_marked : value_at R t m mark ≡ R.one
  pub before : (i : ℕ) → i < m → value_at R t i mark ≡ R.zero

-- the elements up to the first that passes the test, and this one; all if none does
abbrev pub up_to_first : {A : Type 0} → (A → Bool) → List A → List A
up_to_first test [] = []
up_to_first test (x ∷ xs) = x ∷ (if test x then [] else up_to_first test xs)
