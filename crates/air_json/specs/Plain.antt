-- Values that own no memory, and their spellings.
use Rattle.std.specs.Prelude.{◌≡◌, Option, Some}
use Rattle.serde_json.specs.Data.{Data}

-- The JSON value written for a value, the JSON values that spell it, and the value that is read from one.
pub record Plain (A : Type 0) : Type 1 where
  pub written : A → Data
  pub spells : Data → A → Type 0
  pub read : Data → Option A

-- the written JSON value is one spelling, and reading answers exactly the value that is spelt
pub record PlainLaws {A : Type 0} (plain : Plain A) : Type 0 where
  pub is_spelt : (x : A) → plain.spells (plain.written x) x
  pub found : (d : Data) (x : A) → plain.read d ≡ Some x → plain.spells d x
  pub again : (d : Data) (x : A) → plain.spells d x → plain.read d ≡ Some x
