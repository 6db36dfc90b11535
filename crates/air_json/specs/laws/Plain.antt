-- Values that own no memory: a JSON value spells at most one.
use Rattle.std.specs.Prelude.{◌≡◌, Some}
use Rattle.std.proofs.Common.{sym, ◌∙◌}
use Rattle.serde_json.specs.Data.{Data}
use Rattle.air_json.specs.Plain.{Plain, PlainLaws}

pub is_only : {A : Type 0} (plain : Plain A) → PlainLaws plain → (d : Data) (x y : A) → plain.spells d x → plain.spells d y → x ≡ y
is_only {A} plain laws d x y h k = same x y (sym (laws.again d x h) ∙ laws.again d y k)
  where
    same : (x y : A) → Some x ≡ Some y → x ≡ y
    same x y e = cc
