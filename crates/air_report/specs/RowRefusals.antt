-- The errors of a debug builder at its row.
use Rattle.std.specs.Prelude.{◌≡◌, ◌⊎◌, ℕ, ◌+◌, ◌≤◌, ◌^◌, List, [], ◌∷◌, length, Bool, false}
use Rattle.air_field.specs.Term.{Leaf}
use Rattle.air_field.specs.Assignment.{IsMissing}
use Rattle.air_field.specs.OneRow.{one_row_shape}
use Rattle.air_builder.specs.Assertion.{Assertion}
use Rattle.air_builder.specs.Refused.{Refused}
use Rattle.air_core.specs.declared.errors.AirError.{AirError}
use Rattle.air_core.specs.declared.errors.AirError.TheVariants.{Memory}
use Rattle.air_report.specs.Debug.{RowData}

-- the row has no entry for the leaf
abbrev pub RowMissing : {F E : Type 0} → RowData F E → Leaf → Type 0
RowMissing d l = IsMissing (one_row_shape d.values d.permutation) l

-- the counter would exceed `usize`
abbrev pub IsFull : {F : Type 0} → ℕ → List (Assertion F) → Type 0
IsFull n ts = 2 ^ 64 ≤ n + length ts

-- some assertion isn't zero
abbrev pub SomeNonzero : {F : Type 0} → (Assertion F → Bool) → List (Assertion F) → Type 0
SomeNonzero zero [] = ⊥
SomeNonzero zero (t ∷ ts) = (zero t ≡ false) ⊎ SomeNonzero zero ts

-- A builder at the row refuses to grow as any builder does, with `Memory` only if some assertion isn't zero.
pub record RefusedAtRow {F E : Type 0} (zero : RowData F E → Assertion F → Bool) (d : RowData F E) (n : ℕ) (e : AirError) (ts : List (Assertion F)) : Type 0 where
  pub refused : Refused (RowMissing d) (λ _. ⊥) (IsFull n) e ts
  pub memory : e ≡ Memory → SomeNonzero (zero d) ts
