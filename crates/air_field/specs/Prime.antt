-- Prime numbers.
use Rattle.std.specs.Prelude.{ℕ, ◌*◌, ◌≤◌, ◌⊎◌}
use Rattle.std.specs.Int.{◌∣◌}

-- p is at least 2, and it divides a product only if it divides a factor
pub record IsPrime (p : ℕ) : Type 0 where
  pub least : 2 ≤ p
  pub divides : (a b : ℕ) → p ∣ a * b → (p ∣ a) ⊎ (p ∣ b)
