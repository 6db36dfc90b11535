-- Equality and order that agree with equality of values.
use Rattle.std.specs.Prelude.{◌≡◌, ◌↔◌, Bool, true}
use Rattle.std.specs.declared.cmp.Ordering.{Ordering}
use Rattle.std.specs.declared.cmp.Ordering.TheVariants.{Equal}
use Rattle.std.specs.Cmp.{IsTotalOrder}

-- `==` is true exactly for equal values, and `cmp` is a total order that answers Equal exactly for these
pub record IsExactOrder {A : Type 0} (eq : A → A → Bool) (cmp : A → A → Ordering) : Type 0 where
  pub eq_is : (a b : A) → (eq a b ≡ true) ↔ (a ≡ b)
  pub cmp_is : (a b : A) → (cmp a b ≡ Equal) ↔ (a ≡ b)
  pub total : IsTotalOrder cmp
