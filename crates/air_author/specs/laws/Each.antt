-- A fact that holds of the one element of a list, or of both its elements, holds of each.
use Rattle.std.proofs.Common.{zero, suc, arith, All, [], ◌∷◌}

module _ {A : Type 0} (P : A → Type 0) where
  pub of_one : (x : A) → P x → All P (x ∷ [])
  of_one x h zero d lt = h
  of_one x h (suc k) d lt = absurd (omega (arith, lt))

  pub of_both : (x y : A) → P x → P y → All P (x ∷ y ∷ [])
  of_both x y h k zero d lt = h
  of_both x y h k (suc zero) d lt = k
  of_both x y h k (suc (suc n)) d lt = absurd (omega (arith, lt))
