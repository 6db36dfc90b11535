-- Which elements of an extension lie in the base field.
use Rattle.std.proofs.Common.{◌≡◌, ℕ, ◌-◌, ◌≤◌, List, [], ◌∷◌, length, replicate, get_or, refl, sym, ap, ◌∙◌, arith}
use Rattle.std.specs.Prelude.{Option, Some, None}
use Rattle.air_field.specs.Ring.{CommRing, AlgebraOver}
use Rattle.air_field.specs.Extension.{Basis, ExtensionLaws, IsInBase}

module _ {F E : Type 0} {r : CommRing F} {a : AlgebraOver F E} {basis : Basis F E} {n : ℕ} (laws : ExtensionLaws r a basis n) where
  -- in the base field: the first coefficient
  pub part-in : (x : E) (xs : List F) (first : F) → xs ≡ basis.coefficients x → 1 ≤ length xs → first ≡ get_or xs 0 first → IsInBase a x → Some first ≡ basis.base_part x
  part-in x [] first e b f h = absurd (omega arith)
  part-in x (y ∷ ys) first e b f h =
      let same : y ∷ ys ≡ h.0 ∷ replicate (n - 1) r.zero = e ∙ ap basis.coefficients h.1 ∙ laws.embed_is h.0 in
      let head : first ≡ h.0 = cc in
      ap (λ (z : F). Some z) head ∙ sym (ap basis.base_part h.1 ∙ laws.part_of h.0)

  -- else none
  pub part-out : (x : E) → (IsInBase a x → ⊥) → None ≡ basis.base_part x
  part-out x h = go (basis.base_part x) refl
    where
      go : (o : Option F) → basis.base_part x ≡ o → None ≡ o
      go None e = refl
      go (Some c) e = absurd (h (c, laws.part_is x c e))
