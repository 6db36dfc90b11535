-- A list is empty exactly if its length is zero.
use Rattle.std.specs.Prelude.{◌≡◌, ◌≢◌, ◌↔◌, ℕ, List, [], ◌∷◌, length, Bool, true, false, not, ◌==◌, IsTrue, refl}
use Rattle.std.proofs.Common.{ap, subst, ◌∙◌}
use Rattle.std.proofs.Math.Dec.{eqb-suc-zero}

module _ {X : Type 0} where
  is_other : (x : X) (xs : List X) (n : ℕ) (b : Bool) → n ≡ length (x ∷ xs) → b ≡ (n == 0) → b ≡ false
  is_other x xs n b p e = e ∙ (ap (λ k. k == 0) p ∙ eqb-suc-zero (length xs))

  pub empty_exactly : (xs : List X) (n : ℕ) (b : Bool) → n ≡ length xs → b ≡ (n == 0) → IsTrue b ↔ (xs ≡ [])
  empty_exactly [] n b p e = (λ h. refl, λ h. e ∙ ap (λ k. k == 0) p)
  empty_exactly (x ∷ xs) n b p e = let f = is_other x xs n b p e in (λ h. cc, λ h. cc)

  pub other_exactly : (xs : List X) (n : ℕ) (b : Bool) → n ≡ length xs → b ≡ (n == 0) → IsTrue (not b) ↔ (xs ≢ [])
  other_exactly [] n b p e =
      let f : b ≡ true = e ∙ ap (λ k. k == 0) p in
      (λ h. let k : false ≡ true = subst (λ v. not v ≡ true) f h in cc, λ h. absurd (h refl))
  other_exactly (x ∷ xs) n b p e = (λ h q. cc, λ h. ap not (is_other x xs n b p e))
