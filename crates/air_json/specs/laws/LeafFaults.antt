-- A value that spells no leaf has a fault, and a value with a fault spells no leaf.
use Rattle.std.proofs.Common.{◌≡◌, ℕ, Result, Ok, Err, refl, sym, ap, ◌∙◌, ◌⊎◌, inl, inr}
use Rattle.serde_json.specs.Data.{Data}
use Rattle.air_json.specs.declared.errors.FlatError.{FlatError}
use Rattle.air_json.specs.declared.errors.FlatError.TheVariants as faults
use Rattle.air_json.specs.laws.Readings.{err_of, err_is, not_done}
use Rattle.air_json.specs.LeafFaults.{OwnFaultOr}

module _ {S : Type 0} (spells : Data → S → Type 0) (own : ℕ → Data → FlatError → Type 0) (read : ℕ → Data → Result S FlatError)
    (found : (place : ℕ) (d : Data) (a : S) → read place d ≡ Ok a → spells d a)
    (again : (place : ℕ) (d : Data) (a : S) → spells d a → read place d ≡ Ok a)
    (own_found : (place : ℕ) (d : Data) (f : FlatError) → read place d ≡ Err f → own place d f ⊎ (f ≡ faults.Shape place))
    (own_again : (place : ℕ) (d : Data) (f : FlatError) → own place d f → read place d ≡ Err f) where
  pub leaf_fault_found : (place : ℕ) (d : Data) (f : FlatError) → read place d ≡ Err f → OwnFaultOr spells own place d f
  leaf_fault_found place d f e = go (own_found place d f e)
    where
      go : own place d f ⊎ (f ≡ faults.Shape place) → OwnFaultOr spells own place d f
      go (inl h) = inl h
      go (inr is) =
          inr ((λ a h. not_done (λ _. ⊥) f a (sym e ∙ again place d a h)), (λ g h. err_is g (faults.Shape place) (sym (own_again place d g h) ∙ e ∙ ap (λ k. err_of k) is)), is)

  pub leaf_fault_again : (place : ℕ) (d : Data) (f : FlatError) → OwnFaultOr spells own place d f → read place d ≡ Err f
  leaf_fault_again place d f (inl h) = own_again place d f h
  leaf_fault_again place d f (inr (nowhere, others, is)) = go (read place d) refl
    where
      shape : (g : FlatError) → own place d g ⊎ (g ≡ faults.Shape place) → g ≡ faults.Shape place
      shape g (inl h) = others g h
      shape g (inr h) = h

      go : (r : Result S FlatError) → read place d ≡ r → read place d ≡ Err f
      go (Ok a) e = absurd (nowhere a (found place d a e))
      go (Err g) e = e ∙ ap (λ k. err_of k) (shape g (own_found place d g e) ∙ sym is)
