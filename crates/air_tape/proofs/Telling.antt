-- The tokens of a list.
use Rattle.std.proofs.Common.{◌≡◌, ℕ, List, [], ◌∷◌, ◌++◌, length, ◌+◌, ◌<◌, sym, subst, arith, length-append}
use Rattle.std.specs.Prelude.{slice_index_or}
use Rattle.std.proofs.Math.ListN.{get_or-append}
use Rattle.std.proofs.Math.Seq.{get_or-append_seam}
use borrow.Author.Count.{below_more}
use Rattle.boxcar.specs.Slot.{Named}
use Rattle.air_tape.specs.Tapes.{Where, Shows, Told}

module _ {T : Type 0} (tape : List Named) where
  abbrev Is : List T → List (Where T) → ℕ → Type 0
  Is items shown k = (d : Where T) (e : T) → ((slice_index_or shown k d).index ≡ k) × Shows tape (slice_index_or shown k d) × ((slice_index_or shown k d).value ≡ slice_index_or items k e)

  pub told_at : (items : List T) (shown : List (Where T)) → Told tape items shown → (k : ℕ) (r : Where T) (e : T) → k < length items → r ≡ slice_index_or shown k r →
      (r.index ≡ k) × Shows tape r × (r.value ≡ slice_index_or items k e)
  told_at items shown told k r e lt h = subst (λ (w : Where T). (w.index ≡ k) × Shows tape w × (w.value ≡ slice_index_or items k e)) (sym h) (told.1 k r e lt)

  pub told_push : (items : List T) (shown : List (Where T)) (x : T) (p : Where T) → Told tape items shown → p.index ≡ length items → Shows tape p → p.value ≡ x →
      Told tape (items ++ x ∷ []) (shown ++ p ∷ [])
  told_push items shown x p told at shows value =
      let one : length (items ++ x ∷ []) ≡ length items + 1 = length-append items (x ∷ []) in
      let below : (k : ℕ) → k < length items → Is (items ++ x ∷ []) (shown ++ p ∷ []) k = λ k lt d e.
      rw (get_or-append shown (p ∷ []) d k (omega (arith, told.0)), get_or-append items (x ∷ []) e k lt) (told.1 k d e lt) in
      let here : Is (items ++ x ∷ []) (shown ++ p ∷ []) (length items) = λ d e.
      rw (subst (λ (n : ℕ). slice_index_or (shown ++ p ∷ []) n d ≡ p) told.0 (get_or-append_seam shown p [] d), get_or-append_seam items x [] e) (at, shows, value) in
      (omega (arith, told.0, one, length-append shown (p ∷ [])), λ i d e lt. below_more (Is (items ++ x ∷ []) (shown ++ p ∷ [])) (length items) below here i (omega (arith, one)) d e)
