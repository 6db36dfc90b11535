-- Rows as a builder shows them: which elements they hold, and where they end.
use Rattle.std.specs.Prelude.{◌≡◌, ◌⊎◌, ◌<◌, ◌≤◌, ◌↔◌, ℕ, zero, suc, List, length, Option, Some, None, IfSome, refl, slice_get, slice_index_or, ⊤}
use Rattle.std.proofs.Common.{inl, inr, sym, ◌∙◌, ap, subst, arith}
use Rattle.std.proofs.lemmas.Option.{get_or_from_slice_get, slice_get_cases, slice_get_past}
use Rattle.air_field.specs.Ring.{CommRing, AlgebraOver}
use Rattle.air_field.specs.Term.{permutation}
use Rattle.air_field.specs.Extension.{Basis, ExtensionLaws}
use Rattle.air_field.specs.laws.Extension.{extend-coefficients}
use Rattle.air_field.specs.Assignment.{RowValues, IsMissing}
use Rattle.air_field.specs.OneRow.{one_row_shape}
use Rattle.air_field.specs.declared.matrices.view.ViewPair.{ViewPair}
use Rattle.air_builder.specs.PermutationRows.{permutation_row, next_permutation_row, permutation_data}

-- Two rows as a window shows them: each element that is read `holds` of the row's element at that index, and reading gives
-- none exactly past the row's end.
pub record WindowShows {E : Type 0} (holds : E → E → Type 0) (z : E) (first second top bottom : List E) : Type 0 where
  pub current : (i : ℕ) (v : E) → slice_get top i ≡ Some v → holds (slice_index_or first i z) v
  pub next : (i : ℕ) (v : E) → slice_get bottom i ≡ Some v → holds (slice_index_or second i z) v
  pub current_ends : (i : ℕ) → (length first ≤ i) ↔ (slice_get top i ≡ None)
  pub next_ends : (i : ℕ) → (length first ≤ i) ↔ (slice_get bottom i ≡ None)

-- where no element is read, the row has ended
none_ends : {E : Type 0} (row : List E) (i : ℕ)
    → ((x : E) × (i < length row) × (slice_get row i ≡ Some x) × (slice_index_or row i x ≡ x)) ⊎ ((length row ≤ i) × (slice_get row i ≡ None))
    → slice_get row i ≡ None → length row ≤ i
none_ends row i (inl w) e = absurd (some_none (sym w.2 ∙ e))
  where
    some_none : {A : Type 0} {x : A} → Some x ≡ None → ⊥
    some_none e = cc
none_ends row i (inr w) e = w.0

-- no element is read exactly past the end
pub row_ends : {E : Type 0} (row : List E) (i : ℕ) → (length row ≤ i) ↔ (slice_get row i ≡ None)
row_ends row i = (slice_get_past row i, none_ends row i (slice_get_cases row i).1)

-- nothing is found exactly past the end
pub none_is_past : {E : Type 0} (row : List E) (i : ℕ) (found : Option E) → found ≡ slice_get row i → (found ≡ None) ↔ (length row ≤ i)
none_is_past row i found e = (λ h. (row_ends row i).1 (sym e ∙ h), λ h. e ∙ (row_ends row i).0 h)

-- a relation that holds between each element and itself
module _ {E : Type 0} (holds : E → E → Type 0) (each : (x : E) → holds x x) (z : E) where
  shown : (row : List E) (i : ℕ) (v : E) → slice_get row i ≡ Some v → holds (slice_index_or row i z) v
  shown row i v e = subst (λ x. holds x v) (sym (get_or_from_slice_get row i v z e)) (each v)

  found_shown : (row : List E) (i : ℕ) (found : Option E) → found ≡ slice_get row i → IfSome found (holds (slice_index_or row i z))
  found_shown row i None e = tt
  found_shown row i (Some v) e = shown row i v (sym e)

  window_shows : (first second top bottom : List E) → length first ≡ length second → top ≡ first → bottom ≡ second → WindowShows holds z first second top bottom
  window_shows first second top bottom same f s = record {
    current = λ i v e. shown first i v (ap (λ l. slice_get l i) (sym f) ∙ e);
    next = λ i v e. shown second i v (ap (λ l. slice_get l i) (sym s) ∙ e);
    current_ends = λ i. rw f (row_ends first i);
    next_ends = λ i. rw (s, same) (row_ends second i);
  }

-- Rows over the base field: the element read is the row's element.
module _ {F : Type 0} where
  abbrev is_base : F → F → Type 0
  is_base x v = ⊤ × (x ≡ v)

  pub element_is : (row : List F) (i : ℕ) (z v : F) → slice_get row i ≡ Some v → is_base (slice_index_or row i z) v
  element_is row i z = shown is_base (λ x. (tt, refl)) z row i

  pub found_is : (row : List F) (i : ℕ) (z : F) (found : Option F) → found ≡ slice_get row i → IfSome found (is_base (slice_index_or row i z))
  found_is row i z = found_shown is_base (λ x. (tt, refl)) z row i

  pub base_window : (z : F) (first second top bottom : List F) → length first ≡ length second → top ≡ first → bottom ≡ second → WindowShows is_base z first second top bottom
  base_window = window_shows is_base (λ x. (tt, refl))

-- Rows over an extension: the element read is the one with the row's coefficients.
module _ {F E : Type 0} {r : CommRing F} {a : AlgebraOver F E} {basis : Basis F E} {n : ℕ}
    (laws : ExtensionLaws r a basis n) where
  abbrev stands_for : E → E → Type 0
  stands_for x v = a.extend (basis.coefficients x) ≡ v

  pub element_stands : (row : List E) (i : ℕ) (v : E) → slice_get row i ≡ Some v → stands_for (slice_index_or row i a.ring.zero) v
  element_stands = shown stands_for (extend-coefficients r a basis n laws) a.ring.zero

  pub found_stands : (row : List E) (i : ℕ) (found : Option E) → found ≡ slice_get row i → IfSome found (stands_for (slice_index_or row i a.ring.zero))
  found_stands = found_shown stands_for (extend-coefficients r a basis n laws) a.ring.zero

  pub extension_window : (first second top bottom : List E) → length first ≡ length second → top ≡ first → bottom ≡ second → WindowShows stands_for a.ring.zero first second top bottom
  extension_window = window_shows stands_for (extend-coefficients r a basis n laws) a.ring.zero

  -- a window on the two rows of a permutation trace
  pub permutation_window : {p : Option (ViewPair E)} (pair : ViewPair E) (top bottom : List E) → p ≡ Some pair → top ≡ pair.top.values.now
      → bottom ≡ pair.bottom.values.now → WindowShows stands_for a.ring.zero (permutation_row p) (next_permutation_row p) top bottom
  permutation_window pair top bottom is f s =
      rw is (extension_window pair.top.values.now pair.bottom.values.now top bottom (pair.top_is_row ∙ pair.same_width ∙ sym pair.bottom_is_row) f s)

-- without a permutation trace every permutation column is missing
pub without_permutation : {V E : Type 0} (v : RowValues V) (p : Option (ViewPair E)) (challenges exposed : List E) → p ≡ None → (o i : ℕ)
    → IsMissing (one_row_shape v (permutation_data p challenges exposed)) (permutation o i)
without_permutation v p challenges exposed e zero i = let none : length (permutation_row p) ≡ 0 = ap (λ q. length (permutation_row q)) e in omega (arith, none)
without_permutation v p challenges exposed e (suc zero) i = let none : length (permutation_row p) ≡ 0 = ap (λ q. length (permutation_row q)) e in omega (arith, none)
without_permutation v p challenges exposed e (suc (suc o)) i = tt
