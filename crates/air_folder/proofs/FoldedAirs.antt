-- The answer of a fold with its recording, from the promises of the recording and of the folder.
use Rattle.std.proofs.Common.{◌≡◌, ℕ, suc, ◌+◌, List, [], ◌∷◌, map, length, get_or, refl, sym, ap, ap₂, ◌∙◌, arith}
use Rattle.std.proofs.lemmas.List.{length-map}
use Rattle.air_field.specs.Ring.{CommRing, AlgebraOver}
use Rattle.air_field.specs.Extension.{Basis}
use Rattle.air_field.specs.Term.{Leaf, Term}
use Rattle.air_field.specs.Value.{value}
use Rattle.air_symbolic.specs.BaseLeaves.{base_reads}
use Rattle.air_symbolic.specs.ExtLeaves.{ext_reads}
use Rattle.air_builder.specs.Assertion.{Assertion, Base, Extension}
use Rattle.air_recording.specs.Folds.{sum_by_powers, recombination, ArePlacesOf}
use Rattle.air_recording.specs.Kinds.{kind_of, base_terms, ext_terms, is_base, is_extension, places_from}
use Rattle.air_recording.specs.Recorded.{EachRecords, RecordsBase, RecordsExt, terms_of}
use Rattle.air_folder.specs.Fold.{folded_on}
use Rattle.air_folder.specs.laws.Fold.{folded_on-nil}
use Rattle.air_folder.specs.Folder.{FolderRow, folder_leaves, values_in}
use Rattle.air_folder.specs.Folding.{IsFolded}
use Rattle.air_folder.specs.declared.folding.Folded.{Folded}

module _ {F E : Type 0} (a : AlgebraOver F E) (s : Leaf → E) (z : E) where
  -- at the indices of the base kind, the values are those of the base terms' records, in order
  base_at : (at : ℕ → E) (n : ℕ) (ts : List (Assertion F)) (us : List (Term F)) → EachRecords a us (base_terms ts) → ((k : ℕ) → at (n + k) ≡ get_or (values_in a s ts) k z) → map at (places_from is_base n (map kind_of ts)) ≡ map (value a s) us
  base_at at n [] [] l h = refl
  base_at at n [] (u ∷ us) l h = absurd l
  base_at at n (Base t ∷ ts) [] l h = absurd l
  base_at at n (Base t ∷ ts) (u ∷ us) l h =
      ap₂ (λ x xs. x ∷ xs) (ap at (omega arith) ∙ (h 0 ∙ sym (l.0.same_value s))) (base_at at (n + 1) ts us l.1 (λ k. ap at (omega arith) ∙ h (suc k)))
  base_at at n (Extension t ∷ ts) us l h = base_at at (n + 1) ts us l (λ k. ap at (omega arith) ∙ h (suc k))

  -- at the indices of the extension kind, they are those of the extension terms' records
  ext_at : (at : ℕ → E) (n : ℕ) (ts : List (Assertion F)) (us : List (Term F)) → EachRecords a us (ext_terms ts) → ((k : ℕ) → at (n + k) ≡ get_or (values_in a s ts) k z) → map at (places_from is_extension n (map kind_of ts)) ≡ map (value a s) us
  ext_at at n [] [] l h = refl
  ext_at at n [] (u ∷ us) l h = absurd l
  ext_at at n (Base t ∷ ts) us l h = ext_at at (n + 1) ts us l (λ k. ap at (omega arith) ∙ h (suc k))
  ext_at at n (Extension t ∷ ts) [] l h = absurd l
  ext_at at n (Extension t ∷ ts) (u ∷ us) l h =
      ap₂ (λ x xs. x ∷ xs) (ap at (omega arith) ∙ (h 0 ∙ sym (l.0.same_value s))) (ext_at at (n + 1) ts us l.1 (λ k. ap at (omega arith) ∙ h (suc k)))

-- a fold that starts at zero is Horner's fold
pub fold_from_zero : {E : Type 0} (r : CommRing E) (alpha : E) (values : List E) (before : E) → before ≡ r.zero → (after answer : E) → after ≡ folded_on r alpha before values → answer ≡ after → answer ≡ sum_by_powers r alpha values
fold_from_zero r alpha values before from_zero after answer folded same =
    same ∙ (folded ∙ (ap (λ x. folded_on r alpha x values) from_zero ∙ folded_on-nil r alpha values))

module _ {F E : Type 0} (r : CommRing F) (a : AlgebraOver F E) (basis : Basis F E) (d : FolderRow E) (ts : List (Assertion F)) where
  -- the answer of `fold_air`, if the accumulator is the fold of the declared terms' values
  pub folded_air : (f : Folded F E) → RecordsBase r a base_reads f.recorded.pool.base f.recorded.base ts → RecordsExt r a (ext_reads basis) f.recorded.pool f.recorded.ext ts
      → ArePlacesOf (map kind_of ts) f.layout.base_indices.items f.layout.ext_indices.items → f.accumulator ≡ sum_by_powers a.ring d.alpha (values_in a (folder_leaves a d) ts) → IsFolded r a basis d ts f
  folded_air f base ext places fold = record {
    base = base;
    ext = ext;
    places = places;
    values = values;
    of_declared = refl;
    at_base = base_is;
    at_ext = ext_is;
    accumulator = fold;
    recombined = λ coordinates powers fits.
        ap₂ (recombination r a coordinates powers) (sym base_is) (sym ext_is)
        ∙ (fits (map kind_of ts) values places (many ∙ sym (length-map ts kind_of)) ∙ sym fold);
  }
    where
      values : List E
      values = values_in a (folder_leaves a d) ts

      at : ℕ → E
      at i = get_or values i a.ring.zero

      many : length values ≡ length ts
      many = length-map ts _

      base_is : map at f.layout.base_indices.items ≡ map (value a (folder_leaves a d)) (terms_of base_reads f.recorded.pool.base f.recorded.base)
      base_is = ap (map at) places.base ∙ base_at a (folder_leaves a d) a.ring.zero at 0 ts _ base.in_extension (λ k. ap at (omega arith))

      ext_is : map at f.layout.ext_indices.items ≡ map (value a (folder_leaves a d)) (terms_of (ext_reads basis) f.recorded.pool f.recorded.ext)
      ext_is = ap (map at) places.extension ∙ ext_at a (folder_leaves a d) a.ring.zero at 0 ts _ ext.terms (λ k. ap at (omega arith))
