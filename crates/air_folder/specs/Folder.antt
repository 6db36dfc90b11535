-- A folder's row, and its growth.
use Rattle.std.specs.Prelude.{◌≡◌, ◌≢◌, ⊤, ℕ, Bool, List, map}
use Rattle.air_field.specs.Ring.{AlgebraOver, self_algebra}
use Rattle.air_field.specs.Extension.{Basis}
use Rattle.air_field.specs.Term.{Leaf, permutation, Term, ext_const_term}
use Rattle.air_field.specs.Value.{value}
use Rattle.air_field.specs.Algebra.{closed_value_in}
use Rattle.air_field.specs.ExtAlgebra.{ExtAlgebraLaws}
use Rattle.air_field.specs.Assignment.{RowValues, IsMissing}
use Rattle.air_field.specs.OneRow.{PermutationData, one_row_shape, one_row_value}
use Rattle.air_builder.specs.Assertion.{Assertion, Base, Extension}
use Rattle.air_builder.specs.Builders.{RowReadsAs}
use Rattle.air_builder.specs.Refusals.{RowEnds}
use Rattle.air_builder.specs.Refused.{Refused}
use Rattle.air_core.specs.declared.errors.AirError.{AirError}
use Rattle.air_core.specs.declared.errors.AirError.TheVariants.{Memory}
use Rattle.air_folder.specs.Fold.{folded_on}

-- an element x means a term without leaves if x is the term's value
abbrev pub HasValue : {F E : Type 0} → AlgebraOver F E → E → Term F → Type 0
HasValue a x t = closed_value_in a t ≡ x

-- A ring of an extension's elements has these as base elements too, with the same meaning.
pub values_are_their_base : {R F E : Type 0} (a : AlgebraOver F E) (basis : Basis F E)
    → ((x : E) → a.extend (basis.coefficients x) ≡ x)
    → ExtAlgebraLaws {R = R} {B = E} {F = F} (λ _. ⊤) (λ _ _. ⊤) (λ _ x t. HasValue a x t) (λ _ _. ⊤)
values_are_their_base a basis extended = record {
  base_has_stays = λ p q x g h. tt;
  base_means_stays = λ p q x t g h. h;
  base_means_has = λ p x t h. tt;
  base_has_valid = λ p x h. tt;
  base_means_some = λ p x h. (ext_const_term (basis.coefficients x), extended x);
}

-- the values of the leaves, all of them in the extension; whether there is a permutation trace, even one without columns; and alpha, the element by whose
-- powers values are folded
pub record FolderRow (E : Type 0) : Type 0 where
  pub values : RowValues E
  pub has_permutation : Bool
  pub others : PermutationData E
  pub alpha : E

-- the assignment of the row; a missing entry reads as zero
abbrev pub folder_leaves : {F E : Type 0} → AlgebraOver F E → FolderRow E → Leaf → E
folder_leaves a d l = one_row_value a.ring.zero (self_algebra a.ring) d.values d.others l

-- the value of a leaf, as a constant term of the extension
abbrev pub folder_reads_as : {F E : Type 0} → AlgebraOver F E → Basis F E → FolderRow E → Leaf → Term F
folder_reads_as a basis d l = ext_const_term (basis.coefficients (folder_leaves a d l))

-- the row has no such leaf
abbrev pub FolderMissing : {E : Type 0} → FolderRow E → Leaf → Type 0
FolderMissing d l = IsMissing (one_row_shape d.values d.others) l

-- leaf i of the permutation row at offset o reads as element i of `row`; past the end of `row` the leaves are missing (`PermutationEnds`)
abbrev pub PermutationReadsAs : {F E : Type 0} → AlgebraOver F E → Basis F E → FolderRow E → ℕ → List E → Type 0
PermutationReadsAs a basis d o row = RowReadsAs (HasValue a) (λ i. folder_reads_as a basis d (permutation o i)) row

abbrev pub PermutationEnds : {E : Type 0} → FolderRow E → ℕ → List E → Type 0
PermutationEnds d o row = RowEnds (FolderMissing d) (λ i. permutation o i) row

-- the value of an assertion's term, with base constants embedded
abbrev pub value_in : {F E : Type 0} → AlgebraOver F E → (Leaf → E) → Assertion F → E
value_in a s (Base t) = value a s t
value_in a s (Extension t) = value a s t

-- the values of the assertions, in order
abbrev pub values_in : {F E : Type 0} → AlgebraOver F E → (Leaf → E) → List (Assertion F) → List E
values_in a s ts = map (value_in a s) ts

-- y is x times alpha^k plus Horner's fold of the values of the k assertions at the row, where x is the accumulator before and y the one after.
pub record GrewFolder {F E : Type 0} (a : AlgebraOver F E) (d e : FolderRow E) (x y : E) (ts : List (Assertion F)) : Type 0 where
  pub same_row : e ≡ d
  pub folded : y ≡ folded_on a.ring d.alpha x (values_in a (folder_leaves a d) ts)

-- a folder fails only on an entry that its row lacks, and never with `Memory`
pub record FolderRefuses {F E : Type 0} (d : FolderRow E) (e : AirError) (ts : List (Assertion F)) : Type 0 where
  pub refused : Refused (FolderMissing d) (λ _. ⊥) (λ _. ⊥) e ts
  pub not_memory : e ≢ Memory
