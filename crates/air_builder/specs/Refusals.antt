-- Missing entries, the errors that name them, and the parts of assertions.
use Rattle.std.specs.Prelude.{◌≡◌, ◌<◌, ◌≤◌, ◌⊎◌, ◌↔◌, ℕ, List, [], ◌∷◌, None, slice_get, ⊤}
use Rattle.air_field.specs.Term.{Leaf, preprocessed, main, permutation, Term, leaf_term, const_term, ext_const_term, add_term, sub_term, neg_term, mul_term}
use Rattle.air_field.specs.Part.{Part}
use Rattle.air_core.specs.Entries.{entry_leaf}
use Rattle.air_core.specs.declared.variables.entry.BaseEntry.{BaseEntry}
use Rattle.air_core.specs.declared.variables.entry.BaseEntry.TheVariants.{Preprocessed, Main, Periodic, Public}
use Rattle.air_core.specs.ExtEntries.{ext_entry_leaf}
use Rattle.air_builder.specs.Assertion.{Assertion, Base, Extension}
use Rattle.air_core.specs.declared.errors.AirError.{AirError}
use Rattle.air_core.specs.declared.errors.AirError.TheVariants.{MissingEntry, RowOffset, MissingExtEntry, NoPermutation}

-- a column of the permutation trace
abbrev pub IsPermutation : Leaf → Type 0
IsPermutation l = (o : ℕ) × (i : ℕ) × (l ≡ permutation o i)

-- a column of the preprocessed or main trace in a row past the window
abbrev pub IsPastWindow : ℕ → Leaf → Type 0
IsPastWindow o l = (1 < o) × (i : ℕ) × ((l ≡ preprocessed o i) ⊎ (l ≡ main o i))

-- the entry is in a window: a column's row offset is 0 or 1
abbrev pub IsOfWindow : BaseEntry → Type 0
IsOfWindow (Preprocessed o) = o ≤ 1
IsOfWindow (Main o) = o ≤ 1
IsOfWindow Periodic = ⊤
IsOfWindow Public = ⊤

-- the error names the leaf. `MissingEntry` names an entry of a window, a periodic column or a public value;
-- `MissingExtEntry` its entry; `RowOffset` every column of that row; `NoPermutation` every permutation column
abbrev pub NamesLeaf : AirError → Leaf → Type 0
NamesLeaf (MissingEntry e i) l = (l ≡ entry_leaf e i) × IsOfWindow e
NamesLeaf (RowOffset o) l = IsPastWindow o l
NamesLeaf (MissingExtEntry e i) l = l ≡ ext_entry_leaf e i
NamesLeaf NoPermutation l = IsPermutation l
NamesLeaf _ l = ⊥

-- a leaf is missing exactly if its index is past the end of the row
abbrev pub RowEnds : {V : Type 0} → (Leaf → Type 0) → (ℕ → Leaf) → List V → Type 0
RowEnds missing at row = (i : ℕ) → missing (at i) ↔ (slice_get row i ≡ None)

-- a part of an assertion's term
abbrev pub PartOfOne : {F : Type 0} → Term F → Assertion F → Type 0
PartOfOne t (Base u) = Part t u
PartOfOne t (Extension u) = Part t u

-- a part of one of the assertions
abbrev pub PartOf : {F : Type 0} → Term F → List (Assertion F) → Type 0
PartOf t [] = ⊥
PartOf t (a ∷ rest) = PartOfOne t a ⊎ PartOf t rest

-- no term names a missing leaf
abbrev pub NoneMissing : {F : Type 0} → (Leaf → Type 0) → List (Assertion F) → Type 0
NoneMissing missing ts = (l : Leaf) → missing l → PartOf (leaf_term l) ts → ⊥

-- each leaf of a term, and of a list of assertions, has the property
abbrev pub EachLeaf : {F : Type 0} → (Leaf → Type 0) → Term F → Type 0
EachLeaf P (leaf_term l) = P l
EachLeaf P (const_term c) = ⊤
EachLeaf P (ext_const_term cs) = ⊤
EachLeaf P (add_term t u) = EachLeaf P t × EachLeaf P u
EachLeaf P (sub_term t u) = EachLeaf P t × EachLeaf P u
EachLeaf P (neg_term t) = EachLeaf P t
EachLeaf P (mul_term t u) = EachLeaf P t × EachLeaf P u

abbrev pub EachLeafOf : {F : Type 0} → (Leaf → Type 0) → List (Assertion F) → Type 0
EachLeafOf P [] = ⊤
EachLeafOf P (Base t ∷ rest) = EachLeaf P t × EachLeafOf P rest
EachLeafOf P (Extension t ∷ rest) = EachLeaf P t × EachLeafOf P rest
