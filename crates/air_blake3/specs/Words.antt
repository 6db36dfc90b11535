-- Words as terms, either by two limbs of 16 bits or by 32 bits, the lowest first; and their columns.
use Rattle.std.specs.Prelude.{ℕ, zero, suc, ◌+◌, List, [], ◌∷◌, take, drop}
use Rattle.air_field.specs.Ring.{CommRing}
use Rattle.air_field.specs.Term.{Term}
use Rattle.air_builder.specs.Assertion.{Assertion, Base, Extension}
use Rattle.air_builder.specs.Notation.{current}
use Rattle.air_gadgets.specs.Packing.{packed_term}
use Rattle.air_gadgets.specs.Words.{Limbs}
use Rattle.blake3.specs.declared.words.Quarter.{Quarter}
use Rattle.blake3.specs.declared.words.State.{State}

-- four words of a column of the state: a and c by their limbs, b and d by their bits
pub record QuarterTerms (F : Type 0) : Type 0 where
  pub a : Limbs (Term F)
  pub b : List (Term F)
  pub c : Limbs (Term F)
  pub d : List (Term F)

-- four words by their bits
pub record BitTerms (F : Type 0) : Type 0 where
  pub a : List (Term F)
  pub b : List (Term F)
  pub c : List (Term F)
  pub d : List (Term F)

-- the sixteen words of the state, in four columns
pub record StateTerms (F : Type 0) : Type 0 where
  pub q0 : QuarterTerms F
  pub q1 : QuarterTerms F
  pub q2 : QuarterTerms F
  pub q3 : QuarterTerms F

-- the limbs of a word, packed from its bits
abbrev pub packed_limbs : {F : Type 0} → CommRing F → List (Term F) → Limbs (Term F)
packed_limbs R ts = record { low = packed_term R.zero (take 16 ts); high = packed_term R.zero (drop 16 ts) }

-- the assertions with f applied to each term
abbrev pub map_terms : {F : Type 0} → (Term F → Term F) → List (Assertion F) → List (Assertion F)
map_terms f [] = []
map_terms f (Base t ∷ ts) = Base (f t) ∷ map_terms f ts
map_terms f (Extension t ∷ ts) = Extension (f t) ∷ map_terms f ts

-- ---- columns of the row

-- column `first` + i
abbrev pub column : {F : Type 0} → ℕ → ℕ → Term F
column first i = current (first + i)

-- n terms, f i and the following ones
abbrev pub terms_numbered : {F : Type 0} → (ℕ → Term F) → ℕ → ℕ → List (Term F)
terms_numbered f i zero = []
terms_numbered f i (suc n) = f i ∷ terms_numbered f (suc i) n

-- the columns of a word by its limbs, and of a word by its bits
unfoldable pub limbs_at : {F : Type 0} → ℕ → Limbs (Term F)
limbs_at first = record { low = column first 0; high = column first 1 }

unfoldable pub bits_at : {F : Type 0} → ℕ → List (Term F)
bits_at first = terms_numbered (column first) 0 32

-- the columns of four words, by the record of their first columns, and of all sixteen
abbrev pub quarter_of : {F : Type 0} → Quarter → QuarterTerms F
quarter_of q = record { a = limbs_at q.a; b = bits_at q.b; c = limbs_at q.c; d = bits_at q.d }

abbrev pub bits_of : {F : Type 0} → Quarter → BitTerms F
bits_of q = record { a = bits_at q.a; b = bits_at q.b; c = bits_at q.c; d = bits_at q.d }

abbrev pub state_of : {F : Type 0} → State → StateTerms F
state_of v = record { q0 = quarter_of v.q0; q1 = quarter_of v.q1; q2 = quarter_of v.q2; q3 = quarter_of v.q3 }
