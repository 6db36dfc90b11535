-- The values of the leaves at one row with permutation data, and which leaves have no entry there.
use Rattle.std.specs.Prelude.{List, [], length, slice_index_or}
use Rattle.air_field.specs.Ring.{AlgebraOver}
use Rattle.air_field.specs.Term.{Leaf, permutation, challenge, permutation_value}
use Rattle.air_field.specs.Assignment.{Shape, RowValues, column_value, leaf_value}

-- two rows of the permutation trace, the challenges, and the values that the permutation argument exposes
pub record PermutationData (E : Type 0) : Type 0 where
  pub current : List E
  pub next : List E
  pub challenges : List E
  pub exposed : List E

-- the data where there is no permutation trace
abbrev pub no_permutation : {E : Type 0} → PermutationData E
no_permutation = record { current = []; next = []; challenges = []; exposed = [] }

-- the number of entries of each kind
abbrev pub one_row_shape : {F E : Type 0} → RowValues F → PermutationData E → Shape
one_row_shape v p = record {
  main_width = length v.current;
  preprocessed_width = length v.preprocessed_current;
  periodic_columns = length v.periodic_row;
  public_values = length v.public_row;
  permutation_width = length p.current;
  challenges = length p.challenges;
  permutation_values = length p.exposed;
}

-- the value of a leaf over the extension: permutation data, or the image of the leaf's value in F; a missing entry
-- reads as zero
abbrev pub one_row_value : {F E : Type 0} → F → AlgebraOver F E → RowValues F → PermutationData E → Leaf → E
one_row_value z a v p (permutation o i) = column_value a.ring.zero p.current p.next o i
one_row_value z a v p (challenge i) = slice_index_or p.challenges i a.ring.zero
one_row_value z a v p (permutation_value i) = slice_index_or p.exposed i a.ring.zero
one_row_value z a v p l = a.embed (leaf_value z v l)
