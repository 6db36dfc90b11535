-- The row of a folder, and its growth.
use Rattle.std.specs.Prelude.{◌≡◌, List, Option, is_some}
use Rattle.air_field.specs.Ring.{AlgebraOver}
use Rattle.air_field.specs.declared.matrices.view.ViewPair.{ViewPair}
use Rattle.air_builder.specs.Assertion.{Assertion}
use Rattle.air_builder.specs.PermutationRows.{permutation_data}
use Rattle.air_folder.specs.Folder.{FolderRow, GrewFolder}
use Rattle.air_folder.specs.declared.folder.builder.ConstraintFolder.{ConstraintFolder}

abbrev pub folder_row : {F E : Type 0} → ConstraintFolder F E → FolderRow E
folder_row b = record {
  values = record {
    current = b.row.main.current.now;
    next = b.row.main.next.now;
    preprocessed_current = b.row.preprocessed.current.now;
    preprocessed_next = b.row.preprocessed.next.now;
    periodic_row = b.row.periodic.now;
    public_row = b.row.public_values.now;
    on_first_row = b.row.selectors.is_first_row;
    on_last_row = b.row.selectors.is_last_row;
    on_transition = b.row.selectors.is_transition;
  };
  has_permutation = is_some b.permutation;
  others = permutation_data b.permutation b.challenges.now b.permutation_values.now;
  alpha = b.alpha;
}

-- the fold of all assertions so far
abbrev pub accumulator_of : {F E : Type 0} → ConstraintFolder F E → E
accumulator_of b = b.accumulator

-- the two rows of its permutation trace, if it has one
abbrev pub folder_permutation : {F E : Type 0} → ConstraintFolder F E → Option (ViewPair E)
folder_permutation b = b.permutation

-- The folder is at the row in the pairs, with the given values, permutation data and alpha, and its accumulator is zero.
pub record StartsAt {F E : Type 0} (main_rows table_rows : ViewPair E)
    (others : Option (ViewPair E)) (public columns challenges exposed : List E)
    (first last transition alpha zero : E) (b : ConstraintFolder F E) : Type 0 where
  pub main : b.row.main.current.now ≡ main_rows.top.values.now
  pub main_next : b.row.main.next.now ≡ main_rows.bottom.values.now
  pub preprocessed : b.row.preprocessed.current.now ≡ table_rows.top.values.now
  pub preprocessed_next : b.row.preprocessed.next.now ≡ table_rows.bottom.values.now
  pub public_values : b.row.public_values.now ≡ public
  pub periodic : b.row.periodic.now ≡ columns
  pub is_first_row : b.row.selectors.is_first_row ≡ first
  pub is_last_row : b.row.selectors.is_last_row ≡ last
  pub is_transition : b.row.selectors.is_transition ≡ transition
  pub permutation : b.permutation ≡ others
  pub permutation_challenges : b.challenges.now ≡ challenges
  pub permutation_values : b.permutation_values.now ≡ exposed
  pub by_alpha : b.alpha ≡ alpha
  pub accumulator : b.accumulator ≡ zero

-- the new accumulator is the old one times alpha, plus one value
abbrev pub StepsBy : {F E : Type 0} → AlgebraOver F E → E → ConstraintFolder F E
    → ConstraintFolder F E → Type 0
StepsBy a value b c = c.accumulator ≡ a.ring.add (a.ring.mul b.accumulator b.alpha) value

-- the folder grew by these assertions
abbrev pub FolderGrew : {F E : Type 0} → AlgebraOver F E → ConstraintFolder F E
    → ConstraintFolder F E → List (Assertion F) → Type 0
FolderGrew a b c ts = GrewFolder a (folder_row b) (folder_row c) b.accumulator c.accumulator ts
