-- The lookup theorem.
use Rattle.std.specs.Prelude.{◌≡◌, ◌≢◌, ℕ, zero, suc, ◌*◌, ◌<◌, List, [], ◌∷◌, ◌++◌, map, Bool, slice_index_or}
use Rattle.air_field.specs.Distinct.{AtMost}
use Rattle.air_field.specs.Ring.{CommRing, AlgebraOver, self_algebra}
use Rattle.air_field.specs.Term.{Term, neg_term, const_term, IsBase}
use Rattle.air_field.specs.Value.{value}
use Rattle.air_field.specs.Assignment.{row_assignment}
use Rattle.air_report.specs.Instances.{Instance, instance_trace, row_count}
use Rattle.air_report.specs.Permuted.{PermutationTrace, HasHeight, permuted_zero}
use Rattle.air_report.specs.Report.{report_by}
use Rattle.air_lookup.specs.Balance.{Entry, total, others}
use Rattle.air_lookup.specs.Columns.{Interaction, Places, AreBase, Includes, lookup_terms}

-- the value of a base term at a row
abbrev pub on_row : {F : Type 0} → CommRing F → Instance F → ℕ → Term F → F
on_row r g i t = value (self_algebra r) (row_assignment r (instance_trace g) i) t

-- the entries of the first n rows of a trace, over the extension
abbrev pub trace_entries : {F E : Type 0} → CommRing F → AlgebraOver F E → Instance F → List (Interaction F) → ℕ → List (Entry E)
trace_entries r a g xs zero = []
trace_entries r a g xs (suc n) = trace_entries r a g xs n ++ map (λ x. record {
  value = a.embed (on_row r g n x.value);
  multiplicity = a.embed (on_row r g n x.multiplicity);
}) xs

-- The report with this permutation trace, which has the trace's height, is empty.
pub record ListsNothing {F E : Type 0} (r : CommRing F) (a : AlgebraOver F E) (eq : F → F → Bool) (ext_eq : E → E → Bool) (g : Instance F)
    (q : PermutationTrace E) : Type 0 where
  pub height : HasHeight g q
  pub nothing : report_by (permuted_zero r a eq ext_eq g q) g.air.constraints (row_count g) ≡ []

abbrev pub challenge_of : {F E : Type 0} → AlgebraOver F E → PermutationTrace E → ℕ → E
challenge_of a q c = slice_index_or q.challenges c a.ring.zero

-- Alpha passes: there is a permutation trace whose challenge c is alpha, and with which the report is empty.
pub record PassesAt {F E : Type 0} (r : CommRing F) (a : AlgebraOver F E) (eq : F → F → Bool) (ext_eq : E → E → Bool) (g : Instance F) (c : ℕ)
    (alpha : E) : Type 0 where
  pub permutation : PermutationTrace E
  pub lists : ListsNothing r a eq ext_eq g permutation
  pub challenge_is : challenge_of a permutation c ≡ alpha

-- If the multiplicities of some value don't sum to zero over all rows, no more challenges pass than there are entries of
-- other values.
abbrev pub FewChallengesPass : {F E : Type 0} → CommRing F → AlgebraOver F E → (F → F → Bool) → (E → E → Bool) → Type 0
FewChallengesPass {F} {E} r a eq ext_eq =
    (g : Instance F) (p : Places) (xs : List (Interaction F)) → AreBase xs → Includes (lookup_terms r p xs) g.air.constraints
    → (v : E) → total a.ring ext_eq v (trace_entries r a g xs (row_count g)) ≢ a.ring.zero
    → AtMost (λ alpha. PassesAt r a eq ext_eq g p.challenge alpha) (others ext_eq v (trace_entries r a g xs (row_count g)))

-- each row looks a value up, and offers an entry of the table with a multiplicity
abbrev pub table_lookup : {F : Type 0} → CommRing F → Term F → Term F → Term F → List (Interaction F)
table_lookup r value entry multiplicity =
    record { value = value; multiplicity = neg_term (const_term r.one) } ∷ record { value = entry; multiplicity = multiplicity } ∷ []

-- There are fewer rows than the characteristic p. If the value that some row looks up isn't in the table, at most twice as
-- many challenges as rows pass, for any multiplicities.
abbrev pub TablesAreSound : {F E : Type 0} → CommRing F → AlgebraOver F E → (F → F → Bool) → (E → E → Bool) → ℕ → Type 0
TablesAreSound {F} {E} r a eq ext_eq p =
    (g : Instance F) (at : Places) (looked_up entry multiplicity : Term F) → IsBase looked_up → IsBase entry → IsBase multiplicity
    → Includes (lookup_terms r at (table_lookup r looked_up entry multiplicity)) g.air.constraints
    → (row : ℕ) → row < row_count g → row_count g < p
    → ((k : ℕ) → k < row_count g → on_row r g k entry ≢ on_row r g row looked_up)
    → AtMost (λ alpha. PassesAt r a eq ext_eq g at.challenge alpha) (2 * row_count g)
