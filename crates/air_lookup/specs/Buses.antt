-- Lookup arguments over several traces: each exposes the sum that its accumulator ends with.
use Rattle.std.specs.Prelude.{◌≡◌, ◌≢◌, ℕ, ◌<◌, List, [], ◌∷◌, ◌++◌, Bool, slice_index_or, ⊤}
use Rattle.air_field.specs.Distinct.{AtMost}
use Rattle.air_field.specs.Ring.{CommRing, AlgebraOver}
use Rattle.air_field.specs.Term.{leaf_term, sub_term, mul_term, last_row, permutation_value}
use Rattle.air_builder.specs.Assertion.{Assertion, Extension}
use Rattle.air_report.specs.Instances.{Instance, row_count}
use Rattle.air_report.specs.Permuted.{PermutationTrace}
use Rattle.air_lookup.specs.Balance.{Entry, SumsTo, total, others}
use Rattle.air_lookup.specs.Columns.{Interaction, Places, AreBase, Includes, running_terms, after_term}
use Rattle.air_lookup.specs.Theorem.{trace_entries, ListsNothing, challenge_of}

-- The constraints of a bus: the running sum is the exposed value k after the last row.
abbrev pub bus_terms : {F : Type 0} → CommRing F → Places → ℕ → List (Interaction F) → List (Assertion F)
bus_terms r p k xs =
    running_terms r p xs ++ Extension (mul_term (sub_term (leaf_term (permutation_value k)) (after_term r p xs)) (leaf_term last_row)) ∷ []

-- A bus of a trace: its places, the exposed value's index, and its interactions.
pub record Bus (F : Type 0) : Type 0 where
  pub trace : Instance F
  pub places : Places
  pub exposed : ℕ
  pub interactions : List (Interaction F)

-- the trace has rows, and its AIR declares the constraints of the bus, whose interactions are base
pub record IsBus {F : Type 0} (r : CommRing F) (b : Bus F) : Type 0 where
  pub base : AreBase b.interactions
  pub declared : Includes (bus_terms r b.places b.exposed b.interactions) b.trace.air.constraints
  pub rows : 0 < row_count b.trace

abbrev pub AreBuses : {F : Type 0} → CommRing F → List (Bus F) → Type 0
AreBuses r [] = ⊤
AreBuses r (b ∷ bs) = IsBus r b × AreBuses r bs

abbrev pub bus_entries : {F E : Type 0} → CommRing F → AlgebraOver F E → Bus F → List (Entry E)
bus_entries r a b = trace_entries r a b.trace b.interactions (row_count b.trace)

abbrev pub all_bus_entries : {F E : Type 0} → CommRing F → AlgebraOver F E → List (Bus F) → List (Entry E)
all_bus_entries r a [] = []
all_bus_entries r a (b ∷ bs) = bus_entries r a b ++ all_bus_entries r a bs

-- the exposed value of a bus
abbrev pub exposed_of : {F E : Type 0} → AlgebraOver F E → Bus F → PermutationTrace E → E
exposed_of a b q = slice_index_or q.exposed b.exposed a.ring.zero

-- If the report of a bus's trace is empty, the entries sum to the exposed value.
abbrev pub BusesAreExposed : {F E : Type 0} → CommRing F → AlgebraOver F E → (F → F → Bool) → (E → E → Bool) → Type 0
BusesAreExposed {F} {E} r a eq ext_eq =
    (b : Bus F) → IsBus r b → (q : PermutationTrace E) → ListsNothing r a eq ext_eq b.trace q
    → SumsTo a.ring (challenge_of a q b.places.challenge) (bus_entries r a b) (exposed_of a b q)

-- Each trace has a permutation trace with this challenge and an empty report, and the exposed values sum to s.
abbrev pub ExposeSum : {F E : Type 0} → CommRing F → AlgebraOver F E → (F → F → Bool) → (E → E → Bool) → List (Bus F) → E → E → Type 0
ExposeSum r a eq ext_eq [] alpha s = s ≡ a.ring.zero
ExposeSum {F} {E} r a eq ext_eq (b ∷ bs) alpha s =
    (q : PermutationTrace E) × (rest : E) × ListsNothing r a eq ext_eq b.trace q × (challenge_of a q b.places.challenge ≡ alpha)
    × ExposeSum r a eq ext_eq bs alpha rest × (s ≡ a.ring.add (exposed_of a b q) rest)

-- If the multiplicities of some value don't sum to zero over all rows of all traces, there are no more challenges at which
-- all reports are empty and the exposed values sum to zero than there are entries of other values.
abbrev pub FewBusesPass : {F E : Type 0} → CommRing F → AlgebraOver F E → (F → F → Bool) → (E → E → Bool) → Type 0
FewBusesPass {F} {E} r a eq ext_eq =
    (bs : List (Bus F)) → AreBuses r bs → (v : E) → total a.ring ext_eq v (all_bus_entries r a bs) ≢ a.ring.zero
    → AtMost (λ alpha. ExposeSum r a eq ext_eq bs alpha a.ring.zero) (others ext_eq v (all_bus_entries r a bs))
