-- The theorem for a gadget, whose one constraint covers all that a row looks up and offers.
use Rattle.std.specs.Prelude.{◌≢◌, ℕ, suc, List, Bool}
use Rattle.air_field.specs.Distinct.{AtMost}
use Rattle.air_field.specs.Ring.{CommRing, AlgebraOver}
use Rattle.air_report.specs.Instances.{Instance, row_count}
use Rattle.air_lookup.specs.Balance.{Entry, total, others}
use Rattle.air_lookup.specs.Columns.{Interaction, Includes}
use Rattle.air_lookup.specs.Groups.{entries_of, gadget_terms, groups_from}
use Rattle.air_lookup.specs.Tuples.{AllAvoid, PassesBeside, leaves_with}

-- the entries of each row, with these challenges
abbrev pub groups_with : {F E : Type 0} → CommRing F → AlgebraOver F E → Instance F → List E → List (Interaction F) → List (List (Entry E))
groups_with r a g challenges xs = groups_from a (leaves_with r a g challenges) xs 0 (row_count g)

-- If the multiplicities of some value don't sum to zero over all rows, at most one challenge more passes than there are
-- entries of other values.
abbrev pub FewGadgetsPass : {F E : Type 0} → CommRing F → AlgebraOver F E → (F → F → Bool) → (E → E → Bool) → Type 0
FewGadgetsPass {F} {E} r a eq ext_eq =
    (g : Instance F) (k c : ℕ) (xs : List (Interaction F)) → AllAvoid c xs → Includes (gadget_terms r k c xs) g.air.constraints
    → (challenges : List E) (v : E) → total a.ring ext_eq v (entries_of (groups_with r a g challenges xs)) ≢ a.ring.zero
    → AtMost (λ alpha. PassesBeside r a eq ext_eq g c challenges alpha) (suc (others ext_eq v (entries_of (groups_with r a g challenges xs))))
