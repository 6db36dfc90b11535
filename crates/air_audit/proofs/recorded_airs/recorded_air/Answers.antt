use Rattle.std.proofs.Common.{◌≡◌, ◌∙◌, length, None, Some, ap, ap₂, subst, sym}
use Rattle.air_symbolic.specs.BaseLeaves.{base_reads}
use Rattle.air_symbolic.specs.Pools.{size}
use Rattle.air_recording.specs.Kinds.{base_terms}
use Rattle.air_recording.specs.Layouts.{first_past}
use Rattle.air_recording.specs.Recorded.{RecordsBase}
use Rattle.air_recording.specs.laws.Layouts.{below-none_past}
use Rattle.air_audit.specs.FlatAirs.{zero_at_roots}
use Rattle.air_audit.specs.RecordedAirs.{zero_at_recorded}
use Rattle.air_audit.proofs.RecordedRoots.{none_past, records_zero_at}
use Rattle.air_audit.proofs.recorded_airs.recorded_air.Goals as goal

pub returns-in-Some-clause-of_an_air : goal.returns-in-Some-clause-of_an_air
returns-in-Some-clause-of_an_air g c declared h =
    let inside = c.recorded.inside in
    let is = subst (λ v. RecordsBase g.F.Field.ring g.EF.ExtensionField.over base_reads v.pool.base v.base declared) (sym c.recorded.view_is) h in
    let none = none_past g.F.Field.ring base_reads inside.pool.base inside.base.items (base_terms declared) is.means in
    let found : Some c.in-Some.id ≡ first_past (length inside.pool.base.nodes) inside.base.items = rw (c.deref.ensures.value, c.len-total.ensures, c.into_base-pool.ensures.base) at c.in-Some.ensures in
    let clash : None ≡ Some c.in-Some.id = none ∙ sym found in
    cc

pub returns-in-Some-clause-only_memory : goal.returns-in-Some-clause-only_memory
returns-in-Some-clause-only_memory g c declared h =
    let inside = c.recorded.inside in
    let is = subst (λ v. RecordsBase g.F.Field.ring g.EF.ExtensionField.over base_reads v.pool.base v.base declared) (sym c.recorded.view_is) h in
    let none = none_past g.F.Field.ring base_reads inside.pool.base inside.base.items (base_terms declared) is.means in
    let found : Some c.in-Some.id ≡ first_past (length inside.pool.base.nodes) inside.base.items = rw (c.deref.ensures.value, c.len-total.ensures, c.into_base-pool.ensures.base) at c.in-Some.ensures in
    let clash : None ≡ Some c.in-Some.id = none ∙ sym found in
    cc

pub returns-in-Some-clause-refused : goal.returns-in-Some-clause-refused
returns-in-Some-clause-refused g c =
    let total = c.len-total.ensures ∙ ap (λ p. length p.nodes) c.into_base-pool.ensures.base in
    let first : Some c.in-Some.id ≡ first_past c.len-total.result c.recorded.inside.base.items = rw c.deref.ensures.value at c.in-Some.ensures in
    subst (λ v. (c.len-total.result ≡ size v.pool.base) × (first_past c.len-total.result v.base ≡ Some c.number.result)) c.recorded.view_is
    (total, sym first ∙ ap Some (sym c.number.ensures))

pub new-requires : goal.new-requires
new-requires g c =
    let none : None ≡ first_past (length c.into_base-pool.result.nodes) c.recorded.inside.base.items = rw (c.deref.ensures.value, c.len-total.ensures) at c.in_default.ensures in
    record { here = below-none_past _ _ none }

pub returns-clause-of_an_air : goal.returns-clause-of_an_air
returns-clause-of_an_air g c declared h =
    let is = subst (λ v. RecordsBase g.F.Field.ring g.EF.ExtensionField.over base_reads v.pool.base v.base declared) (sym c.recorded.view_is) h in
    records_zero_at g.F.Field.ring _ _ _ _ declared (c.in_ok-air.ensures.pool ∙ c.into_base-pool.ensures.base) (ap (λ v. v.items) c.in_ok-air.ensures.roots) is.terms

pub returns-clause-declared : goal.returns-clause-declared
returns-clause-declared g c =
    subst (λ v. zero_at_roots c.in_ok-air.air.pool c.in_ok-air.air.roots.items ≡ zero_at_recorded v) c.recorded.view_is
    (ap₂ (λ p r. zero_at_roots p r) (c.in_ok-air.ensures.pool ∙ c.into_base-pool.ensures.base) (ap (λ v. v.items) c.in_ok-air.ensures.roots))

pub returns-clause-beside : goal.returns-clause-beside
returns-clause-beside g c = c.in_ok-air.ensures.beside
