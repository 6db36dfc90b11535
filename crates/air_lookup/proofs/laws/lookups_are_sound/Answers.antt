use Rattle.air_field.specs.laws.Characteristic.{characteristic_of, embed_same}
use Rattle.air_lookup.specs.laws.Buses.{buses_are_exposed, few_buses_pass}
use Rattle.air_lookup.specs.laws.Gadgets.{few_gadgets_pass}
use Rattle.air_lookup.specs.laws.Groups.{few_groups_balance}
use Rattle.air_lookup.specs.laws.Lookups.{few_balance_all, lookups_are_sound, multisets_are_sound}
use Rattle.air_lookup.specs.laws.Products.{few_products_agree}
use Rattle.air_lookup.specs.laws.Tables.{tables_are_sound}
use Rattle.air_lookup.specs.laws.Traces.{few_challenges_pass}
use Rattle.air_lookup.specs.laws.TupleLookups.{tuples_are_sound}
use Rattle.air_lookup.specs.laws.Tuples.{few_challenges_pass_beside, few_collide}
use Rattle.air_lookup.proofs.laws.lookups_are_sound.Goals as goal

pub returns-clause-balance : goal.returns-clause-balance
returns-clause-balance g c =
    few_balance_all g.EF.ExtensionField.over.ring g.EF.PartialEq.eq g.met.EF.ExtensionField.eq_is g.met.EF.DomainExtension.domain

pub returns-clause-groups : goal.returns-clause-groups
returns-clause-groups g c =
    few_groups_balance g.EF.ExtensionField.over.ring g.EF.PartialEq.eq g.met.EF.ExtensionField.eq_is g.met.EF.DomainExtension.domain

pub returns-clause-products : goal.returns-clause-products
returns-clause-products g c =
    few_products_agree g.EF.ExtensionField.over.ring g.EF.PartialEq.eq g.met.EF.ExtensionField.eq_is g.met.EF.DomainExtension.domain

pub returns-clause-lookups : goal.returns-clause-lookups
returns-clause-lookups g c =
    let a = g.EF.ExtensionField.over in
    let p = g.F.Field.CHARACTERISTIC in
    lookups_are_sound a.ring g.EF.PartialEq.eq g.met.EF.ExtensionField.eq_is g.met.EF.DomainExtension.domain p
    (characteristic_of g.F.Field.ring a g.met.EF.ExtensionField.over_laws g.EF.ExtensionField.basis g.EF.ExtensionField.DIMENSION
    g.met.EF.ExtensionField.laws p g.met.F.Field.image_is)

pub returns-clause-multisets : goal.returns-clause-multisets
returns-clause-multisets g c =
    let a = g.EF.ExtensionField.over in
    let p = g.F.Field.CHARACTERISTIC in
    multisets_are_sound a.ring g.EF.PartialEq.eq g.met.EF.ExtensionField.eq_is g.met.EF.DomainExtension.domain p
    (characteristic_of g.F.Field.ring a g.met.EF.ExtensionField.over_laws g.EF.ExtensionField.basis g.EF.ExtensionField.DIMENSION
    g.met.EF.ExtensionField.laws p g.met.F.Field.image_is)

pub returns-clause-traces : goal.returns-clause-traces
returns-clause-traces g c =
    few_challenges_pass g.F.Field.ring g.EF.ExtensionField.over g.F.PartialEq.eq g.EF.PartialEq.eq g.met.EF.ExtensionField.eq_is
    g.met.EF.ExtensionField.over_laws g.met.EF.DomainExtension.domain

pub returns-clause-gadgets : goal.returns-clause-gadgets
returns-clause-gadgets g c =
    few_gadgets_pass g.F.Field.ring g.EF.ExtensionField.over g.F.PartialEq.eq g.EF.PartialEq.eq g.met.EF.ExtensionField.eq_is
    g.met.EF.ExtensionField.over_laws g.met.EF.DomainExtension.domain

pub returns-clause-beside : goal.returns-clause-beside
returns-clause-beside g c =
    few_challenges_pass_beside g.F.Field.ring g.EF.ExtensionField.over g.F.PartialEq.eq g.EF.PartialEq.eq g.met.EF.ExtensionField.eq_is
    g.met.EF.ExtensionField.over_laws g.met.EF.DomainExtension.domain

pub returns-clause-collide : goal.returns-clause-collide
returns-clause-collide g c = few_collide g.EF.ExtensionField.over.ring g.met.EF.DomainExtension.domain

pub returns-clause-exposed : goal.returns-clause-exposed
returns-clause-exposed g c =
    buses_are_exposed g.F.Field.ring g.EF.ExtensionField.over g.F.PartialEq.eq g.EF.PartialEq.eq g.met.EF.ExtensionField.eq_is
    g.met.EF.ExtensionField.over_laws

pub returns-clause-buses : goal.returns-clause-buses
returns-clause-buses g c =
    few_buses_pass g.F.Field.ring g.EF.ExtensionField.over g.F.PartialEq.eq g.EF.PartialEq.eq g.met.EF.ExtensionField.eq_is
    g.met.EF.ExtensionField.over_laws g.met.EF.DomainExtension.domain

pub returns-clause-tables : goal.returns-clause-tables
returns-clause-tables g c =
    let r = g.F.Field.ring in
    let a = g.EF.ExtensionField.over in
    let laws = g.met.EF.ExtensionField.over_laws in
    let basis = g.EF.ExtensionField.basis in
    let n = g.EF.ExtensionField.DIMENSION in
    let ext = g.met.EF.ExtensionField.laws in
    let p = g.F.Field.CHARACTERISTIC in
    tables_are_sound r a laws g.F.PartialEq.eq g.EF.PartialEq.eq g.met.EF.ExtensionField.eq_is (embed_same r a laws basis n ext) p
    (characteristic_of r a laws basis n ext p g.met.F.Field.image_is)
    (few_challenges_pass r a g.F.PartialEq.eq g.EF.PartialEq.eq g.met.EF.ExtensionField.eq_is laws g.met.EF.DomainExtension.domain)

pub returns-clause-tuples : goal.returns-clause-tuples
returns-clause-tuples g c =
    let r = g.F.Field.ring in
    let a = g.EF.ExtensionField.over in
    let laws = g.met.EF.ExtensionField.over_laws in
    let basis = g.EF.ExtensionField.basis in
    let n = g.EF.ExtensionField.DIMENSION in
    let ext = g.met.EF.ExtensionField.laws in
    let p = g.F.Field.CHARACTERISTIC in
    tuples_are_sound r a laws g.F.PartialEq.eq g.EF.PartialEq.eq g.met.EF.ExtensionField.eq_is (embed_same r a laws basis n ext)
    g.met.EF.DomainExtension.domain p (characteristic_of r a laws basis n ext p g.met.F.Field.image_is)
