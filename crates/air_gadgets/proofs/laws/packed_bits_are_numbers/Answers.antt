use Rattle.std.proofs.Common.{◌∙◌, ap}
use Rattle.air_field.specs.Ring.{self_algebra}
use Rattle.air_gadgets.specs.laws.PackedBits.{packs_values_in, packs_numbers, embeds_images}
use Rattle.air_gadgets.specs.laws.PowerSums.{packs_by_powers}
use Rattle.air_gadgets.proofs.laws.packed_bits_are_numbers.Goals as goal

pub returns-clause-numbers : goal.returns-clause-numbers
returns-clause-numbers g c = packs_numbers (self_algebra g.F.Field.ring) g.F.Field.ZERO g.met.F.Field.zero_is

pub returns-clause-ext_numbers : goal.returns-clause-ext_numbers
returns-clause-ext_numbers g c =
    let over = g.EF.ExtensionField.over in
    packs_numbers over g.F.Field.ZERO (ap over.embed g.met.F.Field.zero_is ∙ g.met.EF.ExtensionField.over_laws.embed_zero)

pub returns-clause-sums : goal.returns-clause-sums
returns-clause-sums g c = packs_values_in (self_algebra g.F.Field.ring) g.F.Field.ZERO g.met.F.Field.zero_is

pub returns-clause-ext_sums : goal.returns-clause-ext_sums
returns-clause-ext_sums g c =
    let over = g.EF.ExtensionField.over in
    packs_values_in over g.F.Field.ZERO (ap over.embed g.met.F.Field.zero_is ∙ g.met.EF.ExtensionField.over_laws.embed_zero)

pub returns-clause-powers : goal.returns-clause-powers
returns-clause-powers g c = packs_by_powers g.F.Field.ring

pub returns-clause-ext_powers : goal.returns-clause-ext_powers
returns-clause-ext_powers g c = packs_by_powers g.EF.ExtensionField.over.ring

pub returns-clause-images : goal.returns-clause-images
returns-clause-images g c = embeds_images g.F.Field.ring g.EF.ExtensionField.over g.met.EF.ExtensionField.over_laws
