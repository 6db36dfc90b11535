use Rattle.air_field.proofs.fields.own_extension.AnyExtensionField.as_basis_coefficients_slice.Goals as goal

pub from_ref-requires : goal.from_ref-requires
from_ref-requires g c = g.met.F.Field.fits_in_memory
