use Rattle.std.proofs.Common.{◌∙◌, sym}
use Rattle.air_field.specs.Goldilocks.{goldilocks_modular}
use Rattle.air_field.specs.laws.Modular.{same_class, image-class}
use Rattle.air_field.proofs.fields.goldilocks_field.GoldilocksField.from_u64.Goals as goal

pub returns : goal.returns
returns c = same_class goldilocks_modular _ _ c.new.ensures ∙ sym (image-class goldilocks_modular c.args.n)
