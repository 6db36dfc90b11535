use Rattle.std.proofs.Common.{refl}
use Rattle.air_gadgets.proofs.columns.virtual_pair_col.VirtualPairCol.new.Goals as goal

pub returns : goal.returns
returns g c = refl
