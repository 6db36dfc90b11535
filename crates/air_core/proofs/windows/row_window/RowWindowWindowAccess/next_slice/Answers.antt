use Rattle.std.proofs.Common.{refl}
use Rattle.air_core.proofs.windows.row_window.RowWindowWindowAccess.next_slice.Goals as goal

pub returns : goal.returns
returns g c = refl
