use Rattle.air_core.proofs.windows.two_rows.TwoRowsWindowAccess.current_slice.Goals as goal

pub returns : goal.returns
returns g c = c.as_slice.ensures.value
