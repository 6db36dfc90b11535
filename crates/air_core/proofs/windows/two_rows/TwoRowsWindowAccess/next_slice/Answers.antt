use Rattle.air_core.proofs.windows.two_rows.TwoRowsWindowAccess.next_slice.Goals as goal

pub returns : goal.returns
returns g c = c.as_slice.ensures.value
