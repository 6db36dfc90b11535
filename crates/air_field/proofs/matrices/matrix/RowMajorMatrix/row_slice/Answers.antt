use Rattle.std.proofs.Common.{sym, arith, ◌≡◌, ◌+◌, ◌-◌, ◌*◌}
use Rattle.air_field.specs.laws.Rows.{slice_get-rows_of, slice_get-past_rows}
use Rattle.air_field.proofs.matrices.matrix.RowMajorMatrix.row_slice.Goals as goal

pub returns-then-row-self-clause-row : goal.returns-then-row-self-clause-row
returns-then-row-self-clause-row g c = rw (← c.self.view_is) (sym (slice_get-past_rows _ _ _ _ c.if-row-self.true))

pub returns-clause-row : goal.returns-clause-row
returns-clause-row g c =
    let start = c.args.row * c.self.inside.width in
    let width : start + c.self.inside.width - start ≡ c.self.inside.width = omega arith in
    rw (← c.self.view_is, slice_get-rows_of c.self.inside.height c.self.inside.width c.self.inside.values.items c.args.row c.if-row-self.false, width, c.deref.ensures.value)
