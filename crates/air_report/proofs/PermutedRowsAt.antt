-- A row of a trace and of its permutation trace, by the rows that the debug builder holds.
use Rattle.std.proofs.Common.{◌≡◌, ℕ, ◌+◌, ◌%◌, length, Some, slice_get}
use Rattle.air_field.specs.Ring.{CommRing}
use Rattle.air_field.specs.declared.matrices.view.ViewPair.{ViewPair}
use Rattle.air_report.specs.Instances.{Instance, instance_trace}
use Rattle.air_report.specs.Permuted.{PermutationTrace, permuted_row, permuted_shape}
use Rattle.air_report.proofs.RowsAt.{row_beside, shape_beside}

module _ {F E : Type 0} (g : Instance F) (p : PermutationTrace E) (others : ViewPair E) where
  pub permuted_is : (r : CommRing F) {i : ℕ} → slice_get p.trace.rows i ≡ Some others.top.values.now
      → slice_get p.trace.rows ((i + 1) % length p.trace.rows) ≡ Some others.bottom.values.now
      → row_beside r g i (Some others) p.challenges p.exposed ≡ permuted_row r (instance_trace g) p i
  permuted_is r top bottom = rw (top, bottom)

  pub permuted_shape_is : length others.top.values.now ≡ p.trace.width → shape_beside g (Some others) p.challenges p.exposed ≡ permuted_shape g p
  permuted_shape_is width = rw width
