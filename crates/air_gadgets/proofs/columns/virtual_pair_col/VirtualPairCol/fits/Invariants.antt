use Rattle.std.proofs.Common.{ℕ, ◌<◌, slice_index_or}
use Rattle.air_gadgets.specs.declared.columns.pair_col.PairCol.{PairCol}
use Rattle.air_gadgets.specs.Columns.{IsWithin}
use Rattle.air_gadgets.proofs.columns.virtual_pair_col.VirtualPairCol.fits.Given as goal

abbrev pub invariant-loop-column : goal.invariant-loop-column
invariant-loop-column g l = (k : ℕ) (d : PairCol × g.row.F.Denot) → k < l.column-index → IsWithin l.preprocessed_width l.main_width (slice_index_or l.column-items k d).0
