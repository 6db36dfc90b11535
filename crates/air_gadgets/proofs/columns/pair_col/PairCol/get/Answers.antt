use Rattle.std.proofs.Common.{length, refl}
use Rattle.std.proofs.lemmas.Option.{slice_get_read}
use Rattle.air_gadgets.proofs.columns.pair_col.PairCol.get.Goals as goal

pub returns-in-Preprocessed : goal.returns-in-Preprocessed
returns-in-Preprocessed g c =
    rw c.in-Preprocessed.is
    (slice_get_read c.args.preprocessed.now (length c.args.preprocessed.now) c.in-Preprocessed.column c.index-preprocessed-column.result refl
    (rw c.in-Preprocessed.is at c.requires) c.index-preprocessed-column.is)

pub returns-in-Main : goal.returns-in-Main
returns-in-Main g c =
    rw c.in-Main.is
    (slice_get_read c.args.main.now (length c.args.main.now) c.in-Main.column c.index-main-column.result refl
    (rw c.in-Main.is at c.requires) c.index-main-column.is)
