use Rattle.std.proofs.lemmas.Bool.{ltb-true, lt-ltb}
use Rattle.air_gadgets.proofs.columns.pair_col.PairCol.in_range.Goals as goal

pub returns-in-Main : goal.returns-in-Main
returns-in-Main c =
    rw c.in-Main.is (ltb-true c.in-Main.column c.args.main_width, lt-ltb c.in-Main.column c.args.main_width)

pub returns-in-Preprocessed : goal.returns-in-Preprocessed
returns-in-Preprocessed c =
    rw c.in-Preprocessed.is (ltb-true c.in-Preprocessed.column c.args.preprocessed_width, lt-ltb c.in-Preprocessed.column c.args.preprocessed_width)
