use Rattle.std.proofs.lemmas.Result.{IfOk-weaker}
use Rattle.serde_json.specs.View.{view}
use Rattle.air_object.proofs.Gains.{list_gains}
use Rattle.air_object.proofs.Trees.{tree_given}
use Rattle.air_object.proofs.constraints.root_from.Goals as goal

pub returns-clause-read : goal.returns-clause-read
returns-clause-read g c = record {
  grown = c.from_flat_value.ensures.grown;
  here = c.from_flat_value.ensures.here;
  read = tree_given g.F.PrimeField64.residues c.from_flat_value.new.pool (view c.args.value.now) c.from_flat_value.result c.from_flat_value.ensures.root c.from_flat_value.ensures.fault;
}

pub returns-clause-gained : goal.returns-clause-gained
returns-clause-gained g c =
    let read = c.from_flat_value in
    IfOk-weaker read.result _ _ (λ _ h. list_gains g.F.PrimeField64.residues c.args.pool.now read.new.pool (view c.args.value.now) h.0 read.ensures.grown read.ensures.pool h.1 h.2) read.ensures.gained
