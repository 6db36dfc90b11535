use Rattle.air_blake3_path.proofs.Evaluated.{evaluated_then, evaluation_gives_up}
use Rattle.air_blake3_path.proofs.path.MerklePathAir.eval.Goals as goal

pub returns-clause-evaluated : goal.returns-clause-evaluated
returns-clause-evaluated g c =
    evaluated_then g.met.AB.AirBuilder.laws _ _ _ _ c.assert_all.result _ _ c.in_ok-eval.ensures.evaluated c.assert_all.ensures.evaluated

pub returns-in_err-eval-clause-evaluated : goal.returns-in_err-eval-clause-evaluated
returns-in_err-eval-clause-evaluated g c = evaluation_gives_up g.met.AB.AirBuilder.laws _ c.from_residual.ensures.1 c.in_err-eval.ensures.evaluated
