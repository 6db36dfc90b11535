use Rattle.std.proofs.Common.{◌≤◌, length, arith}
use Rattle.std.proofs.lemmas.List.{take_all}
use Rattle.air_draft.specs.declared.claim.Claimed.TheVariants.{Equal}
use Rattle.p3_air.proofs.ClaimLists.{no_pairs, pairs_more}
use Rattle.p3_air.proofs.handles.constraints.Constraints.equals.Goals as goal

pub loop-i-init : goal.loop-i-init
loop-i-init c = no_pairs c.args.condition c.args.outer Equal c.args.self.now

pub loop-i-preserved : goal.loop-i-preserved
loop-i-preserved c =
    pairs_more c.args.condition c.args.outer (λ x. x.now) c.loop-i.i c.index_label-label.result c.args.self.now c.loop-i.self c.index_label-label.new.self c.equal.new.self Equal c.args.xs.now c.args.ys.now c.index-xs-i.result c.index-ys-i.result (omega arith) (omega arith) c.index-xs-i.is c.index-ys-i.is c.loop-i.invariant c.index_label-label.ensures c.equal.ensures

pub returns : goal.returns
returns c = let x : length c.args.xs.now ≤ c.loop-i.i = omega arith in let y : length c.args.ys.now ≤ c.loop-i.i = omega arith in
    rw (take_all c.loop-i.i c.args.xs.now x, take_all c.loop-i.i c.args.ys.now y) at c.loop-i.invariant
