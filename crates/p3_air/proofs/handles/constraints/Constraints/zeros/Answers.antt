use Rattle.std.proofs.Common.{◌≤◌, length, arith}
use Rattle.std.proofs.lemmas.List.{take_all}
use Rattle.air_draft.specs.declared.claim.Claimed.TheVariants.{Zero}
use Rattle.p3_air.proofs.ClaimLists.{none_yet, each_more}
use Rattle.p3_air.proofs.handles.constraints.Constraints.zeros.Goals as goal

pub loop-i-init : goal.loop-i-init
loop-i-init c = none_yet c.args.condition c.args.outer Zero c.args.self.now

pub loop-i-preserved : goal.loop-i-preserved
loop-i-preserved c =
    each_more c.args.condition c.args.outer (λ x. x.now) c.loop-i.i c.index_label-label.result c.args.self.now c.loop-i.self c.index_label-label.new.self c.zero.new.self Zero c.args.xs.now c.index-xs-i.result (omega arith) c.index-xs-i.is c.loop-i.invariant c.index_label-label.ensures c.zero.ensures

pub returns : goal.returns
returns c = let whole : length c.args.xs.now ≤ c.loop-i.i = omega arith in rw (take_all c.loop-i.i c.args.xs.now whole) at c.loop-i.invariant
