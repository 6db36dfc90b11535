use Rattle.std.proofs.Common.{◌≡◌, drop}
use Rattle.air_folder.specs.Fold.{fold_from}
use Rattle.air_folder.proofs.hiding.fold.Given as goal

abbrev pub invariant-loop-value : goal.invariant-loop-value
invariant-loop-value g l = fold_from g.EF.ExtensionField.over.ring l.alpha l.accumulator (drop l.value-index l.values) ≡ fold_from g.EF.ExtensionField.over.ring l.alpha g.EF.ExtensionField.over.ring.zero l.values
