use Rattle.std.proofs.Common.{rules, ◌≡◌, count_by}
use Rattle.air_folder.specs.Hiding.{folds_to_zero}
use Rattle.air_recording.specs.Folds.{sum_by_powers}
use Rattle.air_folder.proofs.FewHide.{few_hide, increasing_distinct}
use Rattle.air_folder.proofs.hiding.hiding_alphas.Goals as goal

pub returns-clause-fewer : goal.returns-clause-fewer
returns-clause-fewer g c some =
    let hides = folds_to_zero g.EF.ExtensionField.over.ring g.EF.PartialEq.eq c.args.values.now in
    let counted : c.count.result ≡ count_by hides c.args.alphas.now = search rules in
    rw counted
    (few_hide g.EF.ExtensionField.over.ring g.met.EF.DomainExtension.domain hides c.args.values.now c.args.alphas.now
    (λ x h. (g.met.EF.ExtensionField.eq_is (sum_by_powers g.EF.ExtensionField.over.ring x c.args.values.now) g.EF.ExtensionField.over.ring.zero).0 h)
    (increasing_distinct g.EF.Ord.cmp g.met.EF.Ord.total c.args.alphas.now c.requires)
    some)
