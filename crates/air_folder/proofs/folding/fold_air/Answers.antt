use Rattle.std.proofs.Common.{◌≡◌, inl, inr, subst, sym}
use Rattle.std.specs.Prelude.{Result, Ok, Err, IfErr, IsErrAnd}
use Rattle.std.proofs.lemmas.Result.{err_from_is_err_and}
use Rattle.air_folder.specs.Folder.{folder_leaves, values_in}
use Rattle.air_folder.specs.FolderRow.{folder_row}
use Rattle.air_folder.specs.Folding.{FoldingRefuses}
use Rattle.air_folder.proofs.FoldedAirs.{fold_from_zero, folded_air}
use Rattle.air_folder.proofs.folding.fold_air.Goals as goal

pub returns-clause-folded : goal.returns-clause-folded
returns-clause-folded g c =
    let r = g.F.Field.ring in
    let over = g.EF.ExtensionField.over in
    let d = folder_row c.args.folder.now in
    let ts = (g.A.BaseAir.declaration c.args.air.now).constraints in
    let values = values_in over (folder_leaves over d) ts in
    folded_air r over g.EF.ExtensionField.basis d ts
    record { recorded = c.in_ok-recorded.recorded; layout = c.in_ok-recorded.layout; accumulator = c.accumulator.result }
    c.in_ok-recorded.ensures.base c.in_ok-recorded.ensures.ext c.in_ok-recorded.ensures.places
    (fold_from_zero over.ring d.alpha values c.args.folder.now.accumulator c.requires.from_zero c.eval.new.builder.accumulator c.accumulator.result c.in_ok-eval.ensures.evaluated.asserted.ok.folded c.accumulator.ensures)

-- an error that is passed on is the one that came
handed_on : {T E : Type 0} (r : Result T E) (e : E) (P : E → Type 0) → IsErrAnd r (λ x. x ≡ e) → P e → IfErr r P
handed_on (Ok x) e P h p = absurd h
handed_on (Err x) e P h p = subst P (sym h) p

pub returns-in_err-eval-clause-refused : goal.returns-in_err-eval-clause-refused
returns-in_err-eval-clause-refused g c =
    handed_on c.from_residual-in_err-eval.result _ (FoldingRefuses g.F.Field.ring g.EF.ExtensionField.over c.args.layout (g.A.BaseAir.declaration c.args.air.now) (folder_row c.args.folder.now))
    c.from_residual-in_err-eval.ensures.1 (inr (c.in_ok-recorded.ensures.answers, c.in_err-eval.ensures.evaluated.asserted.refused))

pub returns-in_err-recorded-clause-folded : goal.returns-in_err-recorded-clause-folded
returns-in_err-recorded-clause-folded g c =
    let p = err_from_is_err_and c.from_residual.result c.from_residual.ensures.1 in
    rw p.1 tt

pub returns-in_err-recorded-clause-accumulator : goal.returns-in_err-recorded-clause-accumulator
returns-in_err-recorded-clause-accumulator g c =
    let p = err_from_is_err_and c.from_residual.result c.from_residual.ensures.1 in
    rw p.1 tt

pub returns-in_err-recorded-clause-layout : goal.returns-in_err-recorded-clause-layout
returns-in_err-recorded-clause-layout g c =
    let p = err_from_is_err_and c.from_residual.result c.from_residual.ensures.1 in
    rw p.1 tt

pub returns-in_err-recorded-clause-there : goal.returns-in_err-recorded-clause-there
returns-in_err-recorded-clause-there g c =
    let p = err_from_is_err_and c.from_residual.result c.from_residual.ensures.1 in
    rw p.1 tt

pub returns-in_err-eval-clause-folded : goal.returns-in_err-eval-clause-folded
returns-in_err-eval-clause-folded g c =
    let p = err_from_is_err_and c.from_residual-in_err-eval.result c.from_residual-in_err-eval.ensures.1 in
    rw p.1 tt

pub returns-in_err-eval-clause-accumulator : goal.returns-in_err-eval-clause-accumulator
returns-in_err-eval-clause-accumulator g c =
    let p = err_from_is_err_and c.from_residual-in_err-eval.result c.from_residual-in_err-eval.ensures.1 in
    rw p.1 tt

pub returns-in_err-eval-clause-layout : goal.returns-in_err-eval-clause-layout
returns-in_err-eval-clause-layout g c =
    let p = err_from_is_err_and c.from_residual-in_err-eval.result c.from_residual-in_err-eval.ensures.1 in
    rw p.1 tt

pub returns-in_err-eval-clause-there : goal.returns-in_err-eval-clause-there
returns-in_err-eval-clause-there g c =
    let p = err_from_is_err_and c.from_residual-in_err-eval.result c.from_residual-in_err-eval.ensures.1 in
    rw p.1 tt

pub returns-in_err-recorded-clause-refused : goal.returns-in_err-recorded-clause-refused
returns-in_err-recorded-clause-refused g c =
    let p = err_from_is_err_and c.from_residual.result c.from_residual.ensures.1 in
    rw (p.1, p.2) (inl c.in_err-recorded.ensures.refused)
