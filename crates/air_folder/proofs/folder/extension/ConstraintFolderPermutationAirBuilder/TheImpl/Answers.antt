use Rattle.std.proofs.Common.{inr}
use Rattle.std.proofs.lemmas.Result.{IfOk-weaker, IfErr-weaker}
use Rattle.air_builder.specs.laws.ShownRows.{without_permutation}
use Rattle.air_folder.specs.FolderRow.{folder_row}
use Rattle.air_folder.proofs.folder.extension.ConstraintFolderPermutationAirBuilder.TheImpl.Goals as goal

pub permutation-tells : goal.permutation-tells
permutation-tells g i d c =
    let folder = c.args.self.now in
    let none = without_permutation (folder_row folder).values folder.permutation folder.challenges.now folder.permutation_values.now in
    record { window = IfOk-weaker c.result _ _ (λ _ _. tt) c.ensures.current; current = c.ensures.current; next = c.ensures.next; current_ends = c.ensures.current_ends; next_ends = c.ensures.next_ends; refused = IfErr-weaker c.result _ _ (λ e h. inr (h.0, none h.1)) c.ensures.refused }
