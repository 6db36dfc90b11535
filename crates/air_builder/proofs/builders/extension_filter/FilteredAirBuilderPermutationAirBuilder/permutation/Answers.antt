use Rattle.std.proofs.Common.{inl, inr}
use Rattle.std.proofs.lemmas.Result.{IfErr-weaker}
use Rattle.air_builder.proofs.builders.extension_filter.FilteredAirBuilderPermutationAirBuilder.permutation.Goals as goal

-- under a condition, too, nothing is asserted
pub returns-clause-refused : goal.returns-clause-refused
returns-clause-refused g c =
    IfErr-weaker c.permutation.result _ _ (λ e h. elim h [ inl refused ↦ inl (λ t means. refused) | inr none ↦ inr none ]) c.permutation.ensures.refused
