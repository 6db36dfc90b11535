use Rattle.std.proofs.Common.{◌<◌, rules, inl, refl}
use Rattle.air_field.specs.Term.{preprocessed}
use Rattle.air_builder.proofs.builders.air_builder.AirBuilder.preprocessed_variable.Goals as goal

pub returns-in_default-clause-none : goal.returns-in_default-clause-none
returns-in_default-clause-none g c =
    let past : 1 < c.args.offset = search rules in
    (λ _. g.met.Self.AirBuilder.laws.past_window c.args.self.now c.args.offset (preprocessed c.args.offset c.args.column) (past, c.args.column, inl refl), λ _. refl)
