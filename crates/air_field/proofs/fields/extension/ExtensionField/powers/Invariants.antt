use Rattle.std.proofs.Common.{◌≡◌}
use Rattle.air_field.specs.Powers.{power, powers_of}
use Rattle.air_field.proofs.fields.extension.ExtensionField.powers.Given as goal

abbrev pub invariant-loop : goal.invariant-loop
invariant-loop g l = record {
  all_are : l.all.items ≡ powers_of g.Self.ExtensionField.over.ring l.self l.counter;
  power_is : l.power ≡ power g.Self.ExtensionField.over.ring l.self l.counter;
}
