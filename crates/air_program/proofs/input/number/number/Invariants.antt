use Rattle.std.proofs.Common.{◌≡◌, ◌≤◌, drop}
use Rattle.air_program.proofs.Digits.{number_on}
use Rattle.air_program.proofs.input.number.number.Given as goal

abbrev pub invariant-loop-digit : goal.invariant-loop-digit
invariant-loop-digit l = record {
  small : l.value ≤ 2013265920;
  so_far : number_on l.value (drop l.digit-index l.field) ≡ number_on 0 l.field;
}
