use contract.BorrowLft.{⊑_static}
use Rattle.std.proofs.Common.{refl}
use Rattle.std.proofs.lemmas.Result.{IfOk-weaker}
use Rattle.air_report.specs.Permuted.{permutation_trace}
use Rattle.example_bytes.proofs.Counted.{bytes_are_sound}
use Rattle.example_bytes.proofs.checks.bytes_pass.Goals as goal

pub returns-clause-passes : goal.returns-clause-passes
returns-clause-passes g c =
    IfOk-weaker c.lists_nothing.result _ _
    (λ passes is told. record { permutation = permutation_trace c.args.permutation; lists = (is.0 told).0; challenge_is = refl })
    c.lists_nothing.ensures.nothing

pub returns-clause-sound : goal.returns-clause-sound
returns-clause-sound g c =
    bytes_are_sound g.F.Field.ring g.EF.ExtensionField.over g.F.PartialEq.eq g.EF.PartialEq.eq g.met.F.Field.eq_is c.args.trace.now g.F.Field.CHARACTERISTIC
    c.lookups_are_sound.ensures.tables

-- F and EF are 'static
pub lists_nothing-requires-lives-A-Air : goal.lists_nothing-requires-lives-A-Air
lists_nothing-requires-lives-A-Air g c κs within a m = ⊑_static _ a (c.type_bounds.static-F a m)

pub lists_nothing-requires-lives-A-Air-2 : goal.lists_nothing-requires-lives-A-Air-2
lists_nothing-requires-lives-A-Air-2 g c κs within a m = ⊑_static _ a (c.type_bounds.static-EF a m)

pub lists_nothing-requires-lives-A-Air-3 : goal.lists_nothing-requires-lives-A-Air-3
lists_nothing-requires-lives-A-Air-3 g c κs within a m = ⊑_static _ a (c.type_bounds.static-F a m)

pub lists_nothing-requires-lives-A-Air-4 : goal.lists_nothing-requires-lives-A-Air-4
lists_nothing-requires-lives-A-Air-4 g c κs within a m = ⊑_static _ a (c.type_bounds.static-F a m)

pub lists_nothing-requires-lives-A-Air-5 : goal.lists_nothing-requires-lives-A-Air-5
lists_nothing-requires-lives-A-Air-5 g c κs within a m = ⊑_static _ a (c.type_bounds.static-F a m)

pub lists_nothing-requires-lives-A-Air-6 : goal.lists_nothing-requires-lives-A-Air-6
lists_nothing-requires-lives-A-Air-6 g c κs within a m = ⊑_static _ a (c.type_bounds.static-EF a m)

pub lists_nothing-requires-lives-A-Air-7 : goal.lists_nothing-requires-lives-A-Air-7
lists_nothing-requires-lives-A-Air-7 g c κs within a m = ⊑_static _ a (c.type_bounds.static-F a m)

pub lists_nothing-requires-lives-A-Air-8 : goal.lists_nothing-requires-lives-A-Air-8
lists_nothing-requires-lives-A-Air-8 g c κs within a m = ⊑_static _ a (c.type_bounds.static-EF a m)

pub lists_nothing-requires-lives-A-Air-9 : goal.lists_nothing-requires-lives-A-Air-9
lists_nothing-requires-lives-A-Air-9 g c κs within a m = ⊑_static _ a (c.type_bounds.static-F a m)

pub lists_nothing-requires-lives-A-Air-10 : goal.lists_nothing-requires-lives-A-Air-10
lists_nothing-requires-lives-A-Air-10 g c κs within a m = ⊑_static _ a (c.type_bounds.static-EF a m)

pub lists_nothing-requires-lives-A-Air-11 : goal.lists_nothing-requires-lives-A-Air-11
lists_nothing-requires-lives-A-Air-11 g c κs within a m = ⊑_static _ a (c.type_bounds.static-F a m)

pub lists_nothing-requires-lives-A-Air-12 : goal.lists_nothing-requires-lives-A-Air-12
lists_nothing-requires-lives-A-Air-12 g c κs within a m = ⊑_static _ a (c.type_bounds.static-F a m)

pub lists_nothing-requires-lives-A-Air-13 : goal.lists_nothing-requires-lives-A-Air-13
lists_nothing-requires-lives-A-Air-13 g c κs within a m = ⊑_static _ a (c.type_bounds.static-EF a m)
