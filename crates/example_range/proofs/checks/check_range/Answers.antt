use contract.BorrowLft.{⊑_static}
use Rattle.std.specs.Prelude.{[]}
use Rattle.std.proofs.lemmas.Result.{on_ok_weaker}
use Rattle.p3_air.specs.Author.{current}
use Rattle.p3_air.specs.laws.Claims.{bits_below, plain_vanish}
use Rattle.example_range.specs.Range.{range}
use Rattle.example_range.proofs.checks.check_range.Goals as goal

pub returns-clause-kept : goal.returns-clause-kept
returns-clause-kept g c = c.check_constraints.ensures.kept

pub returns-clause-error : goal.returns-clause-error
returns-clause-error g c = c.check_constraints.ensures.error

pub returns-clause-below : goal.returns-clause-below
returns-clause-below g c =
    let R = g.F.Field.ring in
    on_ok_weaker c.check_constraints.result
    (λ kept row lt.
    let h = plain_vanish R g.F.PartialEq.eq g.met.F.Field.eq_is (range R) 17 0 c.args.trace.now [] row kept lt in
    bits_below R g.met.F.PrimeField.domain _ (current 0) 1 15 h)
    c.check_constraints.ensures.kept

-- F is 'static
pub check_constraints-requires-lives-A-Air : goal.check_constraints-requires-lives-A-Air
check_constraints-requires-lives-A-Air g c κs within a m = ⊑_static _ a (c.type_bounds.static-F a m)

pub check_constraints-requires-lives-A-Air-2 : goal.check_constraints-requires-lives-A-Air-2
check_constraints-requires-lives-A-Air-2 g c κs within a m = ⊑_static _ a (c.type_bounds.static-F a m)

pub check_constraints-requires-lives-A-Air-3 : goal.check_constraints-requires-lives-A-Air-3
check_constraints-requires-lives-A-Air-3 g c κs within a m = ⊑_static _ a (c.type_bounds.static-F a m)

pub check_constraints-requires-lives-A-Air-4 : goal.check_constraints-requires-lives-A-Air-4
check_constraints-requires-lives-A-Air-4 g c κs within a m = ⊑_static _ a (c.type_bounds.static-F a m)

pub check_constraints-requires-lives-A-Air-5 : goal.check_constraints-requires-lives-A-Air-5
check_constraints-requires-lives-A-Air-5 g c κs within a m = ⊑_static _ a (c.type_bounds.static-F a m)

pub check_constraints-requires-lives-A-Air-6 : goal.check_constraints-requires-lives-A-Air-6
check_constraints-requires-lives-A-Air-6 g c κs within a m = ⊑_static _ a (c.type_bounds.static-F a m)

pub check_constraints-requires-lives-A-Air-7 : goal.check_constraints-requires-lives-A-Air-7
check_constraints-requires-lives-A-Air-7 g c κs within a m = ⊑_static _ a (c.type_bounds.static-F a m)

pub check_constraints-requires-lives-A-Air-8 : goal.check_constraints-requires-lives-A-Air-8
check_constraints-requires-lives-A-Air-8 g c κs within a m = ⊑_static _ a (c.type_bounds.static-F a m)
