use contract.BorrowLft.{⊑_static}
use Rattle.std.specs.Prelude.{[]}
use Rattle.std.proofs.lemmas.Result.{on_ok_weaker}
use Rattle.p3_air.specs.Author.{add2_asserts, word_at, word_bits}
use Rattle.p3_air.specs.Claims.{row_assignment, plain_trace}
use Rattle.p3_air.specs.laws.Claims.{bits_of_word, plain_vanish, adds_up, both_vanish}
use Rattle.example_adder.specs.Adder.{adder}
use Rattle.example_adder.proofs.checks.check_sums.Goals as goal

pub returns-clause-kept : goal.returns-clause-kept
returns-clause-kept g c = c.check_constraints.ensures.kept

pub returns-clause-error : goal.returns-clause-error
returns-clause-error g c = c.check_constraints.ensures.error

pub returns-clause-sums : goal.returns-clause-sums
returns-clause-sums g c =
    let R = g.F.Field.ring in
    let domain = g.met.F.PrimeField.domain in
    on_ok_weaker c.check_constraints.result
    (λ kept big row lt.
    let s = row_assignment R (plain_trace c.args.trace.now []) row in
    let all = plain_vanish R g.F.PartialEq.eq g.met.F.Field.eq_is (adder R) 102 0 c.args.trace.now [] row kept lt in
    let a = both_vanish R s (word_bits R 0 (λ t. t)) _ all in
    let b = both_vanish R s (word_bits R 34 (λ t. t)) _ a.1 in
    let sum = both_vanish R s (word_bits R 68 (λ t. t)) (add2_asserts R (word_at 0) (word_at 34) (word_at 68)) b.1 in
    let word = bits_of_word R domain s in
    adds_up R g.F.Field.CHARACTERISTIC domain s c.words_are_exact.ensures.add2 big (word_at 0) (word_at 34) (word_at 68) (word 0 a.0) (word 34 b.0) (word 68 sum.0) sum.1)
    c.check_constraints.ensures.kept

-- F is 'static
pub check_constraints-requires-lives-A-Air : goal.check_constraints-requires-lives-A-Air
check_constraints-requires-lives-A-Air g c κs within a m = ⊑_static _ a (c.type_bounds.static-F a m)

pub check_constraints-requires-lives-A-Air-2 : goal.check_constraints-requires-lives-A-Air-2
check_constraints-requires-lives-A-Air-2 g c κs within a m = ⊑_static _ a (c.type_bounds.static-F a m)

pub check_constraints-requires-lives-A-Air-3 : goal.check_constraints-requires-lives-A-Air-3
check_constraints-requires-lives-A-Air-3 g c κs within a m = ⊑_static _ a (c.type_bounds.static-F a m)

pub check_constraints-requires-lives-A-Air-4 : goal.check_constraints-requires-lives-A-Air-4
check_constraints-requires-lives-A-Air-4 g c κs within a m = ⊑_static _ a (c.type_bounds.static-F a m)

pub check_constraints-requires-lives-A-Air-5 : goal.check_constraints-requires-lives-A-Air-5
check_constraints-requires-lives-A-Air-5 g c κs within a m = ⊑_static _ a (c.type_bounds.static-F a m)

pub check_constraints-requires-lives-A-Air-6 : goal.check_constraints-requires-lives-A-Air-6
check_constraints-requires-lives-A-Air-6 g c κs within a m = ⊑_static _ a (c.type_bounds.static-F a m)

pub check_constraints-requires-lives-A-Air-7 : goal.check_constraints-requires-lives-A-Air-7
check_constraints-requires-lives-A-Air-7 g c κs within a m = ⊑_static _ a (c.type_bounds.static-F a m)

pub check_constraints-requires-lives-A-Air-8 : goal.check_constraints-requires-lives-A-Air-8
check_constraints-requires-lives-A-Air-8 g c κs within a m = ⊑_static _ a (c.type_bounds.static-F a m)
