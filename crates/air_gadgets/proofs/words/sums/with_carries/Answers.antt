use Rattle.std.proofs.Common.{inl, inr}
use Rattle.air_field.specs.Part.{whole}
use Rattle.air_gadgets.specs.Gadgets.{carries_term, whole_term}
use Rattle.air_gadgets.proofs.LimbLaws.{all_two, carried_refused}
use Rattle.air_gadgets.proofs.Making.{gives_up}
use Rattle.air_gadgets.proofs.words.sums.with_carries.Goals as goal

pub returns-in_err-both-clause-makes : goal.returns-in_err-both-clause-makes
returns-in_err-both-clause-makes g c =
    let r = g.F.Field.ring in
    gives_up c.in_err-both.field-0.0 c.from_residual.ensures.1
    (λ t u m n. carried_refused g.met.R.Algebra.laws r c.args.two _ t u (whole_term r t u) whole (c.in_err-both.ensures.makes.refused t u m n))

pub returns-in_err-first-clause-makes : goal.returns-in_err-first-clause-makes
returns-in_err-first-clause-makes g c =
    gives_up c.in_err-first.field-0.0 c.from_residual-in_err-first.ensures.1
    (λ t u m n. inl (c.in_err-first.ensures.makes.refused (whole_term g.F.Field.ring t u) (c.in_ok-both.ensures.makes.made.1 t u m n)))

pub returns-in_err-second-clause-makes : goal.returns-in_err-second-clause-makes
returns-in_err-second-clause-makes g c =
    let laws = g.met.R.Algebra.laws in
    let stays = laws.joined c.args.ring.now c.whole_word.new.ring c.carries.new.ring c.whole_word.ensures.extended c.carries.ensures.extended in
    gives_up c.in_err-second.field-0.0 c.from_residual-in_err-second.ensures.1
    (λ t u m n. inr (inl (c.in_err-second.ensures.makes.refused t (laws.means_stays c.args.ring.now c.carries.new.ring c.args.low t stays m))))

pub returns-clause-makes : goal.returns-clause-makes
returns-clause-makes g c =
    let laws = g.met.R.Algebra.laws in
    let r = g.F.Field.ring in
    let stays = laws.joined c.args.ring.now c.whole_word.new.ring c.carries.new.ring c.whole_word.ensures.extended c.carries.ensures.extended in record {
      made = (
        all_two (g.R.Algebra.has c.carries-2.new.ring) c.in_ok-first.first c.in_ok-second.second
            (laws.has_stays c.carries.new.ring c.carries-2.new.ring c.in_ok-first.first c.carries-2.ensures.extended c.in_ok-first.ensures.makes.made.0) c.in_ok-second.ensures.makes.made.0,
        λ t u m n. (
          laws.means_stays c.carries.new.ring c.carries-2.new.ring c.in_ok-first.first (carries_term r c.args.two 4294967296 (whole_term r t u)) c.carries-2.ensures.extended
              (c.in_ok-first.ensures.makes.made.1 (whole_term r t u) (c.in_ok-both.ensures.makes.made.1 t u m n)),
          (c.in_ok-second.ensures.makes.made.1 t (laws.means_stays c.args.ring.now c.carries.new.ring c.args.low t stays m), tt),
        ),
      );
      refused = tt;
    }

pub whole_word-requires : goal.whole_word-requires
whole_word-requires g c = record { low_in = c.requires.low_in; high_in = c.requires.high_in }

pub carries-requires-clause-x_in : goal.carries-requires-clause-x_in
carries-requires-clause-x_in g c = c.in_ok-both.ensures.makes.made.0

pub carries-requires-2-clause-x_in : goal.carries-requires-2-clause-x_in
carries-requires-2-clause-x_in g c =
    let laws = g.met.R.Algebra.laws in
    let stays = laws.joined c.args.ring.now c.whole_word.new.ring c.carries.new.ring c.whole_word.ensures.extended c.carries.ensures.extended in
    laws.has_stays c.args.ring.now c.carries.new.ring c.args.low stays c.requires.low_in

pub returns-in_err-both-clause-extended : goal.returns-in_err-both-clause-extended
returns-in_err-both-clause-extended g c = c.whole_word.ensures.extended

pub returns-in_err-first-clause-extended : goal.returns-in_err-first-clause-extended
returns-in_err-first-clause-extended g c = g.met.R.Algebra.laws.joined c.args.ring.now c.whole_word.new.ring c.carries.new.ring c.whole_word.ensures.extended c.carries.ensures.extended

pub returns-in_err-second-clause-extended : goal.returns-in_err-second-clause-extended
returns-in_err-second-clause-extended g c =
    let laws = g.met.R.Algebra.laws in
    laws.joined c.args.ring.now c.whole_word.new.ring c.carries-2.new.ring c.whole_word.ensures.extended
    (laws.joined c.whole_word.new.ring c.carries.new.ring c.carries-2.new.ring c.carries.ensures.extended c.carries-2.ensures.extended)

pub returns-clause-extended : goal.returns-clause-extended
returns-clause-extended g c =
    let laws = g.met.R.Algebra.laws in
    laws.joined c.args.ring.now c.whole_word.new.ring c.carries-2.new.ring c.whole_word.ensures.extended
    (laws.joined c.whole_word.new.ring c.carries.new.ring c.carries-2.new.ring c.carries.ensures.extended c.carries-2.ensures.extended)
