use Rattle.std.proofs.Common.{◌<◌, length, arith}
use Rattle.air_field.specs.Part.{whole, in_add_left, in_add_right}
use Rattle.air_field.specs.Term.{add_term}
use Rattle.air_field.specs.Algebra.{double_term}
use Rattle.air_gadgets.proofs.Making.{gives_up, makes_by}
use Rattle.air_gadgets.proofs.PackedXors.{from_lowest, from_all}
use Rattle.air_gadgets.proofs.words.xors.+packed_xor.Goals as goal

pub returns-in_err-lowest-clause-makes : goal.returns-in_err-lowest-clause-makes
returns-in_err-lowest-clause-makes g m c =
    let e = c.in_err-lowest.field-0.0 in
    gives_up e c.from_residual.ensures.1
    (from_lowest g.R.FromVar.var_means g.F.Field.ring c.args.b.now c.args.c.now c.index-b-0.is c.index-c-0.is c.requires.same (g.R.Algebra.refuses e) c.requires.some c.in_err-lowest.ensures.makes.refused
    (λ x y h. g.met.R.Algebra.laws.refuses_whole e y (add_term (double_term x) y) (in_add_right whole) h))

pub returns-in_err-rest-clause-makes : goal.returns-in_err-rest-clause-makes
returns-in_err-rest-clause-makes g m c =
    let more : 1 < length c.args.b.now = omega (arith, c.requires.some, c.if-b-eq1.false) in
    let e = c.in_err-rest.field-0.0 in
    gives_up e c.from_residual-in_err-rest.ensures.1
    (from_all g.R.FromVar.var_means g.F.Field.ring c.args.b.now c.args.c.now c.index-b-0.is c.index-c-0.is c.requires.same (λ _. Unit {0}) (g.R.Algebra.refuses e) (g.R.Algebra.refuses e) more (λ _ _ _ _. tt) c.in_err-rest.ensures.makes.refused
    (λ x y h _. g.met.R.Algebra.laws.refuses_whole e x (add_term (double_term x) y) (in_add_left (in_add_left whole)) h))

pub returns-in_err-twice-clause-makes : goal.returns-in_err-twice-clause-makes
returns-in_err-twice-clause-makes g m c =
    let more : 1 < length c.args.b.now = omega (arith, c.requires.some, c.if-b-eq1.false) in
    let e = c.in_err-twice.field-0.0 in
    gives_up e c.from_residual-in_err-twice.ensures.1
    (from_all g.R.FromVar.var_means g.F.Field.ring c.args.b.now c.args.c.now c.index-b-0.is c.index-c-0.is c.requires.same (λ _. Unit {0}) (g.R.Algebra.means c.packed_xor.new.ring c.in_ok-rest.rest) (g.R.Algebra.refuses e) more (λ _ _ _ _. tt) c.in_ok-rest.ensures.makes.made.1
    (λ x y h _. g.met.R.Algebra.laws.refuses_whole e (double_term x) (add_term (double_term x) y) (in_add_left whole) (c.in_err-twice.ensures.refused x h)))

pub returns-clause-extended : goal.returns-clause-extended
returns-clause-extended g m c =
    let laws = g.met.R.Algebra.laws in
    laws.joined c.args.ring.now c.bit.new.ring c.add.new.self c.bit.ensures.extended
    (laws.joined c.bit.new.ring c.packed_xor.new.ring c.add.new.self c.packed_xor.ensures.extended
    (laws.joined c.packed_xor.new.ring c.double.new.self c.add.new.self c.double.ensures.extended c.add.ensures.extended))

pub returns-clause-makes : goal.returns-clause-makes
returns-clause-makes g m c =
    let laws = g.met.R.Algebra.laws in
    let more : 1 < length c.args.b.now = omega (arith, c.requires.some, c.if-b-eq1.false) in
    let later = laws.joined c.bit.new.ring c.packed_xor.new.ring c.double.new.self c.packed_xor.ensures.extended c.double.ensures.extended in
    makes_by laws c.add.result c.add.ensures.made c.add.ensures.refused
    (λ M h. from_all g.R.FromVar.var_means g.F.Field.ring c.args.b.now c.args.c.now c.index-b-0.is c.index-c-0.is c.requires.same (g.R.Algebra.means c.bit.new.ring c.in_ok-lowest.lowest) (g.R.Algebra.means c.packed_xor.new.ring c.in_ok-rest.rest) M more c.in_ok-lowest.ensures.makes.made.1 c.in_ok-rest.ensures.makes.made.1
    (λ x y i j. h (double_term x) y (c.in_ok-twice.ensures.made.1 x i) (laws.means_stays c.bit.new.ring c.double.new.self c.in_ok-lowest.lowest y later j)))

pub bit-requires : goal.bit-requires
bit-requires g m c = c.requires.valid

pub double-requires : goal.double-requires
double-requires g m c = c.in_ok-rest.ensures.makes.made.0

pub add-requires : goal.add-requires
add-requires g m c =
    let laws = g.met.R.Algebra.laws in
    let later = laws.joined c.bit.new.ring c.packed_xor.new.ring c.double.new.self c.packed_xor.ensures.extended c.double.ensures.extended in record {
      x_in = c.in_ok-twice.ensures.made.0;
      y_in = laws.has_stays c.bit.new.ring c.double.new.self c.in_ok-lowest.lowest later c.in_ok-lowest.ensures.makes.made.0;
    }

pub returns-in_err-lowest-clause-extended : goal.returns-in_err-lowest-clause-extended
returns-in_err-lowest-clause-extended g m c = c.bit.ensures.extended

pub returns-then-b-eq1-clause-extended : goal.returns-then-b-eq1-clause-extended
returns-then-b-eq1-clause-extended g m c = c.bit.ensures.extended

pub returns-in_err-rest-clause-extended : goal.returns-in_err-rest-clause-extended
returns-in_err-rest-clause-extended g m c = g.met.R.Algebra.laws.joined c.args.ring.now c.bit.new.ring c.packed_xor.new.ring c.bit.ensures.extended c.packed_xor.ensures.extended

pub returns-in_err-twice-clause-extended : goal.returns-in_err-twice-clause-extended
returns-in_err-twice-clause-extended g m c =
    let laws = g.met.R.Algebra.laws in
    laws.joined c.args.ring.now c.bit.new.ring c.double.new.self c.bit.ensures.extended
    (laws.joined c.bit.new.ring c.packed_xor.new.ring c.double.new.self c.packed_xor.ensures.extended c.double.ensures.extended)
