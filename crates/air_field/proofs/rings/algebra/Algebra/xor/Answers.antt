use Rattle.std.proofs.lemmas.Result.{err_from_is_err_and}
use Rattle.air_field.proofs.BodyLaws.{xor_answers, xor_refused_sum, xor_refused_product, xor_refused_twice}
use Rattle.air_field.proofs.rings.algebra.Algebra.xor.Goals as goal

pub returns-in_err-sum-clause-refused : goal.returns-in_err-sum-clause-refused
returns-in_err-sum-clause-refused g c =
    let p = err_from_is_err_and c.from_residual.result c.from_residual.ensures.1 in
    rw (p.1, p.2)
    (xor_refused_sum g.met.Self.Algebra.laws c.args.self.now c.args.x c.args.y c.in_err-sum.field-0.0 c.in_err-sum.ensures.refused)

pub returns-in_err-product-clause-refused : goal.returns-in_err-product-clause-refused
returns-in_err-product-clause-refused g c =
    let p = err_from_is_err_and c.from_residual-in_err-product.result c.from_residual-in_err-product.ensures.1 in
    rw (p.1, p.2)
    (xor_refused_product g.met.Self.Algebra.laws c.args.self.now c.add.new.self c.args.x c.args.y c.in_err-product.field-0.0
    c.add.ensures.extended c.in_err-product.ensures.refused)

pub returns-in_err-twice-clause-refused : goal.returns-in_err-twice-clause-refused
returns-in_err-twice-clause-refused g c =
    let p = err_from_is_err_and c.from_residual-in_err-twice.result c.from_residual-in_err-twice.ensures.1 in
    rw (p.1, p.2)
    (xor_refused_twice g.met.Self.Algebra.laws c.args.self.now c.add.new.self c.mul.new.self c.double.new.self c.double.new.self c.args.x c.args.y c.in_ok-sum.sum c.in_ok-product.product c.in_ok-product.product
    c.add.ensures.extended c.mul.ensures.extended c.double.ensures.extended
    c.in_err-twice.field-0.0 c.in_ok-product.ensures.made c.in_err-twice.ensures.refused)

pub returns : goal.returns
returns g c =
    let l = g.met.Self.Algebra.laws in
    let answers =
    xor_answers l c.args.self.now c.add.new.self c.mul.new.self c.double.new.self c.sub.new.self c.args.x c.args.y c.in_ok-sum.sum c.in_ok-product.product c.in_ok-twice.twice
    c.add.ensures.extended c.mul.ensures.extended c.double.ensures.extended
    c.sub.result c.in_ok-sum.ensures.made c.in_ok-product.ensures.made c.in_ok-twice.ensures.made c.sub.ensures.made c.sub.ensures.refused in
    record { extended = l.joined _ _ _ c.add.ensures.extended (l.joined _ _ _ c.mul.ensures.extended (l.joined _ _ _ c.double.ensures.extended c.sub.ensures.extended)); made = answers.0; refused = answers.1 }
