use Rattle.std.proofs.Common.{◌≡◌, length, rules, ◌∙◌, ◌+◌, ◌%◌}
use Rattle.air_field.proofs.Binomials.{dot_reduced}
use Rattle.air_field.proofs.fields.product.dot_product.Goals as goal

pub returns : goal.returns
returns g c =
    let a_four : length c.args.a.now ≡ 4 = search rules in
    let b_four : length c.args.b.now ≡ 4 = search rules in
    dot_reduced c.reduce.result c.args.a.now c.args.b.now _ _ _ _ _ _ _ _ a_four b_four
    (c.reduce.ensures
    ∙ (λ i. (c.unreduced_product.ensures.product i + c.unreduced_product-2.ensures.product i + c.unreduced_product-3.ensures.product i + c.unreduced_product-4.ensures.product i) % g.M.Modulus.P))
