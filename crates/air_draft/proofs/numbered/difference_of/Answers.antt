use Rattle.std.proofs.lemmas.Result.{err_from_is_err_and}
use Rattle.air_field.specs.Part.{whole, in_sub_left, in_sub_right}
use Rattle.air_draft.proofs.numbered.difference_of.Goals as goal

pub returns-in_err-left-clause-refused : goal.returns-in_err-left-clause-refused
returns-in_err-left-clause-refused g c =
    let p = err_from_is_err_and c.from_residual.result c.from_residual.ensures.1 in
    rw (p.1, p.2) (λ ts all. c.in_err-left.ensures.refused ts _ all (in_sub_left whole) (in_sub_right whole))
