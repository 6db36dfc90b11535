use Rattle.std.proofs.Common.{[], inr, arith}
use Rattle.std.proofs.lemmas.Result.{err_from_is_err_and}
use Rattle.test_airs.specs.Differing.{differing_asserts}
use Rattle.test_airs.proofs.DifferingParts.{on_ok, on_err, if_err, always}
use Rattle.test_airs.proofs.differing.assert_differing.Goals as goal

pub returns-in_err-row : goal.returns-in_err-row
returns-in_err-row g c =
    let laws = g.met.AB.AirBuilder.laws in
    let p = err_from_is_err_and c.from_residual.result c.from_residual.ensures.1 in
    rw (p.1, p.2)
    (record {
      asserted = record {
        keeps = laws.by_growth _ _ [] c.in_err-row.ensures.keeps;
        ok = tt;
        err = record { count = 0; within = omega arith; beginning = c.in_err-row.ensures.keeps };
        refused = inr c.in_err-row.ensures.refused;
      };
      there = tt;
    })

pub returns : goal.returns
returns g c =
    let laws = g.met.AB.AirBuilder.laws in
    let all = differing_asserts g.AB.F.Field.ONE in
    let before = c.in_ok-row.ensures.keeps in
    let then = c.assert_row in
    record {
      asserted = record {
        keeps = laws.kept_joined _ _ _ (laws.by_growth _ _ [] before) then.ensures.keeps;
        ok = on_ok then.result (λ h. laws.joined _ _ _ [] all before h) then.ensures.ok;
        err = on_err then.result
            (λ h. record { count = h.count; within = h.within; beginning = laws.joined _ _ _ [] _ before h.beginning })
            then.ensures.err;
        refused = if_err then.result (λ e h. inr (laws.refuses_then _ _ e [] all before h)) then.ensures.refused;
      };
      there = always then.result c.in_ok-row.ensures.there;
    }
