use Rattle.air_author.proofs.constraints.claims.ZeroClaim.make_claim.Goals as goal

pub returns : goal.returns
returns g c = c.make_under.ensures
