use Rattle.p3_air.proofs.handles.constraints.Constraints.list.Goals as goal

pub returns-in-Ok-clause-listed : goal.returns-in-Ok-clause-listed
returns-in-Ok-clause-listed c = let l = c.in-Ok.listing.listed in λ none. (none, (l.shown.items, rw (c.into_steps.ensures, ← c.in-Ok.ensures) l.told))
