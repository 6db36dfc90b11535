use Rattle.std.proofs.Common.{◌≡◌, drop}
use Rattle.air_symbolic.specs.Numbering.{number_in}
use Rattle.air_symbolic.proofs.pools.kind_table.KindTable.find.Given as goal

-- the runs so far don't have the key
abbrev pub invariant-loop-run : goal.invariant-loop-run
invariant-loop-run g l = number_in g.K.Ord.cmp l.self.runs.items l.self.rest l.key ≡ number_in g.K.Ord.cmp (drop l.run-index l.self.runs.items) l.self.rest l.key
