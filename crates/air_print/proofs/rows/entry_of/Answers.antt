use Rattle.std.proofs.Common.{sym, ◌∙◌}
use Rattle.air_print.proofs.ExplainedPieces.{entry-none}
use Rattle.air_print.proofs.rows.entry_of.Goals as goal

pub returns-in-None : goal.returns-in-None
returns-in-None g c = c.ZERO.ensures ∙ g.met.F.Field.zero_is ∙ entry-none c.args.table.now.rows c.args.row c.args.column g.F.Field.ring.zero (sym c.get.ensures ∙ c.in-None.is)
