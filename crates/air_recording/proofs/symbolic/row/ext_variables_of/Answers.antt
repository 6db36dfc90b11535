use Rattle.std.proofs.Common.{◌≡◌, ◌+◌, ◌++◌, ◌∷◌, [], sym, subst, arith}
use Rattle.std.proofs.lemmas.Grind.{common_steps}
use Rattle.air_recording.specs.Rows.{IsExtRowOf}
use Rattle.air_recording.proofs.ExtRows.{ext_row_more}
use Rattle.air_recording.proofs.symbolic.row.ext_variables_of.Goals as goal

pub loop-i-preserved : goal.loop-i-preserved
loop-i-preserved g c =
    let e : c.push.new.self.items ≡ c.loop-i.row.items ++ c.new.result ∷ [] = grind (arith, common_steps) in
    subst (λ l. IsExtRowOf c.args.entry (c.loop-i.i + 1) l) (sym e) (ext_row_more c.args.entry c.loop-i.i c.loop-i.row.items c.new.result c.loop-i.invariant c.new.ensures.entry c.new.ensures.index)
