use Rattle.air_field.specs.laws.Residues.{none_taken, one_taken}
use Rattle.air_field.proofs.fields.residue.Residue.reduced_once.Goals.{then-n-p, else-n-p}
use Rattle.air_field.proofs.fields.residue.Residue.reduced_once.Goals as goal

pub returns : goal.returns
returns g c =
    elim c.if-n-p.branch [
      | then-n-p w ↦ none_taken g.M.Modulus.P c.P-p.result c.args.n _ c.P-p.ensures w.if-n-p.true w.residue-is
      | else-n-p w ↦ one_taken g.M.Modulus.P c.P-p.result c.args.n _ c.P-p.ensures w.if-n-p.false c.requires w.residue-is
    ]
