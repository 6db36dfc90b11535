use Rattle.air_object.proofs.PartLemmas.{root_more}
use Rattle.air_object.proofs.parts.read_list.Goals as goal

pub returns-clause-ok : goal.returns-clause-ok
returns-clause-ok g c =
    let found = c.in_ok-root.ensures.ok in
    (found.0, found.1, λ given ds h. root_more g.F.PrimeField64.residues c.args.constraints (record { pool = c.read_root.new.pool; roots = c.with_root-roots.result }) c.in_ok-root.root found.0 given ds found.2 found.3 c.with_root-roots.ensures h)
