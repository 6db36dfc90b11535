use Rattle.serde_json.specs.View.{view}
use Rattle.air_json.specs.BaseLeaves.{element_at}
use Rattle.air_object.proofs.PartLemmas.{gives_ok, gives_err, still_fails}
use Rattle.air_object.proofs.elements.with_element.Goals as goal

pub returns-in-Ok : goal.returns-in-Ok
returns-in-Ok g c given h =
    let known = gives_ok _ c.args.before c.in-Ok.before given c.in-Ok.is h in
    rw known c.push_element.ensures

pub returns-in-Err : goal.returns-in-Err
returns-in-Err g c given h = still_fails (element_at g.F.PrimeField64.residues 0) c.in-Err.fault given (view c.args.item.now) (gives_err _ c.args.before c.in-Err.fault given c.in-Err.is h)
