use Rattle.std.proofs.Common.{length, ap, ◌∙◌, subst}
use Rattle.json.specs.Json.{parse_map, items, value}
use Rattle.serde_json.specs.Data.{array}
use Rattle.serde_json.specs.Read.{of_json, of_items, converted}
use Rattle.air_object.specs.Begun.{IsBegun}
use Rattle.air_object.proofs.PartLemmas.{root_of_array}
use Rattle.air_object.proofs.parts.read_root.Goals as goal

pub returns-in-Array-clause-ok : goal.returns-in-Array-clause-ok
returns-in-Array-clause-ok g c =
    root_of_array g.F.PrimeField64.residues c.args.pool.now c.read_nodes.new.pool c.read_nodes.result (converted of_json (value c.args.depth c.args.reader.now)) (converted of_items (items (value c.in-Array.inside) (length c.read_beginning.new.reader) c.read_beginning.new.reader)) c.read_nodes.new.reader (subst (IsBegun c.args.depth c.args.reader.now c.read_beginning.new.reader) c.in-Array.is c.in_ok-inside.ensures.ok) c.read_nodes.ensures.ok

pub returns-in-Array-clause-err : goal.returns-in-Array-clause-err
returns-in-Array-clause-err g c refused = (subst (IsBegun c.args.depth c.args.reader.now c.read_beginning.new.reader) c.in-Array.is c.in_ok-inside.ensures.ok) ∙ ap (parse_map array) (c.read_nodes.ensures.err refused)
