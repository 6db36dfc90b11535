use Rattle.std.proofs.Common.{length, ap, ◌∙◌, subst}
use Rattle.json.specs.Json.{parse_map, items, value}
use Rattle.serde_json.specs.Data.{array}
use Rattle.serde_json.specs.Read.{of_json, of_items, converted}
use Rattle.air_object.specs.Begun.{IsBegun}
use Rattle.air_object.proofs.PartLemmas.{lists_of_array}
use Rattle.air_object.proofs.parts.read_constraints.Goals as goal

pub returns-in-Array-clause-ok : goal.returns-in-Array-clause-ok
returns-in-Array-clause-ok g c =
    lists_of_array g.F.PrimeField64.residues c.read_lists.result (converted of_json (value c.args.depth c.args.reader.now)) (converted of_items (items (value c.in-Array.inside) (length c.read_beginning.new.reader) c.read_beginning.new.reader)) c.read_lists.new.reader (subst (IsBegun c.args.depth c.args.reader.now c.read_beginning.new.reader) c.in-Array.is c.in_ok-inside.ensures.ok) c.read_lists.ensures.ok

pub returns-in-Array-clause-err : goal.returns-in-Array-clause-err
returns-in-Array-clause-err g c refused = (subst (IsBegun c.args.depth c.args.reader.now c.read_beginning.new.reader) c.in-Array.is c.in_ok-inside.ensures.ok) ∙ ap (parse_map array) (c.read_lists.ensures.err refused)
