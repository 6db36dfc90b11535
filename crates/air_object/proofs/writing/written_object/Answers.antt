use Rattle.std.proofs.Common.{Some, None}
use Rattle.serde_json.specs.View.{view}
use Rattle.air_object.specs.laws.Writing.{object_field, parts_spell, table_parts_spell}
use Rattle.air_object.proofs.writing.written_object.Goals as goal

pub returns-in_ok-without_table-in-None-clause-written : goal.returns-in_ok-without_table-in-None-clause-written
returns-in_ok-without_table-in-None-clause-written g c =
    let d = c.in_ok-named.ensures in
    rw (c.in_ok-without_table-in-None.ensures, d.boundary, d.cap, d.labels, d.main, d.width, d.periodic, d.public_values, d.weight)
    (parts_spell g.F.PrimeField64.residues c.args.parts.now c.requires.labels (view c.in_ok-named.named.constraints) c.in_ok-named.named.field.now c.in-None.is d.constraints)

pub returns-in_ok-with_table-in-Some-clause-written : goal.returns-in_ok-with_table-in-Some-clause-written
returns-in_ok-with_table-in-Some-clause-written g c =
    let d = c.in_ok-named.ensures in
    rw (c.in_ok-with_table-in-Some.ensures, c.in_ok-values-in-Some.ensures, d.boundary, d.cap, d.labels, d.main, d.width, d.periodic, d.public_values, d.weight)
    (table_parts_spell g.F.PrimeField64.residues c.args.parts.now c.requires.labels (view c.in_ok-named.named.constraints) c.in_ok-named.named.field.now c.in-Some.table c.in-Some.is d.constraints)

pub returns-in_ok-without_table-in-None-clause-field : goal.returns-in_ok-without_table-in-None-clause-field
returns-in_ok-without_table-in-None-clause-field g c =
    let d = c.in_ok-named.named in
    rw c.in_ok-without_table-in-None.ensures (object_field (view d.boundary) (view d.cap) (view d.constraints) d.field.now (view d.labels) (view d.main) d.main_width (view d.periodic) None (view d.public_values) d.transition_weight c.args.field c.in_ok-named.ensures.field)

pub returns-in_ok-with_table-in-Some-clause-field : goal.returns-in_ok-with_table-in-Some-clause-field
returns-in_ok-with_table-in-Some-clause-field g c =
    let d = c.in_ok-named.named in
    rw c.in_ok-with_table-in-Some.ensures (object_field (view d.boundary) (view d.cap) (view d.constraints) d.field.now (view d.labels) (view d.main) d.main_width (view d.periodic) (Some (c.in-Some.table.width, view c.in_ok-values-in-Some.values)) (view d.public_values) d.transition_weight c.args.field c.in_ok-named.ensures.field)
