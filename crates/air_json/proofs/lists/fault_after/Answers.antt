use Rattle.std.proofs.Common.{Option, Ok, Err, length, subst}
use Rattle.serde_json.specs.View.{view}
use Rattle.air_json.specs.ListReaders.{numbers_or, HasRead, IsNumbered}
use Rattle.air_json.specs.Unshared.{seen_at}
use Rattle.air_json.specs.declared.errors.FlatError.{FlatError}
use Rattle.air_json.proofs.ListReading.{still_read, read_on}
use Rattle.air_json.proofs.lists.fault_after.Goals as goal

pub returns-in-Some-clause-read : goal.returns-in-Some-clause-read
returns-in-Some-clause-read g c ds h =
    let A = g.A.WireLeaf in
    still_read A.kind g.met.A.WireLeaf.kind_laws (seen_at A.seen) c.args.pool.now c.args.pool.now ds (view c.args.value.now) c.in-Some.fault
    (subst (λ (o : Option FlatError). HasRead A.kind (seen_at A.seen) c.args.pool.now ds (numbers_or c.args.ids.now.items o)) c.in-Some.is h)

pub returns-in-Ok-clause-read : goal.returns-in-Ok-clause-read
returns-in-Ok-clause-read g c ds h =
    let A = g.A.WireLeaf in
    read_on A.kind g.met.A.WireLeaf.kind_laws (seen_at A.seen) c.args.pool.now c.push_node.new.pool ds (view c.args.value.now) c.args.ids.now.items (Ok c.push_node.new.ids.items) c.in-Ok.ensures.read.here c.in-Ok.ensures.read.read
    (subst (λ (o : Option FlatError). HasRead A.kind (seen_at A.seen) c.args.pool.now ds (numbers_or c.args.ids.now.items o)) c.in-None.is h)

pub returns-in-Err-clause-read : goal.returns-in-Err-clause-read
returns-in-Err-clause-read g c ds h =
    let A = g.A.WireLeaf in
    read_on A.kind g.met.A.WireLeaf.kind_laws (seen_at A.seen) c.args.pool.now c.push_node.new.pool ds (view c.args.value.now) c.args.ids.now.items (Err c.in-Err.fault) tt c.in-Err.ensures.read.read
    (subst (λ (o : Option FlatError). HasRead A.kind (seen_at A.seen) c.args.pool.now ds (numbers_or c.args.ids.now.items o)) c.in-None.is h)

pub returns-in-Ok-clause-numbered : goal.returns-in-Ok-clause-numbered
returns-in-Ok-clause-numbered g c n h =
    c.in-Ok.ensures.numbered n (subst (λ (o : Option FlatError). IsNumbered n (numbers_or c.args.ids.now.items o) (length c.args.pool.now.nodes)) c.in-None.is h)
