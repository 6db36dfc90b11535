use Rattle.std.proofs.Common.{List, Result, ℕ, length, sym, subst}
use Rattle.air_json.specs.ListReaders.{HasRead, IsNumbered}
use Rattle.air_json.specs.Unshared.{seen_at}
use Rattle.air_json.specs.declared.errors.FlatError.{FlatError}
use Rattle.air_json.proofs.lists.ListReader.read_node.Goals as goal

pub returns-clause-read : goal.returns-clause-read
returns-clause-read g c ds h =
    let A = g.A.WireLeaf in
    c.fault_after-self-inside.ensures.read ds (subst (λ (r : Result (List ℕ) FlatError). HasRead A.kind (seen_at A.seen) c.args.pool.now ds r) (sym c.self.view_is) h)

pub returns-clause-numbered : goal.returns-clause-numbered
returns-clause-numbered g c n h =
    c.fault_after-self-inside.ensures.numbered n (subst (λ (r : Result (List ℕ) FlatError). IsNumbered n r (length c.args.pool.now.nodes)) (sym c.self.view_is) h)

pub returns-clause-pool : goal.returns-clause-pool
returns-clause-pool g c = c.fault_after-self-inside.ensures.grown.pool c.nodes_fit.ensures
