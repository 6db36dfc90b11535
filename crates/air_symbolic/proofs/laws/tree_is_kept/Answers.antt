use Rattle.air_symbolic.specs.laws.Pools.{tree-kept, term-kept}
use Rattle.air_symbolic.proofs.laws.tree_is_kept.Goals as goal

pub returns : goal.returns
returns g c =
    let r = g.A.F.Field.ring in
    let reads = g.A.SymLeaf.reads in
    let grows = g.A.SymLeaf.grows in
    let empty = g.A.SymLeaf.empty_base in
    let laws = g.met.A.SymLeaf.leaf_laws in
    let p = c.args.pool.now in
    let i = c.args._x in
    record {
      tree = λ q h. tree-kept r reads grows empty laws p q i h c.requires.here;
      term = λ q h. term-kept r reads grows empty laws p q i h record { pool = c.nodes_fit.ensures; here = c.requires.here };
    }
