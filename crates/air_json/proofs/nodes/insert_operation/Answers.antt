use Rattle.std.proofs.Common.{Ok, sym, ap, ◌∙◌}
use Rattle.air_symbolic.specs.Pools.{tree_at}
use Rattle.air_json.specs.Unshared.{seen_at}
use Rattle.air_json.proofs.SeenTrees.{map_leaves-negative, negative-both, seen_there}
use Rattle.air_json.proofs.nodes.insert_operation.Goals as goal

pub returns-in_ok-insert_neg-in-Neg : goal.returns-in_ok-insert_neg-in-Neg
returns-in_ok-insert_neg-in-Neg g c =
    let A = g.A.WireLeaf in
    let old = c.args.pool.now in
    let made = c.in_ok-insert_neg-in-Neg.ensures.made in
    let u = seen_there g.A.SymLeaf.reads A.seen old c.requires.pool c.args.operands.1 c.requires.right in
    record {
      grown = c.in_ok-insert_neg-in-Neg.ensures.grown;
      here = made.here;
      numbered = c.in_ok-insert_neg-in-Neg.ensures.numbered;
      read =
          rw (c.insert_neg.ensures.same_base, made.tree)
          (ap (λ o. Ok o)
          (negative-both c.args.operation (seen_at A.seen old c.args.operands.0) (seen_at A.seen old c.args.operands.1) u.0 c.in-Neg.is u.1
          ∙ sym (map_leaves-negative (A.seen old.base) (tree_at old c.args.operands.0))));
    }
