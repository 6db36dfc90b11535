use Rattle.std.proofs.Common.{refl, Ok, Some}
use Rattle.serde_json.specs.View.{view}
use Rattle.air_symbolic.specs.Pools.{on_base, tree_at}
use Rattle.air_symbolic.specs.Trees.{leaf_tree}
use Rattle.air_symbolic.specs.laws.Pools.{Grown-trans}
use Rattle.air_json.specs.Faults.{ring_fault}
use Rattle.air_json.specs.Results.{◌>>=◌}
use Rattle.air_json.specs.laws.ReadCalls.{gives_up}
use Rattle.air_json.proofs.Growing.{lent_grown}
use Rattle.air_json.proofs.Loop.{carry}
use Rattle.air_json.proofs.SeenTrees.{leaf_seen}
use Rattle.air_json.proofs.nodes.leaf_from.Goals as goal

pub returns-in_err-leaf : goal.returns-in_err-leaf
returns-in_err-leaf g c =
    gives_up c.in_err-leaf.field-0.0
    (lent_grown _ g.A.SymLeaf.reads g.A.SymLeaf.grows _ g.met.A.SymLeaf.leaf_laws c.args.pool.now c.base_mut.result.now c.leaf_from_value.new.base c.base_mut.ensures.value c.leaf_from_value.ensures.grown)
    c.from_residual.ensures.1
    (carry _ (g.A.WireLeaf.kind.leaf_at c.args.at (view c.args.contents.now) >>= λ a. Ok (leaf_tree a)) (λ t. Ok (Some t)) _ refl
    (carry _ (g.A.WireLeaf.kind.leaf_at c.args.at (view c.args.contents.now)) (λ a. Ok (leaf_tree a)) _ refl c.in_err-leaf.ensures.read))

pub leaf-requires-clause-owed : goal.leaf-requires-clause-owed
leaf-requires-clause-owed g c u h =
    (lent_grown _ g.A.SymLeaf.reads g.A.SymLeaf.grows _ g.met.A.SymLeaf.leaf_laws c.args.pool.now c.base_mut.result.now c.leaf_from_value.new.base c.base_mut.ensures.value c.leaf_from_value.ensures.grown).pool c.requires

pub returns-in_err-leaf-2 : goal.returns-in_err-leaf-2
returns-in_err-leaf-2 g c =
    gives_up (ring_fault c.in_err-leaf-2.field-0.0)
    (Grown-trans _ g.A.SymLeaf.reads g.A.SymLeaf.grows _ g.met.A.SymLeaf.leaf_laws c.args.pool.now (on_base c.args.pool.now c.leaf_from_value.new.base) c.leaf.new.self
    (lent_grown _ g.A.SymLeaf.reads g.A.SymLeaf.grows _ g.met.A.SymLeaf.leaf_laws c.args.pool.now c.base_mut.result.now c.leaf_from_value.new.base c.base_mut.ensures.value c.leaf_from_value.ensures.grown)
    c.leaf.ensures.grown)
    c.from_residual-in_err-leaf-2.ensures.1
    (rw c.in_err-leaf-2.ensures.refused tt)

pub returns : goal.returns
returns g c =
    let A = g.A.WireLeaf in
    record {
      grown =
          Grown-trans _ g.A.SymLeaf.reads g.A.SymLeaf.grows _ g.met.A.SymLeaf.leaf_laws c.args.pool.now (on_base c.args.pool.now c.leaf_from_value.new.base) c.leaf.new.self
          (lent_grown _ g.A.SymLeaf.reads g.A.SymLeaf.grows _ g.met.A.SymLeaf.leaf_laws c.args.pool.now c.base_mut.result.now c.leaf_from_value.new.base c.base_mut.ensures.value c.leaf_from_value.ensures.grown)
          c.leaf.ensures.grown;
      here = c.in_ok-leaf-2.ensures.made.here;
      numbered = c.in_ok-leaf-2.ensures.numbered;
      read = leaf_seen A.seen c.leaf_from_value.new.base c.leaf.new.self.base c.in_ok-leaf.leaf (tree_at c.leaf.new.self c.in_ok-leaf-2.field-0) (A.kind.leaf_at c.args.at (view c.args.contents.now)) c.leaf.ensures.same_base c.in_ok-leaf-2.ensures.made.tree c.in_ok-leaf.ensures.read;
    }
