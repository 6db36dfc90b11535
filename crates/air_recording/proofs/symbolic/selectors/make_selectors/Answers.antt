use Rattle.air_field.specs.Term.{first_row, last_row, leaf_term}
use Rattle.std.proofs.Common.{ℕ, Option, ◌∙◌}
use Rattle.air_field.specs.Ring.{CommRing}
use Rattle.air_symbolic.specs.Trees.{Tree}
use Rattle.air_symbolic.specs.Pools.{Pool, HasTree, Grown}
use Rattle.air_symbolic.specs.BaseLeaves.{base_reads, base_grows}
use Rattle.air_symbolic.specs.laws.BaseLeaves.{base_leaf_laws}
use Rattle.air_symbolic.specs.laws.Pools.{here-kept, tree-kept}
use Rattle.air_symbolic.specs.laws.BasePool.{base_pool_laws}
use Rattle.air_symbolic.specs.declared.leaves.base_leaf.BaseLeaf.{BaseLeaf}
use Rattle.air_recording.proofs.symbolic.selectors.make_selectors.Goals as goal

-- a number keeps its tree
kept : {F : Type 0} (r : CommRing F) (p q : Pool (Unit {0}) (BaseLeaf F)) (t : Option (Tree (BaseLeaf F))) (i : ℕ) → Grown base_grows base_reads p q → HasTree p t i → HasTree q t i
kept r p q t i g h = record {
  here = here-kept r base_reads base_grows tt (base_leaf_laws r) p q i g h.here;
  tree = tree-kept r base_reads base_grows tt (base_leaf_laws r) p q i g h.here ∙ h.tree;
}

pub returns-clause-leaves : goal.returns-clause-leaves
returns-clause-leaves g c =
    let r = g.F.Field.ring in
    record {
      first = kept r c.leaf_expr-2.new.self c.leaf_expr-3.new.self _ c.in_ok-is_first_row.is_first_row c.leaf_expr-3.ensures.grown (kept r c.leaf_expr.new.self c.leaf_expr-2.new.self _ c.in_ok-is_first_row.is_first_row c.leaf_expr-2.ensures.grown c.in_ok-is_first_row.ensures.tree);
      last = kept r c.leaf_expr-2.new.self c.leaf_expr-3.new.self _ c.in_ok-is_last_row.is_last_row c.leaf_expr-3.ensures.grown c.in_ok-is_last_row.ensures.tree;
      step = c.in_ok-is_transition.ensures.tree;
    }

pub returns-clause-mean : goal.returns-clause-mean
returns-clause-mean g c =
    let laws = base_pool_laws g.F.Field.ring in
    let p = c.leaf_expr.new.self in
    let q = c.leaf_expr-2.new.self in
    let r = c.leaf_expr-3.new.self in
    record {
      first = laws.means_stays p r c.in_ok-is_first_row.is_first_row (leaf_term first_row) (laws.joined p q r c.leaf_expr-2.ensures.grown c.leaf_expr-3.ensures.grown) c.in_ok-is_first_row.ensures.made.1;
      last = laws.means_stays q r c.in_ok-is_last_row.is_last_row (leaf_term last_row) c.leaf_expr-3.ensures.grown c.in_ok-is_last_row.ensures.made.1;
      step = c.in_ok-is_transition.ensures.made.1;
    }

pub returns-in_err-is_last_row-clause-grown : goal.returns-in_err-is_last_row-clause-grown
returns-in_err-is_last_row-clause-grown g c =
    (base_pool_laws g.F.Field.ring).joined c.args.pool.now c.leaf_expr.new.self c.leaf_expr-2.new.self c.leaf_expr.ensures.grown c.leaf_expr-2.ensures.grown

-- three growths in sequence
thrice : {F : Type 0} (r : CommRing F) (o p q s : Pool (Unit {0}) (BaseLeaf F)) → Grown base_grows base_reads o p → Grown base_grows base_reads p q → Grown base_grows base_reads q s → Grown base_grows base_reads o s
thrice r o p q s f g h =
    let laws = base_pool_laws r in
    laws.joined o q s (laws.joined o p q f g) h

pub returns-in_err-is_transition-clause-grown : goal.returns-in_err-is_transition-clause-grown
returns-in_err-is_transition-clause-grown g c = thrice g.F.Field.ring _ _ _ _ c.leaf_expr.ensures.grown c.leaf_expr-2.ensures.grown c.leaf_expr-3.ensures.grown

pub returns-clause-grown : goal.returns-clause-grown
returns-clause-grown g c = thrice g.F.Field.ring _ _ _ _ c.leaf_expr.ensures.grown c.leaf_expr-2.ensures.grown c.leaf_expr-3.ensures.grown
