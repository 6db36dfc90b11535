use Rattle.std.proofs.Common.{Some, refl, ap, sym, ◌∙◌, inl}
use Rattle.std.proofs.lemmas.Option.{slice_get_within}
use Rattle.air_symbolic.specs.Nodes.{tree_of}
use Rattle.air_symbolic.specs.Numbering.{with_degree}
use Rattle.air_symbolic.proofs.StatedDegrees.{unfold-with_degree, own-degree}
use Rattle.air_symbolic.proofs.Tables.{pool-seen, IsNode-seen, Grown-push-seen, list-pushed, tree-pushed, number-pushed}
use Rattle.air_symbolic.proofs.pools.pool.ExprPool.insert.Goals as goal

pub returns-in-Some-clause-made : goal.returns-in-Some-clause-made
returns-in-Some-clause-made g c =
    let p = c.args.self.now in
    let table = c.self.inside in
    let i = c.in-Some.number in
    let d = c.in-Some.ensures.0 in
    let node = with_degree c.args.node d in
    let known = IsNode-seen (g.A.SymLeaf.reads p.base) p table.base table.nodes i node c.self.view_is (pool-seen g.A.SymLeaf.reads p _ _ c.self.view_is c.self.invariant c.requires.owed).nodes c.in-Some.ensures.1 in
    rw c.new.ensures record { here = slice_get_within p.nodes i node known.node; tree = known.tree ∙ unfold-with_degree (tree_of p.nodes) c.args.node d }

pub invariant_of-self-in-None : goal.invariant_of-self-in-None
invariant_of-self-in-None g c =
    let p = c.args.self.now in
    list-pushed g.met.A.SymLeaf.leaf_laws p c.self.inside.base c.self.inside.nodes c.self.view_is
    c.push.new.self c.args.node c.in_ok-number-in-None.ensures.pushed c.requires.fits (λ i e. let own = own-degree c.args.node in c.in-None.ensures i own.0 (e ∙ ap (λ n. Some n) (sym own.1)))
    (pool-seen g.A.SymLeaf.reads p _ _ c.self.view_is c.self.invariant c.requires.owed)

pub returns-in_ok-number-in-None-clause-grown : goal.returns-in_ok-number-in-None-clause-grown
returns-in_ok-number-in-None-clause-grown g c =
    Grown-push-seen g.met.A.SymLeaf.leaf_laws c.args.self.now c.self.inside.base c.self.inside.nodes c.self.view_is
    c.push.new.self c.args.node c.in_ok-number-in-None.ensures.pushed c.requires.fits (λ i e. let own = own-degree c.args.node in c.in-None.ensures i own.0 (e ∙ ap (λ n. Some n) (sym own.1)))

-- a node's operands are older than the node
pub number_of-requires : goal.number_of-requires
number_of-requires g c =
    let p = c.args.self.now in
    let table = c.self.inside in
    record {
      older = λ i n e. (IsNode-seen (g.A.SymLeaf.reads p.base) p table.base table.nodes i n c.self.view_is (pool-seen g.A.SymLeaf.reads p _ _ c.self.view_is c.self.invariant c.requires.owed).nodes e).below;
    }

pub returns-in_ok-number-in-None-clause-made : goal.returns-in_ok-number-in-None-clause-made
returns-in_ok-number-in-None-clause-made g c =
    tree-pushed g.met.A.SymLeaf.leaf_laws c.args.self.now c.self.inside.base c.self.inside.nodes c.self.view_is
    c.push.new.self c.args.node c.new-in-None.result c.in_ok-number-in-None.ensures.pushed (c.new-in-None.ensures ∙ c.in_ok-number-in-None.ensures.numbered)

pub returns-in-Some-clause-numbered : goal.returns-in-Some-clause-numbered
returns-in-Some-clause-numbered g c =
    let p = c.args.self.now in
    let table = c.self.inside in
    let i = c.in-Some.number in
    let node = with_degree c.args.node c.in-Some.ensures.0 in
    let known = IsNode-seen (g.A.SymLeaf.reads p.base) p table.base table.nodes i node c.self.view_is (pool-seen g.A.SymLeaf.reads p _ _ c.self.view_is c.self.invariant c.requires.owed).nodes c.in-Some.ensures.1 in
    rw c.new.ensures (inl (slice_get_within p.nodes i node known.node, refl))

pub returns-in_ok-number-in-None-clause-numbered : goal.returns-in_ok-number-in-None-clause-numbered
returns-in_ok-number-in-None-clause-numbered g c =
    number-pushed c.args.self.now c.self.inside.base c.self.inside.nodes c.self.view_is
    c.push.new.self c.args.node c.new-in-None.result c.in_ok-number-in-None.ensures.pushed (c.new-in-None.ensures ∙ c.in_ok-number-in-None.ensures.numbered)
