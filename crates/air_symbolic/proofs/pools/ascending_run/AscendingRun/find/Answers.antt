use Rattle.std.proofs.Common.{rules, Ok, Err, Some, refl, sym, ap, ◌∙◌}
use Rattle.std.specs.BTreeMap.{is_at}
use Rattle.std.specs.Map.{lookup}
use Rattle.std.proofs.lemmas.Fn.{always_returns_same}
use Rattle.air_symbolic.proofs.Runs.{below-none, halved}
use Rattle.air_symbolic.proofs.pools.ascending_run.AscendingRun.find.Goals as goal

-- a key above all others isn't among them
pub returns-then-is_below : goal.returns-then-is_below
returns-then-is_below g c = sym (below-none g.met.K.Ord.total c.args.self.now c.args.key (c.if-is_below.ensures.0 refl))

pub returns-in-Ok : goal.returns-in-Ok
returns-in-Ok g c =
    let searched = c.in-Ok.ensures.position (λ e. g.K.Ord.cmp e.0 c.args.key) (always_returns_same _ _ _ (λ a r f called. search rules)) in
    let found = halved g.met.K.Ord.total c.self.inside.pairs.items c.args.key (Ok c.in-Ok.at) c.self.invariant (rw c.deref.ensures.value at c.in-Ok.ensures.bound) (rw c.deref.ensures.value at searched) in
    ap (λ e. Some e.1) c.index.ensures ∙ sym (found c.index.result.now) ∙ ap (lookup (is_at (g.K.Ord.cmp c.args.key))) c.self.view_is

pub returns-in-Err : goal.returns-in-Err
returns-in-Err g c =
    let searched = c.in-Err.ensures.position (λ e. g.K.Ord.cmp e.0 c.args.key) (always_returns_same _ _ _ (λ a r f called. search rules)) in
    let none = halved g.met.K.Ord.total c.self.inside.pairs.items c.args.key (Err c.in-Err.field-0) c.self.invariant (rw c.deref.ensures.value at c.in-Err.ensures.bound) (rw c.deref.ensures.value at searched) in
    sym (sym (ap (lookup (is_at (g.K.Ord.cmp c.args.key))) c.self.view_is) ∙ none)
