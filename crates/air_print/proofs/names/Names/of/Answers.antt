use Rattle.std.proofs.Common.{◌≡◌, ℕ, List, Option, length, sym, subst, ◌∙◌}
use Rattle.air_symbolic.specs.Reach.{Reached}
use Rattle.air_print.specs.Names.{count_of_places, is_named}
use Rattle.air_print.specs.Counts.{AreCounted, passes}
use Rattle.air_print.specs.declared.counts.Places.{Places}
use Rattle.air_print.proofs.NameLemmas.{if_both, passes-is, passing_below-same, name_by-same}
use Rattle.air_print.proofs.names.Names.of.Goals as goal

pub returns : goal.returns
returns g c =
    let l = g.A.SymLeaf.reads c.args.pool.now.base in
    let ns = c.args.pool.now.nodes in
    let roots = c.args.roots.now in
    let marks = c.deref-2.result.now in
    let counts = c.deref-3.result.now in
    let reach : Reached l ns roots marks =
    subst (λ (ms : List (Option ℕ)). Reached l ns roots ms) (sym c.deref-2.ensures.value) c.in-Ok.ensures.marked in
    let places : length counts ≡ length ns =
    subst (λ (cs : List Places). length cs ≡ length ns) (sym c.deref-3.ensures.value) c.in_ok-counts.ensures.places in
    let first : AreCounted (count_of_places ns roots marks) c.in_ok-counts.counts.items =
    subst (λ (ms : List (Option ℕ)). AreCounted (count_of_places ns roots ms) c.in_ok-counts.counts.items) (c.deref.ensures.value ∙ sym c.deref-2.ensures.value) c.in_ok-counts.ensures.counted in
    let counted : AreCounted (count_of_places ns roots marks) counts =
    subst (λ (cs : List Places). AreCounted (count_of_places ns roots marks) cs) (sym c.deref-3.ensures.value) first in
    let same = passes-is ns marks counts roots reach.places places counted in
    if_both _ _ _ c.give_names.result
    (λ n p q. record {
      marks = marks;
      reached = reach;
      named = p ∙ passing_below-same (passes ns marks counts) (is_named ns roots marks) same (length ns);
      each = λ i. q i ∙ name_by-same (passes ns marks counts) (is_named ns roots marks) same i;
    })
    c.give_names.ensures.named c.give_names.ensures.each
