use Rattle.std.proofs.Common.{ℕ, ◌+◌, get_or, set, sym, ap, subst, ◌∙◌}
use Rattle.air_print.specs.Names.{one_if_is}
use Rattle.air_print.specs.Counts.{AreCounted}
use Rattle.air_print.specs.declared.counts.Places.TheVariants.{Nowhere}
use Rattle.air_print.proofs.CountLemmas.{place-counted}
use Rattle.air_print.proofs.counts.count_place.Goals as goal

pub returns : goal.returns
returns g c =
    let counts = c.args.counts.now in
    let is = c.number-number.ensures in
    λ (f : ℕ → ℕ) h.
    subst (λ n. AreCounted (λ i. f i + one_if_is i c.args.x) (set counts n c.one_more.result)) (sym is)
    (place-counted f counts c.args.x c.one_more.result c.requires
    (λ n e. c.one_more.ensures n (ap (λ k. get_or counts k Nowhere) is ∙ e)) h)
