use Rattle.std.proofs.Common.{◌≡◌, Some, slice_get}
use Rattle.std.proofs.lemmas.Result.{IfOk-weaker}
use Rattle.air_draft.specs.Making.{MadeAt}
use Rattle.air_draft.proofs.NumberedTerms.{All-found, term-found}
use Rattle.air_draft.proofs.numbered.element.Goals as goal

pub returns-clause-made : goal.returns-clause-made
returns-clause-made g c =
    let A = g.R.Algebra in
    let ring = c.args.ring.now in
    let made = c.args.made.now in
    let i = c.args.number in
    IfOk-weaker c.found.result (λ z. slice_get made i ≡ Some z) (MadeAt A.has A.means ring ring made (λ at. at i))
    (λ z at. (All-found (A.has ring) made i z c.requires.all_in at, λ ts means. term-found (A.means ring) made ts i z means at))
    c.found.ensures.found
