use Rattle.std.proofs.Common.{◌∙◌, Bor, List, ℕ, map, ap, inl, inr}
use Rattle.std.proofs.lemmas.Result.{IfOk-weaker, IfErr-weaker}
use Rattle.test_lines.specs.Words.{IsNumber, SpellsElement}
use Rattle.test_lines.specs.Listed.{comma_parts}
use Rattle.test_lines.proofs.Lists.{AllZip-read, not-all-read}
use Rattle.test_lines.proofs.words.listed_elements.Goals as goal

pub returns-clause-elements : goal.returns-clause-elements
returns-clause-elements g c =
    let parts = ap (λ (ps : List (Bor (List ℕ))). map (λ (p : Bor (List ℕ)). p.now) ps) c.as_slice.ensures.value ∙ c.in_ok-parts.ensures.parts in
    IfOk-weaker c.elements_of.result _ _
    (λ xs h. AllZip-read (SpellsElement g.F.Field.ring) (λ (p : Bor (List ℕ)). p.now) xs.items c.as_slice.result.now (comma_parts c.args.word.now) parts h)
    c.elements_of.ensures.elements

pub returns-clause-refused : goal.returns-clause-refused
returns-clause-refused g c =
    let parts = ap (λ (ps : List (Bor (List ℕ))). map (λ (p : Bor (List ℕ)). p.now) ps) c.as_slice.ensures.value ∙ c.in_ok-parts.ensures.parts in
    IfErr-weaker c.elements_of.result _ _
    (λ e h. elim h [
      | inl m ↦ inl m
      | inr n ↦ inr (n.0, not-all-read IsNumber (λ (p : Bor (List ℕ)). p.now) c.as_slice.result.now (comma_parts c.args.word.now) parts n.1)
    ])
    c.elements_of.ensures.refused
