use Rattle.std.proofs.Common.{◌∙◌, Bor, List, ℕ, length, map, ap, sym, inl, inr}
use Rattle.std.proofs.lemmas.List.{length-map}
use Rattle.std.proofs.lemmas.Result.{IfOk-weaker, IfErr-weaker}
use Rattle.test_lines.specs.Words.{IsNumber, SpellsElement}
use Rattle.test_lines.specs.Listed.{coefficients_listed}
use Rattle.test_lines.proofs.Lists.{AllZip-read, not-all-read}
use Rattle.test_lines.proofs.words.listed_extension.Goals as goal

pub returns-clause-coefficients : goal.returns-clause-coefficients
returns-clause-coefficients g c =
    let parts = ap (λ (ps : List (Bor (List ℕ))). map (λ (p : Bor (List ℕ)). p.now) ps) c.as_slice.ensures.value ∙ c.in_ok-parts.ensures.parts in
    IfOk-weaker c.extension_of.result _ _
    (λ x h. AllZip-read (SpellsElement g.F.Field.ring) (λ (p : Bor (List ℕ)). p.now) (g.EF.ExtensionField.basis.coefficients x) c.as_slice.result.now (coefficients_listed c.args.word.now) parts h)
    c.extension_of.ensures.coefficients

pub returns-clause-refused : goal.returns-clause-refused
returns-clause-refused g c =
    let parts = ap (λ (ps : List (Bor (List ℕ))). map (λ (p : Bor (List ℕ)). p.now) ps) c.as_slice.ensures.value ∙ c.in_ok-parts.ensures.parts in
    let same = sym (length-map c.as_slice.result.now (λ (p : Bor (List ℕ)). p.now)) ∙ ap (λ (ws : List (List ℕ)). length ws) parts in
    IfErr-weaker c.extension_of.result _ _
    (λ e h. elim h [
      | inl m ↦ inl m
      | inr n ↦ inr (elim n [
        | inl k ↦ inl (k.0, not-all-read IsNumber (λ (p : Bor (List ℕ)). p.now) c.as_slice.result.now (coefficients_listed c.args.word.now) parts k.1)
        | inr k ↦ inr (k.0, λ z. k.1 (same ∙ z))
      ])
    ])
    c.extension_of.ensures.refused
