-- The labels of the failures of an AIR that asserts its list under labels.
use Rattle.std.specs.Prelude.{◌≡◌, ℕ, zero, suc, ◌+◌, List, [], ◌∷◌, ◌++◌, length, map, All, Bool, true, false, not, cond, Option}
use Rattle.std.specs.List.{AllZip, filter, enumerate_from}
use Rattle.std.proofs.Common.{sym, ◌∙◌, ap, subst}
use Rattle.std.proofs.lemmas.List.{append_cancel_left}
use Rattle.std.proofs.lemmas.List.Elements.{All-append, All-nil, All-cons}
use Rattle.air_builder.specs.Assertion.{Assertion}
use Rattle.air_builder.specs.Labels.{Label, Unasked, Shown, Labelled, LabelledBy, IsSaid, AreSaidFrom, without_labels}
use Rattle.air_report.specs.Report.{failure_place}
use Rattle.air_report.specs.Debug.{RowData, nonzero_by}
use Rattle.air_report.specs.DebugAsserts.{GrewLabelled}
use Rattle.air_report.specs.DebugLabels.{KeepsLabel, failing_labels}
use Rattle.air_report.specs.DebugRow.{debug_row}
use Rattle.air_report.specs.RowLabels.{LabelledRow, LabelledRows, KeepsName}
use Rattle.air_report.specs.declared.debug.failure.ConstraintFailure.{ConstraintFailure}

kept_name : (names : ℕ → Option (List ℕ) → Type 0) (f : ConstraintFailure) (l : Label) (k : ℕ) → f.constraint ≡ k → KeepsLabel f l → IsSaid (names k) l
    → KeepsName names f
kept_name names f Unasked k at kept said = absurd kept
kept_name names f (Shown text) k at kept said = record { text = text; said = subst (λ i. names i text) (sym at) said; kept = kept }

module _ {F : Type 0} (names : ℕ → Option (List ℕ) → Type 0) where
  -- one assertion more, which fails or doesn't
  one_more : (row k : ℕ) (l : Labelled F) (fails : Bool) (us : List (ℕ × Assertion F)) (vs : List (Labelled F)) (more : List ConstraintFailure)
      → ((fs : List ConstraintFailure) → map failure_place fs ≡ map (λ i. (row, i)) (map (λ p. p.0) us)
      → AllZip KeepsLabel fs (map (λ v. v.1) vs) → All (KeepsName names) fs)
      → map failure_place more ≡ map (λ i. (row, i)) (map (λ p. p.0) (cond fails ((k, l.0) ∷ us) us))
      → AllZip KeepsLabel more (map (λ v. v.1) (cond fails (l ∷ vs) vs)) → IsSaid (names k) l.1 → All (KeepsName names) more
  one_more row k l false us vs more rest places kept said = rest more places kept
  one_more row k l true us vs [] rest places kept said = absurd kept
  one_more row k l true us vs (f ∷ fs) rest places kept said =
      let here : failure_place f ≡ (row, k) = cc in
      let later : map failure_place fs ≡ map (λ i. (row, i)) (map (λ p. p.0) us) = cc in
      All-cons (KeepsName names) f fs (kept_name names f l.1 k (ap (λ p. p.1) here) kept.0 said) (rest fs later kept.1)

  -- the failures of labelled assertions, counted from k on
  failures_kept : (holds : Assertion F → Bool) (row k : ℕ) (ls : List (Labelled F)) (more : List ConstraintFailure)
      → map failure_place more ≡ map (λ i. (row, i)) (nonzero_by holds k (without_labels ls))
      → AllZip KeepsLabel more (failing_labels holds ls) → AreSaidFrom names k (map (λ l. l.1) ls) → All (KeepsName names) more
  failures_kept holds row k [] [] places kept said = All-nil (KeepsName names)
  failures_kept holds row k [] (f ∷ fs) places kept said = absurd kept
  failures_kept holds row k (l ∷ ls) more places kept said =
      one_more row k l (not (holds l.0)) (filter (λ p. not (holds p.1)) (enumerate_from (k + 1) (without_labels ls))) (filter (λ v. not (holds v.0)) ls) more
      (λ fs p q. failures_kept holds row (k + 1) ls fs p q said.1) places kept said.0

  module _ {E : Type 0} (holds : RowData F E → Assertion F → Bool) (ts : List (Assertion F)) where
    row_kept : (row : ℕ) (fs gs : List ConstraintFailure) → LabelledRow (λ a b. LabelledBy (GrewLabelled holds) names a b ts) row fs gs
        → All (KeepsName names) fs → All (KeepsName names) gs
    row_kept row fs gs h before =
        let ls = h.said.list in
        let d = debug_row h.before in
        let grown = h.said.grown in
        let same : grown.grew.more ≡ grown.more = append_cancel_left h.before.failures.items _ _ (sym grown.grew.failures ∙ grown.failures) in
        let places : map failure_place grown.more ≡ map (λ i. (d.row, i)) (nonzero_by (holds d) 0 (without_labels ls)) =
        ap (map failure_place) (sym same) ∙ (grown.grew.places ∙ ap (λ k. map (λ i. (d.row, i)) (nonzero_by (holds d) k (without_labels ls))) h.start) in
        let whole : gs ≡ fs ++ grown.more = sym h.has ∙ (grown.failures ∙ ap (λ v. v ++ grown.more) h.had) in
        subst (All (KeepsName names)) (sym whole)
        (All-append (KeepsName names) fs grown.more before (failures_kept (holds d) d.row 0 ls grown.more places grown.kept h.said.said))

    -- each failure of the rows keeps a text that the name at its constraint's place may display
    pub names_kept : (n : ℕ) (fs : List ConstraintFailure) → LabelledRows (λ a b. LabelledBy (GrewLabelled holds) names a b ts) n fs
        → All (KeepsName names) fs
    names_kept zero fs h = subst (All (KeepsName names)) (sym h) (All-nil (KeepsName names))
    names_kept (suc n) fs h = row_kept n h.0 fs h.2 (names_kept n h.0 h.1)
