-- A sum of columns, each listed with the weight one.
use Rattle.std.proofs.Common.{◌≡◌, ◌∙◌, ℕ, List, map, Result, IfOk, ap, ap₂}
use Rattle.std.proofs.lemmas.Result.{IfOk-weaker}
use Rattle.std.proofs.lemmas.Simd.{map-map}
use Rattle.air_gadgets.specs.declared.columns.pair_col.PairCol.{PairCol}
use Rattle.air_gadgets.specs.Columns.{Combination, combination, sum_of}

pub summed : {F E : Type 0} {zero z : F} {items : List ℕ} (column : ℕ → PairCol) (one : F) (indices : List ℕ) (weights : List (ℕ × F)) → indices ≡ items → weights ≡ map (λ i. (i, one)) indices → z ≡ zero
    → (r : Result (Combination F) E) → IfOk r (λ v. v ≡ combination (map (λ w. (column w.0, w.1)) weights) z) → IfOk r (λ v. v ≡ sum_of one zero column items)
summed column one indices weights same listed none r made =
    let all = ap (map (λ w. (column w.0, w.1))) listed ∙ (map-map (λ w. (column w.0, w.1)) (λ i. (i, one)) indices ∙ ap (map (λ i. (column i, one))) same) in
    IfOk-weaker r _ _ (λ v e. e ∙ ap₂ combination all none) made
