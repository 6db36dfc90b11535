-- A chain of a function over rows: where each row's state is made from the row before and its state, the last state is
-- the fold of the function over the rows.
use Rattle.std.specs.Prelude.{fold}
use Rattle.std.proofs.Common.{◌≡◌, ◌<◌, ℕ, zero, suc, List, [], ◌∷◌, ◌+◌, length, take, refl, arith}
use Rattle.air_chains.specs.Rows.{nth_row}

-- `Holds i x` says that x is the state before row i, and `Ends x` that x is the last state.
module _ {F X : Type 0} (step : X → List F → X) where
  -- over the rows up to row m
  pub folds_up_to : (rows : List (List F)) (m : ℕ) → m < length rows → (Holds : ℕ → X → Type 0) (Ends : X → Type 0) (start : X) → Holds 0 start
      → ((i : ℕ) (x : X) → i < m → Holds i x → Holds (suc i) (step x (nth_row rows i)))
      → ((x : X) → Holds m x → Ends (step x (nth_row rows m)))
      → Ends (fold step start (take (suc m) rows))
  folds_up_to [] m lt Holds Ends start first next last = absurd (omega (arith, lt))
  folds_up_to (row ∷ rows) zero lt Holds Ends start first next last = last start first
  folds_up_to (row ∷ rows) (suc m) lt Holds Ends start first next last =
      folds_up_to rows m (omega (arith, lt)) (λ i. Holds (suc i)) Ends (step start row) (next 0 start (omega arith) first)
      (λ i x low. next (suc i) x (omega (arith, low))) last

  -- over all rows
  pub folds_over_rows : (rows : List (List F)) → 0 < length rows → (Holds : ℕ → X → Type 0) (Ends : X → Type 0) (start : X) → Holds 0 start
      → ((i : ℕ) (x : X) → suc i < length rows → Holds i x → Holds (suc i) (step x (nth_row rows i)))
      → ((i : ℕ) (x : X) → suc i ≡ length rows → Holds i x → Ends (step x (nth_row rows i)))
      → Ends (fold step start rows)
  folds_over_rows [] some Holds Ends start first next last = absurd (omega (arith, some))
  folds_over_rows (row ∷ []) some Holds Ends start first next last = last 0 start refl first
  folds_over_rows (row ∷ (more ∷ rows)) some Holds Ends start first next last =
      folds_over_rows (more ∷ rows) (omega arith) (λ i. Holds (suc i)) Ends (step start row) (next 0 start (omega arith) first)
      (λ i x lt. next (suc i) x (omega (arith, lt))) (λ i x e. last (suc i) x (omega (arith, e)))

-- induction from the last row back to the others
module _ (P : ℕ → Type 0) (h : ℕ) (last : (i : ℕ) → suc i ≡ h → P i) (back : (i : ℕ) → suc i < h → P (suc i) → P i) where
  holds_before : (more i : ℕ) → i + suc more ≡ h → P i
  holds_before zero i e = last i (omega (arith, e))
  holds_before (suc more) i e = back i (omega (arith, e)) (holds_before more (suc i) (omega (arith, e)))

  pub holds_back_to_first : 0 < h → P 0
  holds_back_to_first some = holds_all h refl
    where
      holds_all : (n : ℕ) → h ≡ n → P 0
      holds_all zero e = absurd (omega (arith, e, some))
      holds_all (suc n) e = holds_before n 0 (omega (arith, e))
