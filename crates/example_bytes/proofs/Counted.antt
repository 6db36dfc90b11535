-- If the report is empty, column 1 counts the rows; so a value that isn't a byte isn't in the table.
use Rattle.std.specs.Prelude.{◌≡◌, ◌≢◌, ◌↔◌, ◌==◌, ℕ, zero, suc, ◌+◌, ◌%◌, ◌<◌, [], ◌∷◌, length, Bool, true, false, slice_get, slice_index_or, if◌then◌else◌, refl}
use Rattle.std.proofs.Common.{sym, ◌∙◌, ap, arith}
use Rattle.std.proofs.Math.Nat.{mod-eq_of_lt}
use Rattle.std.proofs.lemmas.List.Elements.{All-head}
use borrow.Author.Tests.{eqb-true}
use Rattle.air_field.specs.Grid.{Grid}
use Rattle.air_field.specs.Ring.{CommRing, AlgebraOver, image}
use Rattle.air_field.specs.Assignment.{row_or_none}
use Rattle.air_field.specs.laws.Images.{image-zero, image-suc}
use Rattle.air_report.specs.Permuted.{PermutationTrace, permuted_zero}
use Rattle.air_report.specs.laws.VanishingReports.{all_zero}
use Rattle.p3_air.specs.Author.{current}
use Rattle.air_lookup.specs.Theorem.{on_row, ListsNothing, PassesAt, TablesAreSound}
use Rattle.air_lookup.specs.laws.Columns.{equal_of_minus, zero_of_one}
use Rattle.example_bytes.specs.Bytes.{bytes, bytes_instance, counts_rows}
use Rattle.example_bytes.specs.Checks.{BytesAreSound}

module _ {F E : Type 0} (r : CommRing F) (a : AlgebraOver F E) (eq : F → F → Bool) (ext_eq : E → E → Bool) (decides : (x y : F) → (eq x y ≡ true) ↔ (x ≡ y))
    (trace : Grid F) where
  module _ (q : PermutationTrace E) (lists : ListsNothing r a eq ext_eq (bytes_instance r trace) q) where
    abbrev entry : ℕ → F
    entry i = on_row r (bytes_instance r trace) i (current 1)

    not_last : (i : ℕ) (b : Bool) → suc i < length trace.rows → (b ≡ true → i + 1 ≡ length trace.rows) → (if b then r.zero else r.one) ≡ r.one
    not_last i true lt e = let same : i + 1 ≡ length trace.rows = e refl in absurd (omega (arith, lt, same))
    not_last i false lt e = refl

    -- under a selector that is one, a term is zero
    zero_under_one : (y x : F) → y ≡ r.one → r.mul y x ≡ r.zero → x ≡ r.zero
    zero_under_one y x is h = zero_of_one r x y is (r.mul_comm x y ∙ h)

    counted : (n : ℕ) → n < length trace.rows → entry n ≡ image r n
    counted zero lt =
        let zeros = all_zero (permuted_zero r a eq ext_eq (bytes_instance r trace) q) (bytes r) (length trace.rows) lists.nothing 0 lt in
        zero_under_one r.one (entry 0) refl ((decides _ r.zero).0 zeros.0) ∙ sym (image-zero r)
    counted (suc i) lt =
        let before : i < length trace.rows = omega (arith, lt) in
        let zeros = all_zero (permuted_zero r a eq ext_eq (bytes_instance r trace) q) (bytes r) (length trace.rows) lists.nothing i before in
        let up : i + 1 ≡ suc i = omega arith in
        let low : i + 1 < length trace.rows = omega (arith, lt) in
        let next : slice_index_or (row_or_none (slice_get trace.rows ((i + 1) % length trace.rows))) 1 r.zero ≡ entry (suc i) =
        ap (λ j. slice_index_or (row_or_none (slice_get trace.rows j)) 1 r.zero) (mod-eq_of_lt low ∙ up) in
        sym next
        ∙ (equal_of_minus r _ (r.add (entry i) r.one)
        (zero_under_one _ _ (not_last i (i + 1 == length trace.rows) lt (eqb-true (i + 1) (length trace.rows))) ((decides _ r.zero).0 zeros.1.0))
        ∙ (ap (λ x. r.add x r.one) (counted i before) ∙ sym (image-suc r i)))

  pub bytes_are_sound : (p : ℕ) → TablesAreSound r a eq ext_eq p → BytesAreSound r a eq ext_eq p trace
  bytes_are_sound p tables high short row lt none [] distinct all = omega arith
  bytes_are_sound p tables high short row lt none (alpha ∷ alphas) distinct all =
      let g = bytes_instance r trace in
      let first = All-head (λ x. PassesAt r a eq ext_eq g 0 x) alpha alphas all in
      let away : (k : ℕ) → k < length trace.rows → on_row r g k (current 1) ≢ on_row r g row (current 0) = λ k below e.
      none k (omega (arith, below, high)) (sym e ∙ counted first.permutation first.lists k below) in
      let most = tables g (record { accumulator = 0; shares = 1; challenge = 0 }) (current 0) (current 1) (current 2) tt tt tt
      (record { before = counts_rows r; after = []; is_part = refl }) row (omega (arith, lt, high)) (omega (arith, short, high)) away
      (alpha ∷ alphas) distinct all in
      omega (arith, most, high)
