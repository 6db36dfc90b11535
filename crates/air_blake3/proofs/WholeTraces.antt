-- The rows of a whole trace.
use Rattle.std.proofs.Common.{◌≡◌, ◌+◌, ◌*◌, ◌<◌, ◌++◌, ℕ, zero, suc, List, [], ◌∷◌, length, map, slice_get, Some, Ok, refl, sym, ◌∙◌, ap, subst, arith}
use Rattle.std.proofs.Math.Nat.{mul_comm}
use Rattle.std.proofs.lemmas.List.FromFn.{get_or-map-range_with_len, length-map-range_with_len, map-range_with_len_more}
use Rattle.std.proofs.lemmas.Option.{slice_get-get_or}
use Rattle.std.specs.List.{All, range_with_len}
use Rattle.air_field.specs.Grid.{rows_of}
use Rattle.air_field.specs.Matrix.{matrix_of}
use Rattle.air_field.specs.laws.Rows.{matrix_of_rows, rows_of-more}
use Rattle.air_author.specs.Constraints.{asserts_of_first}
use Rattle.air_blake3.proofs.Standing.{length-first}

module _ {A : Type 0} (f : ℕ → List A) (w : ℕ) (lengths : (i : ℕ) → length (f i) ≡ w) where
  -- numbered lists of equal length, when joined, are cut into these lists again
  rows_cut : (h : ℕ) → rows_of h w (asserts_of_first f h) ≡ map f (range_with_len 0 h)
  rows_cut zero = refl
  rows_cut (suc h) =
      let s : suc h ≡ h + 1 = omega arith in
      let count : length (asserts_of_first f h) ≡ h * w = length-first f w lengths h ∙ mul_comm w h in
      ap (λ k. rows_of k w (asserts_of_first f h ++ f h)) s
      ∙ rows_of-more h w (asserts_of_first f h) (f h) count (lengths h)
      ∙ ap (λ v. v ++ f h ∷ []) (rows_cut h)
      ∙ sym (map-range_with_len_more f 0 h h (omega arith))
      ∙ ap (λ k. map f (range_with_len 0 k)) (sym s)

  -- the matrix of joined numbered lists of equal length
  pub matrix_cut : (h : ℕ) → 0 < w → matrix_of w (asserts_of_first f h) ≡ Ok (record { width = w; rows = map f (range_with_len 0 h) })
  matrix_cut h some =
      let count : length (asserts_of_first f h) ≡ h * w = length-first f w lengths h ∙ mul_comm w h in
      matrix_of_rows h w (asserts_of_first f h) some count ∙ ap (λ rows. Ok (record { width = w; rows = rows })) (rows_cut h)

module _ {A : Type 0} (f : ℕ → A) (h : ℕ) where
  pub row_listed : (k : ℕ) → k < length (map f (range_with_len 0 h)) → slice_get (map f (range_with_len 0 h)) k ≡ Some (f k)
  row_listed k l =
      let within : k < h = omega (arith, length-map-range_with_len f 0 h) in
      slice_get-get_or (map f (range_with_len 0 h)) k (f k) l ∙ ap Some (get_or-map-range_with_len f 0 h k k (f k) within (omega arith))

  -- a fact about each numbered element
  pub each_listed : (P : A → Type 0) → ((k : ℕ) → k < h → P (f k)) → All P (map f (range_with_len 0 h))
  each_listed P each k d l =
      let within : k < h = omega (arith, length-map-range_with_len f 0 h) in
      subst P (sym (get_or-map-range_with_len f 0 h k k d within (omega arith))) (each k within)
