-- The rows of a matrix, and of one that is built row by row.
use Rattle.std.proofs.Common.{[], ◌∷◌, ◌++◌, add-one, length-drop, Ok, ◌≡◌, ℕ, ◌+◌, ◌*◌, ◌/◌, ◌%◌, ◌<◌, ◌≤◌, zero, suc, List, Some, None, take, drop, length, slice_get, refl, sym, ap, ◌∙◌, arith}
use Rattle.std.proofs.Math.Nat.{suc-mul, zero-mul}
use Rattle.std.proofs.Math.Seq.{take-length}
use Rattle.std.proofs.Math.Dec.{eqb-suc-zero}
use Rattle.std.proofs.lemmas.Nat.{mod-mul-add, div-mul-add}
use Rattle.std.proofs.lemmas.List.{drop-drop, take-append-le, drop-append-le}
use Rattle.air_field.specs.Matrix.{matrix_of}
use Rattle.air_field.specs.Grid.{rows_of}

pub length-rows_of : {T : Type 0} (h w : ℕ) (xs : List T) → length (rows_of h w xs) ≡ h
length-rows_of zero w xs = refl
length-rows_of (suc h) w xs = ap suc (length-rows_of h w (drop w xs))

pub slice_get-rows_of : {T : Type 0} (h w : ℕ) (xs : List T) (k : ℕ) → k < h
    → slice_get (rows_of h w xs) k ≡ Some (take w (drop (k * w) xs))
slice_get-rows_of zero w xs k lt = absurd (omega arith)
slice_get-rows_of (suc h) w xs zero lt = ap (λ n. Some (take w (drop n xs))) (sym (zero-mul w))
slice_get-rows_of (suc h) w xs (suc k) lt =
    slice_get-rows_of h w (drop w xs) k (omega arith)
    ∙ ap (λ ys. Some (take w ys)) (drop-drop (k * w) w xs ∙ ap (λ n. drop n xs) (omega (arith, suc-mul k w)))

pub slice_get-past_rows : {T : Type 0} (h w : ℕ) (xs : List T) (k : ℕ) → h ≤ k → slice_get (rows_of h w xs) k ≡ None
slice_get-past_rows zero w xs k le = refl
slice_get-past_rows (suc h) w xs zero le = absurd (omega arith)
slice_get-past_rows (suc h) w xs (suc k) le = slice_get-past_rows h w (drop w xs) k (omega arith)

-- one more row
pub rows_of-more : {T : Type 0} (h w : ℕ) (xs a : List T) → length xs ≡ h * w → length a ≡ w
    → rows_of (h + 1) w (xs ++ a) ≡ rows_of h w xs ++ a ∷ []
rows_of-more h w xs a count row = rw add-one (go h w xs a count row)
  where
    go : {T : Type 0} (h w : ℕ) (xs a : List T) → length xs ≡ h * w → length a ≡ w
        → rows_of (suc h) w (xs ++ a) ≡ rows_of h w xs ++ a ∷ []
    go zero w [] a count row = ap (λ n. take n a ∷ []) (sym row) ∙ ap (λ v. v ∷ []) (take-length a)
    go zero w (x ∷ xs) a count row = absurd (omega (arith, zero-mul w))
    go (suc h) w xs a count row =
        let within : w ≤ length xs = omega (arith, suc-mul h w) in
        let rest : length (drop w xs) ≡ h * w = rw length-drop (omega (arith, suc-mul h w)) in
        rw (take-append-le, drop-append-le) (ap (λ v. take w xs ∷ v) (go h w (drop w xs) a rest row))

-- whole rows aren't ragged
pub matrix_of_rows : {T : Type 0} (h w : ℕ) (values : List T) → 0 < w → length values ≡ h * w
    → matrix_of w values ≡ Ok (record { width = w; rows = rows_of h w values })
matrix_of_rows h zero values some count = absurd (omega arith)
matrix_of_rows h (suc w) values some count =
    let whole : length values ≡ h * suc w + 0 = omega arith in
    let rest : length values % suc w ≡ 0 = ap (λ n. n % suc w) whole ∙ mod-mul-add h (suc w) 0 (omega arith) in
    let height : length values / suc w ≡ h = ap (λ n. n / suc w) whole ∙ div-mul-add h (suc w) 0 (omega arith) in
    rw (eqb-suc-zero w, rest, height)

-- the values of whole rows are a matrix
pub whole-rows : {T : Type 0} (h w : ℕ) (xs : List T) → length xs ≡ h * w → (w ≡ 0 → h ≡ 0)
    → matrix_of w xs ≡ Ok (record { width = w; rows = rows_of h w xs })
whole-rows h zero xs count none =
    rw (none refl) (rw (count ∙ ap (λ n. n * 0) (none refl)) refl)
whole-rows h (suc w) xs count none = matrix_of_rows h (suc w) xs (omega arith) count
