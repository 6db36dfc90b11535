-- Rows that are pushed one after another.
use Rattle.std.proofs.Common.{◌≡◌, ◌<◌, ◌≤◌, ◌+◌, ◌*◌, ◌++◌, ◌∷◌, [], ℕ, List, length, map, take, get_or, Ok, Err, sym, ap, ap₂, ◌∙◌, add-one, arith}
use Rattle.std.proofs.Math.Seq.{take-suc}
use Rattle.std.proofs.Math.Nat.{suc-mul}
use Rattle.std.proofs.lemmas.List.{map-append, take_all, length-append, length-map}
use Rattle.air_field.specs.Grid.{Grid, rows_of}
use Rattle.air_field.specs.Matrix.{matrix_of}
use Rattle.air_field.specs.declared.errors.MatrixError.{MatrixError}
use Rattle.air_field.specs.laws.Rows.{matrix_of_rows, rows_of-more}

module _ {A B : Type 0} (f : A → B) (xs : List A) where
  -- the images of the first ones, and one more
  pub map_one_more : (i : ℕ) (d : A) → i < length xs → map f (take i xs) ++ f (get_or xs i d) ∷ [] ≡ map f (take (i + 1) xs)
  map_one_more i d lt =
      sym (map-append f (take i xs) (get_or xs i d ∷ []))
      ∙ ap (map f) (sym (take-suc xs i d lt) ∙ ap (λ k. take k xs) (sym (add-one i)))

  pub map_all : (i : ℕ) → length xs ≤ i → map f (take i xs) ≡ map f xs
  map_all i ge = ap (map f) (take_all i xs ge)

module _ {A F : Type 0} (f : A → F) (w : ℕ) (rows : List (List A)) where
  -- so many whole rows were pushed
  pub record Pushed (i : ℕ) (values : List F) : Type 0 where
    pub count : length values ≡ i * w
    pub rows_are : rows_of i w values ≡ map (map f) (take i rows)

  pub row_pushed : (i : ℕ) (row : List A) (values new : List F) → i < length rows → row ≡ get_or rows i row → length row ≡ w → Pushed i values → new ≡ values ++ map f row → Pushed (i + 1) new
  row_pushed i row values new lt is whole h e =
      let more : length (map f row) ≡ w = length-map row f ∙ whole in
      record {
        count = ap length e ∙ length-append values (map f row) ∙ omega (arith, suc-mul i w, h.count, more);
        rows_are =
            ap (rows_of (i + 1) w) e ∙ rows_of-more i w values (map f row) h.count more
            ∙ ap₂ (λ rs r. rs ++ map f r ∷ []) h.rows_are is
            ∙ map_one_more (map f) rows i row lt;
      }

  module _ (i : ℕ) (values : List F) (some : 0 < w) (all : length rows ≤ i) (h : Pushed i values) where
    all_pushed : matrix_of w values ≡ Ok (record { width = w; rows = map (map f) rows })
    all_pushed =
        matrix_of_rows i w values some h.count
        ∙ ap (λ rs. Ok (record { width = w; rows = rs })) (h.rows_are ∙ map_all (map f) rows i all)

    pub trace_is : (trace : Grid F) → matrix_of w values ≡ Ok trace → trace ≡ record { width = w; rows = map (map f) rows }
    trace_is trace made = let is = all_pushed in cc

    pub not_refused : (e : MatrixError) → matrix_of w values ≡ Err e → ⊥
    not_refused e refused = let is = all_pushed in cc
