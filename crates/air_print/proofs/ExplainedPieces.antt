-- Entries, periods, and the pieces of lines.
use Rattle.std.proofs.Common.{◌≡◌, ℕ, zero, suc, ◌+◌, ◌<◌, ◌≤◌, ◌%◌, Bool, true, false, cond, eqb, take, List, [], ◌∷◌, ◌++◌, append_assoc, append-nil, length, map, get_or, slice_index_or, Option, None, Some, unwrap_or, codes, refl, sym, ap, ap₂, ◌∙◌, arith}
use Rattle.std.specs.Prelude.{Vec, slice_get}
use Rattle.std.specs.Global.{Global}
use Rattle.std.specs.List.{flat_map}
use Rattle.std.specs.Option.{option_and_then}
use Rattle.std.proofs.lemmas.Bool.{ne_eqb}
use Rattle.std.proofs.lemmas.Grind.{flat_map-append}
use Rattle.std.proofs.lemmas.List.{get_or_past, map-append, take_more, take_all}
use Rattle.std.proofs.lemmas.Option.{unwrap_or-slice_get}
use Rattle.air_field.specs.Assignment.{row_or_none}
use Rattle.air_print.specs.Lines.{lines_text}
use Rattle.air_print.specs.Equations.{equation_lines}
use Rattle.air_print.specs.Rows.{periodic_at}

-- a missing entry
pub entry-none : {F : Type 0} (rows : List (List F)) (row column : ℕ) (z : F) → option_and_then (λ (r : List F). slice_get r column) (slice_get rows row) ≡ None → z ≡ slice_index_or (row_or_none (slice_get rows row)) column z
entry-none {F} rows row column z = within (slice_get rows row)
  where
    within : (o : Option (List F)) → option_and_then (λ (r : List F). slice_get r column) o ≡ None → z ≡ slice_index_or (row_or_none o) column z
    within None h = sym (get_or_past [] column z (omega arith))
    within (Some r) h = ap (λ o. unwrap_or o z) (sym h) ∙ unwrap_or-slice_get r column z

-- an existing periodic column
pub periodic-within : {F : Type 0} (columns : List (Vec F Global)) (row i : ℕ) (z : F) (x : Vec F Global) → i < length columns → x ≡ get_or columns i x → slice_index_or x.items (row % length x.items) z ≡ periodic_at z columns row i
periodic-within [] row i z x lt is = absurd (omega (arith, lt))
periodic-within (y ∷ ys) row zero z x lt is = ap (λ (v : Vec _ Global). slice_index_or v.items (row % length v.items) z) is
periodic-within (y ∷ ys) row (suc i) z x lt is = periodic-within ys row i z x (omega (arith, lt)) is

-- the pieces of a boundary value's line make up its text
pub cell-pieces : (old sp a comma b n : List ℕ) → ((((old ++ sp) ++ a) ++ comma) ++ b) ++ n ≡ old ++ (((sp ++ (a ++ (comma ++ b))) ++ n) ++ [])
cell-pieces old sp a comma b n = simp (append_assoc, append-nil)

-- the text written before the end of a line of equations
pub begun : (ℕ → List ℕ) → List ℕ → List ℕ
begun f [] = []
begun f (x ∷ xs) = codes "  " ++ (f x ++ flat_map (λ y. codes ", " ++ y) (map f xs))

pub begun-nil : (f : ℕ → List ℕ) → begun f [] ≡ []
unfolding begun
begun-nil f = refl

pub not-zero : (n : ℕ) → eqb (n + 1) 0 ≡ false
not-zero n = ne_eqb (n + 1) 0 (λ e. absurd (omega arith))

further-pieces : (a b c d : List ℕ) → a ++ (b ++ (c ++ d)) ≡ (a ++ (b ++ c)) ++ d
further-pieces a b c d = simp append_assoc

begun-step : (f : ℕ → List ℕ) (xs : List ℕ) (i x : ℕ) → i < length xs → begun f (take i xs ++ x ∷ []) ≡ begun f (take i xs) ++ (cond (eqb i 0) (codes "  ") (codes ", ") ++ f x)
unfolding begun
begun-step f xs zero x lt = ap (λ t. codes "  " ++ t) (append-nil (f x))
begun-step f [] (suc k) x lt = absurd (omega (arith, lt))
begun-step f (y ∷ ys) (suc k) x lt =
    let more : List ℕ → List ℕ = λ t. codes ", " ++ t in
    let zs = take k ys in
    ap (λ t. codes "  " ++ (f y ++ t)) (ap (flat_map more) (map-append f zs (x ∷ [])) ∙ flat_map-append more (map f zs) (f x ∷ []) ∙ ap (λ t. flat_map more (map f zs) ++ t) (append-nil (codes ", " ++ f x)))
    ∙ further-pieces (codes "  ") (f y) (flat_map more (map f zs)) (codes ", " ++ f x)
    ∙ ap (λ (b : Bool). (codes "  " ++ (f y ++ flat_map more (map f zs))) ++ (cond b (codes "  ") (codes ", ") ++ f x)) (sym (ne_eqb (suc k) 0 (λ e. absurd (omega arith))))

-- one more equation
pub begun-more : (f : ℕ → List ℕ) (xs : List ℕ) (i x : ℕ) (first : Bool) (start old mid new : List ℕ) → i < length xs → x ≡ get_or xs i x → first ≡ eqb i 0 → old ≡ start ++ begun f (take i xs) → mid ≡ old ++ cond first (codes "  ") (codes ", ") → new ≡ mid ++ f x → new ≡ start ++ begun f (take (i + 1) xs)
begun-more f xs i x first start old mid new lt is at h separated equated =
    let here : take (i + 1) xs ≡ take i xs ++ x ∷ [] = take_more xs i x lt ∙ ap (λ v. take i xs ++ v ∷ []) (sym is) in
    let b = begun f (take i xs) in
    let s = cond (eqb i 0) (codes "  ") (codes ", ") in
    equated
    ∙ ap (λ t. t ++ f x) (separated ∙ ap₂ (λ t (c : Bool). t ++ cond c (codes "  ") (codes ", ")) h at)
    ∙ append_assoc (start ++ b) s (f x) ∙ append_assoc start b (s ++ f x)
    ∙ ap (λ t. start ++ t) (sym (begun-step f xs i x lt) ∙ ap (begun f) (sym here))

-- no equation was written
pub begun-none : (f : ℕ → List ℕ) (xs : List ℕ) (i : ℕ) (start text : List ℕ) → length xs ≤ i → true ≡ eqb (length xs) 0 → text ≡ start ++ begun f (take i xs) → text ≡ start ++ lines_text (equation_lines (map f xs))
unfolding begun
begun-none f [] i start text le e h = h ∙ ap (λ (ys : List ℕ). start ++ begun f ys) (take_all i [] le)
begun-none f (x ∷ xs) i start text le e h =
    let no : true ≡ false = e ∙ ne_eqb (length (x ∷ xs)) 0 (λ z. absurd (omega arith)) in
    cc no

-- all equations were written
pub begun-all : (f : ℕ → List ℕ) (xs : List ℕ) (i : ℕ) (start text new : List ℕ) → length xs ≤ i → false ≡ eqb (length xs) 0 → text ≡ start ++ begun f (take i xs) → new ≡ text ++ codes "\n" → new ≡ start ++ lines_text (equation_lines (map f xs))
unfolding begun
begun-all f [] i start text new le e h ended = cc
begun-all f (x ∷ xs) i start text new le e h ended =
    let line = codes "  " ++ (f x ++ flat_map (λ y. codes ", " ++ y) (map f xs)) in
    ended ∙ ap (λ t. t ++ codes "\n") (h ∙ ap (λ (ys : List ℕ). start ++ begun f ys) (take_all i (x ∷ xs) le))
    ∙ append_assoc start line (codes "\n") ∙ ap (λ t. start ++ t) (sym (append-nil (line ++ codes "\n")))
