-- Lists of numbers, one after another.
use Rattle.std.proofs.Common.{◌≡◌, ℕ, ◌+◌, ◌<◌, ◌≤◌, List, [], ◌∷◌, ◌++◌, append_assoc, length, get_or, drop, Option, Some, None, option_map, option_and_then, Ok, Err, refl, sym, ap, ◌∙◌, arith}
use Rattle.std.specs.Option.{ok_or}
use Rattle.std.proofs.lemmas.Grind.{common_steps}
use Rattle.std.proofs.lemmas.List.{append-nil}
use Rattle.serde_json.specs.Data.{Items}
use Rattle.serde_json.specs.View.{view, items_view}
use Rattle.serde_json.specs.declared.value.Value.{Value}
use Rattle.air_json.specs.declared.errors.FlatError.{FlatError}
use Rattle.air_json.specs.Parts.{as_whole_number}
use Rattle.air_json.specs.Coefficients.{wholes}
use Rattle.air_json.proofs.Loop.{items_at}

regroup : (front : List ℕ) (n : ℕ) (o : Option (List ℕ)) → option_map (λ ns. front ++ ns) (option_map (λ ns. n ∷ ns) o) ≡ option_map (λ ns. (front ++ n ∷ []) ++ ns) o
regroup front n None = refl
regroup front n (Some ns) = ap (λ (ms : List ℕ). Some ms) (sym (append_assoc front (n ∷ []) ns))

abbrev rest_of : List ℕ → Items → Option ℕ → Option (List ℕ)
rest_of front ds o = option_map (λ ns. front ++ ns) (option_and_then (λ m. option_map (λ ns. m ∷ ns) (wholes ds)) o)

at_item : (front : List ℕ) (xs : List Value) (i : ℕ) (x : Value) (total : Option (List ℕ)) → i < length xs → x ≡ get_or xs i x → option_map (λ ns. front ++ ns) (wholes (items_view (drop i xs))) ≡ total → rest_of front (items_view (drop (i + 1) xs)) (as_whole_number (view x)) ≡ total
unfolding wholes
at_item front xs i x total lt is so_far = sym (ap (λ (ds : Items). option_map (λ ns. front ++ ns) (wholes ds)) (items_at xs i x lt is)) ∙ so_far

pub number_goes_on : (front : List ℕ) (xs : List Value) (i : ℕ) (x : Value) (n : ℕ) (total : Option (List ℕ)) → i < length xs → x ≡ get_or xs i x → as_whole_number (view x) ≡ Some n → option_map (λ ns. front ++ ns) (wholes (items_view (drop i xs))) ≡ total
    → option_map (λ ns. (front ++ n ∷ []) ++ ns) (wholes (items_view (drop (i + 1) xs))) ≡ total
number_goes_on front xs i x n total lt is ok so_far =
    sym (regroup front n (wholes (items_view (drop (i + 1) xs)))) ∙ sym (ap (rest_of front (items_view (drop (i + 1) xs))) ok) ∙ at_item front xs i x total lt is so_far

pub number_ends : (front : List ℕ) (xs : List Value) (i : ℕ) (x : Value) (total : Option (List ℕ)) (f : FlatError) → i < length xs → x ≡ get_or xs i x → as_whole_number (view x) ≡ None → option_map (λ ns. front ++ ns) (wholes (items_view (drop i xs))) ≡ total
    → ok_or total f ≡ Err f
number_ends front xs i x total f lt is bad so_far =
    ap (λ (o : Option (List ℕ)). ok_or o f) (sym (at_item front xs i x total lt is so_far) ∙ ap (rest_of front (items_view (drop (i + 1) xs))) bad)

pub number_done : (front : List ℕ) (xs : List Value) (i : ℕ) (total : Option (List ℕ)) (f : FlatError) → length xs ≤ i → option_map (λ ns. front ++ ns) (wholes (items_view (drop i xs))) ≡ total → ok_or total f ≡ Ok front
unfolding wholes
number_done front xs i total f le so_far =
    let none : drop i xs ≡ [] = grind (arith, common_steps) in
    ap (λ (o : Option (List ℕ)). ok_or o f) (sym so_far ∙ ap (λ (ys : List Value). option_map (λ ns. front ++ ns) (wholes (items_view ys))) none ∙ ap (λ (ns : List ℕ). Some ns) (append-nil front))
