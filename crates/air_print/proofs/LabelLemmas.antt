-- Labels, one after another.
use Rattle.std.proofs.Common.{◌≡◌, ℕ, ◌+◌, ◌<◌, List, [], ◌∷◌, ◌++◌, length, map, take, get_or, String, Global, string_bytes, sym, ap, subst, ◌∙◌}
use Rattle.std.specs.List.{AllZip}
use Rattle.std.proofs.lemmas.List.{map-append, take_more}
use Rattle.air_print.specs.Labels.{StandsBehind}

all_zip_more : {A B : Type 0} (R : A → B → Type 0) (xs : List A) (ys : List B) (x : A) (y : B) → AllZip R xs ys → R x y → AllZip R (xs ++ x ∷ []) (ys ++ y ∷ [])
all_zip_more R [] [] x y h r = (r, tt)
all_zip_more R [] (z ∷ ys) x y h r = absurd h
all_zip_more R (z ∷ xs) [] x y h r = absurd h
all_zip_more R (z ∷ xs) (w ∷ ys) x y h r = (h.0, all_zip_more R xs ys x y h.1 r)

-- one more label, and its shown text
pub shown-more : (labels shown : List (String Global)) (i : ℕ) (label text : String Global) → i < length labels → label ≡ get_or labels i label
    → AllZip StandsBehind (map string_bytes (take i labels)) (map string_bytes shown)
    → StandsBehind (string_bytes label) (string_bytes text)
    → AllZip StandsBehind (map string_bytes (take (i + 1) labels)) (map string_bytes (shown ++ text ∷ []))
shown-more labels shown i label text lt is h behind =
    let seen : map string_bytes (take (i + 1) labels) ≡ map string_bytes (take i labels) ++ string_bytes label ∷ [] =
    ap (map string_bytes) (take_more labels i label lt)
    ∙ (map-append string_bytes (take i labels) (get_or labels i label ∷ [])
    ∙ ap (λ l. map string_bytes (take i labels) ++ string_bytes l ∷ []) (sym is)) in
    subst (λ ls. AllZip StandsBehind ls (map string_bytes (shown ++ text ∷ []))) (sym seen)
    (subst (λ ss. AllZip StandsBehind (map string_bytes (take i labels) ++ string_bytes label ∷ []) ss) (sym (map-append string_bytes shown (text ∷ [])))
    (all_zip_more StandsBehind (map string_bytes (take i labels)) (map string_bytes shown) (string_bytes label) (string_bytes text) h behind))
