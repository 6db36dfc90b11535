-- Decimal numbers with spaces between them.
use Rattle.std.specs.Prelude.{◌==◌, if◌then◌else◌, codes, decimal}
use Rattle.std.specs.List.{join_with_byte}
use Rattle.std.proofs.Common.{◌≡◌, ℕ, zero, suc, ◌+◌, ◌<◌, ◌≤◌, cond, List, [], ◌∷◌, ◌++◌, length, map, take, get_or, append_assoc, refl, sym, ap, ◌∙◌, arith}
use Rattle.std.proofs.lemmas.Bool.{ne_eqb}
use Rattle.std.proofs.lemmas.List.{take_more, take_all, map-append}

-- the numbers, separated by spaces
abbrev pub with_spaces : {A : Type 0} → (A → ℕ) → List A → List ℕ
with_spaces f xs = join_with_byte 32 (map decimal (map f xs))

join-more : (c : ℕ) (x : List ℕ) (xs : List (List ℕ)) (y : List ℕ) → join_with_byte c ((x ∷ xs) ++ y ∷ []) ≡ join_with_byte c (x ∷ xs) ++ (c ∷ y)
join-more c x [] y = refl
join-more c x (z ∷ xs) y = ap (λ t. x ++ (c ∷ t)) (join-more c z xs y) ∙ sym (append_assoc x (c ∷ join_with_byte c (z ∷ xs)) (c ∷ y))

spaced-end : {A : Type 0} (f : A → ℕ) (xs : List A) (k : ℕ) (x : A) → k < length xs → with_spaces f (take k xs ++ x ∷ []) ≡ with_spaces f (take k xs) ++ ((if k == 0 then [] else codes " ") ++ decimal (f x))
spaced-end f xs zero x lt = refl
spaced-end f [] (suc k) x lt = absurd (omega (arith, lt))
spaced-end f (y ∷ ys) (suc k) x lt =
    ap (λ (l : List ℕ). join_with_byte 32 (decimal (f y) ∷ map decimal l)) (map-append f (take k ys) (x ∷ []))
    ∙ ap (λ l. join_with_byte 32 (decimal (f y) ∷ l)) (map-append decimal (map f (take k ys)) (f x ∷ []))
    ∙ join-more 32 (decimal (f y)) (map decimal (map f (take k ys))) (decimal (f x))
    ∙ ap (λ b. join_with_byte 32 (decimal (f y) ∷ map decimal (map f (take k ys))) ++ (cond b [] (codes " ") ++ decimal (f x))) (sym (ne_eqb (suc k) 0 (λ e. absurd (omega arith))))

-- appends one number
pub spaced-more : {A : Type 0} (f : A → ℕ) (xs : List A) (k : ℕ) (x : A) (start old mid new : List ℕ)
    → k < length xs → x ≡ get_or xs k x → old ≡ start ++ with_spaces f (take k xs)
    → mid ≡ old ++ (if k == 0 then [] else codes " ") → new ≡ mid ++ decimal (f x) → new ≡ start ++ with_spaces f (take (k + 1) xs)
spaced-more f xs k x start old mid new lt is h separated written =
    let here : take (k + 1) xs ≡ take k xs ++ x ∷ [] = take_more xs k x lt ∙ ap (λ v. take k xs ++ v ∷ []) (sym is) in
    let s : List ℕ = if k == 0 then [] else codes " " in
    written ∙ ap (λ t. t ++ decimal (f x)) (separated ∙ ap (λ t. t ++ s) h)
    ∙ append_assoc (start ++ with_spaces f (take k xs)) s (decimal (f x)) ∙ append_assoc start (with_spaces f (take k xs)) (s ++ decimal (f x))
    ∙ ap (λ t. start ++ t) (sym (spaced-end f xs k x lt) ∙ ap (with_spaces f) (sym here))

-- all numbers, in brackets
pub spaced-all : {A : Type 0} (f : A → ℕ) (xs : List A) (k : ℕ) (start text new : List ℕ)
    → length xs ≤ k → text ≡ (start ++ codes "[") ++ with_spaces f (take k xs) → new ≡ text ++ codes "]"
    → new ≡ start ++ (codes "[" ++ (with_spaces f xs ++ codes "]"))
spaced-all f xs k start text new le h ended =
    ended ∙ ap (λ t. t ++ codes "]") (h ∙ ap (λ ys. (start ++ codes "[") ++ with_spaces f ys) (take_all k xs le))
    ∙ append_assoc (start ++ codes "[") (with_spaces f xs) (codes "]") ∙ append_assoc start (codes "[") (with_spaces f xs ++ codes "]")
