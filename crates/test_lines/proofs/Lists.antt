-- Facts about `AllZip` for a loop that maps one list to another.
use Rattle.std.specs.List.{AllZip}
use Rattle.std.proofs.Common.{◌≡◌, ℕ, ◌+◌, ◌<◌, ◌≤◌, List, [], ◌∷◌, ◌++◌, All, length, map, take, get_or, sym, subst}
use Rattle.std.proofs.lemmas.List.{take_more, take_all, get_or-map, length-map}

pub AllZip-end : {A B : Type 0} (R : A → B → Type 0) (xs : List A) (ys : List B) (x : A) (y : B)
    → AllZip R xs ys → R x y → AllZip R (xs ++ x ∷ []) (ys ++ y ∷ [])
AllZip-end R [] [] x y h r = (r, tt)
AllZip-end R [] (b ∷ ys) x y h r = absurd h
AllZip-end R (a ∷ xs) [] x y h r = absurd h
AllZip-end R (a ∷ xs) (b ∷ ys) x y h r = (h.0, AllZip-end R xs ys x y h.1 r)

-- extends `AllZip` by one: R holds of x and element k
pub AllZip-more : {A B : Type 0} (R : A → B → Type 0) (xs : List A) (ys : List B) (k : ℕ) (x : A) (d : B)
    → k < length ys → AllZip R xs (take k ys) → R x (get_or ys k d) → AllZip R (xs ++ x ∷ []) (take (k + 1) ys)
AllZip-more R xs ys k x d lt h r =
    subst (λ l. AllZip R (xs ++ x ∷ []) l) (sym (take_more ys k d lt)) (AllZip-end R xs (take k ys) x (get_or ys k d) h r)

AllZip-map : {A B C : Type 0} (R : A → C → Type 0) (v : B → C) (xs : List A) (ys : List B)
    → AllZip (λ x y. R x (v y)) xs ys → AllZip R xs (map v ys)
AllZip-map R v [] [] h = tt
AllZip-map R v [] (b ∷ ys) h = absurd h
AllZip-map R v (a ∷ xs) [] h = absurd h
AllZip-map R v (a ∷ xs) (b ∷ ys) h = (h.0, AllZip-map R v xs ys h.1)

-- replaces ys by its image under v
pub AllZip-read : {A B C : Type 0} (R : A → C → Type 0) (v : B → C) (xs : List A) (ys : List B) (zs : List C)
    → map v ys ≡ zs → AllZip (λ x y. R x (v y)) xs ys → AllZip R xs zs
AllZip-read R v xs ys zs e h = subst (λ l. AllZip R xs l) e (AllZip-map R v xs ys h)

-- the whole list, when k reaches its end
pub AllZip-all : {A B : Type 0} (R : A → B → Type 0) (xs : List A) (ys : List B) (k : ℕ)
    → length ys ≤ k → AllZip R xs (take k ys) → AllZip R xs ys
AllZip-all R xs ys k le h = subst (λ l. AllZip R xs l) (take_all k ys le) h

-- P holds of v at element k if it holds of the whole image of ys under v
pub All-read : {B C : Type 0} (P : C → Type 0) (v : B → C) (ys : List B) (zs : List C) (k : ℕ) (d : B)
    → map v ys ≡ zs → k < length ys → All P zs → P (v (get_or ys k d))
All-read P v ys zs k d e lt h =
    let all : All P (map v ys) = subst (λ l. All P l) (sym e) h in
    subst (λ z. P z) (get_or-map v ys k d (v d) lt) (all k (v d) (subst (λ n. k < n) (sym (length-map ys v)) lt))

-- if P fails for some v y, it fails somewhere in the image of ys under v
pub not-all-read : {B C : Type 0} (P : C → Type 0) (v : B → C) (ys : List B) (zs : List C) → map v ys ≡ zs → ¬ All (λ y. P (v y)) ys → ¬ All P zs
not-all-read P v ys zs e some all = some (λ k d lt. All-read P v ys zs k d e lt all)
