-- Two lists whose elements are related index by index.
use Rattle.std.specs.Prelude.{◌≡◌, ℕ, zero, suc, List, [], ◌∷◌, ◌++◌, take, drop, refl}
use Rattle.std.specs.List.{AllZip}
use Rattle.std.proofs.Common.{ap}

-- the second list is split as the first one is
pub AllZip-parts : {A B : Type 0} (R : A → B → Type 0) (xs : List A) (x : A) (rest : List A) (ys : List B)
    → AllZip R (xs ++ (x ∷ rest)) ys
    → (before : List B) × (y : B) × (after : List B) × (ys ≡ before ++ (y ∷ after)) × AllZip R xs before × R x y
    × AllZip R rest after
AllZip-parts R [] x rest [] h = absurd h
AllZip-parts R [] x rest (y ∷ ys) h = ([], y, ys, refl, tt, h.0, h.1)
AllZip-parts R (z ∷ xs) x rest [] h = absurd h
AllZip-parts R (z ∷ xs) x rest (y ∷ ys) h =
    let more = AllZip-parts R xs x rest ys h.1 in
    (y ∷ more.0, more.1, more.2, ap (λ v. y ∷ v) more.3, (h.0, more.4), more.5, more.6)

-- only the empty list is zipped with the empty list
pub AllZip-nil : {A B : Type 0} (R : A → B → Type 0) (ys : List B) → AllZip R [] ys → ys ≡ []
AllZip-nil R [] h = refl
AllZip-nil R (y ∷ ys) h = absurd h

-- the relation may be weakened
pub AllZip-weaker : {A B : Type 0} (R S : A → B → Type 0) → ((x : A) (y : B) → R x y → S x y)
    → (xs : List A) (ys : List B) → AllZip R xs ys → AllZip S xs ys
AllZip-weaker R S w [] [] h = tt
AllZip-weaker R S w [] (y ∷ ys) h = absurd h
AllZip-weaker R S w (x ∷ xs) [] h = absurd h
AllZip-weaker R S w (x ∷ xs) (y ∷ ys) h = (w x y h.0, AllZip-weaker R S w xs ys h.1)

-- two zipped lists, appended to two others
pub AllZip-joined : {A B : Type 0} (R : A → B → Type 0) (xs us : List A) (ys vs : List B) → AllZip R xs ys
    → AllZip R us vs → AllZip R (xs ++ us) (ys ++ vs)
AllZip-joined R [] us [] vs h k = k
AllZip-joined R [] us (y ∷ ys) vs h k = absurd h
AllZip-joined R (x ∷ xs) us [] vs h k = absurd h
AllZip-joined R (x ∷ xs) us (y ∷ ys) vs h k = (h.0, AllZip-joined R xs us ys vs h.1 k)

-- both cut at n
AllZip-cut : {A B : Type 0} (R : A → B → Type 0) (n : ℕ) (xs : List A) (ys : List B) → AllZip R xs ys
    → AllZip R (take n xs) (take n ys) × AllZip R (drop n xs) (drop n ys)
AllZip-cut R zero xs ys h = (tt, h)
AllZip-cut R (suc n) [] [] h = (tt, tt)
AllZip-cut R (suc n) [] (y ∷ ys) h = absurd h
AllZip-cut R (suc n) (x ∷ xs) [] h = absurd h
AllZip-cut R (suc n) (x ∷ xs) (y ∷ ys) h = let more = AllZip-cut R n xs ys h.1 in ((h.0, more.0), more.1)

-- the first n of both, and the others
pub AllZip-take : {A B : Type 0} (R : A → B → Type 0) (n : ℕ) (xs : List A) (ys : List B) → AllZip R xs ys
    → AllZip R (take n xs) (take n ys)
AllZip-take R n xs ys h = (AllZip-cut R n xs ys h).0

pub AllZip-drop : {A B : Type 0} (R : A → B → Type 0) (n : ℕ) (xs : List A) (ys : List B) → AllZip R xs ys
    → AllZip R (drop n xs) (drop n ys)
AllZip-drop R n xs ys h = (AllZip-cut R n xs ys h).1
