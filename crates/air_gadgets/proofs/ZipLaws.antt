-- Two zipped lists, cut and rotated alike.
use Rattle.std.specs.List.{AllZip}
use Rattle.std.proofs.Common.{◌≡◌, ℕ, zero, suc, ◌-◌, ◌≤◌, List, [], ◌∷◌, length, take, drop, refl, ap, arith, length-append, length-drop}
use Rattle.std.proofs.lemmas.List.{take_all, length-take}
use Rattle.air_field.specs.Term.{Term}
use Rattle.air_field.specs.Algebra.{xor_term}
use Rattle.air_builder.specs.laws.Zips.{AllZip-joined, AllZip-take, AllZip-drop}
use Rattle.air_gadgets.specs.Words.{rotated_left}
use Rattle.air_gadgets.specs.Gadgets.{xor_terms}

-- both rotated by the same shift
pub zip_rotated : {X Y : Type 0} (P : X → Y → Type 0) (shift : ℕ) (xs : List X) (ys : List Y) → AllZip P xs ys → AllZip P (rotated_left shift xs) (rotated_left shift ys)
zip_rotated P shift xs ys h =
    AllZip-joined P (drop (32 - shift) xs) (take (32 - shift) xs) (drop (32 - shift) ys) (take (32 - shift) ys) (AllZip-drop P (32 - shift) xs ys h) (AllZip-take P (32 - shift) xs ys h)

-- the upper half
pub upper_half : {X : Type 0} (xs : List X) → take (length xs - 16) (drop 16 xs) ≡ drop 16 xs
upper_half xs =
    let e = length-drop 16 xs in
    let le : length (drop 16 xs) ≤ length xs - 16 = omega (arith, e) in
    take_all (length xs - 16) (drop 16 xs) le

-- the xor of two lists cut alike
no_xors : {F : Type 0} (ts : List (Term F)) → xor_terms ts [] ≡ []
no_xors [] = refl
no_xors (t ∷ ts) = refl

pub take-xors : {F : Type 0} (n : ℕ) (ts us : List (Term F)) → xor_terms (take n ts) (take n us) ≡ take n (xor_terms ts us)
take-xors zero ts us = refl
take-xors (suc n) [] us = refl
take-xors (suc n) (t ∷ ts) [] = refl
take-xors (suc n) (t ∷ ts) (u ∷ us) = ap (λ vs. xor_term t u ∷ vs) (take-xors n ts us)

pub drop-xors : {F : Type 0} (n : ℕ) (ts us : List (Term F)) → xor_terms (drop n ts) (drop n us) ≡ drop n (xor_terms ts us)
drop-xors zero ts us = refl
drop-xors (suc n) [] us = refl
drop-xors (suc n) (t ∷ ts) [] = no_xors (drop n ts)
drop-xors (suc n) (t ∷ ts) (u ∷ us) = drop-xors n ts us

pub rotated_long : {X : Type 0} (shift : ℕ) (xs : List X) → shift ≤ 32 → length xs ≡ 32 → length (rotated_left shift xs) ≡ 32
rotated_long shift xs le long =
    let e = length-append (drop (32 - shift) xs) (take (32 - shift) xs) in
    let d = length-drop (32 - shift) xs in
    let t = length-take (32 - shift) xs in
    omega (arith, e, d, t, le, long)
