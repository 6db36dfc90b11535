-- A table of places from which the places are taken out again.
use Rattle.std.proofs.Common.{◌≡◌, ℕ, suc, zero, ◌+◌, ◌<◌, false, List, [], ◌∷◌, ◌++◌, length, get_or, Option, Some, None, set, take, map, refl, sym, ap, subst, ◌∙◌}
use Rattle.std.specs.List.{slice_get, AllZip}
use Rattle.std.specs.Option.{is_some}
use Rattle.std.proofs.lemmas.List.{set-set, map_push, map_more}
use Rattle.air_json.specs.Writing.{without_places}

-- what is there already
set_there : {X : Type 0} (xs : List X) (n : ℕ) (x : X) → slice_get xs n ≡ Some x → set xs n x ≡ xs
set_there [] n x h = refl
set_there (y ∷ xs) zero x h = let same : y ≡ x = cc in ap (λ z. z ∷ xs) (sym same)
set_there (y ∷ xs) (suc n) x h = ap (λ zs. y ∷ zs) (set_there xs n x h)

pub without_last : (ns : List ℕ) (n : ℕ) (places : List (Option ℕ)) → without_places (ns ++ n ∷ []) places ≡ without_places ns (set places n None)
unfolding without_places
without_last [] n places = refl
without_last (m ∷ ns) n places = ap (λ ps. set ps m None) (without_last ns n places)

-- without any numbers
pub without_none : (places : List (Option ℕ)) → without_places [] places ≡ places
unfolding without_places
without_none places = refl

-- a place that is given where there was none
pub without_given : (ns : List ℕ) (n : ℕ) (o : Option ℕ) (places : List (Option ℕ)) → slice_get places n ≡ Some None
    → without_places (ns ++ n ∷ []) (set places n o) ≡ without_places ns places
without_given ns n o places h =
    without_last ns n (set places n o) ∙ ap (without_places ns) (set-set places n o None ∙ set_there places n None h)

pub without_more : (ns : List ℕ) (n : ℕ) (o : Option ℕ) (places start : List (Option ℕ)) (q : Option ℕ) → slice_get places n ≡ Some q → is_some q ≡ false → without_places ns places ≡ start
    → without_places (ns ++ n ∷ []) (set places n o) ≡ start
without_more ns n o places start None at none h = without_given ns n o places at ∙ h
without_more ns n o places start (Some i) at none h = absurd cc

-- the place that is taken out is the last one's
pub without_rest : (ns rest : List ℕ) (n : ℕ) (places : List (Option ℕ)) → ns ≡ rest ++ n ∷ [] → without_places rest (set places n None) ≡ without_places ns places
without_rest ns rest n places e = sym (without_last rest n places) ∙ ap (λ ms. without_places ms places) (sym e)

pub without_all : (ns : List ℕ) (places : List (Option ℕ)) → ns ≡ [] → without_places ns places ≡ places
without_all ns places e = ap (λ ms. without_places ms places) e ∙ without_none places

zip_push : {X Y : Type 0} (R : X → Y → Type 0) (xs : List X) (ys : List Y) (x : X) (y : Y) → AllZip R xs ys → R x y → AllZip R (xs ++ x ∷ []) (ys ++ y ∷ [])
zip_push R [] [] x y h k = (k, tt)
zip_push R [] (b ∷ ys) x y h k = absurd h
zip_push R (a ∷ xs) [] x y h k = absurd h
zip_push R (a ∷ xs) (b ∷ ys) x y h k = (h.0, zip_push R xs ys x y h.1 k)

-- one more element of each list
pub zip_more : {X Y D Z : Type 0} (R : D → Z → Type 0) (f : X → D) (g : Y → Z) (xs : List X) (ys : List Y) (x : X) (i : ℕ) (d : Y) → i < length ys → AllZip R (map f xs) (map g (take i ys)) → R (f x) (g (get_or ys i d))
    → AllZip R (map f (xs ++ x ∷ [])) (map g (take (i + 1) ys))
zip_more R f g xs ys x i d lt h k =
    rw (map_push, map_more g ys i d lt) (zip_push R (map f xs) (map g (take i ys)) (f x) (g (get_or ys i d)) h k)
