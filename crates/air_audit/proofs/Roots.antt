-- The expressions of roots, read from the table.
use Rattle.std.specs.List.{AllZip}
use Rattle.std.proofs.Common.{◌≡◌, ℕ, suc, ◌+◌, ◌<◌, List, [], ◌∷◌, ◌++◌, length, get_or, slice_get, map, take, All, Some, Result, Ok, Err, IfOk, IfErr, Vec, inl, sym, ap, subst, ◌∙◌, arith}
use Rattle.std.specs.Global.{Global}
use Rattle.std.proofs.lemmas.List.{take_more, get_or-map, length-map}
use Rattle.std.proofs.lemmas.Option.{slice_get_within}
use Rattle.std.proofs.lemmas.List.Elements.{All-map}
use Rattle.air_field.specs.Term.{Leaf, Term}
use Rattle.air_core.specs.declared.errors.AirError.{AirError}
use Rattle.air_core.specs.declared.errors.AirError.TheVariants.{Memory}
use Rattle.air_builder.specs.laws.Zips.{AllZip-joined}
use Rattle.air_builder.specs.Builders.{MeansIn, BuilderView, RingLaws, BuilderLaws}
use Rattle.air_builder.specs.Assertion.{Assertion}
use Rattle.air_builder.specs.Refusals.{EachLeaf}
use Rattle.air_author.specs.Expressions.{MakesTerm}
use Rattle.air_builder.specs.Batches.{OrMemory}
use Rattle.air_audit.specs.Tables.{IsMade, HasAt, MakesAll}
use Rattle.air_audit.proofs.Making.{there_before}

-- what holds of each image holds of each element's image
pub all_of_map : {X Y : Type 0} (P : Y → Type 0) (f : X → Y) (xs : List X) → All P (map f xs) → All (λ x. P (f x)) xs
all_of_map P f xs h k d lt =
    let len : length (map f xs) ≡ length xs = length-map xs f in
    let within : k < length (map f xs) = omega (arith, lt, len) in
    subst P (get_or-map f xs k d (f d) lt) (h k (f d) within)

-- a place that has something is of the table
pub has_within : {E : Type 0} (P : E → Type 0) (table : List E) (p : ℕ) → HasAt P table p → p < length table
has_within P table p (x, e, h) = slice_get_within table p x e

-- one root more was read
pub one_more_read : {A B : Type 0} (R : A → B → Type 0) (xs : List A) (ys : List B) (k : ℕ) (x : A) (y : B)
    → k < length ys → y ≡ get_or ys k y → AllZip R xs (take k ys) → R x y → AllZip R (xs ++ x ∷ []) (take (k + 1) ys)
one_more_read R xs ys k x y lt is h r =
    let here : take (k + 1) ys ≡ take k ys ++ (y ∷ []) = take_more ys k y lt ∙ ap (λ v. take k ys ++ (v ∷ [])) (sym is) in
    subst (λ v. AllZip R (xs ++ x ∷ []) v) (sym here) (AllZip-joined R xs (x ∷ []) (take k ys) (y ∷ []) h (r, tt))

-- what was read of a table means what the table's entries do
each_read : {E F : Type 0} (means : E → Term F → Type 0) (term : ℕ → Term F) (table : List E) (xs : List E)
    (roots : List ℕ)
    → All (λ i. HasAt (λ x. means x (term i)) table i) roots → AllZip (λ x i. slice_get table i ≡ Some x) xs roots
    → AllZip means xs (map term roots)
each_read means term table [] [] h e = tt
each_read means term table [] (i ∷ roots) h e = absurd e
each_read means term table (x ∷ xs) [] h e = absurd e
each_read {E} means term table (x ∷ xs) (i ∷ roots) h e = (first (h 0 i (omega arith)) e.0, each_read means term table xs roots (λ k d lt. h (suc k) d (omega (arith, lt))) e.1)
  where
    same : (y : E) → Some y ≡ Some x → y ≡ x
    same y p = cc

    first : HasAt (λ y. means y (term i)) table i → slice_get table i ≡ Some x → means x (term i)
    first (y, p, m) q = subst (λ z. means z (term i)) (same y (sym p ∙ q)) m

module _ {S R E F : Type 0} {view : BuilderView S R E F} (ring : RingLaws view) (laws : BuilderLaws view) where
  open view use {grew, missing, refuses}

  -- each root's expression was made
  pub all_made : (a b : S) (term : ℕ → Term F) (table : List E) (roots : List ℕ)
      (r : Result (Vec E Global) AirError)
      → grew a b [] → All (λ i. HasAt (IsMade (MeansIn view) missing b (term i)) table i) roots
      → IfOk r (λ xs. AllZip (λ x i. slice_get table i ≡ Some x) xs.items roots) → IfErr r (λ e. e ≡ Memory)
      → MakesAll (MeansIn view) grew missing (OrMemory refuses) a b r (map term roots)
  all_made a b term table roots (Ok xs) g h read memory = record {
    keeps = g;
    made = each_read (MeansIn view b) term table xs.items roots (λ k d lt. let x = h k d lt in (x.0, x.1, x.2.meant)) read;
    there = All-map (EachLeaf (λ l. missing a l → ⊥)) term roots (λ k d lt. let x = h k d lt in there_before ring laws a b (term (get_or roots k d)) x.0 (laws.by_growth a b [] g) x.2);
    refused = tt;
  }
  all_made a b term table roots (Err e) g h read memory = record {
    keeps = g;
    made = tt;
    there = tt;
    refused = λ ss all. inl memory;
  }

-- a list of one term has one expression
pub has_first : {E F : Type 0} (P : E → Term F → Type 0) (xs : List E) (t : Term F) → AllZip P xs (t ∷ []) → 0 < length xs
has_first P [] t z = absurd z
has_first P (x ∷ xs) t z = omega arith

first_has : {E F : Type 0} (P : E → Term F → Type 0) (xs : List E) (t : Term F) (x : E) → AllZip P xs (t ∷ []) → slice_get xs 0 ≡ Some x → P x t
first_has P [] t x z at = absurd z
first_has {E} P (y ∷ ys) t x z at = subst (λ v. P v t) (same at) z.0
  where
    same : Some y ≡ Some x → y ≡ x
    same e = cc

module _ {S E F X : Type 0} (means : S → E → Term F → Type 0) (grew : S → S → List (Assertion F) → Type 0)
    (missing : S → Leaf → Type 0) (refuses : S → X → List (Assertion F) → Type 0) (a b : S) (t : Term F) where
  -- what was made of a list of one term is made of the term
  pub one_made : (xs : Vec E Global) (x : E) → MakesAll means grew missing refuses a b (Ok xs) (t ∷ []) → slice_get xs.items 0 ≡ Some x → MakesTerm means grew missing refuses a b (Ok x) t
  one_made xs x h at = record {
    keeps = h.keeps;
    made = (first_has (means b) xs.items t x h.made at, tt);
    there = h.there;
    refused = tt;
  }

  pub one_refused : (e : X) → MakesAll {E = E} means grew missing refuses a b (Err e) (t ∷ []) → MakesTerm {E = E} means grew missing refuses a b (Err e) t
  one_refused e h = record {
    keeps = h.keeps;
    made = tt;
    there = tt;
    refused = h.refused;
  }
