-- Reading elements in a loop, one after another.
use Rattle.std.proofs.Common.{◌≡◌, ℕ, ◌+◌, ◌<◌, ◌≤◌, List, [], ◌∷◌, ◌++◌, length, get_or, drop, drop-cons, add-one, Result, Ok, Err, refl, sym, ap, ◌∙◌, arith}
use Rattle.std.proofs.lemmas.Grind.{common_steps}
use Rattle.serde_json.specs.Data.{item}
use Rattle.serde_json.specs.View.{view, items_view}
use Rattle.serde_json.specs.declared.value.Value.{Value}
use Rattle.air_json.specs.declared.errors.FlatError.{FlatError}
use Rattle.air_json.specs.declared.errors.FlatError.TheVariants as faults
use Rattle.air_json.specs.Results.{◌>>=◌, Fails}
use Rattle.air_object.specs.Readers.{Reader, each_from}

pub items_at : (vs : List Value) (i : ℕ) (v : Value) → i < length vs → v ≡ get_or vs i v → items_view (drop i vs) ≡ item (view v) (items_view (drop (i + 1) vs))
items_at vs i v lt is = ap items_view (drop-cons vs i v lt) ∙ rw (← is, add-one) refl

module _ {X : Type 0} (read : Reader X) (vs : List Value) (done : List X) (i : ℕ) where
  step : (v : Value) (total : Result (List X) FlatError) → i < length vs → v ≡ get_or vs i v → each_from read done (items_view (drop i vs)) ≡ total
      → (read (view v) >>= λ x. each_from read (done ++ x ∷ []) (items_view (drop (i + 1) vs))) ≡ total
  unfolding each_from
  step v total lt is so_far = sym (ap (each_from read done) (items_at vs i v lt is)) ∙ so_far

  pub goes_on : (v : Value) (x : X) (total : Result (List X) FlatError) → i < length vs → v ≡ get_or vs i v → read (view v) ≡ Ok x → each_from read done (items_view (drop i vs)) ≡ total
      → each_from read (done ++ x ∷ []) (items_view (drop (i + 1) vs)) ≡ total
  goes_on v x total lt is ok so_far =
      sym (ap (λ (r : Result X FlatError). r >>= λ y. each_from read (done ++ y ∷ []) (items_view (drop (i + 1) vs))) ok) ∙ step v total lt is so_far

  pub ends : (v : Value) (f : FlatError) (total : Result (List X) FlatError) → i < length vs → v ≡ get_or vs i v → Fails f (read (view v)) → each_from read done (items_view (drop i vs)) ≡ total → Fails f total
  ends v f total lt is bad so_far =
      carry f (read (view v)) (λ x. each_from read (done ++ x ∷ []) (items_view (drop (i + 1) vs))) total (step v total lt is so_far) bad
    where
      carry : {A B : Type 0} (f : FlatError) (r : Result A FlatError) (g : A → Result B FlatError) (total : Result B FlatError) → (r >>= g) ≡ total → Fails f r → Fails f total
      carry faults.Memory r g total e h = tt
      carry {A} f r g total e h = sym e ∙ ap (λ (q : Result A FlatError). q >>= g) h

  pub is_done : (total : Result (List X) FlatError) → length vs ≤ i → each_from read done (items_view (drop i vs)) ≡ total → total ≡ Ok done
  unfolding each_from
  is_done total le so_far =
      let none : drop i vs ≡ [] = grind (arith, common_steps) in
      sym so_far ∙ ap (λ (us : List Value). each_from read done (items_view us)) none

-- if a read answers a fault, the reader fails with it
pub fails_with : {X : Type 0} (f : FlatError) (r : Result X FlatError) → Err f ≡ r → Fails f r
fails_with faults.Memory r e = tt
fails_with faults.DegreeOverflow r e = sym e
fails_with (faults.Shape place) r e = sym e
fails_with faults.EmptyList r e = sym e
fails_with (faults.Operand place i) r e = sym e
fails_with (faults.WrongDegree place s k) r e = sym e
fails_with (faults.NotCanonical place) r e = sym e
