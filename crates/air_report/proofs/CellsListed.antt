-- The list of violated boundary values grows by one at a time.
use Rattle.std.proofs.Common.{◌≡◌, ℕ, suc, ◌+◌, ◌-◌, ◌<◌, ◌≤◌, ◌^◌, min, List, [], ◌∷◌, ◌++◌, map, length, take, drop, get_or, Bool, true, false, cond, Option, None, Some, slice_get, refl, sym, ap, ◌∙◌, subst, arith, append_assoc, length-append}
use Rattle.std.specs.List.{filter, enumerate_from}
use Rattle.std.proofs.lemmas.List.{map-append, take_more, take_all, length-take, length-map, take-append-le, take-append-drop, append-nil}
use Rattle.std.proofs.lemmas.List.Elements.{filter-append}
use Rattle.std.proofs.Math.Seq.{take-append-add}
use Rattle.air_field.specs.Ring.{CommRing}
use Rattle.air_field.specs.Grid.{Grid}
use Rattle.air_core.specs.declared.boundary.BoundaryPublic.{BoundaryPublic}
use Rattle.air_report.specs.Cells.{is_violated, violated_cells, take_within_cap, cell_place, cell_label, label_text, ListsCells, IsListedPast}
use Rattle.air_report.specs.Report.{failure_place, IsReached}
use Rattle.air_report.specs.laws.Debug.{enumerate_from-append}
use Rattle.air_report.specs.declared.debug.failure.ConstraintFailure.{ConstraintFailure}

-- a cap that isn't reached leaves all elements
below_cap : {X : Type 0} (cap n : ℕ) (xs : List X) → (cap ≤ n + length (take (cap - n) xs) → ⊥) → length xs + 1 ≤ cap - n
below_cap cap n xs h =
    let lens : length (take (cap - n) xs) ≡ min (cap - n) (length xs) = length-take (cap - n) xs in
    omega (arith, lens, h)

-- one more element after those that a cap has left, if it isn't reached
left_of-more : {X : Type 0} (cap : Option ℕ) (n : ℕ) (xs : List X) (x : X) → (IsReached cap (n + length (take_within_cap cap n xs)) → ⊥) → take_within_cap cap n (xs ++ x ∷ []) ≡ take_within_cap cap n xs ++ x ∷ []
left_of-more None n xs x h = refl
left_of-more (Some cap) n xs x h =
    let few : length xs + 1 ≤ cap - n = below_cap cap n xs h in
    let fit : length (xs ++ x ∷ []) ≤ cap - n = omega (arith, length-append xs (x ∷ [])) in
    take_all (cap - n) (xs ++ x ∷ []) fit ∙ ap (λ l. l ++ x ∷ []) (sym (take_all (cap - n) xs (omega arith)))

-- if the cap is reached, the rest adds nothing
left_of-full : {X : Type 0} (cap : Option ℕ) (n : ℕ) (xs ys : List X) → IsReached cap (n + length (take_within_cap cap n xs)) → take_within_cap cap n (xs ++ ys) ≡ take_within_cap cap n xs
left_of-full None n xs ys h = absurd h
left_of-full (Some cap) n xs ys h =
    let lens : length (take (cap - n) xs) ≡ min (cap - n) (length xs) = length-take (cap - n) xs in
    take-append-le (cap - n) xs ys (omega (arith, lens, h))

get_seam : {X : Type 0} (xs : List X) (x : X) (ys : List X) → slice_get (xs ++ x ∷ ys) (length xs) ≡ Some x
get_seam [] x ys = refl
get_seam (y ∷ xs) x ys = get_seam xs x ys

-- the next element is among those that a cap leaves, if it isn't reached
left_of-next : {X : Type 0} (cap : Option ℕ) (n : ℕ) (xs : List X) (x : X) (ys : List X) → (IsReached cap (n + length (take_within_cap cap n xs)) → ⊥) → slice_get (take_within_cap cap n (xs ++ x ∷ ys)) (length xs) ≡ Some x
left_of-next None n xs x ys h = get_seam xs x ys
left_of-next (Some cap) n xs x ys h =
    let few : length xs + 1 ≤ cap - n = below_cap cap n xs h in
    let m = (cap - n) - (length xs + 1) in
    let whole : cap - n ≡ length xs + suc m = omega arith in
    ap (λ k. slice_get (take k (xs ++ x ∷ ys)) (length xs)) whole
    ∙ (ap (λ l. slice_get l (length xs)) (take-append-add xs (x ∷ ys) (suc m)) ∙ get_seam xs x (take m ys))

left_of-none : {X : Type 0} (cap : Option ℕ) (n : ℕ) → take_within_cap {X = X} cap n [] ≡ []
left_of-none None n = refl
left_of-none (Some cap) n = take_all (cap - n) [] (omega arith)

pub lists_none : (h count : ℕ) (cap : Option ℕ) (n : ℕ) (fs : List ConstraintFailure) → ListsCells h count (take_within_cap cap n []) fs fs
lists_none h count cap n fs = record {
  more = [];
  failures = sym (append-nil fs);
  places = ap (map (cell_place h count)) (sym (left_of-none cap n));
  labels = ap (map (λ (p : ℕ × BoundaryPublic). Some (cell_label p.1))) (sym (left_of-none cap n));
}

lists_one : (h count : ℕ) (xs : List (ℕ × BoundaryPublic)) (p : ℕ × BoundaryPublic) (fs gs hs : List ConstraintFailure) (f : ConstraintFailure) → ListsCells h count xs fs gs → hs ≡ gs ++ f ∷ [] → failure_place f ≡ cell_place h count p → label_text f ≡ Some (cell_label p.1) → ListsCells h count (xs ++ p ∷ []) fs hs
lists_one h count xs p fs gs hs f l e place label =
    let label_of : ℕ × BoundaryPublic → Option (List ℕ) = λ q. Some (cell_label q.1) in
    record {
      more = l.more ++ f ∷ [];
      failures = e ∙ (ap (λ us. us ++ f ∷ []) l.failures ∙ append_assoc fs l.more (f ∷ []));
      places = map-append failure_place l.more (f ∷ [])
          ∙ (ap (λ us. us ++ failure_place f ∷ []) l.places
          ∙ (ap (λ q. map (cell_place h count) xs ++ q ∷ []) place ∙ sym (map-append (cell_place h count) xs (p ∷ []))));
      labels = map-append label_text l.more (f ∷ [])
          ∙ (ap (λ us. us ++ label_text f ∷ []) l.labels
          ∙ (ap (λ q. map label_of xs ++ q ∷ []) label ∙ sym (map-append label_of xs (p ∷ []))));
    }

length-lists : (h count : ℕ) (xs : List (ℕ × BoundaryPublic)) (fs gs : List ConstraintFailure) → ListsCells h count xs fs gs → length gs ≡ length fs + length xs
length-lists h count xs fs gs l =
    ap length l.failures ∙ (length-append fs l.more ∙ ap (λ n. length fs + n) (sym (length-map l.more failure_place) ∙ (ap length l.places ∙ length-map xs (cell_place h count))))

module _ {F : Type 0} (r : CommRing F) (eq : F → F → Bool) (main : Grid F) (public : List F) where
  violated-append : (xs ys : List BoundaryPublic) → violated_cells r eq main public (xs ++ ys) ≡ violated_cells r eq main public xs ++ filter (λ p. is_violated r eq main public p.1) (enumerate_from (length xs) ys)
  violated-append xs ys =
      let test : ℕ × BoundaryPublic → Bool = λ p. is_violated r eq main public p.1 in
      let e : 0 + length xs ≡ length xs = omega arith in
      ap (filter test) (enumerate_from-append 0 xs ys ∙ ap (λ n. enumerate_from 0 xs ++ enumerate_from n ys) e)
      ∙ filter-append test (enumerate_from 0 xs) (enumerate_from (length xs) ys)

  violated-more : (cells : List BoundaryPublic) (i : ℕ) (d : BoundaryPublic) → i < length cells → violated_cells r eq main public (take (i + 1) cells) ≡ violated_cells r eq main public (take i cells) ++ cond (is_violated r eq main public (get_or cells i d)) ((i, get_or cells i d) ∷ []) []
  violated-more cells i d lt =
      let test : ℕ × BoundaryPublic → Bool = λ p. is_violated r eq main public p.1 in
      let e : length (take i cells) ≡ i = length-take i cells ∙ omega arith in
      ap (violated_cells r eq main public) (take_more cells i d lt)
      ∙ (violated-append (take i cells) (get_or cells i d ∷ [])
      ∙ ap (λ n. violated_cells r eq main public (take i cells) ++ filter test (enumerate_from n (get_or cells i d ∷ []))) e)

  -- all violated boundary values, from the first i and the rest
  violated-rest : (cells : List BoundaryPublic) (i : ℕ) → violated_cells r eq main public cells ≡ violated_cells r eq main public (take i cells) ++ filter (λ p. is_violated r eq main public p.1) (enumerate_from (length (take i cells)) (drop i cells))
  violated-rest cells i = ap (violated_cells r eq main public) (sym (take-append-drop i cells)) ∙ violated-append (take i cells) (drop i cells)

  module _ (height count : ℕ) (cap : Option ℕ) (cells : List BoundaryPublic) (i : ℕ) (fs gs : List ConstraintFailure) (l : ListsCells height count (take_within_cap cap (length fs) (violated_cells r eq main public (take i cells))) fs gs) where
    -- a boundary value that holds adds nothing
    pub lists_same : (d : BoundaryPublic) → i < length cells → is_violated r eq main public (get_or cells i d) ≡ false → ListsCells height count (take_within_cap cap (length fs) (violated_cells r eq main public (take (i + 1) cells))) fs gs
    lists_same d lt e =
        let same : violated_cells r eq main public (take (i + 1) cells) ≡ violated_cells r eq main public (take i cells) =
        violated-more cells i d lt ∙ (ap (λ b. violated_cells r eq main public (take i cells) ++ cond b ((i, get_or cells i d) ∷ []) []) e ∙ append-nil (violated_cells r eq main public (take i cells))) in
        subst (λ xs. ListsCells height count (take_within_cap cap (length fs) xs) fs gs) (sym same) l

    open_cap : (IsReached cap (length gs) → ⊥) → IsReached cap (length fs + length (take_within_cap cap (length fs) (violated_cells r eq main public (take i cells)))) → ⊥
    open_cap few h =
        let e : length gs ≡ length fs + length (take_within_cap cap (length fs) (violated_cells r eq main public (take i cells))) = length-lists height count (take_within_cap cap (length fs) (violated_cells r eq main public (take i cells))) fs gs l in
        few (subst (λ n. IsReached cap n) (sym e) h)

    -- a violated boundary value is listed, if the cap isn't reached
    pub lists_new : (d : BoundaryPublic) (f : ConstraintFailure) (hs : List ConstraintFailure) → i < length cells → is_violated r eq main public (get_or cells i d) ≡ true → (IsReached cap (length gs) → ⊥) → hs ≡ gs ++ f ∷ [] → failure_place f ≡ cell_place height count (i, get_or cells i d) → label_text f ≡ Some (cell_label (get_or cells i d)) → ListsCells height count (take_within_cap cap (length fs) (violated_cells r eq main public (take (i + 1) cells))) fs hs
    lists_new d f hs lt e few push place label =
        let before = violated_cells r eq main public (take i cells) in
        let cell : ℕ × BoundaryPublic = (i, get_or cells i d) in
        let more : violated_cells r eq main public (take (i + 1) cells) ≡ before ++ cell ∷ [] =
        violated-more cells i d lt ∙ ap (λ b. before ++ cond b (cell ∷ []) []) e in
        let all = ap (take_within_cap cap (length fs)) more ∙ left_of-more cap (length fs) before cell (open_cap few) in
        subst (λ xs. ListsCells height count xs fs hs) (sym all) (lists_one height count (take_within_cap cap (length fs) before) cell fs gs hs f l push place label)

    -- if the cap is reached, all that it leaves are listed
    pub lists_full : IsReached cap (length gs) → ListsCells height count (take_within_cap cap (length fs) (violated_cells r eq main public cells)) fs gs
    lists_full full =
        let before = violated_cells r eq main public (take i cells) in
        let e : length gs ≡ length fs + length (take_within_cap cap (length fs) before) = length-lists height count (take_within_cap cap (length fs) before) fs gs l in
        let all = ap (take_within_cap cap (length fs)) (violated-rest cells i) ∙ left_of-full cap (length fs) before _ (subst (λ n. IsReached cap n) e full) in
        subst (λ xs. ListsCells height count xs fs gs) (sym all) l

    -- a violated boundary value is among the listed ones, if the cap isn't reached
    pub listed_past : (d : BoundaryPublic) → i < length cells → is_violated r eq main public (get_or cells i d) ≡ true → (IsReached cap (length gs) → ⊥) → 2 ^ 64 ≤ count + i → IsListedPast count (take_within_cap cap (length fs) (violated_cells r eq main public cells))
    listed_past d lt e few past =
        let before = violated_cells r eq main public (take i cells) in
        let cell : ℕ × BoundaryPublic = (i, get_or cells i d) in
        let test : ℕ × BoundaryPublic → Bool = λ p. is_violated r eq main public p.1 in
        let after = filter test (enumerate_from (length (take (i + 1) cells)) (drop (i + 1) cells)) in
        let more : violated_cells r eq main public (take (i + 1) cells) ≡ before ++ cell ∷ [] =
        violated-more cells i d lt ∙ ap (λ b. before ++ cond b (cell ∷ []) []) e in
        let all : violated_cells r eq main public cells ≡ before ++ cell ∷ after =
        violated-rest cells (i + 1) ∙ (ap (λ xs. xs ++ after) more ∙ append_assoc before (cell ∷ []) after) in
        record {
          at = length before;
          cell = cell;
          is_listed = ap (λ xs. slice_get (take_within_cap cap (length fs) xs) (length before)) all ∙ left_of-next cap (length fs) before cell after (open_cap few);
          past = past;
        }
