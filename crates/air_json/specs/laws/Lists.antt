-- A value is a list of nodes of one tree, or has one first fault.
use Rattle.std.proofs.Common.{◌≡◌, ◌≢◌, ℕ, suc, zero, ◌<◌, ◌-◌, List, [], ◌∷◌, ◌++◌, append_assoc, length, Option, Some, None, Result, Ok, Err, refl, sym, ap, subst, ◌∙◌, arith, inl, inr}
use Rattle.std.specs.Option.{ok_or}
use Rattle.std.specs.Result.{IfOk, IfErr}
use Rattle.std.specs.List.{slice_get}
use Rattle.std.proofs.lemmas.List.{append-nil, length_push}
use Rattle.serde_json.specs.Data.{Data, array, Items, no_items, item}
use Rattle.serde_json.specs.Find.{as_array}
use Rattle.air_symbolic.specs.Trees.{Tree}
use Rattle.air_json.specs.declared.errors.FlatError.{FlatError}
use Rattle.air_json.specs.declared.errors.FlatError.TheVariants as faults
use Rattle.air_json.specs.Results.{◌>>=◌, as_some, Fails, Gives}
use Rattle.air_json.specs.laws.Readings.{ok_of, done_is, not_done, bind_ok, ok_or_found, err_of, err_is, before_done}
use Rattle.air_json.specs.Nodes.{Kind, KindLaws, node_of_value, nodes_from, last_tree, root_of}
use Rattle.air_json.specs.NodeLists.{AreNodes, IsList, FirstFault, ItemsFault, HasFault}
use Rattle.air_json.specs.laws.Nodes.{node_found, node_again}
use Rattle.air_json.specs.laws.NodeFaults.{node_fault, node_fails}

-- ---- the last of a list

last_at : {X : Type 0} (us : List X) (k : ℕ) (t : X) → length us ≡ suc k → slice_get us k ≡ Some t → (before : List X) × (us ≡ before ++ t ∷ [])
last_at [] k t len at = absurd (omega arith)
last_at {X} (x ∷ []) zero t len at = ([], ap (λ (o : Option X). elim o as (λ _. List X) [ Some y ↦ y ∷ [] | None ↦ [] ]) at)
last_at (x ∷ []) (suc k) t len at = absurd (omega arith)
last_at (x ∷ y ∷ us) zero t len at = absurd (omega arith)
last_at (x ∷ y ∷ us) (suc k) t len at =
    let r = last_at (y ∷ us) k t (omega arith) at in
    (x ∷ r.0, ap (λ l. x ∷ l) r.1)

last_split : {S : Type 0} (us : List (Tree S)) (t : Tree S) → last_tree us ≡ Ok t → (before : List (Tree S)) × (us ≡ before ++ t ∷ [])
unfolding last_tree
last_split [] t e = absurd cc
last_split (x ∷ us) t e =
    let k : length (x ∷ us) - 1 ≡ length us = omega arith in
    last_at (x ∷ us) (length us) t refl (ap (slice_get (x ∷ us)) (sym k) ∙ ok_or_found _ _ t e)

at_push : {X : Type 0} (before : List X) (t : X) → slice_get (before ++ t ∷ []) (length before) ≡ Some t
at_push [] t = refl
at_push (x ∷ before) t = at_push before t

last_of_push : {S : Type 0} (before : List (Tree S)) (t : Tree S) → last_tree (before ++ t ∷ []) ≡ Ok t
unfolding last_tree
last_of_push before t =
    let k : length (before ++ t ∷ []) - 1 ≡ length before = omega (arith, length_push before t) in
    ap (λ o. ok_or o faults.EmptyList) (ap (slice_get (before ++ t ∷ [])) k ∙ at_push before t)

there : {X : Type 0} (us : List X) (k : ℕ) → k < length us → (t : X) × (slice_get us k ≡ Some t)
there [] k h = absurd (omega arith)
there (x ∷ us) zero h = (x, refl)
there (x ∷ us) (suc k) h = there us k (omega (arith, h))

last_there : {S : Type 0} (x : Tree S) (us : List (Tree S)) (f : FlatError) → last_tree (x ∷ us) ≡ Err f → ⊥
unfolding last_tree
last_there x us f e =
    let t = there (x ∷ us) (length (x ∷ us) - 1) (omega arith) in
    not_done (λ _. ⊥) f t.0 (sym e ∙ ap (λ o. ok_or o faults.EmptyList) t.1)

module _ {S F : Type 0} (kind : Kind S F) (laws : KindLaws kind) where
  pub nodes_found : (before : List (Tree S)) (ds : Items) (ts : List (Tree S)) → nodes_from kind before ds ≡ Ok ts → (us : List (Tree S)) × (ts ≡ before ++ us) × AreNodes kind before ds us
  unfolding nodes_from
  nodes_found before no_items ts e = ([], done_is (λ v. v ≡ before ++ []) before ts e (sym (append-nil before)), tt)
  nodes_found before (item d ds) ts e =
      let t = bind_ok (node_of_value kind before d) (λ t. nodes_from kind (before ++ t ∷ []) ds) ts e in
      let r = nodes_found (before ++ t.0 ∷ []) ds ts t.2 in
      (t.0 ∷ r.0, r.1 ∙ append_assoc before (t.0 ∷ []) r.0, (node_found kind laws before d t.0 t.1, r.2))

  pub nodes_again : (before : List (Tree S)) (ds : Items) (us : List (Tree S)) → AreNodes kind before ds us → nodes_from kind before ds ≡ Ok (before ++ us)
  unfolding nodes_from
  nodes_again before no_items [] h = ap (λ v. ok_of v) (sym (append-nil before))
  nodes_again before no_items (t ∷ us) h = absurd h
  nodes_again before (item d ds) [] h = absurd h
  nodes_again before (item d ds) (t ∷ us) h =
      ap (λ r. r >>= λ t. nodes_from kind (before ++ t ∷ []) ds) (node_again kind laws before d t h.0)
      ∙ nodes_again (before ++ t ∷ []) ds us h.1 ∙ ap (λ v. ok_of v) (append_assoc before (t ∷ []) us)

  pub fault_found : (before : List (Tree S)) (ds : Items) (f : FlatError) → nodes_from kind before ds ≡ Err f → FirstFault kind before ds f
  unfolding nodes_from
  fault_found before no_items f e = absurd cc
  fault_found before (item d ds) f e = at_node (λ t. fault_found (before ++ t ∷ []) ds f) (node_of_value kind before d) refl e
    where
      at_node : ((t : Tree S) → nodes_from kind (before ++ t ∷ []) ds ≡ Err f
          → FirstFault kind (before ++ t ∷ []) ds f)
          → (r : Result (Tree S) FlatError) → node_of_value kind before d ≡ r
          → (r >>= λ t. nodes_from kind (before ++ t ∷ []) ds) ≡ Err f → FirstFault kind before (item d ds) f
      at_node later (Ok t) is e = inr (t, node_found kind laws before d t is, later t e)
      at_node later (Err g) is e = inl (node_fault kind laws before d f (is ∙ ap (λ h. err_of h) (err_is {A = List (Tree S)} g f e)))

  pub fault_read : (before : List (Tree S)) (ds : Items) (f : FlatError) → FirstFault kind before ds f → nodes_from kind before ds ≡ Err f
  unfolding nodes_from
  fault_read before no_items f h = absurd h
  fault_read before (item d ds) f (inl h) = ap (λ r. r >>= λ t. nodes_from kind (before ++ t ∷ []) ds) (node_fails kind laws before d f h)
  fault_read before (item d ds) f (inr h) =
      ap (λ r. r >>= λ t. nodes_from kind (before ++ t ∷ []) ds) (node_again kind laws before d h.0 h.1) ∙ fault_read (before ++ h.0 ∷ []) ds f h.2

  abbrev after : Items → Result (Option (Tree S)) FlatError
  after ds = nodes_from kind [] ds >>= λ ts. as_some (last_tree ts)

  abbrev whole : Option Items → Result (Option (Tree S)) FlatError
  whole o = ok_or o (faults.Shape 0) >>= λ ds. after ds

  pub root_found : (d : Data) (o : Option (Tree S)) → root_of kind d ≡ Ok o → IsList kind d o
  unfolding root_of
  root_found d o e =
      let ds = bind_ok (ok_or (as_array d) (faults.Shape 0)) after o e in
      let ts = bind_ok (nodes_from kind [] ds.0) (λ ts. as_some (last_tree ts)) o ds.2 in
      let t = bind_ok (last_tree ts.0) (λ t. ok_of (Some t)) o ts.2 in
      let us = nodes_found [] ds.0 ts.0 ts.1 in
      let last = last_split us.0 t.0 (ap last_tree (sym us.1) ∙ t.1) in
      record {
        items = ds.0;
        before = last.0;
        root = t.0;
        tree = done_is (λ v. v ≡ Some t.0) (Some t.0) o t.2 refl;
        is = ok_or_found (as_array d) (faults.Shape 0) ds.0 ds.1;
        nodes = subst (AreNodes kind [] ds.0) {x = us.0} {y = last.0 ++ t.0 ∷ []} last.1 us.2;
      }

  pub root_again : (d : Data) (o : Option (Tree S)) → IsList kind d o → root_of kind d ≡ Ok o
  unfolding root_of
  root_again d o h =
      ap whole h.is
      ∙ ap (λ r. r >>= λ ts. as_some (last_tree ts)) (nodes_again [] h.items (h.before ++ h.root ∷ []) h.nodes)
      ∙ ap (λ r. as_some r) (last_of_push h.before h.root)
      ∙ ap (λ v. ok_of v) (sym h.tree)

  items_fault : (ds : Items) (r : Result (List (Tree S)) FlatError) (f : FlatError) → nodes_from kind [] ds ≡ r → (r >>= λ ts. as_some (last_tree ts)) ≡ Err f → ItemsFault kind ds f
  unfolding nodes_from last_tree
  items_fault no_items (Ok ts) f is e =
      sym (err_is faults.EmptyList f (ap (λ us. as_some (ok_or (slice_get us (length us - 1)) faults.EmptyList)) (done_is (λ v. [] ≡ v) [] ts is refl) ∙ e))
  items_fault no_items (Err g) f is e = absurd cc
  items_fault (item d ds) (Ok ts) f is e = absurd (found (nodes_found [] (item d ds) ts is))
    where
      found : (us : List (Tree S)) × (ts ≡ [] ++ us) × AreNodes kind [] (item d ds) us → ⊥
      found ([], same, h) = h
      found (u ∷ us, same, h) = last_there u us f (ap last_tree (sym same) ∙ before_done (last_tree ts) (λ t. Some t) f e)
  items_fault (item d ds) (Err g) f is e = fault_found [] (item d ds) f (is ∙ ap (λ h. err_of h) (err_is g f e))

  pub root_fault : (d : Data) (f : FlatError) → root_of kind d ≡ Err f → HasFault kind d f
  unfolding root_of
  root_fault d f e = by_array (as_array d) refl e
    where
      by_array : (o : Option Items) → as_array d ≡ o → whole o ≡ Err f → HasFault kind d f
      by_array None is e = inl (is, sym (err_is (faults.Shape 0) f e))
      by_array (Some ds) is e = inr (ds, is, items_fault ds (nodes_from kind [] ds) f refl e)

  items_fault_read : (ds : Items) (f : FlatError) → ItemsFault kind ds f → after ds ≡ Err f
  unfolding nodes_from last_tree
  items_fault_read no_items f h = ap (λ g. err_of g) (sym h)
  items_fault_read (item d ds) f h = ap (λ r. r >>= λ ts. as_some (last_tree ts)) (fault_read [] (item d ds) f h)

  pub root_fault_read : (d : Data) (f : FlatError) → HasFault kind d f → root_of kind d ≡ Err f
  unfolding root_of
  root_fault_read d f (inl h) = ap whole h.0 ∙ ap (λ g. err_of g) (sym h.1)
  root_fault_read d f (inr h) = ap whole h.1 ∙ items_fault_read h.0 f h.2

  -- ---- consequences

  pub one_tree : (d : Data) (t u : Option (Tree S)) → IsList kind d t → IsList kind d u → t ≡ u
  one_tree d t u h k = done_is (λ v. t ≡ v) t u (sym (root_again d t h) ∙ root_again d u k) refl

  pub no_fault : (d : Data) (t : Option (Tree S)) (f : FlatError) → IsList kind d t → HasFault kind d f → ⊥
  no_fault d t f h k = not_done (λ _. ⊥) f t (sym (root_fault_read d f k) ∙ root_again d t h)

  pub one_fault : (d : Data) (f g : FlatError) → HasFault kind d f → HasFault kind d g → f ≡ g
  one_fault d f g h k = err_is f g (sym (root_fault_read d f h) ∙ root_fault_read d g k)

-- ---- the answers of a reader

pub gives_ok : {X Y : Type 0} (P : Y → Type 0) (view : X → Y) (r : Result X FlatError) (read : Result Y FlatError) → Gives view r read → ((y : Y) → read ≡ Ok y → P y) → IfOk r (λ x. P (view x))
gives_ok P view (Ok x) read g h = h (view x) g
gives_ok P view (Err f) read g h = tt

pub fails_is : {Y : Type 0} (f : FlatError) (read : Result Y FlatError) → Fails f read → f ≢ faults.Memory → read ≡ Err f
fails_is faults.Memory read g n = absurd (n refl)
fails_is faults.DegreeOverflow read g n = g
fails_is (faults.Shape at) read g n = g
fails_is faults.EmptyList read g n = g
fails_is (faults.Operand at operand) read g n = g
fails_is (faults.WrongDegree at stated found) read g n = g
fails_is (faults.NotCanonical at) read g n = g

pub gives_err : {X Y : Type 0} (P : FlatError → Type 0) (view : X → Y) (r : Result X FlatError)
    (read : Result Y FlatError)
    → Gives view r read → ((f : FlatError) → read ≡ Err f → P f) → IfErr r (λ f. f ≢ faults.Memory → P f)
gives_err P view (Ok x) read g h = tt
gives_err P view (Err f) read g h = λ n. h f (fails_is f read g n)

pub fails_if : {Y : Type 0} (f : FlatError) (read : Result Y FlatError) → (f ≢ faults.Memory → read ≡ Err f) → Fails f read
fails_if faults.Memory read h = tt
fails_if faults.DegreeOverflow read h = h (λ e. absurd cc)
fails_if (faults.Shape at) read h = h (λ e. absurd cc)
fails_if faults.EmptyList read h = h (λ e. absurd cc)
fails_if (faults.Operand at operand) read h = h (λ e. absurd cc)
fails_if (faults.WrongDegree at stated found) read h = h (λ e. absurd cc)
fails_if (faults.NotCanonical at) read h = h (λ e. absurd cc)

-- a call that answers a list's root or its first fault answers the result of reading
pub root_given : {X S F : Type 0} (kind : Kind S F) (laws : KindLaws kind) (tree : X → Option (Tree S)) (d : Data) (r : Result X FlatError)
    → IfOk r (λ i. IsList kind d (tree i)) → IfErr r (λ f. f ≢ faults.Memory → HasFault kind d f) → Gives tree r (root_of kind d)
root_given kind laws tree d (Ok i) h n = root_again kind laws d (tree i) h
root_given kind laws tree d (Err f) h n = fails_if f (root_of kind d) (λ m. root_fault_read kind laws d f (n m))

-- a value is read by its items
pub same_root : {S F : Type 0} (kind : Kind S F) (d : Data) (ds : Items) → as_array d ≡ Some ds → root_of kind (array ds) ≡ root_of kind d
unfolding root_of
same_root kind d ds e = ap (λ o. ok_or o (faults.Shape 0) >>= λ es. nodes_from kind [] es >>= λ ts. as_some (last_tree ts)) (sym e)
