-- The state of a list reader, beside the result of reading the list.
use Rattle.std.proofs.Common.{◌≡◌, ℕ, ◌-◌, List, [], ◌∷◌, ◌++◌, length, map, Option, Some, None, option_map, Result, Ok, Err, IfOk, IfErr, refl, sym, ap, ap₂, subst, ◌∙◌}
use Rattle.std.proofs.lemmas.List.{length-map, map_push}
use Rattle.std.proofs.lemmas.Option.{slice_get-map}
use Rattle.std.specs.Prelude.{filter_map}
use Rattle.std.specs.Option.{ok_or}
use Rattle.std.specs.List.{slice_get}
use Rattle.air_symbolic.specs.Pools.{Pool}
use Rattle.serde_json.specs.Data.{Data, array}
use Rattle.serde_json.specs.View.{items_of}
use Rattle.air_symbolic.specs.Trees.{Tree}
use Rattle.air_json.specs.declared.errors.FlatError.{FlatError}
use Rattle.air_json.specs.declared.errors.FlatError.TheVariants as faults
use Rattle.air_json.specs.Results.{◌>>=◌, as_some, all_some, Fails, Gives}
use Rattle.air_json.specs.Nodes.{Kind, KindLaws, node_of_value, node_more, nodes_from, last_tree, root_of}
use Rattle.air_json.specs.NodeLists.{AreNodes, IsList, HasFault}
use Rattle.air_json.specs.ListReaders.{last_number, HasRead, IsNumbered, ReadsInto}
use Rattle.air_json.specs.laws.Lists.{nodes_found, nodes_again, fault_found, fault_read, root_found, root_fault, fails_is, fails_if, gives_ok, gives_err}
use Rattle.air_json.specs.laws.Readings.{ok_of, done_is, bind_ok, before_done}
use Rattle.air_json.proofs.Growing.{AllBelow}
use Rattle.air_json.proofs.NumberTrees.{there_are}
use Rattle.air_json.proofs.Loop.{carry}

-- a fault of a result mapped by h is a fault of the result
pub fails_before : {X Y : Type 0} (f : FlatError) (r : Result X FlatError) (h : X → Y) → Fails f (r >>= λ x. ok_of (h x)) → Fails f r
fails_before f r h e = fails_if f r (λ n. before_done r h f (fails_is f (r >>= λ x. ok_of (h x)) e n))

nodes_push : {S F : Type 0} (kind : Kind S F) (ok_of : List (Tree S)) (ds : List Data) (d : Data) → nodes_from kind ok_of (items_of (ds ++ d ∷ [])) ≡ node_more kind (nodes_from kind ok_of (items_of ds)) d
unfolding nodes_from
nodes_push kind ok_of [] d = refl
nodes_push {S} kind ok_of (e ∷ ds) d = later (node_of_value kind ok_of e) (λ t. nodes_push kind (ok_of ++ t ∷ []) ds d)
  where
    later : (r : Result (Tree S) FlatError) → ((t : Tree S) → nodes_from kind (ok_of ++ t ∷ []) (items_of (ds ++ d ∷ [])) ≡ node_more kind (nodes_from kind (ok_of ++ t ∷ []) (items_of ds)) d)
        → (r >>= λ t. nodes_from kind (ok_of ++ t ∷ []) (items_of (ds ++ d ∷ []))) ≡ node_more kind (r >>= λ t. nodes_from kind (ok_of ++ t ∷ []) (items_of ds)) d
    later (Ok t) h = h t
    later (Err f) h = refl

-- one more node is one more tree
pub more_given : {S F : Type 0} (kind : Kind S F) (before : List (Tree S)) (d : Data) (olds : List (Option (Tree S))) (o : Option (Tree S)) → as_some (node_of_value kind before d) ≡ Ok o → olds ≡ map Some before
    → all_some (node_more kind (Ok before) d) ≡ Ok (olds ++ o ∷ [])
more_given kind before d olds o good are =
    let t = bind_ok (node_of_value kind before d) (λ t. ok_of (Some t)) o good in
    ap (λ r. all_some (r >>= λ t. ok_of (before ++ t ∷ []))) t.1
    ∙ ap (λ l. ok_of l) (map_push (λ t. Some t) before t.0)
    ∙ ap₂ (λ l v. ok_of (l ++ v ∷ [])) (sym are) (done_is (λ v. Some t.0 ≡ v) (Some t.0) o t.2 refl)

-- ---- the last number

found_there : {X : Type 0} (g : ℕ → X) (o : Option ℕ) → Gives g (ok_or o faults.EmptyList) (ok_or (option_map g o) faults.EmptyList)
found_there g None = refl
found_there g (Some i) = refl

last_mapped : {X : Type 0} (g : ℕ → X) (ids : List ℕ) → Gives g (last_number (Ok ids)) (ok_or (slice_get (map g ids) (length (map g ids) - 1)) faults.EmptyList)
last_mapped g ids =
    let same : length (map g ids) - 1 ≡ length ids - 1 = ap (λ n. n - 1) (length-map ids g) in
    subst (λ o. Gives g (last_number (Ok ids)) (ok_or o faults.EmptyList)) (sym (ap (slice_get (map g ids)) same ∙ slice_get-map g ids (length ids - 1))) (found_there g (slice_get ids (length ids - 1)))

some_last : {X : Type 0} (o : Option X) → ok_or (option_map (λ x. Some x) o) faults.EmptyList ≡ as_some (ok_or o faults.EmptyList)
some_last None = refl
some_last (Some x) = refl

last_some : {S : Type 0} (ts : List (Tree S)) → ok_or (slice_get (map Some ts) (length (map Some ts) - 1)) faults.EmptyList ≡ as_some (last_tree ts)
unfolding last_tree
last_some ts =
    let same : length (map Some ts) - 1 ≡ length ts - 1 = ap (λ n. n - 1) (length-map ts (λ t. Some t)) in
    ap (λ o. ok_or o faults.EmptyList) (ap (slice_get (map Some ts)) same ∙ slice_get-map (λ t. Some t) ts (length ts - 1))
    ∙ some_last (slice_get ts (length ts - 1))

last_seen : {S : Type 0} (g : ℕ → Option (Tree S)) (ids : List ℕ) (ts : List (Tree S)) → map g ids ≡ map Some ts → Gives g (last_number (Ok ids)) (as_some (last_tree ts))
last_seen g ids ts e =
    subst (Gives g (last_number (Ok ids)))
    (ap (λ l. ok_or (slice_get l (length l - 1)) faults.EmptyList) e ∙ last_some ts)
    (last_mapped g ids)

-- ---- a reader

module _ {U A S F : Type 0} (kind : Kind S F) (laws : KindLaws kind) (tree : Pool U A → ℕ → Option (Tree S)) where
  module _ (p : Pool U A) (ds : List Data) where
    abbrev given : Result (List (Tree S)) FlatError
    given = nodes_from kind [] (items_of ds)

    abbrev whole : Data
    whole = array (items_of ds)

    given_all : (ts : List (Tree S)) → AreNodes kind [] (items_of ds) ts → given ≡ Ok ts
    given_all ts are = nodes_again kind laws [] (items_of ds) ts are

    given_fails : (f : FlatError) → HasRead kind tree p ds (Err f) → Fails f given
    given_fails f h = fails_if f given (λ n. fault_read kind laws [] (items_of ds) f (h.fault n))

    gives_read : (r : Result (List ℕ) FlatError) → IfOk r (AllBelow (length p.nodes)) → Gives (map (tree p)) r (all_some given) → HasRead kind tree p ds r
    gives_read (Ok ids) here g =
        let ts = bind_ok given (λ ts. ok_of (map Some ts)) (map (tree p) ids) g in
        let us = nodes_found kind laws [] (items_of ds) ts.0 ts.1 in
        record {
          here = here;
          nodes = (ts.0, done_is (λ l. l ≡ map Some ts.0) (map Some ts.0) (map (tree p) ids) ts.2 refl, subst (AreNodes kind [] (items_of ds)) (sym us.1) us.2);
          fault = tt;
        }
    gives_read (Err f) here g = record {
      here = tt;
      nodes = tt;
      fault = λ n. fault_found kind laws [] (items_of ds) f (fails_is f given (fails_before f given (λ ts. map Some ts) g) n);
    }

    -- ---- the root

    root_gives : (r : Result (List ℕ) FlatError) → HasRead kind tree p ds r → Gives (tree p) (last_number r) (root_of kind whole)
    unfolding root_of
    root_gives (Ok ids) h =
        let n = h.nodes in
        subst (Gives (tree p) (last_number (Ok ids))) (sym (ap (λ (g : Result (List (Tree S)) FlatError). g >>= λ ts. as_some (last_tree ts)) (given_all n.0 n.2))) (last_seen (tree p) ids n.0 n.1)
    root_gives (Err f) h = carry f given (λ ts. as_some (last_tree ts)) _ refl (given_fails f h)

    pub root_is : (r : Result (List ℕ) FlatError) → HasRead kind tree p ds r → IfOk (last_number r) (λ i. IsList kind whole (tree p i))
    root_is r h = gives_ok (IsList kind whole) (tree p) (last_number r) (root_of kind whole) (root_gives r h) (root_found kind laws whole)

    pub root_fails : (r : Result (List ℕ) FlatError) → HasRead kind tree p ds r → IfErr (last_number r) (λ f. (f ≡ faults.Memory → ⊥) → HasFault kind whole f)
    root_fails r h = gives_err (HasFault kind whole) (tree p) (last_number r) (root_of kind whole) (root_gives r h) (root_fault kind laws whole)

  -- ---- one more node

  module _ (p q : Pool U A) (ds : List Data) (d : Data) where
    pub still_read : (f : FlatError) → HasRead kind tree p ds (Err f) → HasRead kind tree q (ds ++ d ∷ []) (Err f)
    still_read f h =
        gives_read q (ds ++ d ∷ []) (Err f) tt
        (carry f (nodes_from kind [] (items_of (ds ++ d ∷ []))) (λ ts. ok_of (map Some ts)) _ refl
        (carry f (nodes_from kind [] (items_of ds)) (λ ok_of. node_of_value kind ok_of d >>= λ t. Ok (ok_of ++ t ∷ [])) _ (sym (nodes_push kind [] ds d)) (given_fails p ds f h)))

    pub read_on : (ids : List ℕ) (r : Result (List ℕ) FlatError) → IfOk r (AllBelow (length q.nodes)) → Gives (map (tree q)) r (all_some (node_more kind (Ok (filter_map (tree p) ids)) d))
        → HasRead kind tree p ds (Ok ids) → HasRead kind tree q (ds ++ d ∷ []) r
    read_on ids r here g h =
        let n = h.nodes in
        let so_far : nodes_from kind [] (items_of ds) ≡ Ok (filter_map (tree p) ids) = given_all p ds n.0 n.2 ∙ ap (λ ts. ok_of ts) (sym (there_are (tree p) ids n.0 n.1)) in
        let same = nodes_push kind [] ds d ∙ ap (λ so_far. node_more kind so_far d) so_far in
        gives_read q (ds ++ d ∷ []) r here (subst (λ given. Gives (map (tree q)) r (all_some given)) (sym same) g)

-- a list that was read has been read into the pool
module _ {U A S F : Type 0} (kind : Kind S F) (tree : Pool U A → ℕ → Option (Tree S)) (p q : Pool U A) (ds : List Data) where
  if_ok : {X P : Type 0} (r : Result X FlatError) → P → IfOk r (λ _. P)
  if_ok (Ok x) h = h
  if_ok (Err f) h = tt

  pub read_into : (reader : Result (List ℕ) FlatError) (r : Result ℕ FlatError) → r ≡ last_number reader → HasRead kind tree q ds reader → IsNumbered (length p.nodes) reader (length q.nodes)
      → IfOk r (λ _. ReadsInto kind tree p q (items_of ds))
  read_into (Ok ids) r e h k = let n = h.nodes in if_ok r record { ids = ids; trees = n.0; nodes = n.2; are = n.1; numbered = k }
  read_into (Err f) r e h k = subst (λ (r : Result ℕ FlatError). IfOk r (λ _. ReadsInto kind tree p q (items_of ds))) (sym e) tt
