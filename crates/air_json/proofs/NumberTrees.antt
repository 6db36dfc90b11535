-- The results of reading by numbers of a pool, and by their trees.
use Rattle.std.proofs.Common.{◌≡◌, ℕ, suc, zero, ◌<◌, ◌==◌, Bool, true, false, bytes_eq, if◌then◌else◌, codes, List, [], ◌∷◌, length, map, Option, Some, None, option_map, Result, Ok, Err, refl, sym, ap, ap₂, subst, ◌∙◌, arith}
use Rattle.std.specs.Prelude.{filter_map}
use Rattle.std.specs.Option.{ok_or}
use Rattle.std.specs.List.{slice_get}
use Rattle.std.proofs.lemmas.List.{length-map}
use Rattle.std.proofs.lemmas.Option.{slice_get-map}
use Rattle.serde_json.specs.Data.{Data}
use Rattle.air_symbolic.specs.Leaves.{Leaves}
use Rattle.air_symbolic.specs.Trees.{Tree, both}
use Rattle.air_symbolic.specs.Pools.{Pool}
use Rattle.air_json.specs.declared.errors.FlatError.{FlatError}
use Rattle.air_json.specs.declared.errors.FlatError.TheVariants as faults
use Rattle.air_json.specs.declared.operations.Operation.{Operation}
use Rattle.air_json.specs.Results.{◌>>=◌, as_some}
use Rattle.air_json.specs.Unshared.{seen_at, degree, degree_of}
use Rattle.air_json.specs.ReadCalls.{AreOf}
use Rattle.air_json.specs.Nodes.{Kind, operand_of, operand, check_degree, operations, operands_of, joined_degree, joined_tree, operands_at, operation_at, operation_or, leaf_node_at, node_with, node_of_value}
use Rattle.air_json.specs.Parts.{only_member, find_name, case_or}
use Rattle.air_json.specs.laws.Readings.{ok_of, done_is, not_done, err_is}
use Rattle.air_json.proofs.Growing.{AllBelow}
use Rattle.air_json.proofs.SeenTrees.{seen_there}

module _ {X : Type 0} (tree : ℕ → Option X) where
  -- each number has a tree
  pub all_there : (n : ℕ) → ((i : ℕ) → i < n → (x : X) × (tree i ≡ Some x)) → (ids : List ℕ) → AllBelow n ids → map tree ids ≡ map Some (filter_map tree ids)
  all_there n there [] h = refl
  all_there n there (i ∷ ids) h =
      let x = there i (h zero zero (omega arith)) in
      let rest = all_there n there ids (λ k d lt. h (suc k) d (omega (arith, lt))) in
      rw x.1 (ap (λ (l : List (Option X)). Some x.0 ∷ l) rest)

  -- these are their trees
  pub there_are : (ids : List ℕ) (xs : List X) → map tree ids ≡ map Some xs → filter_map tree ids ≡ xs
  there_are [] [] e = refl
  there_are [] (x ∷ xs) e = absurd cc
  there_are (i ∷ ids) [] e = absurd cc
  there_are (i ∷ ids) (x ∷ xs) e =
      let first : tree i ≡ Some x = cc in
      let rest : map tree ids ≡ map Some xs = cc in
      rw first (ap (λ (l : List X). x ∷ l) (there_are ids xs rest))

  pub same_length : (ids : List ℕ) (xs : List X) → map tree ids ≡ map Some xs → length ids ≡ length xs
  same_length ids xs e = sym (length-map ids tree) ∙ ap length e ∙ length-map xs (λ x. Some x)

-- ---- one of two calls described by the other

alike : {X Y Z : Type 0} (f : X → Z) (g : Y → Z) (P : Result X FlatError → Result Y FlatError → Type 0) → ((e : FlatError) → P (Err e) (Err e)) → ((x : X) (y : Y) → f x ≡ g y → P (Ok x) (Ok y))
    → (r : Result X FlatError) (s : Result Y FlatError) → (r >>= λ x. ok_of (f x)) ≡ (s >>= λ y. ok_of (g y)) → P r s
alike f g P err ok (Ok x) (Ok y) e = ok x y (done_is (λ z. f x ≡ z) (f x) (g y) e refl)
alike f g P err ok (Ok x) (Err k) e = not_done (λ _. P (Ok x) (Err k)) k (f x) (sym e)
alike f g P err ok (Err k) (Ok y) e = not_done (λ _. P (Err k) (Ok y)) k (g y) e
alike {Z = Z} f g P err ok (Err h) (Err k) e = subst (λ j. P (Err h) (Err j)) (err_is {A = Z} h k e) (err h)

module _ {X Y : Type 0} (f : X → Y) where
  operand_mapped : (place i : ℕ) (o : Option X) → (operand_of place i o >>= λ x. ok_of (f x)) ≡ operand_of place i (option_map f o)
  operand_mapped place i None = refl
  operand_mapped place i (Some x) = refl

  operand-map : (xs : List X) (i : ℕ) → (operand xs i >>= λ x. ok_of (f x)) ≡ operand (map f xs) i
  unfolding operand
  operand-map xs i =
      operand_mapped (length xs) i (slice_get xs i)
      ∙ ap₂ (λ n o. operand_of n i o) (sym (length-map xs f)) (sym (slice_get-map f xs i))

-- ---- operations

module _ {S F : Type 0} (kind : Kind S F) (tree : ℕ → Option (Tree S)) (ids : List ℕ) (ts : List (Tree S)) (are : map tree ids ≡ map Some ts) (op : Operation) where
  abbrev weight : ℕ → ℕ
  weight i = degree_of kind.term (tree i)

  operand_read : (i : ℕ) → (operand ids i >>= λ x. ok_of (tree x)) ≡ (operand ts i >>= λ t. ok_of (Some t))
  operand_read i = operand-map tree ids i ∙ ap (λ l. operand l i) are ∙ sym (operand-map (λ t. Some t) ts i)

  abbrev joined : Result (ℕ × ℕ) FlatError → Result (Option (Tree S)) FlatError
  joined r = r >>= λ p. ok_of (both (joined_tree op) (tree p.0) (tree p.1))

  abbrev joined_trees : Result (Tree S × Tree S) FlatError → Result (Option (Tree S)) FlatError
  joined_trees r = as_some (r >>= λ q. ok_of (joined_tree op q.0 q.1))

  module _ (n d : ℕ) where
    by_degree : (x y : ℕ) (t u : Tree S) → tree x ≡ Some t → tree y ≡ Some u → (m : Result ℕ FlatError) → joined (m >>= λ k. check_degree n d k (x, y)) ≡ joined_trees (m >>= λ k. check_degree n d k (t, u))
    by_degree x y t u is also (Err f) = refl
    by_degree x y t u is also (Ok k) = by_test (d == k)
      where
        by_test : (b : Bool) → joined (if b then Ok (x, y) else Err (faults.WrongDegree n d k)) ≡ joined_trees (if b then Ok (t, u) else Err (faults.WrongDegree n d k))
        by_test true = ap₂ (λ o p. ok_of (both (joined_tree op) o p)) is also
        by_test false = refl

    abbrev behind : ℕ → ℕ → Result (ℕ × ℕ) FlatError
    behind x y = joined_degree op (weight x) (weight y) >>= λ k. check_degree n d k (x, y)

    abbrev behind_trees : Tree S → Tree S → Result (Tree S × Tree S) FlatError
    behind_trees t u = joined_degree op (degree kind.term t) (degree kind.term u) >>= λ k. check_degree n d k (t, u)

    behind_both : (x y : ℕ) (t u : Tree S) → tree x ≡ Some t → tree y ≡ Some u → joined (behind x y) ≡ joined_trees (behind_trees t u)
    behind_both x y t u is also =
        ap₂ (λ a b. joined (joined_degree op a b >>= λ k. check_degree n d k (x, y))) (ap (degree_of kind.term) is) (ap (degree_of kind.term) also)
        ∙ by_degree x y t u is also (joined_degree op (degree kind.term t) (degree kind.term u))

    by_operands : (i j : ℕ) → joined (operand ids i >>= λ x. operand ids j >>= λ y. behind x y) ≡ joined_trees (operand ts i >>= λ t. operand ts j >>= λ u. behind_trees t u)
    by_operands i j =
        alike tree (λ t. Some t) (λ r s. joined (r >>= λ x. operand ids j >>= λ y. behind x y) ≡ joined_trees (s >>= λ t. operand ts j >>= λ u. behind_trees t u)) (λ f. refl)
        (λ x t is. alike tree (λ u. Some u) (λ r s. joined (r >>= λ y. behind x y) ≡ joined_trees (s >>= λ u. behind_trees t u)) (λ f. refl)
        (λ y u also. behind_both x y t u is also) (operand ids j) (operand ts j) (operand_read j))
        (operand ids i) (operand ts i) (operand_read i)

  by_places : (n : ℕ) (o : Option (ℕ × ℕ × ℕ)) → joined (ok_or o (faults.Shape n) >>= λ p. operand ids p.1 >>= λ x. operand ids p.2 >>= λ y. behind n p.0 x y)
      ≡ joined_trees (ok_or o (faults.Shape n) >>= λ p. operand ts p.1 >>= λ t. operand ts p.2 >>= λ u. behind_trees n p.0 t u)
  by_places n None = refl
  by_places n (Some p) = by_operands n p.0 p.1 p.2

  -- reading an operation by numbers agrees with reading it by their trees
  operation_read : (c : Data) → joined (operands_at weight ids op c) ≡ as_some (operation_at kind ts op c)
  unfolding operands_at
  operation_read c = rw (same_length tree ids ts are) (by_places (length ts) (operands_of op c))

  pub operation_seen : (c : Data) (r : Result (ℕ × ℕ) FlatError) → r ≡ operands_at weight ids op c → joined r ≡ as_some (operation_at kind ts op c)
  operation_seen c r e = ap (λ q. joined q) e ∙ operation_read c

-- ---- values that aren't nodes

module _ {S F : Type 0} (kind : Kind S F) (ts : List (Tree S)) (d : Data) where
  pub node_unnamed : only_member d ≡ None → node_of_value kind ts d ≡ Err (faults.Shape (length ts))
  unfolding node_of_value
  node_unnamed is = ap (case_or (Err (faults.Shape (length ts))) (node_with kind ts)) is

  pub node_unknown : (name : List ℕ) (c : Data) → only_member d ≡ Some (name, c) → bytes_eq name (codes "Leaf") ≡ false → find_name operations name ≡ None → node_of_value kind ts d ≡ Err (faults.Shape (length ts))
  unfolding node_of_value
  node_unknown name c is other unknown =
      ap (case_or (Err (faults.Shape (length ts))) (node_with kind ts)) is
      ∙ ap (λ b. if b then leaf_node_at kind (length ts) c else operation_or kind ts (find_name operations name) c) other
      ∙ ap (λ o. operation_or kind ts o c) unknown

-- ---- pools

module _ {U A S F : Type 0} {reads : U → Leaves A F} {p : Pool U A} {ids : List ℕ} (seen : U → A → S) where
  -- the numbers are in the pool, and so have trees
  pub trees_are : AreOf reads p ids → map (seen_at seen p) ids ≡ map Some (filter_map (seen_at seen p) ids)
  trees_are h = all_there (seen_at seen p) (length p.nodes) (seen_there reads seen p h.pool) ids h.ids_in

  pub trees_length : AreOf reads p ids → length (filter_map (seen_at seen p) ids) ≡ length ids
  trees_length h = sym (same_length (seen_at seen p) ids (filter_map (seen_at seen p) ids) (trees_are h))
