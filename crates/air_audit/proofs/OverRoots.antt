-- The parts of what an AIR asserts over an extension, and the assertion of its roots.
use Rattle.std.specs.List.{AllZip}
use Rattle.std.proofs.Common.{◌≡◌, ℕ, ◌+◌, ◌<◌, ◌≤◌, List, [], ◌∷◌, length, get_or, slice_get, take, All, Some, Result, Ok, Err, inl, inr, refl, sym, subst, arith}
use Rattle.std.specs.Result.{IsErrAnd}
use Rattle.std.proofs.lemmas.List.{get_or_default}
use Rattle.std.proofs.lemmas.List.Elements.{All-append}
use Rattle.air_field.specs.Extension.{Basis}
use Rattle.air_field.specs.Part.{whole}
use Rattle.air_field.specs.Term.{Term}
use Rattle.air_core.specs.declared.errors.AirError.{AirError}
use Rattle.air_symbolic.specs.BaseLeaves.{base_reads}
use Rattle.air_symbolic.specs.ExtLeaves.{ext_reads}
use Rattle.air_symbolic.specs.ExtPool.{ExtNodes}
use Rattle.air_symbolic.specs.Nodes.{IsNode, WellFormed}
use Rattle.air_symbolic.specs.Pools.{term_at}
use Rattle.air_symbolic.specs.laws.Sharing.{found}
use Rattle.air_symbolic.specs.declared.leaves.ext_leaf.ExtLeaf.{ExtLeaf}
use Rattle.air_symbolic.specs.declared.leaves.ext_leaf.ExtLeaf.TheVariants as leaf
use Rattle.air_symbolic.specs.declared.pools.expr.SymbolicExpr.{SymbolicExpr}
use Rattle.air_symbolic.specs.declared.pools.expr.SymbolicExpr.TheVariants as node
use Rattle.air_builder.specs.Assertion.{Assertion, Base, Extension}
use Rattle.air_builder.specs.Batches.{AssertsOf, AssertedEach}
use Rattle.air_builder.specs.Builders.{MeansIn, BuilderView, RingLaws, BuilderLaws}
use Rattle.air_builder.specs.Extensions.{ExtensionView, ExtensionRingLaws, over_view}
use Rattle.air_builder.specs.Refusals.{PartOf, EachLeafOf}
use Rattle.air_builder.specs.laws.Batches.{asserts_kept, nothing_asserted, asserted_more, asserted_refused, asserted_all}
use Rattle.air_builder.specs.laws.Extensions.{over_extension}
use Rattle.air_audit.specs.declared.flat.root.Root.{Root}
use Rattle.air_audit.specs.declared.flat.root.Root.TheVariants as root
use Rattle.air_audit.specs.Plans.{IsPlaceOf}
use Rattle.air_audit.specs.ExtPlans.{base_ids, ext_ids, lifted_of, lifted_at, lifted_ids, made_of_base, IsOrder}
use Rattle.air_audit.specs.FlatExtAirs.{zero_at_root, zero_at_ext_roots}
use Rattle.air_audit.specs.Tables.{IsMade, RootHas, AssertsRoot, TableMade}
use Rattle.air_audit.proofs.Asserting.{as_another, made_has}
use Rattle.air_audit.proofs.ExtRoots.{no_elements, all_and, all_rest}
use Rattle.air_audit.proofs.Making.{read_is, there_before}
use Rattle.air_audit.proofs.Needed.{number_part, made_at_place}
use Rattle.air_audit.proofs.Planning.{order_here}

module _ {F EF : Type 0} (basis : Basis F EF) (p : ExtNodes F EF) where
  -- the assertions of roots have the terms of the roots as parts
  base_parts : (roots : List (Root F EF)) → All (λ i. PartOf (term_at base_reads p.base i) (zero_at_ext_roots basis p roots)) (base_ids roots)
  base_parts [] = no_elements (λ i. PartOf (term_at base_reads p.base i) [])
  base_parts (root.Base i ∷ rest) =
      all_and (λ j. PartOf (term_at base_reads p.base j) (zero_at_ext_roots basis p (root.Base i ∷ rest))) i (base_ids rest) (inl whole)
      (λ k d lt. inr (base_parts rest k d lt))
  base_parts (root.Extension i ∷ rest) = λ k d lt. inr (base_parts rest k d lt)

  pub over_parts : (roots : List (Root F EF)) → All (λ i. PartOf (term_at (ext_reads basis) p i) (zero_at_ext_roots basis p roots)) (ext_ids roots)
  over_parts [] = no_elements (λ i. PartOf (term_at (ext_reads basis) p i) [])
  over_parts (root.Base i ∷ rest) = λ k d lt. inr (over_parts rest k d lt)
  over_parts (root.Extension i ∷ rest) =
      all_and (λ j. PartOf (term_at (ext_reads basis) p j) (zero_at_ext_roots basis p (root.Extension i ∷ rest))) i (ext_ids rest) (inl whole)
      (λ k d lt. inr (over_parts rest k d lt))

  module _ (ss : List (Assertion F)) where
    -- what a node holds is a part where the node's term is
    lifted_part : (j : ℕ) (n : SymbolicExpr (ExtLeaf F EF)) → IsNode (ext_reads basis p.base) p.nodes j n → PartOf (term_at (ext_reads basis) p j) ss
        → All (λ i. PartOf (term_at base_reads p.base i) ss) (lifted_of n)
    lifted_part j (node.Leaf (leaf.Base i)) is h =
        all_and (λ i. PartOf (term_at base_reads p.base i) ss) i [] (subst (λ t. PartOf t ss) is.term h)
        (no_elements (λ i. PartOf (term_at base_reads p.base i) ss))
    lifted_part j (node.Leaf (leaf.ExtVariable v)) is h = no_elements (λ i. PartOf (term_at base_reads p.base i) ss)
    lifted_part j (node.Leaf (leaf.ExtConstant c)) is h = no_elements (λ i. PartOf (term_at base_reads p.base i) ss)
    lifted_part j (node.Add x y d) is h = no_elements (λ i. PartOf (term_at base_reads p.base i) ss)
    lifted_part j (node.Sub x y d) is h = no_elements (λ i. PartOf (term_at base_reads p.base i) ss)
    lifted_part j (node.Neg x d) is h = no_elements (λ i. PartOf (term_at base_reads p.base i) ss)
    lifted_part j (node.Mul x y d) is h = no_elements (λ i. PartOf (term_at base_reads p.base i) ss)

    lifted_parts : WellFormed (ext_reads basis p.base) p.nodes → (numbers : List ℕ) → All (λ j. j < length p.nodes) numbers
        → All (λ j. PartOf (term_at (ext_reads basis) p j) ss) numbers → All (λ i. PartOf (term_at base_reads p.base i) ss) (lifted_ids p.nodes numbers)
    lifted_parts wf [] here h = no_elements (λ i. PartOf (term_at base_reads p.base i) ss)
    lifted_parts wf (j ∷ rest) here h =
        let f : (n : SymbolicExpr (ExtLeaf F EF)) × IsNode (ext_reads basis p.base) p.nodes j n = found (ext_reads basis p.base) p.nodes wf j
        (here 0 j (omega arith)) in
        All-append (λ i. PartOf (term_at base_reads p.base i) ss) (lifted_at (slice_get p.nodes j)) (lifted_ids p.nodes rest)
        (subst (λ o. All (λ i. PartOf (term_at base_reads p.base i) ss) (lifted_at o)) (sym f.1.node) (lifted_part j f.0 f.1 (h 0 j (omega arith))))
        (lifted_parts wf rest (all_rest (λ j. j < length p.nodes) j rest here) (all_rest (λ j. PartOf (term_at (ext_reads basis) p j) ss) j rest h))

  -- the terms of all that is made of the base pool are parts
  pub made_parts : WellFormed (ext_reads basis p.base) p.nodes → (roots : List (Root F EF)) (numbers table : List ℕ)
      → IsOrder (ext_reads basis p.base) p.nodes (ext_ids roots) numbers table
      → All (λ i. PartOf (term_at base_reads p.base i) (zero_at_ext_roots basis p roots)) (made_of_base p roots numbers)
  made_parts wf roots numbers table h =
      let ss = zero_at_ext_roots basis p roots in
      let l = ext_reads basis p.base in
      All-append (λ i. PartOf (term_at base_reads p.base i) ss) (lifted_ids p.nodes numbers) (base_ids roots)
      (lifted_parts ss wf numbers (order_here l p.nodes (ext_ids roots) numbers table h)
      (λ k d lt. subst (λ i. PartOf (term_at (ext_reads basis) p i) ss) (get_or_default numbers k 0 d lt)
      (number_part l p.nodes wf (ext_ids roots) numbers h.here h.used ss (over_parts roots) k lt)))
      (base_parts roots)

  -- both tables have what the roots need
  module _ {E X : Type 0} (P : Term F → E → Type 0) (Q : Term F → X → Type 0) (base_numbers base_places numbers places : List ℕ) (base : List E)
      (table : List X)
      (base_made : TableMade P (term_at base_reads p.base) base_numbers base (length base_numbers))
      (made : TableMade Q (term_at (ext_reads basis) p) numbers table (length numbers)) where
    pub roots_made : (roots : List (Root F EF)) → All (λ i. (i < length base_places) × IsPlaceOf base_numbers (length base_numbers) (get_or base_places i 0)
        i) (base_ids roots)
        → All (λ i. (i < length places) × IsPlaceOf numbers (length numbers) (get_or places i 0) i) (ext_ids roots)
        → All (RootHas (λ i. P (term_at base_reads p.base i)) (λ i. Q (term_at (ext_reads basis) p i)) base_places places base table) roots
    roots_made [] g h = no_elements (RootHas (λ i. P (term_at base_reads p.base i)) (λ i. Q (term_at (ext_reads basis) p i)) base_places places base table)
    roots_made (root.Base i ∷ rest) g h =
        let at = g 0 i (omega arith) in
        all_and (RootHas (λ i. P (term_at base_reads p.base i)) (λ i. Q (term_at (ext_reads basis) p i)) base_places places base table) (root.Base i) rest
        (at.0, made_at_place P (term_at base_reads p.base) base_numbers base (length base_numbers) (get_or base_places i 0) i base_made at.1)
        (roots_made rest (all_rest (λ i. (i < length base_places) × IsPlaceOf base_numbers (length base_numbers) (get_or base_places i 0) i) i (base_ids rest)
        g) h)
    roots_made (root.Extension i ∷ rest) g h =
        let at = h 0 i (omega arith) in
        all_and (RootHas (λ i. P (term_at base_reads p.base i)) (λ i. Q (term_at (ext_reads basis) p i)) base_places places base table) (root.Extension i) rest
        (at.0, made_at_place Q (term_at (ext_reads basis) p) numbers table (length numbers) (get_or places i 0) i made at.1)
        (roots_made rest g (all_rest (λ i. (i < length places) × IsPlaceOf numbers (length numbers) (get_or places i 0) i) i (ext_ids rest) h))

module _ {S R X B E F EF : Type 0} {view : BuilderView S R B F} {over : ExtensionView S X B E F} (ring : RingLaws view)
    (over_ring : RingLaws (over_view view over))
    (laws : BuilderLaws view) (extension : ExtensionRingLaws view over) (base_places places : List ℕ) (base : List B) (table : List E) where
  open view use {kept, grew, missing, refuses}

  -- what a root asserts
  abbrev asserts : S → Root F EF → Assertion F → Type 0
  asserts = AssertsRoot (MeansIn view) (MeansIn (over_view view over)) base_places places base table

  pub root_kept : (a b : S) → kept a b → (r : Root F EF) (s : Assertion F) → asserts a r s → asserts b r s
  root_kept a b k (root.Base i) s h = (h.0, h.1, asserts_kept ring laws Base (λ t. t) a b k h.0 s h.2)
  root_kept a b k (root.Extension i) s h = (h.0, h.1, asserts_kept over_ring (over_extension laws extension) Extension (λ t. t) a b k h.0 s h.2)

  -- the expression of a root was asserted, or refused
  pub base_root : (b c : S) (i : ℕ) (x : B) (r : Result (Unit {0}) AirError) → slice_get base (get_or base_places i 0) ≡ Some x
      → AssertedEach (AssertsOf Base (MeansIn view) (λ t. t)) kept grew refuses b c (x ∷ []) r
      → AssertedEach asserts kept grew refuses b c (root.Base i ∷ []) r
  base_root b c i x r at h = as_another ring laws b c x (root.Base i) r (λ s k. read_is _ base (get_or base_places i 0) x k at) h

  pub over_root : (b c : S) (i : ℕ) (x : E) (r : Result (Unit {0}) AirError) → slice_get table (get_or places i 0) ≡ Some x
      → AssertedEach (AssertsOf Extension (MeansIn (over_view view over)) (λ t. t)) kept grew refuses b c (x ∷ []) r
      → AssertedEach asserts kept grew refuses b c (root.Extension i ∷ []) r
  over_root b c i x r at h = as_another ring laws b c x (root.Extension i) r (λ s k. read_is _ table (get_or places i 0) x k at) h

  -- what is of the ring stays of it
  pub root_has_kept : (a b : S) → kept a b → (r : Root F EF) → RootHas (λ i. view.has (view.ring_of a)) (λ i. over.has (over.ring_of a)) base_places places
      base table r
      → RootHas (λ i. view.has (view.ring_of b)) (λ i. over.has (over.ring_of b)) base_places places base table r
  root_has_kept a b k (root.Base i) h = let x = h.1 in (h.0, (x.0, x.1, ring.has_stays (view.ring_of a) (view.ring_of b) x.0 (laws.ring_kept a b k) x.2))
  root_has_kept a b k (root.Extension i) h = let x = h.1 in (
    h.0,
    (
      x.0,
      x.1,
      over_ring.has_stays (over.ring_of a) (over.ring_of b) x.0
          (extension.ext_ring_kept a b k) x.2,
    ),
  )

  -- a root that a table has is in its list of places
  pub base_long : (a : S) (r : Root F EF) (i : ℕ) → r ≡ root.Base i → RootHas (λ i. view.has (view.ring_of a)) (λ i. over.has (over.ring_of a)) base_places
      places base table r → i < length base_places
  base_long a r i e h = (subst (λ v. RootHas (λ i. view.has (view.ring_of a)) (λ i. over.has (over.ring_of a)) base_places places base table v) e h).0

  pub over_long : (a : S) (r : Root F EF) (i : ℕ) → r ≡ root.Extension i
      → RootHas (λ i. view.has (view.ring_of a)) (λ i. over.has (over.ring_of a)) base_places places base table r → i < length places
  over_long a r i e h = (subst (λ v. RootHas (λ i. view.has (view.ring_of a)) (λ i. over.has (over.ring_of a)) base_places places base table v) e h).0

  -- no root yet, one root after another, and all
  pub no_root : (a : S) → AssertedEach asserts kept grew refuses a a [] (Ok tt)
  no_root a = nothing_asserted laws asserts root_kept a

  module _ {a b c : S} {u : Unit {0}} (roots : List (Root F EF)) (i : ℕ) where
    pub root_more : {v : Unit {0}} (r : Root F EF) → i < length roots → r ≡ get_or roots i r → AssertedEach asserts kept grew refuses a b (take i roots) (Ok u)
        → AssertedEach asserts kept grew refuses b c (r ∷ []) (Ok v) → AssertedEach asserts kept grew refuses a c (take (i + 1) roots) (Ok tt)
    root_more r lt is h k = asserted_more laws asserts root_kept {a = a} {b = b} {c = c} roots i r lt is h k

    pub root_refused : {e : AirError} {result : Result (Unit {0}) AirError} (r : Root F EF) → i < length roots → r ≡ get_or roots i r
        → AssertedEach asserts kept grew refuses a b (take i roots) (Ok u)
        → AssertedEach asserts kept grew refuses b c (r ∷ []) (Err e) → IsErrAnd result (λ y. y ≡ e) → AssertedEach asserts kept grew refuses a c roots result
    root_refused r lt is h k given = asserted_refused laws asserts root_kept {a = a} {b = b} {c = c} roots i r lt is h k given

  pub all_roots : {a b : S} {u : Unit {0}} (roots : List (Root F EF)) (i : ℕ) → length roots ≤ i
      → AssertedEach asserts kept grew refuses a b (take i roots) (Ok u)
      → AssertedEach asserts kept grew refuses a b roots (Ok tt)
  all_roots {a} {b} roots i end h = asserted_all laws asserts root_kept {a = a} {b = b} roots i end h

  module _ (basis : Basis F EF) (p : ExtNodes F EF) (b : S) where
    -- what is made of a root in the builder
    abbrev root_made : Root F EF → Type 0
    root_made = RootHas (λ i. IsMade (MeansIn view) missing b (term_at base_reads p.base i))
        (λ i. IsMade (MeansIn (over_view view over)) missing b (term_at (ext_reads basis) p i)) base_places places base table

    -- is of its ring
    root_has : (r : Root F EF) → root_made r → RootHas (λ i. view.has (view.ring_of b)) (λ i. over.has (over.ring_of b)) base_places places base table r
    root_has (root.Base i) h = (h.0, made_has ring laws b (term_at base_reads p.base i) base (get_or base_places i 0) h.1)
    root_has (root.Extension i) h = (h.0, made_has over_ring (over_extension laws extension) b (term_at (ext_reads basis) p i) table (get_or places i 0) h.1)

    pub roots_have : (roots : List (Root F EF)) → All root_made roots → All
        (RootHas (λ i. view.has (view.ring_of b)) (λ i. over.has (over.ring_of b)) base_places places base table) roots
    roots_have roots h k d lt = root_has (get_or roots k d) (h k d lt)

    -- asserts that the root's term is zero
    root_asserts : (r : Root F EF) → root_made r → asserts b r (zero_at_root basis p r)
    root_asserts (root.Base i) h = let x = h.1 in (x.0, x.1, (term_at base_reads p.base i, x.2.meant, refl))
    root_asserts (root.Extension i) h = let x = h.1 in (x.0, x.1, (term_at (ext_reads basis) p i, x.2.meant, refl))

    pub roots_assert : (roots : List (Root F EF)) → All root_made roots → AllZip (asserts b) roots (zero_at_ext_roots basis p roots)
    roots_assert [] h = tt
    roots_assert (r ∷ rest) h = (root_asserts r (h 0 r (omega arith)), roots_assert rest (all_rest root_made r rest h))

    -- and each leaf of it is there
    pub roots_there : (a : S) → kept a b → (roots : List (Root F EF)) → All root_made roots
        → EachLeafOf (λ l. missing a l → ⊥) (zero_at_ext_roots basis p roots)
    roots_there a k [] h = tt
    roots_there a k (root.Base i ∷ rest) h =
        let x = (h 0 (root.Base i) (omega arith)).1 in
        (there_before ring laws a b (term_at base_reads p.base i) x.0 k x.2, roots_there a k rest (all_rest root_made (root.Base i) rest h))
    roots_there a k (root.Extension i ∷ rest) h =
        let x = (h 0 (root.Extension i) (omega arith)).1 in (
          there_before over_ring (over_extension laws extension) a b (term_at (ext_reads basis) p i) x.0 k x.2,
          roots_there a k rest
              (all_rest root_made (root.Extension i) rest h),
        )
