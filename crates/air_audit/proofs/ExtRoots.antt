-- Roots of both pools, and what of the base pool is made for them.
use Rattle.std.proofs.Common.{◌≡◌, ℕ, zero, suc, ◌+◌, ◌<◌, List, [], ◌∷◌, ◌++◌, length, get_or, slice_get, take, All, Some, refl, sym, subst, ap, ◌∙◌, arith}
use Rattle.std.proofs.lemmas.List.{take_more, append-nil, append_assoc}
use Rattle.std.proofs.lemmas.List.Elements.{All-append}
use Rattle.air_field.specs.Extension.{Basis}
use Rattle.air_core.specs.declared.errors.AirError.{AirError}
use Rattle.air_symbolic.specs.ExtLeaves.{ext_reads}
use Rattle.air_symbolic.specs.ExtPool.{ExtNodes}
use Rattle.air_symbolic.specs.Nodes.{IsNode}
use Rattle.air_symbolic.specs.Pools.{IsPool, size}
use Rattle.air_symbolic.specs.laws.Sharing.{found}
use Rattle.air_symbolic.specs.declared.leaves.ext_leaf.ExtLeaf.{ExtLeaf}
use Rattle.air_symbolic.specs.declared.leaves.ext_leaf.ExtLeaf.TheVariants as leaf
use Rattle.air_symbolic.specs.declared.pools.expr.SymbolicExpr.{SymbolicExpr}
use Rattle.air_symbolic.specs.declared.pools.expr.SymbolicExpr.TheVariants as node
use Rattle.air_audit.specs.declared.flat.root.Root.{Root}
use Rattle.air_audit.specs.declared.flat.root.Root.TheVariants as root
use Rattle.air_audit.specs.ExtPlans.{base_ids, ext_ids, lifted_of, lifted_at, lifted_ids, made_of_base, IsOrder, SomeRefuses, ReachesFarRow}
use Rattle.air_audit.specs.FlatExtAirs.{RootHere}
use Rattle.air_audit.specs.Plans.{number_at}
use Rattle.air_audit.proofs.Needed.{number_reached}

pub no_elements : {X : Type 0} (P : X → Type 0) → All P []
no_elements P k d lt = absurd (omega (arith, lt))

-- what holds of all elements of two lists holds of those of each
pub all_left : {X : Type 0} (P : X → Type 0) (xs ys : List X) → All P (xs ++ ys) → All P xs
all_left P [] ys h k d lt = absurd (omega (arith, lt))
all_left P (x ∷ xs) ys h zero d lt = h zero d (omega arith)
all_left P (x ∷ xs) ys h (suc k) d lt = all_left P xs ys (λ j e below. h (suc j) e (omega (arith, below))) k d (omega (arith, lt))

pub all_right : {X : Type 0} (P : X → Type 0) (xs ys : List X) → All P (xs ++ ys) → All P ys
all_right P [] ys h = h
all_right P (x ∷ xs) ys h = all_right P xs ys (λ j e below. h (suc j) e (omega (arith, below)))

pub all_and : {X : Type 0} (P : X → Type 0) (x : X) (xs : List X) → P x → All P xs → All P (x ∷ xs)
all_and P x xs p h zero d lt = p
all_and P x xs p h (suc k) d lt = h k d (omega (arith, lt))

pub all_rest : {X : Type 0} (P : X → Type 0) (x : X) (xs : List X) → All P (x ∷ xs) → All P xs
all_rest P x xs h k d lt = h (suc k) d (omega (arith, lt))

module _ {F EF : Type 0} where
  base_ids-append : (xs ys : List (Root F EF)) → base_ids (xs ++ ys) ≡ base_ids xs ++ base_ids ys
  base_ids-append [] ys = refl
  base_ids-append (root.Base i ∷ xs) ys = ap (λ v. i ∷ v) (base_ids-append xs ys)
  base_ids-append (root.Extension i ∷ xs) ys = base_ids-append xs ys

  ext_ids-append : (xs ys : List (Root F EF)) → ext_ids (xs ++ ys) ≡ ext_ids xs ++ ext_ids ys
  ext_ids-append [] ys = refl
  ext_ids-append (root.Base i ∷ xs) ys = ext_ids-append xs ys
  ext_ids-append (root.Extension i ∷ xs) ys = ap (λ v. i ∷ v) (ext_ids-append xs ys)

  -- one root more
  pub base_ids-more : (roots : List (Root F EF)) (k : ℕ) (r : Root F EF) → k < length roots → r ≡ get_or roots k r
      → base_ids (take (k + 1) roots) ≡ base_ids (take k roots) ++ base_ids (r ∷ [])
  base_ids-more roots k r lt is =
      ap base_ids (take_more roots k r lt ∙ ap (λ v. take k roots ++ v ∷ []) (sym is)) ∙ base_ids-append (take k roots) (r ∷ [])

  pub ext_ids-more : (roots : List (Root F EF)) (k : ℕ) (r : Root F EF) → k < length roots → r ≡ get_or roots k r
      → ext_ids (take (k + 1) roots) ≡ ext_ids (take k roots) ++ ext_ids (r ∷ [])
  ext_ids-more roots k r lt is =
      ap ext_ids (take_more roots k r lt ∙ ap (λ v. take k roots ++ v ∷ []) (sym is)) ∙ ext_ids-append (take k roots) (r ∷ [])

  lifted-append : (ns : List (SymbolicExpr (ExtLeaf F EF))) (xs ys : List ℕ) → lifted_ids ns (xs ++ ys) ≡ lifted_ids ns xs ++ lifted_ids ns ys
  lifted-append ns [] ys = refl
  lifted-append ns (x ∷ xs) ys =
      ap (λ v. lifted_at (slice_get ns x) ++ v) (lifted-append ns xs ys) ∙ sym (append_assoc (lifted_at (slice_get ns x)) (lifted_ids ns xs) (lifted_ids ns ys))

  -- one number more
  pub lifted_ids-more : (ns : List (SymbolicExpr (ExtLeaf F EF))) (numbers : List ℕ) (k i : ℕ) (n : SymbolicExpr (ExtLeaf F EF)) → k < length numbers
      → i ≡ get_or numbers k i → slice_get ns i ≡ Some n
      → lifted_ids ns (take (k + 1) numbers) ≡ lifted_ids ns (take k numbers) ++ lifted_of n
  lifted_ids-more ns numbers k i n lt is at =
      ap (lifted_ids ns) (take_more numbers k i lt ∙ ap (λ v. take k numbers ++ v ∷ []) (sym is))
      ∙ lifted-append ns (take k numbers) (i ∷ [])
      ∙ ap (λ v. lifted_ids ns (take k numbers) ++ v) (append-nil (lifted_at (slice_get ns i)) ∙ ap lifted_at at)

-- what holds of the first elements, and of one more
pub all_more : {X : Type 0} (P : X → Type 0) (xs : List X) (k : ℕ) (x : X) → k < length xs → x ≡ get_or xs k x → All P (take k xs) → P x
    → All P (take (k + 1) xs)
all_more P xs k x lt is h p =
    subst (All P) (sym (take_more xs k x lt ∙ ap (λ v. take k xs ++ v ∷ []) (sym is)))
    (All-append P (take k xs) (x ∷ []) h (all_and P x [] p (no_elements P)))

-- the numbers of roots that are in their pools
module _ {F EF : Type 0} (basis : Basis F EF) (p : ExtNodes F EF) where
  pub over_here : (roots : List (Root F EF)) → All (RootHere p) roots → All (λ i. i < size p) (ext_ids roots)
  over_here [] h = no_elements (λ i. i < size p)
  over_here (root.Base i ∷ rest) h = over_here rest (all_rest (RootHere p) (root.Base i) rest h)
  over_here (root.Extension i ∷ rest) h = all_and (λ j. j < size p) i (ext_ids rest) (h 0 (root.Extension i) (omega arith))
      (over_here rest (all_rest (RootHere p) (root.Extension i) rest h))

  base_here : (roots : List (Root F EF)) → All (RootHere p) roots → All (λ i. i < size p.base) (base_ids roots)
  base_here [] h = no_elements (λ i. i < size p.base)
  base_here (root.Base i ∷ rest) h = all_and (λ j. j < size p.base) i (base_ids rest) (h 0 (root.Base i) (omega arith))
      (base_here rest (all_rest (RootHere p) (root.Base i) rest h))
  base_here (root.Extension i ∷ rest) h = base_here rest (all_rest (RootHere p) (root.Extension i) rest h)

  -- what a node holds is of the base pool
  held_here : (j : ℕ) (n : SymbolicExpr (ExtLeaf F EF)) → IsNode (ext_reads basis p.base) p.nodes j n → All (λ i. i < size p.base) (lifted_of n)
  held_here j (node.Leaf (leaf.Base i)) is = all_and (λ v. v < size p.base) i [] is.fits.valid.here (no_elements (λ v. v < size p.base))
  held_here j (node.Leaf (leaf.ExtVariable v)) is = no_elements (λ i. i < size p.base)
  held_here j (node.Leaf (leaf.ExtConstant c)) is = no_elements (λ i. i < size p.base)
  held_here j (node.Add x y d) is = no_elements (λ i. i < size p.base)
  held_here j (node.Sub x y d) is = no_elements (λ i. i < size p.base)
  held_here j (node.Neg x d) is = no_elements (λ i. i < size p.base)
  held_here j (node.Mul x y d) is = no_elements (λ i. i < size p.base)

  module _ (is_pool : IsPool (ext_reads basis) p) where
    lifted_here : (numbers : List ℕ) → All (λ j. j < size p) numbers → All (λ i. i < size p.base) (lifted_ids p.nodes numbers)
    lifted_here [] h = no_elements (λ i. i < size p.base)
    lifted_here (j ∷ rest) h =
        let f : (n : SymbolicExpr (ExtLeaf F EF)) × IsNode (ext_reads basis p.base) p.nodes j n = found (ext_reads basis p.base) p.nodes is_pool.nodes j
        (h 0 j (omega arith)) in
        All-append (λ i. i < size p.base) (lifted_at (slice_get p.nodes j)) (lifted_ids p.nodes rest)
        (subst (λ o. All (λ i. i < size p.base) (lifted_at o)) (sym f.1.node) (held_here j f.0 f.1))
        (lifted_here rest (all_rest (λ v. v < size p) j rest h))

    -- what is made of the base pool is of it
    pub made_here : (roots : List (Root F EF)) (numbers : List ℕ) → All (RootHere p) roots → All (λ j. j < size p) numbers
        → All (λ i. i < size p.base) (made_of_base p roots numbers)
    made_here roots numbers h m = All-append (λ i. i < size p.base) (lifted_ids p.nodes numbers) (base_ids roots) (lifted_here numbers m) (base_here roots h)

    -- a node that is refused is one that the roots reach
    pub reaches_far : (roots : List (Root F EF)) (numbers table : List ℕ) (e : AirError)
        → IsOrder (ext_reads basis p.base) p.nodes (ext_ids roots) numbers table
        → SomeRefuses p.nodes numbers e → ReachesFarRow basis p roots e
    reaches_far roots numbers table e h (k, lt, far) =
        record {
          number = number_at numbers k;
          reached = number_reached (ext_reads basis p.base) p.nodes is_pool.nodes (ext_ids roots) numbers h.here h.used k
              lt;
          far = far;
        }
