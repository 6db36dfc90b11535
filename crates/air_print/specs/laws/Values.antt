-- Lines printed from known values, and the leaves that an expression reads.
use Rattle.std.specs.Prelude.{slice_get}
use Rattle.std.proofs.Common.{◌≡◌, ℕ, zero, suc, ◌<◌, ◌≤◌, Bool, true, false, ◌&&◌, cond, List, [], ◌∷◌, ◌++◌, length, slice_index_or, map, All, Contains, Option, None, Some, is_some, codes, refl, sym, ap, ap₂, subst, ◌∙◌, arith, ⊎_elim}
use Rattle.std.proofs.lemmas.List.{map-append}
use Rattle.std.proofs.lemmas.List.Elements.{All-nil, All-cons, All-append, All-contains}
use Rattle.air_field.specs.Modular.{Modular}
use Rattle.air_field.specs.Ring.{CommRing}
use Rattle.air_field.specs.Term.{Leaf}
use Rattle.air_symbolic.specs.BaseLeaves.{base_leaves}
use Rattle.air_symbolic.specs.ExtLeaves.{BaseNodes}
use Rattle.air_symbolic.specs.Nodes.{operands}
use Rattle.air_symbolic.specs.Reach.{Marked, Reached, ReachedFrom, root, operand}
use Rattle.air_symbolic.specs.declared.leaves.base_leaf.BaseLeaf.{BaseLeaf}
use Rattle.air_symbolic.specs.declared.pools.expr.SymbolicExpr.{SymbolicExpr}
use Rattle.air_print.specs.Infix.{shown_number, infix_text, constant_text}
use Rattle.air_print.specs.Lines.{listed_name}
use Rattle.air_print.specs.Names.{is_reached, passing_below}
use Rattle.air_print.specs.declared.binding.Binding.TheVariants.{Loose}
use Rattle.air_print.specs.Equations.{equation, equation_lines}
use Rattle.air_print.specs.Explained.{explained_lines, Explains}
use Rattle.air_print.specs.Reading.{Reads, has_variable, is_read}
use Rattle.air_print.specs.Values.{number_value, Known, AreClosed}

-- an expression that a marked expression reaches is marked
marked_reach : {F : Type 0} (ns : List (SymbolicExpr (BaseLeaf F))) (marks : List (Option ℕ)) (from i : ℕ) → AreClosed ns marks → Marked marks from → ReachedFrom base_leaves ns (from ∷ []) i → Marked marks i
marked_reach ns marks from i closed at (root c) = subst (λ j. Marked marks j) (only c) at
  where
    only : Contains (from ∷ []) i → from ≡ i
    only c = let first : c.0 ≡ 0 = omega (arith, c.1) in sym (ap (λ (j : ℕ). slice_index_or (from ∷ []) j i) first) ∙ c.2
marked_reach ns marks from i closed at (operand {j = j} {n = n} h is op) =
    All-contains (λ k. Marked marks k) (operands n) i (closed.operands j n (marked_reach ns marks from j closed at h) is) op

both_true : (a b : Bool) → a && b ≡ true → a ≡ true
both_true true b h = refl
both_true false b h = h

some_of : (o : Option ℕ) → is_some o ≡ true → (j : ℕ) × (o ≡ Some j)
some_of None h = cc
some_of (Some j) h = (j, refl)

-- functions that agree wherever the test passes
same_below : {X : Type 0} (test : ℕ → Bool) (f g : ℕ → X) (n : ℕ) → ((i : ℕ) → i < n → test i ≡ true → f i ≡ g i) → map f (passing_below test n) ≡ map g (passing_below test n)
same_below test f g zero h = refl
same_below test f g (suc n) h =
    map-append f (passing_below test n) (cond (test n) (n ∷ []) [])
    ∙ ap₂ (λ xs ys. xs ++ ys) (same_below test f g n (λ i b t. h i (omega (arith, b)) t)) (last (test n) refl)
    ∙ sym (map-append g (passing_below test n) (cond (test n) (n ∷ []) []))
  where
    last : (b : Bool) → test n ≡ b → map f (cond b (n ∷ []) []) ≡ map g (cond b (n ∷ []) [])
    last true e = ap (λ x. x ∷ []) (h n (omega arith) e)
    last false e = refl

-- whatever passes below n is below k, if n ≤ k
pub passing_low : (test : ℕ → Bool) (k n : ℕ) → n ≤ k → All (λ x. x < k) (passing_below test n)
passing_low test k zero le = All-nil (λ x. x < k)
passing_low test k (suc n) le =
    All-append (λ x. x < k) (passing_below test n) (cond (test n) (n ∷ []) []) (passing_low test k n (omega (arith, le))) (either (test n))
  where
    either : (b : Bool) → All (λ x. x < k) (cond b (n ∷ []) [])
    either true = All-cons (λ x. x < k) n [] (omega (arith, le)) (All-nil (λ x. x < k))
    either false = All-nil (λ x. x < k)

-- the leaves that an expression reads are in the pool
pub reads_here : {F : Type 0} (ns : List (SymbolicExpr (BaseLeaf F))) (from : ℕ) (numbers : List ℕ) → Reads ns from numbers → All (λ i. i < length ns) numbers
reads_here ns from numbers h = subst (λ xs. All (λ i. i < length ns) xs) (sym h.numbers_are) (passing_low (is_read ns h.marks) (length ns) (length ns) (omega arith))

-- the leaves that a marked expression reads are marked
read_marked : {F : Type 0} (ns : List (SymbolicExpr (BaseLeaf F))) (marks read : List (Option ℕ)) (from i : ℕ) → AreClosed ns marks → Marked marks from → Reached base_leaves ns (from ∷ []) read → is_read ns read i ≡ true → Marked marks i
read_marked ns marks read from i closed at h is =
    let some = some_of (slice_index_or read i None) (both_true (is_reached read i) (has_variable (slice_get ns i)) is) in
    marked_reach ns marks from i closed at (h.only_reached i some.0 some.1).1

-- Lines printed from known values explain an expression.
pub explains_known : {F : Type 0} {p : ℕ} (m : Modular F p) (r : CommRing F) (s : Leaf → F) (pool : BaseNodes F) (names marks : List (Option ℕ)) (values : List F) (from : ℕ) (numbers : List ℕ) → AreClosed pool.nodes marks → Known r s pool.nodes marks (length pool.nodes) values → from < length pool.nodes → Marked marks from → Reads pool.nodes from numbers → Explains m r s pool names from (explained_lines m pool names (λ i. slice_index_or values i r.zero) from numbers)
explains_known {F} m r s pool names marks values from numbers closed known here at reads =
    let ns = pool.nodes in
    let f : ℕ → List ℕ = equation m pool names (λ i. slice_index_or values i r.zero) in
    let g : ℕ → List ℕ = equation m pool names (number_value r s ns) in
    let same : (i : ℕ) → i < length ns → Marked marks i → f i ≡ g i =
    λ i b marked. ap (λ (v : F). infix_text m Loose (shown_number (listed_name names) ns i) ++ (codes " = " ++ constant_text m v)) (known i b marked) in
    let all : map f numbers ≡ map g numbers =
    ap (map f) reads.numbers_are
    ∙ same_below (is_read ns reads.marks) f g (length ns) (λ i b t. same i b (read_marked ns marks reads.marks from i closed at reads.reached t))
    ∙ ap (map g) (sym reads.numbers_are) in
    record {
      reads = numbers;
      are_reads = reads;
      lines_are = ap₂ (λ (x : List ℕ) (xs : List (List ℕ)). (codes "  " ++ x) ∷ equation_lines xs) (same from here at) all;
    }
