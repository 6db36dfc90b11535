-- A walk from an expression down through its operands, the greatest that waits first.
use Rattle.std.specs.Prelude.{slice_get}
use Rattle.std.specs.List.{range_with_len}
use Rattle.std.specs.Ordering.{ordering_then, match_ordering}
use Rattle.std.specs.BTreeSet.{insert_key}
use Rattle.std.specs.Cmp.{nat_eq_equiv}
use Rattle.std.proofs.Common.{◌≡◌, ◌⊎◌, ℕ, zero, suc, ◌+◌, ◌<◌, ◌≤◌, Bool, true, false, cond, ◌&&◌, ◌||◌, ltb, leb, nat_eq, nat_lt, ◌==◌, nat_cmp, Ordering, Less, Equal, Greater, List, [], ◌∷◌, ◌++◌, length, map, reverse, take, get_or, All, Contains, Option, None, Some, is_some, inl, inr, refl, sym, ap, ap₂, subst, ◌∙◌, arith, ⊎_elim, append_assoc, append-nil}
use Rattle.std.proofs.lemmas.Bool.{ltb-true, ltb-false, eqb-true, eq-eqb, le-leb, lt-leb, cases_lt, or_cases, or_left, or_right, and_parts, and_from, cond_both}
use Rattle.std.proofs.lemmas.List.{get_or_past, reverse-append}
use Rattle.std.proofs.lemmas.List.Elements.{All-nil, All-cons, All-head, All-tail, All-contains}
use Rattle.std.proofs.lemmas.List.Folds.{list_any-append, list_any_more}
use Rattle.std.proofs.lemmas.List.FromFn.{length-map-range_with_len, get_or-map-range_with_len}
use Rattle.std.proofs.lemmas.Map.Lookups.{CmpEqualImpliesEq, exact_unsigned}
use Rattle.std.proofs.lemmas.Map.Views.{Contains-from_any, All-from_any, exact_unsigned_eq}
use Rattle.air_symbolic.specs.BaseLeaves.{base_leaves}
use Rattle.air_symbolic.specs.Nodes.{operands, IsNode}
use Rattle.air_symbolic.specs.Reach.{Marked, ReachedFrom, root, operand}
use Rattle.air_symbolic.specs.declared.leaves.base_leaf.BaseLeaf.{BaseLeaf}
use Rattle.air_symbolic.specs.declared.pools.expr.SymbolicExpr.{SymbolicExpr}
use Rattle.air_print.specs.Names.{passing_below, is_reached}
use Rattle.air_print.specs.Reading.{is_in, is_variable, has_variable, is_read, Reads}

-- ---- numbers in lists

in-contains : (xs : List ℕ) (i : ℕ) → is_in xs i ≡ true → Contains xs i
in-contains xs i e = Contains-from_any exact_unsigned_eq i xs e

in-one : (k i : ℕ) → is_in (k ∷ []) i ≡ true → i ≡ k
in-one k i e = go (or_cases (nat_eq i k) false e)
  where
    go : (nat_eq i k ≡ true) ⊎ (false ≡ true) → i ≡ k
    go (inl a) = eqb-true i k a
    go (inr b) = cc

in-itself : (k : ℕ) → is_in (k ∷ []) k ≡ true
in-itself k = or_left (nat_eq k k) false (eq-eqb k k refl)

in-left : (xs ys : List ℕ) (i : ℕ) → is_in xs i ≡ true → is_in (xs ++ ys) i ≡ true
in-left xs ys i e = list_any-append (nat_eq i) xs ys ∙ or_left (is_in xs i) (is_in ys i) e

in-right : (xs ys : List ℕ) (i : ℕ) → is_in ys i ≡ true → is_in (xs ++ ys) i ≡ true
in-right xs ys i e = list_any-append (nat_eq i) xs ys ∙ or_right (is_in xs i) (is_in ys i) e

in-cases : (xs ys : List ℕ) (i : ℕ) → is_in (xs ++ ys) i ≡ true → (is_in xs i ≡ true) ⊎ (is_in ys i ≡ true)
in-cases xs ys i e = or_cases (is_in xs i) (is_in ys i) (sym (list_any-append (nat_eq i) xs ys) ∙ e)

or_assoc : (a b c : Bool) → (a || b) || c ≡ a || (b || c)
or_assoc true b c = refl
or_assoc false b c = refl

or_swap : (a b c : Bool) → a || (b || c) ≡ (a || b) || c
or_swap a b c = sym (or_assoc a b c)

or_nil : (a : Bool) → a || false ≡ a
or_nil true = refl
or_nil false = refl

or_again : (a b : Bool) → a || b ≡ (a || b) || a
or_again true b = refl
or_again false true = refl
or_again false false = refl

or_first : (a b : Bool) → a || b ≡ b || a
or_first true true = refl
or_first true false = refl
or_first false true = refl
or_first false false = refl

-- a set with one more number
insert-in : (cmp : ℕ → ℕ → Ordering) → CmpEqualImpliesEq cmp → (k i : ℕ) (xs : List ℕ) → is_in (insert_key cmp xs k) i ≡ is_in xs i || nat_eq i k
insert-in cmp exact k i [] = or_nil (nat_eq i k)
insert-in cmp exact k i (x ∷ xs) = go (insert-in cmp exact k i xs) (cmp k x) refl
  where
    go : is_in (insert_key cmp xs k) i ≡ is_in xs i || nat_eq i k → (o : Ordering) → cmp k x ≡ o → is_in (match_ordering o (k ∷ x ∷ xs) (x ∷ xs) (x ∷ insert_key cmp xs k)) i ≡ is_in (x ∷ xs) i || nat_eq i k
    go h Less e = or_first (nat_eq i k) (is_in (x ∷ xs) i)
    go h Equal e = subst (λ (y : ℕ). is_in (x ∷ xs) i ≡ is_in (x ∷ xs) i || nat_eq i y) (sym (exact k x e)) (or_again (nat_eq i x) (is_in xs i))
    go h Greater e = ap (λ b. nat_eq i x || b) h ∙ or_swap (nat_eq i x) (is_in xs i) (nat_eq i k)

pub insert-seen : (cmp : ℕ → ℕ → Ordering) → CmpEqualImpliesEq cmp → (k : ℕ) (old new : List ℕ) → new ≡ insert_key cmp old k → (i : ℕ) → is_in new i ≡ is_in old i || nat_eq i k
insert-seen cmp exact k old new e i = ap (λ (xs : List ℕ). is_in xs i) e ∙ insert-in cmp exact k i old

-- one more of a list was added to a set
pub added-more : (ids : List ℕ) (k id i : ℕ) (a b c : Bool) → k < length ids → id ≡ get_or ids k id → b ≡ a || is_in (take k ids) i → c ≡ b || nat_eq i id → c ≡ a || is_in (take (k + 1) ids) i
added-more ids k id i a b c lt is h e =
    e ∙ ap (λ t. t || nat_eq i id) h ∙ or_assoc a (is_in (take k ids) i) (nat_eq i id)
    ∙ ap (λ t. a || t) (ap (λ x. is_in (take k ids) i || nat_eq i x) is ∙ sym (list_any_more (nat_eq i) ids k id lt))

-- ---- the order of numbers

then_equal : (o : Ordering) → ordering_then o Equal ≡ Equal → o ≡ Equal
then_equal Less e = e
then_equal Equal e = e
then_equal Greater e = e

then_less : (o : Ordering) → ordering_then o Equal ≡ Less → o ≡ Less
then_less Less e = e
then_less Equal e = e
then_less Greater e = e

abbrev pub id_cmp : ℕ → ℕ → Ordering
id_cmp x y = ordering_then (nat_cmp x y) Equal

pub id_exact : CmpEqualImpliesEq id_cmp
id_exact x y e = exact_unsigned x y (then_equal (nat_cmp x y) e)

pub id_below : (x y : ℕ) → id_cmp x y ≡ Less → x < y
id_below x y e = ltb-true x y (first (nat_lt x y) (x == y) (then_less (nat_cmp x y) e))
  where
    first : (a b : Bool) → cond a Less (cond b Equal Greater) ≡ Less → a ≡ true
    first true b e = refl
    first false true e = cc
    first false false e = cc

-- what stands before the last key of a set is below it
pub all-below : (rest : List ℕ) (id : ℕ) → All (λ q. id_cmp q id ≡ Less) rest → (i : ℕ) → is_in rest i ≡ true → i < id
all-below rest id h i e = id_below i id (All-contains (λ q. id_cmp q id ≡ Less) rest i h (in-contains rest i e))

-- a list without elements
pub no-elements : (xs : List ℕ) → (0 < length xs → ⊥) → xs ≡ []
no-elements [] h = refl
no-elements (x ∷ xs) h = absurd (h (omega arith))

-- a number above all of the list
abbrev pub above : List ℕ → ℕ
above [] = 0
above (x ∷ xs) = cond (ltb x (above xs)) (above xs) (x + 1)

above-last : (xs : List ℕ) (k : ℕ) → k < above (xs ++ k ∷ [])
above-last [] k = cond_both (ltb k 0) 0 (k + 1) (λ t. k < t) (λ e. absurd (omega (arith, ltb-true k 0 e))) (λ e. omega arith)
above-last (x ∷ xs) k =
    let more = above (xs ++ k ∷ []) in
    let last = above-last xs k in
    cond_both (ltb x more) more (x + 1) (λ t. k < t) (λ e. last) (λ e. let le = ltb-false x more e in omega (arith, le, last))

above-under : (xs : List ℕ) (k : ℕ) → All (λ x. x < k) xs → above xs ≤ k
above-under [] k h = omega arith
above-under (x ∷ xs) k h =
    let head = All-head (λ y. y < k) x xs h in
    cond_both (ltb x (above xs)) (above xs) (x + 1) (λ t. t ≤ k) (λ e. above-under xs k (All-tail (λ y. y < k) x xs h)) (λ e. omega (arith, head))

-- the waiting expressions after a step are below those before
pub above-less : (rest old new : List ℕ) (id : ℕ) → old ≡ rest ++ id ∷ [] → ((i : ℕ) → is_in new i ≡ true → i < id) → above new < above old
above-less rest old new id e h =
    let low = above-under new id (All-from_any nat_eq_equiv (λ x. x < id) new h) in
    let high = subst (λ (xs : List ℕ). id < above xs) (sym e) (above-last rest id) in
    omega (arith, low, high)

-- ---- the numbers that pass a test

passing-agree : (p q : ℕ → Bool) (n : ℕ) → ((i : ℕ) → i < n → p i ≡ q i) → passing_below p n ≡ passing_below q n
passing-agree p q zero h = refl
passing-agree p q (suc n) h = ap₂ (λ xs b. xs ++ cond b (n ∷ []) []) (passing-agree p q n (λ i lt. h i (omega (arith, lt)))) (h n (omega arith))

passing-none : (p : ℕ → Bool) (n : ℕ) → ((i : ℕ) → i < n → p i ≡ false) → passing_below p n ≡ []
passing-none p zero h = refl
passing-none p (suc n) h = ap₂ (λ xs b. xs ++ cond b (n ∷ []) []) (passing-none p n (λ i lt. h i (omega (arith, lt)))) (h n (omega arith))

-- p passes what q does, and perhaps k, which is below all that q passes
passing-one : (p q : ℕ → Bool) (k n : ℕ) → ((i : ℕ) → i < k → p i ≡ false) → ((i : ℕ) → i ≤ k → q i ≡ false) → ((i : ℕ) → k < i → p i ≡ q i) → k < n → passing_below p n ≡ cond (p k) (k ∷ []) [] ++ passing_below q n
passing-one p q k zero low off same lt = absurd (omega (arith, lt))
passing-one p q k (suc n) low off same lt = go (λ b. passing-one p q k n low off same b) (cases_lt k n)
  where
    at : n ≡ k → passing_below p n ++ cond (p n) (n ∷ []) [] ≡ cond (p k) (k ∷ []) [] ++ (passing_below q n ++ cond (q n) (n ∷ []) [])
    at e =
        ap (λ xs. xs ++ cond (p n) (n ∷ []) []) (passing-none p n (λ i b. low i (omega (arith, b, e))))
        ∙ ap (λ j. cond (p j) (j ∷ []) []) e
        ∙ sym (ap₂ (λ xs b. cond (p k) (k ∷ []) [] ++ (xs ++ cond b (n ∷ []) [])) (passing-none q n (λ i b. off i (omega (arith, b, e)))) (off n (omega (arith, e))) ∙ append-nil (cond (p k) (k ∷ []) []))

    past : passing_below p n ≡ cond (p k) (k ∷ []) [] ++ passing_below q n → k < n → passing_below p n ++ cond (p n) (n ∷ []) [] ≡ cond (p k) (k ∷ []) [] ++ (passing_below q n ++ cond (q n) (n ∷ []) [])
    past h b = ap₂ (λ xs t. xs ++ cond t (n ∷ []) []) h (same n b) ∙ append_assoc (cond (p k) (k ∷ []) []) (passing_below q n) (cond (q n) (n ∷ []) [])

    go : (k < n → passing_below p n ≡ cond (p k) (k ∷ []) [] ++ passing_below q n) → (k < n) ⊎ (n ≤ k) → passing_below p n ++ cond (p n) (n ∷ []) [] ≡ cond (p k) (k ∷ []) [] ++ (passing_below q n ++ cond (q n) (n ∷ []) [])
    go h (inl b) = past (h b) b
    go h (inr le) = at (omega (arith, le, lt))

-- ---- tests

same-bools : (a b : Bool) → (a ≡ true → b ≡ true) → (b ≡ true → a ≡ true) → a ≡ b
same-bools true b f g = sym (f refl)
same-bools false true f g = g refl
same-bools false false f g = refl

and3 : (a b c : Bool) → a ≡ true → b ≡ true → a && (b && c) ≡ c
and3 a b c ea eb = ap₂ (λ x y. x && (y && c)) ea eb

and_assoc : (a b c : Bool) → (a && b) && c ≡ a && (b && c)
and_assoc true b c = refl
and_assoc false b c = refl

and-off : (a b : Bool) → a ≡ false → a && b ≡ false
and-off a b e = ap (λ x. x && b) e

settle : (b c d : Bool) → (c ≡ true → b ≡ true) → b && (c && d) ≡ c && d
settle b true d h = ap (λ t. t && d) (h refl)
settle true false d h = refl
settle false false d h = refl

pub false_true : false ≡ true → ⊥
false_true e = cc

none_some : (j : ℕ) → None ≡ Some j → ⊥
none_some j e = cc

some_same : (i j : ℕ) → Some i ≡ Some j → j ≡ i
some_same i j e = cc

reverse-one : (b : Bool) (k : ℕ) → reverse (cond b (k ∷ []) []) ≡ cond b (k ∷ []) []
reverse-one true k = refl
reverse-one false k = refl

-- ---- marks

abbrev mark_of : List ℕ → ℕ → Option ℕ
mark_of found i = cond (is_in found i) (Some i) None

abbrev marks_of : ℕ → List ℕ → List (Option ℕ)
marks_of n found = map (mark_of found) (range_with_len 0 n)

marks-at : (n : ℕ) (found : List ℕ) (i : ℕ) → i < n → get_or (marks_of n found) i None ≡ mark_of found i
marks-at n found i lt = get_or-map-range_with_len (mark_of found) 0 n i i None lt (omega arith)

marks-set : (n : ℕ) (found : List ℕ) (i : ℕ) → i < n → is_in found i ≡ true → Marked (marks_of n found) i
marks-set n found i lt e = marks-at n found i lt ∙ ap (λ b. cond b (Some i) None) e

marks-read : (n : ℕ) (found : List ℕ) (i j : ℕ) → get_or (marks_of n found) i None ≡ Some j → (is_in found i ≡ true) × (j ≡ i)
marks-read n found i j e = go (cases_lt i n)
  where
    within : (b : Bool) → is_in found i ≡ b → cond b (Some i) None ≡ Some j → (is_in found i ≡ true) × (j ≡ i)
    within true is e = (is, some_same i j e)
    within false is e = absurd (none_some j e)

    go : (i < n) ⊎ (n ≤ i) → (is_in found i ≡ true) × (j ≡ i)
    go (inl lt) = within (is_in found i) refl (sym (marks-at n found i lt) ∙ e)
    go (inr le) = absurd (none_some j (sym (get_or_past (marks_of n found) i None (let places = length-map-range_with_len (mark_of found) 0 n in omega (arith, le, places))) ∙ e))

marks-reached : (n : ℕ) (found : List ℕ) (i : ℕ) → i < n → is_reached (marks_of n found) i ≡ is_in found i
marks-reached n found i lt = ap is_some (marks-at n found i lt) ∙ either (is_in found i)
  where
    either : (b : Bool) → is_some (cond b (Some i) None) ≡ b
    either true = refl
    either false = refl

-- ---- the walk

-- a number has only one node
one_node : {F : Type 0} (ns : List (SymbolicExpr (BaseLeaf F))) (i : ℕ) (m n : SymbolicExpr (BaseLeaf F)) → IsNode base_leaves ns i m → IsNode base_leaves ns i n → m ≡ n
one_node ns i m n h k = some_inj (sym h.node ∙ k.node)
  where
    some_inj : Some m ≡ Some n → m ≡ n
    some_inj e = cc

module _ {F : Type 0} (ns : List (SymbolicExpr (BaseLeaf F))) (from : ℕ) where
  -- a found expression from the bound on is such a leaf
  abbrev pub passed : List ℕ → ℕ → ℕ → Bool
  passed found bound i = leb bound i && (is_in found i && has_variable (slice_get ns i))

  -- The expressions found so far. Those below the bound wait. The others were visited: their operands are found, and the
  -- leaves among them that count were pushed.
  pub record Walk (waiting numbers : List ℕ) : Type 0 where
    pub found : List ℕ
    pub bound : ℕ
    pub low : bound ≤ length ns
    pub start : is_in found from ≡ true
    pub here : (i : ℕ) → is_in found i ≡ true → (i < length ns) × ReachedFrom base_leaves ns (from ∷ []) i
    pub closed : (i : ℕ) (n : SymbolicExpr (BaseLeaf F)) → is_in found i ≡ true → bound ≤ i → IsNode base_leaves ns i n → (j : ℕ) → is_in (operands n) j ≡ true → is_in found j ≡ true
    pub waits : (i : ℕ) → is_in found i ≡ true → i < bound → is_in waiting i ≡ true
    pub was_found : (i : ℕ) → is_in waiting i ≡ true → (is_in found i ≡ true) × (i < bound)
    pub numbers_are : reverse numbers ≡ passing_below (passed found bound) (length ns)

  -- waiting expressions are in the pool
  pub waiting-here : (waiting numbers : List ℕ) (i : ℕ) → Walk waiting numbers → is_in waiting i ≡ true → i < length ns
  waiting-here waiting numbers i h e = (h.here i (h.was_found i e).0).0

  pub last-waits : (rest old : List ℕ) (id : ℕ) → old ≡ rest ++ id ∷ [] → is_in old id ≡ true
  last-waits rest old id e = subst (λ (xs : List ℕ). is_in xs id ≡ true) (sym e) (in-right rest (id ∷ []) id (in-itself id))

  -- the beginning
  pub walk-start : (waiting numbers : List ℕ) → from < length ns → ((i : ℕ) → is_in waiting i ≡ nat_eq i from) → numbers ≡ [] → Walk waiting numbers
  walk-start waiting numbers lt seen none =
      let same : (i : ℕ) → is_in waiting i ≡ is_in (from ∷ []) i = λ i. seen i ∙ sym (or_nil (nat_eq i from)) in
      let inside : (i : ℕ) → is_in (from ∷ []) i ≡ true → i < length ns = λ i e. let is = in-one from i e in omega (arith, is, lt) in
      record {
        found = from ∷ [];
        bound = length ns;
        low = omega arith;
        start = in-itself from;
        here = λ i e. (inside i e, root (in-contains (from ∷ []) i e));
        closed = λ i n e le is j op. let b = inside i e in absurd (omega (arith, b, le));
        waits = λ i e b. same i ∙ e;
        was_found = λ i e. let w = sym (same i) ∙ e in (w, inside i w);
        numbers_are = ap reverse none ∙ sym (passing-none (passed (from ∷ []) (length ns)) (length ns) (λ i b. and-off (leb (length ns) i) (is_in (from ∷ []) i && has_variable (slice_get ns i)) (lt-leb (length ns) i b)));
      }

  -- the end
  pub walk-end : (waiting numbers : List ℕ) → Walk waiting numbers → waiting ≡ [] → Reads ns from (reverse numbers)
  walk-end waiting numbers h none =
      let marks = marks_of (length ns) h.found in
      let high : (i : ℕ) → is_in h.found i ≡ true → h.bound ≤ i =
      λ i e. ⊎_elim (λ b. absurd (false_true (subst (λ (xs : List ℕ). is_in xs i ≡ true) none (h.waits i e b)))) (λ le. le) (cases_lt i h.bound) in
      let set : (i : ℕ) → is_in h.found i ≡ true → Marked marks i = λ i e. marks-set (length ns) h.found i (h.here i e).0 e in
      record {
        marks = marks;
        reached = record {
          places = length-map-range_with_len (mark_of h.found) 0 (length ns);
          roots_marked = All-cons (λ i. Marked marks i) from [] (set from h.start) (All-nil (λ i. Marked marks i));
          operands_marked = λ i n m is.
              let e = (marks-read (length ns) h.found i i m).0 in
              All-from_any nat_eq_equiv (λ j. Marked marks j) (operands n) (λ j op. set j (h.closed i n e (high i e) is j op));
          only_reached = λ i j e. let r = marks-read (length ns) h.found i j e in (r.1, (h.here i r.0).1);
        };
        numbers_are = h.numbers_are ∙ passing-agree (passed h.found h.bound) (is_read ns marks) (length ns) (λ i b.
            settle (leb h.bound i) (is_in h.found i) (has_variable (slice_get ns i)) (λ e. le-leb h.bound i (high i e))
            ∙ ap (λ t. t && has_variable (slice_get ns i)) (sym (marks-reached (length ns) h.found i b)));
      }

  -- one more expression
  module _ (rest old new numbers more : List ℕ) (id : ℕ) (n : SymbolicExpr (BaseLeaf F)) (h : Walk old numbers) (last : old ≡ rest ++ id ∷ []) (below : (i : ℕ) → is_in rest i ≡ true → i < id) (node : IsNode base_leaves ns id n) (seen : (i : ℕ) → is_in new i ≡ is_in rest i || is_in (operands n) i) (pushed : more ≡ numbers ++ cond (is_variable n) (id ∷ []) []) where
    abbrev found_next : List ℕ
    found_next = h.found ++ operands n

    id_found : (is_in h.found id ≡ true) × (id < h.bound)
    id_found = h.was_found id (last-waits rest old id last)

    op_below : (i : ℕ) → is_in (operands n) i ≡ true → i < id
    op_below i e = All-contains (λ x. x < id) (operands n) i node.below (in-contains (operands n) i e)

    old_cases : (i : ℕ) → is_in old i ≡ true → (is_in rest i ≡ true) ⊎ (i ≡ id)
    old_cases i e = ⊎_elim (λ a. inl a) (λ b. inr (in-one id i b)) (in-cases rest (id ∷ []) i (subst (λ (xs : List ℕ). is_in xs i ≡ true) last e))

    old_rest : (i : ℕ) → is_in rest i ≡ true → is_in old i ≡ true
    old_rest i e = subst (λ (xs : List ℕ). is_in xs i ≡ true) (sym last) (in-left rest (id ∷ []) i e)

    new_rest : (i : ℕ) → is_in rest i ≡ true → is_in new i ≡ true
    new_rest i e = seen i ∙ or_left (is_in rest i) (is_in (operands n) i) e

    -- new waiting expressions are below the one that was visited
    pub new_below : (i : ℕ) → is_in new i ≡ true → i < id
    new_below i e = ⊎_elim (λ a. below i a) (λ b. op_below i b) (or_cases (is_in rest i) (is_in (operands n) i) (sym (seen i) ∙ e))

    -- what was found above it was visited before
    was_visited : (i : ℕ) → is_in h.found i ≡ true → id < i → h.bound ≤ i
    was_visited i e b =
        ⊎_elim
        (λ lt. ⊎_elim (λ a. let l = below i a in absurd (omega (arith, l, b))) (λ is. absurd (omega (arith, is, b))) (old_cases i (h.waits i e lt)))
        (λ le. le)
        (cases_lt i h.bound)

    found_above : (i : ℕ) → is_in found_next i ≡ true → id < i → is_in h.found i ≡ true
    found_above i e b = ⊎_elim (λ a. a) (λ o. let l = op_below i o in absurd (omega (arith, l, b))) (in-cases h.found (operands n) i e)

    closed_next : (i : ℕ) (m : SymbolicExpr (BaseLeaf F)) → is_in found_next i ≡ true → id ≤ i → IsNode base_leaves ns i m → (j : ℕ) → is_in (operands m) j ≡ true → is_in found_next j ≡ true
    closed_next i m e le is j op = ⊎_elim here above (cases_lt id i)
      where
        here : id < i → is_in found_next j ≡ true
        here b = in-left h.found (operands n) j (let f = found_above i e b in h.closed i m f (was_visited i f b) is j op)

        above : i ≤ id → is_in found_next j ≡ true
        above low =
            let at : i ≡ id = omega (arith, le, low) in
            let same : m ≡ n = one_node ns id m n (subst (λ k. IsNode base_leaves ns k m) at is) node in
            in-right h.found (operands n) j (subst (λ (k : SymbolicExpr (BaseLeaf F)). is_in (operands k) j ≡ true) same op)

    waits_next : (i : ℕ) → is_in found_next i ≡ true → i < id → is_in new i ≡ true
    waits_next i e b =
        ⊎_elim
        (λ a. ⊎_elim (λ r. new_rest i r) (λ is. absurd (omega (arith, is, b))) (old_cases i (h.waits i a (let k = id_found.1 in omega (arith, b, k)))))
        (λ o. seen i ∙ or_right (is_in rest i) (is_in (operands n) i) o)
        (in-cases h.found (operands n) i e)

    was_found_next : (i : ℕ) → is_in new i ≡ true → (is_in found_next i ≡ true) × (i < id)
    was_found_next i e = (
      ⊎_elim
          (λ a. in-left h.found (operands n) i (h.was_found i (old_rest i a)).0)
          (λ b. in-right h.found (operands n) i b)
          (or_cases (is_in rest i) (is_in (operands n) i) (sym (seen i) ∙ e)),
      new_below i e,
    )

    found_same : (i : ℕ) → id < i → is_in found_next i ≡ leb h.bound i && is_in h.found i
    found_same i b =
        same-bools (is_in found_next i) (leb h.bound i && is_in h.found i)
        (λ e. let f = found_above i e b in and_from (leb h.bound i) (is_in h.found i) (le-leb h.bound i (was_visited i f b)) f)
        (λ e. in-left h.found (operands n) i (and_parts (leb h.bound i) (is_in h.found i) e).1)

    passed_same : (i : ℕ) → id < i → passed found_next id i ≡ passed h.found h.bound i
    passed_same i b =
        let v = has_variable (slice_get ns i) in
        ap (λ t. t && (is_in found_next i && v)) (le-leb id i (omega (arith, b)))
        ∙ ap (λ t. t && v) (found_same i b)
        ∙ and_assoc (leb h.bound i) (is_in h.found i) v

    passed_id : passed found_next id id ≡ is_variable n
    passed_id =
        and3 (leb id id) (is_in found_next id) (has_variable (slice_get ns id)) (le-leb id id (omega arith)) (in-left h.found (operands n) id id_found.0)
        ∙ ap has_variable node.node

    numbers_next : reverse more ≡ passing_below (passed found_next id) (length ns)
    numbers_next =
        let p = passed found_next id in
        let q = passed h.found h.bound in
        let v = is_variable n in
        let k = id_found.1 in
        let low = h.low in
        ap reverse pushed ∙ reverse-append numbers (cond v (id ∷ []) [])
        ∙ ap₂ (λ xs ys. xs ++ ys) (reverse-one v id) h.numbers_are
        ∙ ap (λ t. cond t (id ∷ []) [] ++ passing_below q (length ns)) (sym passed_id)
        ∙ sym (passing-one p q id (length ns)
        (λ i b. and-off (leb id i) (is_in found_next i && has_variable (slice_get ns i)) (lt-leb id i b))
        (λ i le. and-off (leb h.bound i) (is_in h.found i && has_variable (slice_get ns i)) (lt-leb h.bound i (omega (arith, le, k))))
        passed_same
        (omega (arith, k, low)))

    pub walk-more : Walk new more
    walk-more = record {
      found = found_next;
      bound = id;
      low = let k = id_found.1 in let low = h.low in omega (arith, k, low);
      start = in-left h.found (operands n) from h.start;
      here = λ i e.
          ⊎_elim
          (λ a. h.here i a)
          (λ o. let inside = (h.here id id_found.0).0 in let l = op_below i o in (omega (arith, inside, l), operand (h.here id id_found.0).1 node (in-contains (operands n) i o)))
          (in-cases h.found (operands n) i e);
      closed = closed_next;
      waits = waits_next;
      was_found = was_found_next;
      numbers_are = numbers_next;
    }
