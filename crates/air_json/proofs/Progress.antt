-- Invariants of writing a list.
use Rattle.std.proofs.Common.{◌≡◌, ◌≢◌, ℕ, suc, zero, ◌<◌, Bool, true, false, eqb, List, [], ◌∷◌, ◌++◌, append_assoc, length, Option, Some, None, replicate, refl, sym, ap, subst, ◌∙◌, arith, inr, ⊎_elim}
use Rattle.std.specs.List.{slice_get}
use Rattle.std.proofs.Math.ListN.{set, length-set, length-replicate}
use Rattle.std.proofs.lemmas.Bool.Decides.{eqb_tells}
use Rattle.std.proofs.lemmas.List.{append-nil}
use Rattle.std.proofs.lemmas.Option.{slice_get_within}
use Rattle.serde_json.specs.Data.{Data}
use Rattle.air_symbolic.specs.Trees.{Tree}
use Rattle.air_symbolic.specs.Nodes.{OperandsBelow}
use Rattle.air_symbolic.specs.declared.pools.expr.SymbolicExpr.{SymbolicExpr}
use Rattle.air_json.specs.Nodes.{Kind}
use Rattle.air_json.specs.Written.{subtrees, IsAmong, Adds, IsWrittenNode, AreWritten, AreNodesOf}
use Rattle.air_json.specs.laws.Written.{at_push, at_more, among_cons, pushed_either}
use Rattle.air_json.specs.Writing.{steps_of}
use Rattle.air_json.proofs.Left.{node_tree, take_within_cap, left, left_push, left_one, left_none, look_left, Within, within_one, within_front, within_last, look_within}
use Rattle.air_json.proofs.Ordered.{HasOperands, Ordered, Closed, ordered_head, ordered_all, adds_skip, ordered_skip, closed_push}

-- ---- the table of places

-- The table has the place of the tree of each number that is in the list, and no other place.
pub record IsTable {S : Type 0} (f : ℕ → Tree S) (size : ℕ) (done : List (Tree S)) (places : List (Option ℕ)) : Type 0 where
  pub len : length places ≡ size
  pub placed : (n i : ℕ) → slice_get places n ≡ Some (Some i) → slice_get done i ≡ Some (f n)
  pub missing : (n : ℕ) → slice_get places n ≡ Some None → IsAmong done (f n) → ⊥

set_same : {X : Type 0} (xs : List X) (n : ℕ) (x : X) → n < length xs → slice_get (set xs n x) n ≡ Some x
set_same [] n x h = absurd (omega arith)
set_same (y ∷ xs) zero x h = refl
set_same (y ∷ xs) (suc n) x h = set_same xs n x (omega (arith, h))

set_other : {X : Type 0} (xs : List X) (n m : ℕ) (x : X) → n ≢ m → slice_get (set xs n x) m ≡ slice_get xs m
set_other [] n m x h = refl
set_other (y ∷ xs) zero zero x h = absurd (h refl)
set_other (y ∷ xs) zero (suc m) x h = refl
set_other (y ∷ xs) (suc n) zero x h = refl
set_other (y ∷ xs) (suc n) (suc m) x h = set_other xs n m x (λ e. h (ap (λ (k : ℕ). suc k) e))

replicate_is : {X : Type 0} (k n : ℕ) (x y : X) → slice_get (replicate k x) n ≡ Some y → x ≡ y
replicate_is zero n x y h = absurd cc
replicate_is (suc k) zero x y h = cc
replicate_is (suc k) (suc n) x y h = replicate_is k n x y h

-- the trees of different numbers differ
abbrev pub IsOneToOne : {S : Type 0} → (ℕ → Tree S) → ℕ → Type 0
IsOneToOne f size = (n m : ℕ) → n < size → m < size → f n ≡ f m → n ≡ m

module _ {S : Type 0} (f : ℕ → Tree S) (size : ℕ) where
  no_tree : (t : Tree S) → IsAmong [] t → ⊥
  no_tree t h = nowhere h.0 h.1
    where
      nowhere : (i : ℕ) → slice_get [] i ≡ Some t → ⊥
      nowhere i e = cc

  table_new : IsTable f size [] (replicate size None)
  table_new = record {
    len = length-replicate size None;
    placed = λ n i h. absurd (unlike (replicate_is size n None (Some i) h));
    missing = λ n h s. no_tree (f n) s;
  }
    where
      unlike : {i : ℕ} → None ≡ Some i → ⊥
      unlike e = cc

  table_push : (done : List (Tree S)) (places : List (Option ℕ)) (n : ℕ) → IsOneToOne f size → IsTable f size done places → n < size → IsTable f size (done ++ f n ∷ []) (set places n (Some (length done)))
  table_push done places n one t small = record {
    len = length-set places n (Some (length done)) ∙ t.len;
    placed = placed;
    missing = missing;
  }
    where
      here : n < length places
      here = omega (arith, t.len, small)

      place_is : (i : ℕ) → Some (Some (length done)) ≡ Some (Some i) → length done ≡ i
      place_is i e = cc

      none_is : Some (Some (length done)) ≡ Some None → ⊥
      none_is e = cc

      placed : (m i : ℕ) → slice_get (set places n (Some (length done))) m ≡ Some (Some i) → slice_get (done ++ f n ∷ []) i ≡ Some (f m)
      placed m i h =
          ⊎_elim
          (λ (q : (eqb n m ≡ true) × (n ≡ m)).
          let p : length done ≡ i = place_is i (sym (set_same places n (Some (length done)) here) ∙ ap (slice_get (set places n (Some (length done)))) q.1 ∙ h) in
          ap (slice_get (done ++ f n ∷ [])) (sym p) ∙ at_push done (f n) ∙ ap (λ (k : ℕ). Some (f k)) q.1)
          (λ (q : (eqb n m ≡ false) × (n ≢ m)). at_more done (f n ∷ []) i (f m) (t.placed m i (sym (set_other places n m (Some (length done)) q.1) ∙ h)))
          (eqb_tells n m)

      missing : (m : ℕ) → slice_get (set places n (Some (length done))) m ≡ Some None → IsAmong (done ++ f n ∷ []) (f m) → ⊥
      missing m h s =
          ⊎_elim
          (λ (q : (eqb n m ≡ true) × (n ≡ m)). none_is (sym (set_same places n (Some (length done)) here) ∙ ap (slice_get (set places n (Some (length done)))) q.1 ∙ h))
          (λ (q : (eqb n m ≡ false) × (n ≢ m)).
          let k : slice_get places m ≡ Some None = sym (set_other places n m (Some (length done)) q.1) ∙ h in
          ⊎_elim
          (λ (l : IsAmong done (f m)). t.missing m k l)
          (λ (e : f n ≡ f m). q.1 (one n m small (omega (arith, t.len, slice_get_within places m None k)) e))
          (pushed_either done (f n) (f m) s))
          (eqb_tells n m)

-- ---- the loop

module _ {S F : Type 0} (kind : Kind S F) where
  written_length : (before : List (Tree S)) (ds : List Data) (ts : List (Tree S)) → AreWritten kind before ds ts → length ds ≡ length ts
  unfolding AreWritten
  written_length before [] [] h = refl
  written_length before [] (t ∷ ts) h = absurd h
  written_length before (d ∷ ds) [] h = absurd h
  written_length before (d ∷ ds) (t ∷ ts) h = omega (arith, written_length (before ++ t ∷ []) ds ts h.1)

  written_push : (before : List (Tree S)) (ds : List Data) (ts : List (Tree S)) (d : Data) (t : Tree S) → AreWritten kind before ds ts → IsWrittenNode kind (before ++ ts) d t → AreWritten kind before (ds ++ d ∷ []) (ts ++ t ∷ [])
  unfolding AreWritten
  written_push before [] [] d t h k = (subst (λ (l : List (Tree S)). IsWrittenNode kind l d t) (append-nil before) k, tt)
  written_push before [] (u ∷ ts) d t h k = absurd h
  written_push before (e ∷ ds) [] d t h k = absurd h
  written_push before (e ∷ ds) (u ∷ ts) d t h k =
      (h.0, written_push (before ++ u ∷ []) ds ts d t h.1 (subst (λ (l : List (Tree S)). IsWrittenNode kind l d t) (sym (append_assoc before (u ∷ []) ts)) k))

  written_none : AreWritten kind [] [] []
  unfolding AreWritten
  written_none = tt

-- The values so far are the nodes of `done`. A list that arises by adding the remaining steps' trees to `done` arises
-- by adding the root's subtrees to the empty list.
pub record Progress {S F : Type 0} (kind : Kind S F) (f : ℕ → Tree S) (size : ℕ) (root : Tree S) (steps : List (ℕ × Bool)) (places : List (Option ℕ)) (ds : List Data) : Type 0 where
  pub done : List (Tree S)
  pub within : Within size steps
  pub table : IsTable f size done places
  pub nodes : AreWritten kind [] ds done
  pub closed : Closed done
  pub ordered : Ordered done (left f steps)
  pub order : (all : List (Tree S)) → Adds done (left f steps) all → Adds [] (subtrees root) all

module _ {S F : Type 0} (kind : Kind S F) (f : ℕ → Tree S) (size : ℕ) where
  pub starts : (n : ℕ) → n < size → Progress kind f size (f n) ((n, false) ∷ []) (replicate size None) []
  unfolding Closed
  starts n h = record {
    done = [];
    within = within_one size (n, false) h;
    table = table_new f size;
    nodes = written_none kind;
    closed = λ t s x p. absurd (no_tree f size t s);
    ordered = subst (Ordered []) (sym (left_one f (n, false))) (ordered_all (f n));
    order = λ all h. subst (λ (l : List (Tree S)). Adds [] l all) (left_one f (n, false)) h;
  }

  pub ends : (root : Tree S) (places : List (Option ℕ)) (ds : List Data) → Progress kind f size root [] places ds → AreNodesOf kind ds root
  unfolding Adds
  ends root places ds h = record {
    trees = h.done;
    order = h.order h.done (subst (λ (l : List (Tree S)). Adds h.done l h.done) (sym (left_none f)) refl);
    nodes = h.nodes;
  }

  -- a step whose expression has been written
  pub skips : (root : Tree S) (steps : List (ℕ × Bool)) (places : List (Option ℕ)) (ds : List Data) (n i : ℕ) (b : Bool) → Progress kind f size root (steps ++ (n, b) ∷ []) places ds → slice_get places n ≡ Some (Some i) → Progress kind f size root steps places ds
  unfolding Closed
  skips root steps places ds n i b h at = record {
    done = h.done;
    within = within_front size steps ((n, b) ∷ []) h.within;
    table = h.table;
    nodes = h.nodes;
    closed = h.closed;
    ordered = ordered_skip h.done (take_within_cap f (n, b)) (left f steps) (there b) (subst (Ordered h.done) (left_push f steps (n, b)) h.ordered);
    order = λ all a. h.order all (subst (λ (l : List (Tree S)). Adds h.done l all) (sym (left_push f steps (n, b))) (adds_skip h.done (take_within_cap f (n, b)) (left f steps) all (there b) a));
  }
    where
      root_there : IsAmong h.done (f n)
      root_there = (i, h.table.placed n i at)

      parts_there : (x : Tree S) → IsAmong (subtrees (f n)) x → IsAmong h.done x
      parts_there = h.closed (f n) root_there

      there : (b : Bool) (x : Tree S) → IsAmong (take_within_cap f (n, b)) x → IsAmong h.done x
      there false x s = parts_there x s
      there true x s = ⊎_elim (λ (e : f n ≡ x). subst (λ (t : Tree S). IsAmong h.done t) e root_there) (λ (r : IsAmong [] x). absurd (no_tree f size x r)) (among_cons (f n) [] x s)

  -- a step that visits an expression
  pub looks : {A : Type 0} (seen : A → S) (root : Tree S) (steps : List (ℕ × Bool)) (places : List (Option ℕ)) (ds : List Data) (n : ℕ) (node : SymbolicExpr A) → f n ≡ node_tree seen f node → OperandsBelow n node → Progress kind f size root (steps ++ (n, false) ∷ []) places ds
      → Progress kind f size root (steps ++ steps_of n node) places ds
  looks seen root steps places ds n node e below h =
      let same : left f (steps ++ steps_of n node) ≡ left f (steps ++ (n, false) ∷ []) = look_left f seen steps n node e in
      record {
        done = h.done;
        within = look_within f seen size steps n node h.within below;
        table = h.table;
        nodes = h.nodes;
        closed = h.closed;
        ordered = subst (Ordered h.done) (sym same) h.ordered;
        order = λ all a. h.order all (subst (λ (l : List (Tree S)). Adds h.done l all) same a);
      }

  -- a step that writes an expression whose operands have been written
  pub is_next : (root : Tree S) (steps : List (ℕ × Bool)) (places : List (Option ℕ)) (ds : List Data) (n : ℕ) (h : Progress kind f size root (steps ++ (n, true) ∷ []) places ds) → HasOperands h.done (f n) × Ordered (h.done ++ f n ∷ []) (left f steps)
  is_next root steps places ds n h = ordered_head h.done (left f steps) (f n) (subst (Ordered h.done) (left_push f steps (n, true)) h.ordered)

  pub writes : (root : Tree S) (steps : List (ℕ × Bool)) (places : List (Option ℕ)) (ds : List Data) (n : ℕ) (d : Data) → IsOneToOne f size → (h : Progress kind f size root (steps ++ (n, true) ∷ []) places ds) → slice_get places n ≡ Some None → IsWrittenNode kind h.done d (f n)
      → Progress kind f size root steps (set places n (Some (length ds))) (ds ++ d ∷ [])
  unfolding Adds
  writes root steps places ds n d one h none node =
      let next = is_next root steps places ds n h in
      record {
        done = h.done ++ f n ∷ [];
        within = within_front size steps ((n, true) ∷ []) h.within;
        table = subst (λ (k : ℕ). IsTable f size (h.done ++ f n ∷ []) (set places n (Some k))) (sym (written_length kind [] ds h.done h.nodes)) (table_push f size h.done places n one h.table (within_last size steps (n, true) h.within));
        nodes = written_push kind [] ds h.done d (f n) h.nodes node;
        closed = closed_push h.done (f n) h.closed next.0;
        ordered = next.1;
        order = λ all a. h.order all (subst (λ (l : List (Tree S)). Adds h.done l all) (sym (left_push f steps (n, true))) (inr (h.table.missing n none, a)));
      }
