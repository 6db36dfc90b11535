-- Reading answers lists of nodes only, and every list of nodes is read.
use Rattle.std.proofs.Common.{◌≡◌, ℕ, ◌<◌, ◌+◌, ◌^◌, true, ltb, eqb, if◌then◌else◌, List, length, Option, Some, None, Ok, Err, codes, refl, sym, ap, subst, ◌∙◌, rules, tests}
use Rattle.std.specs.Option.{ok_or}
use Rattle.std.specs.List.{slice_get}
use Rattle.std.proofs.lemmas.Bool.{ltb-true, eqb-true, lt-ltb}
use Rattle.serde_json.specs.Data.{Data}
use Rattle.air_symbolic.specs.Trees.{Tree, leaf_tree, add_tree, sub_tree, neg_tree, mul_tree}
use Rattle.air_json.specs.declared.errors.FlatError.TheVariants as faults
use Rattle.air_json.specs.Results.{◌>>=◌}
use Rattle.air_json.specs.Spelling.{case_data, HasWhole}
use Rattle.air_json.specs.laws.Readings.{three_found, name_found, field_found, field_read, ok_of, done_is, not_done, bind_ok, bind_then, ok_or_found, test_ok, name_ok, case_read}
use Rattle.air_json.specs.Unshared.{degree}
use Rattle.air_json.specs.Nodes.{Kind, KindLaws, operand_of, operand, check_degree, operations, second_of, operands_of, joined_degree, joined_tree, operands_at, operation_or, node_with, node_of_value}
use Rattle.air_json.specs.Parts.{find_name}
use Rattle.air_json.specs.declared.operations.Operation.{Operation}
use Rattle.air_json.specs.declared.operations.Operation.TheVariants.{Add, Sub, Mul, Neg}
use Rattle.air_json.specs.NodeLists.{HasTwoOperands, SpellsNode}

-- ---- fields

pub places_found : (op : Operation) (c : Data) (p : ℕ × ℕ × ℕ) → operands_of op c ≡ Some p → HasWhole (codes "degree_multiple") p.0 c × HasWhole (codes "x") p.1 c × (second_of op c ≡ Some p.2)
unfolding operands_of
places_found op c p e =
    three_found (λ p. HasWhole (codes "degree_multiple") p.0 c × HasWhole (codes "x") p.1 c × (second_of op c ≡ Some p.2)) _ _ _ _ p e
    (λ d x y dh xh yh. (field_found (codes "degree_multiple") c d dh, field_found (codes "x") c x xh, yh))

pub places_read : (op : Operation) (c : Data) (d x y : ℕ) → HasWhole (codes "degree_multiple") d c → HasWhole (codes "x") x c → second_of op c ≡ Some y → operands_of op c ≡ Some (d, x, y)
unfolding operands_of
places_read op c d x y dh xh yh = rw (field_read (codes "degree_multiple") c d dh, field_read (codes "x") c x xh, yh) refl

unfoldable pub operation_name : Operation → List ℕ
operation_name Add = codes "Add"
operation_name Sub = codes "Sub"
operation_name Mul = codes "Mul"
operation_name Neg = codes "Neg"

pub named_operation : (s : List ℕ) (op : Operation) → find_name operations s ≡ Some op → s ≡ operation_name op
unfolding operation_name
named_operation s op e = name_found (λ s op. s ≡ operation_name op) operations s op e (refl, (refl, (refl, (refl, tt))))

-- ---- operands and degrees

operand_found_of : {S : Type 0} (place i : ℕ) (o : Option (Tree S)) (t : Tree S) → operand_of place i o ≡ Ok t → o ≡ Some t
operand_found_of place i None t e = absurd cc
operand_found_of place i (Some u) t e = done_is (λ v. Some u ≡ Some v) u t e refl

operand_found : {S : Type 0} (before : List (Tree S)) (i : ℕ) (t : Tree S) → operand before i ≡ Ok t → slice_get before i ≡ Some t
unfolding operand
operand_found before i t e = operand_found_of (length before) i (slice_get before i) t e

operand_read : {S : Type 0} (before : List (Tree S)) (i : ℕ) (t : Tree S) → slice_get before i ≡ Some t → operand before i ≡ Ok t
unfolding operand
operand_read before i t h = ap (operand_of (length before) i) h

stated_found : {X : Type 0} (place d n : ℕ) (t u : X) → check_degree place d n t ≡ Ok u → (d ≡ n) × (t ≡ u)
stated_found place d n t u e =
    test_ok (λ v. (d ≡ n) × (t ≡ v)) (eqb d n) (Ok t) (Err (faults.WrongDegree place d n)) u e
    (λ same e. done_is (λ v. (d ≡ n) × (t ≡ v)) t u e (eqb-true d n same, refl)) (not_done (λ v. (d ≡ n) × (t ≡ v)) (faults.WrongDegree place d n) u)

same_number : (m n : ℕ) → m ≡ n → eqb m n ≡ true
same_number m n h = search (rules, tests)

product_found : (a b n : ℕ) → joined_degree Mul a b ≡ Ok n → (a + b < 2 ^ 64) × (n ≡ a + b)
product_found a b n e =
    test_ok (λ k. (a + b < 2 ^ 64) × (k ≡ a + b)) (ltb (a + b) (2 ^ 64)) (Ok (a + b)) (Err faults.DegreeOverflow) n e
    (λ small e. done_is (λ k. (a + b < 2 ^ 64) × (k ≡ a + b)) (a + b) n e (ltb-true (a + b) (2 ^ 64) small, refl)) (not_done (λ k. (a + b < 2 ^ 64) × (k ≡ a + b)) faults.DegreeOverflow n)

product_read : (a b : ℕ) → a + b < 2 ^ 64 → joined_degree Mul a b ≡ Ok (a + b)
product_read a b h = ap (λ t. if t then Ok (a + b) else Err faults.DegreeOverflow) (lt-ltb (a + b) (2 ^ 64) h)

done_back : {A : Type 0} (P : A → Type 0) (x z : A) → ok_of x ≡ ok_of z → P z → P x
done_back P x z e h = done_is P z x (sym e) h

module _ {S F : Type 0} (kind : Kind S F) (before : List (Tree S)) where
  -- the operands of an operation and its degree, as they were found
  abbrev AreOperands : Operation → Data → Tree S × Tree S → Type 0
  AreOperands op c q =
      (p : ℕ × ℕ × ℕ) × (operands_of op c ≡ Some p) × (slice_get before p.1 ≡ Some q.0) × (slice_get before p.2 ≡ Some q.1)
      × (joined_degree op (degree kind.term q.0) (degree kind.term q.1) ≡ Ok p.0)

  operands_found : (op : Operation) (c : Data) (q : Tree S × Tree S) → operands_at (degree kind.term) before op c ≡ Ok q → AreOperands op c q
  unfolding operands_at
  operands_found op c q e =
      bind_then (AreOperands op c q) (ok_or (operands_of op c) (faults.Shape (length before)))
      (λ p. operand before p.1 >>= λ t. operand before p.2 >>= λ u. joined_degree op (degree kind.term t) (degree kind.term u) >>= λ n. check_degree (length before) p.0 n (t, u)) q e
      (λ p p_is e. bind_then (AreOperands op c q) (operand before p.1)
      (λ t. operand before p.2 >>= λ u. joined_degree op (degree kind.term t) (degree kind.term u) >>= λ n. check_degree (length before) p.0 n (t, u)) q e
      (λ t t_is e. bind_then (AreOperands op c q) (operand before p.2) (λ u. joined_degree op (degree kind.term t) (degree kind.term u) >>= λ n. check_degree (length before) p.0 n (t, u)) q e
      (λ u u_is e. bind_then (AreOperands op c q) (joined_degree op (degree kind.term t) (degree kind.term u)) (λ n. check_degree (length before) p.0 n (t, u)) q e
      (λ n n_is e.
      let s = stated_found (length before) p.0 n (t, u) q e in
      subst (AreOperands op c) {x = (t, u)} {y = q} s.1 (
        p,
        ok_or_found (operands_of op c) (faults.Shape (length before)) p p_is,
        operand_found before p.1 t t_is,
        operand_found before p.2 u u_is,
        subst (λ k. joined_degree op (degree kind.term t) (degree kind.term u) ≡ ok_of k) (sym s.0) n_is,
      )))))

  operands_read : (op : Operation) (c : Data) (t u : Tree S) → AreOperands op c (t, u) → operands_at (degree kind.term) before op c ≡ Ok (t, u)
  unfolding operands_at
  operands_read op c t u h = rw (h.1, operand_read before h.0.1 t h.2, operand_read before h.0.2 u h.3, h.4, same_number h.0.0 h.0.0 refl) refl

  -- two operands
  two_found : (op : Operation) (c : Data) (q : Tree S × Tree S) → ((y : ℕ) → second_of op c ≡ Some y → HasWhole (codes "y") y c) → (h : AreOperands op c q) → HasTwoOperands before q.0 q.1 h.0.0 c
  two_found op c q second h =
      let p = places_found op c h.0 h.1 in
      (p.0, (h.0.1, p.1, h.2), (h.0.2, second h.0.2 p.2, h.3))

  two_read : (op : Operation) (c : Data) (t u : Tree S) (n : ℕ) → ((y : ℕ) → HasWhole (codes "y") y c → second_of op c ≡ Some y)
      → joined_degree op (degree kind.term t) (degree kind.term u) ≡ Ok n → HasTwoOperands before t u n c
      → operands_at (degree kind.term) before op c ≡ Ok (t, u)
  two_read op c t u n second e h =
      operands_read op c t u ((n, h.1.0, h.2.0), places_read op c n h.1.0 h.2.0 h.0 h.1.1 (second h.2.0 h.2.1), h.1.2, h.2.2, e)

  operation_found : (op : Operation) (c : Data) (q : Tree S × Tree S) → operands_at (degree kind.term) before op c ≡ Ok q → SpellsNode kind before (case_data (operation_name op) c) (joined_tree op q.0 q.1)
  unfolding operation_name
  operation_found Add c q e =
      let h = operands_found Add c q e in
      (c, refl, done_back (λ n. HasTwoOperands before q.0 q.1 n c) _ h.0.0 h.4 (two_found Add c q (λ y. field_found (codes "y") c y) h))
  operation_found Sub c q e =
      let h = operands_found Sub c q e in
      (c, refl, done_back (λ n. HasTwoOperands before q.0 q.1 n c) _ h.0.0 h.4 (two_found Sub c q (λ y. field_found (codes "y") c y) h))
  operation_found Mul c q e =
      let h = operands_found Mul c q e in
      let n = product_found (degree kind.term q.0) (degree kind.term q.1) h.0.0 h.4 in
      ((c, refl, subst (λ n. HasTwoOperands before q.0 q.1 n c) n.1 (two_found Mul c q (λ y. field_found (codes "y") c y) h)), n.0)
  operation_found Neg c q e =
      let h = operands_found Neg c q e in
      let p = places_found Neg c h.0 h.1 in
      (c, refl, (done_back (λ n. HasWhole (codes "degree_multiple") n c) (degree kind.term q.0) h.0.0 h.4 p.0, (h.0.1, p.1, h.2)))

-- ---- nodes

module _ {S F : Type 0} (kind : Kind S F) (laws : KindLaws kind) (before : List (Tree S)) where
  with_found : (name : List ℕ) (c : Data) (t : Tree S) → node_with kind before name c ≡ Ok t → SpellsNode kind before (case_data name c) t
  with_found name c t e =
      let P : Tree S → Type 0 = SpellsNode kind before (case_data name c) in
      name_ok P name (codes "Leaf") _ _ t e
      (λ same e.
      let a = bind_ok (kind.leaf_at (length before) c) (λ a. ok_of (leaf_tree a)) t e in
      done_is P (leaf_tree a.0) t a.2 (c, ap (λ n. case_data n c) same, laws.found (length before) c a.0 a.1))
      (λ e. at_operation (find_name operations name) refl e)
    where
      at_operation : (o : Option Operation) → find_name operations name ≡ o → operation_or kind before o c ≡ Ok t → SpellsNode kind before (case_data name c) t
      at_operation None is e = not_done (SpellsNode kind before (case_data name c)) (faults.Shape (length before)) t e
      at_operation (Some op) is e =
          let q = bind_ok (operands_at (degree kind.term) before op c) (λ q. ok_of (joined_tree op q.0 q.1)) t e in
          done_is (SpellsNode kind before (case_data name c)) (joined_tree op q.0.0 q.0.1) t q.2
          (subst (λ s. SpellsNode kind before (case_data s c) (joined_tree op q.0.0 q.0.1)) (sym (named_operation name op is)) (operation_found kind before op c q.0 q.1))

  pub node_found : (d : Data) (t : Tree S) → node_of_value kind before d ≡ Ok t → SpellsNode kind before d t
  unfolding node_of_value
  node_found d t e =
      case_read (λ x. SpellsNode kind before x t) (λ r. r ≡ Ok t) (Err (faults.Shape (length before))) (node_with kind before) d e
      (not_done (SpellsNode kind before d) (faults.Shape (length before)) t) (λ name c. with_found name c t)

  pub node_again : (d : Data) (t : Tree S) → SpellsNode kind before d t → node_of_value kind before d ≡ Ok t
  unfolding node_of_value
  node_again d (leaf_tree a) h =
      ap (node_of_value kind before) h.1 ∙ ap (λ r. r >>= λ a. ok_of (leaf_tree a)) (laws.again (length before) h.0 a h.2)
  node_again d (add_tree t u) h = ap (node_of_value kind before) h.1 ∙ ap (λ r. r >>= λ q. ok_of (add_tree q.0 q.1)) (two_read kind before Add h.0 t u _ (λ y. field_read (codes "y") h.0 y) refl h.2)
  node_again d (sub_tree t u) h = ap (node_of_value kind before) h.1 ∙ ap (λ r. r >>= λ q. ok_of (sub_tree q.0 q.1)) (two_read kind before Sub h.0 t u _ (λ y. field_read (codes "y") h.0 y) refl h.2)
  node_again d (mul_tree t u) h =
      ap (node_of_value kind before) h.0.1
      ∙ ap (λ r. r >>= λ q. ok_of (mul_tree q.0 q.1)) (two_read kind before Mul h.0.0 t u _ (λ y. field_read (codes "y") h.0.0 y) (product_read (degree kind.term t) (degree kind.term u) h.1) h.0.2)
  node_again d (neg_tree t) h =
      ap (node_of_value kind before) h.1
      ∙ ap (λ r. r >>= λ q. ok_of (neg_tree q.0))
      (operands_read kind before Neg h.0 t t (
        (degree kind.term t, h.2.1.0, h.2.1.0),
        places_read Neg h.0 (degree kind.term t) h.2.1.0 h.2.1.0 h.2.0 h.2.1.1 (field_read (codes "x") h.0 h.2.1.0 h.2.1.1),
        h.2.1.2,
        h.2.1.2,
        refl,
      ))
