-- A value that can't be read as a node has a first fault, and a value with a fault can't be read.
use Rattle.std.proofs.Common.{◌≡◌, ◌≢◌, ℕ, zero, suc, ◌+◌, ◌≤◌, ◌<◌, ◌^◌, max, Bool, true, false, ltb, eqb, bytes_eq, if◌then◌else◌, List, [], ◌∷◌, length, Option, Some, None, option_map, option_and_then, Result, Ok, Err, codes, refl, sym, ap, subst, ◌∙◌, arith, ◌⊎◌, inl, inr, ⊎_elim, rules, tests}
use Rattle.std.specs.Option.{ok_or}
use Rattle.std.specs.List.{slice_get}
use Rattle.std.proofs.lemmas.Bool.{ltb-true, lt-ltb, le-ltb, cases_lt}
use Rattle.std.proofs.lemmas.Bool.Decides.{eqb_tells}
use Rattle.serde_json.specs.Data.{Data}
use Rattle.air_symbolic.specs.Trees.{Tree, leaf_tree}
use Rattle.air_json.specs.declared.operations.Operation.{Operation}
use Rattle.air_json.specs.declared.operations.Operation.TheVariants.{Add, Sub, Mul, Neg}
use Rattle.air_json.specs.declared.errors.FlatError.{FlatError}
use Rattle.air_json.specs.declared.errors.FlatError.TheVariants as faults
use Rattle.air_json.specs.Parts.{only_member, find_name, case_or}
use Rattle.air_json.specs.Results.{◌>>=◌}
use Rattle.air_json.specs.Spelling.{case_data}
use Rattle.air_json.specs.laws.Readings.{ok_of, by_name, none_found, by_some, map_found, then_found, field_found, field_read, case_read, err_of, err_is, before_done}
use Rattle.air_json.specs.Unshared.{degree}
use Rattle.air_json.specs.Nodes.{Kind, KindLaws, operand_of, operand, check_degree, operations, operands_of, joined_degree, joined_tree, operands_at, operation_or, leaf_node_at, node_with, node_of_value}
use Rattle.air_json.specs.laws.Nodes.{operation_name, named_operation, places_found, places_read}
use Rattle.air_json.specs.NodeFaults.{Form, leaf_form, add_form, sub_form, mul_form, neg_form, SpellsForm, IsLate, IsTreeAt, IsMisstated, OperandsFault, SumFault, ProductFault, FormFault, NodeFault}

-- ---- the form of a value

-- the form as it is read, where the only operand of a negative is used for both
data Raw : Type 0 where
  raw_leaf : Data → Raw
  raw : Operation → ℕ × ℕ × ℕ → Raw

abbrev raw_with : List ℕ → Data → Option Raw
raw_with name c = if bytes_eq name (codes "Leaf") then Some (raw_leaf c) else option_and_then (λ op. option_map (λ p. raw op p) (operands_of op c)) (find_name operations name)

abbrev raw_of : Data → Option Raw
raw_of d = case_or None raw_with (only_member d)

abbrev raw_form : Form → Raw
raw_form (leaf_form c) = raw_leaf c
raw_form (add_form n x y) = raw Add (n, x, y)
raw_form (sub_form n x y) = raw Sub (n, x, y)
raw_form (mul_form n x y) = raw Mul (n, x, y)
raw_form (neg_form n x) = raw Neg (n, x, x)

raw_again : (d : Data) (m : Form) → SpellsForm d m → raw_of d ≡ Some (raw_form m)
raw_again d (leaf_form c) h = ap raw_of h.1 ∙ ap (λ e. Some (raw_leaf e)) h.2
raw_again d (add_form n x y) h = ap raw_of h.1 ∙ ap (option_map (λ p. raw Add p)) (places_read Add h.0 n x y h.2.0 h.2.1 (field_read (codes "y") h.0 y h.2.2))
raw_again d (sub_form n x y) h = ap raw_of h.1 ∙ ap (option_map (λ p. raw Sub p)) (places_read Sub h.0 n x y h.2.0 h.2.1 (field_read (codes "y") h.0 y h.2.2))
raw_again d (mul_form n x y) h = ap raw_of h.1 ∙ ap (option_map (λ p. raw Mul p)) (places_read Mul h.0 n x y h.2.0 h.2.1 (field_read (codes "y") h.0 y h.2.2))
raw_again d (neg_form n x) h = ap raw_of h.1 ∙ ap (option_map (λ p. raw Neg p)) (places_read Neg h.0 n x x h.2.0 h.2.1 (field_read (codes "x") h.0 x h.2.1))

-- the value spells the form that is read so
abbrev SpellsRaw : Data → Raw → Type 0
SpellsRaw d (raw_leaf c) = d ≡ case_data (codes "Leaf") c
SpellsRaw d (raw op p) = (c : Data) × (d ≡ case_data (operation_name op) c) × (operands_of op c ≡ Some p)

raw_found : (d : Data) (m : Raw) → raw_of d ≡ Some m → SpellsRaw d m
raw_found d m e =
    case_read (λ x. SpellsRaw x m) (λ o. o ≡ Some m) None raw_with d e (none_found (SpellsRaw d) m)
    (λ name c e.
    let P : Raw → Type 0 = SpellsRaw (case_data name c) in
    by_name P name (codes "Leaf") _ _ m e
    (λ same. by_some P (raw_leaf c) m (ap (λ n. case_data n c) same))
    (λ e. then_found (P m) (λ op. option_map (λ p. raw op p) (operands_of op c)) (find_name operations name) m e
    (λ op is e. map_found P (λ p. raw op p) (operands_of op c) m e (λ p at. (c, ap (λ n. case_data n c) (named_operation name op is), at)))))

-- a form that is read so is spelt by the value
operation_spelt : (op : Operation) (d c : Data) (p : ℕ × ℕ × ℕ) → d ≡ case_data (operation_name op) c → operands_of op c ≡ Some p → (m : Form) × SpellsForm d m
unfolding operation_name
operation_spelt Add d c p is at =
    let h = places_found Add c p at in (add_form p.0 p.1 p.2, (c, is, (h.0, h.1, field_found (codes "y") c p.2 h.2)))
operation_spelt Sub d c p is at =
    let h = places_found Sub c p at in (sub_form p.0 p.1 p.2, (c, is, (h.0, h.1, field_found (codes "y") c p.2 h.2)))
operation_spelt Mul d c p is at =
    let h = places_found Mul c p at in (mul_form p.0 p.1 p.2, (c, is, (h.0, h.1, field_found (codes "y") c p.2 h.2)))
operation_spelt Neg d c p is at =
    let h = places_found Neg c p at in (neg_form p.0 p.1, (c, is, (h.0, h.1)))

raw_spelt : (d : Data) (m : Raw) → SpellsRaw d m → (w : Form) × SpellsForm d w
raw_spelt d (raw_leaf c) is = (leaf_form c, (c, is, refl))
raw_spelt d (raw op p) h = operation_spelt op d h.0 p h.1 h.2

-- ---- the fault of a form

late : {X : Type 0} (xs : List X) (i : ℕ) → slice_get xs i ≡ None → length xs ≤ i
late [] i e = omega arith
late (x ∷ xs) zero e = absurd cc
late (x ∷ xs) (suc i) e = omega (arith, late xs i e)

past : {X : Type 0} (xs : List X) (i : ℕ) → length xs ≤ i → slice_get xs i ≡ None
past [] i h = refl
past (x ∷ xs) zero h = absurd (omega arith)
past (x ∷ xs) (suc i) h = past xs i (omega (arith, h))

test_of_unlike : (m n : ℕ) → m ≢ n → eqb m n ≡ false
test_of_unlike m n h =
    ⊎_elim (λ (t : (eqb m n ≡ true) × (m ≡ n)). absurd (h t.1)) (λ (t : (eqb m n ≡ false) × (m ≢ n)). t.0) (eqb_tells m n)

not_below : (a b : ℕ) → ltb a b ≡ false → b ≤ a
not_below a b e = ⊎_elim (λ (h : a < b). absurd (cc (sym e ∙ lt-ltb a b h))) (λ (h : b ≤ a). h) (cases_lt a b)

unlike : (m n : ℕ) → eqb m n ≡ false → m ≢ n
unlike m n e same = absurd (cc (sym e ∙ (ap (eqb m) (sym same) ∙ itself m)))
  where
    itself : (m : ℕ) → eqb m m ≡ true
    itself m = search (rules, tests)

module _ {S F : Type 0} (kind : Kind S F) (laws : KindLaws kind) (before : List (Tree S)) where
  abbrev both : Tree S → Tree S → Tree S × Tree S
  both t u = (t, u)

  abbrev step : Operation → ℕ → Tree S → Tree S → Result (Tree S × Tree S) FlatError
  step op n t u = joined_degree op (degree kind.term t) (degree kind.term u) >>= λ s. check_degree (length before) n s (both t u)

  abbrev operands : Operation → ℕ × ℕ × ℕ → Result (Tree S × Tree S) FlatError
  operands op p = operand before p.1 >>= λ t. operand before p.2 >>= λ u. step op p.0 t u

  abbrev raw_at : Raw → Result (Tree S) FlatError
  raw_at (raw_leaf c) = leaf_node_at kind (length before) c
  raw_at (raw op p) = operands op p >>= λ q. ok_of (joined_tree op q.0 q.1)

  abbrev by_raw : Option Raw → Result (Tree S) FlatError
  by_raw None = Err (faults.Shape (length before))
  by_raw (Some m) = raw_at m

  either : (b : Bool) (x y : Result (Tree S) FlatError) (o p : Option Raw) → x ≡ by_raw o → y ≡ by_raw p → if b then x else y ≡ by_raw (if b then o else p)
  either true x y o p h k = h
  either false x y o p h k = k

  places_by : (op : Operation) (o : Option (ℕ × ℕ × ℕ)) → ((ok_or o (faults.Shape (length before)) >>= λ p. operands op p) >>= λ q. ok_of (joined_tree op q.0 q.1)) ≡ by_raw (option_map (λ p. raw op p) o)
  places_by op None = refl
  places_by op (Some p) = refl

  operation_by : (o : Option Operation) (c : Data) → operation_or kind before o c ≡ by_raw (option_and_then (λ op. option_map (λ p. raw op p) (operands_of op c)) o)
  unfolding operands_at
  operation_by None c = refl
  operation_by (Some op) c = places_by op (operands_of op c)

  case_by : (o : Option (List ℕ × Data)) → case_or (Err (faults.Shape (length before))) (node_with kind before) o ≡ by_raw (case_or None raw_with o)
  case_by None = refl
  case_by (Some c) = either (bytes_eq c.0 (codes "Leaf")) _ _ _ _ refl (operation_by (find_name operations c.0) c.1)

  -- ---- faults

  not_stated : {X : Type 0} (n found : ℕ) (t : X) (f : FlatError) → check_degree (length before) n found t ≡ Err f → IsMisstated before n found f
  not_stated n found t f e = go (eqb n found) refl e
    where
      go : (b : Bool) → eqb n found ≡ b → if b then Ok t else Err (faults.WrongDegree (length before) n found) ≡ Err f → IsMisstated before n found f
      go true is e = absurd cc
      go false is e = (unlike n found is, sym (err_is (faults.WrongDegree (length before) n found) f e))

  one_operand : {X : Type 0} (i : ℕ) (k : Tree S → Result X FlatError) (f : FlatError) → (operand before i >>= k) ≡ Err f → IsLate before i f ⊎ ((t : Tree S) × IsTreeAt before i t × (k t ≡ Err f))
  unfolding operand
  one_operand {X} i k f e = go (slice_get before i) refl e
    where
      go : (o : Option (Tree S)) → slice_get before i ≡ o → (operand_of (length before) i o >>= k) ≡ Err f → IsLate before i f ⊎ ((t : Tree S) × IsTreeAt before i t × (k t ≡ Err f))
      go None is e = inl (late before i is, sym (err_is (faults.Operand (length before) i) f e))
      go (Some t) is e = inr (t, is, e)

  two_operands : {X : Type 0} (x y : ℕ) (k : Tree S → Tree S → Result X FlatError) (rest : Tree S → Tree S → FlatError → Type 0) → ((t u : Tree S) (f : FlatError) → k t u ≡ Err f → rest t u f) → (f : FlatError)
      → (operand before x >>= λ t. operand before y >>= λ u. k t u) ≡ Err f → OperandsFault before x y rest f
  two_operands {X} x y k rest h f e = at_x (one_operand x (λ t. operand before y >>= λ u. k t u) f e)
    where
      at_y : (t : Tree S) → IsLate before y f ⊎ ((u : Tree S) × IsTreeAt before y u × (k t u ≡ Err f)) → IsLate before y f ⊎ ((u : Tree S) × IsTreeAt before y u × rest t u f)
      at_y t (inl late) = inl late
      at_y t (inr q) = inr (q.0, q.1, h t q.0 f q.2)

      at_x : IsLate before x f ⊎ ((t : Tree S) × IsTreeAt before x t × ((operand before y >>= λ u. k t u) ≡ Err f)) → OperandsFault before x y rest f
      at_x (inl late) = inl late
      at_x (inr p) = inr (p.0, p.1, at_y p.0 (one_operand y (λ u. k p.0 u) f p.2))

  product_fault : (n : ℕ) (t u : Tree S) (f : FlatError) → step Mul n t u ≡ Err f → ProductFault kind before n t u f
  product_fault n t u f e = go (ltb (degree kind.term t + degree kind.term u) (2 ^ 64)) refl e
    where
      go : (b : Bool) → ltb (degree kind.term t + degree kind.term u) (2 ^ 64) ≡ b → ((if b then Ok (degree kind.term t + degree kind.term u) else Err faults.DegreeOverflow) >>= λ s. check_degree (length before) n s (both t u)) ≡ Err f → ProductFault kind before n t u f
      go true is e = inr (ltb-true (degree kind.term t + degree kind.term u) (2 ^ 64) is, not_stated n (degree kind.term t + degree kind.term u) (both t u) f e)
      go false is e = inl (not_below (degree kind.term t + degree kind.term u) (2 ^ 64) is, sym (err_is faults.DegreeOverflow f e))

  -- the operand of a negative
  negated_fault : (n x y : ℕ) (f : FlatError) → x ≡ y → operands Neg (n, x, y) ≡ Err f → FormFault kind before (neg_form n x) f
  negated_fault n x y f same e = at_x (one_operand x (λ t. operand before y >>= λ u. step Neg n t u) f e)
    where
      at_y : (t : Tree S) → IsTreeAt before x t → IsLate before y f ⊎ ((u : Tree S) × IsTreeAt before y u × (step Neg n t u ≡ Err f)) → FormFault kind before (neg_form n x) f
      at_y t at (inl late) = inl (subst (λ i. IsLate before i f) (sym same) late)
      at_y t at (inr q) = inr (t, at, not_stated n (degree kind.term t) (both t q.0) f q.2)

      at_x : IsLate before x f ⊎ ((t : Tree S) × IsTreeAt before x t × ((operand before y >>= λ u. step Neg n t u) ≡ Err f)) → FormFault kind before (neg_form n x) f
      at_x (inl late) = inl late
      at_x (inr p) = at_y p.0 p.1 (one_operand y (λ u. step Neg n p.0 u) f p.2)

  operation_fault : (op : Operation) (d c : Data) (p : ℕ × ℕ × ℕ) (f : FlatError) → d ≡ case_data (operation_name op) c → operands_of op c ≡ Some p → operands op p ≡ Err f → (m : Form) × SpellsForm d m × FormFault kind before m f
  unfolding operation_name
  operation_fault Add d c p f is at e =
      let h = places_found Add c p at in
      (add_form p.0 p.1 p.2, (c, is, (h.0, h.1, field_found (codes "y") c p.2 h.2)), two_operands p.1 p.2 (step Add p.0) (SumFault kind before p.0) (λ t u g. not_stated p.0 (max (degree kind.term t) (degree kind.term u)) (both t u) g) f e)
  operation_fault Sub d c p f is at e =
      let h = places_found Sub c p at in
      (sub_form p.0 p.1 p.2, (c, is, (h.0, h.1, field_found (codes "y") c p.2 h.2)), two_operands p.1 p.2 (step Sub p.0) (SumFault kind before p.0) (λ t u g. not_stated p.0 (max (degree kind.term t) (degree kind.term u)) (both t u) g) f e)
  operation_fault Mul d c p f is at e =
      let h = places_found Mul c p at in
      (mul_form p.0 p.1 p.2, (c, is, (h.0, h.1, field_found (codes "y") c p.2 h.2)), two_operands p.1 p.2 (step Mul p.0) (ProductFault kind before p.0) (product_fault p.0) f e)
  operation_fault Neg d c p f is at e =
      let h = places_found Neg c p at in
      (neg_form p.0 p.1, (c, is, (h.0, h.1)), negated_fault p.0 p.1 p.2 f (some_number p.1 p.2 (sym (field_read (codes "x") c p.1 h.1) ∙ h.2)) e)
    where
      some_number : (m n : ℕ) → Some m ≡ Some n → m ≡ n
      some_number m n e = cc

  raw_fault : (d : Data) (m : Raw) (f : FlatError) → SpellsRaw d m → raw_at m ≡ Err f → (m : Form) × SpellsForm d m × FormFault kind before m f
  raw_fault d (raw_leaf c) f is e = (leaf_form c, (c, is, refl), laws.fault_found (length before) c f (before_done (kind.leaf_at (length before) c) (λ a. leaf_tree a) f e))
  raw_fault d (raw op p) f h e = operation_fault op d h.0 p f h.1 h.2 (before_done (operands op p) (λ q. joined_tree op q.0 q.1) f e)

  pub node_fault : (d : Data) (f : FlatError) → node_of_value kind before d ≡ Err f → NodeFault kind before d f
  unfolding node_of_value
  node_fault d f e = go (raw_of d) refl (sym (case_by (only_member d)) ∙ e)
    where
      go : (o : Option Raw) → raw_of d ≡ o → by_raw o ≡ Err f → NodeFault kind before d f
      go None is e = inl ((λ m s. none_found (λ _. ⊥) (raw_form m) (sym is ∙ raw_again d m s)), sym (err_is (faults.Shape (length before)) f e))
      go (Some m) is e = inr (raw_fault d m f (raw_found d m is) e)

  -- ---- a value with a fault can't be read

  stated_wrong : {X : Type 0} (n found : ℕ) (t : X) (f : FlatError) → IsMisstated before n found f → check_degree (length before) n found t ≡ Err f
  stated_wrong n found t f h =
      ap (λ b. if b then Ok t else Err (faults.WrongDegree (length before) n found)) (test_of_unlike n found h.0) ∙ ap (λ g. err_of g) (sym h.1)

  operand_late : (i : ℕ) (f : FlatError) → IsLate before i f → operand before i ≡ Err f
  unfolding operand
  operand_late i f h = ap (operand_of (length before) i) (past before i h.0) ∙ ap (λ g. err_of g) (sym h.1)

  operand_there : (i : ℕ) (t : Tree S) → IsTreeAt before i t → operand before i ≡ Ok t
  unfolding operand
  operand_there i t h = ap (operand_of (length before) i) h

  operands_fail : {X : Type 0} (x y : ℕ) (k : Tree S → Tree S → Result X FlatError) (rest : Tree S → Tree S → FlatError → Type 0) → ((t u : Tree S) (f : FlatError) → rest t u f → k t u ≡ Err f) → (f : FlatError)
      → OperandsFault before x y rest f → (operand before x >>= λ t. operand before y >>= λ u. k t u) ≡ Err f
  operands_fail x y k rest h f (inl late) =
      ap (λ (r : Result (Tree S) FlatError). r >>= λ t. operand before y >>= λ u. k t u) (operand_late x f late)
  operands_fail x y k rest h f (inr (t, at, inl late)) =
      ap (λ (r : Result (Tree S) FlatError). r >>= λ t. operand before y >>= λ u. k t u) (operand_there x t at)
      ∙ ap (λ (r : Result (Tree S) FlatError). r >>= λ u. k t u) (operand_late y f late)
  operands_fail x y k rest h f (inr (t, at, inr (u, there, bad))) =
      ap (λ (r : Result (Tree S) FlatError). r >>= λ t. operand before y >>= λ u. k t u) (operand_there x t at)
      ∙ ap (λ (r : Result (Tree S) FlatError). r >>= λ u. k t u) (operand_there y u there)
      ∙ h t u f bad

  product_fails : (n : ℕ) (t u : Tree S) (f : FlatError) → ProductFault kind before n t u f → step Mul n t u ≡ Err f
  product_fails n t u f (inl (big, is)) =
      ap (λ b. (if b then Ok (degree kind.term t + degree kind.term u) else Err faults.DegreeOverflow) >>= λ s. check_degree (length before) n s (both t u)) (le-ltb (degree kind.term t + degree kind.term u) (2 ^ 64) big)
      ∙ ap (λ g. err_of g) (sym is)
  product_fails n t u f (inr (small, wrong)) =
      ap (λ b. (if b then Ok (degree kind.term t + degree kind.term u) else Err faults.DegreeOverflow) >>= λ s. check_degree (length before) n s (both t u)) (lt-ltb (degree kind.term t + degree kind.term u) (2 ^ 64) small)
      ∙ stated_wrong n (degree kind.term t + degree kind.term u) (both t u) f wrong

  negative_fails : (n x : ℕ) (f : FlatError) → FormFault kind before (neg_form n x) f → operands Neg (n, x, x) ≡ Err f
  negative_fails n x f (inl late) =
      ap (λ (r : Result (Tree S) FlatError). r >>= λ t. operand before x >>= λ u. step Neg n t u) (operand_late x f late)
  negative_fails n x f (inr (t, at, wrong)) =
      ap (λ (r : Result (Tree S) FlatError). r >>= λ t. operand before x >>= λ u. step Neg n t u) (operand_there x t at)
      ∙ ap (λ (r : Result (Tree S) FlatError). r >>= λ u. step Neg n t u) (operand_there x t at)
      ∙ stated_wrong n (degree kind.term t) (both t t) f wrong

  abbrev joins : Operation → Result (Tree S × Tree S) FlatError → Result (Tree S) FlatError
  joins op r = r >>= λ q. ok_of (joined_tree op q.0 q.1)

  form_fails : (m : Form) (f : FlatError) → FormFault kind before m f → raw_at (raw_form m) ≡ Err f
  form_fails (leaf_form c) f h = ap (λ (r : Result S FlatError). r >>= λ a. ok_of (leaf_tree a)) (laws.fault_again (length before) c f h)
  form_fails (add_form n x y) f h =
      ap (joins Add) (operands_fail x y (step Add n) (SumFault kind before n) (λ t u g. stated_wrong n (max (degree kind.term t) (degree kind.term u)) (both t u) g) f h)
  form_fails (sub_form n x y) f h =
      ap (joins Sub) (operands_fail x y (step Sub n) (SumFault kind before n) (λ t u g. stated_wrong n (max (degree kind.term t) (degree kind.term u)) (both t u) g) f h)
  form_fails (mul_form n x y) f h = ap (joins Mul) (operands_fail x y (step Mul n) (ProductFault kind before n) (product_fails n) f h)
  form_fails (neg_form n x) f h = ap (joins Neg) (negative_fails n x f h)

  pub node_fails : (d : Data) (f : FlatError) → NodeFault kind before d f → node_of_value kind before d ≡ Err f
  unfolding node_of_value
  node_fails d f (inl (nowhere, is)) = case_by (only_member d) ∙ go (raw_of d) refl
    where
      go : (o : Option Raw) → raw_of d ≡ o → by_raw o ≡ Err f
      go None e = ap (λ g. err_of g) (sym is)
      go (Some m) e = absurd (let w = raw_spelt d m (raw_found d m e) in nowhere w.0 w.1)
  node_fails d f (inr (m, spelt, bad)) = case_by (only_member d) ∙ ap by_raw (raw_again d m spelt) ∙ form_fails m f bad
