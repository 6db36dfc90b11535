-- The first reason of an object is that of its first fault.
use Rattle.std.proofs.Common.{◌≡◌, ℕ, suc, ◌+◌, Bool, true, false, List, [], ◌∷◌, ◌++◌, length, Option, Some, None, Result, Ok, Err, codes, if◌then◌else◌, refl, sym, ap, ◌∙◌, arith, length-append}
use Rattle.std.specs.Prelude.{option_map, option_and_then, nat_lt, is_some, ◌||◌}
use Rattle.std.specs.Result.{result_map_both}
use Rattle.serde_json.specs.Data.{Data, null, boolean, number, string, array, object, Items, no_items, item}
use Rattle.serde_json.specs.Find.{get, as_array}
use Rattle.air_core.specs.Errors.{matrix_air_error}
use Rattle.air_core.specs.declared.errors.AirError.{AirError}
use Rattle.air_core.specs.declared.errors.AirError.TheVariants as air
use Rattle.air_field.specs.Grid.{Grid, grid_of}
use Rattle.air_field.specs.Matrix.{is_ragged, matrix_of}
use Rattle.air_field.specs.Modular.{Modular}
use Rattle.air_field.specs.declared.errors.MatrixError.{MatrixError}
use Rattle.air_field.specs.declared.errors.MatrixError.TheVariants.{Ragged}
use Rattle.air_symbolic.specs.Trees.{Tree}
use Rattle.air_symbolic.specs.declared.leaves.base_leaf.BaseLeaf.{BaseLeaf}
use Rattle.air_core.specs.declared.boundary.BoundaryPublic.{BoundaryPublic}
use Rattle.air_json.specs.Faults.{air_fault}
use Rattle.air_json.specs.Parts.{as_whole_number, whole_at}
use Rattle.air_json.specs.Results.{◌>>=◌}
use Rattle.air_json.specs.declared.errors.FlatError.{FlatError}
use Rattle.air_json.specs.declared.errors.FlatError.TheVariants as faults
use Rattle.air_object.specs.Input.{fault_in, input_fault}
use Rattle.air_object.specs.Members.{MemberValues, Made, made, table_of, both_matrices, labelled_constraints}
use Rattle.air_object.specs.Readers as read
use Rattle.air_object.specs.Readers.{Reader, or_wrong_form, or_absent, each_from, list_read, if_at_most, if_either, both_read, members_read, members_with, labelled_read, labelled_with}
use Rattle.air_object.specs.laws.Members.{labelled_agree}
use Rattle.air_reason.specs.Members as why
use Rattle.air_reason.specs.Members.{input_reason, labelled_reason}
use Rattle.air_reason.specs.Nodes.{constraint}
use Rattle.air_reason.specs.Reasons.{Reason, Check, under, ◌orElse◌, malformed, items_or, found_or, needed, optional, in_items, in_list}
use Rattle.air_reason.proofs.Agreement.{error_in, fault_of, error_under, in_turn, Agree, items_agree, list_agree, needed_agree, optional_agree}
use Rattle.air_reason.proofs.ValueLaws.{whole_agree, elements_agree, columns_agree, constraints_agree, cells_agree, cap_agree, label_agree}

-- ---- numbers of items

counted : {X : Type 0} (read : Reader X) (done xs : List X) (ds : Items) → each_from read done ds ≡ Ok xs → why.count_from (length done) ds ≡ length xs
unfolding each_from
counted read done xs no_items is = ap length (cc is)
counted {X} read done xs (item d ds) is = first (λ x same. counted read (done ++ x ∷ []) xs ds same) (read d) is
  where
    first : ((x : X) → each_from read (done ++ x ∷ []) ds ≡ Ok xs → why.count_from (length (done ++ x ∷ [])) ds ≡ length xs)
        → (r : Result X FlatError) → (r >>= λ x. each_from read (done ++ x ∷ []) ds) ≡ Ok xs → why.count_from (suc (length done)) ds ≡ length xs
    first further (Ok x) is =
        let more : length (done ++ x ∷ []) ≡ suc (length done) = simp length-append (omega arith) in
        ap (λ n. why.count_from n ds) (sym more) ∙ further x is
    first further (Err f) is = absurd cc

list_counted : {X : Type 0} (read : Reader X) (xs : List X) (o : Option Items) → (or_wrong_form o >>= λ ds. each_from read [] ds) ≡ Ok xs → option_map why.count o ≡ Some (length xs)
list_counted read xs None is = absurd cc
list_counted read xs (Some ds) is = ap (λ n. Some n) (counted read [] xs ds is)

-- a member that is read as a list has as many items
member_counted : {X : Type 0} (read : Reader X) (xs : List X) (o : Option Data) → (or_wrong_form o >>= list_read read) ≡ Ok xs → option_map why.count (option_and_then as_array o) ≡ Some (length xs)
member_counted read xs None is = absurd cc
member_counted read xs (Some d) is = list_counted read xs (as_array d) is

whole_found : (n : ℕ) (o : Option Data) → (or_wrong_form o >>= λ c. or_wrong_form (as_whole_number c)) ≡ Ok n → option_and_then as_whole_number o ≡ Some n
whole_found n None is = absurd cc
whole_found n (Some d) is = some (as_whole_number d) is
  where
    some : (o : Option ℕ) → or_wrong_form o ≡ Ok n → o ≡ Some n
    some None is = absurd cc
    some (Some k) is = cc

-- ---- labels

module _ (n : ℕ) where
  sized : (text : List ℕ) (xs : List (List ℕ)) (b : Bool) → error_in (if b then malformed text else None) ≡ fault_of (if b then Err (faults.Shape 0) else Ok xs)
  sized text xs true = refl
  sized text xs false = refl

  fits : (xs : List (List ℕ)) (count : ℕ) → count ≡ length xs → error_in (why.surplus (Some count) (Some n)) ≡ fault_of (if_at_most n xs)
  fits xs count same = rw same (sized (why.surplus_text (length xs) n) xs (nat_lt n (length xs)))

  listed : (o : Option Items) → error_in (under (codes "labels") (items_or why.label o) orElse why.surplus (option_map why.count o) (Some n)) ≡ fault_of ((or_wrong_form o >>= λ ds. each_from read.label_read [] ds) >>= if_at_most n)
  listed None = refl
  listed (Some ds) =
      in_turn fault_of (λ f. refl) (under (codes "labels") (in_items why.label 0 ds)) (why.surplus (Some (why.count ds)) (Some n)) (each_from read.label_read [] ds) (if_at_most n)
      (error_under (codes "labels") (in_items why.label 0 ds) ∙ items_agree why.label read.label_read label_agree 0 [] ds)
      (λ xs is. fits xs (why.count ds) (counted read.label_read [] xs ds is))

  found : (o : Option Data) → error_in (found_or None (codes "labels") (in_list why.label) o orElse why.surplus (option_map why.count (option_and_then as_array o)) (Some n)) ≡ fault_of (or_absent [] (read.labels n) o)
  unfolding read.labels
  found None = refl
  found (Some d) = listed (as_array d)

  labels_agree : (d : Data) → why.count_in (codes "constraints") d ≡ Some n → error_in (why.labels d) ≡ fault_of (read.labels_member n d)
  unfolding why.labels read.labels_member
  labels_agree d count = rw count (found (get (codes "labels") d))

-- ---- traces

abbrev error_of : {X : Type 0} → Result X MatrixError → Option AirError
error_of (Ok x) = None
error_of (Err f) = Some (matrix_air_error f)

module _ {F : Type 0} (name : List ℕ) (width : ℕ) where
  ragged : (xs : List F) (text : List ℕ) (b : Bool) → error_in (if b then Some (record { error = air.Ragged (length xs) width; text = text }) else None) ≡ error_of (if b then Err (Ragged (length xs) width) else Ok (grid_of width xs))
  ragged xs text true = refl
  ragged xs text false = refl

  rows_agree : (xs : List F) (w n : Option ℕ) → w ≡ Some width → n ≡ Some (length xs) → error_in (why.no_rows name w n) ≡ error_of (matrix_of width xs)
  rows_agree xs w n is_width is_count = rw (is_width, is_count) (ragged xs (why.no_rows_text name width (length xs)) (is_ragged (length xs) width))

-- a value of the preprocessed trace has the same error
error_kept : {X Y : Type 0} (f : X → Y) (r : Result X MatrixError) → error_of (result_map_both f (λ e. e) r) ≡ error_of r
error_kept f (Ok x) = refl
error_kept f (Err e) = refl

-- the rows of both traces
both_agree : {F : Type 0} (f : Grid F × Option (Grid F) → MemberValues F) (a b : Option Reason) (x : Result (Grid F) MatrixError) (t : Result (Option (Grid F)) MatrixError)
    → error_in a ≡ error_of x → error_in b ≡ error_of t → error_in (a orElse b) ≡ fault_in (Ok (result_map_both f (λ e. e) (both_matrices x t)))
both_agree f None b (Ok x) (Ok t) e h = h
both_agree f None b (Ok x) (Err g) e h = h
both_agree f (Some q) b (Ok x) t e h = absurd cc
both_agree f None b (Err g) t e h = absurd cc
both_agree f (Some q) b (Err g) t e h = e

module _ {F : Type 0} {p : ℕ} (m : Modular F p) (d : Data) where
  width_agrees : (name : List ℕ) → error_in (needed name why.whole d) ≡ fault_of (read.width_member name d)
  unfolding read.width_member
  width_agrees name = (needed_agree why.whole (λ c. or_wrong_form (as_whole_number c)) whole_agree name).at d

  elements_agrees : (name : List ℕ) → error_in (needed name (why.elements p) d) ≡ fault_of (read.elements_member m name d)
  unfolding read.elements_member
  elements_agrees name = (needed_agree (why.elements p) (read.elements m) (elements_agree m) name).at d

  width_is : (name : List ℕ) (n : ℕ) → read.width_member name d ≡ Ok n → whole_at name d ≡ Some n
  unfolding read.width_member
  width_is name n is = whole_found n (get name d) is

  count_is : (name : List ℕ) (xs : List F) → read.elements_member m name d ≡ Ok xs → why.count_in name d ≡ Some (length xs)
  unfolding read.elements_member read.elements
  count_is name xs is = member_counted _ xs (get name d) is

  trees_count : (ts : List (Option (Tree (BaseLeaf F)))) → read.constraints_member m d ≡ Ok ts → why.count_in (codes "constraints") d ≡ Some (length ts)
  unfolding read.constraints_member read.trees
  trees_count ts is = member_counted (read.tree m) ts (get (codes "constraints") d) is

  constraints_agrees : error_in (why.constraints m d) ≡ fault_of (read.constraints_member m d)
  unfolding why.constraints read.constraints_member
  constraints_agrees = (needed_agree (in_list (constraint m)) (read.trees m) (constraints_agree m) (codes "constraints")).at d

  periodic_agrees : error_in (optional (codes "periodic") (in_list (why.elements p)) d) ≡ fault_of (read.periodic_member m d)
  unfolding read.periodic_member
  periodic_agrees = (optional_agree (in_list (why.elements p)) (read.columns m) (columns_agree m) (codes "periodic") []).at d

  boundary_agrees : error_in (optional (codes "boundary") (in_list why.cell) d) ≡ fault_of (read.boundary_member d)
  unfolding read.boundary_member
  boundary_agrees = (optional_agree (in_list why.cell) read.cells cells_agree (codes "boundary") []).at d

  cap_agrees : error_in (optional (codes "cap") why.cap d) ≡ fault_of (read.cap_member d)
  unfolding read.cap_member
  cap_agrees = (optional_agree why.cap (λ c. or_wrong_form (read.cap_in c)) cap_agree (codes "cap") None).at d

  weight_agrees : error_in (optional (codes "transition_weight") why.whole d) ≡ fault_of (read.weight_member d)
  unfolding read.weight_member
  weight_agrees = (optional_agree why.whole (λ c. or_wrong_form (as_whole_number c)) whole_agree (codes "transition_weight") 0).at d

  -- ---- the preprocessed trace

  abbrev Table : Type 0
  Table = Result (Option (Grid F)) MatrixError

  -- a width and values that are read in turn
  abbrev taken : Result ℕ FlatError → Result (List F) FlatError → Result Table FlatError
  taken r s = ((r >>= λ x. s >>= λ y. Ok (x, y)) >>= λ x. Ok (Some x)) >>= λ rows. Ok (table_of rows)

  taken_agrees : (one two : Option Reason) (r : Result ℕ FlatError) (s : Result (List F) FlatError) → error_in one ≡ fault_of r → error_in two ≡ fault_of s → error_in (one orElse two) ≡ fault_of (taken r s)
  taken_agrees None two (Ok x) (Ok y) e f = f
  taken_agrees None two (Ok x) (Err g) e f = f
  taken_agrees (Some q) two (Ok x) s e f = absurd cc
  taken_agrees None two (Err g) s e f = absurd cc
  taken_agrees (Some q) two (Err g) s e f = e

  table_agrees : error_in (why.table p d) ≡ fault_of (read.table_member m d)
  unfolding why.table read.table_member
  table_agrees = by (is_some (get (codes "preprocessed_width") d) || is_some (get (codes "preprocessed") d))
    where
      by : (b : Bool) → error_in (if b then needed (codes "preprocessed_width") why.whole d orElse needed (codes "preprocessed") (why.elements p) d else None)
          ≡ fault_of ((if b then (both_read (read.width_member (codes "preprocessed_width")) (read.elements_member m (codes "preprocessed")) d >>= λ x. Ok (Some x)) else Ok None) >>= λ rows. Ok (table_of rows))
      by true = taken_agrees _ _ (read.width_member (codes "preprocessed_width") d) (read.elements_member m (codes "preprocessed") d) (width_agrees (codes "preprocessed_width")) (elements_agrees (codes "preprocessed"))
      by false = refl

  abbrev table_error : Result Table FlatError → Option AirError
  table_error (Ok t) = error_of t
  table_error (Err f) = None

  pub record Taken (r : Result ℕ FlatError) (s : Result (List F) FlatError) (t : Table) : Type 0 where
    pub width : ℕ
    pub values : List F
    pub width_is : r ≡ Ok width
    pub values_are : s ≡ Ok values
    pub table : table_of (Some (width, values)) ≡ t

  split : (r : Result ℕ FlatError) (s : Result (List F) FlatError) (t : Table) → taken r s ≡ Ok t → Taken r s t
  split (Ok w) (Ok xs) t is = record { width = w; values = xs; width_is = refl; values_are = refl; table = cc }
  split (Ok w) (Err g) t is = absurd cc
  split (Err g) s t is = absurd cc

  no_width : (o : Option Data) → is_some o || is_some (get (codes "preprocessed") d) ≡ false → error_in (why.no_rows (codes "preprocessed") (option_and_then as_whole_number o) (why.count_in (codes "preprocessed") d)) ≡ None
  no_width None e = refl
  no_width (Some c) e = absurd cc

  table_rows : (t : Table) → read.table_member m d ≡ Ok t → error_in (why.rows (codes "preprocessed_width") (codes "preprocessed") d) ≡ error_of t
  unfolding why.rows read.table_member
  table_rows t is = by (is_some (get (codes "preprocessed_width") d) || is_some (get (codes "preprocessed") d)) refl is
    where
      by : (b : Bool) → is_some (get (codes "preprocessed_width") d) || is_some (get (codes "preprocessed") d) ≡ b
          → ((if b then (both_read (read.width_member (codes "preprocessed_width")) (read.elements_member m (codes "preprocessed")) d >>= λ x. Ok (Some x)) else Ok None) >>= λ rows. Ok (table_of rows)) ≡ Ok t
          → error_in (why.no_rows (codes "preprocessed") (whole_at (codes "preprocessed_width") d) (why.count_in (codes "preprocessed") d)) ≡ error_of t
      by true e same =
          let h = split (read.width_member (codes "preprocessed_width") d) (read.elements_member m (codes "preprocessed") d) t same in
          rows_agree (codes "preprocessed") h.width h.values (whole_at (codes "preprocessed_width") d) (why.count_in (codes "preprocessed") d) (width_is (codes "preprocessed_width") h.width h.width_is) (count_is (codes "preprocessed") h.values h.values_are)
          ∙ sym (error_kept (λ table. Some table) (matrix_of h.width h.values)) ∙ ap error_of h.table
      by false e same = no_width (get (codes "preprocessed_width") d) e ∙ ap table_error same

  -- ---- the whole object

  rows_are : (width : ℕ) (main : List F) (t : Table) → read.width_member (codes "main_width") d ≡ Ok width → read.elements_member m (codes "main") d ≡ Ok main → read.table_member m d ≡ Ok t
      → (f : Grid F × Option (Grid F) → MemberValues F) → error_in (why.whole_rows d) ≡ fault_in (Ok (result_map_both f (λ e. e) (both_matrices (matrix_of width main) t)))
  unfolding why.whole_rows why.rows
  rows_are width main t is_width is_main is_table f =
      both_agree f _ _ (matrix_of width main) t
      (rows_agree (codes "main") width main (whole_at (codes "main_width") d) (why.count_in (codes "main") d) (width_is (codes "main_width") width is_width) (count_is (codes "main") main is_main))
      (table_rows t is_table)

  -- four reasons and then the others
  four : (a b c e rest : Option Reason) → (a orElse b orElse c orElse e) orElse rest ≡ a orElse b orElse c orElse e orElse rest
  four (Some q) b c e rest = refl
  four None (Some q) c e rest = refl
  four None None (Some q) e rest = refl
  four None None None e rest = refl

  turn : {X : Type 0} (one rest : Option Reason) (r : Result X FlatError) (next : X → Result (Made F) FlatError) → error_in one ≡ fault_of r → ((x : X) → r ≡ Ok x → error_in rest ≡ fault_in (next x)) → error_in (one orElse rest) ≡ fault_in (r >>= next)
  turn = in_turn fault_in (λ f. refl)

  members_agree : error_in (why.input_members m d) ≡ fault_in (members_read m d)
  unfolding members_with why.traces why.further
  members_agree =
      ap error_in (four (needed (codes "main_width") why.whole d) (needed (codes "main") (why.elements p) d) (why.table p d) (needed (codes "public_values") (why.elements p) d) _)
      ∙ turn _ _ (read.width_member (codes "main_width") d) _ (width_agrees (codes "main_width")) (λ width is_width.
      turn _ _ (read.elements_member m (codes "main") d) _ (elements_agrees (codes "main")) (λ main is_main.
      turn _ _ (read.table_member m d) _ table_agrees (λ t is_table.
      turn _ _ (read.elements_member m (codes "public_values") d) _ (elements_agrees (codes "public_values")) (λ public is_public.
      turn _ _ (read.constraints_member m d) _ constraints_agrees (λ trees are_trees.
      ap error_in (four (optional (codes "periodic") (in_list (why.elements p)) d) (optional (codes "boundary") (in_list why.cell) d) (optional (codes "cap") why.cap d) (optional (codes "transition_weight") why.whole d) _)
      ∙ turn _ _ (read.periodic_member m d) _ periodic_agrees (λ periodic are_periodic.
      turn _ _ (read.boundary_member d) _ boundary_agrees (λ boundary is_boundary.
      turn _ _ (read.cap_member d) _ cap_agrees (λ most is_most.
      turn _ _ (read.weight_member d) _ weight_agrees (λ weight is_weight.
      turn _ _ (read.labels_member (length trees) d) _ (labels_agree (length trees) d (trees_count trees are_trees)) (λ texts are_texts.
      rows_are width main t is_width is_main is_table _))))))))))

  labelled_members_agree : error_in (why.labelled_members m d) ≡ fault_of (labelled_read m d)
  labelled_members_agree =
      in_turn fault_of (λ f. refl) _ _ (read.constraints_member m d) _ constraints_agrees (λ trees are_trees.
      last (λ texts. (trees, texts)) (why.labels d) (read.labels_member (length trees) d) (labels_agree (length trees) d (trees_count trees are_trees)))
    where
      last : {X Y : Type 0} (f : X → Y) (one : Option Reason) (r : Result X FlatError) → error_in one ≡ fault_of r → error_in one ≡ fault_of (r >>= λ x. Ok (f x))
      last f one (Ok x) same = same
      last f one (Err g) same = same

module _ {F : Type 0} {p : ℕ} (m : Modular F p) where
  -- the reason of a value is that of its first fault
  pub input_agrees : (d : Data) → error_in (input_reason m d) ≡ input_fault m d
  unfolding input_reason members_with read.width_member
  input_agrees null = refl
  input_agrees (boolean b) = refl
  input_agrees (number n) = refl
  input_agrees (string s) = refl
  input_agrees (array ds) = refl
  input_agrees (object ms) = members_agree m (object ms)

  labelled_agrees : (d : Data) → error_in (labelled_reason m d) ≡ fault_of (labelled_read m d)
  unfolding labelled_reason read.constraints_member
  labelled_agrees null = refl
  labelled_agrees (boolean b) = refl
  labelled_agrees (number n) = refl
  labelled_agrees (string s) = refl
  labelled_agrees (array ds) = refl
  labelled_agrees (object ms) = labelled_members_agree m (object ms)

  pub labelled_fault : (d : Data) (f : FlatError) → (labelled_constraints m).fault d f → error_in (labelled_reason m d) ≡ Some (air_fault f)
  labelled_fault d f h = labelled_agrees d ∙ ap fault_of ((labelled_agree m).refused d f h)
