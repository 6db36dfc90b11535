-- The checks of values agree with their readings.
use Rattle.std.proofs.Common.{◌≡◌, ℕ, suc, ◌<◌, Bool, true, false, List, [], ◌∷◌, ◌++◌, length, Option, Some, None, Result, Ok, Err, codes, if◌then◌else◌, refl, sym, ap, ◌∙◌}
use Rattle.std.specs.Prelude.{option_map, option_and_then, nat_lt, is_some}
use Rattle.serde_json.specs.Data.{Data, Items, no_items, item}
use Rattle.serde_json.specs.Find.{get, as_array, as_null, as_str}
use Rattle.air_core.specs.declared.errors.AirError.TheVariants as air
use Rattle.air_field.specs.Modular.{Modular}
use Rattle.air_symbolic.specs.Trees.{Tree}
use Rattle.air_symbolic.specs.declared.leaves.base_leaf.BaseLeaf.{BaseLeaf}
use Rattle.air_json.specs.BaseLeaves.{element_at, base_kind}
use Rattle.air_json.specs.BaseLeaves as leaves
use Rattle.air_json.specs.Boundaries.{end_of, cell_of, cell_at}
use Rattle.air_json.specs.Nodes.{root_of}
use Rattle.air_json.specs.Parts.{as_whole_number, whole_at, all_three}
use Rattle.air_json.specs.Results.{◌>>=◌}
use Rattle.air_json.specs.declared.errors.FlatError.{FlatError}
use Rattle.air_json.specs.declared.errors.FlatError.TheVariants as faults
use Rattle.air_object.specs.Readers as read
use Rattle.air_object.specs.Readers.{Reader, or_wrong_form, each_from, list_read}
use Rattle.air_reason.specs.Members as why
use Rattle.air_reason.specs.Nodes.{constraint, list_reason}
use Rattle.air_reason.specs.Reasons.{Reason, Check, under, ◌orElse◌, found_or, needed, malformed, in_list}
use Rattle.air_reason.proofs.Agreement.{error_in, fault_of, error_under, in_turn, Agree, list_agree, needed_agree, optional_agree}

whole_found : (o : Option ℕ) → error_in (why.whole_or o) ≡ fault_of (or_wrong_form o)
whole_found None = refl
whole_found (Some n) = refl

pub whole_agree : Agree why.whole (λ d. or_wrong_form (as_whole_number d))
whole_agree = record { at = λ d. whole_found (as_whole_number d) }

module _ {F : Type 0} {p : ℕ} (m : Modular F p) where
  element_sized : (n : ℕ) (b : Bool) → error_in (if b then None else Some (record { error = air.NotCanonical 0; text = why.past_text p n })) ≡ fault_of (if b then Ok (m.class n) else Err (faults.NotCanonical 0))
  element_sized n true = refl
  element_sized n false = refl

  element_found : (o : Option ℕ) → error_in (why.element_or p o) ≡ fault_of (leaves.element_or m 0 o)
  element_found None = refl
  element_found (Some n) = element_sized n (nat_lt n p)

  pub element_agree : Agree (why.element p) (element_at m 0)
  unfolding element_at
  element_agree = record { at = λ d. element_found (as_whole_number d) }

  pub elements_agree : Agree (why.elements p) (read.elements m)
  unfolding read.elements
  elements_agree = list_agree (why.element p) (element_at m 0) element_agree

  pub columns_agree : Agree (in_list (why.elements p)) (read.columns m)
  unfolding read.columns
  columns_agree = list_agree (why.elements p) (read.elements m) elements_agree

  root_found : (d : Data) (r : Result (Option (Tree (BaseLeaf F))) FlatError) → error_in (list_reason p d r) ≡ fault_of r
  root_found d (Ok tree) = refl
  root_found d (Err f) = refl

  pub constraint_agree : Agree (constraint m) (read.tree m)
  constraint_agree = record { at = λ d. root_found d (root_of (base_kind m) d) }

  pub constraints_agree : Agree (in_list (constraint m)) (read.trees m)
  unfolding read.trees
  constraints_agree = list_agree (constraint m) (read.tree m) constraint_agree

-- ---- boundary values

-- a member of a boundary value, which has the form of X
module _ {X : Type 0} (check : Check) (find : Data → Option X) (agree : Agree check (λ d. or_wrong_form (find d))) where
  field_found : (name : List ℕ) (o : Option Data) → error_in (under (codes ".") (found_or (malformed (name ++ codes " is missing")) name check o)) ≡ fault_of (or_wrong_form (option_and_then find o))
  field_found name None = refl
  field_found name (Some d) = error_under (codes ".") (under name (check d)) ∙ error_under name (check d) ∙ agree.at d

  field_agree : (name : List ℕ) (d : Data) → error_in (why.field name check d) ≡ fault_of (or_wrong_form (option_and_then find (get name d)))
  field_agree name d = field_found name (get name d)

all_found : {A B C D : Type 0} (make : A → B → C → D) (x y z : Option Reason) (a : Option A) (b : Option B) (c : Option C)
    → error_in x ≡ fault_of (or_wrong_form a) → error_in y ≡ fault_of (or_wrong_form b) → error_in z ≡ fault_of (or_wrong_form c) → error_in (x orElse y orElse z) ≡ fault_of (or_wrong_form (all_three make a b c))
all_found make (Some q) y z None b c e f g = e
all_found make None y z None b c e f g = absurd cc
all_found make (Some q) y z (Some a) b c e f g = absurd cc
all_found make None (Some r) z (Some a) None c e f g = f
all_found make None None z (Some a) None c e f g = absurd cc
all_found make None (Some r) z (Some a) (Some b) c e f g = absurd cc
all_found make None None (Some s) (Some a) (Some b) None e f g = g
all_found make None None None (Some a) (Some b) None e f g = absurd cc
all_found make None None (Some s) (Some a) (Some b) (Some c) e f g = absurd cc
all_found make None None None (Some a) (Some b) (Some c) e f g = refl

end_found : {X : Type 0} (o : Option X) → error_in (why.end_or o) ≡ fault_of (or_wrong_form o)
end_found None = refl
end_found (Some e) = refl

end_agree : Agree (λ d. why.end_or (end_of d)) (λ d. or_wrong_form (end_of d))
end_agree = record { at = λ d. end_found (end_of d) }

cell_agree : Agree why.cell read.cell_read
unfolding why.cell cell_of
cell_agree = record {
  at = λ d. all_found cell_at (why.field (codes "column") why.whole d) (why.field (codes "end") (λ e. why.end_or (end_of e)) d) (why.field (codes "public_value") why.whole d)
      (whole_at (codes "column") d) (option_and_then end_of (get (codes "end") d)) (whole_at (codes "public_value") d)
      (field_agree why.whole as_whole_number whole_agree (codes "column") d)
      (field_agree (λ e. why.end_or (end_of e)) end_of end_agree (codes "end") d)
      (field_agree why.whole as_whole_number whole_agree (codes "public_value") d);
}

pub cells_agree : Agree (in_list why.cell) read.cells
unfolding read.cells
cells_agree = list_agree why.cell read.cell_read cell_agree

-- ---- caps and labels

cap_found : (b : Bool) (o : Option ℕ) → error_in (if b then None else why.cap_or o) ≡ fault_of (or_wrong_form (if b then Some None else option_map (λ n. Some n) o))
cap_found true o = refl
cap_found false None = refl
cap_found false (Some n) = refl

pub cap_agree : Agree why.cap (λ c. or_wrong_form (read.cap_in c))
unfolding why.cap read.cap_in
cap_agree = record { at = λ d. cap_found (is_some (as_null d)) (as_whole_number d) }

label_found : (o : Option (List ℕ)) → error_in (why.label_or o) ≡ fault_of (or_wrong_form o)
label_found None = refl
label_found (Some text) = refl

pub label_agree : Agree why.label read.label_read
label_agree = record { at = λ d. label_found (as_str d) }
