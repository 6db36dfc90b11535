-- Lists of nodes, and why they are none.
use Rattle.std.proofs.Common.{◌≡◌, ◌≢◌, ℕ, List, Option, Some, None, Result, Ok, Err, String, Global, IfOk, string_bytes, refl, sym, ap, ◌∙◌}
use Rattle.std.specs.Prelude.{option_map}
use Rattle.serde_json.specs.Data.{Data}
use Rattle.air_field.specs.Modular.{Modular}
use Rattle.air_symbolic.specs.Trees.{Tree}
use Rattle.air_symbolic.specs.declared.leaves.base_leaf.BaseLeaf.{BaseLeaf}
use Rattle.air_json.specs.BaseLeaves.{base_kind}
use Rattle.air_json.specs.NodeLists.{IsList, HasFault}
use Rattle.air_json.specs.Nodes.{root_of}
use Rattle.air_json.specs.laws.BaseLeaves.{base_kind_laws}
use Rattle.air_json.specs.laws.Lists.{root_again, root_fault_read}
use Rattle.air_json.specs.declared.errors.FlatError.{FlatError}
use Rattle.air_json.specs.declared.errors.FlatError.TheVariants as faults
use Rattle.air_reason.specs.Nodes.{list_text, list_reason, constraint}
use Rattle.air_reason.specs.Reasons.{Tells}

module _ {F : Type 0} {p : ℕ} (m : Modular F p) (d : Data) where
  pub list_told : (tree : Option (Tree (BaseLeaf F))) → IsList (base_kind m) d tree → Tells (constraint m d) None
  list_told tree is = sym (ap (λ r. option_map (λ q. q.text) (list_reason p d r)) (root_again (base_kind m) (base_kind_laws m) d tree is))

  fault_told : (f : FlatError) → HasFault (base_kind m) d f → Some (list_text p d f) ≡ option_map (λ q. q.text) (constraint m d)
  fault_told f has = sym (ap (λ r. option_map (λ q. q.text) (list_reason p d r)) (root_fault_read (base_kind m) (base_kind_laws m) d f has))

  -- the code's text of a fault, unless memory ran out
  pub faults_told : {E : Type 0} (f : FlatError) → (f ≢ faults.Memory → HasFault (base_kind m) d f) → (r : Result (Option (String Global)) E)
      → IfOk r (λ o. f ≢ faults.Memory) → IfOk r (λ o. option_map string_bytes o ≡ Some (list_text p d f)) → IfOk r (Tells (constraint m d))
  faults_told f has (Ok o) other told = told ∙ fault_told f (has other)
  faults_told f has (Err e) other told = tt
