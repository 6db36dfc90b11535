-- The base expression of the list nested in a leaf.
use Rattle.std.proofs.Common.{◌≡◌, ℕ, List, length, Option, option_map, Result, Ok, sym, ap, subst, ◌∙◌}
use Rattle.air_field.specs.Modular.{Modular}
use Rattle.serde_json.specs.Data.{Data}
use Rattle.air_field.specs.Ring.{CommRing, AlgebraOver}
use Rattle.air_field.specs.Extension.{Basis, ExtensionLaws}
use Rattle.air_symbolic.specs.Trees.{Tree}
use Rattle.air_symbolic.specs.declared.leaves.base_leaf.BaseLeaf.{BaseLeaf}
use Rattle.air_json.specs.Results.{◌>>=◌, Fails}
use Rattle.air_json.specs.laws.Readings.{ok_of}
use Rattle.air_json.specs.Coefficients.{elements_at}
use Rattle.air_json.specs.laws.Coefficients.{elements_found}
use Rattle.air_json.specs.laws.ExtLeaves.{made_of}
use Rattle.air_json.specs.Unshared.{map_leaves}
use Rattle.air_json.specs.Written.{IsWritten}
use Rattle.air_json.specs.BaseLeaves.{base_kind, base_seen}
use Rattle.air_json.specs.laws.BaseLeaves.{over_same}
use Rattle.air_json.specs.ExtLeaves.{at_place, faults_at, ext_constant_at}
use Rattle.air_json.specs.declared.errors.FlatError.{FlatError}
use Rattle.air_json.specs.declared.errors.FlatError.TheVariants as faults

-- the list written for the views of a tree's leaves is the tree's own
pub written_tree : {F : Type 0} {p : ℕ} (m : Modular F p) (d : Data) (o : Option (Tree (BaseLeaf F))) → IsWritten (base_kind m) d (option_map (map_leaves (base_seen tt)) o) → IsWritten (base_kind m) d o
written_tree m d o h = subst (IsWritten (base_kind m) d) (over_same o) h

-- a list that is read gives its tree
pub moved_tree : {F : Type 0} (place : ℕ) (o : Option (Tree (BaseLeaf F))) (read : Result (Option (Tree (BaseLeaf F))) FlatError) → read ≡ Ok (option_map (map_leaves (base_seen tt)) o) → faults_at place read ≡ Ok o
moved_tree place o read e = ap (faults_at place) (e ∙ ap (λ u. Ok u) (over_same o))

pub moved_fault : {F : Type 0} (place : ℕ) (f : FlatError) (read : Result (Option (Tree (BaseLeaf F))) FlatError) → Fails f read → Fails (at_place place f) (faults_at place read)
moved_fault place faults.Memory read h = tt
moved_fault place faults.DegreeOverflow read h = ap (faults_at place) h
moved_fault place (faults.Shape inner) read h = ap (faults_at place) h
moved_fault place faults.EmptyList read h = ap (faults_at place) h
moved_fault place (faults.Operand inner i) read h = ap (faults_at place) h
moved_fault place (faults.WrongDegree inner d found) read h = ap (faults_at place) h
moved_fault place (faults.NotCanonical inner) read h = ap (faults_at place) h

-- ---- constants

module _ {F : Type 0} {p : ℕ} (m : Modular F p) where
  pub right_count : (k n place : ℕ) (d : Data) (cs list : List F) → k ≡ n → elements_at m k place d ≡ Ok cs → list ≡ cs → length list ≡ n
  right_count k n place d cs list same read is = ap length is ∙ ((elements_found m k place d cs read).1 ∙ same)

  pub made_constant : {EF : Type 0} (r : CommRing F) (a : AlgebraOver F EF) (basis : Basis F EF) (n : ℕ) → ExtensionLaws r a basis n → (k place : ℕ) (d : Data) (cs list : List F) (e : EF) → k ≡ n → elements_at m k place d ≡ Ok cs → list ≡ cs → basis.coefficients e ≡ list → ext_constant_at m a n place d ≡ Ok e
  made_constant {EF} r a basis n laws k place d cs list e same read is of =
      let there : elements_at m n place d ≡ Ok cs = subst (λ j. elements_at m j place d ≡ Ok cs) same read in
      ap (λ (q : Result (List F) FlatError). q >>= λ xs. ok_of (a.extend xs)) there
      ∙ ap (λ x. ok_of x) (sym (made_of m r a basis n laws e cs (elements_found m n place d cs there).1 (of ∙ is)))
