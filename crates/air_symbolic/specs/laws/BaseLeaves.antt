-- The laws of base leaves.
use Rattle.std.specs.Prelude.{◌≡◌, ◌≤◌, ◌<◌, ◌^◌, Some, refl}
use Rattle.std.proofs.Common.{arith}
use Rattle.air_field.specs.Ring.{CommRing}
use Rattle.air_field.specs.Term.{Leaf, preprocessed, main, periodic, public, first_row, last_row, transition, permutation, challenge, permutation_value, const_term}
use Rattle.air_field.specs.Degree.{degree_by, cached_weight}
use Rattle.air_core.specs.Entries.{entry_leaf}
use Rattle.air_field.specs.Same.{Same, same_refl}
use Rattle.air_symbolic.specs.Leaves.{LeafLaws}
use Rattle.air_symbolic.specs.declared.leaves.base_leaf.BaseLeaf.{BaseLeaf}
use Rattle.air_symbolic.specs.declared.leaves.base_leaf.BaseLeaf.TheVariants.{Variable, IsFirstRow, IsLastRow, IsTransition, Constant}
use Rattle.air_symbolic.specs.BaseLeaves.{base_term, base_constant, base_reads, base_grows}

base_constant-is : {F : Type 0} (r : CommRing F) (a : BaseLeaf F) (c : F) → base_constant a ≡ Some c → Same r (const_term c) (base_term a)
base_constant-is r (Variable v) c e = cc
base_constant-is r IsFirstRow c e = cc
base_constant-is r IsLastRow c e = cc
base_constant-is r IsTransition c e = cc
base_constant-is r (Constant d) c e =
    let same : d ≡ c = cc in
    same_at same
  where
    same_at : d ≡ c → Same r (const_term c) (const_term d)
    same_at q = rw q same_refl

-- each leaf weighs at most 1 in the degrees that nodes state
pub light : (l : Leaf) → cached_weight l ≤ 1
light (preprocessed o i) = omega arith
light (main o i) = omega arith
light (periodic i) = omega arith
light (public i) = omega arith
light first_row = omega arith
light last_row = omega arith
light transition = omega arith
light (permutation o i) = omega arith
light (challenge i) = omega arith
light (permutation_value i) = omega arith

base_in_range : {F : Type 0} (a : BaseLeaf F) → degree_by cached_weight (base_term a) < 2 ^ 64
base_in_range (Variable v) = omega (arith, light (entry_leaf v.entry v.index))
base_in_range IsFirstRow = omega arith
base_in_range IsLastRow = omega arith
base_in_range IsTransition = omega arith
base_in_range (Constant c) = omega arith

pub base_leaf_laws : {F : Type 0} (r : CommRing F) → LeafLaws r (base_reads {F = F}) base_grows tt
base_leaf_laws r = record {
  in_range = λ u a _. base_in_range a;
  constant_is = λ u a c _ e. base_constant-is r a c e;
  empty_sound = tt;
  same = λ _. tt;
  joined = λ _ _ _ _ _. tt;
  keeps = λ _ _ _. record { sound = λ h. h; valid = λ _ h. h; constant = λ _ _. refl; term = λ _ _. refl };
}
