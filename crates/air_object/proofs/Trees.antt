-- Trees of base expressions, and pools that grow while lists are read.
use Rattle.std.proofs.Common.{◌≡◌, ◌≢◌, ℕ, suc, zero, ◌<◌, List, [], ◌∷◌, ◌++◌, length, map, All, Result, Ok, Err, refl, ap, ◌∙◌, arith}
use Rattle.std.specs.Result.{IfOk, IfErr}
use Rattle.serde_json.specs.Data.{Data}
use Rattle.air_field.specs.Modular.{Modular, modular_ring}
use Rattle.air_symbolic.specs.BaseLeaves.{base_reads, base_grows}
use Rattle.air_symbolic.specs.laws.BaseLeaves.{base_leaf_laws}
use Rattle.air_symbolic.specs.ExtLeaves.{BaseNodes}
use Rattle.air_symbolic.specs.Pools.{Grown, tree_at}
use Rattle.air_symbolic.specs.laws.Pools.{Grown-trans, here-kept, tree-kept}
use Rattle.air_json.specs.BaseLeaves.{base_kind, base_seen}
use Rattle.air_json.specs.laws.BaseLeaves.{base_kind_laws, over_same}
use Rattle.air_json.specs.NodeLists.{IsList, HasFault}
use Rattle.air_json.specs.laws.Lists.{root_again, root_fault_read, fails_if}
use Rattle.air_json.specs.Results.{Gives}
use Rattle.air_json.specs.Unshared.{seen_at}
use Rattle.air_json.specs.declared.errors.FlatError.{FlatError}
use Rattle.air_json.specs.declared.errors.FlatError.TheVariants as faults
use Rattle.air_object.specs.Readers.{tree}

abbrev pub GrownTo : {F : Type 0} → BaseNodes F → BaseNodes F → Type 0
GrownTo p q = Grown base_grows base_reads p q

abbrev pub AllIn : {F : Type 0} → BaseNodes F → List ℕ → Type 0
AllIn p is = All (λ i. i < length p.nodes) is

module _ {F : Type 0} {order : ℕ} (modular : Modular F order) where
  pub grown_on : (p q s : BaseNodes F) → GrownTo p q → GrownTo q s → GrownTo p s
  grown_on = Grown-trans (modular_ring modular) base_reads base_grows tt (base_leaf_laws (modular_ring modular))

  -- ---- ids of a pool that grows

  pub all_in_push : (p q : BaseNodes F) (is : List ℕ) (i : ℕ) → GrownTo p q → AllIn p is → i < length q.nodes → AllIn q (is ++ i ∷ [])
  all_in_push p q [] i g h lt zero d b = lt
  all_in_push p q [] i g h lt (suc k) d b = absurd (omega (arith, b))
  all_in_push p q (j ∷ is) i g h lt zero d b = here-kept (modular_ring modular) base_reads base_grows tt (base_leaf_laws (modular_ring modular)) p q j g (h zero d (omega arith))
  all_in_push p q (j ∷ is) i g h lt (suc k) d b = all_in_push p q is i g (λ l e c. h (suc l) e (omega (arith, c))) lt k d (omega (arith, b))

  pub trees_kept : (p q : BaseNodes F) (is : List ℕ) → GrownTo p q → AllIn p is → map (tree_at q) is ≡ map (tree_at p) is
  trees_kept p q [] g h = refl
  trees_kept p q (i ∷ is) g h =
      let first : i < length p.nodes = h zero zero (omega arith) in
      cc (tree-kept (modular_ring modular) base_reads base_grows tt (base_leaf_laws (modular_ring modular)) p q i g first, trees_kept p q is g (λ k d lt. h (suc k) d (omega (arith, lt))))

  -- ---- the contract of the reader of lists

  pub tree_given : (p : BaseNodes F) (d : Data) (r : Result ℕ FlatError) → IfOk r (λ i. IsList (base_kind modular) d (seen_at base_seen p i)) → IfErr r (λ e. e ≢ faults.Memory → HasFault (base_kind modular) d e) → Gives (tree_at p) r (tree modular d)
  tree_given p d (Ok i) h n = root_again (base_kind modular) (base_kind_laws modular) d (seen_at base_seen p i) h ∙ ap (λ t. Ok t) (over_same (tree_at p i))
  tree_given p d (Err f) h n = fails_if f (tree modular d) (λ m. root_fault_read (base_kind modular) (base_kind_laws modular) d f (n m))
