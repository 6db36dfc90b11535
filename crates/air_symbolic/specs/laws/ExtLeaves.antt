-- The laws of extension leaves as the base pool grows.
use Rattle.std.specs.Prelude.{◌≡◌, ℕ, ◌-◌, ◌<◌, ◌^◌, Option, None, Some, refl}
use Rattle.std.proofs.Common.{◌∙◌, sym, subst, ap, arith}
use Rattle.air_field.specs.Ring.{CommRing, AlgebraOver}
use Rattle.air_field.specs.Extension.{Basis, ExtensionLaws}
use Rattle.air_field.specs.laws.Extension.{AllZero-replicate}
use Rattle.air_field.specs.Term.{const_term, ext_const_term}
use Rattle.air_field.specs.Degree.{degree_by, cached_weight}
use Rattle.air_field.specs.Same.{Same, ext_base}
use Rattle.air_core.specs.ExtEntries.{ext_entry_leaf}
use Rattle.air_symbolic.specs.Leaves.{LeafLaws}
use Rattle.air_symbolic.specs.Trees.{Tree, leaf_tree, add_tree, sub_tree, neg_tree, mul_tree, term_of, tree_constant}
use Rattle.air_symbolic.specs.Pools.{tree_at}
use Rattle.air_symbolic.specs.laws.Numbers.{WellFormed-none}
use Rattle.air_symbolic.specs.laws.Sharing.{cached_in_range}
use Rattle.air_symbolic.specs.laws.Pools.{Grown-refl, Grown-trans, has-kept, tree-kept, term-kept}
use Rattle.air_symbolic.specs.BaseLeaves.{base_leaves, base_term, base_constant, base_reads, base_grows}
use Rattle.air_symbolic.specs.laws.BaseLeaves.{light, base_leaf_laws}
use Rattle.air_symbolic.specs.declared.leaves.base_leaf.BaseLeaf.{BaseLeaf}
use Rattle.air_symbolic.specs.declared.leaves.ext_leaf.ExtLeaf.{ExtLeaf}
use Rattle.air_symbolic.specs.declared.leaves.ext_leaf.ExtLeaf.TheVariants.{Base, ExtVariable, ExtConstant}
use Rattle.air_symbolic.specs.ExtLeaves.{BaseNodes, no_base_nodes, ext_grows, ext_valid, ext_term, ext_leaf_constant, ext_reads}

module _ {F EF : Type 0} {r : CommRing F} {over : AlgebraOver F EF} {basis : Basis F EF} {n : ℕ} (laws : ExtensionLaws r over basis n) where
  -- a base tree that is a constant
  base_tree-constant : (t : Option (Tree (BaseLeaf F))) (c : F) → tree_constant base_constant t ≡ Some c → Same r (const_term c) (term_of base_term t)
  base_tree-constant None c e = cc
  base_tree-constant (Some (leaf_tree a)) c e = (base_leaf_laws r).constant_is tt a c tt e
  base_tree-constant (Some (add_tree t u)) c e = cc
  base_tree-constant (Some (sub_tree t u)) c e = cc
  base_tree-constant (Some (neg_tree t)) c e = cc
  base_tree-constant (Some (mul_tree t u)) c e = cc

  -- an element of the base field, as a base constant, equals that element as an extension constant
  part-same : (x : EF) (c : F) → basis.base_part x ≡ Some c → Same r (const_term c) (ext_const_term (basis.coefficients x))
  part-same x c e =
      subst (λ xs. Same r (const_term c) (ext_const_term xs)) (sym (ap basis.coefficients (laws.part_is x c e) ∙ laws.embed_is c))
      (ext_base (AllZero-replicate r (n - 1)))

  ext_constant-is : (u : BaseNodes F) (a : ExtLeaf F EF) (c : F) → ext_leaf_constant basis u a ≡ Some c → Same r (const_term c) (ext_term basis u a)
  ext_constant-is u (Base i) c e = base_tree-constant (tree_at u i) c e
  ext_constant-is u (ExtVariable v) c e = cc
  ext_constant-is u (ExtConstant d) c e = part-same d c e

  ext_valid-kept : (u v : BaseNodes F) → ext_grows u v → (a : ExtLeaf F EF) → ext_valid u a → ext_valid v a
  ext_valid-kept u v g (Base i) h = has-kept r base_reads base_grows tt (base_leaf_laws r) u v i g h
  ext_valid-kept u v g (ExtVariable x) h = tt
  ext_valid-kept u v g (ExtConstant c) h = tt

  ext_term-kept : (u v : BaseNodes F) → ext_grows u v → (a : ExtLeaf F EF) → ext_valid u a → ext_term basis v a ≡ ext_term basis u a
  ext_term-kept u v g (Base i) h = term-kept r base_reads base_grows tt (base_leaf_laws r) u v i g h
  ext_term-kept u v g (ExtVariable x) h = refl
  ext_term-kept u v g (ExtConstant c) h = refl

  ext_constant-kept : (u v : BaseNodes F) → ext_grows u v → (a : ExtLeaf F EF) → ext_valid u a → ext_leaf_constant basis v a ≡ ext_leaf_constant basis u a
  ext_constant-kept u v g (Base i) h = ap (tree_constant base_constant) (tree-kept r base_reads base_grows tt (base_leaf_laws r) u v i g h.here)
  ext_constant-kept u v g (ExtVariable x) h = refl
  ext_constant-kept u v g (ExtConstant c) h = refl

  ext_in_range : (u : BaseNodes F) (a : ExtLeaf F EF) → ext_valid u a → degree_by cached_weight (ext_term basis u a) < 2 ^ 64
  ext_in_range u (Base i) h = cached_in_range base_leaves u.nodes h.pool.nodes i h.here
  ext_in_range u (ExtVariable v) h = omega (arith, light (ext_entry_leaf v.entry v.index))
  ext_in_range u (ExtConstant c) h = omega arith

  pub ext_leaf_laws : LeafLaws r (ext_reads basis) ext_grows no_base_nodes
  ext_leaf_laws = record {
    in_range = ext_in_range;
    constant_is = λ u a c _ e. ext_constant-is u a c e;
    empty_sound = record { base = tt; nodes = WellFormed-none base_leaves };
    same = λ u. Grown-refl r base_reads base_grows tt (base_leaf_laws r) u;
    joined = λ u v w g h. Grown-trans r base_reads base_grows tt (base_leaf_laws r) u v w g h;
    keeps = λ u v g. record {
      sound = g.pool;
      valid = ext_valid-kept u v g;
      constant = ext_constant-kept u v g;
      term = ext_term-kept u v g;
    };
  }
