-- What the leaves of extension expressions mean, over a pool of base expressions.
use Rattle.std.specs.Prelude.{[], Option, None, ⊤}
use Rattle.air_field.specs.Extension.{Basis}
use Rattle.air_field.specs.Term.{Term, leaf_term, ext_const_term}
use Rattle.air_core.specs.ExtEntries.{ext_entry_leaf}
use Rattle.air_symbolic.specs.Leaves.{Leaves}
use Rattle.air_symbolic.specs.Pools.{IsPool, Grown, PoolHas, term_at, constant_at, Pool}
use Rattle.air_symbolic.specs.BaseLeaves.{base_reads, base_grows}
use Rattle.air_symbolic.specs.declared.leaves.base_leaf.BaseLeaf.{BaseLeaf}
use Rattle.air_symbolic.specs.declared.leaves.ext_leaf.ExtLeaf.{ExtLeaf}
use Rattle.air_symbolic.specs.declared.leaves.ext_leaf.ExtLeaf.TheVariants.{Base, ExtVariable, ExtConstant}

-- a base pool, as contracts see it
abbrev pub BaseNodes : Type 0 → Type 0
BaseNodes F = Pool ⊤ (BaseLeaf F)

-- the base of a new extension pool
abbrev pub no_base_nodes : {F : Type 0} → BaseNodes F
no_base_nodes = record { base = tt; nodes = [] }

-- the base pool has grown
abbrev pub ext_grows : {F : Type 0} → BaseNodes F → BaseNodes F → Type 0
ext_grows u v = Grown base_grows base_reads u v

-- a Base leaf must name an expression of the base pool
abbrev pub ext_valid : {F EF : Type 0} → BaseNodes F → ExtLeaf F EF → Type 0
ext_valid u (Base i) = PoolHas base_reads u i
ext_valid u (ExtVariable v) = ⊤
ext_valid u (ExtConstant c) = ⊤

-- the term of a leaf; a Base leaf has the term of its base tree
abbrev pub ext_term : {F EF : Type 0} → Basis F EF → BaseNodes F → ExtLeaf F EF → Term F
ext_term basis u (Base i) = term_at base_reads u i
ext_term basis u (ExtVariable v) = leaf_term (ext_entry_leaf v.entry v.index)
ext_term basis u (ExtConstant c) = ext_const_term (basis.coefficients c)

-- the constant that a leaf equals: of a Base leaf its base tree's, of an extension constant its base part
abbrev pub ext_leaf_constant : {F EF : Type 0} → Basis F EF → BaseNodes F → ExtLeaf F EF → Option F
ext_leaf_constant basis u (Base i) = constant_at base_reads u i
ext_leaf_constant basis u (ExtVariable v) = None
ext_leaf_constant basis u (ExtConstant c) = basis.base_part c

abbrev pub ext_reads : {F EF : Type 0} → Basis F EF → BaseNodes F → Leaves (ExtLeaf F EF) F
ext_reads basis u =
    record { sound = IsPool base_reads u; valid = ext_valid u; constant = ext_leaf_constant basis u; term = ext_term basis u }
