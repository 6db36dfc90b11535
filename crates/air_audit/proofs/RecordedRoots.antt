-- The numbers of a recording as roots of an AIR.
use Rattle.std.specs.List.{AllZip}
use Rattle.std.proofs.Common.{◌≡◌, ℕ, true, false, cond, leb, List, [], ◌∷◌, length, map, None, Some, refl, ap, ap₂, ◌∙◌, subst, sym, arith}
use borrow.Author.Tests.{leb-true}
use Rattle.air_field.specs.Ring.{CommRing, self_algebra}
use Rattle.air_field.specs.Term.{Term}
use Rattle.air_symbolic.specs.BaseLeaves.{base_reads}
use Rattle.air_symbolic.specs.Leaves.{Leaves}
use Rattle.air_symbolic.specs.Pools.{Pool, PoolMeans}
use Rattle.air_symbolic.specs.declared.leaves.base_leaf.BaseLeaf.{BaseLeaf}
use Rattle.air_builder.specs.Assertion.{Assertion, Base}
use Rattle.air_audit.specs.FlatAirs.{zero_at_roots}
use Rattle.air_recording.specs.Kinds.{base_terms}
use Rattle.air_recording.specs.Layouts.{first_past}
use Rattle.air_recording.specs.Recorded.{EachRecords, terms_of}
use Rattle.air_audit.specs.RecordedAirs.{RecordsBaseTerms}

-- where each is a number of the pool, none is past its nodes
pub none_past : {U A F : Type 0} (r : CommRing F) (reads : U → Leaves A F) (pool : Pool U A) (numbers : List ℕ) (ts : List (Term F)) → AllZip (PoolMeans reads r pool) numbers ts → None ≡ first_past (length pool.nodes) numbers
none_past r reads pool [] ts m = refl
none_past r reads pool (i ∷ numbers) [] m = absurd m
none_past r reads pool (i ∷ numbers) (t ∷ ts) m = elim (leb (length pool.nodes) i) as (λ b. leb (length pool.nodes) i ≡ b → None ≡ cond b (Some i) (first_past (length pool.nodes) numbers)) [
  | true ↦ λ e. absurd (omega (arith, m.0.here, leb-true (length pool.nodes) i e))
  | false ↦ λ e. none_past r reads pool numbers ts m.1
] refl

-- the base terms of base assertions
pub base_terms-map : {F : Type 0} (us : List (Term F)) → base_terms (map (λ t. Base t) us) ≡ us
base_terms-map [] = refl
base_terms-map (u ∷ us) = ap (λ ts. u ∷ ts) (base_terms-map us)

-- Where roots of a pool have the terms that were recorded, the list that they declare records what is declared.
pub records_zero_at : {F : Type 0} (r : CommRing F) (pool given : Pool (Unit {0}) (BaseLeaf F)) (roots numbers : List ℕ) (ts : List (Assertion F)) → pool ≡ given → roots ≡ numbers → EachRecords (self_algebra r) (terms_of base_reads given numbers) (base_terms ts) → RecordsBaseTerms r (zero_at_roots pool roots) ts
records_zero_at r pool given roots numbers ts same_pool same h =
    subst (λ us. EachRecords (self_algebra r) us (base_terms ts)) (sym (ap₂ (λ p is. base_terms (zero_at_roots p is)) same_pool same ∙ base_terms-map (terms_of base_reads given numbers))) h
