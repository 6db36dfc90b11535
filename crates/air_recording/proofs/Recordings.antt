-- An expression that means a declared term has its polynomial.
use Rattle.std.specs.List.{AllZip}
use Rattle.std.proofs.Common.{ℕ, zero, suc, ◌<◌, List, [], ◌∷◌, length, slice_index_or, sym, ◌∙◌, arith}
use Rattle.air_field.specs.Ring.{CommRing, AlgebraOver, AlgebraOverLaws}
use Rattle.air_field.specs.Term.{Term}
use Rattle.air_field.specs.laws.Polynomial.{Same-poly, polynomial-lists_of_one}
use Rattle.air_symbolic.specs.Leaves.{Leaves}
use Rattle.air_symbolic.specs.Pools.{Pool, PoolMeans, term_at}
use Rattle.air_recording.specs.Recorded.{EachRecords, terms_of}

module _ {U A F : Type 0} (r : CommRing F) (reads : U → Leaves A F) (pool : Pool U A) where
  pub each_records : {E : Type 0} (a : AlgebraOver F E) (m : AlgebraOverLaws r a) (is : List ℕ) (ts : List (Term F)) → AllZip (PoolMeans reads r pool) is ts → EachRecords a (terms_of reads pool is) ts
  each_records a l [] [] m = tt
  each_records a l [] (t ∷ ts) m = absurd m
  each_records a l (i ∷ is) [] m = absurd m
  each_records a l (i ∷ is) (t ∷ ts) m = (
    record {
      same = λ s. Same-poly r a l s m.0.simplifies.same;
      same_value = λ s. sym (polynomial-lists_of_one a s (term_at reads pool i)) ∙ (Same-poly r a l (λ x. s x ∷ []) m.0.simplifies.same 0 ∙ polynomial-lists_of_one a s t);
      degree_le = m.0.simplifies.degree_le;
    },
    each_records a l is ts m.1,
  )

  -- the numbers are of the pool
  pub numbers_here : (is : List ℕ) (ts : List (Term F)) → AllZip (PoolMeans reads r pool) is ts → (k d : ℕ) → k < length is → slice_index_or is k d < length pool.nodes
  numbers_here [] ts m k d b = absurd (omega arith)
  numbers_here (i ∷ is) [] m k d b = absurd m
  numbers_here (i ∷ is) (t ∷ ts) m zero d b = m.0.here
  numbers_here (i ∷ is) (t ∷ ts) m (suc k) d b = numbers_here is ts m.1 k d (omega arith)
