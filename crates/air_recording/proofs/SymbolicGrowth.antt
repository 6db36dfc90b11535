-- Growth of a symbolic builder: by nothing, and by one expression appended to a list.
use Rattle.std.proofs.Common.{◌≡◌, ℕ, List, [], ◌∷◌, Result, OnOk, OnErr, IfErr, refl, sym, subst}
use Rattle.std.proofs.lemmas.Result.{on_ok_weaker, on_err_weaker, IfErr-weaker}
use Rattle.air_field.specs.Ring.{CommRing, AlgebraOver}
use Rattle.air_field.specs.Extension.{Basis, ExtensionLaws}
use Rattle.air_field.specs.Term.{leaf_term, with_leaves}
use Rattle.air_symbolic.specs.Pools.{PoolMeans, Grown}
use Rattle.air_symbolic.specs.BaseLeaves.{base_reads}
use Rattle.air_symbolic.specs.laws.BasePool.{base_pool_laws}
use Rattle.air_symbolic.specs.ExtLeaves.{ext_reads, ext_grows}
use Rattle.air_symbolic.specs.ExtPool.{ExtNodes}
use Rattle.air_symbolic.specs.laws.ExtPool.{ext_pool_laws, base_grown}
use Rattle.air_core.specs.declared.errors.AirError.{AirError}
use Rattle.air_core.specs.declared.errors.AirError.TheVariants.{Memory}
use Rattle.air_builder.specs.Assertion.{Assertion, Base, Extension}
use Rattle.air_builder.specs.Batches.{AssertsOf, AssertedEach}
use Rattle.air_builder.specs.laws.Batches.{asserted_one}
use Rattle.air_recording.specs.Recording.{Fixed, Lists, with_base, with_ext, KeptRecording, GrewRecording}
use Rattle.air_recording.specs.laws.Recording.{recorded_none, recorded_base, recorded_ext}

module _ {F EF : Type 0} {r : CommRing F} {over : AlgebraOver F EF} {basis : Basis F EF} {n : ℕ} (laws : ExtensionLaws r over basis n)
    (p : ExtNodes F EF) (s : Fixed ℕ) (old : Lists ℕ ℕ) where
  -- the builder kept its pool
  abbrev Kept : Type 0
  Kept = KeptRecording (Grown ext_grows (ext_reads basis)) p p s s

  -- the builder's lists grew
  abbrev Grew : Lists ℕ ℕ → List (Assertion F) → Type 0
  Grew new ts = GrewRecording (λ q. PoolMeans base_reads r q.base) (PoolMeans (ext_reads basis) r) (Grown ext_grows (ext_reads basis)) p p s s old new ts

  pub nothing_recorded : (new : Lists ℕ ℕ) → new ≡ old → Grew new []
  nothing_recorded new e =
      let ext = ext_pool_laws laws in
      recorded_none (base_pool_laws r) ext (λ q. q.base) (base_grown basis) p p s s old new (ext.same p) refl e

  -- appending a base expression to its list is growth by its assertion
  pub base_recorded : (x : ℕ) (k : Assertion F) → AssertsOf Base (λ q y t. PoolMeans base_reads r q.base y (with_leaves (λ l. leaf_term l) t)) (λ t. t) p x k → Grew (with_base old x) (k ∷ [])
  base_recorded x k h = recorded_base (base_pool_laws r) (ext_pool_laws laws) (λ q. q.base) (base_grown basis) p s old _ x k h.0 refl h.2 h.1

  -- appending an extension expression to its list is growth by its assertion
  pub ext_recorded : (x : ℕ) (k : Assertion F) → AssertsOf Extension (λ q y t. PoolMeans (ext_reads basis) r q y (with_leaves (λ l. leaf_term l) t)) (λ t. t) p x k → Grew (with_ext old x) (k ∷ [])
  ext_recorded x k h = recorded_ext (base_pool_laws r) (ext_pool_laws laws) (λ q. q.base) (base_grown basis) p s old _ x k h.0 refl h.2 h.1

  -- an appended expression is asserted; if the append is refused with `Memory`, the lists are unchanged
  pub pushed_asserted : {S I : Type 0} {asserts : S → I → Assertion F → Type 0} {kept : S → S → Type 0}
      {grew : S → S → List (Assertion F) → Type 0} {refuses : S → AirError → List (Assertion F) → Type 0} {a b : S} {x : I}
      (new more : Lists ℕ ℕ) (result : Result (Unit {0}) AirError)
      → (Kept → kept a b) → ((ts : List (Assertion F)) → Grew new ts → grew a b ts)
      → ((k : Assertion F) → asserts a x k → Grew more (k ∷ [])) → ((k : Assertion F) → refuses a Memory (k ∷ []))
      → OnOk result (new ≡ more) → OnErr result (new ≡ old) → IfErr result (λ e. e ≡ Memory)
      → AssertedEach asserts kept grew refuses a b (x ∷ []) result
  pushed_asserted {refuses = refuses} {a = a} new more result keeps grown one memory ok err refused =
      asserted_one result (keeps (record { pool = (ext_pool_laws laws).same p; fixed = refl }))
      (on_ok_weaker result (λ e k h. grown (k ∷ []) (subst (λ l. Grew l (k ∷ [])) (sym e) (one k h))) ok)
      (on_err_weaker result (λ e. grown [] (nothing_recorded new e)) err)
      (IfErr-weaker result _ _ (λ e is k h. subst (λ f. refuses a f (k ∷ [])) (sym is) (memory k)) refused)
