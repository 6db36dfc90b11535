-- The answer of a call that reads nodes into a pool when a call in it failed.
use Rattle.std.proofs.Common.{◌≡◌, ℕ, List, Option, Result}
use Rattle.std.specs.Result.{IsErrAnd}
use Rattle.std.proofs.lemmas.Result.{err_from_is_err_and}
use Rattle.air_symbolic.specs.Leaves.{Leaves}
use Rattle.air_symbolic.specs.Trees.{Tree}
use Rattle.air_symbolic.specs.Pools.{Pool, Grown}
use Rattle.air_json.specs.ReadCalls.{ReadsNode, ReadsAll}
use Rattle.air_json.specs.Results.{Fails}
use Rattle.air_json.specs.declared.errors.FlatError.{FlatError}

module _ {U A S F : Type 0} {grows : U → U → Type 0} {reads : U → Leaves A F} {tree : Pool U A → ℕ → Option (Tree S)} {p q : Pool U A} where
  pub gives_up : (f : FlatError) {result : Result ℕ FlatError} {given : Result (Option (Tree S)) FlatError} → Grown grows reads p q
      → IsErrAnd result (λ e. e ≡ f) → Fails f given → ReadsNode grows reads tree p q result given
  gives_up f {result = result} g h fails =
      let k = err_from_is_err_and result h in
      rw (k.1, k.2) record { grown = g; here = tt; read = fails; numbered = tt }

  pub gives_up_all : {X : Type 0} {numbers : X → List ℕ} (f : FlatError) {result : Result X FlatError} {given : Result (List (Option (Tree S))) FlatError}
      → Grown grows reads p q → IsErrAnd result (λ e. e ≡ f) → Fails f given → ReadsAll grows reads tree numbers p q result given
  gives_up_all f {result = result} g h fails =
      let k = err_from_is_err_and result h in
      rw (k.1, k.2) record { grown = g; here = tt; read = fails }
