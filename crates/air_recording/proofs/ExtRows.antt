-- Rows of extension variables, one variable longer.
use Rattle.std.proofs.Common.{◌≡◌, ℕ, zero, suc, ◌+◌, List, [], ◌∷◌, ◌++◌, length, Some, slice_get, sym, subst, ap, ◌∙◌}
use Rattle.std.proofs.Math.ListN.{length-append}
use Rattle.air_core.specs.declared.variables.ext_entry.ExtEntry.{ExtEntry}
use Rattle.air_core.specs.declared.variables.variable_ext.SymbolicVariableExt.{SymbolicVariableExt}
use Rattle.air_recording.specs.Rows.{IsExtRowOf}

each_more : {V : Type 0} (row : List V) (v : V) (P : ℕ → V → Type 0) → ((i : ℕ) (w : V) → slice_get row i ≡ Some w → P i w) → P (length row) v → (i : ℕ) (w : V) → slice_get (row ++ v ∷ []) i ≡ Some w → P i w
each_more [] v P h p zero w q =
    let e : v ≡ w = cc in
    subst (λ x. P 0 x) e p
each_more [] v P h p (suc i) w q = cc
each_more (x ∷ row) v P h p zero w q = h 0 w q
each_more (x ∷ row) v P h p (suc i) w q = each_more row v (λ j u. P (suc j) u) (λ j u r. h (suc j) u r) p i w q

pub ext_row_more : {F EF : Type 0} (e : ExtEntry) (k : ℕ) (row : List (SymbolicVariableExt F EF)) (v : SymbolicVariableExt F EF) → IsExtRowOf e k row → v.entry ≡ e → v.index ≡ k → IsExtRowOf e (k + 1) (row ++ v ∷ [])
ext_row_more e k row v h a b = record {
  columns = length-append row (v ∷ []) ∙ ap (λ n. n + 1) h.columns;
  each = each_more row v (λ i w. (w.entry ≡ e) × (w.index ≡ i)) h.each (a, b ∙ sym h.columns);
}
