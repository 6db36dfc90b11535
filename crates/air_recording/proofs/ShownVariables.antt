-- Rows of variables, as a builder shows them.
use Rattle.std.proofs.Common.{◌≡◌, ℕ, ◌≤◌, ◌↔◌, List, None, slice_get, refl, subst}
use Rattle.air_field.specs.Term.{Term, leaf_term}
use Rattle.air_core.specs.Entries.{entry_leaf}
use Rattle.air_core.specs.declared.variables.entry.BaseEntry.{BaseEntry}
use Rattle.air_core.specs.declared.variables.variable.SymbolicVariable.{SymbolicVariable}
use Rattle.air_builder.specs.Builders.{RowReadsAs}
use Rattle.air_builder.specs.laws.ShownRows.{row_ends}
use Rattle.air_recording.specs.Rows.{IsRowOf}

module _ {F : Type 0} {e : BaseEntry} {width : ℕ} {row : List (SymbolicVariable F)} (h : IsRowOf e width row) where
  -- each variable means its leaf
  pub variables_stand : RowReadsAs (λ (v : SymbolicVariable F) (t : Term F). t ≡ leaf_term (entry_leaf v.entry v.index)) (λ i. leaf_term (entry_leaf e i)) row
  variables_stand i v at =
      let p = h.each i v at in
      rw (p.0, p.1) refl

  -- the row ends at its width
  pub variables_end : (i : ℕ) → (width ≤ i) ↔ (slice_get row i ≡ None)
  variables_end i = subst (λ n. (n ≤ i) ↔ (slice_get row i ≡ None)) h.columns (row_ends row i)
