-- The line that explains a boundary value.
use Rattle.std.specs.Prelude.{ℕ, List, ◌++◌, codes, decimal}
use Rattle.air_field.specs.Modular.{Modular}
use Rattle.air_field.specs.Term.{Leaf, main, public}
use Rattle.air_core.specs.declared.variables.entry.BaseEntry.{BaseEntry}
use Rattle.air_core.specs.declared.variables.entry.BaseEntry.TheVariants.{Main, Public}
use Rattle.air_print.specs.Infix.{entry_text, constant_text}

-- `ENTRY[i] = V`
abbrev pub variable_text : {F : Type 0} {p : ℕ} → Modular F p → BaseEntry → ℕ → F → List ℕ
variable_text m entry i x =
    entry_text entry ++ (codes "[" ++ (decimal i ++ codes "]")) ++ (codes " = " ++ constant_text m x)

-- `  main[C] = V, public[K] = W`: a column and a public value; s gives the values of the leaves
abbrev pub cell_line : {F : Type 0} {p : ℕ} → Modular F p → (Leaf → F) → ℕ → ℕ → List ℕ
cell_line m s column k =
    codes "  " ++ (variable_text m (Main 0) column (s (main 0 column))
    ++ (codes ", " ++ variable_text m Public k (s (public k))))
