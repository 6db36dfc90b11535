-- Expressions and their values, as equations.
use Rattle.std.specs.Prelude.{ℕ, List, [], ◌∷◌, ◌++◌, Option, codes}
use Rattle.std.specs.List.{join_by}
use Rattle.air_field.specs.Modular.{Modular}
use Rattle.air_symbolic.specs.ExtLeaves.{BaseNodes}
use Rattle.air_print.specs.Infix.{shown_number, infix_text, constant_text}
use Rattle.air_print.specs.Lines.{listed_name}
use Rattle.air_print.specs.declared.binding.Binding.TheVariants.{Loose}

-- `TEXT = V`: the text of expression i, and its value
abbrev pub equation : {F : Type 0} {p : ℕ} → Modular F p → BaseNodes F → List (Option ℕ) → (ℕ → F) → ℕ → List ℕ
equation m pool names at i = infix_text m Loose (shown_number (listed_name names) pool.nodes i) ++ (codes " = " ++ constant_text m (at i))

-- all equations in one line, separated by `, `; no line if there are no equations
abbrev pub equation_lines : List (List ℕ) → List (List ℕ)
equation_lines [] = []
equation_lines (x ∷ xs) = (codes "  " ++ join_by (λ t. t) (codes ", ") (x ∷ xs)) ∷ []
