-- The lines that explain an expression at a row, and the lines of the names in them.
use Rattle.std.specs.Prelude.{◌≡◌, ℕ, List, ◌∷◌, ◌++◌, map, Option, codes}
use Rattle.std.specs.List.{filter, enumerate_from}
use Rattle.air_field.specs.Modular.{Modular}
use Rattle.air_field.specs.Ring.{CommRing}
use Rattle.air_field.specs.Term.{Leaf}
use Rattle.air_symbolic.specs.ExtLeaves.{BaseNodes}
use Rattle.air_print.specs.Lines.{definition_line}
use Rattle.air_print.specs.Names.{is_reached}
use Rattle.air_print.specs.Equations.{equation, equation_lines}
use Rattle.air_print.specs.Reading.{Reads}
use Rattle.air_print.specs.Values.{number_value}

-- a line for the expression and its value, and a line for the leaves that it reads and their values, if it reads any
abbrev pub explained_lines : {F : Type 0} {p : ℕ} → Modular F p → BaseNodes F → List (Option ℕ) → (ℕ → F) → ℕ → List ℕ → List (List ℕ)
explained_lines m pool names at root reads =
    (codes "  " ++ equation m pool names at root) ∷ equation_lines (map (equation m pool names at) reads)

-- These lines explain an expression where s gives the values of the leaves.
pub record Explains {F : Type 0} {p : ℕ} (m : Modular F p) (r : CommRing F) (s : Leaf → F) (pool : BaseNodes F) (names : List (Option ℕ)) (root : ℕ) (lines : List (List ℕ)) : Type 0 where
  pub reads : List ℕ
  pub are_reads : Reads pool.nodes root reads
  pub lines_are : lines ≡ explained_lines m pool names (number_value r s pool.nodes) root reads

-- a line for each named expression that is marked: names.0 lists the named expressions, names.1 has the name of expression i at index i
abbrev pub reached_definitions : {F : Type 0} {p : ℕ} → Modular F p → BaseNodes F → List ℕ × List (Option ℕ) → List (Option ℕ) → List (List ℕ)
reached_definitions m pool names marks =
    map (λ x. definition_line m pool names.1 x.0 x.1) (filter (λ x. is_reached marks x.1) (enumerate_from 0 names.0))
