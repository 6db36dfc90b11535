-- The lines that show the constraints of a pool.
use Rattle.std.specs.Prelude.{◌≡◌, ℕ, List, ◌++◌, map, slice_index_or, Option, None, codes, decimal}
use Rattle.std.specs.List.{AllZip, enumerate_from, flat_map}
use Rattle.air_field.specs.Degree.{degree_by, cached_weight}
use Rattle.air_field.specs.Modular.{Modular}
use Rattle.air_symbolic.specs.BaseLeaves.{base_leaves, base_reads}
use Rattle.air_symbolic.specs.ExtLeaves.{BaseNodes}
use Rattle.air_symbolic.specs.Pools.{term_at}
use Rattle.air_print.specs.declared.binding.Binding.TheVariants.{Loose}
use Rattle.air_print.specs.Infix.{shown_number, shown_at, infix_text, name_text}
use Rattle.air_print.specs.Labels.{StandsBehind, text_at}
use Rattle.air_print.specs.Names.{AreNames}

-- names as a list: the name of expression i is at index i
abbrev pub listed_name : List (Option ℕ) → ℕ → Option ℕ
listed_name names i = slice_index_or names i None

-- each line, ended by a byte 10
abbrev pub lines_text : List (List ℕ) → List ℕ
lines_text lines = flat_map (λ line. line ++ codes "\n") lines

module _ {F : Type 0} {p : ℕ} (m : Modular F p) (pool : BaseNodes F) (names : List (Option ℕ)) where
  -- `%k = TEXT`, with expression i by its node
  abbrev pub definition_line : ℕ → ℕ → List ℕ
  definition_line k i = name_text k ++ (codes " = " ++ infix_text m Loose (shown_at (listed_name names) pool.nodes i))

  -- `#j degree D: TEXT`, for expression i; after `#j` comes entry j of `shown`
  abbrev pub constraint_line : List (List ℕ) → ℕ → ℕ → List ℕ
  constraint_line shown j i =
      codes "#" ++ (decimal j ++ (text_at shown j ++ (codes " degree " ++ (decimal (degree_by cached_weight (term_at base_reads pool i))
      ++ (codes ": " ++ infix_text m Loose (shown_number (listed_name names) pool.nodes i))))))

-- a line for each element, from its index and the element
abbrev pub number_lines : (ℕ → ℕ → List ℕ) → List ℕ → List (List ℕ)
number_lines line xs = map (λ x. line x.0 x.1) (enumerate_from 0 xs)

-- The definitions of the named expressions, in order, and then the roots, each with its index and its label, if it has one.
pub record ShowsRoots {F : Type 0} {p : ℕ} (m : Modular F p) (pool : BaseNodes F) (roots : List ℕ) (labels : List (List ℕ)) (text : List ℕ) : Type 0 where
  pub names : List ℕ × List (Option ℕ)
  pub are_names : AreNames base_leaves pool.nodes roots names
  pub shown : List (List ℕ)
  pub are_shown : AllZip StandsBehind labels shown
  pub text_is : text ≡ lines_text (number_lines (definition_line m pool names.1) names.0 ++ number_lines (constraint_line m pool names.1 shown) roots)
