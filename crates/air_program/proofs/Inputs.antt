-- The whole input: public values, and then rows.
use Rattle.std.proofs.Common.{ℕ, eqb, cond, List, ◌++◌, length, Option, Some, None, option_and_then}
use Rattle.std.specs.List.{list_all, concat}

-- the public values, and the values so far followed by those of the remaining rows
abbrev pub input_with : List ℕ → List ℕ → Option (List (List ℕ)) → Option (List ℕ × List ℕ)
input_with public values rows = option_and_then (λ rs. cond (list_all (λ row. eqb (length row) 2) rs) (Some (public, values ++ concat rs)) None) rows
