-- The numbers of a line, one after another.
use Rattle.std.proofs.Common.{◌≡◌, ℕ, ◌%◌, ◌≤◌, List, [], ◌∷◌, ◌++◌, append_assoc, Option, Some, None, option_map, refl, ap, arith}
use Rattle.std.proofs.lemmas.List.{map-append}
use Rattle.air_field.specs.BabyBear.{BabyBear}
use Rattle.air_program.specs.Grammar.{element_number, numbers_in}
use Rattle.air_program.specs.Parsing.{element_values, onto}

regroup : (front : List ℕ) (n : ℕ) (left : Option (List ℕ)) → onto (front ++ n ∷ []) left ≡ onto front (option_map (λ ns. n ∷ ns) left)
regroup front n None = refl
regroup front n (Some ns) = ap (λ (ms : List ℕ). Some ms) (append_assoc front (n ∷ []) ns)

pub next_number : (before after : List BabyBear) (x : BabyBear) (n : ℕ) (field : List ℕ) (fields : List (List ℕ)) → after ≡ before ++ x ∷ [] → x.residue ≡ n % 2013265921 → n ≤ 2013265920 → Some n ≡ element_number field → onto (element_values after) (numbers_in fields) ≡ onto (element_values before) (numbers_in (field ∷ fields))
next_number before after x n field fields pushed made small is =
    let same : x.residue ≡ n = omega arith in
    rw (← is, pushed, map-append, same) (regroup (element_values before) n (numbers_in fields))
