-- Numbers, digit after digit.
use Rattle.std.proofs.Common.{◌≡◌, ℕ, ◌<◌, ◌≤◌, ◌*◌, ◌+◌, Bool, true, false, cond, List, [], ◌∷◌, Option, None, refl, arith, rules, tests}
use Rattle.std.specs.Char.{digit_value}
use Rattle.std.specs.Str.{all_ascii_digits}
use Rattle.std.specs.Str.Parse.{digits_value_after}
use Rattle.air_program.specs.Grammar.{if_element}

-- the number with the digits of n followed by these digits
abbrev pub number_on : ℕ → List ℕ → Option ℕ
number_on n digits = cond (all_ascii_digits digits) (if_element (digits_value_after 10 n digits)) None

-- further digits never make a number smaller
grows : (digits : List ℕ) (n : ℕ) → n ≤ digits_value_after 10 n digits
grows [] n = omega arith
grows (c ∷ cs) n = omega (arith, grows cs (n * 10 + digit_value c))

no_element : (n : ℕ) → 2013265920 < n → if_element n ≡ None
no_element n h = search (rules, tests)

either_none : {A : Type 0} (b : Bool) (o : Option A) → o ≡ None → cond b o None ≡ None
either_none true o e = e
either_none false o e = refl

pub too_great : (digits : List ℕ) (n : ℕ) → 2013265920 < n → number_on n digits ≡ None
too_great digits n h = either_none (all_ascii_digits digits) (if_element (digits_value_after 10 n digits)) (no_element _ (omega (arith, grows digits n)))
