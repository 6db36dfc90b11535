-- Caps in decimal digits, and weights: such digits after `w=`.
use Rattle.std.proofs.Common.{◌≡◌, ◌≢◌, ℕ, ◌<◌, ◌^◌, Bool, true, false, ◌&&◌, if◌then◌else◌, ◌++◌, List, length, drop, get_or, codes, Some, None, Result, Ok, Err, refl, ap, subst, ◌∙◌}
use Rattle.std.specs.Str.{all_ascii_digits}
use Rattle.std.specs.Str.Parse.{digits_value, ParsesUnsigned}
use Rattle.std.proofs.lemmas.Bool.{lt-ltb, ltb-true}
use Rattle.std.proofs.lemmas.Result.{OkIff-at_ok, OkIff-at_err}
use Rattle.std.proofs.lemmas.Str.Parse.{IsNumeralModel, numerals_by_value, tells_all_ascii_digits, parse_plain}
use Rattle.std.specs.List.{starts_with}
use Rattle.std.specs.Prelude.{◌==◌}
use Rattle.std.specs.Str.Pattern.{FindsTextPrefix, StripsPrefix}
use Rattle.std.proofs.lemmas.Str.Pattern.{starts_text}
use Rattle.air_program.specs.Commands.{cap_of, weight_of}

model : IsNumeralModel (λ ds. all_ascii_digits ds ≡ true) (digits_value 10)
model = numerals_by_value (λ ds. all_ascii_digits ds ≡ true) tells_all_ascii_digits

-- digits whose value fits
abbrev IsCap : List ℕ → Type 0
IsCap word = (all_ascii_digits word ≡ true) × (0 < length word) × (digits_value 10 word < 2 ^ 64)

some_cap : (word : List ℕ) → IsCap word → Some (digits_value 10 word) ≡ cap_of word
some_cap word h = rw (h.0, lt-ltb 0 (length word) h.1, lt-ltb (digits_value 10 word) (2 ^ 64) h.2) refl

none_where_not_all : (some digits fits : Bool) (n : ℕ) → (some ≡ true → digits ≡ true → fits ≡ true → ⊥) → None ≡ (if some && (digits && fits) then Some n else None)
none_where_not_all true true true n wrong = absurd (wrong refl refl refl)
none_where_not_all true true false n wrong = refl
none_where_not_all true false fits n wrong = refl
none_where_not_all false digits fits n wrong = refl

no_cap : (word : List ℕ) → (IsCap word → ⊥) → None ≡ cap_of word
no_cap word wrong = none_where_not_all _ _ _ (digits_value 10 word) (λ some digits fits. wrong (digits, ltb-true _ _ some, ltb-true _ _ fits))

-- A word that doesn't begin with a plus is parsed exactly if it is a cap, and as its value.
module _ {E : Type 0} (word : List ℕ) (r : Result ℕ E) (parsed : ParsesUnsigned 64 10 word r) (plain : get_or word 0 0 ≢ 43) where
  pub cap_parsed : (n : ℕ) → r ≡ Ok n → Some n ≡ cap_of word
  cap_parsed n is =
      let h = OkIff-at_ok r _ _ n (parse_plain model 64 word r parsed plain) is in
      ap (λ (m : ℕ). Some m) h.1 ∙ some_cap word h.0

  pub no_cap_parsed : (e : E) → r ≡ Err e → None ≡ cap_of word
  no_cap_parsed e is = no_cap word (OkIff-at_err r _ _ e (parse_plain model 64 word r parsed plain) is)

-- After `w=`, the rest of the word is read like a cap.
module _ (word : List ℕ) where
  abbrev starts : Bool
  starts = starts_with (λ a b. a == b) word (codes "w=")

  pub weight_found : (rest : List ℕ) → StripsPrefix (FindsTextPrefix (codes "w=")) word rest → cap_of rest ≡ weight_of word
  weight_found rest h =
      let split : word ≡ codes "w=" ++ drop 2 word = subst (λ k. word ≡ codes "w=" ++ drop k word) h.1.0 h.1.1 in
      let found : true ≡ starts = starts_text true (codes "w=") word (2, (refl, split, h.1.2), h.1.2) in
      rw (← found, h.2, h.1.0) refl

  pub no_weight : FindsTextPrefix (codes "w=") word None → None ≡ weight_of word
  no_weight lacks =
      let found : false ≡ starts = starts_text false (codes "w=") word lacks in
      rw (← found) refl
