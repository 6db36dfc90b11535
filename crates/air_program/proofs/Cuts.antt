-- Cutting at the first occurrence of a byte.
use Rattle.std.proofs.Common.{◌≡◌, ℕ, ◌+◌, ◌-◌, ◌<◌, ◌≤◌, Bool, true, false, not, ltb, cond, List, [], ◌∷◌, length, get_or, take, drop, Some, None, position, refl, arith}
use Rattle.std.proofs.lemmas.Bool.{ltb-true, ltb-false}
use Rattle.std.proofs.lemmas.Grind.{common_steps}
use Rattle.std.proofs.lemmas.Option.{cond_some}
use Rattle.std.proofs.lemmas.List.Elements.{All-from_get_or}
use Rattle.std.proofs.lemmas.List.Splits.{slice_split_first, slice_split_none}
use Rattle.std.proofs.lemmas.List.Sums.{prefix_len_passes}
use Rattle.std.specs.List.{slice_split, position_or_len}

pub rest_of : (xs : List ℕ) (i : ℕ) → take (length xs - i) (drop i xs) ≡ drop i xs
rest_of xs i = grind (arith, common_steps)

pub found : (p : ℕ → Bool) (xs : List ℕ) (i : ℕ) → position p xs ≡ Some i → (i < length xs) × (slice_split p xs ≡ take i xs ∷ slice_split p (drop (i + 1) xs))
found p xs i e =
    let q = cond_some (ltb (position_or_len p xs) (length xs)) (position_or_len p xs) i e in
    let inside : position_or_len p xs < length xs = ltb-true _ _ q.0 in
    (omega (arith, q.1), rw (← q.1) (slice_split_first p xs 0 inside))

not_true : (b : Bool) → not b ≡ true → b ≡ false
not_true true e = absurd cc
not_true false e = refl

some_none : (b : Bool) (n : ℕ) → cond b (Some n) None ≡ None → b ≡ false
some_none true n e = absurd cc
some_none false n e = refl

pub not_found : (p : ℕ → Bool) (xs : List ℕ) → position p xs ≡ None → slice_split p xs ≡ xs ∷ []
not_found p xs e =
    let past : length xs ≤ position_or_len p xs = ltb-false _ _ (some_none (ltb (position_or_len p xs) (length xs)) (position_or_len p xs) e) in
    slice_split_none p xs (All-from_get_or (λ b. p b ≡ false) xs 0 (λ i h. not_true (p (get_or xs i 0)) (prefix_len_passes (λ b. not (p b)) xs i 0 (omega arith))))
