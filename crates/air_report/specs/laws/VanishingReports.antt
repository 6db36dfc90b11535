-- A report lists nothing exactly if every term vanishes at each row.
use Rattle.std.specs.Prelude.{⊤, ◌↔◌}
use Rattle.std.proofs.Common.{◌≡◌, ◌<◌, ◌≤◌, ℕ, zero, suc, ◌+◌, List, [], ◌∷◌, ◌++◌, map, Bool, true, false, not, cond, refl, sym, ◌∙◌, ap, subst, inl, inr, arith}
use Rattle.std.specs.List.{filter, flat_map, range_with_len, enumerate_from}
use Rattle.std.proofs.lemmas.Bool.{cases_lt}
use Rattle.air_field.specs.Ring.{CommRing}
use Rattle.air_field.specs.Assignment.{Trace, row_assignment}
use Rattle.air_builder.specs.Assertion.{Assertion, Base, Extension}
use Rattle.air_report.specs.Report.{place, all_places, report_by, report_of, zero_at}
use Rattle.air_builder.specs.Vanishing.{AllVanish}

never_empty : {A : Type 0} (x : A) (xs : List A) → x ∷ xs ≡ [] → ⊥
never_empty x xs e = cc

-- if two lists append to the empty list, both are empty
pub nothing_first : {A : Type 0} (xs ys : List A) → xs ++ ys ≡ [] → (xs ≡ []) × (ys ≡ [])
nothing_first [] ys e = (refl, e)
nothing_first (x ∷ xs) ys e = absurd (never_empty x (xs ++ ys) e)

-- if a list maps to the empty list, it is empty
pub empty_map : {A B : Type 0} (f : A → B) (xs : List A) → map f xs ≡ [] → xs ≡ []
empty_map f [] e = refl
empty_map f (x ∷ xs) e = absurd (never (f x) (map f xs) e)
  where
    never : {B : Type 0} (x : B) (xs : List B) → x ∷ xs ≡ [] → ⊥
    never x xs e = cc

-- no element passes the test
abbrev Fails : {A : Type 0} → (A → Bool) → List A → Type 0
Fails f [] = ⊤
Fails f (x ∷ xs) = (f x ≡ false) × Fails f xs

fails_first : {A : Type 0} (f : A → Bool) (x : A) (xs : List A) (b : Bool) → f x ≡ b → cond b (x ∷ filter f xs) (filter f xs) ≡ []
    → (filter f xs ≡ [] → Fails f xs) → Fails f (x ∷ xs)
fails_first f x xs true is e rest = absurd (never_empty x (filter f xs) e)
fails_first f x xs false is e rest = (is, rest e)

none_passes : {A : Type 0} (f : A → Bool) (xs : List A) → filter f xs ≡ [] → Fails f xs
none_passes f [] e = tt
none_passes f (x ∷ xs) e = fails_first f x xs (f x) refl e (none_passes f xs)

filtered : {A : Type 0} (f : A → Bool) (xs : List A) → Fails f xs → filter f xs ≡ []
filtered f [] h = refl
filtered f (x ∷ xs) h = ap (λ b. cond b (x ∷ filter f xs) (filter f xs)) h.0 ∙ filtered f xs h.1

fails_both : {A : Type 0} (f : A → Bool) (xs ys : List A) → Fails f xs → Fails f ys → Fails f (xs ++ ys)
fails_both f [] ys h k = k
fails_both f (x ∷ xs) ys h k = (h.0, fails_both f xs ys h.1 k)

fails-append : {A : Type 0} (f : A → Bool) (xs ys : List A) → Fails f (xs ++ ys) → Fails f xs × Fails f ys
fails-append f [] ys h = (tt, h)
fails-append f (x ∷ xs) ys h = let k = fails-append f xs ys h.1 in ((h.0, k.0), k.1)

turned : (b : Bool) → not b ≡ false → b ≡ true
turned true e = refl
turned false e = sym e

-- the test finds each assertion zero
abbrev pub EachZero : {F : Type 0} → (Assertion F → Bool) → List (Assertion F) → Type 0
EachZero test [] = ⊤
EachZero test (t ∷ ts) = (test t ≡ true) × EachZero test ts

module _ {F : Type 0} (test : ℕ → Assertion F → Bool) where
  abbrev nonzero : ℕ × (ℕ × Assertion F) → Bool
  nonzero p = not (test p.0 p.1.1)

  abbrev row_places : List (Assertion F) → ℕ → List (ℕ × (ℕ × Assertion F))
  row_places ts row = map (λ p. (row, p)) (enumerate_from 0 ts)

  row_zero : (row n : ℕ) (ts : List (Assertion F)) → Fails nonzero (map (λ p. (row, p)) (enumerate_from n ts)) → EachZero (test row) ts
  row_zero row n [] h = tt
  row_zero row n (t ∷ ts) h = (turned (test row t) h.0, row_zero row (n + 1) ts h.1)

  rows_zero : (ts : List (Assertion F)) (a n : ℕ) → Fails nonzero (flat_map (row_places ts) (range_with_len a n))
      → (row : ℕ) → a ≤ row → row < a + n → EachZero (test row) ts
  rows_zero ts a zero h row low high = absurd (omega arith)
  rows_zero ts a (suc n) h row low high =
      let parts = fails-append nonzero (row_places ts a) (flat_map (row_places ts) (range_with_len (a + 1) n)) h in
      elim (cases_lt a row) [
        | inl l ↦ rows_zero ts (a + 1) n parts.1 row (omega arith) (omega arith)
        | inr l ↦ let e : a ≡ row = omega arith in subst (λ i. EachZero (test i) ts) e (row_zero a 0 ts parts.0)
      ]

  -- if the report by the test lists nothing, the test finds each assertion zero at each of the rows
  pub all_zero : (ts : List (Assertion F)) (h : ℕ) → report_by test ts h ≡ [] → (row : ℕ) → row < h → EachZero (test row) ts
  all_zero ts h e row l = rows_zero ts 0 h (none_passes nonzero (all_places h ts) (empty_map place _ e)) row (omega arith) (omega arith)

  row_fails : (row n : ℕ) (ts : List (Assertion F)) → EachZero (test row) ts → Fails nonzero (map (λ p. (row, p)) (enumerate_from n ts))
  row_fails row n [] h = tt
  row_fails row n (t ∷ ts) h = (ap not h.0, row_fails row (n + 1) ts h.1)

  rows_fail : (ts : List (Assertion F)) (a n : ℕ) → ((row : ℕ) → a ≤ row → row < a + n → EachZero (test row) ts)
      → Fails nonzero (flat_map (row_places ts) (range_with_len a n))
  rows_fail ts a zero h = tt
  rows_fail ts a (suc n) h =
      fails_both nonzero (row_places ts a) (flat_map (row_places ts) (range_with_len (a + 1) n))
      (row_fails a 0 ts (h a (omega arith) (omega arith)))
      (rows_fail ts (a + 1) n (λ row low high. h row (omega arith) (omega arith)))

  -- if the test finds each assertion zero at each of the rows, the report by it lists nothing
  pub nothing_reported : (ts : List (Assertion F)) (h : ℕ) → ((row : ℕ) → row < h → EachZero (test row) ts) → report_by test ts h ≡ []
  nothing_reported ts h each = ap (map place) (filtered nonzero (all_places h ts) (rows_fail ts 0 h (λ row low high. each row (omega arith))))

module _ {F : Type 0} (r : CommRing F) (eq : F → F → Bool) (decides : (a b : F) → (eq a b ≡ true) ↔ (a ≡ b)) (trace : Trace F) where
  vanishes : (row : ℕ) (ts : List (Assertion F)) → EachZero (zero_at r eq trace row) ts → AllVanish r (row_assignment r trace row) ts
  vanishes row [] h = tt
  vanishes row (Base t ∷ ts) h = ((decides _ r.zero).0 h.0, vanishes row ts h.1)
  vanishes row (Extension t ∷ ts) h = ((decides _ r.zero).0 h.0, vanishes row ts h.1)

  found_zero : (row : ℕ) (ts : List (Assertion F)) → AllVanish r (row_assignment r trace row) ts → EachZero (zero_at r eq trace row) ts
  found_zero row [] h = tt
  found_zero row (Base t ∷ ts) h = ((decides _ r.zero).1 h.0, found_zero row ts h.1)
  found_zero row (Extension t ∷ ts) h = ((decides _ r.zero).1 h.0, found_zero row ts h.1)

  -- if the report on the first h rows lists nothing, each term vanishes at each of them
  pub all_vanish : (ts : List (Assertion F)) (h : ℕ) → report_of r eq trace ts h ≡ [] → (row : ℕ) → row < h → AllVanish r (row_assignment r trace row) ts
  all_vanish ts h e row l = vanishes row ts (all_zero (zero_at r eq trace) ts h e row l)

  -- if each term vanishes at each row, the report lists nothing
  pub none_reported : (ts : List (Assertion F)) (h : ℕ) → ((row : ℕ) → row < h → AllVanish r (row_assignment r trace row) ts) → report_of r eq trace ts h ≡ []
  none_reported ts h vanish = nothing_reported (zero_at r eq trace) ts h (λ row l. found_zero row ts (vanish row l))
