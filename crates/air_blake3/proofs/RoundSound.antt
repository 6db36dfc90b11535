-- The consequences of rounds whose terms are all zero.
use Rattle.std.specs.Prelude.{◌≡◌, ℕ, zero, suc, refl, ◌+◌, ◌*◌, ◌^◌, ◌<◌, ◌≤◌, List, ◌++◌, slice_index}
use Rattle.std.proofs.Common.{subst, inl, inr, arith}
use Rattle.std.proofs.lemmas.Bool.{cases_lt}
use Rattle.air_field.specs.Ring.{CommRing}
use Rattle.air_field.specs.laws.Images.{HasCharacteristic}
use Rattle.air_field.specs.Term.{Leaf}
use Rattle.air_builder.specs.Assertion.{Assertion}
use Rattle.air_author.specs.Constraints.{asserts_of_first}
use Rattle.air_builder.specs.Vanishing.{AllVanish}
use Rattle.air_field.specs.Domain.{IsDomain}
use Rattle.blake3.specs.Compression.{columns_mixed, diagonals, from_diagonals, round, place_in, after_rounds}
use Rattle.blake3.specs.laws.Places.{place_in-below}
use Rattle.blake3.specs.declared.words.State.{State}
use Rattle.air_blake3.specs.Words.{StateTerms, bits_at, state_of}
use Rattle.air_blake3.specs.Mixing.{mix_asserts}
use Rattle.air_blake3.specs.Row.{columns_asserts, eight_columns, message_column, state_from, round_column, before_round, round_at}
use Rattle.air_blake3.specs.Holding.{IsBitsOf, IsStateOf, HasAllBits}
use Rattle.air_blake3.proofs.MixSound.{vanish-append, mix_is_sound}

pub record IsWholeState {F : Type 0} (t : StateTerms F) : Type 0 where
  pub q0 : HasAllBits t.q0
  pub q1 : HasAllBits t.q1
  pub q2 : HasAllBits t.q2
  pub q3 : HasAllBits t.q3

whole_of : {F : Type 0} (v : State) → IsWholeState (state_of {F = F} v)
unfolding bits_at
whole_of v = record {
  q0 = record { b = refl; d = refl };
  q1 = record { b = refl; d = refl };
  q2 = record { b = refl; d = refl };
  q3 = record { b = refl; d = refl };
}

-- a fact about all indices below 8, by cases
eight_cases : (P : ℕ → Type 0) → P 0 → P 1 → P 2 → P 3 → P 4 → P 5 → P 6 → P 7 → (i : ℕ) → i < 8 → P i
eight_cases P p0 p1 p2 p3 p4 p5 p6 p7 zero l = p0
eight_cases P p0 p1 p2 p3 p4 p5 p6 p7 (suc zero) l = p1
eight_cases P p0 p1 p2 p3 p4 p5 p6 p7 (suc (suc zero)) l = p2
eight_cases P p0 p1 p2 p3 p4 p5 p6 p7 (suc (suc (suc zero))) l = p3
eight_cases P p0 p1 p2 p3 p4 p5 p6 p7 (suc (suc (suc (suc zero)))) l = p4
eight_cases P p0 p1 p2 p3 p4 p5 p6 p7 (suc (suc (suc (suc (suc zero))))) l = p5
eight_cases P p0 p1 p2 p3 p4 p5 p6 p7 (suc (suc (suc (suc (suc (suc zero)))))) l = p6
eight_cases P p0 p1 p2 p3 p4 p5 p6 p7 (suc (suc (suc (suc (suc (suc (suc zero))))))) l = p7
eight_cases P p0 p1 p2 p3 p4 p5 p6 p7 (suc (suc (suc (suc (suc (suc (suc (suc i)))))))) l = absurd (omega arith)

module _ {F : Type 0} (R : CommRing F) (s : Leaf → F) where
  -- all terms of each of the first lists are zero
  pub vanish-first : (f : ℕ → List (Assertion F)) (n : ℕ) → AllVanish R s (asserts_of_first f n) → (i : ℕ) → i < n → AllVanish R s (f i)
  vanish-first f zero h i l = absurd (omega arith)
  vanish-first f (suc n) h i l =
      let parts = vanish-append R s (asserts_of_first f n) (f n) h in
      elim (cases_lt i n) [
        | inl k ↦ vanish-first f n parts.0 i k
        | inr k ↦ let e : n ≡ i = omega arith in subst (λ j. AllVanish R s (f j)) e parts.1
      ]

  pub diagonals_are : (t v : State) → IsStateOf R s (state_of t) v → IsStateOf R s (state_of (diagonals t)) (diagonals v)
  diagonals_are t v h = record {
    q0 = record { a = h.q0.a; b = h.q1.b; c = h.q2.c; d = h.q3.d };
    q1 = record { a = h.q1.a; b = h.q2.b; c = h.q3.c; d = h.q0.d };
    q2 = record { a = h.q2.a; b = h.q3.b; c = h.q0.c; d = h.q1.d };
    q3 = record { a = h.q3.a; b = h.q0.b; c = h.q1.c; d = h.q2.d };
  }

  pub from_diagonals_are : (t v : State) → IsStateOf R s (state_of t) v → IsStateOf R s (state_of (from_diagonals t)) (from_diagonals v)
  from_diagonals_are t v h = record {
    q0 = record { a = h.q0.a; b = h.q3.b; c = h.q2.c; d = h.q1.d };
    q1 = record { a = h.q1.a; b = h.q0.b; c = h.q3.c; d = h.q2.d };
    q2 = record { a = h.q2.a; b = h.q1.b; c = h.q0.c; d = h.q3.d };
    q3 = record { a = h.q3.a; b = h.q2.b; c = h.q1.c; d = h.q0.d };
  }

  -- the eight words that a round uses from an index on
  pub taken_words : (n : ℕ → ℕ) → ((i : ℕ) → i < 16 → IsBitsOf R s (bits_at (message_column i)) (n i)) → (r : ℕ)
      → ((i : ℕ) → i < 8 → IsBitsOf R s (bits_at (slice_index (eight_columns r 0) i)) (n (place_in r i)))
      × ((i : ℕ) → i < 8 → IsBitsOf R s (bits_at (slice_index (eight_columns r 8) i)) (n (place_in r (8 + i))))
  taken_words n words r =
      let at = λ (i : ℕ) (l : i < 16). words (place_in r i) (place_in-below r i l) in (
        eight_cases (λ i. IsBitsOf R s (bits_at (slice_index (eight_columns r 0) i)) (n (place_in r i)))
            (at 0 (omega arith)) (at 1 (omega arith)) (at 2 (omega arith)) (at 3 (omega arith)) (at 4 (omega arith)) (at 5 (omega arith)) (at 6 (omega arith)) (at 7 (omega arith)),
        eight_cases (λ i. IsBitsOf R s (bits_at (slice_index (eight_columns r 8) i)) (n (place_in r (8 + i))))
            (at 8 (omega arith)) (at 9 (omega arith)) (at 10 (omega arith)) (at 11 (omega arith)) (at 12 (omega arith)) (at 13 (omega arith)) (at 14 (omega arith)) (at 15 (omega arith)),
      )

  module _ (p : ℕ) (has : HasCharacteristic R p) (domain : IsDomain R) (big : 3 * 2 ^ 16 < p) where
    columns_are : (v : StateTerms F) (m : List ℕ) (u w : StateTerms F) (x : State) (n : ℕ → ℕ)
        → IsWholeState u → IsWholeState w → IsStateOf R s v x → ((i : ℕ) → i < 8 → IsBitsOf R s (bits_at (slice_index m i)) (n i))
        → AllVanish R s (columns_asserts R (λ z. z) v m u w) → IsStateOf R s w (columns_mixed x n)
    unfolding columns_asserts
    columns_are v m u w x n whole_u whole_w h words vanish =
        let at = λ (i : ℕ). bits_at {F = F} (slice_index m i) in
        let g3 = mix_asserts R (λ z. z) v.q3 (at 6) (at 7) u.q3 w.q3 in
        let g2 = mix_asserts R (λ z. z) v.q2 (at 4) (at 5) u.q2 w.q2 in
        let g1 = mix_asserts R (λ z. z) v.q1 (at 2) (at 3) u.q1 w.q1 in
        let g0 = mix_asserts R (λ z. z) v.q0 (at 0) (at 1) u.q0 w.q0 in
        let first = vanish-append R s g0 (g1 ++ (g2 ++ g3)) vanish in
        let second = vanish-append R s g1 (g2 ++ g3) first.1 in
        let third = vanish-append R s g2 g3 second.1 in
        record {
          q0 = mix_is_sound R p has v.q0 (at 0) (at 1) u.q0 w.q0 s x.q0 (n 0) (n 1) domain big whole_u.q0 whole_w.q0 h.q0 (words 0 (omega arith)) (words 1 (omega arith)) first.0;
          q1 = mix_is_sound R p has v.q1 (at 2) (at 3) u.q1 w.q1 s x.q1 (n 2) (n 3) domain big whole_u.q1 whole_w.q1 h.q1 (words 2 (omega arith)) (words 3 (omega arith)) second.0;
          q2 = mix_is_sound R p has v.q2 (at 4) (at 5) u.q2 w.q2 s x.q2 (n 4) (n 5) domain big whole_u.q2 whole_w.q2 h.q2 (words 4 (omega arith)) (words 5 (omega arith)) third.0;
          q3 = mix_is_sound R p has v.q3 (at 6) (at 7) u.q3 w.q3 s x.q3 (n 6) (n 7) domain big whole_u.q3 whole_w.q3 h.q3 (words 6 (omega arith)) (words 7 (omega arith)) third.1;
        }

    round_is : (r : ℕ) (x : State) (n : ℕ → ℕ) → IsStateOf R s (state_of (before_round r)) x
        → ((i : ℕ) → i < 16 → IsBitsOf R s (bits_at (message_column i)) (n i))
        → AllVanish R s (round_at R (λ z. z) r)
        → IsStateOf R s (state_of (from_diagonals (state_from (round_column r + 1088)))) (round x (λ i. n (place_in r i)))
    unfolding round round_at
    round_is r x n h words vanish =
        let first = round_column r in
        let m = λ (i : ℕ). n (place_in r i) in
        let taken = taken_words n words r in
        let u = state_from (first + 272) in
        let w = state_from (first + 544) in
        let y = state_from (first + 816) in
        let z = state_from (first + 1088) in
        let parts = vanish-append R s (columns_asserts R (λ z. z) (state_of (before_round r)) (eight_columns r 0) (state_of u) (state_of w))
        (columns_asserts R (λ z. z) (state_of (diagonals w)) (eight_columns r 8) (state_of y) (state_of z)) vanish in
        let columns = columns_are (state_of (before_round r)) (eight_columns r 0) (state_of u) (state_of w) x m (whole_of u) (whole_of w) h taken.0 parts.0 in
        from_diagonals_are z (columns_mixed (diagonals (columns_mixed x m)) (λ i. m (8 + i)))
        (columns_are (state_of (diagonals w)) (eight_columns r 8) (state_of y) (state_of z) (diagonals (columns_mixed x m)) (λ i. m (8 + i)) (whole_of y) (whole_of z)
        (diagonals_are w (columns_mixed x m) columns) taken.1 parts.1)

    pub rounds_are : (x : State) (n : ℕ → ℕ) → IsStateOf R s (state_of (before_round 0)) x
        → ((i : ℕ) → i < 16 → IsBitsOf R s (bits_at (message_column i)) (n i))
        → ((r : ℕ) → r < 7 → AllVanish R s (round_at R (λ z. z) r))
        → (r : ℕ) → r ≤ 7 → IsStateOf R s (state_of (before_round r)) (after_rounds x n r)
    unfolding after_rounds
    rounds_are x n h words vanish zero le = h
    rounds_are x n h words vanish (suc r) le =
        let next : round_column r + 1088 ≡ round_column (suc r) = omega arith in
        subst (λ c. IsStateOf R s (state_of (from_diagonals (state_from c))) (after_rounds x n (suc r))) next
        (round_is r (after_rounds x n r) n (rounds_are x n h words vanish r (omega arith)) words (vanish r (omega arith)))
