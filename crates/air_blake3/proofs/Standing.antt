-- The contents of a row from a column on.
use Rattle.std.specs.Prelude.{◌≡◌, ℕ, zero, suc, refl, ◌+◌, ◌*◌, ◌%◌, ◌^◌, ◌<◌, List, [], ◌∷◌, ◌++◌, length, map, slice_index_or}
use Rattle.std.proofs.Common.{◌∙◌, ap₂, subst, inl, inr, arith, length-append, append_assoc}
use Rattle.std.proofs.lemmas.Bool.{cases_lt}
use Rattle.air_field.specs.Assignment.{RowValues, leaf_value}
use Rattle.air_field.specs.Ring.{CommRing, image, self_algebra}
use Rattle.air_field.specs.Term.{Leaf}
use Rattle.air_field.specs.Value.{value}
use Rattle.air_author.specs.Constraints.{asserts_of_first}
use Rattle.blake3.specs.Compression.{columns_mixed, diagonals}
use Rattle.blake3.specs.Blocks.{columns_half}
use Rattle.blake3.specs.Sizes.{AreWords, AreStateWords}
use Rattle.blake3.specs.laws.Sizes.{half_state, mixed_state}
use Rattle.blake3.specs.declared.words.Quarter.{Quarter}
use Rattle.blake3.specs.declared.words.State.{State}
use Rattle.air_blake3.specs.Words.{column, terms_numbered, quarter_of, state_of, bits_at, limbs_at}
use Rattle.air_blake3.specs.Row.{quarter_from, state_from}
use Rattle.air_blake3.specs.Holding.{IsLimbsOf, IsBitsOf, IsQuarterOf, IsStateOf}
use Rattle.air_blake3.specs.Values.{bit_values, limb_values, quarter_values, state_values, columns_values, round_values, four_bits}
use Rattle.air_blake3.proofs.Digits.{limbs_hold, bits_hold}

-- ---- lengths

length-quarter : {F : Type 0} (R : CommRing F) (q : Quarter) → length (quarter_values R q) ≡ 68
unfolding quarter_values
length-quarter R q = refl

pub length-state : {F : Type 0} (R : CommRing F) (v : State) → length (state_values R v) ≡ 272
unfolding state_values quarter_values
length-state R v = refl

pub length-four : {F : Type 0} (R : CommRing F) (a b c d : ℕ) → length (four_bits R a b c d) ≡ 128
unfolding four_bits
length-four R a b c d = refl

pub length-two : {A : Type 0} (xs ys : List A) (m n : ℕ) → length xs ≡ m → length ys ≡ n → length (xs ++ ys) ≡ m + n
length-two xs ys m n e f = length-append xs ys ∙ ap₂ (λ x y. x + y) e f

length-columns : {F : Type 0} (R : CommRing F) (v : State) (m : ℕ → ℕ) → length (columns_values R v m) ≡ 544
unfolding columns_values
length-columns R v m = length-two _ _ 272 272 (length-state R (columns_half v m)) (length-state R (columns_mixed v m))

pub length-round : {F : Type 0} (R : CommRing F) (v : State) (m : ℕ → ℕ) → length (round_values R v m) ≡ 1088
unfolding round_values
length-round R v m = length-two _ _ 544 544 (length-columns R v m) (length-columns R (diagonals (columns_mixed v m)) (λ i. m (8 + i)))

pub length-first : {A : Type 0} (f : ℕ → List A) (w : ℕ) → ((i : ℕ) → length (f i) ≡ w) → (k : ℕ) → length (asserts_of_first f k) ≡ w * k
length-first f w e zero = omega arith
length-first f w e (suc k) = length-two (asserts_of_first f k) (f k) (w * k) w (length-first f w e k) (e k) ∙ omega arith

-- ---- columns

module _ {F : Type 0} (R : CommRing F) (row : List F) where
  -- the row has this list from a column on
  unfoldable pub Stands : ℕ → List F → Type 0
  Stands n [] = Unit {0}
  Stands n (x ∷ xs) = (slice_index_or row n R.zero ≡ x) × Stands (n + 1) xs

  stands-append : (n : ℕ) (xs ys : List F) → Stands n (xs ++ ys) → Stands n xs × Stands (n + length xs) ys
  unfolding Stands
  stands-append n [] ys h = let e : n ≡ n + 0 = omega arith in (tt, subst (λ k. Stands k ys) e h)
  stands-append n (x ∷ xs) ys h =
      let k = stands-append (n + 1) xs ys h.1 in
      let e : n + 1 + length xs ≡ n + suc (length xs) = omega arith in
      ((h.0, k.0), subst (λ j. Stands j ys) e k.1)

  pub two_stand : (n m : ℕ) (xs ys : List F) → length xs ≡ m → Stands n (xs ++ ys) → Stands n xs × Stands (n + m) ys
  two_stand n m xs ys e h = let k = stands-append n xs ys h in (k.0, subst (λ j. Stands (n + j) ys) e k.1)

  -- if the row has a list of lists of equal length, it has each of them
  pub first_stands : (f : ℕ → List F) (w : ℕ) → ((i : ℕ) → length (f i) ≡ w) → (n k : ℕ) → Stands n (asserts_of_first f k) → (i : ℕ) → i < k → Stands (n + w * i) (f i)
  first_stands f w e n zero h i l = absurd (omega arith)
  first_stands f w e n (suc k) h i l =
      let parts = two_stand n (w * k) (asserts_of_first f k) (f k) (length-first f w e k) h in
      elim (cases_lt i k) [
        | inl m ↦ first_stands f w e n k parts.0 i m
        | inr m ↦ let same : k ≡ i = omega arith in subst (λ j. Stands (n + w * j) (f j)) same parts.1
      ]

  module _ (beside : RowValues F) where
    abbrev pub holder : Leaf → F
    holder = leaf_value R.zero (record beside { current = row })

    columns_stand : (n i : ℕ) (xs : List F) → Stands (n + i) xs → map (value (self_algebra R) holder) (terms_numbered (column n) i (length xs)) ≡ xs
    unfolding Stands
    columns_stand n i [] h = refl
    columns_stand n i (x ∷ xs) h =
        let e : n + i + 1 ≡ n + suc i = omega arith in
        ap₂ (λ y ys. y ∷ ys) h.0 (columns_stand n (suc i) xs (subst (λ k. Stands k xs) e h.1))

    pub bits_stand : (n w : ℕ) → w < 2 ^ 32 → Stands n (bit_values R w) → IsBitsOf R holder (bits_at n) w
    unfolding bits_at
    bits_stand n w fits h =
        let e : n ≡ n + 0 = omega arith in
        bits_hold R holder (terms_numbered (column n) 0 32) w fits (columns_stand n 0 (bit_values R w) (subst (λ k. Stands k (bit_values R w)) e h))

    limbs_stand : (n w : ℕ) → w < 2 ^ 32 → Stands n (limb_values R w) → IsLimbsOf R holder (limbs_at n) w
    unfolding limbs_at Stands
    limbs_stand n w fits h =
        let e : n ≡ n + 0 = omega arith in
        limbs_hold R holder (limbs_at n) w fits (subst (λ k. slice_index_or row k R.zero ≡ image R (w % 2 ^ 16)) e h.0) h.1.0

    quarter_stands : (n : ℕ) (q : Quarter) → AreWords q → Stands n (quarter_values R q) → IsQuarterOf R holder (quarter_of (quarter_from n)) q
    unfolding quarter_values
    quarter_stands n q words h =
        let p0 = two_stand n 36 ((limb_values R q.a ++ bit_values R q.b) ++ limb_values R q.c) (bit_values R q.d) refl h in
        let p1 = two_stand n 34 (limb_values R q.a ++ bit_values R q.b) (limb_values R q.c) refl p0.0 in
        let p2 = two_stand n 2 (limb_values R q.a) (bit_values R q.b) refl p1.0 in
        record {
          a = limbs_stand n q.a words.a p2.0;
          b = bits_stand (n + 2) q.b words.b p2.1;
          c = limbs_stand (n + 34) q.c words.c p1.1;
          d = bits_stand (n + 36) q.d words.d p0.1;
        }

    pub state_stands : (n : ℕ) (v : State) → AreStateWords v → Stands n (state_values R v) → IsStateOf R holder (state_of (state_from n)) v
    unfolding state_values
    state_stands n v words h =
        let l = λ (q : Quarter). length-quarter R q in
        let q0 = quarter_values R v.q0 in
        let q1 = quarter_values R v.q1 in
        let q2 = quarter_values R v.q2 in
        let p0 = two_stand n 204 ((q0 ++ q1) ++ q2) (quarter_values R v.q3) (length-two _ _ 136 68 (length-two _ _ 68 68 (l v.q0) (l v.q1)) (l v.q2)) h in
        let p1 = two_stand n 136 (q0 ++ q1) q2 (length-two _ _ 68 68 (l v.q0) (l v.q1)) p0.0 in
        let p2 = two_stand n 68 q0 q1 (l v.q0) p1.0 in
        record {
          q0 = quarter_stands n v.q0 words.q0 p2.0;
          q1 = quarter_stands (n + 68) v.q1 words.q1 p2.1;
          q2 = quarter_stands (n + 136) v.q2 words.q2 p1.1;
          q3 = quarter_stands (n + 204) v.q3 words.q3 p0.1;
        }

    -- the two states of mixed columns
    pub columns_of_round : (n : ℕ) (v : State) (m : ℕ → ℕ) → AreStateWords v → Stands n (columns_values R v m)
        → IsStateOf R holder (state_of (state_from n)) (columns_half v m) × IsStateOf R holder (state_of (state_from (n + 272))) (columns_mixed v m)
    unfolding columns_values
    columns_of_round n v m words h =
        let p = two_stand n 272 (state_values R (columns_half v m)) (state_values R (columns_mixed v m)) (length-state R (columns_half v m)) h in
        (state_stands n (columns_half v m) (half_state v m words) p.0, state_stands (n + 272) (columns_mixed v m) (mixed_state v m words) p.1)

    pub round_stands : (n : ℕ) (v : State) (m : ℕ → ℕ) → Stands n (round_values R v m)
        → Stands n (columns_values R v m) × Stands (n + 544) (columns_values R (diagonals (columns_mixed v m)) (λ i. m (8 + i)))
    unfolding round_values
    round_stands n v m h = two_stand n 544 (columns_values R v m) (columns_values R (diagonals (columns_mixed v m)) (λ i. m (8 + i))) (length-columns R v m) h

    pub four_stand : (n a b c d : ℕ) → a < 2 ^ 32 → b < 2 ^ 32 → c < 2 ^ 32 → d < 2 ^ 32 → Stands n (four_bits R a b c d)
        → (IsBitsOf R holder (bits_at n) a) × (IsBitsOf R holder (bits_at (n + 32)) b)
        × (IsBitsOf R holder (bits_at (n + 64)) c) × (IsBitsOf R holder (bits_at (n + 96)) d)
    unfolding four_bits
    four_stand n a b c d ha hb hc hd h =
        let p0 = two_stand n 96 ((bit_values R a ++ bit_values R b) ++ bit_values R c) (bit_values R d) refl h in
        let p1 = two_stand n 64 (bit_values R a ++ bit_values R b) (bit_values R c) refl p0.0 in
        let p2 = two_stand n 32 (bit_values R a) (bit_values R b) refl p1.0 in
        (bits_stand n a ha p2.0, bits_stand (n + 32) b hb p2.1, bits_stand (n + 64) c hc p1.1, bits_stand (n + 96) d hd p0.1)

module _ {F : Type 0} (R : CommRing F) where
  read_after : (ys xs : List F) (x : F) → slice_index_or (ys ++ x ∷ xs) (length ys) R.zero ≡ x
  read_after [] xs x = refl
  read_after (y ∷ ys) xs x = read_after ys xs x

  -- a list after another begins, in the joined list, at the other's length
  stands_after : (ys xs : List F) → Stands R (ys ++ xs) (length ys) xs
  unfolding Stands
  stands_after ys [] = tt
  stands_after ys (x ∷ xs) =
      let row = append_assoc ys (x ∷ []) xs in
      let place : length (ys ++ x ∷ []) ≡ length ys + 1 = length-append ys (x ∷ []) in
      (read_after ys xs x, subst (λ n. Stands R (ys ++ x ∷ xs) n xs) place (subst (λ r. Stands R r (length (ys ++ x ∷ [])) xs) row (stands_after (ys ++ x ∷ []) xs)))

  pub stands_itself : (row : List F) → Stands R row 0 row
  stands_itself row = stands_after [] row
