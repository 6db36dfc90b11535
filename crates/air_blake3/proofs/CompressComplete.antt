-- If a row holds a block, its states and its compression, all terms are zero.
use Rattle.std.specs.Prelude.{◌≡◌, ℕ, zero, suc, refl, ◌+◌, ◌*◌, ◌^◌, ◌<◌, ◌≤◌, List, [], ◌∷◌, ◌++◌, length, map, take, drop, bit_xor, slice_index}
use Rattle.std.proofs.Common.{sym, ◌∙◌, ap, ap₂, subst, arith}
use Rattle.air_field.specs.Ring.{CommRing, image, self_algebra, minus}
use Rattle.air_field.specs.laws.Images.{HasCharacteristic}
use Rattle.air_field.specs.Term.{Leaf, Term}
use Rattle.air_field.specs.Value.{value}
use Rattle.air_gadgets.specs.Bits.{AreBits}
use Rattle.air_builder.specs.Assertion.{Assertion}
use Rattle.air_author.specs.Constraints.{asserts_of_first}
use Rattle.air_gadgets.specs.Words.{Limbs, number_of, xor_bits, rotated_left}
use Rattle.air_builder.specs.Vanishing.{AllVanish}
use Rattle.air_field.specs.Domain.{IsDomain}
use Rattle.air_gadgets.specs.Gadgets.{test_asserts, xor_asserts}
use Rattle.air_gadgets.specs.laws.ExactXors.{xor_is_exact}
use Rattle.air_gadgets.specs.laws.Xors.{AllChecked, checks_of_bits, ring_xors, xors-images}
use Rattle.blake3.specs.Compression.{Block, columns_mixed, diagonals, round, place_in, first_state, after_rounds, output_column}
use Rattle.blake3.specs.Blocks.{columns_half}
use Rattle.blake3.specs.declared.words.Quarter.{Quarter}
use Rattle.blake3.specs.declared.words.State.{State}
use Rattle.air_blake3.specs.Words.{QuarterTerms, BitTerms, StateTerms, packed_limbs, bits_at, bits_of, state_of}
use Rattle.air_blake3.specs.Mixing.{mix_asserts}
use Rattle.air_blake3.specs.Row.{columns_asserts, eight_columns, message_column, chaining_column, last_column, output_columns, state_from, round_column, before_round, round_at, limbs_are, constant_limbs, xors_are, first_asserts, output_asserts, first_at, output_at, message_at, compression}
use Rattle.air_blake3.specs.Holding.{IsLimbsOf, IsBitsOf, IsQuarterOf, IsStateOf, IsOutputOf, HoldsStates, HoldsRow, CompressionIsComplete}
use Rattle.air_blake3.proofs.WordNumbers.{xor_back, bits-xor, length-xor, number_of-xor, number_of-halves, low_half-lt}
use Rattle.air_blake3.proofs.MixSound.{under-same, same, packed_is}
use Rattle.air_blake3.proofs.MixComplete.{vanish-both, mix_is_complete, same_limbs}
use Rattle.air_blake3.proofs.RoundSound.{taken_words, diagonals_are, from_diagonals_are}
use Rattle.air_blake3.proofs.CompressSound.{unturned, constants_hold}

module _ {F : Type 0} (R : CommRing F) (s : Leaf → F) where
  pub vanish-same-too : (ts : List (Assertion F)) → AllVanish R s ts → AllVanish R s (same ts)
  vanish-same-too ts h = subst (AllVanish R s) (sym (under-same ts)) h

  vanish-each : (f : ℕ → List (Assertion F)) (n : ℕ) → ((i : ℕ) → i < n → AllVanish R s (f i)) → AllVanish R s (asserts_of_first f n)
  vanish-each f zero h = tt
  vanish-each f (suc n) h = vanish-both R s (asserts_of_first f n) (f n) (vanish-each f n (λ i l. h i (omega arith))) (h n (omega arith))

  checks_vanish : (ts : List (Term F)) → AllChecked R (map (value (self_algebra R) s) ts) → AllVanish R s (test_asserts R ts)
  checks_vanish [] h = tt
  checks_vanish (t ∷ ts) h = (h.0, checks_vanish ts h.1)

  pub bits_vanish : (ts : List (Term F)) (n : ℕ) → IsBitsOf R s ts n → AllVanish R s (test_asserts R ts)
  bits_vanish ts n h = checks_vanish ts (subst (AllChecked R) (sym h.values) (checks_of_bits R h.bits h.are))

  equal_vanish : (x y z : F) → x ≡ z → y ≡ z → minus R x y ≡ R.zero
  equal_vanish x y z e k = ap (λ w. minus R w y) (e ∙ sym k) ∙ R.add_neg y

  limbs_vanish : (t u : Limbs (Term F)) (n : ℕ) → IsLimbsOf R s t n → IsLimbsOf R s u n → AllVanish R s (limbs_are t u)
  limbs_vanish t u n h k =
      let e = same_limbs h.limbs.low h.limbs.high k.limbs.low k.limbs.high h.small.0 k.small.0 (h.number ∙ sym k.number) in
      (equal_vanish _ _ _ h.values.0 (k.values.0 ∙ ap (image R) (sym e.0)), (equal_vanish _ _ _ h.values.1 (k.values.1 ∙ ap (image R) (sym e.1)), tt))

  -- two lists of bits with equal lengths and equal numbers are equal
  same_bits : (bs cs : List ℕ) → AreBits bs → AreBits cs → length bs ≡ length cs → number_of bs ≡ number_of cs → bs ≡ cs
  same_bits [] [] hb hc e n = refl
  same_bits [] (c ∷ cs) hb hc e n = absurd (omega arith)
  same_bits (b ∷ bs) [] hb hc e n = absurd (omega arith)
  same_bits (b ∷ bs) (c ∷ cs) hb hc e n =
      let low : b ≡ c = omega (arith, hb.0, hc.0, n) in
      let high : number_of bs ≡ number_of cs = omega (arith, hb.0, hc.0, n) in
      ap₂ (λ x xs. x ∷ xs) low (same_bits bs cs hb.1 hc.1 (omega arith) high)

  ring_vanish : (ts us vs : List (Term F)) → map (value (self_algebra R) s) vs ≡ ring_xors R (map (value (self_algebra R) s) ts) (map (value (self_algebra R) s) us) → AllVanish R s (xors_are ts us vs)
  ring_vanish [] us vs e = tt
  ring_vanish (t ∷ ts) [] vs e = tt
  ring_vanish (t ∷ ts) (u ∷ us) [] e = tt
  ring_vanish (t ∷ ts) (u ∷ us) (v ∷ vs) e = (equal_vanish _ _ _ (heads e) refl, ring_vanish ts us vs (tails e))
    where
      head_or : F → List F → F
      head_or d [] = d
      head_or d (x ∷ xs) = x

      tail_of : List F → List F
      tail_of [] = []
      tail_of (x ∷ xs) = xs

      heads : {x y : F} {xs ys : List F} → x ∷ xs ≡ y ∷ ys → x ≡ y
      heads {x = x} e = ap (head_or x) e

      tails : {x y : F} {xs ys : List F} → x ∷ xs ≡ y ∷ ys → xs ≡ ys
      tails e = ap tail_of e

  xors_vanish : (ts us vs : List (Term F)) (x y : ℕ) → IsBitsOf R s ts x → IsBitsOf R s us y → IsBitsOf R s vs (bit_xor x y) → AllVanish R s (xors_are ts us vs)
  xors_vanish ts us vs x y h k new =
      let even : length h.bits ≡ length k.bits = h.count ∙ sym k.count in
      let number : number_of new.bits ≡ number_of (xor_bits h.bits k.bits) =
      new.number ∙ sym (number_of-xor h.bits k.bits h.are k.are even ∙ ap₂ bit_xor h.number k.number) in
      let is : new.bits ≡ xor_bits h.bits k.bits = same_bits new.bits (xor_bits h.bits k.bits) new.are (bits-xor h.bits k.bits) (new.count ∙ sym (length-xor h.bits k.bits even ∙ h.count)) number in
      ring_vanish ts us vs (new.values ∙ ap (map (image R)) is ∙ sym (ap₂ (ring_xors R) h.values k.values ∙ xors-images R h.bits k.bits h.are k.are))

  module _ (p : ℕ) (has : HasCharacteristic R p) (domain : IsDomain R) (big : 3 * 2 ^ 16 < p) where
    flat_vanishes : (w : Limbs (Term F)) (ts us : List (Term F)) (n m : ℕ) → IsBitsOf R s ts n → IsLimbsOf R s w m → IsBitsOf R s us (bit_xor n m)
        → AllVanish R s (xor_asserts R w ts us 0)
    flat_vanishes w ts us n m h k new =
        let flat = unturned new.bits new.count in
        let bits = xor_bits h.bits (rotated_left 0 new.bits) in
        let even : length h.bits ≡ length (rotated_left 0 new.bits) = h.count ∙ sym (ap length flat ∙ new.count) in
        let are : AreBits bits = bits-xor h.bits (rotated_left 0 new.bits) in
        let long : length bits ≡ 32 = length-xor h.bits (rotated_left 0 new.bits) even ∙ h.count in
        let is : number_of bits ≡ m =
        ap (λ cs. number_of (xor_bits h.bits cs)) flat ∙ number_of-xor h.bits new.bits h.are new.are (h.count ∙ sym new.count) ∙ ap₂ bit_xor h.number new.number ∙ xor_back n m in
        let e = same_limbs k.limbs.low k.limbs.high (number_of (take 16 bits)) (number_of (drop 16 bits)) k.small.0 (low_half-lt bits are long) (k.number ∙ sym is ∙ number_of-halves bits long) in
        (xor_is_exact R w ts us 0 s h.bits domain h.are h.values).1 (record {
          c = new.bits;
          bits = new.are;
          values = new.values;
          low = k.values.0 ∙ ap (image R) e.0;
          high = k.values.1 ∙ ap (image R) e.1;
        })

    first_vanishes : (q : QuarterTerms F) (low : List (Term F)) (a b n d : ℕ) → n < 2 ^ 32
        → IsQuarterOf R s q (record { a = a; b = b; c = n; d = d }) → IsBitsOf R s low a → AllVanish R s (first_asserts R (λ z. z) q low n)
    unfolding first_asserts
    first_vanishes q low a b n d fits h k =
        let p0 = same (test_asserts R low) in
        let p1 = same (limbs_are q.a (packed_limbs R low)) in
        let p2 = same (test_asserts R q.b) in
        let p3 = same (limbs_are q.c (constant_limbs R n)) in
        let p4 = same (test_asserts R q.d) in
        let v0 = vanish-same-too (test_asserts R low) (bits_vanish low a k) in
        let v1 = vanish-same-too (limbs_are q.a (packed_limbs R low)) (limbs_vanish q.a (packed_limbs R low) a h.a (packed_is R s low a k)) in
        let v2 = vanish-same-too (test_asserts R q.b) (bits_vanish q.b b h.b) in
        let v3 = vanish-same-too (limbs_are q.c (constant_limbs R n)) (limbs_vanish q.c (constant_limbs R n) n h.c (constants_hold R s n fits)) in
        let v4 = vanish-same-too (test_asserts R q.d) (bits_vanish q.d d h.d) in
        vanish-both R s p0 (p1 ++ (p2 ++ (p3 ++ p4))) v0 (vanish-both R s p1 (p2 ++ (p3 ++ p4)) v1 (vanish-both R s p2 (p3 ++ p4) v2 (vanish-both R s p3 p4 v3 v4)))

    output_vanishes : (q : QuarterTerms F) (bits low high : List (Term F)) (out : BitTerms F) (v : Quarter) (x y : ℕ)
        → IsQuarterOf R s q v → IsBitsOf R s bits v.c → IsBitsOf R s low x → IsBitsOf R s high y → IsOutputOf R s out (output_column v x y)
        → AllVanish R s (output_asserts R (λ z. z) q bits low high out)
    unfolding output_asserts
    output_vanishes q bits low high out v x y h k l m new =
        let p0 = same (test_asserts R bits) in
        let p1 = same (limbs_are q.c (packed_limbs R bits)) in
        let p2 = same (xor_asserts R q.a bits out.a 0) in
        let p3 = same (xors_are q.b q.d out.b) in
        let p4 = same (xors_are bits low out.c) in
        let p5 = same (xors_are q.d high out.d) in
        let v0 = vanish-same-too (test_asserts R bits) (bits_vanish bits v.c k) in
        let v1 = vanish-same-too (limbs_are q.c (packed_limbs R bits)) (limbs_vanish q.c (packed_limbs R bits) v.c h.c (packed_is R s bits v.c k)) in
        let v2 = vanish-same-too (xor_asserts R q.a bits out.a 0) (flat_vanishes q.a bits out.a v.c v.a k h.a new.a) in
        let v3 = vanish-same-too (xors_are q.b q.d out.b) (xors_vanish q.b q.d out.b v.b v.d h.b h.d new.b) in
        let v4 = vanish-same-too (xors_are bits low out.c) (xors_vanish bits low out.c v.c x k l new.c) in
        let v5 = vanish-same-too (xors_are q.d high out.d) (xors_vanish q.d high out.d v.d y h.d m new.d) in
        vanish-both R s (p0 ++ p1) (p2 ++ (p3 ++ (p4 ++ p5))) (vanish-both R s p0 p1 v0 v1)
        (vanish-both R s p2 (p3 ++ (p4 ++ p5)) v2 (vanish-both R s p3 (p4 ++ p5) v3 (vanish-both R s p4 p5 v4 v5)))

    columns_vanish : (v : StateTerms F) (m : List ℕ) (u w : StateTerms F) (x : State) (n : ℕ → ℕ)
        → IsStateOf R s v x → ((i : ℕ) → i < 8 → IsBitsOf R s (bits_at (slice_index m i)) (n i)) → IsStateOf R s u (columns_half x n) → IsStateOf R s w (columns_mixed x n)
        → AllVanish R s (columns_asserts R (λ z. z) v m u w)
    unfolding columns_asserts
    columns_vanish v m u w x n h words half new =
        let at = λ (i : ℕ). bits_at {F = F} (slice_index m i) in
        let g0 = mix_asserts R (λ z. z) v.q0 (at 0) (at 1) u.q0 w.q0 in
        let g1 = mix_asserts R (λ z. z) v.q1 (at 2) (at 3) u.q1 w.q1 in
        let g2 = mix_asserts R (λ z. z) v.q2 (at 4) (at 5) u.q2 w.q2 in
        let g3 = mix_asserts R (λ z. z) v.q3 (at 6) (at 7) u.q3 w.q3 in
        let v0 = mix_is_complete R p has v.q0 (at 0) (at 1) u.q0 w.q0 s x.q0 (n 0) (n 1) domain big h.q0 (words 0 (omega arith)) (words 1 (omega arith)) half.q0 new.q0 in
        let v1 = mix_is_complete R p has v.q1 (at 2) (at 3) u.q1 w.q1 s x.q1 (n 2) (n 3) domain big h.q1 (words 2 (omega arith)) (words 3 (omega arith)) half.q1 new.q1 in
        let v2 = mix_is_complete R p has v.q2 (at 4) (at 5) u.q2 w.q2 s x.q2 (n 4) (n 5) domain big h.q2 (words 4 (omega arith)) (words 5 (omega arith)) half.q2 new.q2 in
        let v3 = mix_is_complete R p has v.q3 (at 6) (at 7) u.q3 w.q3 s x.q3 (n 6) (n 7) domain big h.q3 (words 6 (omega arith)) (words 7 (omega arith)) half.q3 new.q3 in
        vanish-both R s g0 (g1 ++ (g2 ++ g3)) v0 (vanish-both R s g1 (g2 ++ g3) v1 (vanish-both R s g2 g3 v2 v3))

module _ {F : Type 0} (R : CommRing F) (s : Leaf → F) (p : ℕ) (has : HasCharacteristic R p) (domain : IsDomain R) (big : 3 * 2 ^ 16 < p) (b : Block) (h : HoldsRow R s b) where
  state_held : (r : ℕ) → r ≤ 7 → IsStateOf R s (state_of (before_round r)) (after_rounds (first_state b) b.message r)
  unfolding after_rounds round
  state_held zero le = h.first
  state_held (suc r) le =
      let next : round_column r + 1088 ≡ round_column (suc r) = omega arith in
      let last = columns_mixed (diagonals (columns_mixed (after_rounds (first_state b) b.message r) (λ i. b.message (place_in r i)))) (λ i. b.message (place_in r (8 + i))) in
      from_diagonals_are R s (state_from (round_column (suc r))) last
      (subst (λ c. IsStateOf R s (state_of (state_from c)) last) next (h.rounds r (omega arith)).diagonals_after)

  round_vanishes : (r : ℕ) → r < 7 → AllVanish R s (round_at R (λ z. z) r)
  unfolding round_at
  round_vanishes r l =
      let first = round_column r in
      let x = after_rounds (first_state b) b.message r in
      let m = λ (i : ℕ). b.message (place_in r i) in
      let taken = taken_words R s b.message h.input.message r in
      let held : HoldsStates R s b r m = h.rounds r l in
      let u = state_from (first + 272) in
      let w = state_from (first + 544) in
      let y = state_from (first + 816) in
      let z = state_from (first + 1088) in
      let one = columns_asserts R (λ z. z) (state_of (before_round r)) (eight_columns r 0) (state_of u) (state_of w) in
      let two = columns_asserts R (λ z. z) (state_of (diagonals w)) (eight_columns r 8) (state_of y) (state_of z) in
      vanish-both R s one two
      (columns_vanish R s p has domain big (state_of (before_round r)) (eight_columns r 0) (state_of u) (state_of w) x m
      (state_held r (omega arith)) taken.0 held.columns_middle held.columns)
      (columns_vanish R s p has domain big (state_of (diagonals w)) (eight_columns r 8) (state_of y) (state_of z) (diagonals (columns_mixed x m)) (λ i. m (8 + i))
      (diagonals_are R s w (columns_mixed x m) held.columns) taken.1 held.diagonals_middle held.diagonals_after)

  message_vanishes : (i : ℕ) → i < 16 → AllVanish R s (message_at R (λ z. z) i)
  unfolding message_at
  message_vanishes i l = vanish-same-too R s (test_asserts R (bits_at (message_column i))) (bits_vanish R s (bits_at (message_column i)) (b.message i) (h.input.message i l))

  first_row_vanishes : AllVanish R s (first_at R (λ z. z))
  unfolding first_at
  first_row_vanishes =
      let v : StateTerms F = state_of (before_round 0) in
      let p0 = first_asserts R (λ z. z) v.q0 (bits_at (chaining_column 0)) 0x6A09E667 in
      let p1 = first_asserts R (λ z. z) v.q1 (bits_at (chaining_column 1)) 0xBB67AE85 in
      let p2 = first_asserts R (λ z. z) v.q2 (bits_at (chaining_column 2)) 0x3C6EF372 in
      let p3 = first_asserts R (λ z. z) v.q3 (bits_at (chaining_column 3)) 0xA54FF53A in
      let v0 = first_vanishes R s p has domain big v.q0 (bits_at (chaining_column 0)) (b.chaining 0) (b.chaining 4) 0x6A09E667 b.counter_low (omega arith) h.first.q0 (h.input.chaining_low 0 (omega arith)) in
      let v1 = first_vanishes R s p has domain big v.q1 (bits_at (chaining_column 1)) (b.chaining 1) (b.chaining 5) 0xBB67AE85 b.counter_high (omega arith) h.first.q1 (h.input.chaining_low 1 (omega arith)) in
      let v2 = first_vanishes R s p has domain big v.q2 (bits_at (chaining_column 2)) (b.chaining 2) (b.chaining 6) 0x3C6EF372 b.length (omega arith) h.first.q2 (h.input.chaining_low 2 (omega arith)) in
      let v3 = first_vanishes R s p has domain big v.q3 (bits_at (chaining_column 3)) (b.chaining 3) (b.chaining 7) 0xA54FF53A b.flags (omega arith) h.first.q3 (h.input.chaining_low 3 (omega arith)) in
      vanish-both R s p0 (p1 ++ (p2 ++ p3)) v0 (vanish-both R s p1 (p2 ++ p3) v1 (vanish-both R s p2 p3 v2 v3))

  output_row_vanishes : AllVanish R s (output_at R (λ z. z))
  unfolding output_at
  output_row_vanishes =
      let v : StateTerms F = state_of (before_round 0) in
      let w : StateTerms F = state_of (before_round 7) in
      let x = after_rounds (first_state b) b.message 7 in
      let held = state_held 7 (omega arith) in
      let p0 = output_asserts R (λ z. z) w.q0 (bits_at (last_column 0)) (bits_at (chaining_column 0)) v.q0.b (bits_of (output_columns 0)) in
      let p1 = output_asserts R (λ z. z) w.q1 (bits_at (last_column 1)) (bits_at (chaining_column 1)) v.q1.b (bits_of (output_columns 1)) in
      let p2 = output_asserts R (λ z. z) w.q2 (bits_at (last_column 2)) (bits_at (chaining_column 2)) v.q2.b (bits_of (output_columns 2)) in
      let p3 = output_asserts R (λ z. z) w.q3 (bits_at (last_column 3)) (bits_at (chaining_column 3)) v.q3.b (bits_of (output_columns 3)) in
      let v0 = output_vanishes R s p has domain big w.q0 (bits_at (last_column 0)) (bits_at (chaining_column 0)) v.q0.b (bits_of (output_columns 0)) x.q0 (b.chaining 0) (b.chaining 4) held.q0 h.last_0 (h.input.chaining_low 0 (omega arith)) h.input.chaining_4 h.output.q0 in
      let v1 = output_vanishes R s p has domain big w.q1 (bits_at (last_column 1)) (bits_at (chaining_column 1)) v.q1.b (bits_of (output_columns 1)) x.q1 (b.chaining 1) (b.chaining 5) held.q1 h.last_1 (h.input.chaining_low 1 (omega arith)) h.input.chaining_5 h.output.q1 in
      let v2 = output_vanishes R s p has domain big w.q2 (bits_at (last_column 2)) (bits_at (chaining_column 2)) v.q2.b (bits_of (output_columns 2)) x.q2 (b.chaining 2) (b.chaining 6) held.q2 h.last_2 (h.input.chaining_low 2 (omega arith)) h.input.chaining_6 h.output.q2 in
      let v3 = output_vanishes R s p has domain big w.q3 (bits_at (last_column 3)) (bits_at (chaining_column 3)) v.q3.b (bits_of (output_columns 3)) x.q3 (b.chaining 3) (b.chaining 7) held.q3 h.last_3 (h.input.chaining_low 3 (omega arith)) h.input.chaining_7 h.output.q3 in
      vanish-both R s p0 (p1 ++ (p2 ++ p3)) v0 (vanish-both R s p1 (p2 ++ p3) v1 (vanish-both R s p2 p3 v2 v3))

  row_vanishes : AllVanish R s (compression R)
  row_vanishes =
      let messages : List (Assertion F) = asserts_of_first (message_at R (λ z. z)) 16 in
      let rounds : List (Assertion F) = asserts_of_first (round_at R (λ z. z)) 7 in
      vanish-both R s messages (first_at R (λ z. z) ++ (rounds ++ output_at R (λ z. z))) (vanish-each R s (message_at R (λ z. z)) 16 message_vanishes)
      (vanish-both R s (first_at R (λ z. z)) (rounds ++ output_at R (λ z. z)) first_row_vanishes
      (vanish-both R s rounds (output_at R (λ z. z)) (vanish-each R s (round_at R (λ z. z)) 7 round_vanishes) output_row_vanishes))

-- A row that holds a block, its states and its compression satisfies all constraints.
pub compression_is_complete : {F : Type 0} (R : CommRing F) (p : ℕ) → HasCharacteristic R p → CompressionIsComplete R p
compression_is_complete R p has s b domain big h = row_vanishes R s p has domain big b h
