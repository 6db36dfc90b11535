-- The consequences of a row whose terms are all zero.
use Rattle.std.specs.Prelude.{◌≡◌, ℕ, zero, suc, refl, ◌+◌, ◌*◌, ◌/◌, ◌%◌, ◌^◌, ◌<◌, ◌≤◌, List, [], ◌∷◌, ◌++◌, length, map, take, drop, bit_xor, slice_index, ◌⊎◌}
use Rattle.std.proofs.Common.{sym, ◌∙◌, ap, ap₂, subst, inl, inr, arith}
use Rattle.std.proofs.lemmas.Bool.{cases_lt}
use Rattle.std.proofs.lemmas.List.{length-map}
use Rattle.air_field.specs.Ring.{CommRing, image, self_algebra}
use Rattle.air_field.specs.laws.Images.{HasCharacteristic, same_of_image}
use Rattle.air_field.specs.Term.{Leaf, Term}
use Rattle.air_field.specs.Value.{value}
use Rattle.air_gadgets.specs.Bits.{AreBits}
use Rattle.air_builder.specs.Assertion.{Assertion}
use Rattle.air_author.specs.Constraints.{asserts_of_first}
use Rattle.air_gadgets.specs.Words.{Limbs, number_of, xor_bits, rotated_left}
use Rattle.air_builder.specs.Vanishing.{AllVanish}
use Rattle.air_gadgets.specs.Exact.{IsXorOf}
use Rattle.air_field.specs.Domain.{IsDomain}
use Rattle.air_gadgets.specs.Gadgets.{test_asserts, xor_asserts}
use Rattle.air_gadgets.specs.laws.ExactXors.{xor_is_exact}
use Rattle.air_gadgets.specs.laws.Xors.{bits_of_checks, same_of_minus, AllChecked, ring_xors, xors-images}
use Rattle.blake3.specs.Compression.{Block, first_state, after_rounds, output_column}
use Rattle.blake3.specs.declared.words.Quarter.{Quarter}
use Rattle.blake3.specs.declared.words.State.{State}
use Rattle.air_blake3.specs.Words.{QuarterTerms, BitTerms, StateTerms, packed_limbs, bits_at, bits_of, state_of}
use Rattle.air_blake3.specs.Row.{limbs_are, constant_limbs, xors_are, first_asserts, output_asserts, message_column, chaining_column, last_column, output_columns, before_round, round_at, first_at, output_at, message_at}
use Rattle.air_blake3.specs.Holding.{IsLimbsOf, IsBitsOf, IsQuarterOf, IsStateOf, IsOutputOf, IsOutput, CompressionIsSound}
use Rattle.air_blake3.proofs.WordNumbers.{xor_back, bits-xor, length-xor, number_of-xor, number_of-halves, low_half-lt, high_half-lt}
use Rattle.air_blake3.proofs.MixSound.{vanish-append, under-same, vanish-same, same, packed_is}
use Rattle.air_blake3.proofs.RoundSound.{vanish-first, rounds_are}

drop_all : {A : Type 0} (n : ℕ) (xs : List A) → length xs ≤ n → drop n xs ≡ []
drop_all zero [] h = refl
drop_all zero (x ∷ xs) h = absurd (omega arith)
drop_all (suc n) [] h = refl
drop_all (suc n) (x ∷ xs) h = drop_all n xs (omega arith)

take_all : {A : Type 0} (n : ℕ) (xs : List A) → length xs ≤ n → take n xs ≡ xs
take_all zero [] h = refl
take_all zero (x ∷ xs) h = absurd (omega arith)
take_all (suc n) [] h = refl
take_all (suc n) (x ∷ xs) h = ap (λ ys. x ∷ ys) (take_all n xs (omega arith))

pub unturned : (bs : List ℕ) → length bs ≡ 32 → rotated_left 0 bs ≡ bs
unturned bs e = ap₂ (λ xs ys. xs ++ ys) (drop_all 32 bs (omega arith)) (take_all 32 bs (omega arith))

module _ {F : Type 0} (R : CommRing F) (s : Leaf → F) where
  checked : (ts : List (Term F)) → AllVanish R s (test_asserts R ts) → AllChecked R (map (value (self_algebra R) s) ts)
  checked [] h = tt
  checked (t ∷ ts) h = (h.0, checked ts h.1)

  -- columns that are bits hold a word
  bits_hold : IsDomain R → (ts : List (Term F)) → length ts ≡ 32 → AllVanish R s (test_asserts R ts) → (n : ℕ) × IsBitsOf R s ts n
  bits_hold domain ts whole vanish =
      let bits : (ns : List ℕ) × (AreBits ns) × (map (value (self_algebra R) s) ts ≡ map (image R) ns) = bits_of_checks R domain (map (value (self_algebra R) s) ts) (checked ts vanish) in (
        number_of bits.0,
        record {
          bits = bits.0;
          are = bits.1;
          count = sym (length-map bits.0 (image R)) ∙ ap length (sym bits.2) ∙ length-map ts (value (self_algebra R) s) ∙ whole;
          values = bits.2;
          number = refl;
        },
      )

  -- limbs that equal those of a word hold the word
  limbs_hold : (t u : Limbs (Term F)) (n : ℕ) → IsLimbsOf R s u n → AllVanish R s (limbs_are t u) → IsLimbsOf R s t n
  limbs_hold t u n h vanish = record {
    limbs = h.limbs;
    small = h.small;
    values = (same_of_minus R _ _ vanish.0 ∙ h.values.0, same_of_minus R _ _ vanish.1.0 ∙ h.values.1);
    number = h.number;
  }

  pub constants_hold : (n : ℕ) → n < 2 ^ 32 → IsLimbsOf R s (constant_limbs R n) n
  constants_hold n h = record {
    limbs = record { low = n % 2 ^ 16; high = n / 2 ^ 16 };
    small = (omega arith, omega arith);
    values = (refl, refl);
    number = omega arith;
  }

  ring_values : (ts us vs : List (Term F)) → length ts ≡ length us → length us ≡ length vs → AllVanish R s (xors_are ts us vs)
      → map (value (self_algebra R) s) vs ≡ ring_xors R (map (value (self_algebra R) s) ts) (map (value (self_algebra R) s) us)
  ring_values [] us [] m n vanish = refl
  ring_values [] us (v ∷ vs) m n vanish = absurd (omega (arith, m, n))
  ring_values (t ∷ ts) [] vs m n vanish = absurd (omega arith)
  ring_values (t ∷ ts) (u ∷ us) [] m n vanish = absurd (omega arith)
  ring_values (t ∷ ts) (u ∷ us) (v ∷ vs) m n vanish =
      ap₂ (λ x xs. x ∷ xs) (same_of_minus R _ _ vanish.0) (ring_values ts us vs (omega arith) (omega arith) vanish.1)

  xor_values : (ts us vs : List (Term F)) (bs cs : List ℕ) → AreBits bs → AreBits cs
      → length ts ≡ length us → length us ≡ length vs
      → map (value (self_algebra R) s) ts ≡ map (image R) bs → map (value (self_algebra R) s) us ≡ map (image R) cs
      → AllVanish R s (xors_are ts us vs) → map (value (self_algebra R) s) vs ≡ map (image R) (xor_bits bs cs)
  xor_values ts us vs bs cs hb hc m n eb ec vanish =
      ring_values ts us vs m n vanish ∙ ap₂ (ring_xors R) eb ec ∙ xors-images R bs cs hb hc

  -- the bits hold the xor of two words
  xors_hold : (ts us vs : List (Term F)) (x y : ℕ) → length ts ≡ 32 → length us ≡ 32 → length vs ≡ 32
      → IsBitsOf R s ts x → IsBitsOf R s us y → AllVanish R s (xors_are ts us vs) → IsBitsOf R s vs (bit_xor x y)
  xors_hold ts us vs x y lt lu lv h k vanish = record {
    bits = xor_bits h.bits k.bits;
    are = bits-xor h.bits k.bits;
    count = length-xor h.bits k.bits (h.count ∙ sym k.count) ∙ h.count;
    values = xor_values ts us vs h.bits k.bits h.are k.are (lt ∙ sym lu) (lu ∙ sym lv) h.values k.values vanish;
    number = number_of-xor h.bits k.bits h.are k.are (h.count ∙ sym k.count) ∙ ap₂ bit_xor h.number k.number;
  }

  module _ (p : ℕ) (has : HasCharacteristic R p) (domain : IsDomain R) (big : 3 * 2 ^ 16 < p) where
    -- limbs hold only one word
    same_word : (t : Limbs (Term F)) (m n : ℕ) → IsLimbsOf R s t m → IsLimbsOf R s t n → m ≡ n
    same_word t m n h k =
        let low : h.limbs.low ≡ k.limbs.low = same_of_image R p has h.limbs.low k.limbs.low (omega (arith, h.small.0)) (omega (arith, k.small.0)) (sym h.values.0 ∙ k.values.0) in
        let high : h.limbs.high ≡ k.limbs.high = same_of_image R p has h.limbs.high k.limbs.high (omega (arith, h.small.1)) (omega (arith, k.small.1)) (sym h.values.1 ∙ k.values.1) in
        sym h.number ∙ ap₂ (λ x y. x + 2 ^ 16 * y) low high ∙ k.number

    -- the limbs are the xor, not rotated, of a word's bits and the new bits
    flat_holds : (w : Limbs (Term F)) (ts us : List (Term F)) (n m : ℕ) → length us ≡ 32 → IsBitsOf R s ts n → IsLimbsOf R s w m
        → AllVanish R s (xor_asserts R w ts us 0) → IsBitsOf R s us (bit_xor n m)
    flat_holds w ts us n m whole h k vanish =
        let new : IsXorOf R s w us 0 h.bits = (xor_is_exact R w ts us 0 s h.bits domain h.are h.values).0 vanish in
        let count : length new.c ≡ 32 = sym (length-map new.c (image R)) ∙ ap length (sym new.values) ∙ length-map us (value (self_algebra R) s) ∙ whole in
        let bits = xor_bits h.bits (rotated_left 0 new.c) in
        let flat = unturned new.c count in
        let are : AreBits bits = bits-xor h.bits (rotated_left 0 new.c) in
        let long : length bits ≡ 32 = length-xor h.bits (rotated_left 0 new.c) (h.count ∙ sym (ap length flat ∙ count)) ∙ h.count in
        let held : IsLimbsOf R s w (number_of bits) = record {
          limbs = record { low = number_of (take 16 bits); high = number_of (drop 16 bits) };
          small = (low_half-lt bits are long, high_half-lt bits are long);
          values = (new.low, new.high);
          number = sym (number_of-halves bits long);
        } in
        let is : number_of bits ≡ m = same_word w (number_of bits) m held k in
        let xor : number_of bits ≡ bit_xor n (number_of new.c) =
        ap (λ cs. number_of (xor_bits h.bits cs)) flat ∙ number_of-xor h.bits new.c h.are new.bits (h.count ∙ sym count) ∙ ap (λ z. bit_xor z (number_of new.c)) h.number in
        record {
          bits = new.c;
          are = new.bits;
          count = count;
          values = new.values;
          number = sym (xor_back n (number_of new.c)) ∙ ap (bit_xor n) (sym xor ∙ is);
        }

    output_holds : (q : QuarterTerms F) (bits low high : List (Term F)) (out : BitTerms F) (v : Quarter) (x y : ℕ)
        → length q.b ≡ 32 → length q.d ≡ 32 → length bits ≡ 32 → length low ≡ 32 → length high ≡ 32
        → length out.a ≡ 32 → length out.b ≡ 32 → length out.c ≡ 32 → length out.d ≡ 32
        → IsQuarterOf R s q v → IsBitsOf R s low x → IsBitsOf R s high y
        → AllVanish R s (output_asserts R (λ z. z) q bits low high out) → IsOutputOf R s out (output_column v x y)
    unfolding output_asserts
    output_holds q bits low high out w4 x y wb wd w wl wh oa ob oc od h lows highs vanish =
        let p0 = test_asserts R bits in
        let p1 = limbs_are q.c (packed_limbs R bits) in
        let p2 = xor_asserts R q.a bits out.a 0 in
        let p3 = xors_are q.b q.d out.b in
        let p4 = xors_are bits low out.c in
        let p5 = xors_are q.d high out.d in
        let v = vanish-append R s (same p0 ++ same p1) (same p2 ++ (same p3 ++ (same p4 ++ same p5))) vanish in
        let v0 = vanish-same R s p0 (same p1) v.0 in
        let v1 = subst (AllVanish R s) (under-same p1) v0.1 in
        let v2 = vanish-same R s p2 (same p3 ++ (same p4 ++ same p5)) v.1 in
        let v3 = vanish-same R s p3 (same p4 ++ same p5) v2.1 in
        let v4 = vanish-same R s p4 (same p5) v3.1 in
        let v5 = subst (AllVanish R s) (under-same p5) v4.1 in
        let held = bits_hold domain bits w v0.0 in
        let is : held.0 ≡ w4.c = same_word q.c held.0 w4.c (limbs_hold q.c (packed_limbs R bits) held.0 (packed_is R s bits held.0 held.1) v1) h.c in
        let c : IsBitsOf R s bits w4.c = subst (IsBitsOf R s bits) is held.1 in
        record {
          a = flat_holds q.a bits out.a w4.c w4.a oa c h.a v2.0;
          b = xors_hold q.b q.d out.b w4.b w4.d wb wd ob h.b h.d v3.0;
          c = xors_hold bits low out.c w4.c x w wl oc c lows v4.0;
          d = xors_hold q.d high out.d w4.d y wd wh od h.d highs v5;
        }

    -- a column of the first state holds three words and the constant
    pub record FirstHolds (q : QuarterTerms F) (low : List (Term F)) (n : ℕ) : Type 0 where
      pub a : ℕ
      pub b : ℕ
      pub d : ℕ
      pub is : IsQuarterOf R s q (record { a = a; b = b; c = n; d = d })
      pub low_is : IsBitsOf R s low a

    first_holds : (q : QuarterTerms F) (low : List (Term F)) (n : ℕ) → n < 2 ^ 32 → length low ≡ 32 → length q.b ≡ 32 → length q.d ≡ 32
        → AllVanish R s (first_asserts R (λ z. z) q low n) → FirstHolds q low n
    unfolding first_asserts
    first_holds q low n within wl wb wd vanish =
        let p0 = test_asserts R low in
        let p1 = limbs_are q.a (packed_limbs R low) in
        let p2 = test_asserts R q.b in
        let p3 = limbs_are q.c (constant_limbs R n) in
        let p4 = test_asserts R q.d in
        let v0 = vanish-same R s p0 (same p1 ++ (same p2 ++ (same p3 ++ same p4))) vanish in
        let v1 = vanish-same R s p1 (same p2 ++ (same p3 ++ same p4)) v0.1 in
        let v2 = vanish-same R s p2 (same p3 ++ same p4) v1.1 in
        let v3 = vanish-same R s p3 (same p4) v2.1 in
        let v4 = subst (AllVanish R s) (under-same p4) v3.1 in
        let a = bits_hold domain low wl v0.0 in
        let b = bits_hold domain q.b wb v2.0 in
        let d = bits_hold domain q.d wd v4 in
        record {
          a = a.0;
          b = b.0;
          d = d.0;
          is = record {
            a = limbs_hold q.a (packed_limbs R low) a.0 (packed_is R s low a.0 a.1) v1.0;
            b = b.1;
            c = limbs_hold q.c (constant_limbs R n) n (constants_hold n within) v3.0;
            d = d.1;
          };
          low_is = a.1;
        }

message_holds : {F : Type 0} (R : CommRing F) (s : Leaf → F) → IsDomain R → (i : ℕ) → AllVanish R s (message_at R (λ z. z) i) → (n : ℕ) × IsBitsOf R s (bits_at (message_column i)) n
unfolding message_at bits_at
message_holds R s domain i vanish = bits_hold R s domain (bits_at (message_column i)) refl (subst (AllVanish R s) (under-same (test_asserts R (bits_at (message_column i)))) vanish)

-- a word for each index below a count
picked : (P : ℕ → ℕ → Type 0) (n : ℕ) → ((i : ℕ) → i < n → (x : ℕ) × P i x) → (i : ℕ) → (i < n) ⊎ (n ≤ i) → ℕ
picked P n h i (inl l) = (h i l).0
picked P n h i (inr l) = 0

picked_is : (P : ℕ → ℕ → Type 0) (n : ℕ) (h : (i : ℕ) → i < n → (x : ℕ) × P i x) (i : ℕ) (c : (i < n) ⊎ (n ≤ i)) → i < n → P i (picked P n h i c)
unfolding picked
picked_is P n h i (inl l) k = (h i l).1
picked_is P n h i (inr l) k = absurd (omega arith)

chosen : (P : ℕ → ℕ → Type 0) (n : ℕ) → ((i : ℕ) → i < n → (x : ℕ) × P i x) → (f : ℕ → ℕ) × ((i : ℕ) → i < n → P i (f i))
chosen P n h = (λ i. picked P n h i (cases_lt i n), λ i l. picked_is P n h i (cases_lt i n) l)

abbrev eight : (x0 x1 x2 x3 x4 x5 x6 x7 i : ℕ) → ℕ
eight x0 x1 x2 x3 x4 x5 x6 x7 i = slice_index (x0 ∷ x1 ∷ x2 ∷ x3 ∷ x4 ∷ x5 ∷ x6 ∷ x7 ∷ []) i

four_cases : (P : ℕ → Type 0) → P 0 → P 1 → P 2 → P 3 → (i : ℕ) → i < 4 → P i
four_cases P p0 p1 p2 p3 zero l = p0
four_cases P p0 p1 p2 p3 (suc zero) l = p1
four_cases P p0 p1 p2 p3 (suc (suc zero)) l = p2
four_cases P p0 p1 p2 p3 (suc (suc (suc zero))) l = p3
four_cases P p0 p1 p2 p3 (suc (suc (suc (suc i)))) l = absurd (omega arith)

module _ {F : Type 0} (R : CommRing F) (s : Leaf → F) (p : ℕ) (has : HasCharacteristic R p) (domain : IsDomain R) (big : 3 * 2 ^ 16 < p) where
  pub record FirstRowHolds : Type 0 where
    pub h0 : FirstHolds R s p has domain big (state_of (before_round 0)).q0 (bits_at (chaining_column 0)) 0x6A09E667
    pub h1 : FirstHolds R s p has domain big (state_of (before_round 0)).q1 (bits_at (chaining_column 1)) 0xBB67AE85
    pub h2 : FirstHolds R s p has domain big (state_of (before_round 0)).q2 (bits_at (chaining_column 2)) 0x3C6EF372
    pub h3 : FirstHolds R s p has domain big (state_of (before_round 0)).q3 (bits_at (chaining_column 3)) 0xA54FF53A

  first_row : AllVanish R s (first_at R (λ z. z)) → FirstRowHolds
  unfolding first_at bits_at
  first_row vanish =
      let v : StateTerms F = state_of (before_round 0) in
      let p0 = first_asserts R (λ z. z) v.q0 (bits_at (chaining_column 0)) 0x6A09E667 in
      let p1 = first_asserts R (λ z. z) v.q1 (bits_at (chaining_column 1)) 0xBB67AE85 in
      let p2 = first_asserts R (λ z. z) v.q2 (bits_at (chaining_column 2)) 0x3C6EF372 in
      let p3 = first_asserts R (λ z. z) v.q3 (bits_at (chaining_column 3)) 0xA54FF53A in
      let v0 = vanish-append R s p0 (p1 ++ (p2 ++ p3)) vanish in
      let v1 = vanish-append R s p1 (p2 ++ p3) v0.1 in
      let v2 = vanish-append R s p2 p3 v1.1 in
      record {
        h0 = first_holds R s p has domain big v.q0 (bits_at (chaining_column 0)) 0x6A09E667 (omega arith) refl refl refl v0.0;
        h1 = first_holds R s p has domain big v.q1 (bits_at (chaining_column 1)) 0xBB67AE85 (omega arith) refl refl refl v1.0;
        h2 = first_holds R s p has domain big v.q2 (bits_at (chaining_column 2)) 0x3C6EF372 (omega arith) refl refl refl v2.0;
        h3 = first_holds R s p has domain big v.q3 (bits_at (chaining_column 3)) 0xA54FF53A (omega arith) refl refl refl v2.1;
      }

  output_row : (v : State) (x0 x1 x2 x3 x4 x5 x6 x7 : ℕ) → IsStateOf R s (state_of (before_round 7)) v
      → IsBitsOf R s (bits_at (chaining_column 0)) x0 → IsBitsOf R s (bits_at (chaining_column 1)) x1 → IsBitsOf R s (bits_at (chaining_column 2)) x2 → IsBitsOf R s (bits_at (chaining_column 3)) x3
      → IsBitsOf R s (bits_at (before_round 0).q0.b) x4 → IsBitsOf R s (bits_at (before_round 0).q1.b) x5 → IsBitsOf R s (bits_at (before_round 0).q2.b) x6 → IsBitsOf R s (bits_at (before_round 0).q3.b) x7
      → AllVanish R s (output_at R (λ z. z))
      → IsOutput R s (record { q0 = output_column v.q0 x0 x4; q1 = output_column v.q1 x1 x5; q2 = output_column v.q2 x2 x6; q3 = output_column v.q3 x3 x7 })
  unfolding output_at bits_at
  output_row v x0 x1 x2 x3 x4 x5 x6 x7 h b0 b1 b2 b3 b4 b5 b6 b7 vanish =
      let t : StateTerms F = state_of (before_round 0) in
      let w : StateTerms F = state_of (before_round 7) in
      let p0 = output_asserts R (λ z. z) w.q0 (bits_at (last_column 0)) (bits_at (chaining_column 0)) t.q0.b (bits_of (output_columns 0)) in
      let p1 = output_asserts R (λ z. z) w.q1 (bits_at (last_column 1)) (bits_at (chaining_column 1)) t.q1.b (bits_of (output_columns 1)) in
      let p2 = output_asserts R (λ z. z) w.q2 (bits_at (last_column 2)) (bits_at (chaining_column 2)) t.q2.b (bits_of (output_columns 2)) in
      let p3 = output_asserts R (λ z. z) w.q3 (bits_at (last_column 3)) (bits_at (chaining_column 3)) t.q3.b (bits_of (output_columns 3)) in
      let v0 = vanish-append R s p0 (p1 ++ (p2 ++ p3)) vanish in
      let v1 = vanish-append R s p1 (p2 ++ p3) v0.1 in
      let v2 = vanish-append R s p2 p3 v1.1 in
      record {
        q0 = output_holds R s p has domain big w.q0 (bits_at (last_column 0)) (bits_at (chaining_column 0)) t.q0.b (bits_of (output_columns 0)) v.q0 x0 x4 refl refl refl refl refl refl refl refl refl h.q0 b0 b4 v0.0;
        q1 = output_holds R s p has domain big w.q1 (bits_at (last_column 1)) (bits_at (chaining_column 1)) t.q1.b (bits_of (output_columns 1)) v.q1 x1 x5 refl refl refl refl refl refl refl refl refl h.q1 b1 b5 v1.0;
        q2 = output_holds R s p has domain big w.q2 (bits_at (last_column 2)) (bits_at (chaining_column 2)) t.q2.b (bits_of (output_columns 2)) v.q2 x2 x6 refl refl refl refl refl refl refl refl refl h.q2 b2 b6 v2.0;
        q3 = output_holds R s p has domain big w.q3 (bits_at (last_column 3)) (bits_at (chaining_column 3)) t.q3.b (bits_of (output_columns 3)) v.q3 x3 x7 refl refl refl refl refl refl refl refl refl h.q3 b3 b7 v2.1;
      }

pub compression_is_sound : {F : Type 0} (R : CommRing F) (p : ℕ) → HasCharacteristic R p → CompressionIsSound R p
compression_is_sound {F} R p has s domain big vanish =
    let messages : List (Assertion F) = asserts_of_first (message_at R (λ z. z)) 16 in
    let rounds : List (Assertion F) = asserts_of_first (round_at R (λ z. z)) 7 in
    let v0 = vanish-append R s messages (first_at R (λ z. z) ++ (rounds ++ output_at R (λ z. z))) vanish in
    let v1 = vanish-append R s (first_at R (λ z. z)) (rounds ++ output_at R (λ z. z)) v0.1 in
    let v2 = vanish-append R s rounds (output_at R (λ z. z)) v1.1 in
    let words = chosen (λ i x. IsBitsOf R s (bits_at (message_column i)) x) 16 (λ i l. message_holds R s domain i (vanish-first R s (message_at R (λ z. z)) 16 v0.0 i l)) in
    let f : FirstRowHolds R s p has domain big = first_row R s p has domain big v1.0 in
    let chaining : ℕ → ℕ = eight f.h0.a f.h1.a f.h2.a f.h3.a f.h0.b f.h1.b f.h2.b f.h3.b in
    let block : Block = record {
      chaining = chaining;
      message = words.0;
      counter_low = f.h0.d;
      counter_high = f.h1.d;
      length = f.h2.d;
      flags = f.h3.d;
    } in
    let first : IsStateOf R s (state_of (before_round 0)) (first_state block) = record { q0 = f.h0.is; q1 = f.h1.is; q2 = f.h2.is; q3 = f.h3.is } in
    let last = rounds_are R s p has domain big (first_state block) words.0 first words.1 (vanish-first R s (round_at R (λ z. z)) 7 v2.0) 7 (omega arith) in (
      block,
      record {
        message = words.1;
        chaining_low = four_cases (λ i. IsBitsOf R s (bits_at (chaining_column i)) (chaining i)) f.h0.low_is f.h1.low_is f.h2.low_is f.h3.low_is;
        chaining_4 = f.h0.is.b;
        chaining_5 = f.h1.is.b;
        chaining_6 = f.h2.is.b;
        chaining_7 = f.h3.is.b;
        counter_low = f.h0.is.d;
        counter_high = f.h1.is.d;
        length = f.h2.is.d;
        flags = f.h3.is.d;
      },
      output_row R s p has domain big (after_rounds (first_state block) words.0 7) f.h0.a f.h1.a f.h2.a f.h3.a f.h0.b f.h1.b f.h2.b f.h3.b last
          f.h0.low_is f.h1.low_is f.h2.low_is f.h3.low_is f.h0.is.b f.h1.is.b f.h2.is.b f.h3.is.b v2.1,
    )
