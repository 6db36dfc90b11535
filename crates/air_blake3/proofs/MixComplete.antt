-- If words are mixed correctly, the terms of G are zero.
use Rattle.std.specs.Prelude.{◌≡◌, ℕ, ◌+◌, ◌-◌, ◌*◌, ◌/◌, ◌%◌, ◌^◌, ◌<◌, List, [], ◌∷◌, ◌++◌, length, take, drop, bit_xor}
use Rattle.std.specs.Int.{w32, rotate_right}
use Rattle.std.specs.Int.Bits.{xor_lt}
use Rattle.std.proofs.Common.{sym, ◌∙◌, ap, ap₂, subst, arith, length-take, length-drop}
use Rattle.std.proofs.lemmas.Nat.{pow_pos, same_from_place, shr_split, shr_below, mod_below}
use Rattle.std.proofs.lemmas.List.{take-append-drop}
use Rattle.air_field.specs.Ring.{CommRing, image}
use Rattle.air_field.specs.laws.Images.{HasCharacteristic}
use Rattle.air_field.specs.Term.{Leaf, Term}
use Rattle.air_gadgets.specs.Bits.{AreBits}
use Rattle.air_builder.specs.Assertion.{Assertion, Base, Extension}
use Rattle.air_gadgets.specs.Words.{Limbs, word, word_sum, word_sum_3, number_of, xor_bits, rotated_left}
use Rattle.air_gadgets.specs.Gadgets.{add2_asserts, add3_asserts, xor_asserts}
use Rattle.air_builder.specs.Vanishing.{AllVanish}
use Rattle.air_field.specs.Domain.{IsDomain}
use Rattle.air_gadgets.specs.laws.ExactSums.{add2_is_exact, add3_is_exact}
use Rattle.air_gadgets.specs.laws.ExactXors.{xor_is_exact}
use Rattle.blake3.specs.Compression.{half_mix, mix}
use Rattle.blake3.specs.declared.words.Quarter.{Quarter}
use Rattle.air_blake3.specs.Words.{QuarterTerms, packed_limbs, map_terms}
use Rattle.air_blake3.specs.Mixing.{half_mix_asserts, mix_asserts}
use Rattle.air_blake3.specs.Holding.{IsLimbsOf, IsBitsOf, IsQuarterOf, MixIsComplete}
use Rattle.air_blake3.proofs.WordNumbers.{xor_back, bits-take, bits-xor, bits-rotated, length-xor, length-rotated, number_of-lt, number_of-append, number_of-xor, number_of-halves, low_half-lt, rotated_back}
use Rattle.air_blake3.proofs.MixSound.{packed_is, under-same}

-- a rotated number, from its low s bits and the others
rotated_parts : (s : ℕ) → 0 < s → s < 32 → (y : ℕ) → y < 2 ^ 32 → rotate_right w32 y s ≡ y / 2 ^ s + 2 ^ (32 - s) * (y % 2 ^ s)
rotated_parts s some within y fits =
    let parts : 32 ≡ 32 - s + s = omega arith in
    let low : y / 2 ^ s < 2 ^ (32 - s) = shr_below y (32 - s) s (subst (λ k. y < 2 ^ k) parts fits) in
    let high : y % 2 ^ s < 2 ^ s = mod_below y (2 ^ s) (pow_pos s) in
    let whole : y % 2 ^ s + 2 ^ s * (y / 2 ^ s) ≡ y = omega (arith, shr_split y s) in
    ap (λ z. rotate_right w32 z s) (sym whole) ∙ rotated_back s within some (y / 2 ^ s) (y % 2 ^ s) low high

-- bits of y rotated to the right: rotating them to the left gives y
turned_back : (s : ℕ) → 0 < s → s < 32 → (y : ℕ) → y < 2 ^ 32 → (bs : List ℕ) → AreBits bs → length bs ≡ 32
    → number_of bs ≡ rotate_right w32 y s → number_of (rotated_left s bs) ≡ y
turned_back s some within y fits bs are count is =
    let low : List ℕ = take (32 - s) bs in
    let high : List ℕ = drop (32 - s) bs in
    let m : length low ≡ 32 - s = simp length-take (omega arith) in
    let n : length high ≡ s = simp length-drop (omega arith) in
    let fits_low : number_of low < 2 ^ (32 - s) = subst (λ k. number_of low < 2 ^ k) m (number_of-lt low (bits-take (32 - s) bs are)) in
    let parts : 32 ≡ 32 - s + s = omega arith in
    let fits_down : y / 2 ^ s < 2 ^ (32 - s) = shr_below y (32 - s) s (subst (λ k. y < 2 ^ k) parts fits) in
    let own : number_of bs ≡ number_of low + 2 ^ (32 - s) * number_of high =
    ap number_of (sym (take-append-drop (32 - s) bs)) ∙ number_of-append low high ∙ ap (λ k. number_of low + 2 ^ k * number_of high) m in
    let both : number_of low + 2 ^ (32 - s) * number_of high ≡ y / 2 ^ s + 2 ^ (32 - s) * (y % 2 ^ s) =
    sym own ∙ is ∙ rotated_parts s some within y fits in
    let placed : number_of high * 2 ^ (32 - s) + number_of low ≡ (y % 2 ^ s) * 2 ^ (32 - s) + y / 2 ^ s = omega (arith, both) in
    let same = same_from_place (number_of high) (number_of low) (y % 2 ^ s) (y / 2 ^ s) (2 ^ (32 - s)) fits_low fits_down placed in
    number_of-append high low
    ∙ ap (λ k. number_of high + 2 ^ k * number_of low) n
    ∙ (λ i. same.0 i + 2 ^ s * same.1 i)
    ∙ omega (arith, shr_split y s)

-- one word has one pair of limbs
pub same_limbs : (a b c d : ℕ) → a < 2 ^ 16 → c < 2 ^ 16 → a + 2 ^ 16 * b ≡ c + 2 ^ 16 * d → (a ≡ c) × (b ≡ d)
same_limbs a b c d ha hc e = (omega (arith, e), omega (arith, e))

module _ {F : Type 0} (R : CommRing F) (s : Leaf → F) where
  pub vanish-both : (ts us : List (Assertion F)) → AllVanish R s ts → AllVanish R s us → AllVanish R s (ts ++ us)
  vanish-both [] us h k = k
  vanish-both (Base t ∷ ts) us h k = (h.0, vanish-both ts us h.1 k)
  vanish-both (Extension t ∷ ts) us h k = (h.0, vanish-both ts us h.1 k)

  -- a word held by limbs is below 2^32
  limbs-lt : (t : Limbs (Term F)) (n : ℕ) → IsLimbsOf R s t n → n < 2 ^ 32
  limbs-lt t n h = subst (λ x. x < 2 ^ 32) h.number (omega (arith, h.small.0, h.small.1))

  bits-lt : (ts : List (Term F)) (n : ℕ) → IsBitsOf R s ts n → n < 2 ^ 32
  bits-lt ts n h = subst (λ x. x < 2 ^ 32) h.number (subst (λ k. number_of h.bits < 2 ^ k) h.count (number_of-lt h.bits h.are))

  -- if the limbs hold a word, and the new bits hold the rotated xor of both words, the terms of the xor are zero
  pub xor_vanishes : IsDomain R → (w : Limbs (Term F)) (ts us : List (Term F)) (n x j : ℕ) → 0 < j → j < 32
      → IsBitsOf R s ts n → IsLimbsOf R s w x → IsBitsOf R s us (rotate_right w32 (bit_xor n x) j)
      → AllVanish R s (xor_asserts R w ts us j)
  xor_vanishes domain w ts us n x j some within h k new =
      let turned = rotated_left j new.bits in
      let xor_fits : bit_xor n x < 2 ^ 32 = xor_lt 32 n x (bits-lt ts n h) (limbs-lt w x k) in
      let turned_is : number_of turned ≡ bit_xor n x = turned_back j some within (bit_xor n x) xor_fits new.bits new.are new.count new.number in
      let bits = xor_bits h.bits turned in
      let are : AreBits bits = bits-xor h.bits turned in
      let even : length h.bits ≡ length turned = h.count ∙ sym (length-rotated j new.bits new.count) in
      let long : length bits ≡ 32 = length-xor h.bits turned even ∙ h.count in
      let is : number_of bits ≡ x =
      number_of-xor h.bits turned h.are (bits-rotated j new.bits new.are) even ∙ ap₂ bit_xor h.number turned_is ∙ xor_back n x in
      let same = same_limbs k.limbs.low k.limbs.high (number_of (take 16 bits)) (number_of (drop 16 bits)) k.small.0 (low_half-lt bits are long)
      (k.number ∙ sym is ∙ number_of-halves bits long) in
      (xor_is_exact R w ts us j s h.bits domain h.are h.values).1 (record {
        c = new.bits;
        bits = new.are;
        values = new.values;
        low = k.values.0 ∙ ap (image R) same.0;
        high = k.values.1 ∙ ap (image R) same.1;
      })

  module _ (p : ℕ) (has : HasCharacteristic R p) (domain : IsDomain R) (big : 3 * 2 ^ 16 < p) where
    pub half_mix_vanishes : (j k : ℕ) (t : QuarterTerms F) (m : List (Term F)) (u : QuarterTerms F) (q : Quarter) (x : ℕ)
        → 0 < j → j < 32 → 0 < k → k < 32
        → IsQuarterOf R s t q → IsBitsOf R s m x → IsQuarterOf R s u (half_mix j k q x)
        → AllVanish R s (half_mix_asserts R j k t m u)
    half_mix_vanishes j k t m u q x j_some j_within k_some k_within h message new =
        let b = packed_is R s t.b q.b h.b in
        let w = packed_is R s m x message in
        let d = packed_is R s u.d (half_mix j k q x).d new.d in
        let sum_a = add3_asserts R u.a t.a (packed_limbs R t.b) (packed_limbs R m) in
        let turned_d = xor_asserts R u.a t.d u.d j in
        let sum_c = add2_asserts R u.c t.c (packed_limbs R u.d) in
        let turned_b = xor_asserts R u.c t.b u.b k in
        let is_a : word new.a.limbs ≡ word_sum_3 (word h.a.limbs) (word b.limbs) (word w.limbs) =
        new.a.number ∙ sym (λ i. word_sum_3 (h.a.number i) (b.number i) (w.number i)) in
        let is_c : word new.c.limbs ≡ word_sum (word h.c.limbs) (word d.limbs) = new.c.number ∙ sym (ap₂ word_sum h.c.number d.number) in
        let v0 : AllVanish R s sum_a = (add3_is_exact R p has u.a t.a (packed_limbs R t.b) (packed_limbs R m) s new.a.limbs h.a.limbs b.limbs w.limbs domain big new.a.small h.a.small b.small w.small new.a.values h.a.values b.values w.values).1 is_a in
        let v1 : AllVanish R s turned_d = xor_vanishes domain u.a t.d u.d q.d (half_mix j k q x).a j j_some j_within h.d new.a new.d in
        let v2 : AllVanish R s sum_c = (add2_is_exact R p has u.c t.c (packed_limbs R u.d) s new.c.limbs h.c.limbs d.limbs domain (omega arith) new.c.small h.c.small d.small new.c.values h.c.values d.values).1 is_c in
        let v3 : AllVanish R s turned_b = xor_vanishes domain u.c t.b u.b q.b (half_mix j k q x).c k k_some k_within h.b new.c new.b in
        vanish-both sum_a (turned_d ++ (sum_c ++ turned_b)) v0 (vanish-both turned_d (sum_c ++ turned_b) v1 (vanish-both sum_c turned_b v2 v3))

-- If the columns hold four words, half of G on them, and G on them, all terms of G are zero.
pub mix_is_complete : {F : Type 0} (R : CommRing F) (p : ℕ) → HasCharacteristic R p → MixIsComplete R p
unfolding mix mix_asserts
mix_is_complete R p has t m n u v s q x y domain big h first second middle last =
    let g = half_mix_asserts R 16 12 t m u in
    let k = half_mix_asserts R 8 7 u n v in
    let vg = half_mix_vanishes R s p has domain big 16 12 t m u q x (omega arith) (omega arith) (omega arith) (omega arith) h first middle in
    let vk = half_mix_vanishes R s p has domain big 8 7 u n v (half_mix 16 12 q x) y (omega arith) (omega arith) (omega arith) (omega arith) middle second last in
    vanish-both R s (map_terms (λ z. z) g) (map_terms (λ z. z) k) (subst (AllVanish R s) (sym (under-same g)) vg) (subst (AllVanish R s) (sym (under-same k)) vk)
