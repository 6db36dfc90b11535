-- The consequences of terms of G that are all zero.
use Rattle.std.specs.Prelude.{◌≡◌, ℕ, refl, ◌*◌, ◌^◌, ◌<◌, List, [], ◌∷◌, ◌++◌, length, map, take, drop, bit_xor}
use Rattle.std.specs.Int.{w32, rotate_right}
use Rattle.std.proofs.lemmas.List.{take-map, drop-map, length-map}
use Rattle.std.proofs.Common.{sym, ◌∙◌, ap, ap₂, subst, arith}
use Rattle.air_field.specs.Ring.{CommRing, image, self_algebra}
use Rattle.air_field.specs.laws.Images.{HasCharacteristic}
use Rattle.air_field.specs.Term.{Leaf, Term}
use Rattle.air_field.specs.Value.{value}
use Rattle.air_gadgets.specs.Bits.{AreBits, binary_sum}
use Rattle.air_gadgets.specs.Packing.{packed_term}
use Rattle.air_builder.specs.Assertion.{Assertion, Base, Extension}
use Rattle.air_gadgets.specs.Words.{Limbs, word_sum, word_sum_3, number_of, xor_bits, rotated_left}
use Rattle.air_gadgets.specs.Gadgets.{add2_asserts, add3_asserts, xor_asserts}
use Rattle.air_builder.specs.Vanishing.{AllVanish}
use Rattle.air_gadgets.specs.Exact.{IsXorOf}
use Rattle.air_field.specs.Domain.{IsDomain}
use Rattle.air_gadgets.specs.laws.ExactSums.{add2_is_exact, add3_is_exact}
use Rattle.air_gadgets.specs.laws.ExactXors.{xor_is_exact}
use Rattle.air_gadgets.specs.laws.PackedBits.{value-packed_term}
use Rattle.air_gadgets.specs.laws.Xors.{packed-images}
use Rattle.blake3.specs.Compression.{half_mix, mix}
use Rattle.blake3.specs.declared.words.Quarter.{Quarter}
use Rattle.air_blake3.specs.Words.{QuarterTerms, packed_limbs, map_terms}
use Rattle.air_blake3.specs.Mixing.{half_mix_asserts, mix_asserts}
use Rattle.air_blake3.specs.Holding.{IsLimbsOf, IsBitsOf, IsQuarterOf, HasAllBits, MixIsSound}
use Rattle.air_blake3.proofs.WordNumbers.{bits-xor, length-xor, length-rotated, number_of-halves, low_half-lt, high_half-lt, rotated_xor}

module _ {F : Type 0} (R : CommRing F) (s : Leaf → F) where
  -- if two joined lists vanish, each of them vanishes
  pub vanish-append : (ts us : List (Assertion F)) → AllVanish R s (ts ++ us) → AllVanish R s ts × AllVanish R s us
  vanish-append [] us h = (tt, h)
  vanish-append (Base t ∷ ts) us h = let k = vanish-append ts us h.1 in ((h.0, k.0), k.1)
  vanish-append (Extension t ∷ ts) us h = let k = vanish-append ts us h.1 in ((h.0, k.0), k.1)

  -- the value of some packed bits of a word
  packed_value : (f : List (Term F) → List (Term F)) (g : List F → List F) (h : List ℕ → List ℕ)
      → ((ts : List (Term F)) → g (map (value (self_algebra R) s) ts) ≡ map (value (self_algebra R) s) (f ts))
      → ((ns : List ℕ) → g (map (image R) ns) ≡ map (image R) (h ns))
      → (ts : List (Term F)) (bs : List ℕ) → map (value (self_algebra R) s) ts ≡ map (image R) bs
      → value (self_algebra R) s (packed_term R.zero (f ts)) ≡ image R (number_of (h bs))
  packed_value f g h alike alike_too ts bs e =
      value-packed_term (self_algebra R) R.zero refl s (f ts)
      ∙ ap (binary_sum R) (sym (alike ts) ∙ ap g e ∙ alike_too bs)
      ∙ packed-images R (h bs)

  -- the packed bits of a word are its limbs
  pub packed_is : (ts : List (Term F)) (n : ℕ) → IsBitsOf R s ts n → IsLimbsOf R s (packed_limbs R ts) n
  packed_is ts n h = record {
    limbs = record { low = number_of (take 16 h.bits); high = number_of (drop 16 h.bits) };
    small = (low_half-lt h.bits h.are h.count, high_half-lt h.bits h.are h.count);
    values = (
      packed_value (take 16) (take 16) (take 16) (take-map (value (self_algebra R) s) 16) (take-map (image R) 16) ts h.bits h.values,
      packed_value (drop 16) (drop 16) (drop 16) (drop-map (value (self_algebra R) s) 16) (drop-map (image R) 16) ts h.bits h.values,
    );
    number = sym (number_of-halves h.bits h.count) ∙ h.number;
  }

  -- if the terms of a xor are zero, the limbs hold a word, and the new bits hold the rotated xor of both words
  pub xored : IsDomain R → (w : Limbs (Term F)) (ts us : List (Term F)) (n j : ℕ) → 0 < j → j < 32 → length us ≡ 32
      → IsBitsOf R s ts n → AllVanish R s (xor_asserts R w ts us j)
      → (x : ℕ) × (IsLimbsOf R s w x) × (IsBitsOf R s us (rotate_right w32 (bit_xor n x) j))
  xored domain w ts us n j some within whole h vanish =
      let new : IsXorOf R s w us j h.bits = (xor_is_exact R w ts us j s h.bits domain h.are h.values).0 vanish in
      let count : length new.c ≡ 32 = sym (length-map new.c (image R)) ∙ ap length (sym new.values) ∙ length-map us (value (self_algebra R) s) ∙ whole in
      let bits = xor_bits h.bits (rotated_left j new.c) in
      let are : AreBits bits = bits-xor h.bits (rotated_left j new.c) in
      let long : length bits ≡ 32 = length-xor h.bits (rotated_left j new.c) (h.count ∙ sym (length-rotated j new.c count)) ∙ h.count in (
        number_of bits,
        record {
          limbs = record { low = number_of (take 16 bits); high = number_of (drop 16 bits) };
          small = (low_half-lt bits are long, high_half-lt bits are long);
          values = (new.low, new.high);
          number = sym (number_of-halves bits long);
        },
        record {
          bits = new.c;
          are = new.bits;
          count = count;
          values = new.values;
          number = sym (rotated_xor j some within h.bits new.c h.are new.bits h.count count) ∙ ap (λ z. rotate_right w32 (bit_xor z (number_of bits)) j) h.number;
        },
      )

  module _ (p : ℕ) (has : HasCharacteristic R p) (domain : IsDomain R) (big : 3 * 2 ^ 16 < p) where
    added2 : (t u v : Limbs (Term F)) (x y z : ℕ) → IsLimbsOf R s t x → IsLimbsOf R s u y → IsLimbsOf R s v z
        → AllVanish R s (add2_asserts R t u v) → x ≡ word_sum y z
    added2 t u v x y z a b c vanish =
        sym a.number
        ∙ (add2_is_exact R p has t u v s a.limbs b.limbs c.limbs domain (omega arith) a.small b.small c.small a.values b.values c.values).0 vanish
        ∙ ap₂ word_sum b.number c.number

    added3 : (t u v w : Limbs (Term F)) (x y z n : ℕ) → IsLimbsOf R s t x → IsLimbsOf R s u y → IsLimbsOf R s v z → IsLimbsOf R s w n
        → AllVanish R s (add3_asserts R t u v w) → x ≡ word_sum_3 y z n
    added3 t u v w x y z n a b c d vanish =
        sym a.number
        ∙ (add3_is_exact R p has t u v w s a.limbs b.limbs c.limbs d.limbs domain big a.small b.small c.small d.small a.values b.values c.values d.values).0 vanish
        ∙ (λ i. word_sum_3 (b.number i) (c.number i) (d.number i))

    half_mixed : (j k : ℕ) (t : QuarterTerms F) (m : List (Term F)) (u : QuarterTerms F) (q : Quarter) (x : ℕ)
        → 0 < j → j < 32 → 0 < k → k < 32 → HasAllBits u
        → IsQuarterOf R s t q → IsBitsOf R s m x → AllVanish R s (half_mix_asserts R j k t m u)
        → IsQuarterOf R s u (half_mix j k q x)
    half_mixed j k t m u q x j_some j_within k_some k_within whole h message vanish =
        let sum_a = add3_asserts R u.a t.a (packed_limbs R t.b) (packed_limbs R m) in
        let turned_d = xor_asserts R u.a t.d u.d j in
        let sum_c = add2_asserts R u.c t.c (packed_limbs R u.d) in
        let turned_b = xor_asserts R u.c t.b u.b k in
        let first = vanish-append sum_a (turned_d ++ (sum_c ++ turned_b)) vanish in
        let second = vanish-append turned_d (sum_c ++ turned_b) first.1 in
        let third = vanish-append sum_c turned_b second.1 in
        let d = xored domain u.a t.d u.d q.d j j_some j_within whole.d h.d second.0 in
        let b = xored domain u.c t.b u.b q.b k k_some k_within whole.b h.b third.1 in
        let a_is : d.0 ≡ word_sum_3 q.a q.b x =
        added3 u.a t.a (packed_limbs R t.b) (packed_limbs R m) d.0 q.a q.b x d.1 h.a (packed_is t.b q.b h.b) (packed_is m x message) first.0 in
        let new_d : IsBitsOf R s u.d (half_mix j k q x).d = subst (λ z. IsBitsOf R s u.d (rotate_right w32 (bit_xor q.d z) j)) a_is d.2 in
        let c_is : b.0 ≡ word_sum q.c (half_mix j k q x).d =
        added2 u.c t.c (packed_limbs R u.d) b.0 q.c (half_mix j k q x).d b.1 h.c (packed_is u.d (half_mix j k q x).d new_d) third.0 in
        record {
          a = subst (IsLimbsOf R s u.a) a_is d.1;
          b = subst (λ z. IsBitsOf R s u.b (rotate_right w32 (bit_xor q.b z) k)) c_is b.2;
          c = subst (IsLimbsOf R s u.c) c_is b.1;
          d = new_d;
        }

pub under-same : {F : Type 0} (ts : List (Assertion F)) → map_terms (λ z. z) ts ≡ ts
under-same [] = refl
under-same (Base t ∷ ts) = ap (λ us. Base t ∷ us) (under-same ts)
under-same (Extension t ∷ ts) = ap (λ us. Extension t ∷ us) (under-same ts)

abbrev pub same : {F : Type 0} → List (Assertion F) → List (Assertion F)
same ts = map_terms (λ z. z) ts

-- if two joined lists vanish, the first one mapped by the identity, each of them vanishes
pub vanish-same : {F : Type 0} (R : CommRing F) (s : Leaf → F) (ts us : List (Assertion F)) → AllVanish R s (same ts ++ us) → AllVanish R s ts × AllVanish R s us
vanish-same R s ts us h = let k = vanish-append R s (same ts) us h in (subst (AllVanish R s) (under-same ts) k.0, k.1)

pub mix_is_sound : {F : Type 0} (R : CommRing F) (p : ℕ) → HasCharacteristic R p → MixIsSound R p
unfolding mix mix_asserts
mix_is_sound R p has t m n u v s q x y domain big whole_u whole_v h first second vanish =
    let g = half_mix_asserts R 16 12 t m u in
    let k = half_mix_asserts R 8 7 u n v in
    let parts = vanish-append R s (same g) (same k) vanish in
    let vanish_g = subst (AllVanish R s) (under-same g) parts.0 in
    let vanish_k = subst (AllVanish R s) (under-same k) parts.1 in
    let middle = half_mixed R s p has domain big 16 12 t m u q x (omega arith) (omega arith) (omega arith) (omega arith) whole_u h first vanish_g in
    half_mixed R s p has domain big 8 7 u n v (half_mix 16 12 q x) y (omega arith) (omega arith) (omega arith) (omega arith) whole_v middle second vanish_k
