-- The limbs of a word in bits.
use Rattle.std.specs.Prelude.{◌/◌, ◌%◌, ◌^◌, ◌*◌, ◌≤◌}
use Rattle.std.proofs.Common.{◌≡◌, ◌<◌, ◌+◌, ℕ, zero, suc, List, [], ◌∷◌, ◌++◌, length, map, take, drop, refl, sym, ◌∙◌, ap, ap₂, subst, arith, length-take, length-drop}
use Rattle.std.proofs.Math.Nat.{pow-suc}
use Rattle.std.proofs.lemmas.List.{take-map, drop-map, take-append-drop}
use Rattle.air_field.specs.Ring.{CommRing, image, self_algebra}
use Rattle.air_field.specs.Term.{Leaf, Term}
use Rattle.air_field.specs.Value.{value}
use Rattle.air_field.specs.laws.Images.{HasCharacteristic, same_of_image}
use Rattle.air_builder.specs.Notation.{current}
use Rattle.air_gadgets.specs.BitTerms.{columns_from, first_terms, packed_bits, terms_from}
use Rattle.air_gadgets.specs.Bits.{AreBits, binary_sum}
use Rattle.air_gadgets.specs.Packing.{packed_term}
use Rattle.air_gadgets.specs.Words.{number_of}
use Rattle.air_gadgets.specs.laws.PackedBits.{value-packed_term}
use Rattle.air_gadgets.specs.laws.Xors.{packed-images}
use Rattle.air_blake3.specs.Holding.{IsBitsOf}
use Rattle.air_blake3.specs.Words.{bits_at, column, terms_numbered}

bits-take : (n : ℕ) (bs : List ℕ) → AreBits bs → AreBits (take n bs)
bits-take zero bs h = tt
bits-take (suc n) [] h = tt
bits-take (suc n) (b ∷ bs) h = (h.0, bits-take n bs h.1)

bits-drop : (n : ℕ) (bs : List ℕ) → AreBits bs → AreBits (drop n bs)
bits-drop zero bs h = h
bits-drop (suc n) [] h = tt
bits-drop (suc n) (b ∷ bs) h = bits-drop n bs h.1

-- n bits are a number below 2^n
number_of-lt : (bs : List ℕ) → AreBits bs → number_of bs < 2 ^ length bs
number_of-lt [] h = omega arith
number_of-lt (b ∷ bs) h = omega (arith, h.0, number_of-lt bs h.1, pow-suc 2 (length bs))

number_of-append : (bs cs : List ℕ) → number_of (bs ++ cs) ≡ number_of bs + 2 ^ length bs * number_of cs
number_of-append [] cs = omega arith
number_of-append (b ∷ bs) cs =
    let k : ℕ = 2 ^ length bs * number_of cs in
    let e : 2 ^ length (b ∷ bs) * number_of cs ≡ 2 * k = ap (λ x. x * number_of cs) (pow-suc 2 (length bs)) ∙ omega arith in
    omega (arith, e, number_of-append bs cs)

-- the halves of 32 bits as numbers
module _ (bs : List ℕ) (are : AreBits bs) (count : length bs ≡ 32) where
  lows : length (take 16 bs) ≡ 16
  lows = simp length-take (omega arith)

  highs : length (drop 16 bs) ≡ 16
  highs = simp length-drop (omega arith)

  halves : number_of bs ≡ number_of (take 16 bs) + 2 ^ 16 * number_of (drop 16 bs)
  halves =
      ap number_of (sym (take-append-drop 16 bs)) ∙ number_of-append (take 16 bs) (drop 16 bs)
      ∙ ap (λ k. number_of (take 16 bs) + 2 ^ k * number_of (drop 16 bs)) lows

  low-lt : number_of (take 16 bs) < 2 ^ 16
  low-lt = subst (λ k. number_of (take 16 bs) < 2 ^ k) lows (number_of-lt (take 16 bs) (bits-take 16 bs are))

  high-lt : number_of (drop 16 bs) < 2 ^ 16
  high-lt = subst (λ k. number_of (drop 16 bs) < 2 ^ k) highs (number_of-lt (drop 16 bs) (bits-drop 16 bs are))

  low_half : number_of (take 16 bs) ≡ number_of bs % 2 ^ 16
  low_half = omega (arith, halves, low-lt)

  high_half : number_of (drop 16 bs) ≡ number_of bs / 2 ^ 16
  high_half = omega (arith, halves, low-lt)

  whole-lt : number_of bs < 2 ^ 32
  whole-lt = omega (arith, halves, low-lt, high-lt)

-- columns from a column m further on
shifted : {F : Type 0} (first m i n : ℕ) → terms_from {F = F} (columns_from (first + m)) i n ≡ terms_numbered (column first) (m + i) n
shifted first m i zero = refl
shifted {F = F} first m i (suc n) =
    let here : first + m + i ≡ first + (m + i) = omega arith in
    let next : m + (i + 1) ≡ suc (m + i) = omega arith in
    ap₂ (λ (x : Term F) xs. x ∷ xs) (ap current here) (shifted first m (i + 1) n ∙ ap (λ k. terms_numbered (column first) k n) next)

module _ {F : Type 0} (R : CommRing F) (s : Leaf → F) where
  packed : (ts : List (Term F)) (bs : List ℕ) → map (value (self_algebra R) s) ts ≡ map (image R) bs → value (self_algebra R) s (packed_term R.zero ts) ≡ image R (number_of bs)
  packed ts bs e = value-packed_term (self_algebra R) R.zero refl s ts ∙ (ap (binary_sum R) e ∙ packed-images R bs)

  module _ (first n : ℕ) (h : IsBitsOf R s (bits_at first) n) where
    pub bits-lt : n < 2 ^ 32
    bits-lt = subst (λ k. k < 2 ^ 32) h.number (whole-lt h.bits h.are h.count)

    first_values : map (value (self_algebra R) s) (first_terms (columns_from first) 16) ≡ map (image R) (take 16 h.bits)
    unfolding bits_at
    first_values = ap (take 16) h.values ∙ take-map (image R) 16 h.bits

    last_values : map (value (self_algebra R) s) (first_terms (columns_from (first + 16)) 16) ≡ map (image R) (drop 16 h.bits)
    unfolding bits_at
    last_values = ap (map (value (self_algebra R) s)) (shifted first 16 0 16) ∙ (ap (drop 16) h.values ∙ drop-map (image R) 16 h.bits)

    pub low_limb : value (self_algebra R) s (packed_bits R first 16) ≡ image R (n % 2 ^ 16)
    unfolding packed_bits
    low_limb =
        packed (first_terms (columns_from first) 16) (take 16 h.bits) first_values
        ∙ ap (image R) (low_half h.bits h.are h.count ∙ ap (λ k. k % 2 ^ 16) h.number)

    pub high_limb : value (self_algebra R) s (packed_bits R (first + 16) 16) ≡ image R (n / 2 ^ 16)
    unfolding packed_bits
    high_limb =
        packed (first_terms (columns_from (first + 16)) 16) (drop 16 h.bits) last_values
        ∙ ap (image R) (high_half h.bits h.are h.count ∙ ap (λ k. k / 2 ^ 16) h.number)

    of_halves : (v w : ℕ) → v % 2 ^ 16 ≡ w % 2 ^ 16 → v / 2 ^ 16 ≡ w / 2 ^ 16 → v ≡ w
    of_halves v w low high = omega (arith, low, high)

    half-lt : (v : ℕ) → v < 2 ^ 32 → v / 2 ^ 16 < 2 ^ 16
    half-lt v lt = omega (arith, lt)

    -- a word whose limbs are those of a constant
    pub is_constant : (p : ℕ) → HasCharacteristic R p → 2 ^ 16 ≤ p → (w : ℕ) → w < 2 ^ 32
        → value (self_algebra R) s (packed_bits R first 16) ≡ image R (w % 2 ^ 16)
        → value (self_algebra R) s (packed_bits R (first + 16) 16) ≡ image R (w / 2 ^ 16) → n ≡ w
    is_constant p has big w lt low high =
        of_halves n w
        (same_of_image R p has (n % 2 ^ 16) (w % 2 ^ 16) (omega (arith, big)) (omega (arith, big)) (sym low_limb ∙ low))
        (same_of_image R p has (n / 2 ^ 16) (w / 2 ^ 16) (omega (arith, big, half-lt n bits-lt)) (omega (arith, big, half-lt w lt)) (sym high_limb ∙ high))
