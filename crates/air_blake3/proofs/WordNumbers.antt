-- Lists of bits and their numbers: joined, xored and rotated.
use Rattle.std.specs.Prelude.{◌≡◌, ℕ, zero, suc, refl, ◌+◌, ◌-◌, ◌*◌, ◌/◌, ◌%◌, ◌^◌, ◌<◌, List, [], ◌∷◌, ◌++◌, length, take, drop, bit_or, bit_xor}
use Rattle.std.specs.Int.{w32, rotate_right}
use Rattle.std.specs.Int.Bits.{xor_block, or_shifted_r, xor_self, xor_assoc, xor_zero_l}
use Rattle.std.proofs.Common.{sym, ◌∙◌, ap, ap₂, subst, arith, length-take, length-drop, length-append}
use Rattle.std.proofs.Math.Nat.{pow-suc}
use Rattle.std.proofs.lemmas.Nat.{pow-add, mod_low, shr_high, shl_below}
use Rattle.std.proofs.lemmas.List.{take-append-drop}
use Rattle.air_gadgets.specs.Bits.{AreBits}
use Rattle.air_gadgets.specs.Words.{number_of, xor_bits, rotated_left}

pub bits-take : (n : ℕ) (bs : List ℕ) → AreBits bs → AreBits (take n bs)
bits-take zero bs h = tt
bits-take (suc n) [] h = tt
bits-take (suc n) (b ∷ bs) h = (h.0, bits-take n bs h.1)

pub bits-drop : (n : ℕ) (bs : List ℕ) → AreBits bs → AreBits (drop n bs)
bits-drop zero bs h = h
bits-drop (suc n) [] h = tt
bits-drop (suc n) (b ∷ bs) h = bits-drop n bs h.1

pub bits-append : (bs cs : List ℕ) → AreBits bs → AreBits cs → AreBits (bs ++ cs)
bits-append [] cs hb hc = hc
bits-append (b ∷ bs) cs hb hc = (hb.0, bits-append bs cs hb.1 hc)

pub bits-xor : (bs cs : List ℕ) → AreBits (xor_bits bs cs)
bits-xor [] cs = tt
bits-xor (b ∷ bs) [] = tt
bits-xor (b ∷ bs) (c ∷ cs) = (omega arith, bits-xor bs cs)

pub length-xor : (bs cs : List ℕ) → length bs ≡ length cs → length (xor_bits bs cs) ≡ length bs
length-xor [] cs e = refl
length-xor (b ∷ bs) [] e = sym e
length-xor (b ∷ bs) (c ∷ cs) e = ap suc (length-xor bs cs (omega arith))

-- n bits are a number below 2^n
pub number_of-lt : (bs : List ℕ) → AreBits bs → number_of bs < 2 ^ length bs
number_of-lt [] h = omega arith
number_of-lt (b ∷ bs) h = omega (arith, h.0, number_of-lt bs h.1, pow-suc 2 (length bs))

pub number_of-append : (bs cs : List ℕ) → number_of (bs ++ cs) ≡ number_of bs + 2 ^ length bs * number_of cs
number_of-append [] cs = omega arith
number_of-append (b ∷ bs) cs =
    let k : ℕ = 2 ^ length bs * number_of cs in
    let e : 2 ^ length (b ∷ bs) * number_of cs ≡ 2 * k = ap (λ x. x * number_of cs) (pow-suc 2 (length bs)) ∙ omega arith in
    omega (arith, e, number_of-append bs cs)

bit_xor-bits : (b c : ℕ) → b < 2 → c < 2 → bit_xor b c ≡ (b + c) % 2
bit_xor-bits zero zero hb hc = refl
bit_xor-bits zero (suc zero) hb hc = refl
bit_xor-bits (suc zero) zero hb hc = refl
bit_xor-bits (suc zero) (suc zero) hb hc = refl
bit_xor-bits zero (suc (suc n)) hb hc = absurd (omega arith)
bit_xor-bits (suc zero) (suc (suc n)) hb hc = absurd (omega arith)
bit_xor-bits (suc (suc m)) n hb hc = absurd (omega arith)

turned : (b n : ℕ) → b + 2 * n ≡ n * 2 ^ 1 + b
turned b n = omega arith

-- the bitwise xor of two lists is the xor of their numbers
pub number_of-xor : (bs cs : List ℕ) → AreBits bs → AreBits cs → length bs ≡ length cs → number_of (xor_bits bs cs) ≡ bit_xor (number_of bs) (number_of cs)
number_of-xor [] [] hb hc e = refl
number_of-xor [] (c ∷ cs) hb hc e = absurd (omega arith)
number_of-xor (b ∷ bs) [] hb hc e = absurd (omega arith)
number_of-xor (b ∷ bs) (c ∷ cs) hb hc e =
    let rest = number_of-xor bs cs hb.1 hc.1 (omega arith) in
    let block = xor_block 1 (number_of bs) (number_of cs) b c hb.0 hc.0 in
    turned ((b + c) % 2) (number_of (xor_bits bs cs))
    ∙ ap₂ (λ x y. x * 2 ^ 1 + y) rest (sym (bit_xor-bits b c hb.0 hc.0))
    ∙ sym block
    ∙ sym (ap₂ bit_xor (turned b (number_of bs)) (turned c (number_of cs)))

-- the two halves of a word's bits
pub number_of-halves : (bs : List ℕ) → length bs ≡ 32 → number_of bs ≡ number_of (take 16 bs) + 2 ^ 16 * number_of (drop 16 bs)
number_of-halves bs e =
    let n : length (take 16 bs) ≡ 16 = simp length-take (omega arith) in
    ap number_of (sym (take-append-drop 16 bs)) ∙ number_of-append (take 16 bs) (drop 16 bs) ∙ ap (λ k. number_of (take 16 bs) + 2 ^ k * number_of (drop 16 bs)) n

pub low_half-lt : (bs : List ℕ) → AreBits bs → length bs ≡ 32 → number_of (take 16 bs) < 2 ^ 16
low_half-lt bs h e =
    let n : length (take 16 bs) ≡ 16 = simp length-take (omega arith) in
    subst (λ k. number_of (take 16 bs) < 2 ^ k) n (number_of-lt (take 16 bs) (bits-take 16 bs h))

pub high_half-lt : (bs : List ℕ) → AreBits bs → length bs ≡ 32 → number_of (drop 16 bs) < 2 ^ 16
high_half-lt bs h e =
    let n : length (drop 16 bs) ≡ 16 = simp length-drop (omega arith) in
    subst (λ k. number_of (drop 16 bs) < 2 ^ k) n (number_of-lt (drop 16 bs) (bits-drop 16 bs h))

shifted_up : (high low p q w : ℕ) → p * q ≡ w → (high + p * low) * q ≡ low * w + high * q
shifted_up high low p q w e = subst (λ x. (high + p * low) * q ≡ low * x + high * q) e (omega arith)

-- the number of the low 32 - s bits, and that of the high s bits
module _ (s : ℕ) (within : s < 32) (some : 0 < s) (low high : ℕ) (fits_low : low < 2 ^ (32 - s)) (fits_high : high < 2 ^ s) where
  -- the number with `high` in its low bits, rotated to the right by s
  pub rotated_back : rotate_right w32 (high + 2 ^ s * low) s ≡ low + 2 ^ (32 - s) * high
  rotated_back =
      let whole : s % 32 ≡ s = omega arith in
      let other : (32 - s % 32) % 32 ≡ 32 - s = omega arith in
      let flip : high + 2 ^ s * low ≡ low * 2 ^ s + high = omega arith in
      let down : (high + 2 ^ s * low) / 2 ^ s ≡ low = ap (λ x. x / 2 ^ s) flip ∙ shr_high low s high fits_high in
      let parts : s + (32 - s) ≡ 32 = omega arith in
      let all : 2 ^ s * 2 ^ (32 - s) ≡ 2 ^ 32 = sym (pow-add 2 s (32 - s)) ∙ ap (λ k. 2 ^ k) parts in
      let shifted = shifted_up high low (2 ^ s) (2 ^ (32 - s)) (2 ^ 32) all in
      let below : high * 2 ^ (32 - s) < 2 ^ 32 = subst (λ k. high * 2 ^ (32 - s) < 2 ^ k) parts (shl_below high s (32 - s) fits_high) in
      let up : (high + 2 ^ s * low) * 2 ^ (32 - s) % 2 ^ 32 ≡ high * 2 ^ (32 - s) = ap (λ x. x % 2 ^ 32) shifted ∙ mod_low low 32 (high * 2 ^ (32 - s)) below in
      (λ i. bit_or ((high + 2 ^ s * low) / 2 ^ (whole i)) ((high + 2 ^ s * low) * 2 ^ (other i) % 2 ^ 32))
      ∙ ap₂ bit_or down up
      ∙ or_shifted_r high (32 - s) low fits_low
      ∙ omega arith

-- rotating a word's bits to the left and then the number to the right gives the word
pub number_of-rotated : (s : ℕ) → 0 < s → s < 32 → (bs : List ℕ) → AreBits bs → length bs ≡ 32 → rotate_right w32 (number_of (rotated_left s bs)) s ≡ number_of bs
number_of-rotated s some within bs h e =
    let low = take (32 - s) bs in
    let high = drop (32 - s) bs in
    let m : length low ≡ 32 - s = simp length-take (omega arith) in
    let n : length high ≡ s = simp length-drop (omega arith) in
    let fits_low : number_of low < 2 ^ (32 - s) = subst (λ k. number_of low < 2 ^ k) m (number_of-lt low (bits-take (32 - s) bs h)) in
    let fits_high : number_of high < 2 ^ s = subst (λ k. number_of high < 2 ^ k) n (number_of-lt high (bits-drop (32 - s) bs h)) in
    ap (λ x. rotate_right w32 x s) (number_of-append high low ∙ ap (λ k. number_of high + 2 ^ k * number_of low) n)
    ∙ rotated_back s within some (number_of low) (number_of high) fits_low fits_high
    ∙ sym (ap (λ k. number_of low + 2 ^ k * number_of high) m)
    ∙ sym (number_of-append low high)
    ∙ ap number_of (take-append-drop (32 - s) bs)

-- a xor with x is undone by another xor with x
pub xor_back : (x y : ℕ) → bit_xor x (bit_xor x y) ≡ y
xor_back x y = sym (xor_assoc x x y) ∙ ap (λ z. bit_xor z y) (xor_self x) ∙ xor_zero_l y

pub bits-rotated : (s : ℕ) (bs : List ℕ) → AreBits bs → AreBits (rotated_left s bs)
bits-rotated s bs h = bits-append (drop (32 - s) bs) (take (32 - s) bs) (bits-drop (32 - s) bs h) (bits-take (32 - s) bs h)

pub length-rotated : (s : ℕ) (bs : List ℕ) → length bs ≡ 32 → length (rotated_left s bs) ≡ 32
length-rotated s bs e = simp (length-append, length-take, length-drop) (omega arith)

-- if a is b xor c rotated to the left, then c is a xor b, rotated to the right
pub rotated_xor : (s : ℕ) → 0 < s → s < 32 → (bs cs : List ℕ) → AreBits bs → AreBits cs → length bs ≡ 32 → length cs ≡ 32
    → rotate_right w32 (bit_xor (number_of bs) (number_of (xor_bits bs (rotated_left s cs)))) s ≡ number_of cs
rotated_xor s some within bs cs hb hc eb ec =
    let turned = number_of (rotated_left s cs) in
    let is = number_of-xor bs (rotated_left s cs) hb (bits-rotated s cs hc) (eb ∙ sym (length-rotated s cs ec)) in
    ap (λ x. rotate_right w32 (bit_xor (number_of bs) x) s) is
    ∙ ap (λ x. rotate_right w32 x s) (xor_back (number_of bs) turned)
    ∙ number_of-rotated s some within cs hc ec
