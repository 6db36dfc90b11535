-- Bits and their images.
use Rattle.std.specs.Bool.{if◌then◌else◌}
use Rattle.std.proofs.Common.{◌≡◌, ◌∙◌, ℕ, zero, suc, ◌+◌, ◌-◌, ◌*◌, ◌/◌, ◌%◌, ◌^◌, ◌<◌, eqb, List, [], ◌∷◌, ◌++◌, map, append_assoc, refl, sym, ap, ap₂, arith}
use Rattle.std.proofs.Math.Nat.{pow-zero, pow-suc}
use Rattle.air_field.specs.Ring.{CommRing, image, minus}
use Rattle.air_field.specs.laws.RingSolver.{var, nought, unit, plus, times, less, ring}
use Rattle.air_field.specs.laws.Images.{image-zero, image-one, image-two, image-add, image-mul}
use Rattle.air_gadgets.specs.Bits.{digits_of, AreBits, binary_sum, ring_xor, xor_of_bits}

-- x, and then the xor with each element, from the left
abbrev pub xors_from : {A : Type 0} → CommRing A → A → List A → A
xors_from R x [] = x
xors_from R x (y ∷ ys) = xors_from R (ring_xor R x y) ys

xored_once : (bs : List ℕ) → (0 + xor_of_bits bs) % 2 ≡ xor_of_bits bs
xored_once [] = refl
xored_once (b ∷ bs) = omega arith

module _ {A : Type 0} (R : CommRing A) where
  image-below_two : (m : ℕ) → m < 2 → (if eqb m 1 then R.one else R.zero) ≡ image R m
  image-below_two zero low = sym (image-zero R)
  image-below_two (suc zero) low = sym (image-one R)
  image-below_two (suc (suc m)) low = absurd (omega (arith, low))

  -- one or zero, by a test of the lowest bit
  pub image-bit : (n : ℕ) → (if eqb (n % 2) 1 then R.one else R.zero) ≡ image R (n % 2)
  image-bit n = image-below_two (n % 2) (omega arith)

  xor_at : (m n k : ℕ) (x y z : A) → image R m ≡ x → image R n ≡ y → image R k ≡ z → ring_xor R x y ≡ z → ring_xor R (image R m) (image R n) ≡ image R k
  xor_at m n k x y z hm hn hk h = ap₂ (ring_xor R) hm hn ∙ (h ∙ sym hk)

  xor_no_no : ring_xor R R.zero R.zero ≡ R.zero
  xor_no_no = ring R [] (less (plus nought nought) (plus (times nought nought) (times nought nought))) nought refl

  xor_no_yes : ring_xor R R.zero R.one ≡ R.one
  xor_no_yes = ring R [] (less (plus nought unit) (plus (times nought unit) (times nought unit))) unit refl

  xor_yes_no : ring_xor R R.one R.zero ≡ R.one
  xor_yes_no = ring R [] (less (plus unit nought) (plus (times unit nought) (times unit nought))) unit refl

  xor_yes_yes : ring_xor R R.one R.one ≡ R.zero
  xor_yes_yes = ring R [] (less (plus unit unit) (plus (times unit unit) (times unit unit))) nought refl

  -- the xor of the images of two bits
  pub xor-image : (m n : ℕ) → m < 2 → n < 2 → ring_xor R (image R m) (image R n) ≡ image R ((m + n) % 2)
  xor-image zero zero hm hn = xor_at 0 0 0 _ _ _ (image-zero R) (image-zero R) (image-zero R) xor_no_no
  xor-image zero (suc zero) hm hn = xor_at 0 1 1 _ _ _ (image-zero R) (image-one R) (image-one R) xor_no_yes
  xor-image (suc zero) zero hm hn = xor_at 1 0 1 _ _ _ (image-one R) (image-zero R) (image-one R) xor_yes_no
  xor-image (suc zero) (suc zero) hm hn = xor_at 1 1 0 _ _ _ (image-one R) (image-one R) (image-zero R) xor_yes_yes
  xor-image zero (suc (suc n)) hm hn = absurd (omega arith)
  xor-image (suc zero) (suc (suc n)) hm hn = absurd (omega arith)
  xor-image (suc (suc m)) n hm hn = absurd (omega arith)

  xors_from_image : (m : ℕ) (bs : List ℕ) → m < 2 → AreBits bs → xors_from R (image R m) (map (image R) bs) ≡ image R ((m + xor_of_bits bs) % 2)
  xors_from_image m [] hm hb =
      let e : m ≡ (m + 0) % 2 = omega arith in
      ap (image R) e
  xors_from_image m (b ∷ bs) hm hb =
      let below : (m + b) % 2 < 2 = omega arith in
      let e : ((m + b) % 2 + xor_of_bits bs) % 2 ≡ (m + (b + xor_of_bits bs) % 2) % 2 = omega arith in
      ap (λ x. xors_from R x (map (image R) bs)) (xor-image m b hm hb.0)
      ∙ (xors_from_image ((m + b) % 2) bs below hb.1 ∙ ap (image R) e)

  -- the xor of the images of bits
  pub xors-image : (start : A) (xs : List A) (bs : List ℕ) → start ≡ R.zero → AreBits bs → xs ≡ map (image R) bs → xors_from R start xs ≡ image R (xor_of_bits bs)
  xors-image start xs bs e hb h = ap₂ (xors_from R) (e ∙ sym (image-zero R)) h ∙ (xors_from_image 0 bs (omega arith) hb ∙ ap (image R) (xored_once bs))

  -- y and not x, of the images of two bits
  pub andn-image : (m n : ℕ) → m < 2 → n < 2 → R.mul (minus R R.one (image R m)) (image R n) ≡ image R ((1 - m) * n)
  andn-image zero n hm hn =
      let e : n ≡ (1 - 0) * n = omega arith in
      ap (λ u. R.mul (minus R R.one u) (image R n)) (image-zero R)
      ∙ (ring R (image R n ∷ []) (times (less unit nought) (var 0)) (var 0) refl ∙ ap (image R) e)
  andn-image (suc zero) n hm hn =
      let e : 0 ≡ (1 - 1) * n = omega arith in
      ap (λ u. R.mul (minus R R.one u) (image R n)) (image-one R)
      ∙ (ring R (image R n ∷ []) (times (less unit unit) (var 0)) nought refl ∙ (sym (image-zero R) ∙ ap (image R) e))
  andn-image (suc (suc m)) n hm hn = absurd (omega arith)

  -- the digits of a number to the base 2, packed
  pub packed-digits : (k n : ℕ) → n < 2 ^ k → binary_sum R (map (image R) (digits_of 2 k n)) ≡ image R n
  packed-digits zero n h =
      let e : 0 ≡ n = omega (arith, pow-zero 2, h) in
      sym (image-zero R) ∙ ap (image R) e
  packed-digits (suc k) n h =
      let half : n / 2 < 2 ^ k = omega (arith, pow-suc 2 k, h) in
      let e : n % 2 + 2 * (n / 2) ≡ n = omega arith in
      ap₂ (λ two x. R.add (image R (n % 2)) (R.mul two x)) (sym (image-two R)) (packed-digits k (n / 2) half)
      ∙ (ap (R.add (image R (n % 2))) (sym (image-mul R 2 (n / 2)))
      ∙ (sym (image-add R (n % 2) (2 * (n / 2))) ∙ ap (image R) e))

  -- one more digit
  pub digit_taken : (digits taken : List A) (j k n : ℕ) (x : A) → k ≡ suc j → x ≡ image R (n % 2) → digits ≡ taken ++ map (image R) (digits_of 2 k n)
      → digits ≡ (taken ++ x ∷ []) ++ map (image R) (digits_of 2 j (n / 2))
  digit_taken digits taken j k n x hk hx h =
      h ∙ (ap (λ i. taken ++ map (image R) (digits_of 2 i n)) hk
      ∙ (ap (λ y. taken ++ y ∷ map (image R) (digits_of 2 j (n / 2))) (sym hx)
      ∙ sym (append_assoc taken (x ∷ []) (map (image R) (digits_of 2 j (n / 2))))))
