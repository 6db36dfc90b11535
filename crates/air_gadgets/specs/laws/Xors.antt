-- Bits in a ring, their xor and their packing, and a word's list rotated.
use Rattle.std.specs.Prelude.{◌≡◌, ℕ, zero, suc, refl, ◌+◌, ◌-◌, ◌*◌, ◌%◌, ◌<◌, ◌↔◌, List, [], ◌∷◌, ◌++◌, map, take, drop, ⊤}
use Rattle.std.proofs.lemmas.List.{take-map, drop-map, map-append}
use Rattle.std.proofs.Common.{sym, ◌∙◌, ap, ap₂, subst, inl, inr, arith}
use Rattle.air_field.specs.Ring.{CommRing, image, minus}
use Rattle.air_field.specs.laws.Ring.{zero_add, ring_rules}
use Rattle.air_field.specs.laws.RingSolver.{var, nought, unit, plus, times, less, ring}
use Rattle.air_field.specs.laws.Images.{image-add, image-mul, image-zero, image-one, image-two}
use Rattle.air_gadgets.specs.Bits.{AreBits, binary_sum, ring_xor}
use Rattle.air_gadgets.specs.Words.{number_of, xor_bits, rotated_left}
use Rattle.air_field.specs.Domain.{IsDomain}

abbrev pub bit_check : {A : Type 0} → CommRing A → A → A
bit_check R x = R.mul x (minus R x R.one)

abbrev pub ring_xors : {A : Type 0} → CommRing A → List A → List A → List A
ring_xors R [] ys = []
ring_xors R (x ∷ xs) [] = []
ring_xors R (x ∷ xs) (y ∷ ys) = ring_xor R x y ∷ ring_xors R xs ys

abbrev pub AllChecked : {A : Type 0} → CommRing A → List A → Type 0
AllChecked R [] = ⊤
AllChecked R (x ∷ xs) = (bit_check R x ≡ R.zero) × AllChecked R xs

pub same_of_minus : {A : Type 0} (R : CommRing A) (x y : A) → minus R x y ≡ R.zero → x ≡ y
same_of_minus R x y h =
    ring R (x ∷ y ∷ []) (var 0) (plus (less (var 0) (var 1)) (var 1)) refl ∙ (ap (λ z. R.add z y) h ∙ zero_add R y)

-- in a domain exactly the images of 0 and 1 pass the test for a bit
pub bit_of_check : {A : Type 0} (R : CommRing A) → IsDomain R → (x : A) → bit_check R x ≡ R.zero → (n : ℕ) × (n < 2) × (x ≡ image R n)
bit_of_check R domain x h =
    elim (domain x (minus R x R.one) h) [
      | inl e ↦ (0, omega arith, e ∙ sym (image-zero R))
      | inr e ↦ (1, omega arith, same_of_minus R x R.one e ∙ sym (image-one R))
    ]

check_at_zero : {A : Type 0} (R : CommRing A) → bit_check R R.zero ≡ R.zero
check_at_zero R = simp ring_rules

check_at_one : {A : Type 0} (R : CommRing A) → bit_check R R.one ≡ R.zero
check_at_one R = simp ring_rules

pub check_of_bit : {A : Type 0} (R : CommRing A) (n : ℕ) → n < 2 → bit_check R (image R n) ≡ R.zero
check_of_bit R zero h = ap (bit_check R) (image-zero R) ∙ check_at_zero R
check_of_bit R (suc zero) h = ap (bit_check R) (image-one R) ∙ check_at_one R
check_of_bit R (suc (suc n)) h = absurd (omega arith)

-- elements that all pass the test are the images of bits
pub bits_of_checks : {A : Type 0} (R : CommRing A) → IsDomain R → (xs : List A) → AllChecked R xs → (ns : List ℕ) × (AreBits ns) × (xs ≡ map (image R) ns)
bits_of_checks R domain [] h = ([], tt, refl)
bits_of_checks R domain (x ∷ xs) h =
    let first : (n : ℕ) × (n < 2) × (x ≡ image R n) = bit_of_check R domain x h.0 in
    let rest : (ns : List ℕ) × (AreBits ns) × (xs ≡ map (image R) ns) = bits_of_checks R domain xs h.1 in
    (first.0 ∷ rest.0, (first.1, rest.1), ap₂ (λ y ys. y ∷ ys) first.2 rest.2)

pub checks_of_bits : {A : Type 0} (R : CommRing A) (ns : List ℕ) → AreBits ns → AllChecked R (map (image R) ns)
checks_of_bits R [] h = tt
checks_of_bits R (n ∷ ns) h = (check_of_bit R n h.0, checks_of_bits R ns h.1)

-- ---- xor and packing of images

xor_at : {A : Type 0} (R : CommRing A) (m n k : ℕ) (x y z : A) → image R m ≡ x → image R n ≡ y → image R k ≡ z → ring_xor R x y ≡ z → ring_xor R (image R m) (image R n) ≡ image R k
xor_at R m n k x y z hm hn hk h = ap₂ (ring_xor R) hm hn ∙ (h ∙ sym hk)

xor_no_no : {A : Type 0} (R : CommRing A) → ring_xor R R.zero R.zero ≡ R.zero
xor_no_no R = ring R [] (less (plus nought nought) (plus (times nought nought) (times nought nought))) nought refl

xor_no_yes : {A : Type 0} (R : CommRing A) → ring_xor R R.zero R.one ≡ R.one
xor_no_yes R = ring R [] (less (plus nought unit) (plus (times nought unit) (times nought unit))) unit refl

xor_yes_no : {A : Type 0} (R : CommRing A) → ring_xor R R.one R.zero ≡ R.one
xor_yes_no R = ring R [] (less (plus unit nought) (plus (times unit nought) (times unit nought))) unit refl

xor_yes_yes : {A : Type 0} (R : CommRing A) → ring_xor R R.one R.one ≡ R.zero
xor_yes_yes R = ring R [] (less (plus unit unit) (plus (times unit unit) (times unit unit))) nought refl

pub xor-image : {A : Type 0} (R : CommRing A) (m n : ℕ) → m < 2 → n < 2 → ring_xor R (image R m) (image R n) ≡ image R ((m + n) % 2)
xor-image R zero zero hm hn = xor_at R 0 0 0 _ _ _ (image-zero R) (image-zero R) (image-zero R) (xor_no_no R)
xor-image R zero (suc zero) hm hn = xor_at R 0 1 1 _ _ _ (image-zero R) (image-one R) (image-one R) (xor_no_yes R)
xor-image R (suc zero) zero hm hn = xor_at R 1 0 1 _ _ _ (image-one R) (image-zero R) (image-one R) (xor_yes_no R)
xor-image R (suc zero) (suc zero) hm hn = xor_at R 1 1 0 _ _ _ (image-one R) (image-one R) (image-zero R) (xor_yes_yes R)
xor-image R zero (suc (suc n)) hm hn = absurd (omega arith)
xor-image R (suc zero) (suc (suc n)) hm hn = absurd (omega arith)
xor-image R (suc (suc m)) n hm hn = absurd (omega arith)

pub xors-images : {A : Type 0} (R : CommRing A) (bs cs : List ℕ) → AreBits bs → AreBits cs → ring_xors R (map (image R) bs) (map (image R) cs) ≡ map (image R) (xor_bits bs cs)
xors-images R [] cs hb hc = refl
xors-images R (b ∷ bs) [] hb hc = refl
xors-images R (b ∷ bs) (c ∷ cs) hb hc = ap₂ (λ y ys. y ∷ ys) (xor-image R b c hb.0 hc.0) (xors-images R bs cs hb.1 hc.1)

pub packed-images : {A : Type 0} (R : CommRing A) (bs : List ℕ) → binary_sum R (map (image R) bs) ≡ image R (number_of bs)
packed-images R [] = sym (image-zero R)
packed-images R (b ∷ bs) =
    ap₂ (λ x y. R.add (image R b) (R.mul x y)) (sym (image-two R)) (packed-images R bs)
    ∙ (ap (R.add (image R b)) (sym (image-mul R 2 (number_of bs))) ∙ sym (image-add R b (2 * number_of bs)))

pub map-rotated : {X Y : Type 0} (f : X → Y) (s : ℕ) (xs : List X) → rotated_left s (map f xs) ≡ map f (rotated_left s xs)
map-rotated f s xs = ap₂ (λ ys zs. ys ++ zs) (drop-map f (32 - s) xs) (take-map f (32 - s) xs) ∙ sym (map-append f (drop (32 - s) xs) (take (32 - s) xs))

bits-take : (n : ℕ) (bs : List ℕ) → AreBits bs → AreBits (take n bs)
bits-take zero bs h = tt
bits-take (suc n) [] h = tt
bits-take (suc n) (b ∷ bs) h = (h.0, bits-take n bs h.1)

bits-drop : (n : ℕ) (bs : List ℕ) → AreBits bs → AreBits (drop n bs)
bits-drop zero bs h = h
bits-drop (suc n) [] h = tt
bits-drop (suc n) (b ∷ bs) h = bits-drop n bs h.1

bits-append : (bs cs : List ℕ) → AreBits bs → AreBits cs → AreBits (bs ++ cs)
bits-append [] cs hb hc = hc
bits-append (b ∷ bs) cs hb hc = (hb.0, bits-append bs cs hb.1 hc)

bits-rotated : (s : ℕ) (bs : List ℕ) → AreBits bs → AreBits (rotated_left s bs)
bits-rotated s bs h = bits-append (drop (32 - s) bs) (take (32 - s) bs) (bits-drop (32 - s) bs h) (bits-take (32 - s) bs h)

-- the terms: the tests for bits, and the two differences of the halves
abbrev pub half_value : {A : Type 0} → CommRing A → A → List A → A
half_value R a xs = minus R a (binary_sum R xs)

abbrev pub TermsAreZero : {A : Type 0} → CommRing A → A → A → List A → List A → ℕ → Type 0
TermsAreZero R a0 a1 bs cs s =
    (AllChecked R cs)
    × (half_value R a0 (take 16 (ring_xors R bs (rotated_left s cs))) ≡ R.zero)
    × (half_value R a1 (drop 16 (ring_xors R bs (rotated_left s cs))) ≡ R.zero)

-- their meaning: c is made of bits, and a is b xor c rotated to the left
abbrev pub IsXor : {A : Type 0} → CommRing A → A → A → List ℕ → List ℕ → ℕ → Type 0
IsXor R a0 a1 bs ns s =
    (a0 ≡ image R (number_of (take 16 (xor_bits bs (rotated_left s ns))))) × (a1 ≡ image R (number_of (drop 16 (xor_bits bs (rotated_left s ns)))))

half-image : {A : Type 0} (R : CommRing A) (s : ℕ) (bs ns : List ℕ) → AreBits bs → AreBits ns
    → ring_xors R (map (image R) bs) (rotated_left s (map (image R) ns)) ≡ map (image R) (xor_bits bs (rotated_left s ns))
half-image R s bs ns hb hn =
    ap (ring_xors R (map (image R) bs)) (map-rotated (image R) s ns) ∙ xors-images R bs (rotated_left s ns) hb (bits-rotated s ns hn)

-- a half of both lists, where elements and bits are cut alike
cut_half : {A : Type 0} (R : CommRing A) (f : List A → List A) (g : List ℕ → List ℕ) → ((ns : List ℕ) → f (map (image R) ns) ≡ map (image R) (g ns))
    → (s : ℕ) (bs ns : List ℕ) → AreBits bs → AreBits ns
    → binary_sum R (f (ring_xors R (map (image R) bs) (rotated_left s (map (image R) ns)))) ≡ image R (number_of (g (xor_bits bs (rotated_left s ns))))
cut_half R f g alike s bs ns hb hn =
    ap (λ xs. binary_sum R (f xs)) (half-image R s bs ns hb hn)
    ∙ (ap (binary_sum R) (alike (xor_bits bs (rotated_left s ns))) ∙ packed-images R (g (xor_bits bs (rotated_left s ns))))

minus_own : {A : Type 0} (R : CommRing A) (x y : A) → x ≡ y → minus R x y ≡ R.zero
minus_own R x y e = ap (λ z. minus R z y) e ∙ R.add_neg y

given_bits : {A : Type 0} (R : CommRing A) (a0 a1 : A) (bs ns : List ℕ) (s : ℕ) → AreBits bs → AreBits ns
    → TermsAreZero R a0 a1 (map (image R) bs) (map (image R) ns) s ↔ IsXor R a0 a1 bs ns s
given_bits R a0 a1 bs ns s hb hn =
    let low = cut_half R (take 16) (take 16) (take-map (image R) 16) s bs ns hb hn in
    let high = cut_half R (drop 16) (drop 16) (drop-map (image R) 16) s bs ns hb hn in (
      (λ h. (same_of_minus R a0 _ h.1 ∙ low, same_of_minus R a1 _ h.2 ∙ high)),
      (λ h. (checks_of_bits R ns hn, minus_own R a0 _ (h.0 ∙ sym low), minus_own R a1 _ (h.1 ∙ sym high))),
    )

-- in a domain the terms are zero exactly if c is made of bits, and the halves of a are right
pub xor_exact : {A : Type 0} (R : CommRing A) → IsDomain R → (a0 a1 : A) (bs : List ℕ) (cs : List A) (s : ℕ) → AreBits bs
    → TermsAreZero R a0 a1 (map (image R) bs) cs s ↔ ((ns : List ℕ) × (AreBits ns) × (cs ≡ map (image R) ns) × (IsXor R a0 a1 bs ns s))
xor_exact R domain a0 a1 bs cs s hb = (
  (λ h.
      let w : (ns : List ℕ) × (AreBits ns) × (cs ≡ map (image R) ns) = bits_of_checks R domain cs h.0 in
      (w.0, w.1, w.2, (given_bits R a0 a1 bs w.0 s hb w.1).0 (subst (λ xs. TermsAreZero R a0 a1 (map (image R) bs) xs s) w.2 h))),
  (λ w. subst (λ xs. TermsAreZero R a0 a1 (map (image R) bs) xs s) (sym w.2) ((given_bits R a0 a1 bs w.0 s hb w.1).1 w.3)),
)
