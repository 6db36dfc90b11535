-- The halves of a xor: under replacement of leaves, and as parts of the assertions of `xor_32_shift`.
use Rattle.std.specs.List.{AllZip}
use Rattle.std.proofs.Common.{◌≡◌, ℕ, ◌-◌, List, [], ◌∷◌, ◌++◌, length, map, take, drop, get_or, Result, refl, sym, ap, ap₂, subst, ◌∙◌, append_assoc}
use Rattle.air_field.specs.Ring.{CommRing}
use Rattle.air_field.specs.Term.{Leaf, Term, with_leaves, add_term, sub_term}
use Rattle.air_field.specs.Algebra.{bool_check_term, double_term, xor_term}
use Rattle.air_gadgets.specs.Packing.{packed_from, packed_term}
use Rattle.air_builder.specs.Assertion.{Assertion, Base}
use Rattle.air_builder.specs.Batches.{AssertsOf, AssertedEach}
use Rattle.air_builder.specs.laws.Zips.{AllZip-take, AllZip-drop}
use Rattle.air_gadgets.specs.Words.{rotated_left}
use Rattle.air_gadgets.specs.Gadgets.{FromThree, VariableMeans, HalfOf, Xors, xor_terms, half_term, test_asserts}
use Rattle.air_gadgets.proofs.Asserting.{Then}
use Rattle.air_gadgets.proofs.Lending.{MadeOne, zip_mapped}
use Rattle.air_gadgets.proofs.LimbLaws.{low_means, high_means}
use Rattle.air_gadgets.proofs.ZipLaws.{zip_rotated, take-xors, drop-xors, upper_half}

module _ {F : Type 0} (s : Leaf → Term F) where
  leaves-packed_from : (t : Term F) (ts : List (Term F)) → packed_from (with_leaves s t) (map (with_leaves s) ts) ≡ with_leaves s (packed_from t ts)
  leaves-packed_from t [] = refl
  leaves-packed_from t (u ∷ us) = ap (λ v. add_term (double_term v) (with_leaves s t)) (leaves-packed_from u us)

  leaves-packed_term : (none : F) (ts : List (Term F)) → packed_term none (map (with_leaves s) ts) ≡ with_leaves s (packed_term none ts)
  leaves-packed_term none [] = refl
  leaves-packed_term none (t ∷ ts) = leaves-packed_from t ts

  leaves-xors : (ts us : List (Term F)) → xor_terms (map (with_leaves s) ts) (map (with_leaves s) us) ≡ map (with_leaves s) (xor_terms ts us)
  leaves-xors [] us = refl
  leaves-xors (t ∷ ts) [] = refl
  leaves-xors (t ∷ ts) (u ∷ us) = ap (λ vs. with_leaves s (xor_term t u) ∷ vs) (leaves-xors ts us)

  leaves-packed_xors : (none : F) (us vs : List (Term F)) → packed_term none (xor_terms (map (with_leaves s) us) (map (with_leaves s) vs)) ≡ with_leaves s (packed_term none (xor_terms us vs))
  leaves-packed_xors none us vs = ap (packed_term none) (leaves-xors us vs) ∙ leaves-packed_term none (xor_terms us vs)

-- a predicate of a limb minus a packed xor, for the term with its leaves replaced
pub half_made : {V F : Type 0} (C : CommRing F) (means : V → Term F → Type 0) (s : Leaf → Term F) (P : Term F → Type 0) (p : V × List V × List V)
    → FromThree (half_term C) (means p.0) (AllZip means p.1) (AllZip means p.2) P
    → (x : Assertion F) → HalfOf C (VariableMeans means (λ l. l)) s p x → MadeOne (λ t. t) s P x
half_made C means s P p m x h = (
  half_term C h.0 h.1 h.2,
  subst (λ w. P (sub_term (with_leaves s h.0) w)) (leaves-packed_xors s C.zero h.1 h.2)
      (m (with_leaves s h.0) (map (with_leaves s) h.1) (map (with_leaves s) h.2) h.3
      (zip_mapped means (with_leaves s) p.1 h.1 h.4) (zip_mapped means (with_leaves s) p.2 h.2 h.5)),
  h.6,
)

module _ {S V F : Type 0} (C : CommRing F) (one : F) (is : one ≡ C.one) (means : S → V → Term F → Type 0) (a : S) where
  -- the tests of variables for bits
  tests_of : (xs : List V) (ts : List (Term F)) → AllZip (means a) xs ts
      → AllZip (AssertsOf Base means (bool_check_term one) a) xs (test_asserts C ts)
  tests_of [] [] h = tt
  tests_of [] (t ∷ ts) h = absurd h
  tests_of (x ∷ xs) [] h = absurd h
  tests_of (x ∷ xs) (t ∷ ts) h = ((t, h.0, ap (λ o. Base (bool_check_term o t)) (sym is)), tests_of xs ts h.1)

  -- the assertions of `xor_32_shift`: the tests, and then each half
  pub xors_are : (limbs b c : List V) (shift : ℕ) (d e : V) (ss : List (Assertion F)) → Xors C (means a) limbs b c shift ss
      → Then
      (Then (AllZip (AssertsOf Base means (bool_check_term one) a) c)
      (AllZip (HalfOf C means a) ((get_or limbs 0 d, take 16 b, take 16 (rotated_left shift c)) ∷ [])))
      (AllZip (HalfOf C means a) ((get_or limbs 1 e, drop 16 b, drop 16 (rotated_left shift c)) ∷ [])) ss
  xors_are limbs b c shift d e ss w =
      let turned = rotated_left shift w.2 in
      let rotated = zip_rotated (means a) shift c w.2 w.5 in
      let half : Term F → List (Term F) → Assertion F = λ t bits. Base (sub_term t (packed_term C.zero bits)) in
      let low = half w.0.low (take 16 (xor_terms w.1 turned)) in
      let high = half w.0.high (drop 16 (xor_terms w.1 turned)) in (
        test_asserts C w.2 ++ (low ∷ []),
        high ∷ [],
        (
          test_asserts C w.2,
          low ∷ [],
          tests_of c w.2 w.5,
          ((w.0.low, take 16 w.1, take 16 turned, low_means (means a) limbs w.0 d w.3, AllZip-take (means a) 16 b w.1 w.4, AllZip-take (means a) 16 (rotated_left shift c) turned rotated, ap (half w.0.low) (sym (take-xors 16 w.1 turned))), tt),
          refl,
        ),
        ((w.0.high, drop 16 w.1, drop 16 turned, high_means (means a) limbs w.0 e w.3, AllZip-drop (means a) 16 b w.1 w.4, AllZip-drop (means a) 16 (rotated_left shift c) turned rotated, ap (half w.0.high) (sym (drop-xors 16 w.1 turned))), tt),
        w.6 ∙ sym (append_assoc (test_asserts C w.2) (low ∷ []) (high ∷ [])),
      )

-- the assertion of a half of two lists, with the lists replaced by equal ones
module _ {S V F X : Type 0} {asserts : S → V × List V × List V → Assertion F → Type 0} {kept : S → S → Type 0}
    {grew : S → S → List (Assertion F) → Type 0} {refuses : S → X → List (Assertion F) → Type 0} {a b : S}
    {result : Result (Unit {0}) X} {limb : V} {own xs others ys : List V} (p : own ≡ xs) (q : others ≡ ys) where
  half_is : (f : List V → List V) → AssertedEach asserts kept grew refuses a b ((limb, f own, f others) ∷ []) result
      → AssertedEach asserts kept grew refuses a b ((limb, f xs, f ys) ∷ []) result
  half_is f h = subst (λ x. AssertedEach asserts kept grew refuses a b (x ∷ []) result) (ap₂ (λ v w. (limb, f v, f w)) p q) h

  pub low_half_is : AssertedEach asserts kept grew refuses a b ((limb, take 16 own, take 16 others) ∷ []) result
      → AssertedEach asserts kept grew refuses a b ((limb, take 16 xs, take 16 ys) ∷ []) result
  low_half_is h = half_is (take 16) h

  pub high_half_is : AssertedEach asserts kept grew refuses a b ((limb, take (length own - 16) (drop 16 own), take (length others - 16) (drop 16 others)) ∷ []) result
      → AssertedEach asserts kept grew refuses a b ((limb, drop 16 xs, drop 16 ys) ∷ []) result
  high_half_is h =
      subst (λ x. AssertedEach asserts kept grew refuses a b (x ∷ []) result) (ap₂ (λ v w. (limb, v, w)) (upper_half xs) (upper_half ys))
      (half_is (λ l. take (length l - 16) (drop 16 l)) h)
