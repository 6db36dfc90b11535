-- The asserted terms of a xor, and the xor of the words.
use Rattle.std.specs.Prelude.{◌≡◌, ℕ, refl, List, [], ◌∷◌, ◌++◌, map, take, drop}
use Rattle.std.proofs.lemmas.List.{take-map, drop-map}
use Rattle.std.proofs.Common.{sym, ◌∙◌, ap, subst}
use Rattle.air_field.specs.Ring.{CommRing, minus, self_algebra}
use Rattle.air_field.specs.Term.{Leaf, Term}
use Rattle.air_field.specs.Value.{value}
use Rattle.air_field.specs.Algebra.{bool_check_term, xor_term}
use Rattle.air_gadgets.specs.Bits.{binary_sum}
use Rattle.air_gadgets.specs.Packing.{packed_term}
use Rattle.air_builder.specs.Assertion.{Assertion, Base}
use Rattle.air_gadgets.specs.Words.{rotated_left}
use Rattle.air_gadgets.specs.Gadgets.{xor_terms, half_terms}
use Rattle.air_builder.specs.Vanishing.{AllVanish}
use Rattle.air_gadgets.specs.Exact.{XorIsExact}
use Rattle.air_gadgets.specs.laws.PackedBits.{value-packed_term}
use Rattle.air_gadgets.specs.laws.Xors.{AllChecked, TermsAreZero, ring_xors, map-rotated, xor_exact}

module _ {F : Type 0} (R : CommRing F) (s : Leaf → F) where
  value-xors : (ts us : List (Term F)) → map (value (self_algebra R) s) (xor_terms ts us) ≡ ring_xors R (map (value (self_algebra R) s) ts) (map (value (self_algebra R) s) us)
  value-xors [] us = refl
  value-xors (t ∷ ts) [] = refl
  value-xors (t ∷ ts) (u ∷ us) = ap (λ xs. value (self_algebra R) s (xor_term t u) ∷ xs) (value-xors ts us)

  -- the tests for bits, and the assertions after them
  tests_then : (ts : List (Term F)) (rest : List (Assertion F)) → AllVanish R s (map (λ t. Base (bool_check_term R.one t)) ts ++ rest) → AllChecked R (map (value (self_algebra R) s) ts) × AllVanish R s rest
  tests_then [] rest h = (tt, h)
  tests_then (t ∷ ts) rest h = let more = tests_then ts rest h.1 in ((h.0, more.0), more.1)

  tests_and : (ts : List (Term F)) (rest : List (Assertion F)) → AllChecked R (map (value (self_algebra R) s) ts) → AllVanish R s rest → AllVanish R s (map (λ t. Base (bool_check_term R.one t)) ts ++ rest)
  tests_and [] rest h k = k
  tests_and (t ∷ ts) rest h k = (h.0, tests_and ts rest h.1 k)

  values_of : (u v : List (Term F)) (shift : ℕ) → map (value (self_algebra R) s) (xor_terms u (rotated_left shift v)) ≡ ring_xors R (map (value (self_algebra R) s) u) (rotated_left shift (map (value (self_algebra R) s) v))
  values_of u v shift = value-xors u (rotated_left shift v) ∙ ap (ring_xors R (map (value (self_algebra R) s) u)) (sym (map-rotated (value (self_algebra R) s) shift v))

  -- the value of a half, where terms and values are cut alike
  half_value : (f : List (Term F) → List (Term F)) (g : List F → List F) → ((ts : List (Term F)) → g (map (value (self_algebra R) s) ts) ≡ map (value (self_algebra R) s) (f ts))
      → (u v : List (Term F)) (shift : ℕ) → value (self_algebra R) s (packed_term R.zero (f (xor_terms u (rotated_left shift v)))) ≡ binary_sum R (g (ring_xors R (map (value (self_algebra R) s) u) (rotated_left shift (map (value (self_algebra R) s) v))))
  half_value f g alike u v shift =
      let bits = xor_terms u (rotated_left shift v) in
      value-packed_term (self_algebra R) R.zero refl s (f bits) ∙ (ap (binary_sum R) (sym (alike bits)) ∙ ap (λ xs. binary_sum R (g xs)) (values_of u v shift))

pub xor_is_exact : {F : Type 0} (R : CommRing F) → XorIsExact R
xor_is_exact R t u v shift s b domain hb eu =
    let a0 = value (self_algebra R) s t.low in
    let a1 = value (self_algebra R) s t.high in
    let cs = map (value (self_algebra R) s) v in
    let low = ap (minus R a0) (half_value R s (take 16) (take 16) (take-map (value (self_algebra R) s) 16) u v shift) in
    let high = ap (minus R a1) (half_value R s (drop 16) (drop 16) (drop-map (value (self_algebra R) s) 16) u v shift) in
    let exact = xor_exact R domain a0 a1 b cs shift hb in (
      (λ h.
          let parts = tests_then R s v (map Base (half_terms R t u v shift)) h in
          let w = exact.0 (subst (λ bs. TermsAreZero R a0 a1 bs cs shift) eu (parts.0, sym low ∙ parts.1.0, sym high ∙ parts.1.1.0)) in
          record { c = w.0; bits = w.1; values = w.2; low = w.3.0; high = w.3.1 }),
      (λ w.
          let zero = subst (λ bs. TermsAreZero R a0 a1 bs cs shift) (sym eu) (exact.1 (w.c, w.bits, w.values, (w.low, w.high))) in
          tests_and R s v (map Base (half_terms R t u v shift)) zero.0 (low ∙ zero.1, (high ∙ zero.2, tt))),
    )
