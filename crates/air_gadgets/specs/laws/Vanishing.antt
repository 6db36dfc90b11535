-- If a list vanishes, so do its parts.
use Rattle.std.specs.Prelude.{◌≡◌, ℕ, zero, suc, ◌<◌, List, [], ◌∷◌, ◌++◌}
use Rattle.std.proofs.Common.{subst, inl, inr, arith}
use Rattle.std.proofs.lemmas.Bool.{cases_lt}
use Rattle.air_field.specs.Ring.{CommRing}
use Rattle.air_field.specs.Term.{Leaf}
use Rattle.air_builder.specs.Assertion.{Assertion, Base, Extension}
use Rattle.air_builder.specs.Vanishing.{AllVanish}
use Rattle.air_author.specs.Constraints.{asserts_of_first}

module _ {F : Type 0} (R : CommRing F) (s : Leaf → F) where
  -- both of two lists
  pub both_vanish : (ts us : List (Assertion F)) → AllVanish R s (ts ++ us) → AllVanish R s ts × AllVanish R s us
  both_vanish [] us h = (tt, h)
  both_vanish (Base t ∷ ts) us h = let more = both_vanish ts us h.1 in ((h.0, more.0), more.1)
  both_vanish (Extension t ∷ ts) us h = let more = both_vanish ts us h.1 in ((h.0, more.0), more.1)

  -- each of the lists that an index numbers
  pub one_vanishes : (f : ℕ → List (Assertion F)) (n k : ℕ) → k < n → AllVanish R s (asserts_of_first f n) → AllVanish R s (f k)
  one_vanishes f zero k lt h = absurd (omega (arith, lt))
  one_vanishes f (suc n) k lt h =
      let both = both_vanish (asserts_of_first f n) (f n) h in
      elim (cases_lt k n) [
        | inl below ↦ one_vanishes f n k below both.0
        | inr least ↦ (let e : n ≡ k = omega (arith, lt, least) in subst (λ i. AllVanish R s (f i)) e both.1)
      ]
