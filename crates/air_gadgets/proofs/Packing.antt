-- Packing, one term more.
use Rattle.std.specs.Result.{IsErrAnd}
use Rattle.std.proofs.Common.{◌≡◌, ℕ, zero, suc, ◌+◌, ◌-◌, ◌<◌, ◌≤◌, List, [], ◌∷◌, Result, Ok, Err, IfOk, IfErr, refl, sym, ◌∙◌, ap, subst, arith}
use Rattle.air_field.specs.Algebra.{MadeOfBoth, RefusedOfBoth}
use Rattle.air_field.specs.Part.{Part, whole, in_add_left, in_add_right}
use Rattle.air_field.specs.laws.Part.{part_in}
use Rattle.air_field.specs.Term.{Term, with_leaves}
use Rattle.air_field.specs.declared.errors.RingError.{RingError}
use Rattle.air_gadgets.specs.Packing.{packed_from, packed_term}
use Rattle.air_core.specs.declared.errors.AirError.{AirError}
use Rattle.air_builder.specs.Builders.{MeansIn, BuilderView, RingLaws, BuilderLaws}
use Rattle.air_builder.specs.laws.Filters.{means_kept}
use Rattle.air_author.specs.Expressions.{MakesTerm, air_result}
use Rattle.air_gadgets.specs.BitTerms.{terms_from, first_terms, twice_and_term}
use Rattle.air_author.specs.laws.Making.{operand_gives_up, second_gives_up, one_by_one, both_answered}

module _ {S R E F : Type 0} {view : BuilderView S R E F} (ring : RingLaws view) (laws : BuilderLaws view) where
  open view use {has, ring_of, reads_as, grew, missing, refuses}

  -- a made element is in the lent ring after a further step too
  pub stays_in_ring : (a b d : S) (q : R) (x y : E) (t u : Term F) → MakesTerm (MeansIn view) grew missing refuses a b (Ok x) t
      → MakesTerm (MeansIn view) grew missing refuses b d (Ok y) u → q ≡ ring_of d → has q x
  stays_in_ring a b d q x y t u h k p =
      let later = means_kept ring laws b d x t (laws.by_growth b d [] k.keeps) h.made.0 in
      subst (λ s. has s x) (sym p) (ring.means_has (ring_of d) x (with_leaves (reads_as d) t) later)

-- the sum over a series that isn't empty, from its first term on
pub all_packed : {F : Type 0} (none : F) (at : ℕ → Term F) (n : ℕ) → 0 < n → packed_from (at 0) (terms_from at (0 + 1) (n - 1)) ≡ packed_term none (first_terms at n)
all_packed none at zero h = absurd (omega (arith, h))
all_packed none at (suc n) h =
    let e : suc n - 1 ≡ n = omega arith in
    ap (λ m. packed_from (at 0) (terms_from at (0 + 1) m)) e

module _ {F : Type 0} (at : ℕ → Term F) where
  abbrev pub packed_at : ℕ → ℕ → Term F
  packed_at i n = packed_from (at i) (terms_from at (i + 1) n)

  -- the sum over the terms from index i up to the last
  abbrev pub packed_above : ℕ → ℕ → Term F
  packed_above last i = packed_at i (last - i)

  last_packed : (last : ℕ) → packed_above last last ≡ at last
  last_packed last =
      let none : last - last ≡ 0 = omega arith in
      ap (packed_at last) none

  whole_packed : (last i : ℕ) → i ≡ 0 → packed_above last i ≡ packed_at 0 last
  whole_packed last i none = ap (packed_above last) none ∙ ap (packed_at 0) (omega arith)

  one_more : (last i k : ℕ) → i ≡ suc k → i ≤ last → twice_and_term (packed_above last i) (at k) ≡ packed_above last k
  one_more last i k e within =
      let next : i ≡ k + 1 = omega (arith, e) in
      let more : last - k ≡ suc (last - i) = omega (arith, e, within) in
      ap (λ j. twice_and_term (packed_at j (last - i)) (at k)) next ∙ ap (packed_at k) (sym more)

  part_of_more : (last i k : ℕ) → i ≡ suc k → i ≤ last → Part (packed_above last i) (packed_above last k)
  part_of_more last i k e within = subst (Part (packed_above last i)) (one_more last i k e within) (in_add_left (in_add_left whole))

  pub above_of_whole : (last i : ℕ) → i ≤ last → Part (packed_above last i) (packed_at 0 last)
  above_of_whole last zero within = subst (λ t. Part t (packed_at 0 last)) (sym (whole_packed last 0 refl)) whole
  above_of_whole last (suc k) within = part_in (part_of_more last (suc k) k refl within) (above_of_whole last k (omega (arith, within)))

  first_of_packed : (t : Term F) (ts : List (Term F)) → Part t (packed_from t ts)
  first_of_packed t [] = whole
  first_of_packed t (u ∷ us) = in_add_right whole

  pub one_of_whole : (last k : ℕ) → k ≤ last → Part (at k) (packed_at 0 last)
  one_of_whole last k within = part_in (first_of_packed (at k) (terms_from at (k + 1) (last - k))) (above_of_whole last k within)

  module _ {S R E : Type 0} {view : BuilderView S R E F} (ring : RingLaws view) (laws : BuilderLaws view) (last : ℕ) where
    open view use {has, means, extends, ring_refuses, ring_of, with_ring, reads_as, grew, missing, refuses}

    moved : {a b : S} {r : Result E AirError} {t u : Term F} → t ≡ u
        → MakesTerm (MeansIn view) grew missing refuses a b r t → MakesTerm (MeansIn view) grew missing refuses a b r u
    moved {a = a} {b = b} {r = r} e h = subst (λ t. MakesTerm (MeansIn view) grew missing refuses a b r t) e h

    pub as_last : {a b : S} {x : E} → MakesTerm (MeansIn view) grew missing refuses a b (Ok x) (at last)
        → MakesTerm (MeansIn view) grew missing refuses a b (Ok x) (packed_above last last)
    as_last h = moved (sym (last_packed last)) h

    pub as_whole : {a b : S} {x : E} (i : ℕ) → i ≡ 0 → MakesTerm (MeansIn view) grew missing refuses a b (Ok x) (packed_above last i)
        → MakesTerm (MeansIn view) grew missing refuses a b (Ok x) (packed_at 0 last)
    as_whole i none h = moved (whole_packed last i none) h

    module _ (i k : ℕ) (lower : i ≡ suc k) (within : i ≤ last) where
      -- a `?` returns the error of making the next term
      pub one_refused : {a b d : S} {x : E} {e : AirError} {r : Result E AirError} → IsErrAnd r (λ x. x ≡ e)
          → MakesTerm (MeansIn view) grew missing refuses a b (Ok x) (packed_above last i)
          → MakesTerm {E = E} (MeansIn view) grew missing refuses b d (Err e) (at k)
          → MakesTerm (MeansIn view) grew missing refuses a d r (packed_at 0 last)
      one_refused p h k_refused =
          operand_gives_up (above_of_whole last i within) (one_of_whole last k (omega (arith, lower, within))) p
          (second_gives_up ring laws _ _ _ _ _ (Err _) _ _ h refl k_refused)

      pub one_packed : {a b d : S} {q r : R} {x y : E} (done : Result E RingError) {z : Result E AirError}
          → MakesTerm (MeansIn view) grew missing refuses a b (Ok x) (packed_above last i)
          → MakesTerm (MeansIn view) grew missing refuses b d (Ok y) (at k)
          → z ≡ air_result done → q ≡ ring_of d → extends q r
          → IfOk done (MadeOfBoth has means twice_and_term q r x y)
          → IfErr done (RefusedOfBoth means ring_refuses twice_and_term q x y)
          → MakesTerm (MeansIn view) grew missing refuses a (with_ring d r) z (packed_above last k)
      one_packed {a} {b} {d} {q} {r} {x} {y} done {z} h k_made o p w m f =
          moved (one_more last i k lower within)
          (both_answered ring laws twice_and_term a d q r x y done (packed_above last i) (at k) (twice_and_term (packed_above last i) (at k)) z
          (one_by_one ring laws a b d x y _ _ h k_made) o p w m f refl (λ l. ((l.0, l.0), l.1)))
