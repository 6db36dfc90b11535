-- Packing bits from the highest on, one by one.
use Rattle.std.specs.List.{AllZip}
use Rattle.std.proofs.Common.{◌≡◌, ◌∙◌, ℕ, zero, suc, ◌-◌, ◌<◌, List, [], ◌∷◌, length, drop, get_or, refl, sym, ap, subst, arith}
use Rattle.air_field.specs.Term.{Term, add_term}
use Rattle.air_field.specs.Part.{Part, whole, in_add_left}
use Rattle.air_field.specs.laws.Part.{part_in}
use Rattle.air_field.specs.Algebra.{AlgebraLaws, MadeOf, MadeOfBoth, RefusedOf, RefusedOfBoth, double_term}
use Rattle.air_core.specs.Errors.{air_error}
use Rattle.air_field.specs.declared.errors.RingError.{RingError}
use Rattle.air_gadgets.specs.Errors.{AsAir}
use Rattle.air_gadgets.specs.Packing.{packed_from, packed_term, MadeOfPacked, RefusedOfPacked}

-- total means the terms from the i-th on, packed
pub record Holds {E F : Type 0} (means : E → Term F → Type 0) (i : ℕ) (total : E) (ts : List (Term F)) : Type 0 where
  pub u : Term F
  pub us : List (Term F)
  pub left : drop i ts ≡ u ∷ us
  pub total_means : means total (packed_from u us)

pub record IsPacking {R E F : Type 0} (has : R → E → Type 0) (means : R → E → Term F → Type 0) (extends : R → R → Type 0) (old new : R) (xs : List E) (i : ℕ) (total : E) : Type 0 where
  pub extended : extends old new
  pub total_in : has new total
  pub holds : (ts : List (Term F)) → AllZip (means old) xs ts → Holds (means new) i total ts

pub one_below : {R E F : Type 0} {has : R → E → Type 0} {means : R → E → Term F → Type 0} {extends : R → R → Type 0} {old new : R} {xs : List E} (i : ℕ) (total : E) → 0 < i
    → IsPacking has means extends old new xs i total → IsPacking has means extends old new xs (suc (i - 1)) total
one_below {has = has} {means = means} {extends = extends} {old = old} {new = new} {xs = xs} i total h p =
    let e : i ≡ suc (i - 1) = omega (arith, h) in
    subst (λ j. IsPacking has means extends old new xs j total) e p

-- the term at an index
pub record Placed {E F : Type 0} (means : E → Term F → Type 0) (i : ℕ) (x : E) (ts : List (Term F)) : Type 0 where
  pub t : Term F
  pub x_means : means x t
  pub place : drop i ts ≡ t ∷ drop (suc i) ts

placed : {E F : Type 0} (means : E → Term F → Type 0) (i : ℕ) (x : E) (xs : List E) (ts : List (Term F)) → AllZip means xs ts → i < length xs → x ≡ get_or xs i x → Placed means i x ts
placed means i x [] ts m h is = absurd (omega (arith, h))
placed means i x (y ∷ ys) [] m h is = absurd m
placed means zero x (y ∷ ys) (t ∷ ts) m h is = record { t = t; x_means = subst (λ z. means z t) (sym is) m.0; place = refl }
placed means (suc i) x (y ∷ ys) (t ∷ ts) m h is =
    let below : i < length ys = omega (arith, h) in
    let p = placed means i x ys ts m.1 below is in
    record { t = p.t; x_means = p.x_means; place = p.place }

past_all : {E F : Type 0} (means : E → Term F → Type 0) (i : ℕ) (xs : List E) (ts : List (Term F)) → AllZip means xs ts → suc i ≡ length xs → drop (suc i) ts ≡ []
past_all means i [] ts m h = absurd (omega (arith, h))
past_all means i (y ∷ ys) [] m h = absurd m
past_all means zero (y ∷ []) (t ∷ []) m h = refl
past_all means zero (y ∷ []) (t ∷ u ∷ us) m h = absurd m.1
past_all means zero (y ∷ x ∷ xs) (t ∷ ts) m h = absurd (omega (arith, h))
past_all means (suc i) (y ∷ ys) (t ∷ ts) m h = past_all means i ys ts m.1 (omega (arith, h))

none_more : {F : Type 0} (u : Term F) (us : List (Term F)) → [] ≡ u ∷ us → ⊥
none_more u us e = absurd cc

-- the terms packed from an index on are a part of the whole
part-packed : {F : Type 0} (none : F) (i : ℕ) (ts : List (Term F)) (u : Term F) (us : List (Term F)) → drop i ts ≡ u ∷ us → Part (packed_from u us) (packed_term none ts)
part-packed none zero ts u us e = subst (λ l. Part (packed_from u us) (packed_term none l)) (sym e) whole
part-packed none (suc i) [] u us e = absurd (none_more u us e)
part-packed none (suc i) (t ∷ ts) u us e = inside none i t ts u us e (part-packed none i ts u us e)
  where
    inside : {F : Type 0} (none : F) (i : ℕ) (t : Term F) (ts : List (Term F)) (u : Term F) (us : List (Term F)) → drop i ts ≡ u ∷ us → Part (packed_from u us) (packed_term none ts) → Part (packed_from u us) (packed_from t ts)
    inside none zero t [] u us e p = absurd (none_more u us e)
    inside none (suc i) t [] u us e p = absurd (none_more u us e)
    inside none i t (v ∷ vs) u us e p = in_add_left (in_add_left p)

module _ {R E F X : Type 0} {valid : R → Type 0} {has : R → E → Type 0} {means : R → E → Term F → Type 0} {extends : R → R → Type 0} {refuses : X → Term F → Type 0} (laws : AlgebraLaws valid has means extends refuses) (none : F) (xs : List E) where
  pub begin_packing : (p : R) (i : ℕ) (x : E) → suc i ≡ length xs → x ≡ get_or xs i x → has p x → IsPacking has means extends p p xs i x
  begin_packing p i x last is h = record {
    extended = laws.same p;
    total_in = h;
    holds = λ ts m.
        let at = placed (means p) i x xs ts m (omega (arith, last)) is in
        record { u = at.t; us = []; left = at.place ∙ ap (λ l. at.t ∷ l) (past_all (means p) i xs ts m last); total_means = at.x_means };
  }

  pub pack_one : (first p q s : R) (j : ℕ) (total twice x z : E) → j < length xs → x ≡ get_or xs j x → extends p q → extends q s
      → MadeOf has means double_term p q total twice → MadeOfBoth has means add_term q s twice x z
      → IsPacking has means extends first p xs (suc j) total → IsPacking has means extends first s xs j z
  pack_one first p q s j total twice x z inside is g k doubled added h = record {
    extended = laws.joined first p s h.extended (laws.joined p q s g k);
    total_in = added.0;
    holds = λ ts m.
        let at = placed (means first) j x xs ts m inside is in
        let l = h.holds ts m in
        record {
          u = at.t;
          us = l.u ∷ l.us;
          left = at.place ∙ ap (λ r. at.t ∷ r) l.left;
          total_means = added.1 (double_term (packed_from l.u l.us)) at.t (doubled.1 (packed_from l.u l.us) l.total_means)
              (laws.means_stays p q x at.t g (laws.means_stays first p x at.t h.extended at.x_means));
        };
  }

  pub end_packing : (first p : R) (total : E) → IsPacking has means extends first p xs 0 total → MadeOfPacked has means none first p xs total
  end_packing first p total h = (
    h.total_in,
    λ ts m.
        let l = h.holds ts m in
        subst (λ r. means p total (packed_term none r)) (sym l.left) l.total_means,
  )

  pub doubling_refused : (first p : R) (e : X) (j : ℕ) (total x : E) → j < length xs → x ≡ get_or xs j x → RefusedOf means refuses double_term p total e
      → IsPacking has means extends first p xs (suc j) total → RefusedOfPacked means refuses none first xs e
  doubling_refused first p e j total x inside is refused h ts m =
      let at = placed (means first) j x xs ts m inside is in
      let l = h.holds ts m in
      laws.refuses_whole e (double_term (packed_from l.u l.us)) (packed_term none ts)
      (part_in (in_add_left whole) (part-packed none j ts at.t (l.u ∷ l.us) (at.place ∙ ap (λ r. at.t ∷ r) l.left)))
      (refused (packed_from l.u l.us) l.total_means)

  pub adding_bit_refused : (first p q : R) (e : X) (j : ℕ) (total twice x : E) → j < length xs → x ≡ get_or xs j x → extends p q
      → MadeOf has means double_term p q total twice → RefusedOfBoth means refuses add_term q twice x e
      → IsPacking has means extends first p xs (suc j) total → RefusedOfPacked means refuses none first xs e
  adding_bit_refused first p q e j total twice x inside is g doubled refused h ts m =
      let at = placed (means first) j x xs ts m inside is in
      let l = h.holds ts m in
      laws.refuses_whole e (packed_from at.t (l.u ∷ l.us)) (packed_term none ts)
      (part-packed none j ts at.t (l.u ∷ l.us) (at.place ∙ ap (λ r. at.t ∷ r) l.left))
      (refused (double_term (packed_from l.u l.us)) at.t (doubled.1 (packed_from l.u l.us) l.total_means) (laws.means_stays p q x at.t g (laws.means_stays first p x at.t h.extended at.x_means)))

-- the ring's refusal as the call's error
pub packed_as_air : {R E F : Type 0} (means : R → E → Term F → Type 0) (refuses : RingError → Term F → Type 0) (none : F) (first : R) (xs : List E) (e : RingError)
    → RefusedOfPacked means refuses none first xs e → RefusedOfPacked means (AsAir refuses) none first xs (air_error e)
packed_as_air means refuses none first xs e h ts m = (e, refl, h ts m)
