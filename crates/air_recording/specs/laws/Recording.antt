-- A builder that records keeps the laws of builders.
use Rattle.std.specs.List.{AllZip}
use Rattle.std.specs.Prelude.{◌≡◌, List, [], ◌∷◌, ◌++◌, map, refl}
use Rattle.std.proofs.Common.{sym, ◌∙◌, ap, ap₂, subst, append_assoc}
use Rattle.std.proofs.lemmas.List.{append-nil, map-append}
use Rattle.air_field.specs.Term.{first_row, last_row, transition, Term, leaf_term, const_term, ext_const_term, add_term, sub_term, neg_term, mul_term, with_leaves}
use Rattle.air_field.specs.Degree.{cached_weight}
use Rattle.air_field.specs.Algebra.{AlgebraLaws}
use Rattle.air_field.specs.Assignment.{IsMissing}
use Rattle.air_field.specs.declared.errors.RingError.{RingError}
use Rattle.air_field.specs.declared.errors.RingError.TheVariants.{DegreeOverflow}
use Rattle.air_symbolic.specs.PoolRefusals.{PoolRefuses}
use Rattle.air_builder.specs.laws.Zips.{AllZip-joined, AllZip-weaker}
use Rattle.air_builder.specs.Assertion.{Assertion, Base, Extension}
use Rattle.air_builder.specs.Builders.{BuilderView, BuilderLaws}
use Rattle.air_builder.specs.laws.Refusals.{past_window_missing}
use Rattle.air_builder.specs.Extensions.{ExtensionView, ExtensionRingLaws}
use Rattle.air_builder.specs.Refused.{Refused}
use Rattle.air_builder.specs.laws.Refused.{Refused-first, Refused-then, Refused-missing, Refused-ring}
use Rattle.air_recording.specs.Kinds.{kind_of, base_terms, ext_terms}
use Rattle.air_recording.specs.Recording.{Fixed, Lists, with_base, with_ext, IsReady, KeptRecording, GrewRecording, OverflowsDegree}

-- a term with each leaf replaced by itself
pub with_leaves-same : {F : Type 0} (t : Term F) → with_leaves (λ l. leaf_term l) t ≡ t
with_leaves-same (leaf_term l) = refl
with_leaves-same (const_term c) = refl
with_leaves-same (ext_const_term c) = refl
with_leaves-same (add_term t u) = ap₂ (λ x y. add_term x y) (with_leaves-same t) (with_leaves-same u)
with_leaves-same (sub_term t u) = ap₂ (λ x y. sub_term x y) (with_leaves-same t) (with_leaves-same u)
with_leaves-same (neg_term t) = ap (λ x. neg_term x) (with_leaves-same t)
with_leaves-same (mul_term t u) = ap₂ (λ x y. mul_term x y) (with_leaves-same t) (with_leaves-same u)

over_ring : {F : Type 0} (e : RingError) (t : Term F) → PoolRefuses e (with_leaves (λ l. leaf_term l) t) → e ≡ DegreeOverflow → OverflowsDegree cached_weight t
over_ring e t h q = subst (λ v. PoolRefuses DegreeOverflow v) (with_leaves-same t) (subst (λ x. PoolRefuses x (with_leaves (λ l. leaf_term l) t)) q h)

base_terms-append : {F : Type 0} (xs ys : List (Assertion F)) → base_terms (xs ++ ys) ≡ base_terms xs ++ base_terms ys
base_terms-append [] ys = refl
base_terms-append (Base t ∷ xs) ys = ap (λ ts. t ∷ ts) (base_terms-append xs ys)
base_terms-append (Extension t ∷ xs) ys = base_terms-append xs ys

ext_terms-append : {F : Type 0} (xs ys : List (Assertion F)) → ext_terms (xs ++ ys) ≡ ext_terms xs ++ ext_terms ys
ext_terms-append [] ys = refl
ext_terms-append (Base t ∷ xs) ys = ext_terms-append xs ys
ext_terms-append (Extension t ∷ xs) ys = ap (λ ts. t ∷ ts) (ext_terms-append xs ys)

-- The base ring, with elements E, is under the pool, whose elements are X.
module _ {R Q E X F : Type 0}
    {valid : R → Type 0} {has : R → E → Type 0} {means : R → E → Term F → Type 0} {extends : R → R → Type 0}
    {ext_valid : Q → Type 0} {ext_has : Q → X → Type 0} {ext_means : Q → X → Term F → Type 0}
    {ext_extends : Q → Q → Type 0}
    (ring : AlgebraLaws valid has means extends PoolRefuses)
    (ext : AlgebraLaws ext_valid ext_has ext_means ext_extends PoolRefuses) (base_of : Q → R)
    (under : (p q : Q) → ext_extends p q → extends (base_of p) (base_of q)) where
  -- nothing was recorded
  pub recorded_none : (p q : Q) (s u : Fixed E) (a b : Lists E X) → ext_extends p q → u ≡ s → b ≡ a → GrewRecording (λ v x t. means (base_of v) x t) ext_means ext_extends p q s u a b []
  recorded_none p q s u a b g e h = record {
    keeps = record { pool = g; fixed = e };
    more_base = [];
    more_ext = [];
    base = ap (λ l. l.base) h ∙ sym (append-nil a.base);
    ext = ap (λ l. l.ext) h ∙ sym (append-nil a.ext);
    kinds = ap (λ l. l.kinds) h ∙ sym (append-nil a.kinds);
    each_base = tt;
    each_ext = tt;
  }

  -- one base assertion was recorded
  recorded_base_term : (p : Q) (s : Fixed E) (a b : Lists E X) (x : E) (t : Term F) → b ≡ with_base a x
      → means (base_of p) x (with_leaves (λ l. leaf_term l) t)
      → GrewRecording (λ v y u. means (base_of v) y u) ext_means ext_extends p p s s a b (Base t ∷ [])
  recorded_base_term p s a b x t e m = record {
    keeps = record { pool = ext.same p; fixed = refl };
    more_base = x ∷ [];
    more_ext = [];
    base = ap (λ l. l.base) e;
    ext = ap (λ l. l.ext) e ∙ sym (append-nil a.ext);
    kinds = ap (λ l. l.kinds) e;
    each_base = (subst (λ v. means (base_of p) x v) (with_leaves-same t) m, tt);
    each_ext = tt;
  }

  -- one extension assertion was recorded
  recorded_ext_term : (p : Q) (s : Fixed E) (a b : Lists E X) (x : X) (t : Term F) → b ≡ with_ext a x
      → ext_means p x (with_leaves (λ l. leaf_term l) t)
      → GrewRecording (λ v y u. means (base_of v) y u) ext_means ext_extends p p s s a b (Extension t ∷ [])
  recorded_ext_term p s a b x t e m = record {
    keeps = record { pool = ext.same p; fixed = refl };
    more_base = [];
    more_ext = x ∷ [];
    base = ap (λ l. l.base) e ∙ sym (append-nil a.base);
    ext = ap (λ l. l.ext) e;
    kinds = ap (λ l. l.kinds) e;
    each_base = tt;
    each_ext = (subst (λ v. ext_means p x v) (with_leaves-same t) m, tt);
  }

  pub recorded_base : (p : Q) (s : Fixed E) (a b : Lists E X) (x : E) (k : Assertion F) (t : Term F) → b ≡ with_base a x
      → k ≡ Base t → means (base_of p) x (with_leaves (λ l. leaf_term l) t)
      → GrewRecording (λ v y u. means (base_of v) y u) ext_means ext_extends p p s s a b (k ∷ [])
  recorded_base p s a b x k t e is m =
      subst (λ v. GrewRecording (λ v y u. means (base_of v) y u) ext_means ext_extends p p s s a b (v ∷ [])) (sym is)
      (recorded_base_term p s a b x t e m)

  pub recorded_ext : (p : Q) (s : Fixed E) (a b : Lists E X) (x : X) (k : Assertion F) (t : Term F) → b ≡ with_ext a x
      → k ≡ Extension t → ext_means p x (with_leaves (λ l. leaf_term l) t)
      → GrewRecording (λ v y u. means (base_of v) y u) ext_means ext_extends p p s s a b (k ∷ [])
  recorded_ext p s a b x k t e is m =
      subst (λ v. GrewRecording (λ v y u. means (base_of v) y u) ext_means ext_extends p p s s a b (v ∷ [])) (sym is)
      (recorded_ext_term p s a b x t e m)

  recorded_joined : (p q r : Q) (s u v : Fixed E) (a b c : Lists E X) (ts us : List (Assertion F))
      → GrewRecording (λ w x t. means (base_of w) x t) ext_means ext_extends p q s u a b ts
      → GrewRecording (λ w x t. means (base_of w) x t) ext_means ext_extends q r u v b c us
      → GrewRecording (λ w x t. means (base_of w) x t) ext_means ext_extends p r s v a c (ts ++ us)
  recorded_joined p q r s u v a b c ts us g h = record {
    keeps = record { pool = ext.joined p q r g.keeps.pool h.keeps.pool; fixed = h.keeps.fixed ∙ g.keeps.fixed };
    more_base = g.more_base ++ h.more_base;
    more_ext = g.more_ext ++ h.more_ext;
    base = h.base ∙ (ap (λ ws. ws ++ h.more_base) g.base ∙ append_assoc a.base g.more_base h.more_base);
    ext = h.ext ∙ (ap (λ ws. ws ++ h.more_ext) g.ext ∙ append_assoc a.ext g.more_ext h.more_ext);
    kinds = h.kinds ∙ (ap (λ ws. ws ++ map kind_of us) g.kinds ∙ (append_assoc a.kinds (map kind_of ts) (map kind_of us) ∙ ap (λ ws. a.kinds ++ ws) (sym (map-append kind_of ts us))));
    each_base = subst (λ ws. AllZip (means (base_of r)) (g.more_base ++ h.more_base) ws) (sym (base_terms-append ts us))
        (AllZip-joined (means (base_of r)) g.more_base h.more_base (base_terms ts) (base_terms us)
        (AllZip-weaker (means (base_of q)) (means (base_of r)) (λ x t. ring.means_stays (base_of q) (base_of r) x t (under q r h.keeps.pool)) g.more_base (base_terms ts) g.each_base)
        h.each_base);
    each_ext = subst (λ ws. AllZip (ext_means r) (g.more_ext ++ h.more_ext) ws) (sym (ext_terms-append ts us))
        (AllZip-joined (ext_means r) g.more_ext h.more_ext (ext_terms ts) (ext_terms us)
        (AllZip-weaker (ext_means q) (ext_means r) (λ x t. ext.means_stays q r x t h.keeps.pool) g.more_ext (ext_terms ts) g.each_ext)
        h.each_ext);
  }

  ready_stays : (p q : Q) (s u : Fixed E) → KeptRecording ext_extends p q s u → IsReady (ext_valid p) (means (base_of p)) s → IsReady (ext_valid q) (means (base_of q)) u
  ready_stays p q s u k h =
      let g = under p q k.pool in
      subst (λ v. IsReady (ext_valid q) (means (base_of q)) v) (sym k.fixed)
      record {
        pool = ext.valid_stays p q k.pool h.pool;
        selectors = record {
          first = ring.means_stays (base_of p) (base_of q) s.on_first_row (leaf_term first_row) g h.selectors.first;
          last = ring.means_stays (base_of p) (base_of q) s.on_last_row (leaf_term last_row) g h.selectors.last;
          step = ring.means_stays (base_of p) (base_of q) s.on_transition (leaf_term transition) g h.selectors.step;
        };
      }

  module _ {S : Type 0} (pool : S → Q) (with_ring : S → R → S) (fixed : S → Fixed E) (lists : S → Lists E X)
      (lent : (b : S) (r : R) → extends (base_of (pool b)) r → ext_extends (pool b) (pool (with_ring b r)))
      (ring_is : (b : S) (r : R) → base_of (pool (with_ring b r)) ≡ r)
      (fixed_is : (b : S) (r : R) → fixed (with_ring b r) ≡ fixed b)
      (lists_are : (b : S) (r : R) → lists (with_ring b r) ≡ lists b) where
    -- the view of a builder that records
    abbrev pub recording_view : BuilderView S R E F
    recording_view = record {
      valid = valid;
      has = has;
      means = means;
      extends = extends;
      ring_refuses = PoolRefuses;
      ring_of = λ b. base_of (pool b);
      with_ring = with_ring;
      reads_as = λ _ l. leaf_term l;
      ready = λ b. IsReady (ext_valid (pool b)) (means (base_of (pool b))) (fixed b);
      kept = λ a b. KeptRecording ext_extends (pool a) (pool b) (fixed a) (fixed b);
      grew = λ a b ts.
          GrewRecording (λ v x t. means (base_of v) x t) ext_means ext_extends (pool a) (pool b) (fixed a) (fixed b) (lists a) (lists b) ts;
      missing = λ b l. IsMissing (fixed b).shape l;
      refuses = λ b e ts. Refused (IsMissing (fixed b).shape) (OverflowsDegree cached_weight) (λ _. ⊥) e ts;
    }

    -- a builder that records keeps the laws
    pub recording_laws : BuilderLaws recording_view
    recording_laws = record {
      same = λ a. recorded_none (pool a) (pool a) (fixed a) (fixed a) (lists a) (lists a) (ext.same (pool a)) refl refl;
      joined = λ a b c xs ys g h. recorded_joined (pool a) (pool b) (pool c) (fixed a) (fixed b) (fixed c) (lists a) (lists b) (lists c) xs ys g h;
      ring_lent = λ a r e. recorded_none (pool a) (pool (with_ring a r)) (fixed a) (fixed (with_ring a r)) (lists a) (lists (with_ring a r)) (lent a r e) (fixed_is a r) (lists_are a r);
      ring_with = ring_is;
      ring_valid = λ a h. ring.has_valid (base_of (pool a)) (fixed a).on_first_row (ring.means_has (base_of (pool a)) (fixed a).on_first_row (leaf_term first_row) h.selectors.first);
      by_growth = λ a b xs g. g.keeps;
      kept_joined = λ a b c g h. record { pool = ext.joined (pool a) (pool b) (pool c) g.pool h.pool; fixed = h.fixed ∙ g.fixed };
      ring_kept = λ a b k. under (pool a) (pool b) k.pool;
      reads_as_kept = λ a b k. refl;
      ready_kept = λ a b k h. ready_stays (pool a) (pool b) (fixed a) (fixed b) k h;
      missing_kept = λ a b l k h. subst (λ v. IsMissing v.shape l) k.fixed h;
      missing_stays = λ a b l k h. subst (λ v. IsMissing v.shape l) (sym k.fixed) h;
      past_window = λ a o l h. past_window_missing (fixed a).shape o l h;
      has_first_row = λ a h. h;
      has_last_row = λ a h. h;
      has_transition = λ a h. h;
      refuses_first = λ a e xs ys h. Refused-first (IsMissing (fixed a).shape) (OverflowsDegree cached_weight) (λ _. ⊥) e xs ys (λ f. f) h;
      refuses_then = λ a b e xs ys g h.
          subst (λ v. Refused (IsMissing v.shape) (OverflowsDegree cached_weight) (λ _. ⊥) e (xs ++ ys)) g.keeps.fixed
          (Refused-then (IsMissing (fixed b).shape) (OverflowsDegree cached_weight) (λ _. ⊥) (λ _. ⊥) e xs ys (λ f. f) h);
      refuses_in_ring = λ a e t ts h p. Refused-ring (IsMissing (fixed a).shape) (OverflowsDegree cached_weight) (λ _. ⊥) e t ts (over_ring e t h) p;
      refuses_missing = λ a e l ts m n p. Refused-missing (IsMissing (fixed a).shape) (OverflowsDegree cached_weight) (λ _. ⊥) e l ts m n p;
    }

    -- the laws of builders over the extension: the base of the pool is the builder's ring
    module _ {base_has : Q → E → Type 0} {base_means : Q → E → Term F → Type 0} (with_ext_ring : S → Q → S)
        (ext_ring_is : (b : S) (q : Q) → pool (with_ext_ring b q) ≡ q)
        (fixed_stays : (b : S) (q : Q) → fixed (with_ext_ring b q) ≡ fixed b)
        (lists_stay : (b : S) (q : Q) → lists (with_ext_ring b q) ≡ lists b)
        (has_base : (q : Q) (x : E) → ext_valid q → has (base_of q) x → base_has q x)
        (means_base : (q : Q) (x : E) (t : Term F) → ext_valid q → means (base_of q) x t → base_means q x t) where
      abbrev pub recording_over : ExtensionView S Q E X F
      recording_over = record {
        valid = ext_valid;
        has = ext_has;
        means = ext_means;
        extends = ext_extends;
        ring_refuses = PoolRefuses;
        base_has = base_has;
        base_means = base_means;
        ring_of = pool;
        with_ring = with_ext_ring;
      }

      pub recording_ext_laws : ExtensionRingLaws recording_view recording_over
      recording_ext_laws = record {
        ext_ring_lent = λ a q e. recorded_none (pool a) (pool (with_ext_ring a q)) (fixed a)
            (fixed (with_ext_ring a q)) (lists a) (lists (with_ext_ring a q))
            (subst (λ v. ext_extends (pool a) v) (sym (ext_ring_is a q)) e) (fixed_stays a q) (lists_stay a q);
        ext_ring_with = ext_ring_is;
        ext_ring_valid = λ a h. h.pool;
        ext_ring_kept = λ a b k. k.pool;
        has_base = λ a x h m. has_base (pool a) x h.pool m;
        means_base = λ a x t h m. means_base (pool a) x t h.pool m;
        refuses_in_ext_ring = λ a e t ts h p. Refused-ring (IsMissing (fixed a).shape) (OverflowsDegree cached_weight) (λ _. ⊥) e t ts (over_ring e t h) p;
      }
