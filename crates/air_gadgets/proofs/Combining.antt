-- Summing weighted columns from the left, one by one.
use Rattle.std.proofs.Common.{◌≡◌, ◌∙◌, ℕ, suc, ◌+◌, ◌<◌, List, [], ◌∷◌, Some, All, length, map, drop, get_or, slice_get, refl, sym, ap, subst, drop-cons, add-one}
use Rattle.std.proofs.lemmas.Option.{slice_get_within, get_or_from_slice_get}
use Rattle.std.proofs.lemmas.List.Elements.{All-get_or}
use Rattle.air_field.specs.Term.{Term, const_term, add_term}
use Rattle.air_field.specs.Part.{Part, whole, in_add_left, in_add_right}
use Rattle.air_field.specs.Algebra.{AlgebraLaws, Made, MadeOf, MadeOfBoth, RefusedOf, RefusedOfBoth, scaled_term}
use Rattle.air_field.specs.Joins.{join_from}
use Rattle.air_core.specs.Errors.{air_error}
use Rattle.air_field.specs.declared.errors.RingError.{RingError}
use Rattle.air_gadgets.specs.Errors.{AsAir}
use Rattle.air_gadgets.specs.declared.columns.pair_col.PairCol.{PairCol}
use Rattle.air_gadgets.specs.declared.columns.pair_col.PairCol.TheVariants.{Preprocessed, Main}
use Rattle.air_gadgets.specs.Columns.{entry_of, Combination, combined_term, ColumnsMean, MadeOfColumns, RefusedOfColumns}

-- the terms of the remaining columns
abbrev pub terms_left : {F : Type 0} → (PairCol → Term F) → List (PairCol × F) → List (Term F)
terms_left at left = map (λ w. scaled_term w.1 (at w.0)) left

-- total means a term, and adding the remaining columns to it gives the goal
pub record Led {E F : Type 0} (means : E → Term F → Type 0) (at : PairCol → Term F) (total : E) (left : List (PairCol × F)) (goal : Term F) : Type 0 where
  pub t : Term F
  pub total_means : means total t
  pub joined : join_from add_term t (terms_left at left) ≡ goal

-- total is the sum so far, and `left` remains
pub record IsCombining {R E F : Type 0} (has : R → E → Type 0) (means : R → E → Term F → Type 0) (extends : R → R → Type 0) (old new : R) (c : Combination F) (preprocessed main : List E) (total : E) (left : List (PairCol × F)) : Type 0 where
  pub extended : extends old new
  pub total_in : has new total
  pub leads : (at : PairCol → Term F) → ColumnsMean (means old) at preprocessed main → Led (means new) at total left (combined_term at c)

-- a part of the first summand is a part of the sum
part-join_from : {F : Type 0} (s t : Term F) (us : List (Term F)) → Part s t → Part s (join_from add_term t us)
part-join_from s t [] h = h
part-join_from s t (u ∷ us) h = part-join_from s (add_term t u) us (in_add_left h)

listed_in : {E : Type 0} (P : E → Type 0) (xs : List E) (i : ℕ) (x : E) → All P xs → slice_get xs i ≡ Some x → P x
listed_in P xs i x h is = subst P (get_or_from_slice_get xs i x x is) (All-get_or P xs i x (slice_get_within xs i x is) h)

-- the entry in a column is one of the elements
pub entry_in : {E : Type 0} (P : E → Type 0) (column : PairCol) (preprocessed main : List E) (x : E) → All P preprocessed → All P main → entry_of column preprocessed main ≡ Some x → P x
entry_in P (Preprocessed i) preprocessed main x h k is = listed_in P preprocessed i x h is
entry_in P (Main i) preprocessed main x h k is = listed_in P main i x k is

pub drop_item : {X : Type 0} (l : List X) (i : ℕ) (x : X) → i < length l → x ≡ get_or l i x → drop i l ≡ x ∷ drop (i + 1) l
drop_item l i x h is = drop-cons l i x h ∙ (ap (λ y. y ∷ drop (suc i) l) (sym is) ∙ ap (λ n. x ∷ drop n l) (sym (add-one i)))

-- the elements of a ring stay elements
pub stays_in : {R E F X : Type 0} {valid : R → Type 0} {has : R → E → Type 0} {means : R → E → Term F → Type 0} {extends : R → R → Type 0} {refuses : X → Term F → Type 0} → AlgebraLaws valid has means extends refuses
    → (p q : R) (xs : List E) → extends p q → All (has p) xs → All (has q) xs
stays_in laws p q xs g h k d lt = laws.has_stays p q _ g (h k d lt)

module _ {R E F X : Type 0} {valid : R → Type 0} {has : R → E → Type 0} {means : R → E → Term F → Type 0} {extends : R → R → Type 0} {refuses : X → Term F → Type 0} (laws : AlgebraLaws valid has means extends refuses) (c : Combination F) (preprocessed main : List E) where
  pub begin_combining : (p q : R) (z : E) → extends p q → Made has means (const_term c.constant) q z → IsCombining has means extends p q c preprocessed main z c.weights
  begin_combining p q z g made = record {
    extended = g;
    total_in = made.0;
    leads = λ at m. record { t = const_term c.constant; total_means = made.1; joined = refl };
  }

  pub combine_one : (first p q s : R) (column : PairCol) (weight : F) (total x scaled z : E) (left : List (PairCol × F)) → entry_of column preprocessed main ≡ Some x
      → extends p q → extends q s → MadeOf has means (scaled_term weight) p q x scaled → MadeOfBoth has means add_term q s total scaled z
      → IsCombining has means extends first p c preprocessed main total ((column, weight) ∷ left) → IsCombining has means extends first s c preprocessed main z left
  combine_one first p q s column weight total x scaled z left is g k scaled_made made h = record {
    extended = laws.joined first p s h.extended (laws.joined p q s g k);
    total_in = made.0;
    leads = λ at m.
        let l = h.leads at m in
        record {
          t = add_term l.t (scaled_term weight (at column));
          total_means = made.1 l.t (scaled_term weight (at column)) (laws.means_stays p q total l.t g l.total_means) (scaled_made.1 (at column) (laws.means_stays first p x (at column) h.extended (m column x is)));
          joined = l.joined;
        };
  }

  pub end_combining : (first p : R) (total : E) → IsCombining has means extends first p c preprocessed main total [] → MadeOfColumns has means first p c preprocessed main total
  end_combining first p total h = (
    h.total_in,
    λ at m.
        let l = h.leads at m in
        subst (means p total) l.joined l.total_means,
  )

  pub scaling_refused : (first p : R) (e : X) (column : PairCol) (weight : F) (total x : E) (left : List (PairCol × F)) → entry_of column preprocessed main ≡ Some x
      → RefusedOf means refuses (scaled_term weight) p x e → IsCombining has means extends first p c preprocessed main total ((column, weight) ∷ left) → RefusedOfColumns means refuses first c preprocessed main e
  scaling_refused first p e column weight total x left is refused h at m =
      let l = h.leads at m in
      let one = scaled_term weight (at column) in
      laws.refuses_whole e one (combined_term at c)
      (subst (Part one) l.joined (part-join_from one (add_term l.t one) (terms_left at left) (in_add_right whole)))
      (refused (at column) (laws.means_stays first p x (at column) h.extended (m column x is)))

  pub adding_refused : (first p q : R) (e : X) (column : PairCol) (weight : F) (total x scaled : E) (left : List (PairCol × F)) → entry_of column preprocessed main ≡ Some x
      → extends p q → MadeOf has means (scaled_term weight) p q x scaled → RefusedOfBoth means refuses add_term q total scaled e
      → IsCombining has means extends first p c preprocessed main total ((column, weight) ∷ left) → RefusedOfColumns means refuses first c preprocessed main e
  adding_refused first p q e column weight total x scaled left is g scaled_made refused h at m =
      let l = h.leads at m in
      let sum = add_term l.t (scaled_term weight (at column)) in
      laws.refuses_whole e sum (combined_term at c)
      (subst (Part sum) l.joined (part-join_from sum sum (terms_left at left) whole))
      (refused l.t (scaled_term weight (at column)) (laws.means_stays p q total l.t g l.total_means) (scaled_made.1 (at column) (laws.means_stays first p x (at column) h.extended (m column x is))))

  part-join_first : (at : PairCol → Term F) → Part (const_term c.constant) (combined_term at c)
  part-join_first at = part-join_from (const_term c.constant) (const_term c.constant) (terms_left at c.weights) whole

  pub beginning_refused : (first : R) (e : X) → refuses e (const_term c.constant) → RefusedOfColumns means refuses first c preprocessed main e
  beginning_refused first e refused at m = laws.refuses_whole e (const_term c.constant) (combined_term at c) (part-join_first at) refused

-- the ring's refusal as the call's error
pub columns_as_air : {R E F : Type 0} (means : R → E → Term F → Type 0) (refuses : RingError → Term F → Type 0) (first : R) (c : Combination F) (preprocessed main : List E) (e : RingError)
    → RefusedOfColumns means refuses first c preprocessed main e → RefusedOfColumns means (AsAir refuses) first c preprocessed main (air_error e)
columns_as_air means refuses first c preprocessed main e h at m = (e, refl, h at m)
