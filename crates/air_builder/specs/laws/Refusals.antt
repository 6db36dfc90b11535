-- Where no leaf is missing, no term names one; and a filter keeps the parts of assertions.
use Rattle.std.specs.Prelude.{◌≡◌, ℕ, List, [], ◌∷◌, map}
use Rattle.std.proofs.Common.{inl, inr, refl, sym, subst, zero, suc, arith}
use Rattle.air_field.specs.Term.{Leaf, Term, leaf_term}
use Rattle.air_field.specs.Assignment.{Shape, IsMissing}
use Rattle.air_field.specs.Part.{Part, whole, in_add_left, in_add_right, in_sub_left, in_sub_right, in_neg, in_mul_left, in_mul_right}
use Rattle.air_builder.specs.Assertion.{Assertion, Base, Extension, filter_by}
use Rattle.air_builder.specs.Refusals.{IsPastWindow, PartOfOne, PartOf, NoneMissing, EachLeaf, EachLeafOf}

leaf_of_part : {F : Type 0} (P : Leaf → Type 0) (l : Leaf) {t u : Term F} → Part t u → t ≡ leaf_term l → EachLeaf P u → P l
leaf_of_part P l whole e h = subst (λ v. EachLeaf P v) e h
leaf_of_part P l (in_add_left p) e h = leaf_of_part P l p e h.0
leaf_of_part P l (in_add_right p) e h = leaf_of_part P l p e h.1
leaf_of_part P l (in_sub_left p) e h = leaf_of_part P l p e h.0
leaf_of_part P l (in_sub_right p) e h = leaf_of_part P l p e h.1
leaf_of_part P l (in_neg p) e h = leaf_of_part P l p e h
leaf_of_part P l (in_mul_left p) e h = leaf_of_part P l p e h.0
leaf_of_part P l (in_mul_right p) e h = leaf_of_part P l p e h.1

-- where no leaf is missing, no term names a missing one
pub none_missing : {F : Type 0} (missing : Leaf → Type 0) (ts : List (Assertion F)) → EachLeafOf (λ l. missing l → ⊥) ts → NoneMissing missing ts
none_missing missing [] h l m p = p
none_missing missing (Base t ∷ rest) h l m (inl p) = leaf_of_part (λ k. missing k → ⊥) l p refl h.0 m
none_missing missing (Extension t ∷ rest) h l m (inl p) = leaf_of_part (λ k. missing k → ⊥) l p refl h.0 m
none_missing missing (Base t ∷ rest) h l m (inr p) = none_missing missing rest h.1 l m p
none_missing missing (Extension t ∷ rest) h l m (inr p) = none_missing missing rest h.1 l m p

part_filtered : {F : Type 0} (c t : Term F) (a : Assertion F) → PartOfOne t a → PartOfOne t (filter_by c a)
part_filtered c t (Base u) p = in_mul_right p
part_filtered c t (Extension u) p = in_mul_left p

pub PartOf-filtered : {F : Type 0} (c t : Term F) (ts : List (Assertion F)) → PartOf t ts → PartOf t (map (filter_by c) ts)
PartOf-filtered c t [] p = p
PartOf-filtered c t (a ∷ rest) (inl p) = inl (part_filtered c t a p)
PartOf-filtered c t (a ∷ rest) (inr p) = inr (PartOf-filtered c t rest p)

-- a column of a row past the window has no entry in any shape
pub past_window_missing : (s : Shape) (o : ℕ) (l : Leaf) → IsPastWindow o l → IsMissing s l
past_window_missing s (suc (suc o)) l (lt, i, inl e) = subst (λ k. IsMissing s k) (sym e) tt
past_window_missing s (suc (suc o)) l (lt, i, inr e) = subst (λ k. IsMissing s k) (sym e) tt
past_window_missing s (suc zero) l (lt, i, h) = absurd (omega (arith, lt))
past_window_missing s zero l (lt, i, h) = absurd (omega (arith, lt))
