-- The laws of a named builder that discards labels, and of a named builder under a filter.
use Rattle.std.specs.Prelude.{◌≡◌, List, [], ◌∷◌, map, refl}
use Rattle.std.proofs.Common.{sym, ap, subst}
use Rattle.air_field.specs.Term.{Term}
use Rattle.air_builder.specs.Assertion.{filter_by}
use Rattle.air_builder.specs.Builders.{BuilderView, RingLaws, BuilderLaws}
use Rattle.air_builder.specs.Filters.{GrewInside}
use Rattle.air_builder.specs.laws.Filters.{under_joined}
use Rattle.air_builder.specs.laws.Labels.{without_labels-append}
use Rattle.air_builder.specs.Labels.{Labelled, without_labels, GrewWithoutLabels, NamedLaws}
use Rattle.air_builder.specs.NamedFilters.{filtered_label, LabelledInside}

without_labels-filtered : {F : Type 0} (c : Term F) (ls : List (Labelled F)) → without_labels (map (filtered_label c) ls) ≡ map (filter_by c) (without_labels ls)
without_labels-filtered c [] = refl
without_labels-filtered c (l ∷ ls) = ap (λ zs. filter_by c l.0 ∷ zs) (without_labels-filtered c ls)

module _ {S R E F : Type 0} {view : BuilderView S R E F} (laws : BuilderLaws view) where
  open view use {grew}

  -- a builder that discards labels
  pub discarding_laws : NamedLaws grew (GrewWithoutLabels grew)
  discarding_laws = record {
    labelled_nothing = λ a b g. g;
    labelled_joined = λ a b c xs ys g h. subst (λ zs. grew a c zs) (sym (without_labels-append xs ys)) (laws.joined a b c (without_labels xs) (without_labels ys) g h);
    labelled_grew = λ a b xs g. g;
  }

module _ {S R E F : Type 0} {view : BuilderView S R E F} {labelled : S → S → List (Labelled F) → Type 0}
    (ring : RingLaws view) (laws : BuilderLaws view) (named : NamedLaws view.grew labelled) where
  open view use {grew}

  module _ {N : Type 0} where
    inside_grew : (n m : N) (x y : E) (a b : S) (ls : List (Labelled F))
        → LabelledInside view labelled n m x y a b ls
        → GrewInside view n m x y a b (without_labels ls)
    inside_grew n m x y a b ls g = record {
      keeps = g.keeps;
      by = λ t k. subst (λ zs. grew a b zs) (without_labels-filtered t ls) (named.labelled_grew a b (map (filtered_label t) ls) (g.by t k));
    }

  module _ {N P : Type 0} (inner : P → S) (name : P → N) (condition : P → E) where
    -- a filter keeps the laws of the named builder inside
    pub named_filter_laws : NamedLaws
        (λ p q ts. GrewInside view (name p) (name q) (condition p) (condition q) (inner p)
        (inner q) ts)
        (λ p q ls. LabelledInside view labelled (name p) (name q) (condition p) (condition q)
        (inner p) (inner q) ls)
    named_filter_laws = record {
      labelled_nothing = λ p q g. record { keeps = g.keeps; by = λ c m. named.labelled_nothing (inner p) (inner q) (g.by c m) };
      labelled_joined = λ p q s xs ys g h. under_joined ring laws filtered_label named.labelled_joined
          (name p) (name q) (name s) (condition p) (condition q) (condition s) (inner p) (inner q) (inner s) xs ys g h;
      labelled_grew = λ p q ls g. inside_grew (name p) (name q) (condition p) (condition q) (inner p) (inner q) ls g;
    }
