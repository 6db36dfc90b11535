-- The laws that a filter keeps of the builder inside.
use Rattle.std.specs.Prelude.{◌≡◌, List, [], ◌++◌, map, refl}
use Rattle.std.proofs.Common.{sym, ◌∙◌, ap, subst}
use Rattle.std.proofs.lemmas.List.{map-append}
use Rattle.air_field.specs.Term.{Term, leaf_term, with_leaves}
use Rattle.air_core.specs.declared.errors.AirError.{AirError}
use Rattle.air_builder.specs.Assertion.{Assertion, filter_by}
use Rattle.air_builder.specs.Builders.{MeansIn, BuilderView, RingLaws, BuilderLaws}
use Rattle.air_builder.specs.laws.Refusals.{PartOf-filtered}
use Rattle.air_builder.specs.Filters.{GrewUnder, GrewInside, RefusesInside, filter_view}

module _ {S R E F : Type 0} {view : BuilderView S R E F} (ring : RingLaws view) (laws : BuilderLaws view) where
  open view use {has, means, extends, ring_of, with_ring, reads_as, kept, grew, refuses}

  -- an element still means its term
  pub means_kept : (a b : S) (x : E) (t : Term F) → kept a b → MeansIn view a x t → MeansIn view b x t
  means_kept a b x t k m =
      subst (λ s. means (ring_of b) x (with_leaves s t)) (sym (laws.reads_as_kept a b k))
      (ring.means_stays (ring_of a) (ring_of b) x (with_leaves (reads_as a) t) (laws.ring_kept a b k) m)

  -- an element of the ring is still in it
  pub has_kept : (a b : S) (x : E) → kept a b → has (ring_of a) x → has (ring_of b) x
  has_kept a b x k h = ring.has_stays (ring_of a) (ring_of b) x (laws.ring_kept a b k) h

  -- an element that the lent ring made means its term afterwards
  pub means_lent : (a : S) (r : R) (x : E) (t : Term F) → extends (ring_of a) r
      → means r x (with_leaves (reads_as a) t) → MeansIn view (with_ring a r) x t
  means_lent a r x t e m =
      subst (λ s. means (ring_of (with_ring a r)) x (with_leaves s t))
      (sym (laws.reads_as_kept a (with_ring a r) (laws.by_growth a (with_ring a r) [] (laws.ring_lent a r e))))
      (subst (λ q. means q x (with_leaves (reads_as a) t)) (sym (laws.ring_with a r)) m)

  -- an error that the filter may give, the builder inside may give under the condition
  pub refused_filter : (x : E) (a i : S) (e : AirError) (us ts : List (Assertion F)) (t : Term F) → grew a i us
      → MeansIn view i x t → RefusesInside view x i e ts → refuses a e (us ++ map (filter_by t) ts)
  refused_filter x a i e us ts t u p h = laws.refuses_then a i e us (map (filter_by t) ts) u (h t p)

  -- for a list of any kind, assertions or labelled ones
  module _ {A N : Type 0} (under : Term F → A → A) {grown : S → S → List A → Type 0}
      (joined : (a b c : S) (xs ys : List A) → grown a b xs → grown b c ys → grown a c (xs ++ ys)) where
    -- growth in a filter by one list and then by another
    pub under_joined : (n m k : N) (x y z : E) (a b c : S) (xs ys : List A)
        → GrewUnder under kept grown (MeansIn view) n m x y a b xs → GrewUnder under kept grown (MeansIn view) m k y z b c ys
        → GrewUnder under kept grown (MeansIn view) n k x z a c (xs ++ ys)
    under_joined n m k x y z a b c xs ys g h = record {
      keeps = record {
        same_reference = h.keeps.same_reference ∙ g.keeps.same_reference;
        same_condition = h.keeps.same_condition ∙ g.keeps.same_condition;
        inside = laws.kept_joined a b c g.keeps.inside h.keeps.inside;
      };
      by = λ t m. subst (λ zs. grown a c zs) (sym (map-append (under t) xs ys))
          (joined a b c (map (under t) xs) (map (under t) ys) (g.by t m)
          (h.by t (subst (λ e. MeansIn view b e t) (sym g.keeps.same_condition) (means_kept a b x t g.keeps.inside m))));
    }

  module _ {N : Type 0} where
    -- the join of growth, for assertions
    pub inside_joined : (n m k : N) (x y z : E) (a b c : S) (xs ys : List (Assertion F))
        → GrewInside view n m x y a b xs → GrewInside view m k y z b c ys
        → GrewInside view n k x z a c (xs ++ ys)
    inside_joined = under_joined filter_by laws.joined

    -- an error that the filter may give after growth, it may give before
    pub inside_refused : (n m : N) (x y : E) (a b : S) (e : AirError) (xs ys : List (Assertion F))
        → GrewInside view n m x y a b xs → RefusesInside view y b e ys
        → RefusesInside view x a e (xs ++ ys)
    inside_refused n m x y a b e xs ys g h c p =
        subst (λ zs. refuses a e zs) (sym (map-append (filter_by c) xs ys))
        (laws.refuses_then a b e (map (filter_by c) xs) (map (filter_by c) ys) (g.by c p)
        (h c (subst (λ w. MeansIn view b w c) (sym g.keeps.same_condition) (means_kept a b x c g.keeps.inside p))))

    -- a builder after a filter on it is done
    pub after_filter : (n m : N) (x y : E) (a b i j : S) (us ts : List (Assertion F)) (t : Term F) → grew a i us
        → MeansIn view i x t → GrewInside view n m x y i j ts → b ≡ j → grew a b (us ++ map (filter_by t) ts)
    after_filter n m x y a b i j us ts t u p g e =
        subst (λ s. grew a s (us ++ map (filter_by t) ts)) (sym e) (laws.joined a i j us (map (filter_by t) ts) u (g.by t p))

  module _ {N P : Type 0} (inner : P → S) (name : P → N) (condition : P → E) (with_inner : P → S → P)
      (inner_is : (p : P) (s : S) → inner (with_inner p s) ≡ s)
      (name_is : (p : P) (s : S) → name (with_inner p s) ≡ name p)
      (condition_is : (p : P) (s : S) → condition (with_inner p s) ≡ condition p) where
    -- a filter keeps the laws of the builder inside
    pub filter_laws : BuilderLaws (filter_view view inner name condition with_inner)
    filter_laws = record {
      same = λ p. record {
        keeps = record {
          same_reference = refl;
          same_condition = refl;
          inside = laws.by_growth (inner p) (inner p) [] (laws.same (inner p));
        };
        by = λ c m. laws.same (inner p);
      };
      joined = λ p q s xs ys g h. inside_joined (name p) (name q) (name s) (condition p) (condition q) (condition s) (inner p) (inner q) (inner s) xs ys g h;
      ring_lent = λ p r e.
          let lent = with_ring (inner p) r in
          let g : grew (inner p) (inner (with_inner p lent)) [] = subst (λ s. grew (inner p) s []) (sym (inner_is p lent)) (laws.ring_lent (inner p) r e) in
          record {
            keeps = record {
              same_reference = name_is p lent;
              same_condition = condition_is p lent;
              inside = laws.by_growth (inner p) (inner (with_inner p lent)) [] g;
            };
            by = λ c m. g;
          };
      ring_with = λ p r. ap ring_of (inner_is p (with_ring (inner p) r)) ∙ laws.ring_with (inner p) r;
      ring_valid = λ p h. laws.ring_valid (inner p) h.0;
      by_growth = λ p q xs g. g.keeps;
      kept_joined = λ p q s g h. record {
        same_reference = h.same_reference ∙ g.same_reference;
        same_condition = h.same_condition ∙ g.same_condition;
        inside = laws.kept_joined (inner p) (inner q) (inner s) g.inside h.inside;
      };
      ring_kept = λ p q g. laws.ring_kept (inner p) (inner q) g.inside;
      reads_as_kept = λ p q g. laws.reads_as_kept (inner p) (inner q) g.inside;
      ready_kept = λ p q g h. (
        laws.ready_kept (inner p) (inner q) g.inside h.0,
        subst (λ x. has (ring_of (inner q)) x) (sym g.same_condition) (has_kept (inner p) (inner q) (condition p) g.inside h.1),
      );
      missing_kept = λ p q l g h. laws.missing_kept (inner p) (inner q) l g.inside h;
      missing_stays = λ p q l g h. laws.missing_stays (inner p) (inner q) l g.inside h;
      past_window = λ p o l h. laws.past_window (inner p) o l h;
      has_first_row = λ p h. laws.has_first_row (inner p) h;
      has_last_row = λ p h. laws.has_last_row (inner p) h;
      has_transition = λ p h. laws.has_transition (inner p) h;
      refuses_first = λ p e xs ys h c m. subst (λ zs. refuses (inner p) e zs) (sym (map-append (filter_by c) xs ys))
          (laws.refuses_first (inner p) e (map (filter_by c) xs) (map (filter_by c) ys) (h c m));
      refuses_then = λ p q e xs ys g h. inside_refused (name p) (name q) (condition p) (condition q) (inner p) (inner q) e xs ys g h;
      refuses_in_ring = λ p e t ts h b c m. laws.refuses_in_ring (inner p) e t (map (filter_by c) ts) h (PartOf-filtered c t ts b);
      refuses_missing = λ p e l ts h n b c m. laws.refuses_missing (inner p) e l (map (filter_by c) ts) h n (PartOf-filtered c (leaf_term l) ts b);
    }
