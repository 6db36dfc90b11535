-- A builder that holds the values of one row keeps the laws of builders.
use Rattle.std.specs.Prelude.{◌≡◌, ⊤, List, [], ◌++◌}
use Rattle.std.proofs.Common.{sym, ◌∙◌, ap, subst}
use Rattle.air_field.specs.Term.{Leaf, Term, leaf_term}
use Rattle.air_field.specs.Assignment.{Shape, IsMissing}
use Rattle.air_core.specs.declared.errors.AirError.{AirError}
use Rattle.air_builder.specs.Assertion.{Assertion}
use Rattle.air_builder.specs.Builders.{BuilderView, BuilderLaws}
use Rattle.air_builder.specs.Extensions.{ExtensionView, ExtensionRingLaws}
use Rattle.air_builder.specs.Refusals.{NamesLeaf, PartOf}
use Rattle.air_builder.specs.laws.Refusals.{past_window_missing}

module _ {S D F : Type 0} (row : S → D) (shape : D → Shape) (reads_as : D → Leaf → Term F)
    (grew : S → S → List (Assertion F) → Type 0) (refuses : S → AirError → List (Assertion F) → Type 0) where
  -- the builder's view: the row never changes, an entry outside the row's shape is missing, and the ring accepts every
  -- element and refuses nothing
  abbrev pub row_view : {R V : Type 0} → (S → R) → (S → R → S) → (V → Term F → Type 0) → BuilderView S R V F
  row_view ring_of with_ring means = record {
    valid = λ _. ⊤;
    has = λ _ _. ⊤;
    means = λ _ x t. means x t;
    extends = λ _ _. ⊤;
    ring_refuses = λ _ _. ⊥;
    ring_of = ring_of;
    with_ring = with_ring;
    reads_as = λ b. reads_as (row b);
    ready = λ _. ⊤;
    kept = λ a b. row b ≡ row a;
    grew = grew;
    missing = λ b l. IsMissing (shape (row b)) l;
    refuses = refuses;
  }

  -- the view of its ring over the extension
  abbrev pub row_over : {R V W : Type 0} → (S → R) → (S → R → S) → (V → Term F → Type 0) → (W → Term F → Type 0) → ExtensionView S R V W F
  row_over {R = R} {V = V} ring_of with_ring base_means means =
      let view = row_view ring_of with_ring means in
      record {
        valid = view.valid;
        has = view.has;
        means = view.means;
        extends = view.extends;
        ring_refuses = view.ring_refuses;
        base_has = λ _ _. ⊤;
        base_means = λ _ x t. base_means x t;
        ring_of = ring_of;
        with_ring = with_ring;
      }

  -- the laws that such a builder must prove itself
  pub record GrowsAtRow : Type 0 where
    pub same : (a : S) → grew a a []
    pub joined : (a b c : S) (xs ys : List (Assertion F)) → grew a b xs → grew b c ys → grew a c (xs ++ ys)
    pub same_row : (a b : S) (xs : List (Assertion F)) → grew a b xs → row b ≡ row a
    pub refuses_first : (a : S) (e : AirError) (xs ys : List (Assertion F)) → refuses a e xs → refuses a e (xs ++ ys)
    pub refuses_then : (a b : S) (e : AirError) (xs ys : List (Assertion F)) → grew a b xs → refuses b e ys → refuses a e (xs ++ ys)
    pub refuses_missing : (a : S) (e : AirError) (l : Leaf) (ts : List (Assertion F))
        → IsMissing (shape (row a)) l → NamesLeaf e l → PartOf (leaf_term l) ts → refuses a e ts

  module _ {R V : Type 0} (ring_of : S → R) (with_ring : S → R → S) (lent : (a : S) (r : R) → grew a (with_ring a r) [])
      (ring_is : (a : S) (r : R) → ring_of (with_ring a r) ≡ r) {means : V → Term F → Type 0} where
    pub row_laws : GrowsAtRow → BuilderLaws (row_view ring_of with_ring means)
    row_laws grows = record {
      same = grows.same;
      joined = grows.joined;
      ring_lent = λ a r e. lent a r;
      ring_with = ring_is;
      ring_valid = λ a h. tt;
      by_growth = grows.same_row;
      kept_joined = λ a b c g h. h ∙ g;
      ring_kept = λ a b k. tt;
      reads_as_kept = λ a b k. ap reads_as k;
      ready_kept = λ a b k h. tt;
      missing_kept = λ a b l k h. subst (λ d. IsMissing (shape d) l) k h;
      missing_stays = λ a b l k h. subst (λ d. IsMissing (shape d) l) (sym k) h;
      past_window = λ a o l h. past_window_missing (shape (row a)) o l h;
      has_first_row = λ a h. h;
      has_last_row = λ a h. h;
      has_transition = λ a h. h;
      refuses_first = grows.refuses_first;
      refuses_then = grows.refuses_then;
      refuses_in_ring = λ a e t ts h p. absurd h;
      refuses_missing = grows.refuses_missing;
    }

    -- the laws of builders over an extension, for its ring over the extension
    pub row_extension_laws : {B U : Type 0} (base_of : S → B) (base_means : U → Term F → Type 0) {with_base : S → B → S}
        → ExtensionRingLaws (row_view base_of with_base base_means) (row_over ring_of with_ring base_means means)
    row_extension_laws base_of base_means = record {
      ext_ring_lent = λ a r e. lent a r;
      ext_ring_with = ring_is;
      ext_ring_valid = λ a h. tt;
      ext_ring_kept = λ a b k. tt;
      has_base = λ a x r h. tt;
      means_base = λ a x t r h. h;
      refuses_in_ext_ring = λ a e t ts h p. absurd h;
    }
