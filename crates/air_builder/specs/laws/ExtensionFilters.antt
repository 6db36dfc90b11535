-- The laws of an extension builder under a filter.
use Rattle.std.specs.Prelude.{◌≡◌, [], map}
use Rattle.std.proofs.Common.{sym, ◌∙◌, ap, subst}
use Rattle.air_builder.specs.Assertion.{filter_by}
use Rattle.air_builder.specs.Builders.{BuilderView, BuilderLaws}
use Rattle.air_builder.specs.Extensions.{ExtensionView, ExtensionRingLaws}
use Rattle.air_builder.specs.Filters.{filter_view}
use Rattle.air_builder.specs.laws.Refusals.{PartOf-filtered}
use Rattle.air_builder.specs.ExtensionFilters.{filter_extension}

module _ {S R X B E F : Type 0} {view : BuilderView S R B F} {over : ExtensionView S X B E F}
    (laws : BuilderLaws view) (extension : ExtensionRingLaws view over) {N P : Type 0}
    (inner : P → S) (name : P → N) (condition : P → B) (with_inner : P → S → P)
    (inner_is : (p : P) (s : S) → inner (with_inner p s) ≡ s)
    (name_is : (p : P) (s : S) → name (with_inner p s) ≡ name p)
    (condition_is : (p : P) (s : S) → condition (with_inner p s) ≡ condition p) where
  lent_inside : (p : P) (r : X) → over.extends (over.ring_of (inner p)) r
      → view.grew (inner p) (inner (with_inner p (over.with_ring (inner p) r))) []
  lent_inside p r e = subst (λ s. view.grew (inner p) s []) (sym (inner_is p (over.with_ring (inner p) r))) (extension.ext_ring_lent (inner p) r e)

  -- a filter keeps the laws of the builder inside
  pub extension_filter_laws : ExtensionRingLaws (filter_view view inner name condition with_inner)
      (filter_extension over inner with_inner)
  extension_filter_laws = record {
    ext_ring_lent = λ p r e. record {
      keeps = record {
        same_reference = name_is p (over.with_ring (inner p) r);
        same_condition = condition_is p (over.with_ring (inner p) r);
        inside = laws.by_growth (inner p) (inner (with_inner p (over.with_ring (inner p) r))) [] (lent_inside p r e);
      };
      by = λ c m. lent_inside p r e;
    };
    ext_ring_with = λ p r. ap over.ring_of (inner_is p (over.with_ring (inner p) r)) ∙ extension.ext_ring_with (inner p) r;
    ext_ring_valid = λ p h. extension.ext_ring_valid (inner p) h.0;
    ext_ring_kept = λ p q g. extension.ext_ring_kept (inner p) (inner q) g.inside;
    has_base = λ p x h m. extension.has_base (inner p) x h.0 m;
    means_base = λ p x t h m. extension.means_base (inner p) x t h.0 m;
    refuses_in_ext_ring = λ p e t ts h b c m. extension.refuses_in_ext_ring (inner p) e t (map (filter_by c) ts) h (PartOf-filtered c t ts b);
  }
