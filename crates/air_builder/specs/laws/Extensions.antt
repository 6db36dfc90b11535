-- The laws of a builder, for its ring over the extension.
use Rattle.air_builder.specs.Builders.{BuilderView, BuilderLaws}
use Rattle.air_builder.specs.Extensions.{ExtensionView, over_view, ExtensionRingLaws}

module _ {S R X B E F : Type 0} {view : BuilderView S R B F} {over : ExtensionView S X B E F}
    (laws : BuilderLaws view) (extension : ExtensionRingLaws view over) where
  -- the laws of builders hold with the ring over the extension in place of the base ring
  pub over_extension : BuilderLaws (over_view view over)
  over_extension = record {
    same = laws.same;
    joined = laws.joined;
    ring_lent = extension.ext_ring_lent;
    ring_with = extension.ext_ring_with;
    ring_valid = extension.ext_ring_valid;
    by_growth = laws.by_growth;
    kept_joined = laws.kept_joined;
    ring_kept = extension.ext_ring_kept;
    reads_as_kept = laws.reads_as_kept;
    ready_kept = laws.ready_kept;
    missing_kept = laws.missing_kept;
    missing_stays = laws.missing_stays;
    past_window = laws.past_window;
    has_first_row = laws.has_first_row;
    has_last_row = laws.has_last_row;
    has_transition = laws.has_transition;
    refuses_first = laws.refuses_first;
    refuses_then = laws.refuses_then;
    refuses_in_ring = extension.refuses_in_ext_ring;
    refuses_missing = laws.refuses_missing;
  }
