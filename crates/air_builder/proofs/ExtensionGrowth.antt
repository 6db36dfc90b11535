-- How the base's elements read in the ring over the extension, after it was lent.
use Rattle.std.proofs.Common.{◌≡◌}
use Rattle.air_field.specs.Term.{Term, with_leaves}
use Rattle.air_builder.specs.Builders.{MeansIn, BuilderView}
use Rattle.air_builder.specs.Extensions.{ExtensionView, ExtensionRingLaws}
use Rattle.air_builder.specs.laws.Growth.{means_in}

-- an element of the base means the same term in the base of the lent ring over the extension
pub base_means_in : {S R X B E F : Type 0} {view : BuilderView S R B F} {over : ExtensionView S X B E F}
    (extension : ExtensionRingLaws view over) (a : S) (q : X) (x : B) (t : Term F) → q ≡ over.ring_of a → view.ready a
    → MeansIn view a x t → over.base_means q x (with_leaves (view.reads_as a) t)
base_means_in {view = view} {over = over} extension a q x t e r m =
    means_in over.base_means x (with_leaves (view.reads_as a) t) e (extension.means_base a x (with_leaves (view.reads_as a) t) r m)
