-- Base expressions over the extension.
use Rattle.std.proofs.lemmas.Result.{err_from_is_err_and}
use Rattle.std.specs.Result.{IsErrAnd}
use Rattle.std.proofs.Common.{◌≡◌, List, [], Result, Ok, Err, subst, sym}
use Rattle.air_field.specs.Term.{Leaf, Term, with_leaves}
use Rattle.air_builder.specs.Assertion.{Assertion}
use Rattle.air_builder.specs.Builders.{MeansIn, BuilderView, RingLaws, BuilderLaws}
use Rattle.air_builder.specs.Extensions.{ExtensionView, ExtensionRingLaws}
use Rattle.air_author.specs.Expressions.{MakesTerm}

-- a `?` returns the error of making the expression that was to be lifted
pub lift_gives_up : {S B E F X : Type 0} {base : S → B → Term F → Type 0} {means : S → E → Term F → Type 0}
    {grew : S → S → List (Assertion F) → Type 0} {missing : S → Leaf → Type 0}
    {refuses : S → X → List (Assertion F) → Type 0} {a b : S} {e : X} {r : Result E X} {t : Term F}
    → IsErrAnd r (λ x. x ≡ e) → MakesTerm base grew missing refuses a b (Err e) t → MakesTerm means grew missing refuses a b r t
lift_gives_up {r = r} i h =
    let f = err_from_is_err_and r i in
    rw (f.1, f.2) (record { keeps = h.keeps; made = tt; there = tt; refused = h.refused })

-- a made element is in the base of the ring over the extension
pub made_in_base : {S R X B E F : Type 0} {view : BuilderView S R B F} {over : ExtensionView S X B E F} (ring : RingLaws view)
    (laws : BuilderLaws view) (extension : ExtensionRingLaws view over) (a b : S) (q : X) (x : B) (t : Term F) → view.ready a
    → MakesTerm (MeansIn view) view.grew view.missing view.refuses a b (Ok x) t → q ≡ over.ring_of b → over.base_has q x
made_in_base {view = view} {over = over} ring laws extension a b q x t was_ready h p =
    let is_ready = laws.ready_kept a b (laws.by_growth a b [] h.keeps) was_ready in
    let is_in = ring.means_has (view.ring_of b) x (with_leaves (view.reads_as b) t) h.made.0 in
    subst (λ s. over.base_has s x) (sym p) (extension.has_base b x is_ready is_in)
