use Rattle.std.proofs.Common.{◌≡◌, ℕ, ◌+◌, List, [], ◌∷◌, length, Bool, Some, subst}
use Rattle.std.proofs.lemmas.Result.{on_ok_weaker}
use Rattle.air_audit.specs.Assertion.{Assertion}
use Rattle.air_audit.specs.Constraints.{IsLabelled}
use Rattle.air_audit.specs.Labels.{Labelled, LabelledBy, NamedLaws}
use Rattle.air_author.specs.laws.Labels.{one_named, then_named}
use Rattle.example_fibonacci.specs.Fibonacci.{FibonacciSays}
use Rattle.example_fibonacci.proofs.FibonacciAir.eval.Goals as goal

-- a name displays the other of two equal texts too
says_too : {S F : Type 0} {labelled : S → S → List (Labelled F) → Type 0} {a b : S} {s : Assertion F} {x y : List ℕ} → x ≡ y
    → IsLabelled labelled (λ text. text ≡ Some x) a b s → IsLabelled labelled (λ text. text ≡ Some y) a b s
says_too {labelled = labelled} {a} {b} {s} e h = subst (λ v. IsLabelled labelled (λ text. text ≡ Some v) a b s) e h

module _ {S F : Type 0} {grew : S → S → List (Assertion F) → Type 0} {labelled : S → S → List (Labelled F) → Type 0} where
  -- five assertions under their labels, one after another
  all_named : (named : NamedLaws grew labelled) (is_named : Bool) {a b c d e f : S} {s t u v w : Assertion F}
      → IsLabelled labelled (FibonacciSays is_named 0) a b s → IsLabelled labelled (FibonacciSays is_named 1) b c t
      → IsLabelled labelled (FibonacciSays is_named 2) c d u → IsLabelled labelled (FibonacciSays is_named 3) d e v
      → IsLabelled labelled (FibonacciSays is_named 4) e f w
      → LabelledBy labelled (FibonacciSays is_named) a f (s ∷ t ∷ u ∷ v ∷ w ∷ [])
  all_named named is_named {s = s} {t = t} {u = u} {v = v} {w = w} p q r x y =
      let first = FibonacciSays is_named in
      let second = λ (i : ℕ). first (length (s ∷ []) + i) in
      let third = λ (i : ℕ). second (length (t ∷ []) + i) in
      let fourth = λ (i : ℕ). third (length (u ∷ []) + i) in
      let fifth = λ (i : ℕ). fourth (length (v ∷ []) + i) in
      then_named named first (s ∷ []) (t ∷ u ∷ v ∷ w ∷ []) (one_named named first p)
      (then_named named second (t ∷ []) (u ∷ v ∷ w ∷ []) (one_named named second q)
      (then_named named third (u ∷ []) (v ∷ w ∷ []) (one_named named third r)
      (then_named named fourth (v ∷ []) (w ∷ []) (one_named named fourth x) (one_named named fifth y))))

pub returns-clause-labelled : goal.returns-clause-labelled
returns-clause-labelled g c =
    on_ok_weaker c.assert_all.result
    (λ h. all_named g.met.AB.NamedAirBuilder.named_laws c.args.self.now.is_named
    (says_too c.label.ensures h.1.1) (says_too c.label-2.ensures h.1.2)
    (says_too c.label-3.ensures h.2.1.1) (says_too c.label-4.ensures h.2.1.2)
    (says_too c.label-5.ensures h.2.2))
    c.assert_all.ensures.labelled
