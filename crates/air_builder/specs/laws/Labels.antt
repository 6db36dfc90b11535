-- Lists of labelled assertions without their labels, and the label of one assertion.
use Rattle.std.specs.Prelude.{◌≡◌, ℕ, zero, suc, ◌<◌, List, [], ◌∷◌, ◌++◌, length, take, Option, Result, Ok, Err, OnOk, OnErr, refl, ⊤}
use Rattle.std.specs.List.{AllZip, zip}
use Rattle.std.proofs.Common.{arith, subst, sym}
use Rattle.std.proofs.lemmas.List.{map-append}
use Rattle.air_core.specs.declared.errors.AirError.{AirError}
use Rattle.air_builder.specs.Assertion.{Assertion}
use Rattle.air_builder.specs.Labels.{Label, Labelled, IsSaid, AreSaidFrom, without_labels, LabelledByEach, LabelledEach}
use Rattle.air_builder.specs.laws.Zips.{AllZip-nil}

pub without_labels-append : {F : Type 0} (xs ys : List (Labelled F))
    → without_labels (xs ++ ys) ≡ without_labels xs ++ without_labels ys
without_labels-append xs ys = map-append (λ l. l.0) xs ys

-- one assertion grew the builder under a label that the name may display
pub record OneLabel {S I F : Type 0} (asserts : S → I → Assertion F → Type 0)
    (labelled : S → S → List (Labelled F) → Type 0) (says : Option (List ℕ) → Type 0) (a b : S) (x : I) : Type 0 where
  pub label : Label
  pub said : IsSaid says label
  pub grown : (s : Assertion F) → asserts a x s → labelled a b ((s, label) ∷ [])

module _ {S I F : Type 0} (asserts : S → I → Assertion F → Type 0) (labelled : S → S → List (Labelled F) → Type 0)
    (a b : S) (x : I) where
  only_label : (says : Option (List ℕ) → Type 0) (ls : List Label) → length ls ≡ 1 → AreSaidFrom (λ i. says) 0 ls
      → ((ss : List (Assertion F)) → AllZip (asserts a) (x ∷ []) ss → labelled a b (zip ss ls))
      → OneLabel asserts labelled says a b x
  only_label says [] e h g = absurd (omega (arith, e))
  only_label says (l ∷ []) e h g = record { label = l; said = h.0; grown = λ s k. g (s ∷ []) (k, tt) }
  only_label says (l ∷ m ∷ ls) e h g = absurd (omega (arith, e))

  one_grown : (l : Label) → ((s : Assertion F) → asserts a x s → labelled a b ((s, l) ∷ []))
      → (ss : List (Assertion F)) → AllZip (asserts a) (x ∷ []) ss → labelled a b (zip ss (l ∷ []))
  one_grown l g [] h = absurd h
  one_grown l g (s ∷ []) h = g s h.0
  one_grown l g (s ∷ t ∷ ss) h = absurd h.1

  first_of_one : (says : ℕ → Option (List ℕ) → Type 0) (n : ℕ) → n < 1
      → LabelledByEach asserts labelled says a b (take n (x ∷ [])) → labelled a b []
  first_of_one says zero lt g = g.grown [] tt
  first_of_one says (suc n) lt g = absurd (omega (arith, lt))

module _ {S I F : Type 0} {asserts : S → I → Assertion F → Type 0} {labelled : S → S → List (Labelled F) → Type 0}
    {a b : S} {x : I} where
  -- one element was asserted under a label, or refused
  pub labelled_one : {says : Option (List ℕ) → Type 0} (result : Result ⊤ AirError)
      → OnOk result (OneLabel asserts labelled says a b x) → OnErr result (labelled a b [])
      → LabelledEach asserts labelled (λ i. says) a b (x ∷ []) result
  labelled_one (Ok u) h n = record {
    ok = record {
      labels = h.label ∷ [];
      as_many = refl;
      said = (h.said, tt);
      grown = one_grown asserts labelled a b x h.label h.grown;
    };
    err = tt;
  }
  labelled_one (Err e) h n = record {
    ok = tt;
    err = record {
      count = 0;
      within = omega arith;
      beginning = record {
        labels = [];
        as_many = refl;
        said = tt;
        grown = λ ss k. subst (λ zs. labelled a b (zip zs [])) (sym (AllZip-nil (asserts a) ss k)) n;
      };
    };
  }

  -- conversely, the label of the one element
  pub one_label : {says : Option (List ℕ) → Type 0} {u : ⊤}
      → LabelledEach asserts labelled (λ i. says) a b (x ∷ []) (Ok u) → OneLabel asserts labelled says a b x
  one_label {says} h = only_label asserts labelled a b x says h.ok.labels h.ok.as_many h.ok.said h.ok.grown

  pub no_label : {says : ℕ → Option (List ℕ) → Type 0} {e : AirError}
      → LabelledEach asserts labelled says a b (x ∷ []) (Err e) → labelled a b []
  no_label {says} h = first_of_one asserts labelled a b x says h.err.count h.err.within h.err.beginning
