-- A list of assertions under labels, from the label of each.
use Rattle.std.proofs.Common.{◌≡◌, ℕ, ◌+◌, List, [], ◌∷◌, ◌++◌, length, map, Option, refl, sym, ap, ap₂, subst, ◌∙◌, arith}
use Rattle.std.proofs.lemmas.List.{length-map, map-append}
use Rattle.air_builder.specs.Assertion.{Assertion}
use Rattle.air_builder.specs.Labels.{Label, Labelled, LabelledBy, IsSaid, AreSaidFrom, NamedLaws, without_labels}
use Rattle.air_author.specs.Constraints.{IsLabelled}

said-append : (says : ℕ → Option (List ℕ) → Type 0) (i j : ℕ) (ls ms : List Label) → j ≡ i + length ls
    → AreSaidFrom says i ls → AreSaidFrom says j ms → AreSaidFrom says i (ls ++ ms)
said-append says i j [] ms e h k = let same : j ≡ i = omega arith in subst (λ n. AreSaidFrom says n ms) same k
said-append says i j (l ∷ ls) ms e h k = (h.0, said-append says (i + 1) j ls ms (omega arith) h.1 k)

said_later : (says : ℕ → Option (List ℕ) → Type 0) (n i j : ℕ) (ls : List Label) → j ≡ n + i
    → AreSaidFrom (λ k. says (n + k)) i ls → AreSaidFrom says j ls
said_later says n i j [] e h = tt
said_later says n i j (l ∷ ls) e h = (subst (λ k. IsSaid (says k) l) (sym e) h.0, said_later says n (i + 1) (j + 1) ls (omega arith) h.1)

module _ {S F : Type 0} {grew : S → S → List (Assertion F) → Type 0} {labelled : S → S → List (Labelled F) → Type 0}
    (named : NamedLaws grew labelled) (says : ℕ → Option (List ℕ) → Type 0) where
  -- one assertion under its label
  pub one_named : {a b : S} {s : Assertion F} → IsLabelled labelled (says 0) a b s → LabelledBy labelled says a b (s ∷ [])
  one_named {s = s} h = record { list = (s, h.label) ∷ []; asserted = refl; said = (h.said, tt); grown = h.grown }

  -- a list under labels, and then another
  pub then_named : {a b d : S} (ts us : List (Assertion F)) → LabelledBy labelled says a b ts
      → LabelledBy labelled (λ i. says (length ts + i)) b d us → LabelledBy labelled says a d (ts ++ us)
  then_named {a} {b} {d} ts us h k =
      let labels = λ (ls : List (Labelled F)). map (λ l. l.1) ls in
      let long : length (labels h.list) ≡ length ts = length-map h.list (λ l. l.1) ∙ (sym (length-map h.list (λ l. l.0)) ∙ ap length h.asserted) in
      record {
        list = h.list ++ k.list;
        asserted = map-append (λ l. l.0) h.list k.list ∙ ap₂ (λ xs ys. xs ++ ys) h.asserted k.asserted;
        said = subst (λ ls. AreSaidFrom says 0 ls) (sym (map-append (λ l. l.1) h.list k.list))
            (said-append says 0 (length ts) (labels h.list) (labels k.list) (omega (arith, long)) h.said (said_later says (length ts) 0 (length ts) (labels k.list) (omega arith) k.said));
        grown = named.labelled_joined a b d h.list k.list h.grown k.grown;
      }
