-- The lines of the names of marked expressions, one after another.
use Rattle.std.proofs.Common.{◌≡◌, ℕ, ◌+◌, ◌<◌, ◌≤◌, Bool, true, false, cond, List, [], ◌∷◌, ◌++◌, append_assoc, append-nil, length, map, drop, get_or, Option, codes, sym, ap, refl, ◌∙◌}
use Rattle.std.specs.List.{filter, enumerate_from}
use Rattle.std.proofs.lemmas.List.{drop_more, drop_all}
use Rattle.air_field.specs.Modular.{Modular}
use Rattle.air_symbolic.specs.ExtLeaves.{BaseNodes}
use Rattle.air_print.specs.Lines.{lines_text, definition_line}
use Rattle.air_print.specs.Names.{is_reached}

-- the text of the lines of some names
abbrev lines_of : (line : ℕ × ℕ → List ℕ) (test : ℕ × ℕ → Bool) → List (ℕ × ℕ) → List ℕ
lines_of line test xs = lines_text (map line (filter test xs))

first_line : (line : ℕ × ℕ → List ℕ) (test : ℕ × ℕ → Bool) (x : ℕ × ℕ) (xs : List (ℕ × ℕ)) → lines_of line test (x ∷ xs) ≡ cond (test x) (line x ++ codes "\n") [] ++ lines_of line test xs
first_line line test x xs = either (test x)
  where
    either : (b : Bool) → lines_text (map line (cond b (x ∷ filter test xs) (filter test xs))) ≡ cond b (line x ++ codes "\n") [] ++ lines_of line test xs
    either true = refl
    either false = refl

module _ {F : Type 0} {p : ℕ} (m : Modular F p) (pool : BaseNodes F) (names : List (Option ℕ)) (marks : List (Option ℕ)) where
  -- the text of the lines from name i on
  abbrev pub definitions_from : ℕ → List ℕ → List ℕ
  definitions_from i xs = lines_text (map (λ (x : ℕ × ℕ). definition_line m pool names x.0 x.1) (filter (λ (x : ℕ × ℕ). is_reached marks x.1) (enumerate_from i (drop i xs))))

  -- one more name is visited
  pub definition-more : (xs : List ℕ) (i x : ℕ) (old new whole : List ℕ) → i < length xs → x ≡ get_or xs i x → old ++ definitions_from i xs ≡ whole → new ≡ old ++ cond (is_reached marks x) (definition_line m pool names i x ++ codes "\n") [] → new ++ definitions_from (i + 1) xs ≡ whole
  definition-more xs i x old new whole lt is h e =
      let one = cond (is_reached marks x) (definition_line m pool names i x ++ codes "\n") [] in
      let first : definitions_from i xs ≡ one ++ definitions_from (i + 1) xs =
      ap (λ ys. lines_text (map (λ (y : ℕ × ℕ). definition_line m pool names y.0 y.1) (filter (λ (y : ℕ × ℕ). is_reached marks y.1) (enumerate_from i ys)))) (drop_more xs i x lt ∙ ap (λ y. y ∷ drop (i + 1) xs) (sym is))
      ∙ first_line (λ (y : ℕ × ℕ). definition_line m pool names y.0 y.1) (λ (y : ℕ × ℕ). is_reached marks y.1) (i, x) (enumerate_from (i + 1) (drop (i + 1) xs)) in
      ap (λ t. t ++ definitions_from (i + 1) xs) e
      ∙ append_assoc old one (definitions_from (i + 1) xs)
      ∙ ap (λ t. old ++ t) (sym first)
      ∙ h

  -- all names are visited
  pub definition-all : (xs : List ℕ) (i : ℕ) (text whole : List ℕ) → length xs ≤ i → text ++ definitions_from i xs ≡ whole → text ≡ whole
  definition-all xs i text whole past h =
      let none : definitions_from i xs ≡ [] = ap (λ ys. lines_text (map (λ (y : ℕ × ℕ). definition_line m pool names y.0 y.1) (filter (λ (y : ℕ × ℕ). is_reached marks y.1) (enumerate_from i ys)))) (drop_all i xs past) in
      sym (append-nil text) ∙ ap (λ t. text ++ t) (sym none) ∙ h
