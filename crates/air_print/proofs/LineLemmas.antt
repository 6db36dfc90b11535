-- Lines, one after another.
use Rattle.std.proofs.Common.{◌≡◌, ℕ, ◌+◌, ◌<◌, ◌≤◌, List, [], ◌∷◌, ◌++◌, append_assoc, append-nil, length, map, drop, get_or, codes, sym, ap, ◌∙◌}
use Rattle.std.specs.List.{enumerate_from}
use Rattle.std.proofs.lemmas.List.{drop_more, drop_all}
use Rattle.air_print.specs.Lines.{lines_text}

-- the lines of the elements from index i on
abbrev pub lines_from : (ℕ → ℕ → List ℕ) → ℕ → List ℕ → List ℕ
lines_from line i xs = lines_text (map (λ (x : ℕ × ℕ). line x.0 x.1) (enumerate_from i (drop i xs)))

-- one more line is written
pub line-more : (line : ℕ → ℕ → List ℕ) (xs : List ℕ) (i x : ℕ) (old new whole : List ℕ) → i < length xs → x ≡ get_or xs i x → old ++ lines_from line i xs ≡ whole → new ≡ old ++ (line i x ++ codes "\n") → new ++ lines_from line (i + 1) xs ≡ whole
line-more line xs i x old new whole lt is h e =
    let first : lines_from line i xs ≡ (line i x ++ codes "\n") ++ lines_from line (i + 1) xs =
    ap (λ ys. lines_text (map (λ (y : ℕ × ℕ). line y.0 y.1) (enumerate_from i ys))) (drop_more xs i x lt ∙ ap (λ y. y ∷ drop (i + 1) xs) (sym is)) in
    ap (λ t. t ++ lines_from line (i + 1) xs) e
    ∙ append_assoc old (line i x ++ codes "\n") (lines_from line (i + 1) xs)
    ∙ ap (λ t. old ++ t) (sym first)
    ∙ h

-- all lines are written
pub line-all : (line : ℕ → ℕ → List ℕ) (xs : List ℕ) (i : ℕ) (text whole : List ℕ) → length xs ≤ i → text ++ lines_from line i xs ≡ whole → text ≡ whole
line-all line xs i text whole past h =
    let none : lines_from line i xs ≡ [] = ap (λ ys. lines_text (map (λ (y : ℕ × ℕ). line y.0 y.1) (enumerate_from i ys))) (drop_all i xs past) in
    sym (append-nil text) ∙ ap (λ t. text ++ t) (sym none) ∙ h

-- the pieces of a line are its text
pub definition-pieces : (old a b c t n : List ℕ) → ((old ++ (a ++ (b ++ c))) ++ t) ++ n ≡ old ++ (((a ++ b) ++ (c ++ t)) ++ n)
definition-pieces old a b c t n = simp append_assoc

pub constraint-pieces : (old a b s c d e t n : List ℕ) → ((old ++ (a ++ (b ++ (s ++ (c ++ (d ++ e)))))) ++ t) ++ n
    ≡ old ++ ((a ++ (b ++ (s ++ (c ++ (d ++ (e ++ t)))))) ++ n)
constraint-pieces old a b s c d e t n = simp append_assoc
