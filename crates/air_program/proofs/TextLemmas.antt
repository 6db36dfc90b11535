-- Texts, line after line.
use Rattle.std.specs.List.{AllZip}
use Rattle.std.proofs.Common.{◌≡◌, ℕ, ◌+◌, ◌<◌, List, [], ◌∷◌, ◌++◌, append_assoc, length, map, take, get_or, codes, sym, ap, subst, ◌∙◌}
use Rattle.std.proofs.lemmas.Grind.{flat_map-append}
use Rattle.std.proofs.lemmas.List.{map-append, take_more}
use Rattle.air_report.specs.FailureTexts.{seen_failure}
use Rattle.air_report.specs.declared.debug.failure.ConstraintFailure.{ConstraintFailure}
use Rattle.air_program.specs.Texts.{IsFailureLine, PushesLine}
use Rattle.air_print.specs.Lines.{lines_text}

-- the text consists of the lines in `front`, and one line for each failure before i
pub record HasLines (front : List (List ℕ)) (failures : List ConstraintFailure) (i : ℕ) (text : List ℕ) : Type 0 where
  pub lines : List (List ℕ)
  pub each : AllZip IsFailureLine (map seen_failure (take i failures)) lines
  pub text_is : text ≡ lines_text (front ++ lines)

AllZip-more : {A B : Type 0} (R : A → B → Type 0) (xs : List A) (ys : List B) (x : A) (y : B) → AllZip R xs ys → R x y → AllZip R (xs ++ x ∷ []) (ys ++ y ∷ [])
AllZip-more R [] [] x y h r = (r, tt)
AllZip-more R [] (z ∷ ys) x y h r = absurd h
AllZip-more R (z ∷ xs) [] x y h r = absurd h
AllZip-more R (z ∷ xs) (w ∷ ys) x y h r = (h.0, AllZip-more R xs ys x y h.1 r)

next_line : (front lines : List (List ℕ)) (line : List ℕ) → lines_text (front ++ (lines ++ line ∷ [])) ≡ lines_text (front ++ lines) ++ lines_text (line ∷ [])
next_line front lines line = ap lines_text (sym (append_assoc front lines (line ∷ []))) ∙ flat_map-append (λ l. l ++ codes "\n") (front ++ lines) (line ∷ [])

-- one more failure
pub HasLines-more : (front : List (List ℕ)) (items failures : List ConstraintFailure) (i : ℕ) (f : ConstraintFailure) (old new : List ℕ) → items ≡ failures → i < length items → f ≡ get_or items i f → HasLines front failures i old → PushesLine (seen_failure f) old new → HasLines front failures (i + 1) new
HasLines-more front items failures i f old new e below found h p =
    let lt : i < length failures = subst (λ l. i < length l) e below in
    let is : f ≡ get_or failures i f = subst (λ l. f ≡ get_or l i f) e found in
    let seen : map seen_failure (take (i + 1) failures) ≡ map seen_failure (take i failures) ++ seen_failure f ∷ [] =
    ap (map seen_failure) (take_more failures i f lt)
    ∙ (map-append seen_failure (take i failures) (get_or failures i f ∷ [])
    ∙ ap (λ g. map seen_failure (take i failures) ++ seen_failure g ∷ []) (sym is)) in
    record {
      lines = h.lines ++ p.line ∷ [];
      each = subst (λ fs. AllZip IsFailureLine fs (h.lines ++ p.line ∷ [])) (sym seen) (AllZip-more IsFailureLine (map seen_failure (take i failures)) h.lines (seen_failure f) p.line h.each p.is_line);
      text_is = p.pushed ∙ (ap (λ t. t ++ lines_text (p.line ∷ [])) h.text_is ∙ sym (next_line front h.lines p.line));
    }
