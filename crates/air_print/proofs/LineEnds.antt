-- The debug text of an ASCII label has no line end.
use Rattle.std.proofs.Common.{◌≡◌, ℕ, ◌+◌, ◌<◌, List, [], ◌∷◌, ◌++◌, Bool, true, false, not, Option, Some, None, IfSome, length, arith, refl, sym, ap, subst, ◌∙◌, ltb-true}
use Rattle.std.specs.Prelude.{◌==◌, ◌&&◌, if◌then◌else◌}
use Rattle.std.specs.List.{Contains, list_all, flat_map, range_with_len}
use Rattle.std.specs.Char.{is_ascii}
use Rattle.std.specs.Fmt.{◌++?◌, debug_escape, digits}
use Rattle.std.proofs.lemmas.List.Elements.{All-contains, All-get_or}
use Rattle.std.proofs.lemmas.List.Folds.{list_all-append}
use Rattle.std.proofs.lemmas.List.FromFn.{length-range_with_len, get_or-range_with_len}
use Rattle.std.proofs.lemmas.List.Sums.{AllPass-from_list_all}
use Rattle.air_print.specs.Labels.{quoted_label}

abbrev keeps_line : ℕ → Bool
keeps_line byte = not (byte == 10)

-- each ASCII character, one after another
every_character : list_all (λ c. list_all keeps_line (debug_escape 34 c)) (range_with_len 0 128) ≡ true
unfolding debug_escape digits
every_character = refl

and_both : (a b : Bool) → (a && b) ≡ true → (a ≡ true) × (b ≡ true)
and_both true b h = (refl, h)
and_both false b h = cc

escaped : (c : ℕ) → is_ascii c ≡ true → list_all keeps_line (debug_escape 34 c) ≡ true
escaped c h =
    let lt : c < 128 = ltb-true c 128 h in
    let within : c < length (range_with_len 0 128) = subst (λ n. c < n) (sym (length-range_with_len 0 128)) lt in
    let passes : ℕ → Bool = λ n. list_all keeps_line (debug_escape 34 n) in
    let at = All-get_or (λ n. passes n ≡ true) (range_with_len 0 128) c 0 within (AllPass-from_list_all passes (range_with_len 0 128) every_character) in
    let is : 0 + c ≡ c = omega arith in
    subst (λ n. passes n ≡ true) (get_or-range_with_len 0 128 c 0 lt ∙ is) at

all_escaped : (label : List ℕ) → list_all is_ascii label ≡ true → list_all keeps_line (flat_map (debug_escape 34) label) ≡ true
all_escaped [] h = refl
all_escaped (c ∷ label) h =
    let both = and_both (is_ascii c) (list_all is_ascii label) h in
    list_all-append keeps_line (debug_escape 34 c) (flat_map (debug_escape 34) label)
    ∙ (ap (λ b. b && list_all keeps_line (flat_map (debug_escape 34) label)) (escaped c both.0) ∙ all_escaped label both.1)

quoted : (label : List ℕ) (b : Bool) → list_all is_ascii label ≡ b → IfSome (Some (32 ∷ []) ++? (if b then Some (34 ∷ (flat_map (debug_escape 34) label ++ 34 ∷ [])) else None)) (λ suffix. list_all keeps_line suffix ≡ true)
quoted label false h = tt
quoted label true h = list_all-append keeps_line (flat_map (debug_escape 34) label) (34 ∷ []) ∙ ap (λ b. b && true) (all_escaped label h)

-- a text with a line end isn't the shown text of the label
other : (o : Option (List ℕ)) (shown text : List ℕ) → Contains shown 10 → IfSome o (λ suffix. list_all keeps_line suffix ≡ true) → IfSome o (λ suffix. shown ≡ suffix) → IfSome o (λ suffix. text ≡ suffix)
other None shown text h k e = tt
other (Some suffix) shown text h k e =
    let passes : list_all keeps_line shown ≡ true = subst (λ s. list_all keeps_line s ≡ true) (sym e) k in
    let kept : keeps_line 10 ≡ true = All-contains (λ b. keeps_line b ≡ true) shown 10 (AllPass-from_list_all keeps_line shown passes) h in
    cc

pub with_line_end : (label shown text : List ℕ) → Contains shown 10 → IfSome (quoted_label label) (λ quoted. shown ≡ quoted)
    → IfSome (quoted_label label) (λ quoted. text ≡ quoted)
with_line_end label shown text h e = other (quoted_label label) shown text h (quoted label (list_all is_ascii label) refl) e
