-- Going over the items of a list.
use Rattle.std.proofs.Common.{◌≡◌, ℕ, suc, ◌+◌, ◌<◌, ◌≤◌, List, [], ◌∷◌, ◌++◌, length, get_or, drop, drop-cons, add-one, Option, Some, None, String, Global, string_bytes, append_assoc, refl, sym, ap, ◌∙◌, arith}
use Rattle.std.proofs.lemmas.Grind.{common_steps}
use Rattle.std.specs.Prelude.{option_map, codes, decimal}
use Rattle.serde_json.specs.Data.{Items, item, no_items}
use Rattle.serde_json.specs.View.{view, items_view}
use Rattle.serde_json.specs.declared.value.Value.{Value}
use Rattle.air_reason.specs.Members.{count_from, count}
use Rattle.air_reason.specs.Reasons.{Reason, Check, under, ◌orElse◌, place_text, in_items, Tells}

-- ---- numbers of items

counted : (n : ℕ) (vs : List Value) → count_from n (items_view vs) ≡ n + length vs
counted n [] = omega arith
counted n (v ∷ vs) =
    let more : count_from (suc n) (items_view vs) ≡ suc n + length vs = counted (suc n) vs in
    more ∙ omega arith

pub count_is : (vs : List Value) → count (items_view vs) ≡ length vs
count_is vs = counted 0 vs ∙ omega arith

-- ---- texts

pub none_told : (o : Option Reason) → Tells o None → o ≡ None
none_told None h = refl
none_told (Some q) h = absurd cc

-- the text of a part's reason, with the path before it
pub part_told : (path : List ℕ) (o rest : Option Reason) (behind text : String Global) → Tells o (Some behind) → string_bytes text ≡ path ++ string_bytes behind → Tells (under path o orElse rest) (Some text)
part_told path None rest behind text h is = absurd cc
part_told path (Some q) rest behind text h is =
    let same : string_bytes behind ≡ q.text = cc in
    ap (λ t. Some t) (is ∙ ap (λ t. path ++ t) same)

pub under_told : (path : List ℕ) (o : Option Reason) (behind text : String Global) → Tells o (Some behind) → string_bytes text ≡ path ++ string_bytes behind → Tells (under path o) (Some text)
under_told path None behind text h is = absurd cc
under_told path (Some q) behind text h is =
    let same : string_bytes behind ≡ q.text = cc in
    ap (λ t. Some t) (is ∙ ap (λ t. path ++ t) same)

-- ---- items

-- a text behind a place
pub placed : (i : ℕ) (text : List ℕ) → codes "[" ++ (decimal i ++ (codes "]" ++ text)) ≡ place_text i ++ text
placed i text = simp append_assoc

items_at : (vs : List Value) (i : ℕ) (v : Value) → i < length vs → v ≡ get_or vs i v → items_view (drop i vs) ≡ item (view v) (items_view (drop (i + 1) vs))
items_at vs i v lt is = ap items_view (drop-cons vs i v lt) ∙ rw (← is, add-one) refl

module _ (check : Check) (vs : List Value) (i : ℕ) (v : Value) (lt : i < length vs) (is : v ≡ get_or vs i v) (so_far : in_items check i (items_view (drop i vs)) ≡ in_items check 0 (items_view vs)) where
  step : in_items check i (items_view (drop i vs)) ≡ under (place_text i) (check (view v)) orElse in_items check (i + 1) (items_view (drop (i + 1) vs))
  unfolding in_items
  step = ap (in_items check i) (items_at vs i v lt is) ∙ rw add-one refl

  -- the item has no reason
  pub goes_on : Tells (check (view v)) None → in_items check (i + 1) (items_view (drop (i + 1) vs)) ≡ in_items check 0 (items_view vs)
  goes_on none = sym (ap (λ o. under (place_text i) o orElse in_items check (i + 1) (items_view (drop (i + 1) vs))) (none_told (check (view v)) none)) ∙ sym step ∙ so_far

  -- the item has one
  pub ends : (behind text : String Global) → Tells (check (view v)) (Some behind) → string_bytes text ≡ place_text i ++ string_bytes behind → Tells (in_items check 0 (items_view vs)) (Some text)
  ends behind text told said =
      part_told (place_text i) (check (view v)) (in_items check (i + 1) (items_view (drop (i + 1) vs))) behind text told said ∙ ap (λ o. option_map (λ q. q.text) o) (sym step ∙ so_far)

pub is_done : (check : Check) (vs : List Value) (i : ℕ) → length vs ≤ i → in_items check i (items_view (drop i vs)) ≡ in_items check 0 (items_view vs) → Tells (in_items check 0 (items_view vs)) None
unfolding in_items
is_done check vs i le so_far =
    let none : drop i vs ≡ [] = grind (arith, common_steps) in
    ap (λ o. option_map (λ q. q.text) o) (sym (ap (λ us. in_items check i (items_view us)) none) ∙ so_far)
