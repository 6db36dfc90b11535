-- The step of a loop that claims something of each of many expressions: a label of the index, and a claim.
use Rattle.std.proofs.Common.{◌≡◌, ◌<◌, ◌+◌, ℕ, zero, suc, List, [], ◌∷◌, ◌++◌, map, length, take, get_or, Option, None, Some, slice_get, refl, sym, ap, subst, ◌∙◌, arith, append_assoc, append-nil}
use Rattle.std.specs.Prelude.{IfSome, IsSomeAnd, String, string_bytes, zip}
use Rattle.std.specs.List.{enumerate_from, range_with_len}
use Rattle.std.specs.Global.{Global}
use Rattle.std.proofs.lemmas.List.{map_push, length_push, length-append, length-map, length-take-le, take_more}
use Rattle.std.proofs.lemmas.List.FromFn.{map-range_with_len_more}
use Rattle.std.proofs.lemmas.Slice.Zip.{all_zipped_more, AllZip-long, length-zip}
use Rattle.air_core.specs.Texts.{element_text}
use Rattle.air_draft.specs.DraftEntries.{text_under}
use Rattle.air_draft.specs.declared.claim.Claim.{Claim}
use Rattle.air_draft.specs.declared.claim.Claimed.{Claimed}
use Rattle.p3_air.specs.HandleView.{known, Known}
use Rattle.p3_air.specs.HandleClaims.{AddsIndexLabel, ClaimsOf, ClaimsOfBoth}
use Rattle.p3_air.specs.HandleLists.{IsNumber, AreNumbers, label_under, claims_from, AddsElementLabels, OnlyClaims, AddsClaims, ClaimsOfEach, ClaimsOfPairs}
use Rattle.p3_air.specs.declared.expressions.nodes.Body.{Body}
use Rattle.p3_air.specs.declared.handles.constraints.Constraints.{Constraints}

-- what is known in the `Some`
in_some : {T : Type 0} {P : T → Type 0} (o : Option T) → IsSomeAnd o P → (x : T) × (o ≡ Some x) × P x
in_some None h = absurd h
in_some (Some x) h = (x, refl, h)

if_some : {T : Type 0} {P : T → Type 0} (o : Option T) → ((x : T) → o ≡ Some x → P x) → IfSome o P
if_some None f = tt
if_some (Some x) f = f x refl

at_some : {T : Type 0} (P : T → Type 0) (o : Option T) (x : T) → IfSome o P → o ≡ Some x → P x
at_some P o x h e = subst (λ v. IfSome v P) e h

slice_get_before : {X : Type 0} (xs ys : List X) (k : ℕ) (x : X) → slice_get xs k ≡ Some x → slice_get (xs ++ ys) k ≡ Some x
slice_get_before [] ys k x e = absurd (cc e)
slice_get_before (z ∷ xs) ys zero x e = e
slice_get_before (z ∷ xs) ys (suc k) x e = slice_get_before xs ys k x e

enumerate_push : {X : Type 0} (n : ℕ) (xs : List X) (x : X) → enumerate_from n (xs ++ x ∷ []) ≡ enumerate_from n xs ++ (n + length xs, x) ∷ []
enumerate_push {X = X} n [] x = let e : n ≡ n + 0 = omega arith in ap {B = List (ℕ × X)} (λ k. (k, x) ∷ []) e
enumerate_push {X = X} n (z ∷ xs) x = let e : n + 1 + length xs ≡ n + length (z ∷ xs) = omega arith in
    ap {B = List (ℕ × X)} (λ r. (n, z) ∷ r) (enumerate_push (n + 1) xs x ∙ ap {B = List (ℕ × X)} (λ k. enumerate_from (n + 1) xs ++ (k, x) ∷ []) e)

-- both calls leave all else
only_then : (a b c : Constraints) → OnlyClaims a b → OnlyClaims b c → OnlyClaims a c
only_then a b c e f = f ∙ ap (λ (z : Constraints). record z { notes = record z.notes { claims = c.notes.claims; labels = c.notes.labels; fault = c.notes.fault } }) e

label_only : (text : List ℕ) (outer label : Option ℕ) (b m : Constraints) → AddsIndexLabel text outer label b m → OnlyClaims b m
label_only text None label b m h = h.0 ∙ ap (λ (z : Constraints). record b { notes = record b.notes { claims = z.notes.claims; labels = z.notes.labels; fault = z.notes.fault } }) (sym h.0)
label_only text (Some outer) label b m h = h.0 ∙ ap (λ c. record b { notes = record b.notes { claims = c; labels = m.notes.labels; fault = m.notes.fault } }) (sym (ap (λ (z : Constraints). z.notes.claims) h.0))

claim_only : (m c : Constraints) → c ≡ record m { notes = record m.notes { claims = c.notes.claims; fault = c.notes.fault } } → OnlyClaims m c
claim_only m c e = e ∙ ap (λ l. record m { notes = record m.notes { claims = c.notes.claims; labels = l; fault = c.notes.fault } }) (sym (ap (λ (z : Constraints). z.notes.labels) e))

-- what the label of an index leaves, and what it adds
label_leaves : (text : List ℕ) (outer label : Option ℕ) (b m : Constraints) → AddsIndexLabel text outer label b m → m.notes.fault ≡ None
    → (b.notes.fault ≡ None) × (m.notes.claims.items ≡ b.notes.claims.items)
label_leaves text None label b m h none = (sym (ap (λ (z : Constraints). z.notes.fault) h.0) ∙ none, ap (λ (z : Constraints). z.notes.claims.items) h.0)
label_leaves text (Some outer) label b m h none = ((h.1 none).0, ap (λ (z : Constraints). z.notes.claims.items) h.0)

label_more : (outer label : Option ℕ) (count : ℕ) (before : List (String Global)) (b m : Constraints)
    → AddsElementLabels outer count before b.notes.labels.items → AddsIndexLabel (element_text count) outer label b m → m.notes.fault ≡ None
    → AddsElementLabels outer (count + 1) before m.notes.labels.items × (label ≡ label_under outer (length before + count))
label_more None label count before b m e h none = (ap (λ (z : Constraints). z.notes.labels.items) h.0 ∙ e, h.1)
label_more (Some outer) label count before b m e h none =
    let more = e.0 in let new = (h.1 none).2 in let s = new.0 in
    let long : length b.notes.labels.items ≡ length before + count = ap length e.1 ∙ (length-append before more ∙ ap (λ k. length before + k) e.2) in (
      (
        more ++ s ∷ [],
        new.2 ∙ (ap (λ l. l ++ s ∷ []) e.1 ∙ append_assoc before more (s ∷ [])),
        length_push more s ∙ ap (λ k. k + 1) e.2,
        if_some (slice_get before outer) (λ t is.
            map_push string_bytes more s
            ∙ (ap (λ l. l ++ string_bytes s ∷ []) (at_some _ (slice_get before outer) t e.3 is)
            ∙ (ap (λ w. map (λ i. text_under (Some t) (element_text i)) (range_with_len 0 count) ++ w ∷ [])
            (new.1 ∙ ap (λ o. text_under o (element_text count)) (ap (λ l. slice_get l outer) e.1 ∙ slice_get_before before more outer t is))
            ∙ sym (map-range_with_len_more (λ i. text_under (Some t) (element_text i)) 0 count count (omega arith))))),
      ),
      (h.1 none).1 ∙ ap (λ k. Some k) long,
    )

abbrev claim_of : Claimed → Option ℕ → Option ℕ → Claim
claim_of x condition label = record { claimed = x; condition = condition; label = label }

-- one claim more, with its label
claims_push : (condition outer : Option ℕ) (first : ℕ) (list : List Claimed) (x : Claimed)
    → claims_from condition outer first (list ++ x ∷ [])
    ≡ claims_from condition outer first list ++ claim_of x condition (label_under outer (first + length list)) ∷ []
claims_push condition outer first list x = let f : ℕ × Claimed → Claim = λ p. claim_of p.1 condition (label_under outer p.0) in
    ap (map f) (enumerate_push first list x) ∙ map_push f (enumerate_from first list) (first + length list, x)

claims_more : (list : List Claimed) (x : Claimed) (condition outer label : Option ℕ) (a b m c : Constraints)
    → AddsClaims list condition outer a b → AddsIndexLabel (element_text (length list)) outer label b m → m.notes.fault ≡ None
    → c ≡ record m { notes = record m.notes { claims = c.notes.claims; fault = c.notes.fault } }
    → c.notes.claims.items ≡ m.notes.claims.items ++ claim_of x condition label ∷ []
    → AddsClaims (list ++ x ∷ []) condition outer a c
claims_more list x condition outer label a b m c h l none only new =
    let first = length a.notes.labels.items in
    let labelled = label_more outer label (length list) a.notes.labels.items b m h.1 l none in (
      h.0,
      subst (λ k. AddsElementLabels outer k a.notes.labels.items c.notes.labels.items) (sym (length_push list x))
          (subst (λ l. AddsElementLabels outer (length list + 1) a.notes.labels.items l) (sym (ap (λ (z : Constraints). z.notes.labels.items) only)) labelled.0),
      new ∙ (ap (λ k. m.notes.claims.items ++ claim_of x condition k ∷ []) labelled.1
          ∙ (ap (λ l. l ++ claim_of x condition (label_under outer (first + length list)) ∷ []) ((label_leaves (element_text (length list)) outer label b m l none).1 ∙ h.2)
          ∙ (append_assoc a.notes.claims.items (claims_from condition outer first list) _ ∙ ap (λ l. a.notes.claims.items ++ l) (sym (claims_push condition outer first list x))))),
    )

no_labels : (outer : Option ℕ) (ls : List (String Global)) → AddsElementLabels outer 0 ls ls
no_labels None ls = refl
no_labels (Some k) ls = ([], sym (append-nil ls), refl, if_some (slice_get ls k) (λ t is. refl))

-- the numbers of one expression more
numbers_more : {X : Type 0} (now : X → Option Body) (xs : List X) (ns : List ℕ) (i : ℕ) (x : X) (k : Known) → i < length xs → x ≡ get_or xs i x
    → AreNumbers (map now (take i xs)) ns → known (now x) ≡ Some k → AreNumbers (map now (take (i + 1) xs)) (ns ++ k.at.index ∷ [])
numbers_more now xs ns i x k lt is h e =
    subst (λ l. AreNumbers l (ns ++ k.at.index ∷ [])) (sym (ap (map now) (take_more xs i x lt) ∙ (map_push now (take i xs) (get_or xs i x) ∙ ap (λ z. map now (take i xs) ++ now z ∷ []) (sym is))))
    (all_zipped_more IsNumber (map now (take i xs)) ns (now x) k.at.index h (subst (λ o. IsSomeAnd o (λ v. k.at.index ≡ v.at.index)) (sym e) refl))

-- there are as many numbers
numbers_long : {X : Type 0} (now : X → Option Body) (xs : List X) (ns : List ℕ) (i : ℕ) → i < length xs → AreNumbers (map now (take i xs)) ns → length ns ≡ i
numbers_long now xs ns i lt h = AllZip-long IsNumber (map now (take i xs)) ns h ∙ (length-map (take i xs) now ∙ length-take-le i xs (omega (arith, lt)))

taken_alike : {X : Type 0} (now : X → Option Body) (xs ys : List X) (i : ℕ) → i < length xs → i < length ys → length (map now (take (i + 1) ys)) ≡ length (map now (take (i + 1) xs))
taken_alike now xs ys i ltx lty = length-map (take (i + 1) ys) now ∙ (length-take-le (i + 1) ys (omega (arith, lty)) ∙ sym (length-map (take (i + 1) xs) now ∙ length-take-le (i + 1) xs (omega (arith, ltx))))

zip_push : (ms ns : List ℕ) (m n : ℕ) → length ms ≡ length ns → zip (ms ++ m ∷ []) (ns ++ n ∷ []) ≡ zip ms ns ++ (m, n) ∷ []
zip_push [] [] m n e = refl
zip_push [] (b ∷ ns) m n e = absurd (omega (arith, e))
zip_push (a ∷ ms) [] m n e = absurd (omega (arith, e))
zip_push (a ∷ ms) (b ∷ ns) m n e = let d : length ms ≡ length ns = omega (arith, e) in ap {B = List (ℕ × ℕ)} (λ l. (a, b) ∷ l) (zip_push ms ns m n d)

module _ (condition outer : Option ℕ) where
  pub none_yet : (what : ℕ → Claimed) (a : Constraints) → ClaimsOfEach what [] condition outer a a
  none_yet what a = (refl, λ none. ([], tt, (none, no_labels outer a.notes.labels.items, sym (append-nil a.notes.claims.items))))

  pub no_pairs : (what : ℕ → ℕ → Claimed) (a : Constraints) → ClaimsOfPairs what [] [] condition outer a a
  no_pairs what a = (refl, λ none. ([], [], tt, tt, refl, (none, no_labels outer a.notes.labels.items, sym (append-nil a.notes.claims.items))))

  module _ {X : Type 0} (now : X → Option Body) (i : ℕ) (label : Option ℕ) (a b m c : Constraints) where
    pub each_more : (what : ℕ → Claimed) (xs : List X) (x : X) → i < length xs → x ≡ get_or xs i x → ClaimsOfEach what (map now (take i xs)) condition outer a b
        → AddsIndexLabel (element_text i) outer label b m → ClaimsOf what (now x) condition label m c
        → ClaimsOfEach what (map now (take (i + 1) xs)) condition outer a c
    each_more what xs x lt is h l one = (
      only_then a m c (only_then a b m h.0 (label_only (element_text i) outer label b m l)) (claim_only m c one.0),
      λ none. let k = in_some (known (now x)) (one.1 none) in let g = h.1 (label_leaves (element_text i) outer label b m l k.2.0).0 in let ns = g.0 in
          let long : length (map what ns) ≡ i = length-map ns what ∙ numbers_long now xs ns i lt g.1 in (
            ns ++ k.0.at.index ∷ [],
            numbers_more now xs ns i x k.0 lt is g.1 k.1,
            subst (λ v. AddsClaims v condition outer a c) (sym (map_push what ns k.0.at.index))
                (claims_more (map what ns) (what k.0.at.index) condition outer label a b m c g.2 (subst (λ j. AddsIndexLabel (element_text j) outer label b m) (sym long) l) k.2.0 one.0 k.2.1),
          ),
    )

    pub pairs_more : (what : ℕ → ℕ → Claimed) (xs ys : List X) (x y : X) → i < length xs → i < length ys → x ≡ get_or xs i x → y ≡ get_or ys i y
        → ClaimsOfPairs what (map now (take i xs)) (map now (take i ys)) condition outer a b
        → AddsIndexLabel (element_text i) outer label b m → ClaimsOfBoth what (now x) (now y) condition label m c
        → ClaimsOfPairs what (map now (take (i + 1) xs)) (map now (take (i + 1) ys)) condition outer a c
    pairs_more what xs ys x y ltx lty isx isy h l one = (
      only_then a m c (only_then a b m h.0 (label_only (element_text i) outer label b m l)) (claim_only m c one.0),
      λ none. let k = in_some (known (now x)) (one.1 none) in let n = in_some (known (now y)) k.2 in
          let g = h.1 (label_leaves (element_text i) outer label b m l n.2.0).0 in let ms = g.0 in let ns = g.1 in
          let f : ℕ × ℕ → Claimed = λ p. what p.0 p.1 in
          let longx = numbers_long now xs ms i ltx g.2 in let longy = numbers_long now ys ns i lty g.3 in
          let long : length (map f (zip ms ns)) ≡ i = length-map (zip ms ns) f ∙ (length-zip ms ns ∙ omega (arith, longx, longy)) in (
            ms ++ k.0.at.index ∷ [],
            ns ++ n.0.at.index ∷ [],
            numbers_more now xs ms i x k.0 ltx isx g.2 k.1,
            numbers_more now ys ns i y n.0 lty isy g.3 n.1,
            taken_alike now xs ys i ltx lty,
            subst (λ v. AddsClaims v condition outer a c) (sym (ap (map f) (zip_push ms ns k.0.at.index n.0.at.index (longx ∙ sym longy)) ∙ map_push f (zip ms ns) (k.0.at.index, n.0.at.index)))
                (claims_more (map f (zip ms ns)) (what k.0.at.index n.0.at.index) condition outer label a b m c g.5 (subst (λ j. AddsIndexLabel (element_text j) outer label b m) (sym long) l) n.2.0 one.0 n.2.1),
          ),
    )
