-- The text spelled by the letters read so far.
use Rattle.std.specs.Prelude.{Option, None, Some, Result, Ok, Err, ok_or, encode_utf8, encode_utf8_all, if◌then◌else◌}
use Rattle.std.specs.List.{AllZip, concat}
use Rattle.std.specs.Str.{chars}
use Rattle.std.proofs.Common.{◌≡◌, ℕ, suc, ◌<◌, length, take, drop, get_or, drop-cons, Bool, true, false, List, [], ◌∷◌, ◌++◌, inl, inr, append_assoc, append-nil, refl, sym, ap, ap₂, ◌∙◌}
use Rattle.std.proofs.lemmas.List.{take-append-drop}
use Rattle.std.proofs.lemmas.Str.{encodes-append}
use Rattle.test_lines.specs.Spelled.{escaped_letter, SpellsLetter, SpellsText}
use Rattle.test_lines.proofs.Lists.{AllZip-end}

-- the letters read are whole pieces, followed by a backslash if `behind`
pub record SpellsSoFar (read : List ℕ) (behind : Bool) (text : List ℕ) : Type 0 where
  pub pieces : List (List ℕ)
  pub letters : List ℕ
  pub each : AllZip SpellsLetter pieces letters
  pub read_is : read ≡ concat pieces ++ (if behind then 92 ∷ [] else [])
  pub text_is : text ≡ encode_utf8_all letters

concat-end : (xss : List (List ℕ)) (xs : List ℕ) → concat (xss ++ xs ∷ []) ≡ concat xss ++ xs
concat-end [] xs = append-nil xs
concat-end (ys ∷ xss) xs = ap (λ t. ys ++ t) (concat-end xss xs) ∙ sym (append_assoc ys (concat xss) xs)

encodes-end : (cs : List ℕ) (c : ℕ) → encode_utf8_all (cs ++ c ∷ []) ≡ encode_utf8_all cs ++ encode_utf8 c
encodes-end cs c = encodes-append cs (c ∷ []) ∙ ap (λ t. encode_utf8_all cs ++ t) (append-nil (encode_utf8 c))

pub spells-nothing : SpellsSoFar [] false []
spells-nothing = record { pieces = []; letters = []; each = tt; read_is = refl; text_is = refl }

-- reads a backslash
pub spells-behind : (read text : List ℕ) → SpellsSoFar read false text → SpellsSoFar (read ++ 92 ∷ []) true text
spells-behind read text h = record {
  pieces = h.pieces;
  letters = h.letters;
  each = h.each;
  read_is = ap (λ t. t ++ 92 ∷ []) (h.read_is ∙ append-nil (concat h.pieces));
  text_is = h.text_is;
}

-- reads a letter that ends a piece
pub spells-more : (read text : List ℕ) (behind : Bool) (c letter : ℕ) → SpellsSoFar read behind text
    → SpellsLetter ((if behind then 92 ∷ [] else []) ++ c ∷ []) letter → SpellsSoFar (read ++ c ∷ []) false (text ++ encode_utf8 letter)
spells-more read text behind c letter h s =
    let begun : List ℕ = if behind then 92 ∷ [] else [] in
    record {
      pieces = h.pieces ++ (begun ++ c ∷ []) ∷ [];
      letters = h.letters ++ letter ∷ [];
      each = AllZip-end SpellsLetter h.pieces h.letters (begun ++ c ∷ []) letter h.each s;
      read_is = ap (λ t. t ++ c ∷ []) h.read_is ∙ append_assoc (concat h.pieces) begun (c ∷ []) ∙ sym (concat-end h.pieces (begun ++ c ∷ [])) ∙ sym (append-nil (concat (h.pieces ++ (begun ++ c ∷ []) ∷ [])));
      text_is = ap (λ t. t ++ encode_utf8 letter) h.text_is ∙ sym (encodes-end h.letters letter);
    }

-- all letters are read
pub spells-all : (word text read : List ℕ) → read ≡ chars word → SpellsSoFar read false text → SpellsText word text
spells-all word text read e h = record {
  pieces = h.pieces;
  letters = h.letters;
  each = h.each;
  word_is = sym e ∙ h.read_is ∙ append-nil (concat h.pieces);
  text_is = h.text_is;
}

-- if `ok_or` gives an error, the option is None
pub no-letter : {E : Type 0} (o : Option ℕ) (e y : E) → ◌≡◌ {A = Result ℕ E} (Err y) (ok_or o e) → (o ≡ None) × (y ≡ e)
no-letter None e y h = (refl, cc)
no-letter (Some x) e y h = absurd (clash x e y h)
  where
    clash : {E : Type 0} (x : ℕ) (e y : E) → ◌≡◌ {A = Result ℕ E} (Err y) (ok_or (Some x) e) → ⊥
    clash x e y h = cc

-- if `ok_or` gives a value, the option holds it
pub letter-of : {E : Type 0} (o : Option ℕ) (e : E) (x : ℕ) → ◌≡◌ {A = Result ℕ E} (Ok x) (ok_or o e) → o ≡ Some x
letter-of None e x h = cc
letter-of (Some y) e x h = cc

heads : {A : Type 0} (x y : A) (xs ys : List A) → x ∷ xs ≡ y ∷ ys → x ≡ y
heads x y xs ys e = cc

tails : {A : Type 0} (x y : A) (xs ys : List A) → x ∷ xs ≡ y ∷ ys → xs ≡ ys
tails x y xs ys e = cc

absurd-cons : (x : ℕ) (xs : List ℕ) → x ∷ xs ≡ [] → ⊥
absurd-cons x xs e = cc

no-piece : (piece text : List ℕ) (letter : ℕ) → SpellsLetter piece letter → piece ++ text ≡ [] → ⊥
no-piece piece text letter h e = elim h [
  | inl a ↦ absurd-cons letter text (ap (λ p. p ++ text) (sym a.0) ∙ e)
  | inr a ↦ absurd-cons 92 (a.0 ∷ text) (ap (λ p. p ++ text) (sym a.1) ∙ e)
]

-- equal texts that each begin with a piece have equal rests
same-piece : (p q s t : List ℕ) (l m : ℕ) → SpellsLetter p l → SpellsLetter q m → p ++ s ≡ q ++ t → s ≡ t
same-piece p q s t l m h k e = elim h [
  | inl a ↦ elim k [
    | inl b ↦ tails l m s t (ap (λ x. x ++ s) (sym a.0) ∙ e ∙ ap (λ x. x ++ t) b.0)
    | inr b ↦ absurd (a.1 (heads l 92 s (b.0 ∷ t) (ap (λ x. x ++ s) (sym a.0) ∙ e ∙ ap (λ x. x ++ t) b.1)))
  ]
  | inr a ↦ elim k [
    | inl b ↦ absurd (b.1 (sym (heads 92 m (a.0 ∷ s) t (ap (λ x. x ++ s) (sym a.1) ∙ e ∙ ap (λ x. x ++ t) b.0))))
    | inr b ↦ tails a.0 b.0 s t (tails 92 92 (a.0 ∷ s) (b.0 ∷ t) (ap (λ x. x ++ s) (sym a.1) ∙ e ∙ ap (λ x. x ++ t) b.1))
  ]
]

-- whole pieces followed by something that begins with no piece are not a list of pieces
spells-stuck : (rest : List ℕ) → (rest ≡ [] → ⊥) → ((q s : List ℕ) (l : ℕ) → SpellsLetter q l → rest ≡ q ++ s → ⊥)
    → (ps : List (List ℕ)) (ls : List ℕ) (qs : List (List ℕ)) (ks : List ℕ)
    → AllZip SpellsLetter ps ls → AllZip SpellsLetter qs ks → concat ps ++ rest ≡ concat qs → ⊥
spells-stuck rest more stuck [] ls [] ks h k e = more e
spells-stuck rest more stuck [] ls (q ∷ qs) [] h k e = k
spells-stuck rest more stuck [] ls (q ∷ qs) (m ∷ ks) h k e = stuck q (concat qs) m k.0 e
spells-stuck rest more stuck (p ∷ ps) [] qs ks h k e = h
spells-stuck rest more stuck (p ∷ ps) (l ∷ ls) [] ks h k e = no-piece p (concat ps ++ rest) l h.0 (sym (append_assoc p (concat ps) rest) ∙ e)
spells-stuck rest more stuck (p ∷ ps) (l ∷ ls) (q ∷ qs) [] h k e = k
spells-stuck rest more stuck (p ∷ ps) (l ∷ ls) (q ∷ qs) (m ∷ ks) h k e =
    spells-stuck rest more stuck ps ls qs ks h.1 k.1 (same-piece p q (concat ps ++ rest) (concat qs) l m h.0 k.0 (sym (append_assoc p (concat ps) rest) ∙ e))

stuck-none : (c : ℕ) (rest : List ℕ) → escaped_letter c ≡ None → (q s : List ℕ) (l : ℕ) → SpellsLetter q l → 92 ∷ c ∷ rest ≡ q ++ s → ⊥
stuck-none c rest none q s l h e = elim h [
  | inl a ↦ a.1 (sym (heads 92 l (c ∷ rest) s (e ∙ ap (λ x. x ++ s) a.0)))
  | inr b ↦ clash l (sym none ∙ ap escaped_letter (heads c b.0 rest s (tails 92 92 (c ∷ rest) (b.0 ∷ s) (e ∙ ap (λ x. x ++ s) b.1))) ∙ b.2)
]
  where
    clash : (l : ℕ) → ◌≡◌ {A = Option ℕ} None (Some l) → ⊥
    clash l e = cc

stuck-open : (q s : List ℕ) (l : ℕ) → SpellsLetter q l → 92 ∷ [] ≡ q ++ s → ⊥
stuck-open q s l h e = elim h [
  | inl a ↦ a.1 (sym (heads 92 l [] s (e ∙ ap (λ x. x ++ s) a.0)))
  | inr b ↦ clash b.0 s (tails 92 92 [] (b.0 ∷ s) (e ∙ ap (λ x. x ++ s) b.1))
]
  where
    clash : (x : ℕ) (xs : List ℕ) → [] ≡ x ∷ xs → ⊥
    clash x xs e = cc

-- a letter without a meaning after a backslash: the word spells no text
pub spells-none : (word read rest text : List ℕ) (c : ℕ) → read ++ c ∷ rest ≡ chars word → escaped_letter c ≡ None
    → (t : List ℕ) → SpellsSoFar read true t → SpellsText word text → ⊥
spells-none word read rest text c e none t h s =
    spells-stuck (92 ∷ c ∷ rest) (λ z. absurd-cons 92 (c ∷ rest) z) (stuck-none c rest none) h.pieces h.letters s.pieces s.letters h.each s.each
    (sym (append_assoc (concat h.pieces) (92 ∷ []) (c ∷ rest)) ∙ sym (ap (λ r. r ++ c ∷ rest) h.read_is) ∙ e ∙ s.word_is)

-- a backslash at the end: the word spells no text
pub spells-open : (word read text : List ℕ) → read ≡ chars word
    → (t : List ℕ) → SpellsSoFar read true t → SpellsText word text → ⊥
spells-open word read text e t h s =
    spells-stuck (92 ∷ []) (λ z. absurd-cons 92 [] z) stuck-open h.pieces h.letters s.pieces s.letters h.each s.each (sym h.read_is ∙ e ∙ s.word_is)

-- the letters read, the next letter and the rest make up the list
pub read-next : (cs read : List ℕ) (c : ℕ) → read ≡ take (length read) cs → length read < length cs → c ≡ get_or cs (length read) c
    → read ++ c ∷ drop (suc (length read)) cs ≡ cs
read-next cs read c e lt is =
    ap₂ (λ r l. r ++ l) e (ap (λ x. x ∷ drop (suc (length read)) cs) is ∙ sym (drop-cons cs (length read) c lt)) ∙ take-append-drop (length read) cs
