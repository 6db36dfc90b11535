-- The packing of a xor, from its lowest bit on.
use Rattle.std.specs.List.{AllZip}
use Rattle.std.proofs.Common.{◌≡◌, ◌-◌, ◌<◌, ◌≤◌, List, [], ◌∷◌, length, take, drop, get_or, subst, sym, arith, length-drop}
use Rattle.std.proofs.lemmas.List.{take_all}
use Rattle.air_field.specs.Ring.{CommRing}
use Rattle.air_field.specs.Term.{Term, add_term}
use Rattle.air_field.specs.Algebra.{double_term, xor_term}
use Rattle.air_gadgets.specs.Packing.{packed_from, packed_term}
use Rattle.air_gadgets.specs.Gadgets.{FromTwo, xor_terms, packed_xor_term}

-- all elements but the first
rest_is : {X : Type 0} (xs : List X) → take (length xs - 1) (drop 1 xs) ≡ drop 1 xs
rest_is xs =
    let e = length-drop 1 xs in
    let le : length (drop 1 xs) ≤ length xs - 1 = omega (arith, e) in
    take_all (length xs - 1) (drop 1 xs) le

module _ {V F : Type 0} (Q : V → Term F → Type 0) (C : CommRing F) where
  -- both lists have a first term
  of_heads : (P : List (Term F) → Type 0) (v w : V) (vs ws : List V)
      → ((t u : Term F) (ts us : List (Term F)) → Q v t → Q w u → AllZip Q vs ts → AllZip Q ws us → P (xor_term t u ∷ xor_terms ts us))
      → (ts us : List (Term F)) → AllZip Q (v ∷ vs) ts → AllZip Q (w ∷ ws) us → P (xor_terms ts us)
  of_heads P v w vs ws go [] us h k = absurd h
  of_heads P v w vs ws go (t ∷ ts) [] h k = absurd k
  of_heads P v w vs ws go (t ∷ ts) (u ∷ us) h k = go t u ts us h.0 k.0 h.1 k.1

  -- the only bit, or the lowest one
  of_lowest : (P : Term F → Type 0) (b : Term F) → P b → ((x : Term F) → P (add_term (double_term x) b))
      → (xs : List (Term F)) → P (packed_term C.zero (b ∷ xs))
  of_lowest P b lone go [] = lone
  of_lowest P b lone go (x ∷ xs) = go (packed_from x xs)

  -- a predicate from the lowest bits only
  pub from_lowest : (vs ws : List V) {d e : V} → d ≡ get_or vs 0 d → e ≡ get_or ws 0 e → length vs ≡ length ws
      → (P : Term F → Type 0) → 0 < length vs → FromTwo xor_term (Q d) (Q e) P
      → ((x y : Term F) → P y → P (add_term (double_term x) y))
      → FromTwo (packed_xor_term C) (AllZip Q vs) (AllZip Q ws) P
  from_lowest [] ws p q same P some bit go = absurd (omega (arith, some))
  from_lowest (v ∷ vs) [] p q same P some bit go = absurd (omega (arith, same))
  from_lowest (v ∷ vs) (w ∷ ws) p q same P some bit go =
      of_heads (λ xs. P (packed_term C.zero xs)) v w vs ws
      (λ t u ts us i j _ _.
      let b = bit t u (subst (λ x. Q x t) (sym p) i) (subst (λ x. Q x u) (sym q) j) in
      of_lowest P (xor_term t u) b (λ x. go x (xor_term t u) b) (xor_terms ts us))

  -- a predicate from the lowest bits and the others
  pub from_all : (vs ws : List V) {d e : V} → d ≡ get_or vs 0 d → e ≡ get_or ws 0 e → length vs ≡ length ws
      → (B R P : Term F → Type 0) → 1 < length vs → FromTwo xor_term (Q d) (Q e) B
      → FromTwo (packed_xor_term C) (AllZip Q (take (length vs - 1) (drop 1 vs))) (AllZip Q (take (length ws - 1) (drop 1 ws))) R
      → ((x y : Term F) → R x → B y → P (add_term (double_term x) y))
      → FromTwo (packed_xor_term C) (AllZip Q vs) (AllZip Q ws) P
  from_all [] ws p q same B R P more bit rest go = absurd (omega (arith, more))
  from_all (v ∷ []) ws p q same B R P more bit rest go = absurd (omega (arith, more))
  from_all (v ∷ x ∷ vs) [] p q same B R P more bit rest go = absurd (omega (arith, same))
  from_all (v ∷ x ∷ vs) (w ∷ []) p q same B R P more bit rest go = absurd (omega (arith, same))
  from_all (v ∷ x ∷ vs) (w ∷ y ∷ ws) p q same B R P more bit rest go =
      of_heads (λ xs. P (packed_term C.zero xs)) v w (x ∷ vs) (y ∷ ws)
      (λ t u ts us i j h k.
      of_heads (λ xs. P (packed_term C.zero (xor_term t u ∷ xs))) x y vs ws
      (λ t' u' ts' us' i' j' h' k'.
      go (packed_xor_term C (t' ∷ ts') (u' ∷ us')) (xor_term t u)
      (rest (t' ∷ ts') (u' ∷ us') (subst (λ l. AllZip Q l (t' ∷ ts')) (sym (rest_is (v ∷ x ∷ vs))) (i', h')) (subst (λ l. AllZip Q l (u' ∷ us')) (sym (rest_is (w ∷ y ∷ ws))) (j', k')))
      (bit t u (subst (λ l. Q l t) (sym p) i) (subst (λ l. Q l u) (sym q) j))) ts us h k)
