-- The asserted terms of an addition, and the sum of the words.
use Rattle.std.specs.Prelude.{◌≡◌, ℕ, ◌↔◌, ⊤}
use Rattle.std.proofs.Common.{sym, ◌∙◌, ap, ap₂}
use Rattle.air_field.specs.Ring.{CommRing, image, minus}
use Rattle.air_field.specs.laws.Images.{HasCharacteristic}
use Rattle.air_gadgets.specs.Exact.{Add2IsExact, Add3IsExact}
use Rattle.air_gadgets.specs.laws.Carrying.{carry_out, add2_exact, add3_exact}

less_two_same : {A : Type 0} (R : CommRing A) (x y z k l m : A) → x ≡ k → y ≡ l → z ≡ m → minus R (minus R x y) z ≡ minus R (minus R k l) m
less_two_same R x y z k l m e f g = λ i. minus R (minus R (e i) (f i)) (g i)

less_three_same : {A : Type 0} (R : CommRing A) (x y z w k l m n : A) → x ≡ k → y ≡ l → z ≡ m → w ≡ n → minus R (minus R (minus R x y) z) w ≡ minus R (minus R (minus R k l) m) n
less_three_same R x y z w k l m n e f g h = λ i. minus R (minus R (minus R (e i) (f i)) (g i)) (h i)

whole_same : {A : Type 0} (R : CommRing A) (q x y k l : A) → x ≡ k → y ≡ l → R.add x (R.mul y q) ≡ R.add k (R.mul q l)
whole_same R q x y k l e f = ap₂ R.add e (ap (λ z. R.mul z q) f ∙ R.mul_comm l q)

-- both asserted terms vanish exactly if the sum is right, for terms equal to those of Carrying
both_vanish : {A : Type 0} (R : CommRing A) (n : ℕ) {P : Type 0} {x y k l : A} → x ≡ k → y ≡ l
    → ((carry_out R k 4294967296 n ≡ R.zero) × (carry_out R l 65536 n ≡ R.zero)) ↔ P
    → ((carry_out R x 4294967296 n ≡ R.zero) × ((carry_out R y 65536 n ≡ R.zero) × ⊤)) ↔ P
both_vanish R n whole low exact =
    let whole_is = ap (λ z. carry_out R z 4294967296 n) whole in
    let low_is = ap (λ z. carry_out R z 65536 n) low in (
      (λ h. exact.0 (sym whole_is ∙ h.0, sym low_is ∙ h.1.0)),
      (λ e. let r = exact.1 e in (whole_is ∙ r.0, (low_is ∙ r.1, tt))),
    )

pub add2_is_exact : {F : Type 0} (R : CommRing F) (p : ℕ) → HasCharacteristic R p → Add2IsExact R p
add2_is_exact R p has t u v s a b c domain big ha hb hc ea eb ec =
    let low = less_two_same R _ _ _ _ _ _ ea.0 eb.0 ec.0 in
    let whole = whole_same R (image R 65536) _ _ _ _ low (less_two_same R _ _ _ _ _ _ ea.1 eb.1 ec.1) in
    both_vanish R 1 whole low (add2_exact R p a.low a.high b.low b.high c.low c.high domain has big ha.0 ha.1 hb.0 hb.1 hc.0 hc.1)

pub add3_is_exact : {F : Type 0} (R : CommRing F) (p : ℕ) → HasCharacteristic R p → Add3IsExact R p
add3_is_exact R p has t u v w s a b c d domain big ha hb hc hd ea eb ec ed =
    let low = less_three_same R _ _ _ _ _ _ _ _ ea.0 eb.0 ec.0 ed.0 in
    let whole = whole_same R (image R 65536) _ _ _ _ low (less_three_same R _ _ _ _ _ _ _ _ ea.1 eb.1 ec.1 ed.1) in
    both_vanish R 2 whole low (add3_exact R p a.low a.high b.low b.high c.low c.high d.low d.high domain has big ha.0 ha.1 hb.0 hb.1 hc.0 hc.1 hd.0 hd.1)
