use Rattle.std.proofs.Common.{◌≡◌, ℕ, List, ◌∷◌, refl, ap₂}
use Rattle.keccak.specs.Constants.{offset}
use Rattle.keccak.specs.Steps.{rho}
use Rattle.keccak.proofs.steps.rho.Goals as goal

next : {x y : ℕ} {xs ys : List ℕ} → x ≡ y → xs ≡ ys → x ∷ xs ≡ y ∷ ys
next p q = ap₂ (λ x xs. x ∷ xs) p q

pub returns : goal.returns
unfolding rho offset
returns c =
    next refl (next c.rotate_left.ensures (next c.rotate_left-2.ensures (next c.rotate_left-3.ensures
    (next c.rotate_left-4.ensures (next c.rotate_left-5.ensures (next c.rotate_left-6.ensures
    (next c.rotate_left-7.ensures (next c.rotate_left-8.ensures (next c.rotate_left-9.ensures
    (next c.rotate_left-10.ensures (next c.rotate_left-11.ensures (next c.rotate_left-12.ensures
    (next c.rotate_left-13.ensures (next c.rotate_left-14.ensures (next c.rotate_left-15.ensures
    (next c.rotate_left-16.ensures (next c.rotate_left-17.ensures (next c.rotate_left-18.ensures
    (next c.rotate_left-19.ensures (next c.rotate_left-20.ensures (next c.rotate_left-21.ensures
    (next c.rotate_left-22.ensures (next c.rotate_left-23.ensures (next c.rotate_left-24.ensures refl))))))))))))))))))))))))
