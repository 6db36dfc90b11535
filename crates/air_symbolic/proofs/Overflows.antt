-- Degrees above `usize`.
use Rattle.std.proofs.Common.{◌≡◌, ℕ, zero, suc, ◌<◌, ◌≤◌, ◌^◌, List, [], ◌∷◌, length, map, get_or, inl, inr, subst, arith}
use Rattle.air_symbolic.specs.Weights.{SomeOverflows}

-- the degree at index i exceeds `usize`
pub overflows-at : {X : Type 0} (f : X → ℕ) (xs : List X) (i : ℕ) (x : X) → i < length xs → x ≡ get_or xs i x → 2 ^ 64 ≤ f x → SomeOverflows (map f xs)
overflows-at f [] i x b e h = absurd (omega arith)
overflows-at f (y ∷ ys) zero x b e h = inl (subst (λ z. 2 ^ 64 ≤ f z) e h)
overflows-at f (y ∷ ys) (suc i) x b e h = inr (overflows-at f ys i x (omega arith) e h)
