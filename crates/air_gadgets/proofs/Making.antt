-- The answer of a call that makes something in a ring, from the answers of its own calls.
use Rattle.std.specs.Result.{IsErrAnd}
use Rattle.std.proofs.Common.{◌≡◌, Result, Ok, Err, IfOk, IfErr}
use Rattle.std.proofs.lemmas.Result.{err_from_is_err_and}
use Rattle.air_field.specs.Algebra.{AlgebraLaws, MadeOfBoth, RefusedOfBoth}
use Rattle.air_field.specs.Term.{Term}
use Rattle.air_gadgets.specs.Gadgets.{FromTwo, MakesFrom}

module _ {E X A : Type 0} {has : E → Type 0} {means : E → A → Type 0} {refuses : X → A → Type 0}
    {from : (A → Type 0) → Type 0} where
  -- a `?` returns an error
  pub gives_up : (e : X) {result : Result E X} → IsErrAnd result (λ x. x ≡ e) → from (refuses e)
      → MakesFrom has means refuses from result
  gives_up e {result = result} p h =
      let q = err_from_is_err_and result p in
      rw (q.1, q.2) record { made = tt; refused = h }

  -- the last call made it, from earlier elements
  pub makes_from : {was : (A → Type 0) → Type 0} (result : Result E X) → ((M : A → Type 0) → was M → from M)
      → MakesFrom has means refuses was result → MakesFrom has means refuses from result
  makes_from (Ok z) f h = record { made = (h.made.0, f (means z) h.made.1); refused = tt }
  makes_from (Err e) f h = record { made = tt; refused = f (refuses e) h.refused }

module _ {R E F X : Type 0} {valid : R → Type 0} {has : R → E → Type 0} {means : R → E → Term F → Type 0}
    {extends : R → R → Type 0} {refuses : X → Term F → Type 0} (laws : AlgebraLaws valid has means extends refuses) where
  -- the ring's own operation made it
  pub makes_by : {op : Term F → Term F → Term F} {from : (Term F → Type 0) → Type 0} {old new : R} {x y : E}
      (result : Result E X) → IfOk result (MadeOfBoth has means op old new x y)
      → IfErr result (RefusedOfBoth means refuses op old x y)
      → ((M : Term F → Type 0) → FromTwo op (means old x) (means old y) M → from M)
      → MakesFrom (has new) (means new) refuses from result
  makes_by {new = new} (Ok z) m r f = record { made = (m.0, f (means new z) m.1); refused = tt }
  makes_by (Err e) m r f = record { made = tt; refused = f (refuses e) r }

  -- an operation on two elements, made one after the other
  pub one_by_one : {op : Term F → Term F → Term F} {P Q : Term F → Type 0} {q r : R} {x y : E} → extends q r
      → ((t : Term F) → P t → means q x t) → ((t : Term F) → Q t → means r y t)
      → (M : Term F → Type 0) → FromTwo op (means r x) (means r y) M → FromTwo op P Q M
  one_by_one {q = q} {r = r} {x = x} e f g M h t u m n = h t u (laws.means_stays q r x t e (f t m)) (g u n)
