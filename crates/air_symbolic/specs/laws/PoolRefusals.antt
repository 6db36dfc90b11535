-- If a pool allows an error for a part of a term, it allows it for the whole. It always allows `Memory`.
use Rattle.std.specs.Prelude.{◌≡◌, ℕ, ◌≤◌, Result, Ok, Err}
use Rattle.std.proofs.Common.{sym, subst, arith}
use Rattle.std.proofs.Math.Nat.{le-max_left, le-max_right}
use Rattle.air_field.specs.Term.{Leaf, Term}
use Rattle.air_field.specs.Degree.{degree_by, cached_weight}
use Rattle.air_field.specs.Part.{Part, whole, in_add_left, in_add_right, in_sub_left, in_sub_right, in_neg, in_mul_left, in_mul_right}
use Rattle.air_field.specs.declared.errors.RingError.{RingError}
use Rattle.air_field.specs.declared.errors.RingError.TheVariants.{Memory, DegreeOverflow}
use Rattle.air_symbolic.specs.DegreeTables.{capped}
use Rattle.air_symbolic.specs.PoolRefusals.{PoolRefuses, AnswersDegree, IsChecked}

-- a part of a term has no greater degree
Part-degree : {F : Type 0} (w : Leaf → ℕ) {t u : Term F} → Part t u → degree_by w t ≤ degree_by w u
Part-degree w whole = omega arith
Part-degree w (in_add_left {u = u} {v = v} p) = omega (arith, Part-degree w p, le-max_left (degree_by w u) (degree_by w v))
Part-degree w (in_add_right {u = u} {v = v} p) = omega (arith, Part-degree w p, le-max_right (degree_by w u) (degree_by w v))
Part-degree w (in_sub_left {u = u} {v = v} p) = omega (arith, Part-degree w p, le-max_left (degree_by w u) (degree_by w v))
Part-degree w (in_sub_right {u = u} {v = v} p) = omega (arith, Part-degree w p, le-max_right (degree_by w u) (degree_by w v))
Part-degree w (in_neg p) = Part-degree w p
Part-degree w (in_mul_left {u = u} {v = v} p) = omega (arith, Part-degree w p)
Part-degree w (in_mul_right {u = u} {v = v} p) = omega (arith, Part-degree w p)

pub PoolRefuses-whole : {F : Type 0} (e : RingError) (t u : Term F) → Part t u → PoolRefuses e t → PoolRefuses e u
PoolRefuses-whole Memory t u p h = tt
PoolRefuses-whole DegreeOverflow t u p h = omega (arith, Part-degree cached_weight p, h)

pub memory_refuses : {F : Type 0} (e : RingError) (t : Term F) → e ≡ Memory → PoolRefuses e t
memory_refuses e t h = subst (λ x. PoolRefuses x t) (sym h) tt

-- a degree that a table holds, checked
pub checked_answers : (d : ℕ) (answer : Result ℕ RingError) → IsChecked (capped d) answer → AnswersDegree d answer
checked_answers d (Ok n) h = omega (arith, h.0, h.1)
checked_answers d (Err Memory) h = tt
checked_answers d (Err DegreeOverflow) h = omega (arith, h.1)
