-- The operations of a ring without its laws: for definitions that also run on expressions.
use Rattle.air_field.specs.Ring.{CommRing}

pub record RingOps (A : Type 0) : Type 0 where
  pub zero : A
  pub one : A
  pub add : A → A → A
  pub mul : A → A → A
  pub neg : A → A

abbrev pub ops : {A : Type 0} → CommRing A → RingOps A
ops R = record { zero = R.zero; one = R.one; add = R.add; mul = R.mul; neg = R.neg }
