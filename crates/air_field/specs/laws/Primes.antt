-- The moduli are primes.
use Rattle.std.specs.Prelude.{refl}
use Rattle.std.proofs.Common.{lit<, lit≤}
use Rattle.air_field.specs.Prime.{IsPrime}
use Rattle.air_field.specs.laws.Trial.{prime_by_trial}
use Rattle.air_field.specs.laws.Order.{prime_by_order}

pub mersenne31_prime : IsPrime 2147483647
mersenne31_prime = prime_by_trial 2147483647 46339 (lit≤ tt) (lit< tt) refl

pub goldilocks_prime : IsPrime 18446744069414584321
goldilocks_prime = prime_by_order 18446744069414584321 1753635133440165772 31 (lit≤ tt) refl (lit< tt) refl

pub baby_bear_prime : IsPrime 2013265921
baby_bear_prime = prime_by_order 2013265921 440564289 26 (lit≤ tt) refl (lit< tt) refl

pub koala_bear_prime : IsPrime 2130706433
koala_bear_prime = prime_by_order 2130706433 1791270792 23 (lit≤ tt) refl (lit< tt) refl
