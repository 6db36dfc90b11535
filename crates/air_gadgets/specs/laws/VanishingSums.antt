-- Where the constraints of a sum vanish, the words add up.
use Rattle.std.specs.Prelude.{ℕ, ◌*◌, ◌^◌, ◌<◌}
use Rattle.air_field.specs.Domain.{IsDomain}
use Rattle.air_field.specs.Ring.{CommRing}
use Rattle.air_field.specs.Term.{Leaf, Term}
use Rattle.air_builder.specs.Vanishing.{AllVanish}
use Rattle.air_gadgets.specs.Exact.{LimbsAre, Add2IsExact, Add3IsExact}
use Rattle.air_gadgets.specs.Gadgets.{add2_asserts, add3_asserts}
use Rattle.air_gadgets.specs.Words.{Limbs, AreLimbs}
use Rattle.air_gadgets.specs.Numbers.{IsWord, AddsUp, AddsUp3}

module _ {F : Type 0} (R : CommRing F) (p : ℕ) (domain : IsDomain R) (s : Leaf → F) where
  -- the limbs of a word: they have 16 bits, and are the values of its terms
  limbs_of : (t : Limbs (Term F)) → IsWord R s t → (n : Limbs ℕ) × AreLimbs n × LimbsAre R s t n
  limbs_of t h = (record { low = h.0.number; high = h.1.number }, (h.0.below, h.1.below), (h.0.is, h.1.is))

  -- where the constraints of `Add2` vanish for three words, the first is the sum of the others modulo 2^32
  pub adds_up : Add2IsExact R p → 2 ^ 17 < p → (t u v : Limbs (Term F)) → IsWord R s t → IsWord R s u → IsWord R s v
      → AllVanish R s (add2_asserts R t u v) → AddsUp R s t u v
  adds_up exact big t u v i j k h =
      let a = limbs_of t i in
      let b = limbs_of u j in
      let c = limbs_of v k in
      record {
        a = a.0;
        b = b.0;
        c = c.0;
        are_words = (a.1, b.1, c.1);
        stand = (a.2, b.2, c.2);
        sum = (exact t u v s a.0 b.0 c.0 domain big a.1 b.1 c.1 a.2 b.2 c.2).0 h;
      }

  -- where the constraints of `Add3` vanish for four words, the first is the sum of the others modulo 2^32
  pub adds_up_3 : Add3IsExact R p → 3 * 2 ^ 16 < p → (t u v w : Limbs (Term F)) → IsWord R s t → IsWord R s u → IsWord R s v → IsWord R s w
      → AllVanish R s (add3_asserts R t u v w) → AddsUp3 R s t u v w
  adds_up_3 exact big t u v w i j k l h =
      let a = limbs_of t i in
      let b = limbs_of u j in
      let c = limbs_of v k in
      let d = limbs_of w l in
      record {
        a = a.0;
        b = b.0;
        c = c.0;
        d = d.0;
        are_words = (a.1, b.1, c.1, d.1);
        stand = (a.2, b.2, c.2, d.2);
        sum = (exact t u v w s a.0 b.0 c.0 d.0 domain big a.1 b.1 c.1 d.1 a.2 b.2 c.2 d.2).0 h;
      }
