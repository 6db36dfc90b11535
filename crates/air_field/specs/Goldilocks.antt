-- The whole numbers modulo 18446744069414584321.
use Rattle.std.specs.Prelude.{ℕ, ◌%◌, refl}
use Rattle.air_field.specs.Ring.{CommRing}
use Rattle.air_field.specs.Modular.{Modular, modular_ring}
use Rattle.air_field.specs.declared.fields.goldilocks.Goldilocks.{Goldilocks}
use Rattle.air_field.specs.laws.Goldilocks.{same_goldilocks, goldilocks_bound}

-- the whole number below the modulus
abbrev pub goldilocks_number : Goldilocks → ℕ
goldilocks_number a = a.residue

abbrev pub goldilocks : ℕ → Goldilocks
goldilocks n = record { residue = n % 18446744069414584321; reduced = goldilocks_bound n }

abbrev pub goldilocks_modular : Modular Goldilocks 18446744069414584321
goldilocks_modular =
    record {
      value = λ a. a.residue;
      class = goldilocks;
      value_class = λ n. refl;
      bound = λ a. a.reduced;
      same = same_goldilocks;
    }

abbrev pub goldilocks_ring : CommRing Goldilocks
goldilocks_ring = modular_ring goldilocks_modular
