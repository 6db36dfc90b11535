-- The residues modulo a number of 31 bits.
use Rattle.std.specs.Prelude.{ℕ, ◌%◌, refl}
use Rattle.air_field.specs.Ring.{CommRing}
use Rattle.air_field.specs.Modular.{Modular, modular_ring}
use Rattle.air_field.specs.declared.fields.modulus.Modulus.{Ghosts}
use Rattle.air_field.specs.declared.fields.residue.Residue.{Residue}
use Rattle.air_field.specs.laws.Residues.{same_value, class_bound}

-- the whole number below the modulus
abbrev pub residue_number : {M : Type 0} {m : Ghosts M} → Residue M m → ℕ
residue_number a = a.residue

-- the class of a whole number
abbrev pub residue_class : {M : Type 0} (m : Ghosts M) → ℕ → Residue M m
residue_class m n = record { residue = n % m.P; modulus = record {}; reduced = class_bound m n }

abbrev pub residues : {M : Type 0} (m : Ghosts M) → Modular (Residue M m) m.P
residues m =
    record {
      value = λ a. a.residue;
      class = residue_class m;
      value_class = λ n. refl;
      bound = λ a. a.reduced;
      same = same_value;
    }

abbrev pub residue_ring : {M : Type 0} (m : Ghosts M) → CommRing (Residue M m)
residue_ring m = modular_ring (residues m)
