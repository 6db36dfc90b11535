use Rattle.std.proofs.Common.{◌≡◌, ◌∙◌, ◌%◌, ◌-◌, ◌+◌, ◌<◌, ◌≤◌, sym, refl, arith}
use Rattle.std.proofs.Math.Nat.{add-mod-mod}
use Rattle.air_field.specs.Residue.{residues}
use Rattle.air_field.specs.laws.Modular.{same_class}
use Rattle.air_field.specs.laws.Residues.{none_taken, one_taken}
use Rattle.air_field.proofs.fields.residue_field.ResidueField.sub.Goals.{then-self-other, else-self-other}
use Rattle.air_field.proofs.fields.residue_field.ResidueField.sub.Goals as goal

pub returns : goal.returns
returns g c =
    let p = g.M.Modulus.P in
    let a = c.args.self.residue in
    let b = c.args.other.residue in
    let n = a + (p - b) in
    let a_low : a < p = c.args.self.reduced in
    let b_low : b < p = c.args.other.reduced in
    let small : p < 2147483648 = g.M.Modulus.small in
    let difference : c.if-self-other.residue ≡ n % p =
    elim c.if-self-other.branch [
      | then-self-other w ↦
          let less : a < b = w.if-self-other.true in
          let read : w.P.result ≡ p = w.P.ensures in
          let value : c.if-self-other.residue ≡ ((a + (4294967296 - b)) % 4294967296 + w.P.result) % 4294967296 = w.residue-is in
          none_taken p p n _ refl (omega (arith, less, b_low)) (omega (arith, value, read, less, b_low, small))
      | else-self-other w ↦
          let least : b ≤ a = w.if-self-other.false in
          let value : c.if-self-other.residue ≡ (a + (4294967296 - b)) % 4294967296 = w.residue-is in
          one_taken p p n _ refl (omega (arith, least, b_low)) (omega (arith, a_low, b_low)) (omega (arith, value, least, a_low, b_low, small))
    ]
    in
    same_class (residues g.M.Modulus) _ _ (difference ∙ sym (add-mod-mod a (p - b) p))
