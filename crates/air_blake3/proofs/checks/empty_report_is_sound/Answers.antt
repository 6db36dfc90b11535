use Rattle.air_blake3.proofs.Checked.{compressions_hold}
use Rattle.air_blake3.proofs.checks.empty_report_is_sound.Goals as goal

pub returns : goal.returns
returns g c =
    compressions_hold g.F.Field.ring g.F.PartialEq.eq g.met.F.Field.eq_is g.F.Field.CHARACTERISTIC g.met.F.PrimeField.domain
    c.compression_is_sound.ensures.compression
