use Rattle.air_blake3_path.proofs.Roots.{paths_are_sound, roots_are_sound}
use Rattle.air_blake3_path.proofs.laws.paths_are_sound.Goals as goal

pub returns-clause-paths : goal.returns-clause-paths
returns-clause-paths g c =
    paths_are_sound g.F.Field.ring g.F.PartialEq.eq g.F.Field.CHARACTERISTIC g.met.F.Field.image_is g.met.F.PrimeField.domain
    c.compression_is_sound.ensures.compression c.empty_reports_hold.ensures.rows

pub returns-clause-roots : goal.returns-clause-roots
returns-clause-roots g c =
    roots_are_sound g.F.Field.ring g.F.PartialEq.eq g.F.Field.CHARACTERISTIC g.met.F.Field.image_is g.met.F.PrimeField.domain
    c.compression_is_sound.ensures.compression c.empty_reports_hold.ensures.rows
