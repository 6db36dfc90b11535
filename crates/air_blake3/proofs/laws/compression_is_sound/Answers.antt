use Rattle.air_blake3.proofs.MixSound.{mix_is_sound}
use Rattle.air_blake3.proofs.CompressSound.{compression_is_sound}
use Rattle.air_blake3.proofs.laws.compression_is_sound.Goals as goal

pub returns-clause-mix : goal.returns-clause-mix
returns-clause-mix g c = mix_is_sound g.F.Field.ring g.F.Field.CHARACTERISTIC g.met.F.Field.image_is

pub returns-clause-compression : goal.returns-clause-compression
returns-clause-compression g c = compression_is_sound g.F.Field.ring g.F.Field.CHARACTERISTIC g.met.F.Field.image_is
