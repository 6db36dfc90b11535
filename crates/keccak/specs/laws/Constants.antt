-- The offsets and the constants, as the standard lists them.
use Rattle.std.specs.Prelude.{◌≡◌, ℕ, zero, suc, refl, List, [], ◌∷◌}
use Rattle.std.proofs.Common.{map}
use Rattle.std.specs.List.{range_with_len}
use Rattle.keccak.specs.Constants.{offset, round_constant}
use Rattle.keccak.specs.Steps.{state_of}

pub offsets_are : state_of offset ≡
    0 ∷ 1 ∷ 190 ∷ 28 ∷ 91 ∷
    36 ∷ 300 ∷ 6 ∷ 55 ∷ 276 ∷
    3 ∷ 10 ∷ 171 ∷ 153 ∷ 231 ∷
    105 ∷ 45 ∷ 15 ∷ 21 ∷ 136 ∷
    210 ∷ 66 ∷ 253 ∷ 120 ∷ 78 ∷ []
unfolding offset
offsets_are = refl

pub constants_are : map round_constant (range_with_len 0 24) ≡
    0x0000000000000001 ∷ 0x0000000000008082 ∷ 0x800000000000808A ∷ 0x8000000080008000 ∷
    0x000000000000808B ∷ 0x0000000080000001 ∷ 0x8000000080008081 ∷ 0x8000000000008009 ∷
    0x000000000000008A ∷ 0x0000000000000088 ∷ 0x0000000080008009 ∷ 0x000000008000000A ∷
    0x000000008000808B ∷ 0x800000000000008B ∷ 0x8000000000008089 ∷ 0x8000000000008003 ∷
    0x8000000000008002 ∷ 0x8000000000000080 ∷ 0x000000000000800A ∷ 0x800000008000000A ∷
    0x8000000080008081 ∷ 0x8000000000008080 ∷ 0x0000000080000001 ∷ 0x8000000080008008 ∷ []
unfolding round_constant
constants_are = refl
