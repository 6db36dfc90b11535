use Rattle.std.proofs.Common.{arith, refl}
use Rattle.air_blake3.proofs.traces.row_count.Goals as goal

pub returns-in-None-clause-refused : goal.returns-in-None-clause-refused
returns-in-None-clause-refused c =
    let past = c.in-None.ensures in
    (18446744073709551616, ((64, refl), omega arith, omega (arith, past)), omega arith)
