-- The names of refusals.
use Rattle.std.specs.Prelude.{ℕ, List, codes}
use Rattle.blake3_rows.specs.declared.refusals.Refusal.{Refusal}
use Rattle.blake3_rows.specs.declared.refusals.Refusal.TheVariants as refusals

-- the name of the refusal's variant
abbrev pub refusal_name : Refusal → List ℕ
refusal_name refusals.Usage = codes "Usage"
refusal_name refusals.NotANumber = codes "NotANumber"
refusal_name refusals.Read = codes "Read"
refusal_name refusals.TooLong = codes "TooLong"
refusal_name refusals.NoSuchRow = codes "NoSuchRow"
refusal_name refusals.NoSuchColumn = codes "NoSuchColumn"
refusal_name refusals.Memory = codes "Memory"
refusal_name refusals.Audit = codes "Audit"
