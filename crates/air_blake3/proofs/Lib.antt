-- Lemmas on words and on their assertions.
mod WordNumbers
mod MixSound
mod RoundSound
mod CompressSound
mod MixComplete
mod CompressComplete
mod Digits
mod Standing
mod RowHolds
mod Pushes
mod Checked
mod WholeTraces
mod LastBlock
