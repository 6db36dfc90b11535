-- Laws of bits, packed bits, sums and xors of words, and vanishing constraints: the layers above cite them.
pub mod Bits
pub mod PowerSums
pub mod PackedBits
pub mod Carrying
pub mod ExactSums
pub mod Xors
pub mod ExactXors
pub mod Vanishing
pub mod VanishingBits
pub mod VanishingSums
