-- Words of 32 bits: whole numbers modulo 2^32, and lists of 32 bits, the lowest first.
use Rattle.std.specs.Prelude.{ℕ, ◌+◌, ◌-◌, ◌*◌, ◌%◌, ◌^◌, ◌<◌, List, [], ◌∷◌, ◌++◌, take, drop}

-- The lower and the upper 16 bits of a word, or elements or terms for them.
pub record Limbs (A : Type 0) : Type 0 where
  pub low : A
  pub high : A

-- both are numbers of 16 bits
abbrev pub AreLimbs : Limbs ℕ → Type 0
AreLimbs w = (w.low < 2 ^ 16) × (w.high < 2 ^ 16)

-- the word with these limbs
abbrev pub word : Limbs ℕ → ℕ
word w = w.low + 2 ^ 16 * w.high

-- the sum of two words, and of three
abbrev pub word_sum : ℕ → ℕ → ℕ
word_sum m n = (m + n) % 2 ^ 32

abbrev pub word_sum_3 : ℕ → ℕ → ℕ → ℕ
word_sum_3 m n k = (m + n + k) % 2 ^ 32

-- the number with these bits, the lowest first
abbrev pub number_of : List ℕ → ℕ
number_of [] = 0
number_of (b ∷ bs) = b + 2 * number_of bs

-- the xor of two lists of bits, index by index
abbrev pub xor_bits : List ℕ → List ℕ → List ℕ
xor_bits [] cs = []
xor_bits (b ∷ bs) [] = []
xor_bits (b ∷ bs) (c ∷ cs) = (b + c) % 2 ∷ xor_bits bs cs

-- a list of 32 rotated to the left by `shift`: its last `shift` elements come first
abbrev pub rotated_left : {A : Type 0} → ℕ → List A → List A
rotated_left shift xs = drop (32 - shift) xs ++ take (32 - shift) xs

-- the halves of a list of 32 bits, as numbers
abbrev pub low_half : List ℕ → ℕ
low_half bs = number_of (take 16 bs)

abbrev pub high_half : List ℕ → ℕ
high_half bs = number_of (drop 16 bs)
