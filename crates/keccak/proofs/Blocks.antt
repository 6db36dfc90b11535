-- The blocks of a padded message, and the last one as the code makes it.
use Rattle.std.proofs.Common.{◌≡◌, ℕ, zero, suc, ◌+◌, ◌-◌, ◌*◌, ◌/◌, ◌%◌, ◌<◌, ◌≤◌, List, [], ◌∷◌, ◌++◌, length, take, drop, replicate, set, get_or, refl, sym, ap, ap₂, ◌∙◌, arith}
use Rattle.std.specs.Prelude.{bit_or}
use Rattle.std.proofs.lemmas.List.{length-append, length-drop, length-replicate, append_assoc, take_all, take-append-le, drop-append-le, get_or_at, set_at}
use Rattle.keccak.specs.Hashing.{padding_bytes, padding, padded, absorb, absorbed}

length-padding_bytes : (first q : ℕ) → length (padding_bytes first q) ≡ q
length-padding_bytes first zero = refl
length-padding_bytes first (suc zero) = refl
length-padding_bytes first (suc (suc k)) =
    let zeros : length {A = ℕ} (replicate k 0) ≡ k = length-replicate {A = ℕ} k 0 in
    omega (arith, length-append (first ∷ replicate k 0) (0x80 ∷ []), zeros)

replicate_end : (k : ℕ) → replicate {A = ℕ} (suc k) 0 ≡ replicate k 0 ++ 0 ∷ []
replicate_end zero = refl
replicate_end (suc k) = ap (λ (l : List ℕ). 0 ∷ l) (replicate_end k)

-- the byte `first` behind the rest of a message, and the last byte with its highest bit set
closed : (first last z : ℕ) (rest : List ℕ) → length rest + z ≡ last →
    set (set (rest ++ replicate (suc z) 0) (length rest) first) last (bit_or (get_or (set (rest ++ replicate (suc z) 0) (length rest) first) last 0) 0x80)
    ≡ rest ++ padding_bytes first (suc z)
closed first last zero rest h =
    let at : length rest ≡ last = omega arith in
    let opened : set (rest ++ 0 ∷ []) (length rest) first ≡ rest ++ first ∷ [] = set_at rest 0 [] first (length rest) refl in
    ap (λ (b : List ℕ). set b last (bit_or (get_or b last 0) 0x80)) opened
    ∙ ap (λ (v : ℕ). set (rest ++ first ∷ []) last (bit_or v 0x80)) (get_or_at rest first [] 0 last at)
    ∙ set_at rest first [] (bit_or first 0x80) last at
closed first last (suc m) rest h =
    let front : List ℕ = rest ++ first ∷ replicate m 0 in
    let zeros : length {A = ℕ} (replicate m 0) ≡ m = length-replicate {A = ℕ} m 0 in
    let at : length front ≡ last = omega (arith, length-append rest (first ∷ replicate m 0), zeros) in
    let opened : set (rest ++ 0 ∷ replicate (suc m) 0) (length rest) first ≡ front ++ 0 ∷ [] =
    set_at rest 0 (replicate (suc m) 0) first (length rest) refl
    ∙ ap (λ (l : List ℕ). rest ++ first ∷ l) (replicate_end m)
    ∙ sym (append_assoc rest (first ∷ replicate m 0) (0 ∷ [])) in
    ap (λ (b : List ℕ). set b last (bit_or (get_or b last 0) 0x80)) opened
    ∙ ap (λ (v : ℕ). set (front ++ 0 ∷ []) last (bit_or v 0x80)) (get_or_at front 0 [] 0 last at)
    ∙ set_at front 0 [] 0x80 last at
    ∙ append_assoc rest (first ∷ replicate m 0) (0x80 ∷ [])

pub last_block_is : (first : ℕ) (rest bytes zeros : List ℕ) → length rest < 136 → bytes ≡ rest → zeros ≡ replicate (136 - length rest) 0 →
    set (set (bytes ++ zeros) (length rest) first) 135 (bit_or (get_or (set (bytes ++ zeros) (length rest) first) 135 0) 0x80)
    ≡ rest ++ padding first (length rest)
last_block_is first rest bytes zeros h same blank =
    let z : ℕ = 135 - length rest in
    let left : 136 - length rest ≡ suc z = omega arith in
    let all : suc z ≡ 136 - length rest % 136 = omega arith in
    ap₂ (λ (b s : List ℕ). set (set (b ++ s) (length rest) first) 135 (bit_or (get_or (set (b ++ s) (length rest) first) 135 0) 0x80)) same (blank ∙ ap (λ (n : ℕ). replicate {A = ℕ} n 0) left)
    ∙ closed first 135 z rest (omega arith)
    ∙ ap (λ (q : ℕ). rest ++ padding_bytes first q) all

-- a whole block of a message, and the last block
pub whole_block : (m pad : List ℕ) (i : ℕ) → 136 * i + 136 ≤ length m → take 136 (drop (136 * i) (m ++ pad)) ≡ take 136 (drop (136 * i) m)
whole_block m pad i h =
    let room : 136 ≤ length (drop (136 * i) m) = omega (arith, length-drop (136 * i) m) in
    ap (take 136) (drop-append-le (136 * i) m pad (omega arith)) ∙ take-append-le 136 (drop (136 * i) m) pad room

final_block : (first whole : ℕ) (m : List ℕ) → whole ≡ length m / 136 →
    take 136 (drop (136 * whole) (padded first m)) ≡ drop (136 * whole) m ++ padding first (length (drop (136 * whole) m))
final_block first whole m h =
    let rest : List ℕ = drop (136 * whole) m in
    let left : length rest ≡ length m - 136 * whole = length-drop (136 * whole) m in
    let pad : List ℕ = padding first (length m) in
    let same : 136 - length m % 136 ≡ 136 - length rest % 136 = omega arith in
    let fits : length (rest ++ pad) ≤ 136 = omega (arith, length-append rest pad, length-padding_bytes first (136 - length m % 136)) in
    ap (take 136) (drop-append-le (136 * whole) m pad (omega arith))
    ∙ take_all 136 (rest ++ pad) fits
    ∙ ap (λ (q : ℕ). rest ++ padding_bytes first q) same

count_of_blocks : (first whole : ℕ) (m : List ℕ) → whole ≡ length m / 136 → suc whole ≡ length (padded first m) / 136
count_of_blocks first whole m h =
    omega (arith, length-append m (padding first (length m)), length-padding_bytes first (136 - length m % 136))

-- no block is absorbed at first; a whole block of the message is the next one; and the last block follows the whole ones
pub absorbed_none : (p : List ℕ) → replicate 25 0 ≡ absorbed p 0
unfolding absorbed
absorbed_none p = refl

pub absorbed_more : (first i : ℕ) (m s block : List ℕ) → 136 * i + 136 ≤ length m → s ≡ absorbed (padded first m) i → block ≡ take 136 (drop (136 * i) m) →
    absorb s block ≡ absorbed (padded first m) (i + 1)
unfolding absorbed
absorbed_more first i m s block h held read =
    let next : suc i ≡ i + 1 = omega arith in
    ap₂ absorb held (read ∙ sym (whole_block m (padding first (length m)) i h)) ∙ ap (absorbed (padded first m)) next

pub absorbed_all : (first whole : ℕ) (m s block : List ℕ) → whole ≡ length m / 136 → s ≡ absorbed (padded first m) whole →
    block ≡ drop (136 * whole) m ++ padding first (length (drop (136 * whole) m)) →
    absorb s block ≡ absorbed (padded first m) (length (padded first m) / 136)
unfolding absorbed
absorbed_all first whole m s block h held read =
    ap₂ absorb held (read ∙ sym (final_block first whole m h)) ∙ ap (absorbed (padded first m)) (count_of_blocks first whole m h)
