-- How a tape is laid out. Bucket k has 32 * 2 ^ k slots, and its slot j stands for the index 32 * 2 ^ k + j - 32.
use Rattle.std.specs.Prelude.{◌≡◌, ℕ, ◌+◌, ◌*◌, ◌^◌, ◌<◌, ◌≤◌, List, [], ◌∷◌, length, slice_index_or}
use base.Stored.{Coded, coded×, coded_ℕ, coded_list, coded_via}
use Rattle.boxcar.specs.Slot.{Named, named_coded}

abbrev pub span : ℕ → ℕ
span k = 32 * 2 ^ k

abbrev pub first : List ℕ → ℕ
first [] = 0
first (n ∷ ns) = n

-- slot k is tagged with k
abbrev pub Numbered : List Named → Type 0
Numbered slots = (length slots ≤ 58) × ((k : ℕ) (d : Named) → k < length slots → (slice_index_or slots k d).tag ≡ k ∷ [])

abbrev pub IsAt : ℕ → ℕ → ℕ → Type 0
IsAt index k j = (k < 58) × (j < span k) × (span k + j ≡ index + 32)

abbrev pub id_at : List Named → ℕ → ℕ
id_at slots j = (slice_index_or slots j record { id = 0; tag = [] }).id

-- what a clause sees of a token: the index and the value, the bucket with the name of its slot, and the name of the value's slot
pub record Where (T : Type 0) : Type 0 where
  pub index : ℕ
  pub value : T
  pub bucket : ℕ
  pub row : ℕ
  pub item : ℕ

abbrev pub where_coded : {T : Type 0} → Coded T → Coded (Where T)
where_coded {T} c = coded_via (coded× coded_ℕ (coded× c (coded× coded_ℕ (coded× coded_ℕ coded_ℕ)))) (λ (p : Where T). (p.index, (p.value, (p.bucket, (p.row, p.item)))))
    (λ x y e i. record { index = (e i).0; value = (e i).1.0; bucket = (e i).1.1.0; row = (e i).1.1.1.0; item = (e i).1.1.1.1 })

-- the token is of this tape
abbrev pub Shows : {T : Type 0} → List Named → Where T → Type 0
Shows slots p = (p.bucket < length slots) × (p.row ≡ id_at slots p.bucket)

-- the tokens are of the tape, one for each item, at its index
abbrev pub Told : {T : Type 0} → List Named → List T → List (Where T) → Type 0
Told {T} tape items shown = (length shown ≡ length items) × ((i : ℕ) (d : Where T) (e : T) → i < length items →
    ((slice_index_or shown i d).index ≡ i) × Shows tape (slice_index_or shown i d) × ((slice_index_or shown i d).value ≡ slice_index_or items i e))
