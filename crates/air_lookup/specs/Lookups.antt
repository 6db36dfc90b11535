-- Values that are looked up in a table: how few elements let them balance, unless each is in the table.
use Rattle.std.specs.Prelude.{◌≡◌, ◌≢◌, ℕ, ◌+◌, ◌<◌, List, ◌++◌, length, map, Bool}
use Rattle.std.specs.List.{filter}
use Rattle.air_field.specs.Distinct.{AtMost, FewerThan}
use Rattle.air_field.specs.Ring.{CommRing}
use Rattle.air_lookup.specs.Balance.{Entry, Balances, total, others}

-- each value with the multiplicity m
abbrev pub each_with : {A : Type 0} → A → List A → List (Entry A)
each_with m vs = map (λ v. record { value = v; multiplicity = m }) vs

-- how often a value occurs in a list
abbrev pub occurrences : {A : Type 0} → (A → A → Bool) → A → List A → ℕ
occurrences eq v vs = length (filter (λ x. eq x v) vs)

-- If the multiplicities of some value don't sum to zero, the entries balance at no more elements than there are entries of
-- other values.
abbrev pub FewBalance : {A : Type 0} → CommRing A → (A → A → Bool) → Type 0
FewBalance {A} r eq = (es : List (Entry A)) (v : A) → total r eq v es ≢ r.zero → AtMost (λ alpha. Balances r alpha es) (others eq v es)

-- Fewer values than the characteristic p are looked up in a table. If one of them isn't in the table, they and the table
-- balance at fewer elements than there are entries, for any multiplicities of the table.
abbrev pub LookupsAreSound : {A : Type 0} → CommRing A → (A → A → Bool) → ℕ → Type 0
LookupsAreSound {A} r eq p =
    (looked_up : List A) (table : List (Entry A)) (v : A) → length looked_up < p
    → occurrences eq v looked_up ≢ 0 → occurrences eq v (map (λ e. e.value) table) ≡ 0
    → FewerThan (λ alpha. Balances r alpha (each_with (r.neg r.one) looked_up ++ table)) (length looked_up + length table)

-- Two lists are each shorter than the characteristic p. If some value doesn't occur in both equally often, they balance at
-- fewer elements than both have together.
abbrev pub MultisetsAreSound : {A : Type 0} → CommRing A → (A → A → Bool) → ℕ → Type 0
MultisetsAreSound {A} r eq p =
    (xs ys : List A) (v : A) → length xs < p → length ys < p → occurrences eq v xs ≢ occurrences eq v ys
    → FewerThan (λ alpha. Balances r alpha (each_with (r.neg r.one) xs ++ each_with r.one ys)) (length xs + length ys)
