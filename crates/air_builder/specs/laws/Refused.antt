-- A refusal of a part is a refusal of the whole.
use Rattle.std.specs.Prelude.{◌≡◌, List, [], ◌∷◌, ◌++◌, refl}
use Rattle.std.proofs.Common.{inl, inr, subst}
use Rattle.air_field.specs.Term.{Leaf, permutation, Term, leaf_term}
use Rattle.air_field.specs.declared.errors.RingError.{RingError}
use Rattle.air_field.specs.declared.errors.RingError.TheVariants as ring
use Rattle.air_core.specs.Entries.{entry_leaf}
use Rattle.air_core.specs.ExtEntries.{ext_entry_leaf}
use Rattle.air_builder.specs.Assertion.{Assertion}
use Rattle.air_core.specs.Errors.{air_error}
use Rattle.air_builder.specs.Refusals.{NamesLeaf, PartOf}
use Rattle.air_core.specs.declared.errors.AirError.{AirError}
use Rattle.air_core.specs.declared.errors.AirError.TheVariants.{Memory, DegreeOverflow, CountOverflow, MissingEntry, RowOffset, MissingExtEntry, NoPermutation}
use Rattle.air_builder.specs.Refused.{Refused}

pub PartOf-first : {F : Type 0} (t : Term F) (xs ys : List (Assertion F)) → PartOf t xs → PartOf t (xs ++ ys)
PartOf-first t [] ys p = absurd p
PartOf-first t (x ∷ xs) ys (inl p) = inl p
PartOf-first t (x ∷ xs) ys (inr p) = inr (PartOf-first t xs ys p)

pub PartOf-then : {F : Type 0} (t : Term F) (xs ys : List (Assertion F)) → PartOf t ys → PartOf t (xs ++ ys)
PartOf-then t [] ys p = p
PartOf-then t (x ∷ xs) ys p = inr (PartOf-then t xs ys p)

module _ {F : Type 0} (missing : Leaf → Type 0) (over : Term F → Type 0) (full : List (Assertion F) → Type 0) where
  pub Refused-first : (e : AirError) (xs ys : List (Assertion F)) → (full xs → full (xs ++ ys)) → Refused missing over full e xs → Refused missing over full e (xs ++ ys)
  Refused-first Memory xs ys k h = tt
  Refused-first DegreeOverflow xs ys k h = (h.0, (h.1.0, PartOf-first h.0 xs ys h.1.1))
  Refused-first CountOverflow xs ys k h = k h
  Refused-first (MissingEntry e i) xs ys k h = (h.0, PartOf-first (leaf_term (entry_leaf e i)) xs ys h.1, h.2)
  Refused-first (RowOffset o) xs ys k h = (h.0, h.1, h.2, PartOf-first (leaf_term h.0) xs ys h.3)
  Refused-first (MissingExtEntry e i) xs ys k h = (h.0, PartOf-first (leaf_term (ext_entry_leaf e i)) xs ys h.1)
  Refused-first NoPermutation xs ys k h = (h.0, h.1, h.2, PartOf-first (leaf_term (permutation h.0 h.1)) xs ys h.3)
  Refused-first _ xs ys k h = absurd h

  pub Refused-then : (before : List (Assertion F) → Type 0) (e : AirError) (xs ys : List (Assertion F))
      → (full ys → before (xs ++ ys)) → Refused missing over full e ys → Refused missing over before e (xs ++ ys)
  Refused-then before Memory xs ys k h = tt
  Refused-then before DegreeOverflow xs ys k h = (h.0, (h.1.0, PartOf-then h.0 xs ys h.1.1))
  Refused-then before CountOverflow xs ys k h = k h
  Refused-then before (MissingEntry e i) xs ys k h = (h.0, PartOf-then (leaf_term (entry_leaf e i)) xs ys h.1, h.2)
  Refused-then before (RowOffset o) xs ys k h = (h.0, h.1, h.2, PartOf-then (leaf_term h.0) xs ys h.3)
  Refused-then before (MissingExtEntry e i) xs ys k h = (h.0, PartOf-then (leaf_term (ext_entry_leaf e i)) xs ys h.1)
  Refused-then before NoPermutation xs ys k h = (h.0, h.1, h.2, PartOf-then (leaf_term (permutation h.0 h.1)) xs ys h.3)
  Refused-then before _ xs ys k h = absurd h

  pub Refused-missing : (e : AirError) (l : Leaf) (ts : List (Assertion F)) → missing l → NamesLeaf e l → PartOf (leaf_term l) ts → Refused missing over full e ts
  Refused-missing Memory l ts m n p = tt
  Refused-missing DegreeOverflow l ts m n p = absurd n
  Refused-missing CountOverflow l ts m n p = absurd n
  Refused-missing (MissingEntry e i) l ts m n p = (subst missing n.0 m, subst (λ k. PartOf (leaf_term k) ts) n.0 p, n.1)
  Refused-missing (RowOffset o) l ts m n p = (l, n, m, p)
  Refused-missing (MissingExtEntry e i) l ts m n p = (subst missing n m, subst (λ k. PartOf (leaf_term k) ts) n p)
  Refused-missing NoPermutation l ts m n p = (n.0, n.1, subst missing n.2 m, subst (λ k. PartOf (leaf_term k) ts) n.2 p)
  Refused-missing _ l ts m n p = absurd n

  pub Refused-ring : (e : RingError) (t : Term F) (ts : List (Assertion F)) → (e ≡ ring.DegreeOverflow → over t) → PartOf t ts → Refused missing over full (air_error e) ts
  Refused-ring ring.Memory t ts h p = tt
  Refused-ring ring.DegreeOverflow t ts h p = (t, (h refl, p))
