-- An evaluation after another.
use Rattle.std.specs.Prelude.{⊤}
use Rattle.std.specs.Result.{IsErrAnd}
use Rattle.std.proofs.Common.{◌≡◌, List, [], ◌∷◌, ◌++◌, take, Result, Ok, Err, inl, inr}
use Rattle.std.proofs.lemmas.Result.{err_from_is_err_and}
use Rattle.air_field.specs.Term.{Leaf}
use Rattle.air_core.specs.declared.errors.AirError.{AirError}
use Rattle.air_builder.specs.Assertion.{Assertion}
use Rattle.air_builder.specs.Batches.{AssertedList, OrMemory}
use Rattle.air_builder.specs.Builders.{BuilderView, BuilderLaws}
use Rattle.air_builder.specs.Refusals.{NoneMissing}
use Rattle.air_builder.specs.laws.Batches.{first_of_two, first_whole}

none_missing_both : {F : Type 0} (missing : Leaf → Type 0) (ts us : List (Assertion F)) → NoneMissing missing ts
    → NoneMissing missing us → NoneMissing missing (ts ++ us)
none_missing_both missing [] us h k l m p = k l m p
none_missing_both missing (t ∷ ts) us h k l m (inl p) = h l m (inl p)
none_missing_both missing (t ∷ ts) us h k l m (inr p) = none_missing_both missing ts us (λ x n q. h x n (inr q)) k l m p

module _ {S R B F : Type 0} {view : BuilderView S R B F} (laws : BuilderLaws view) where
  open view use {kept, grew, missing, refuses}

  -- one AIR's list was asserted, and then another list
  pub evaluated_then : (a b d : S) (u : ⊤) (r : Result ⊤ AirError) (ts us : List (Assertion F))
      → AssertedList kept grew missing (OrMemory refuses) a b (Ok u) ts → AssertedList kept grew missing (OrMemory refuses) b d r us
      → AssertedList kept grew missing (OrMemory refuses) a d r (ts ++ us)
  evaluated_then a b d u (Ok v) ts us h k = record {
    asserted = record {
      keeps = laws.kept_joined a b d h.asserted.keeps k.asserted.keeps;
      ok = laws.joined a b d ts us h.asserted.ok k.asserted.ok;
      err = tt;
      refused = tt;
    };
    there = none_missing_both _ ts us h.there (λ l m. k.there l (laws.missing_stays a b l h.asserted.keeps m));
  }
  evaluated_then a b d u (Err e) ts us h k =
      let rest = k.asserted.err in record {
        asserted = record {
          keeps = laws.kept_joined a b d h.asserted.keeps k.asserted.keeps;
          ok = tt;
          err = first_whole grew a d ts us rest.count rest.within (laws.joined a b d ts (take rest.count us) h.asserted.ok rest.beginning);
          refused = elim k.asserted.refused [ inl memory ↦ inl memory | inr refused ↦ inr (laws.refuses_then a b e ts us h.asserted.ok refused) ];
        };
        there = tt;
      }

  -- the first AIR was refused
  refused_first : (a b : S) (e : AirError) (ts us : List (Assertion F))
      → AssertedList kept grew missing (OrMemory refuses) a b (Err e) ts
      → AssertedList kept grew missing (OrMemory refuses) a b (Err e) (ts ++ us)
  refused_first a b e ts us h = record {
    asserted = record {
      keeps = h.asserted.keeps;
      ok = tt;
      err = first_of_two grew a b ts us h.asserted.err;
      refused = elim h.asserted.refused [ inl memory ↦ inl memory | inr refused ↦ inr (laws.refuses_first a e ts us refused) ];
    };
    there = tt;
  }

  pub evaluation_gives_up : {a b : S} {e : AirError} {r : Result ⊤ AirError} {ts : List (Assertion F)}
      (us : List (Assertion F)) → IsErrAnd r (λ x. x ≡ e) → AssertedList kept grew missing (OrMemory refuses) a b (Err e) ts
      → AssertedList kept grew missing (OrMemory refuses) a b r (ts ++ us)
  evaluation_gives_up {a} {b} {e} {r} {ts} us p h =
      let q = err_from_is_err_and r p in
      rw (q.1, q.2) (refused_first a b e ts us h)
