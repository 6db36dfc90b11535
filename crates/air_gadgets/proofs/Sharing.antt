-- Elements that are made once, and then serve several expressions.
use Rattle.std.specs.Result.{IsErrAnd}
use Rattle.std.specs.Prelude.{⊤}
use Rattle.std.proofs.Common.{◌≡◌, ◌<◌, List, [], length, Result, Ok, Err, arith}
use Rattle.std.proofs.lemmas.Result.{err_from_is_err_and}
use Rattle.air_field.specs.Term.{Leaf, Term}
use Rattle.air_core.specs.declared.errors.AirError.{AirError}
use Rattle.air_builder.specs.Assertion.{Assertion}
use Rattle.air_builder.specs.Batches.{AssertedList}
use Rattle.air_builder.specs.Builders.{MeansIn, BuilderView, RingLaws, BuilderLaws}
use Rattle.air_builder.specs.Refusals.{EachLeaf, PartOf}
use Rattle.air_author.specs.Expressions.{MakesTerm, MakesBoth, AlwaysAfter, IsUsable}
use Rattle.air_author.specs.Handing.{made_lasts, made_then}
use Rattle.air_author.specs.laws.Each.{of_one, of_both}

module _ {S R E F : Type 0} {view : BuilderView S R E F} (ring : RingLaws view) (laws : BuilderLaws view) where
  open view use {kept, grew, missing, refuses}

  module _ {a b : S} {x y : E} {t u : Term F} (h : MakesBoth (MeansIn view) grew missing refuses a b (Ok (x, y)) t u) where
    first_made : MakesTerm (MeansIn view) grew missing refuses a b (Ok x) t
    first_made = record {
      keeps = h.keeps;
      made = (h.made.0, tt);
      there = of_one (EachLeaf (λ l. missing a l → ⊥)) t (h.there 0 t (omega arith));
      refused = tt;
    }

    second_made : MakesTerm (MeansIn view) grew missing refuses a b (Ok y) u
    second_made = record {
      keeps = h.keeps;
      made = h.made.1;
      there = of_one (EachLeaf (λ l. missing a l → ⊥)) u (h.there 1 u (omega arith));
      refused = tt;
    }

    -- both elements mean their terms, now and later
    pub first_lasts : AlwaysAfter kept (IsUsable (MeansIn view) missing x t) b
    first_lasts = made_lasts ring laws a b x t first_made

    pub second_lasts : AlwaysAfter kept (IsUsable (MeansIn view) missing y u) b
    second_lasts = made_lasts ring laws a b y u second_made

    -- both were made, and then a list was asserted
    pub both_then : (d : S) (r : Result ⊤ AirError) (ts : List (Assertion F)) → AssertedList kept grew missing refuses b d r ts
        → AssertedList kept grew missing refuses a d r ts
    both_then d r ts k = made_then laws a b d x r t ts first_made k

  -- a `?` returns the error of making both, so nothing was asserted of a list that has both terms as parts
  pub both_give_up : {a b : S} {e : AirError} {r : Result ⊤ AirError} {t u : Term F} (ts : List (Assertion F)) → 0 < length ts
      → PartOf t ts → PartOf u ts → IsErrAnd r (λ x. x ≡ e)
      → MakesBoth {E = E} (MeansIn view) grew missing refuses a b (Err e) t u → AssertedList kept grew missing refuses a b r ts
  both_give_up {a} {b} {e} {r} {t} {u} ts some p q i h =
      let f = err_from_is_err_and r i in
      rw (f.1, f.2) record {
        asserted = record {
          keeps = laws.by_growth a b [] h.keeps;
          ok = tt;
          err = record { count = 0; within = some; beginning = h.keeps };
          refused = h.refused ts (of_both (λ v. PartOf v ts) t u p q);
        };
        there = tt;
      }
