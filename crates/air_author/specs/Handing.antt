-- Expressions that were made and then passed to a gadget.
use Rattle.std.proofs.Common.{arith}
use Rattle.std.specs.Prelude.{◌<◌, List, [], length, take, Result, Ok, Err, ⊤}
use Rattle.air_field.specs.Term.{Leaf, Term, leaf_term, const_term, ext_const_term, add_term, sub_term, neg_term, mul_term}
use Rattle.air_core.specs.declared.errors.AirError.{AirError}
use Rattle.air_builder.specs.Assertion.{Assertion}
use Rattle.air_builder.specs.Builders.{MeansIn, BuilderView, RingLaws, BuilderLaws}
use Rattle.air_builder.specs.laws.Filters.{means_kept}
use Rattle.air_builder.specs.Refusals.{EachLeaf, PartOf}
use Rattle.air_builder.specs.Batches.{AssertedList}
use Rattle.air_author.specs.Expressions.{MakesTerm, AlwaysAfter, IsUsable}
use Rattle.air_author.specs.laws.Each.{of_one}

pub each_weaker : {F : Type 0} {P Q : Leaf → Type 0} (t : Term F) → ((l : Leaf) → P l → Q l) → EachLeaf P t → EachLeaf Q t
each_weaker (leaf_term l) f h = f l h
each_weaker (const_term c) f h = tt
each_weaker (ext_const_term cs) f h = tt
each_weaker (add_term t u) f h = (each_weaker t f h.0, each_weaker u f h.1)
each_weaker (sub_term t u) f h = (each_weaker t f h.0, each_weaker u f h.1)
each_weaker (neg_term t) f h = each_weaker t f h
each_weaker (mul_term t u) f h = (each_weaker t f h.0, each_weaker u f h.1)

module _ {S R E F : Type 0} {view : BuilderView S R E F} (ring : RingLaws view) (laws : BuilderLaws view) where
  open view use {kept, grew, missing, refuses}

  -- a made element means its term, now and later
  pub made_lasts : (a b : S) (x : E) (t : Term F) → MakesTerm (MeansIn view) grew missing refuses a b (Ok x) t
      → AlwaysAfter kept (IsUsable (MeansIn view) missing x t) b
  made_lasts a b x t h d k =
      let before = laws.kept_joined a b d (laws.by_growth a b [] h.keeps) k in
      record {
        meant = means_kept ring laws b d x t k h.made.0;
        leaves = each_weaker t (λ l f m. f (laws.missing_kept a d l before m)) (h.there 0 t (omega arith));
      }

module _ {S R B E F : Type 0} {view : BuilderView S R B F} {means : S → E → Term F → Type 0}
    (laws : BuilderLaws view) where
  open view use {kept, grew, missing, refuses}

  -- the element wasn't made, so nothing was asserted of a list that has its term as a part
  pub making_refused : (a b : S) (e : AirError) (t : Term F) (ts : List (Assertion F)) → 0 < length ts → PartOf t ts
      → MakesTerm means grew missing refuses a b (Err e) t → AssertedList kept grew missing refuses a b (Err e) ts
  making_refused a b e t ts some part h = record {
    asserted = record {
      keeps = laws.by_growth a b [] h.keeps;
      ok = tt;
      err = record { count = 0; within = some; beginning = h.keeps };
      refused = h.refused ts (of_one (λ u. PartOf u ts) t part);
    };
    there = tt;
  }

  -- the element was made, and then the list was asserted
  pub made_then : (a b d : S) (x : E) (r : Result ⊤ AirError) (t : Term F) (ts : List (Assertion F))
      → MakesTerm means grew missing refuses a b (Ok x) t → AssertedList kept grew missing refuses b d r ts
      → AssertedList kept grew missing refuses a d r ts
  made_then a b d x (Ok u) t ts h k = record {
    asserted = record {
      keeps = laws.kept_joined a b d (laws.by_growth a b [] h.keeps) k.asserted.keeps;
      ok = laws.joined a b d [] ts h.keeps k.asserted.ok;
      err = tt;
      refused = tt;
    };
    there = λ l m. k.there l (laws.missing_stays a b l (laws.by_growth a b [] h.keeps) m);
  }
  made_then a b d x (Err e) t ts h k =
      let rest = k.asserted.err in record {
        asserted = record {
          keeps = laws.kept_joined a b d (laws.by_growth a b [] h.keeps) k.asserted.keeps;
          ok = tt;
          err = record {
            count = rest.count;
            within = rest.within;
            beginning = laws.joined a b d [] (take rest.count ts) h.keeps rest.beginning;
          };
          refused = laws.refuses_then a b e [] ts h.keeps k.asserted.refused;
        };
        there = tt;
      }
