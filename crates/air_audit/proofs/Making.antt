-- Making the expressions of numbers.
use Rattle.std.specs.List.{AllZip}
use Rattle.std.proofs.Common.{◌≡◌, ◌<◌, ℕ, List, [], ◌∷◌, All, length, get_or, slice_get, Option, Some, Ok, Err, sym, ap, ap₂, subst, ◌∙◌, arith}
use Rattle.std.proofs.lemmas.List.{get_or_default}
use Rattle.std.proofs.lemmas.List.Elements.{All-nil, All-cons}
use Rattle.air_field.specs.Term.{Leaf, main, Term, leaf_term, add_term, sub_term, neg_term, mul_term}
use Rattle.air_core.specs.declared.errors.AirError.TheVariants.{RowOffset}
use Rattle.air_symbolic.specs.Leaves.{Leaves}
use Rattle.air_symbolic.specs.Nodes.{tree_of, IsNode, WellFormed}
use Rattle.air_symbolic.specs.Trees.{term_of}
use Rattle.air_symbolic.specs.declared.pools.expr.SymbolicExpr.{SymbolicExpr}
use Rattle.air_symbolic.specs.declared.pools.expr.SymbolicExpr.TheVariants as node
use Rattle.air_builder.specs.Builders.{MeansIn, BuilderView, RingLaws, BuilderLaws}
use Rattle.air_builder.specs.laws.Filters.{means_kept}
use Rattle.air_builder.specs.Refusals.{IsPastWindow, EachLeaf}
use Rattle.air_author.specs.Expressions.{MakesTerm, AlwaysAfter}
use Rattle.air_author.specs.laws.Each.{of_one}
use Rattle.air_author.specs.Handing.{each_weaker, made_lasts}
use Rattle.air_symbolic.specs.laws.Sharing.{found}
use Rattle.air_audit.specs.declared.flat.step.Step.{Step}
use Rattle.air_audit.specs.declared.flat.step.Step.TheVariants as step
use Rattle.air_audit.specs.Plans.{number_at, IsPlaceOf, MakesPlace, StepMakes, IsLeaf, column_of}
use Rattle.air_audit.specs.Tables.{IsMade, HasAt, HasNumber, TableMade}

-- what a table has at a place is what is read there
pub read_is : {E : Type 0} (P : E → Type 0) (table : List E) (p : ℕ) (r : E) → HasAt P table p → slice_get table p ≡ Some r → P r
read_is {E} P table p r (x, e, h) at = subst P (same (sym e ∙ at)) h
  where
    same : Some x ≡ Some r → x ≡ r
    same e = cc

-- what was read in a list of places, and at the place
pub place_read : (places : List ℕ) (i n p : ℕ) → i < length places → n ≡ i → p ≡ get_or places n p → get_or places i 0 ≡ p
place_read places i n p lt e is = get_or_default places i 0 p lt ∙ ap (λ k. get_or places k p) (sym e) ∙ sym is

pub number_read : {E : Type 0} (places : List ℕ) (table : List E) (i n p : ℕ) (x : E) → i < length places → n ≡ i → p ≡ get_or places n p → slice_get table p ≡ Some x
    → slice_get table (get_or places i 0) ≡ Some x
number_read places table i n p x lt e is at = ap (λ v. slice_get table v) (place_read places i n p lt e is) ∙ at

column_term : {F : Type 0} (o c : ℕ) (t : Term F) → column_of t ≡ Some (o, c) → leaf_term (main o c) ≡ t
column_term o c (leaf_term (main p i)) h = ap (λ q. leaf_term (main q.0 q.1)) (same h)
  where
    same : ◌≡◌ {A = Option (ℕ × ℕ)} (Some (p, i)) (Some (o, c)) → ◌≡◌ {A = ℕ × ℕ} (o, c) (p, i)
    same e = cc
column_term o c (leaf_term _) h = absurd (cc h)
column_term o c _ h = absurd (cc h)

-- the terms of nodes that steps make
module _ {A F : Type 0} (l : Leaves A F) (ns : List (SymbolicExpr A)) (numbers : List ℕ) (k : ℕ) where
  pub current_term : (i c : ℕ) (n : SymbolicExpr A) → IsNode l ns i n → StepMakes l (IsPlaceOf numbers k) (step.Current c) n → leaf_term (main 0 c) ≡ term_of l.term (tree_of ns i)
  current_term i c (node.Leaf a) is h = column_term 0 c (l.term a) h.0 ∙ sym is.term
  current_term i c _ is h = absurd h.0

  pub next_term : (i c : ℕ) (n : SymbolicExpr A) → IsNode l ns i n → StepMakes l (IsPlaceOf numbers k) (step.Next c) n → leaf_term (main 1 c) ≡ term_of l.term (tree_of ns i)
  next_term i c (node.Leaf a) is h = column_term 1 c (l.term a) h.0 ∙ sym is.term
  next_term i c _ is h = absurd h.0

  pub sum_term : (i p q : ℕ) (n : SymbolicExpr A) → IsNode l ns i n → StepMakes l (IsPlaceOf numbers k) (step.Add p q) n → add_term (term_of l.term (tree_of ns (number_at numbers p))) (term_of l.term (tree_of ns (number_at numbers q))) ≡ term_of l.term (tree_of ns i)
  sum_term i p q (node.Add x y d) is h = sym (is.term ∙ ap₂ (λ u v. add_term (term_of l.term (tree_of ns u)) (term_of l.term (tree_of ns v))) h.1.0.1 h.1.1.0.1)
  sum_term i p q _ is h = absurd h.0

  pub difference_term : (i p q : ℕ) (n : SymbolicExpr A) → IsNode l ns i n → StepMakes l (IsPlaceOf numbers k) (step.Sub p q) n → sub_term (term_of l.term (tree_of ns (number_at numbers p))) (term_of l.term (tree_of ns (number_at numbers q))) ≡ term_of l.term (tree_of ns i)
  difference_term i p q (node.Sub x y d) is h = sym (is.term ∙ ap₂ (λ u v. sub_term (term_of l.term (tree_of ns u)) (term_of l.term (tree_of ns v))) h.1.0.1 h.1.1.0.1)
  difference_term i p q _ is h = absurd h.0

  pub negative_term : (i p : ℕ) (n : SymbolicExpr A) → IsNode l ns i n → StepMakes l (IsPlaceOf numbers k) (step.Neg p) n → neg_term (term_of l.term (tree_of ns (number_at numbers p))) ≡ term_of l.term (tree_of ns i)
  negative_term i p (node.Neg x d) is h = sym (is.term ∙ ap (λ u. neg_term (term_of l.term (tree_of ns u))) h.1.0.1)
  negative_term i p _ is h = absurd h.0

  pub product_term : (i p q : ℕ) (n : SymbolicExpr A) → IsNode l ns i n → StepMakes l (IsPlaceOf numbers k) (step.Mul p q) n → mul_term (term_of l.term (tree_of ns (number_at numbers p))) (term_of l.term (tree_of ns (number_at numbers q))) ≡ term_of l.term (tree_of ns i)
  product_term i p q (node.Mul x y d) is h = sym (is.term ∙ ap₂ (λ u v. mul_term (term_of l.term (tree_of ns u)) (term_of l.term (tree_of ns v))) h.1.0.1 h.1.1.0.1)
  product_term i p q _ is h = absurd h.0

  pub gate_term : (i p q : ℕ) (n : SymbolicExpr A) → IsNode l ns i n → StepMakes l (IsPlaceOf numbers k) (step.Gate p q) n → mul_term (term_of l.term (tree_of ns (number_at numbers p))) (term_of l.term (tree_of ns (number_at numbers q))) ≡ term_of l.term (tree_of ns i)
  gate_term i p q (node.Mul x y d) is h = sym (is.term ∙ ap₂ (λ u v. mul_term (term_of l.term (tree_of ns u)) (term_of l.term (tree_of ns v))) h.1.0.1 h.1.1.0.1)
  gate_term i p q _ is h = absurd h.0

  -- the node of a step that is a leaf
  pub leaf_made : (n : SymbolicExpr A) → StepMakes l (IsPlaceOf numbers k) step.Leaf n → IsLeaf n
  leaf_made (node.Leaf a) h = tt
  leaf_made _ h = absurd h.0

  -- the node that a step makes
  pub place_made : WellFormed l ns → number_at numbers k < length ns → (s : Step) → MakesPlace l ns numbers k s → (n : SymbolicExpr A) × IsNode l ns (number_at numbers k) n × StepMakes l (IsPlaceOf numbers k) s n
  place_made wf here s makes = let f : (n : SymbolicExpr A) × IsNode l ns (number_at numbers k) n = found l ns wf (number_at numbers k) here in (f.0, f.1, makes f.0 f.1)

-- places that have numbers are before place k
pub places_before : (numbers : List ℕ) (k : ℕ) (places is : List ℕ) → AllZip (IsPlaceOf numbers k) places is → All (λ p. p < k) places
places_before numbers k [] is h = All-nil (λ p. p < k)
places_before numbers k (p ∷ places) [] h = absurd h
places_before numbers k (p ∷ places) (i ∷ is) h = All-cons (λ p. p < k) p places h.0.0 (places_before numbers k places is h.1)

module _ {S R B F : Type 0} {view : BuilderView S R B F} (laws : BuilderLaws view) where
  open view use {grew, missing, refuses}

  -- what the table has is made already
  pub made_already : {means : S → B → Term F → Type 0} (a : S) (t : Term F) (x : B) → IsMade means missing a t x → MakesTerm means grew missing refuses a a (Ok x) t
  made_already a t x h = record { keeps = laws.same a; made = (h.meant, tt); there = of_one (EachLeaf (λ l. missing a l → ⊥)) t h.leaves; refused = tt }

  -- no window has the row
  pub past_window_refused : {E : Type 0} {means : S → E → Term F → Type 0} (a : S) (o : ℕ) (l : Leaf)
      → IsPastWindow o l → MakesTerm {E = E} means grew missing refuses a a (Err (RowOffset o)) (leaf_term l)
  past_window_refused a o l past = record {
    keeps = laws.same a;
    made = tt;
    there = tt;
    refused = λ ts p. laws.refuses_missing a (RowOffset o) l ts (laws.past_window a o l past) past (p 0 (leaf_term l) (omega arith));
  }

module _ {S R E F : Type 0} {view : BuilderView S R E F} (ring : RingLaws view) (laws : BuilderLaws view) where
  open view use {kept, grew, missing, refuses}

  -- what was made stays made
  pub made_stays : (a b : S) (t : Term F) (x : E) → kept a b → IsMade (MeansIn view) missing a t x → IsMade (MeansIn view) missing b t x
  made_stays a b t x k h = record {
    meant = means_kept ring laws a b x t k h.meant;
    leaves = each_weaker t (λ l n m. n (laws.missing_kept a b l k m)) h.leaves;
  }

  -- what was made is made
  pub is_made : (a b : S) (t : Term F) (x : E) → MakesTerm (MeansIn view) grew missing refuses a b (Ok x) t → IsMade (MeansIn view) missing b t x
  is_made a b t x h = made_lasts ring laws a b x t h b (laws.by_growth b b [] (laws.same b))

  -- it was there before
  pub there_before : (a b : S) (t : Term F) (x : E) → kept a b → IsMade (MeansIn view) missing b t x → EachLeaf (λ l. missing a l → ⊥) t
  there_before a b t x k h = each_weaker t (λ l n m. n (laws.missing_stays a b l k m)) h.leaves

  -- what a table has, it will have
  pub at_lasts : (table : List E) (p : ℕ) (t : Term F) (a : S) → HasAt (IsMade (MeansIn view) missing a t) table p
      → AlwaysAfter kept (λ b. HasAt (IsMade (MeansIn view) missing b t) table p) a
  at_lasts table p t a h b k = (h.0, h.1, made_stays a b t h.0 k h.2)

  pub both_last : (table : List E) (p q : ℕ) (t u : Term F) (a : S) → HasAt (IsMade (MeansIn view) missing a t) table p
      → HasAt (IsMade (MeansIn view) missing a u) table q
      → AlwaysAfter kept (λ b. HasAt (IsMade (MeansIn view) missing b t) table p × HasAt (IsMade (MeansIn view) missing b u) table q) a
  both_last table p q t u a h i b k = (at_lasts table p t a h b k, at_lasts table q u a i b k)

  -- the same of what it has by numbers
  pub number_lasts : (places : List ℕ) (table : List E) (i : ℕ) (t : Term F) (a : S) → HasNumber (IsMade (MeansIn view) missing a t) places table i
      → AlwaysAfter kept (λ b. HasNumber (IsMade (MeansIn view) missing b t) places table i) a
  number_lasts places table i t a h b k = (h.0, at_lasts table (get_or places i 0) t a h.1 b k)

  pub numbers_last : (places : List ℕ) (table : List E) (i j : ℕ) (t u : Term F) (a : S) → HasNumber (IsMade (MeansIn view) missing a t) places table i
      → HasNumber (IsMade (MeansIn view) missing a u) places table j
      → AlwaysAfter kept (λ b. HasNumber (IsMade (MeansIn view) missing b t) places table i × HasNumber (IsMade (MeansIn view) missing b u) places table j) a
  numbers_last places table i j t u a h m b k = (number_lasts places table i t a h b k, number_lasts places table j u a m b k)

  -- the same of the whole table
  pub table_lasts : (term : ℕ → Term F) (numbers : List ℕ) (table : List E) (k : ℕ) (a b : S) → kept a b → TableMade (IsMade (MeansIn view) missing a) term numbers table k
      → TableMade (IsMade (MeansIn view) missing b) term numbers table k
  table_lasts term numbers table k a b e h p lt = let x = h p lt in (x.0, x.1, made_stays a b (term (number_at numbers p)) x.0 e x.2)
