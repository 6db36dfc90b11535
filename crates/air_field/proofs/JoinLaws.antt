-- Joining elements from the left, one by one.
use Rattle.std.specs.List.{AllZip}
use Rattle.std.specs.Result.{IsErrAnd}
use Rattle.std.proofs.lemmas.Result.{err_from_is_err_and}
use Rattle.std.proofs.Common.{Result, IfErr, ◌≡◌, ◌∙◌, ℕ, suc, ◌+◌, ◌<◌, List, [], ◌∷◌, All, length, drop, get_or, refl, sym, ap, subst, arith, drop-cons, add-one}
use Rattle.air_field.specs.Term.{Term, add_term, mul_term}
use Rattle.air_field.specs.Part.{Part, whole, in_add_left, in_mul_left}
use Rattle.air_field.specs.Algebra.{AlgebraLaws, MadeOfBoth, RefusedOfBoth}
use Rattle.air_field.specs.Joins.{join_from, join_terms, RefusedOfAll}

-- total means a term t, the remaining elements mean terms us, and joining these to t makes the goal
pub record Leads {E F : Type 0} (means : E → Term F → Type 0) (op : Term F → Term F → Term F) (total : E) (left : List E) (goal : Term F) : Type 0 where
  pub t : Term F
  pub us : List (Term F)
  pub total_means : means total t
  pub left_means : AllZip means left us
  pub joined : join_from op t us ≡ goal

-- total is the join of the elements taken so far, and the others remain
pub record IsJoining {R E F : Type 0} (has : R → E → Type 0) (means : R → E → Term F → Type 0) (extends : R → R → Type 0) (op : Term F → Term F → Term F) (none : F) (old new : R) (xs : List E) (total : E) (left : List E) : Type 0 where
  pub extended : extends old new
  pub total_in : has new total
  pub left_in : All (has new) left
  pub leads : (ts : List (Term F)) → AllZip (means old) xs ts → Leads (means new) op total left (join_terms op none ts)

first_of_all : {X : Type 0} (P : X → Type 0) (x : X) (xs : List X) → All P (x ∷ xs) → P x
first_of_all P x xs h = h 0 x (omega arith)

rest_of_all : {X : Type 0} (P : X → Type 0) (x : X) (xs : List X) → All P (x ∷ xs) → All P xs
rest_of_all P x xs h k d lt = h (suc k) d (omega arith)

-- a part of the first term is a part of the join
part-join_from : {F : Type 0} (op : Term F → Term F → Term F) → ((s t u : Term F) → Part s t → Part s (op t u))
    → (s t : Term F) (us : List (Term F)) → Part s t → Part s (join_from op t us)
part-join_from op inside s t [] h = h
part-join_from op inside s t (u ∷ us) h = part-join_from op inside s (op t u) us (inside s t u h)

pub part-add_left : {F : Type 0} (s t u : Term F) → Part s t → Part s (add_term t u)
part-add_left s t u h = in_add_left h

pub part-mul_left : {F : Type 0} (s t u : Term F) → Part s t → Part s (mul_term t u)
part-mul_left s t u h = in_mul_left h

-- the list from item i on begins with that item
drop_item : {X : Type 0} (l : List X) (i : ℕ) (x : X) → i < length l → x ≡ get_or l i x → drop i l ≡ x ∷ drop (i + 1) l
drop_item l i x h is = drop-cons l i x h ∙ (ap (λ y. y ∷ drop (suc i) l) (sym is) ∙ ap (λ n. x ∷ drop n l) (sym (add-one i)))

module _ {R E F X : Type 0} {valid : R → Type 0} {has : R → E → Type 0} {means : R → E → Term F → Type 0} {extends : R → R → Type 0} {refuses : X → Term F → Type 0} (laws : AlgebraLaws valid has means extends refuses) (op : Term F → Term F → Term F) (none : F) where
  begin_leads : (p : R) (x : E) (xs : List E) (ts : List (Term F)) → AllZip (means p) (x ∷ xs) ts → Leads (means p) op x xs (join_terms op none ts)
  begin_leads p x xs [] h = absurd h
  begin_leads p x xs (t ∷ ts) h = record { t = t; us = ts; total_means = h.0; left_means = h.1; joined = refl }

  pub begin_joining : (p : R) (x : E) (xs : List E) → All (has p) (x ∷ xs) → IsJoining has means extends op none p p (x ∷ xs) x xs
  begin_joining p x xs h =
      record {
        extended = laws.same p;
        total_in = first_of_all (has p) x xs h;
        left_in = rest_of_all (has p) x xs h;
        leads = begin_leads p x xs;
      }

  all_mean_still : (p q : R) (xs : List E) (ts : List (Term F)) → extends p q → AllZip (means p) xs ts → AllZip (means q) xs ts
  all_mean_still p q [] [] g h = h
  all_mean_still p q [] (t ∷ ts) g h = absurd h
  all_mean_still p q (x ∷ xs) [] g h = absurd h
  all_mean_still p q (x ∷ xs) (t ∷ ts) g h = (laws.means_stays p q x t g h.0, all_mean_still p q xs ts g h.1)

  take_leads : (p q : R) (total x z : E) (left : List E) (goal : Term F) → extends p q → MadeOfBoth has means op p q total x z
      → (t : Term F) (us : List (Term F)) → means p total t → AllZip (means p) (x ∷ left) us → join_from op t us ≡ goal → Leads (means q) op z left goal
  take_leads p q total x z left goal g made t [] m h e = absurd h
  take_leads p q total x z left goal g made t (u ∷ us) m h e =
      record { t = op t u; us = us; total_means = made.1 t u m h.0; left_means = all_mean_still p q left us g h.1; joined = e }

  -- the item at place i is taken from the front of the remaining ones
  pub take_one : {first p q : R} {xs : List E} {total x z : E} (rest : List E) (i : ℕ) → i < length rest → x ≡ get_or rest i x → extends p q → MadeOfBoth has means op p q total x z
      → IsJoining has means extends op none first p xs total (drop i rest) → IsJoining has means extends op none first q xs z (drop (i + 1) rest)
  take_one {first = first} {p = p} {q = q} {xs = xs} {total = total} {x = x} {z = z} rest i b is g made before =
      let left = drop (i + 1) rest in
      let h = subst (IsJoining has means extends op none first p xs total) (drop_item rest i x b is) before in
      record {
        extended = laws.joined first p q h.extended g;
        total_in = made.0;
        left_in = λ k d lt. laws.has_stays p q _ g (rest_of_all (has p) x left h.left_in k d lt);
        leads = λ ts m.
            let l = h.leads ts m in
            take_leads p q total x z left (join_terms op none ts) g made l.t l.us l.total_means l.left_means l.joined;
      }

  refused_leads : (p : R) (e : X) (total x : E) (left : List E) (goal : Term F) → ((s t u : Term F) → Part s t → Part s (op t u)) → RefusedOfBoth means refuses op p total x e
      → (t : Term F) (us : List (Term F)) → means p total t → AllZip (means p) (x ∷ left) us → join_from op t us ≡ goal → refuses e goal
  refused_leads p e total x left goal inside refused t [] m h same = absurd h
  refused_leads p e total x left goal inside refused t (u ∷ us) m h same =
      laws.refuses_whole e (op t u) goal (subst (Part (op t u)) same (part-join_from op inside (op t u) (op t u) us whole)) (refused t u m h.0)

  -- the error of an exit, where joining that item fails
  pub join_refused : {first p : R} {xs : List E} {e : X} {total x : E} (rest : List E) (i : ℕ) → i < length rest → x ≡ get_or rest i x → ((s t u : Term F) → Part s t → Part s (op t u)) → RefusedOfBoth means refuses op p total x e
      → IsJoining has means extends op none first p xs total (drop i rest) → (r : Result E X) → IsErrAnd r (λ o. o ≡ e) → IfErr r (RefusedOfAll means refuses op none first xs)
  join_refused {first = first} {p = p} {xs = xs} {e = e} {total = total} {x = x} rest i b is inside refused before r exit =
      let h = subst (IsJoining has means extends op none first p xs total) (drop_item rest i x b is) before in
      let o = err_from_is_err_and r exit in
      rw (o.1, o.2)
      (λ ts m.
      let l = h.leads ts m in
      refused_leads p e total x (drop (i + 1) rest) (join_terms op none ts) inside refused l.t l.us l.total_means l.left_means l.joined)
