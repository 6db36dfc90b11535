-- The parts of an object, read while its text is read.
use Rattle.std.proofs.Common.{◌≡◌, ◌≢◌, ℕ, ◌-◌, ◌<◌, ◌≤◌, List, [], ◌∷◌, ◌++◌, length, map, Option, Some, None, Result, Ok, Err, Bool, true, false, IfOk, codes, bytes_eq, true≢false, String, BTreeMap, Vec, Global, refl, sym, ap, subst, ◌∙◌, arith}
use Rattle.std.proofs.lemmas.List.{map_push}
use Rattle.std.proofs.lemmas.Slice.Eq.{bytes_eq-Decides}
use Rattle.std.proofs.lemmas.Result.{IfOk-weaker}
use Rattle.std.specs.Result.{result_map_both}
use Rattle.json.specs.Json.{Json, Parse, parse_map, after_end_array, items}
use Rattle.json.specs.Token.{Token}
use Rattle.serde_json.specs.Data.{Data, array, object, Items, item, no_items, Members, no_members, put}
use Rattle.serde_json.specs.Find.{get, get_member}
use Rattle.serde_json.specs.Read.{of_json, of_items, converted}
use Rattle.serde_json.specs.View.{view, items_of, members_view}
use Rattle.serde_json.specs.declared.value.Value.{Value, Object}
use Rattle.serde_json.proofs.Views.{view-Object, get_member-put, get_member-put_other}
use Rattle.air_field.specs.Modular.{Modular}
use Rattle.air_symbolic.specs.ExtLeaves.{BaseNodes}
use Rattle.air_symbolic.specs.BaseLeaves.{base_reads, base_grows}
use Rattle.air_symbolic.specs.Numbered.{trees_in}
use Rattle.air_symbolic.specs.Pools.{tree_at}
use Rattle.air_symbolic.specs.Trees.{Tree}
use Rattle.air_symbolic.specs.declared.leaves.base_leaf.BaseLeaf.{BaseLeaf}
use Rattle.air_json.specs.BaseLeaves.{element_at}
use Rattle.air_json.specs.ReadCalls.{ReadsTree}
use Rattle.air_json.specs.laws.Lists.{fails_is, fails_if}
use Rattle.air_json.specs.Results.{◌>>=◌, Fails, Gives}
use Rattle.air_json.specs.declared.errors.FlatError.{FlatError}
use Rattle.air_json.specs.declared.errors.FlatError.TheVariants as faults
use Rattle.air_object.specs.Gained.{GainsLists, GainsArray, GainsFound, GainsMember, AreRootsOf}
use Rattle.air_object.specs.Members.{Made, LabelledTrees}
use Rattle.air_object.specs.Parts.{GivenElements, AreElements, GivenTrees, AreGiven, TakesPool, and_one, read_one_more, root_numbers, of_member, AreMembersOf, ArePartsOf, given_elements, given_by}
use Rattle.air_object.specs.Readers.{Reader, each_from, elements, tree, trees, width_member, elements_member, table_member, constraints_member, periodic_member, boundary_member, cap_member, weight_member, labels_member, labelled_with, labelled_read, members_with, members_read}
use Rattle.air_object.proofs.TokenLemmas.{data_before, one_more_data, item_read}
use Rattle.air_object.specs.laws.Members.{constraints_agree}
use Rattle.air_object.proofs.Gains.{gains_last}
use Rattle.air_object.proofs.Trees.{GrownTo, AllIn, all_in_push, trees_kept}
use Rattle.air_object.specs.declared.constraints.Constraints.{Constraints}
use Rattle.air_object.specs.declared.labelled.Labelled.{Labelled}

-- the view of an answer is the given answer
pub gives_ok : {X Y : Type 0} (see : X → Y) (r : Result X FlatError) (x : X) (given : Result Y FlatError) → r ≡ Ok x → Gives see r given → given ≡ Ok (see x)
gives_ok see r x given is h = subst (λ q. Gives see q given) is h

pub gives_err : {X Y : Type 0} (see : X → Y) (r : Result X FlatError) (f : FlatError) (given : Result Y FlatError) → r ≡ Err f → Gives see r given → Fails f given
gives_err see r f given is h = subst (λ q. Gives see q given) is h

pub each_from_push : {X : Type 0} (read : Reader X) (done : List X) (ds : List Data) (d : Data)
    → each_from read done (items_of (ds ++ d ∷ [])) ≡ (each_from read done (items_of ds) >>= λ before. read d >>= λ x. Ok (before ++ x ∷ []))
unfolding each_from
each_from_push read done [] d = refl
each_from_push {X} read done (e ∷ ds) d = later (read e) (λ x. each_from_push read (done ++ x ∷ []) ds d)
  where
    later : (r : Result X FlatError)
        → ((x : X) → each_from read (done ++ x ∷ []) (items_of (ds ++ d ∷ [])) ≡ (each_from read (done ++ x ∷ []) (items_of ds) >>= λ before. read d >>= λ y. Ok (before ++ y ∷ [])))
        → (r >>= λ x. each_from read (done ++ x ∷ []) (items_of (ds ++ d ∷ []))) ≡ ((r >>= λ x. each_from read (done ++ x ∷ []) (items_of ds)) >>= λ before. read d >>= λ y. Ok (before ++ y ∷ []))
    later (Ok x) h = h x
    later (Err f) h = refl

abbrev name_main : List ℕ
name_main = codes "main"

abbrev name_apart : List ℕ
name_apart = codes "constraints"

only_memory : {X Y : Type 0} (see : X → Y) (r : Result X FlatError) (other : Result Y FlatError) → Gives see r (Err faults.Memory) → Gives see r other
only_memory see (Ok x) other h = absurd cc
only_memory see (Err faults.Memory) other h = tt
only_memory see (Err faults.DegreeOverflow) other h = absurd cc
only_memory see (Err (faults.Shape place)) other h = absurd cc
only_memory see (Err faults.EmptyList) other h = absurd cc
only_memory see (Err (faults.Operand place i)) other h = absurd cc
only_memory see (Err (faults.WrongDegree place s k)) other h = absurd cc
only_memory see (Err (faults.NotCanonical place)) other h = absurd cc

next_fails : {X Y : Type 0} (f : FlatError) (r : Result X FlatError) (next : X → Result Y FlatError) → Fails f r → Fails f (r >>= next)
next_fails {X} f r next h = fails_if f (r >>= next) (λ n. ap (λ (q : Result X FlatError). q >>= next) (fails_is f r h n))

-- ---- one more item

-- an item is taken from an array, of which the part before it is known
pub item_taken : (p : Parse Json) (all : Option (Items × List Token)) (start n : ℕ) (ts r : List Token) (ds : List Data) (d : Data) → length ts ≤ n
    → all ≡ parse_map (data_before ds) (converted of_items (items p n ts)) → length ts ≤ start → after_end_array ts ≡ None → converted of_json (p ts) ≡ Some (d, r) → length r < length ts
    → (m : ℕ) × (length r ≤ m) × (all ≡ parse_map (data_before (ds ++ d ∷ [])) (converted of_items (items p m r))) × (length r ≤ start)
item_taken p all start n ts r ds d enough so_far less going taken shorter = (
  n - 1,
  omega (arith, enough, shorter),
  so_far ∙ ap (parse_map (data_before ds)) (item_read p n ts r d (omega (arith, enough, shorter)) going taken) ∙ one_more_data ds d _,
  omega (arith, less, shorter),
)

-- a turn of the loop over an array's items, for what is known of those before
pub one_item_on : (Before After : List Data → Type 0) (p : Parse Json) (all : Option (Items × List Token)) (start n : ℕ) (ts r : List Token) (ds : List Data) (d : Data) → length ts ≤ n
    → all ≡ parse_map (data_before ds) (converted of_items (items p n ts)) → length ts ≤ start → Before ds → after_end_array ts ≡ None
    → converted of_json (p ts) ≡ Some (d, r) → length r < length ts → (Before ds → After (ds ++ d ∷ []))
    → (m : ℕ) × (length r ≤ m) × (es : List Data) × (all ≡ parse_map (data_before es) (converted of_items (items p m r))) × (length r ≤ start) × After es
one_item_on Before After p all start n ts r ds d enough so_far less known going taken shorter more =
    let turn = item_taken p all start n ts r ds d enough so_far less going taken shorter in
    (turn.0, turn.1, ds ++ d ∷ [], turn.2, turn.3, more known)

-- reading one more value
pub more_read : {X : Type 0} (read : Reader X) (before : List X) (d : Data) (x : X) → read d ≡ Ok x → read_one_more read (Ok before) d ≡ Ok (before ++ x ∷ [])
more_read {X} read before d x e = ap (λ (r : Result X FlatError). r >>= λ y. Ok (before ++ y ∷ [])) e

-- a first fault stays the first
module _ {X : Type 0} (read : Reader X) where
  pub still_fails : (f : FlatError) (given : Result (List X) FlatError) (d : Data) → Fails f given → Fails f (read_one_more read given d)
  still_fails f given d h = next_fails f given _ h

  -- a turn of the loop over an array's items, when the part before is known
  pub one_item_more : (Before After : Result (List X) FlatError → Type 0) (p : Parse Json) (all : Option (Items × List Token)) (start n : ℕ) (ts r : List Token) (ds : List Data) (d : Data) → length ts ≤ n
      → all ≡ parse_map (data_before ds) (converted of_items (items p n ts)) → length ts ≤ start → Before (each_from read [] (items_of ds)) → after_end_array ts ≡ None
      → converted of_json (p ts) ≡ Some (d, r) → length r < length ts → ((given : Result (List X) FlatError) → Before given → After (read_one_more read given d))
      → (m : ℕ) × (length r ≤ m) × (es : List Data) × (all ≡ parse_map (data_before es) (converted of_items (items p m r))) × (length r ≤ start) × After (each_from read [] (items_of es))
  one_item_more Before After p all start n ts r ds d enough so_far less given going taken shorter more =
      let turn = item_taken p all start n ts r ds d enough so_far less going taken shorter in
      (turn.0, turn.1, ds ++ d ∷ [], turn.2, turn.3, subst After (sym (each_from_push read [] ds d)) (more (each_from read [] (items_of ds)) given))

module _ {F : Type 0} {order : ℕ} (modular : Modular F order) where
  -- a list that is read from an array's items is read from the array
  pub root_of_array : {E : Type 0} (p q : BaseNodes F) (r : Result (Result ℕ FlatError) E) (whole : Option (Data × List Token)) (inside : Option (Items × List Token)) (rest : List Token) → whole ≡ parse_map array inside
      → IfOk r (λ root. (ds : Items) × (inside ≡ Some (ds, rest)) × ReadsTree base_grows base_reads tree_at p q root (tree modular (array ds)) × IfOk root (λ _. GainsLists modular (item (array ds) no_items) (trees_in p) (trees_in q)))
      → IfOk r (λ root. (d : Data) × (whole ≡ Some (d, rest)) × ReadsTree base_grows base_reads tree_at p q root (tree modular d) × IfOk root (λ _. GainsLists modular (item d no_items) (trees_in p) (trees_in q)))
  root_of_array p q (Ok root) whole inside rest e h = (array h.0, e ∙ ap (parse_map array) h.1, h.2, h.3)
  root_of_array p q (Err f) whole inside rest e h = tt

  -- the lists of an array are the constraints of its value
  pub lists_of_array : {E : Type 0} (r : Result (Constraints F) E) (whole : Option (Data × List Token)) (inside : Option (Items × List Token)) (rest : List Token) → whole ≡ parse_map array inside
      → IfOk r (λ c. (ds : Items) × (inside ≡ Some (ds, rest)) × AreGiven (each_from (tree modular) [] ds) (GainsLists modular ds []) c)
      → IfOk r (λ c. (d : Data) × (whole ≡ Some (d, rest)) × AreGiven (trees modular d) (GainsArray modular d []) c)
  unfolding trees
  lists_of_array (Ok c) whole inside rest e h = (
    array h.0,
    e ∙ ap (parse_map array) h.1,
    record { inside = h.2.inside; gained = IfOk-weaker c.roots _ _ (λ _ g. (h.0, refl, g)) h.2.gained; read = h.2.read },
  )
  lists_of_array (Err f) whole inside rest e h = tt

  -- likewise its elements
  pub elements_of_array : {E : Type 0} (r : Result (Result (Vec F Global) FlatError) E) (whole : Option (Data × List Token)) (inside : Option (Items × List Token)) (rest : List Token) → whole ≡ parse_map array inside
      → IfOk r (λ es. (ds : Items) × (inside ≡ Some (ds, rest)) × AreElements (each_from (element_at modular 0) [] ds) es) → IfOk r (λ es. (d : Data) × (whole ≡ Some (d, rest)) × AreElements (elements modular d) es)
  unfolding elements
  elements_of_array (Ok es) whole inside rest e h = (array h.0, e ∙ ap (parse_map array) h.1, h.2)
  elements_of_array (Err f) whole inside rest e h = tt

  -- ---- one more root, in a pool that has grown

  module _ (p q : BaseNodes F) (d : Data) (given : GivenTrees F) (grown : GrownTo p q) where
    abbrev more : GivenTrees F
    more = read_one_more (tree modular) given d

    roots_more : (roots : Result (Vec ℕ Global) FlatError) (root : Result ℕ FlatError) → IfOk roots (λ v. AllIn p v.items) → IfOk root (λ i. i < length q.nodes)
        → Gives (λ v. map (tree_at p) v.items) roots given → Gives (tree_at q) root (tree modular d)
        → IfOk (and_one (root_numbers roots) root) (AllIn q) × Gives (map (tree_at q)) (and_one (root_numbers roots) root) more
    roots_more (Ok v) (Ok i) here there first second =
        (all_in_push modular p q v.items i grown here there, rw (first, second, map_push, trees_kept modular p q v.items grown here) refl)
    roots_more (Ok v) (Err f) here there first second = (tt, rw first (next_fails f (tree modular d) (λ t. Ok (map (tree_at p) v.items ++ t ∷ [])) second))
    roots_more (Err f) root here there first second = (tt, still_fails (tree modular) f given d first)

    roots_seen : (all : Result (List ℕ) FlatError) (after : Result (Vec ℕ Global) FlatError) → Gives (λ v. v.items) after all → IfOk all (AllIn q) → Gives (map (tree_at q)) all more
        → IfOk after (λ v. AllIn q v.items) × Gives (λ v. map (tree_at q) v.items) after more
    roots_seen all (Ok v) one here g = (subst (λ r. IfOk r (AllIn q)) one here, subst (λ r. Gives (map (tree_at q)) r more) one g)
    roots_seen all (Err f) one here g = (tt, fails_if f more (λ n. fails_is f more (subst (λ r. Gives (map (tree_at q)) r more) (fails_is f all one n) g) n))

  both_ok : {A B C : Type 0} (roots : Result (Vec ℕ Global) FlatError) (root : Result ℕ FlatError) (after : Result (Vec ℕ Global) FlatError) → Gives (λ v. v.items) after (and_one (root_numbers roots) root)
      → (A → B → C) → IfOk roots (λ _. A) → IfOk root (λ _. B) → IfOk after (λ _. C)
  both_ok roots root (Err f) one join a b = tt
  both_ok (Ok v) (Ok i) (Ok w) one join a b = join a b
  both_ok (Ok v) (Err f) (Ok w) one join a b = absurd cc
  both_ok (Err f) root (Ok w) one join a b = absurd cc

  pub root_more : (c e : Constraints F) (root : Result ℕ FlatError) (d : Data) (given : GivenTrees F) (ds : List Data) → ReadsTree base_grows base_reads tree_at c.pool e.pool root (tree modular d)
      → IfOk root (λ _. GainsLists modular (item d no_items) (trees_in c.pool) (trees_in e.pool))
      → Gives (λ v. v.items) e.roots (and_one (root_numbers c.roots) root) → AreGiven given (GainsLists modular (items_of ds) []) c
      → AreGiven (read_one_more (tree modular) given d) (GainsLists modular (items_of (ds ++ d ∷ [])) []) e
  root_more c e root d given ds reads gained one h =
      let both = roots_more c.pool e.pool d given reads.grown c.roots root h.inside.here reads.here h.read reads.read in
      let seen = roots_seen c.pool e.pool d given reads.grown (and_one (root_numbers c.roots) root) e.roots one both.0 both.1 in
      record {
        inside = record { pool = reads.grown.pool h.inside.pool; here = seen.0 };
        gained = both_ok c.roots root e.roots one (gains_last modular ds d [] (trees_in c.pool) (trees_in e.pool)) h.gained gained;
        read = seen.1;
      }

  -- ---- one more member

  pub none_of_members : (es : Result (Vec F Global) FlatError) (c : Constraints F) → AreElements (Err (faults.Shape 0)) es → AreGiven (Err (faults.Shape 0)) (λ _. ⊥) c → AreMembersOf modular no_members no_members es c
  none_of_members es c g h = record {
    others = λ name n k. refl;
    main = g;
    constraints = record { inside = h.inside; gained = IfOk-weaker c.roots _ _ (λ _ never. absurd never) h.gained; read = h.read };
  }

  pub puts_main : (ms rest : Members) (es fs : Result (Vec F Global) FlatError) (c : Constraints F) (d : Data) → AreMembersOf modular ms rest es c → AreElements (elements modular d) fs → AreMembersOf modular (put name_main d ms) rest fs c
  puts_main ms rest es fs c d h given = record {
    others = λ name n k. get_member-put_other name name_main d ms n ∙ h.others name n k;
    main = subst (λ o. AreElements (of_member (elements modular) o) fs) (sym (get_member-put name_main d ms)) given;
    constraints = subst (λ o. AreGiven (of_member (trees modular) o) (GainsFound modular o) c) (sym (get_member-put_other name_apart name_main d ms (λ e. absurd cc))) h.constraints;
  }

  pub puts_apart : (ms rest : Members) (es : Result (Vec F Global) FlatError) (c e : Constraints F) (d : Data) → AreMembersOf modular ms rest es c → AreGiven (trees modular d) (GainsArray modular d []) e → AreMembersOf modular (put name_apart d ms) rest es e
  puts_apart ms rest es c e d h given = record {
    others = λ name n k. get_member-put_other name name_apart d ms k ∙ h.others name n k;
    main = subst (λ o. AreElements (of_member (elements modular) o) es) (sym (get_member-put_other name_main name_apart d ms (λ e. absurd cc))) h.main;
    constraints =
        subst (λ o. AreGiven (of_member (trees modular) o) (GainsFound modular o) e) (sym (get_member-put name_apart d ms))
        record { inside = given.inside; gained = IfOk-weaker e.roots _ _ (λ _ g. (d, refl, g)) given.gained; read = given.read };
  }

  pub puts_other : (ms rest : Members) (es : Result (Vec F Global) FlatError) (c : Constraints F) (k : List ℕ) (d : Data) → k ≢ name_main → k ≢ name_apart → AreMembersOf modular ms rest es c → AreMembersOf modular (put k d ms) (put k d rest) es c
  puts_other ms rest es c k d first other h = record {
    others = λ name m n. by_name name m n (bytes_eq name k) refl;
    main = subst (λ o. AreElements (of_member (elements modular) o) es) (sym (get_member-put_other name_main k d ms (λ e. first (sym e)))) h.main;
    constraints = subst (λ o. AreGiven (of_member (trees modular) o) (GainsFound modular o) c) (sym (get_member-put_other name_apart k d ms (λ e. other (sym e)))) h.constraints;
  }
    where
      by_name : (name : List ℕ) → name ≢ name_main → name ≢ name_apart → (b : Bool) → bytes_eq name k ≡ b → get_member name (put k d ms) ≡ get_member name (put k d rest)
      by_name name m n true e =
          let same = (bytes_eq-Decides name k).0 e in
          rw same (get_member-put k d ms ∙ sym (get_member-put k d rest))
      by_name name m n false e =
          let differ = λ (s : name ≡ k). absurd (true≢false (sym ((bytes_eq-Decides name k).1 s) ∙ e)) in
          get_member-put_other name k d ms differ ∙ h.others name m n ∙ sym (get_member-put_other name k d rest differ)

  pub parts_of_members : (ms : Members) (rest : BTreeMap (String Global) Value) (es : Result (Vec F Global) FlatError) (c : Constraints F) → AreMembersOf modular ms (members_view rest.entries) es c → ArePartsOf modular (object ms) (view (Object rest)) es c
  unfolding constraints_member elements_member
  parts_of_members ms rest es c h = record {
    others = λ name n k. h.others name n k ∙ ap (get name) (sym (view-Object rest));
    main = h.main;
    constraints = h.constraints;
  }

  -- ---- the members of the parts

  -- if a result gives the outcome of a reading, the next step gives the outcome of the next reading
  module _ {T X Y : Type 0} (see : X → Y) (r : Result X FlatError) (place : Result T FlatError → Result Y FlatError) (given : Result T FlatError) (memory : Gives see r (place (Err faults.Memory)) → Gives see r (place given)) where
    fault_gives : (f : FlatError) → Fails f given → Gives see r (place (Err f)) → Gives see r (place given)
    fault_gives faults.Memory e h = memory h
    fault_gives faults.DegreeOverflow e h = subst (λ g. Gives see r (place g)) (sym e) h
    fault_gives (faults.Shape at) e h = subst (λ g. Gives see r (place g)) (sym e) h
    fault_gives faults.EmptyList e h = subst (λ g. Gives see r (place g)) (sym e) h
    fault_gives (faults.Operand at i) e h = subst (λ g. Gives see r (place g)) (sym e) h
    fault_gives (faults.WrongDegree at s k) e h = subst (λ g. Gives see r (place g)) (sym e) h
    fault_gives (faults.NotCanonical at) e h = subst (λ g. Gives see r (place g)) (sym e) h

    read_gives : {V : Type 0} (seen : V → T) (v : Result V FlatError) → Gives seen v given → Gives see r (place (result_map_both seen (λ f. f) v)) → Gives see r (place given)
    read_gives seen (Ok v) e h = subst (λ g. Gives see r (place g)) (sym e) h
    read_gives seen (Err f) e h = fault_gives f e h

  module _ {P Q R S T X Y : Type 0} (see : X → Y) (r : Result X FlatError) (given : Result T FlatError) where
    without_memory : (k : P → Q → R → S → T → Result Y FlatError) (p : Result P FlatError) (q : Result Q FlatError) (s : Result R FlatError) (t : Result S FlatError)
        → Gives see r (p >>= λ x. q >>= λ y. s >>= λ z. t >>= λ a. Err faults.Memory >>= k x y z a) → Gives see r (p >>= λ x. q >>= λ y. s >>= λ z. t >>= λ a. given >>= k x y z a)
    without_memory k (Err f) q s t h = h
    without_memory k (Ok x) (Err f) s t h = h
    without_memory k (Ok x) (Ok y) (Err f) t h = h
    without_memory k (Ok x) (Ok y) (Ok z) (Err f) h = h
    without_memory k (Ok x) (Ok y) (Ok z) (Ok a) h = only_memory see r _ h

  module _ {P T X Y : Type 0} (see : X → Y) (r : Result X FlatError) (given : Result T FlatError) where
    width_memory : (k : P → T → Result Y FlatError) (p : Result P FlatError) → Gives see r (p >>= λ x. Err faults.Memory >>= k x) → Gives see r (p >>= λ x. given >>= k x)
    width_memory k (Err f) h = h
    width_memory k (Ok x) h = only_memory see r _ h

  -- if the trace and the constraints agree with the given ones, all members do
  module _ {X : Type 0} (see : X → Made F) (r : Result X FlatError) (rest : Data) where
    abbrev GivesWith : GivenElements F → GivenTrees F → Type 0
    GivesWith trace g = Gives see r (members_with modular trace g rest)

    constraints_memory : (trace : GivenElements F) (given : GivenTrees F) → GivesWith trace (Err faults.Memory) → GivesWith trace given
    unfolding members_with
    constraints_memory trace given h = without_memory see r given _ (width_member (codes "main_width") rest) trace (table_member modular rest) (elements_member modular (codes "public_values") rest) h

    trace_memory : (trace : GivenElements F) (given : GivenTrees F) → GivesWith (Err faults.Memory) given → GivesWith trace given
    unfolding members_with
    trace_memory trace given h = width_memory see r trace _ (width_member (codes "main_width") rest) h

    both_give : {U V : Type 0} (trace : GivenElements F) (given : GivenTrees F) (shown : U → List F) (seen : V → List (Option (Tree (BaseLeaf F)))) (es : Result U FlatError) (roots : Result V FlatError)
        → Gives shown es trace → Gives seen roots given
        → GivesWith (result_map_both shown (λ f. f) es) (result_map_both seen (λ f. f) roots) → GivesWith trace given
    both_give trace given shown seen es roots first second h =
        read_gives see r (λ g. members_with modular trace g rest) given (constraints_memory trace given) seen roots second
        (read_gives see r (λ t. members_with modular t (result_map_both seen (λ f. f) roots) rest) trace (trace_memory trace (result_map_both seen (λ f. f) roots)) shown es first h)

  -- the other members are the object's
  module _ (d rest : Data) (es : Result (Vec F Global) FlatError) (c : Constraints F) (parts : ArePartsOf modular d rest es c) where
    same : (name : List ℕ) → (length name ≡ 4 → ⊥) → (length name ≡ 11 → ⊥) → get name d ≡ get name rest
    same name first other = parts.others name (λ e. first (ap length e)) (λ e. other (ap length e))

    members_same : members_read modular d ≡ members_with modular (elements_member modular (codes "main") d) (constraints_member modular d) rest
    unfolding members_with width_member table_member elements_member periodic_member boundary_member cap_member weight_member labels_member
    members_same = rw (
      same (codes "main_width") (λ e. absurd cc) (λ e. absurd cc),
      same (codes "preprocessed_width") (λ e. absurd cc) (λ e. absurd cc),
      same (codes "preprocessed") (λ e. absurd cc) (λ e. absurd cc),
      same (codes "public_values") (λ e. absurd cc) (λ e. absurd cc),
      same (codes "periodic") (λ e. absurd cc) (λ e. absurd cc),
      same (codes "boundary") (λ e. absurd cc) (λ e. absurd cc),
      same (codes "cap") (λ e. absurd cc) (λ e. absurd cc),
      same (codes "transition_weight") (λ e. absurd cc) (λ e. absurd cc),
      same (codes "labels") (λ e. absurd cc) (λ e. absurd cc),
    ) refl

    pub parts_give : {X : Type 0} (see : X → Made F) (r : Result X FlatError) → Gives see r (members_with modular (given_elements es) (given_by c) rest) → Gives see r (members_read modular d)
    parts_give see r h =
        subst (λ v. Gives see r v) (sym members_same)
        (both_give see r rest (elements_member modular (codes "main") d) (constraints_member modular d) (λ v. v.items) (λ roots. map (tree_at c.pool) roots.items) es c.roots parts.main parts.constraints.read h)

    labelled_same : labelled_read modular d ≡ labelled_with (constraints_member modular d) rest
    unfolding labels_member
    labelled_same = rw (same (codes "labels") (λ e. absurd cc) (λ e. absurd cc)) refl

    -- likewise the constraints with their labels
    pub labelled_give : {X : Type 0} (see : X → LabelledTrees F) (r : Result X FlatError) → Gives see r (labelled_with (given_by c) rest)
        → Gives see r (labelled_read modular d)
    labelled_give see r h =
        subst (λ v. Gives see r v) (sym labelled_same)
        (read_gives see r (λ g. labelled_with g rest) (constraints_member modular d) (only_memory see r _) (λ roots. map (tree_at c.pool) roots.items) c.roots parts.constraints.read h)

    -- the pool and the roots that are taken from the parts are those of the object
    pub roots_given : (l : Labelled F) → TakesPool c l → AreRootsOf modular d l.pool l.roots.items
    roots_given l taken =
        let h = parts.constraints in
        subst (λ p. AreRootsOf modular d p l.roots.items) (sym taken.0)
        record {
          is_pool = h.inside.pool;
          gained = subst (λ (r : Result (Vec ℕ Global) FlatError). IfOk r (λ _. GainsMember modular d (trees_in c.pool))) taken.1 h.gained;
          here = subst (λ (r : Result (Vec ℕ Global) FlatError). IfOk r (λ v. AllIn c.pool v.items)) taken.1 h.inside.here;
          trees = (constraints_agree modular).found d (map (tree_at c.pool) l.roots.items) (gives_ok (λ roots. map (tree_at c.pool) roots.items) c.roots l.roots (constraints_member modular d) taken.1 h.read);
        }
