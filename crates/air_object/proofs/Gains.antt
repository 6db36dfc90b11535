-- Pools that gain the trees of lists.
use Rattle.std.proofs.Common.{◌≡◌, ℕ, zero, suc, List, [], ◌∷◌, ◌++◌, map, flat_map, Some, refl, sym, ap, subst, ◌∙◌, arith}
use Rattle.std.proofs.lemmas.List.{append-nil, append_assoc, map-append}
use Rattle.serde_json.specs.Data.{Data, Items, no_items, item}
use Rattle.serde_json.specs.Find.{as_array}
use Rattle.serde_json.specs.View.{items_of}
use Rattle.air_field.specs.Modular.{Modular}
use Rattle.air_symbolic.specs.BaseLeaves.{base_leaves, base_reads}
use Rattle.air_symbolic.specs.ExtLeaves.{BaseNodes}
use Rattle.air_symbolic.specs.Numbered.{GainsEach, trees_in}
use Rattle.air_symbolic.specs.Pools.{IsPool, tree_at}
use Rattle.air_symbolic.specs.Trees.{Tree}
use Rattle.air_symbolic.specs.declared.leaves.base_leaf.BaseLeaf.{BaseLeaf}
use Rattle.air_symbolic.specs.laws.Numbered.{gains_on, gains_once, pool_gains, one_pool}
use Rattle.air_symbolic.specs.laws.Sharing.{shared}
use Rattle.air_json.specs.BaseLeaves.{base_kind, base_seen}
use Rattle.air_json.specs.ListReaders.{ReadsInto}
use Rattle.air_json.specs.NodeLists.{AreNodes}
use Rattle.air_json.specs.Unshared.{seen_at}
use Rattle.air_json.specs.laws.BaseLeaves.{base_kind_laws, over_same}
use Rattle.air_json.specs.laws.Lists.{nodes_again}
use Rattle.air_json.specs.laws.Readings.{done_is}
use Rattle.air_object.specs.Gained.{PoolTrees, nodes_of, GainsLists, GainsMember, AreRootsOf}
use Rattle.air_object.specs.Objects.{AllSpell}
use Rattle.air_object.specs.laws.Members.{constraints_agree}
use Rattle.air_object.proofs.Trees.{GrownTo, AllIn}

-- the elements of all lists
abbrev all_of : {X : Type 0} → List (List X) → List X
all_of xss = flat_map (λ xs. xs) xss

all_of-append : {X : Type 0} (xss yss : List (List X)) → all_of (xss ++ yss) ≡ all_of xss ++ all_of yss
all_of-append [] yss = refl
all_of-append (xs ∷ xss) yss = ap (λ zs. xs ++ zs) (all_of-append xss yss) ∙ sym (append_assoc xs (all_of xss) (all_of yss))

module _ {F : Type 0} {order : ℕ} (modular : Modular F order) where
  over_seen : (q : BaseNodes F) (is : List ℕ) → map (seen_at base_seen q) is ≡ map (tree_at q) is
  over_seen q [] = refl
  over_seen q (i ∷ is) = cc (over_same (tree_at q i), over_seen q is)

  -- a list that was read into a pool
  pub list_gains : (p q : BaseNodes F) (d : Data) (ds : Items) → GrownTo p q → IsPool base_reads q → as_array d ≡ Some ds → ReadsInto (base_kind modular) (seen_at base_seen) p q ds
      → GainsLists modular (item d no_items) (trees_in p) (trees_in q)
  list_gains p q d ds grown pool array r = record {
    lists = r.trees ∷ [];
    spelt = ((ds, array, r.nodes), tt);
    gained =
        subst (λ ts. GainsEach (trees_in p) (map Some ts) (trees_in q)) (sym (append-nil r.trees))
        (subst (λ ts. GainsEach (trees_in p) ts (trees_in q)) (sym (over_seen q r.ids) ∙ r.are) (pool_gains base_leaves p.nodes q.nodes grown.nodes pool.nodes r.ids r.numbered));
  }

  -- no list
  pub none_gain : (before : PoolTrees F) → GainsLists modular no_items before before
  none_gain before = record { lists = []; spelt = tt; gained = refl }

  both_gain : (a b c : PoolTrees F) (ls ks : List (List (Tree (BaseLeaf F)))) → GainsEach a (map Some (all_of ls)) b → GainsEach b (map Some (all_of ks)) c → GainsEach a (map Some (all_of (ls ++ ks))) c
  both_gain a b c ls ks h k =
      subst (λ ts. GainsEach a ts c) (sym (ap (map Some) (all_of-append ls ks) ∙ map-append Some (all_of ls) (all_of ks)))
      (gains_on a b c (map Some (all_of ls)) (map Some (all_of ks)) h k)

  -- one list before others
  pub gains_first : (d : Data) (ds : Items) (a b c : PoolTrees F) → GainsLists modular (item d no_items) a b → GainsLists modular ds b c → GainsLists modular (item d ds) a c
  gains_first d ds a b c one more = with_list one.lists one.spelt one.gained
    where
      with_list : (ls : List (List (Tree (BaseLeaf F)))) → AllSpell (nodes_of modular) (item d no_items) ls → GainsEach a (map Some (all_of ls)) b → GainsLists modular (item d ds) a c
      with_list [] h g = absurd h
      with_list (ts ∷ []) h g = record { lists = ts ∷ more.lists; spelt = (h.0, more.spelt); gained = both_gain a b c (ts ∷ []) more.lists g more.gained }
      with_list (ts ∷ us ∷ ls) h g = absurd h.1

  spells_more : (ds : List Data) (d : Data) (ls ks : List (List (Tree (BaseLeaf F)))) → AllSpell (nodes_of modular) (items_of ds) ls → AllSpell (nodes_of modular) (item d no_items) ks → AllSpell (nodes_of modular) (items_of (ds ++ d ∷ [])) (ls ++ ks)
  spells_more [] d [] ks h k = k
  spells_more [] d (l ∷ ls) ks h k = absurd h
  spells_more (e ∷ ds) d [] ks h k = absurd h
  spells_more (e ∷ ds) d (l ∷ ls) ks h k = (h.0, spells_more ds d ls ks h.1 k)

  -- one list after others
  pub gains_last : (ds : List Data) (d : Data) (a b c : PoolTrees F) → GainsLists modular (items_of ds) a b → GainsLists modular (item d no_items) b c → GainsLists modular (items_of (ds ++ d ∷ [])) a c
  gains_last ds d a b c more one = record {
    lists = more.lists ++ one.lists;
    spelt = spells_more ds d more.lists one.lists more.spelt one.spelt;
    gained = both_gain a b c more.lists one.lists more.gained one.gained;
  }

  -- ---- an object has one pool and one list of roots

  nodes_once : (d : Data) (ts us : List (Tree (BaseLeaf F))) → (nodes_of modular).spells d ts → (nodes_of modular).spells d us → ts ≡ us
  nodes_once d ts us h k =
      let items : h.0 ≡ k.0 = cc (sym h.1 ∙ k.1) in
      let others = subst (λ ds. AreNodes (base_kind modular) [] ds us) (sym items) k.2 in
      done_is (λ vs. ts ≡ vs) ts us (sym (nodes_again (base_kind modular) (base_kind_laws modular) [] h.0 ts h.2) ∙ nodes_again (base_kind modular) (base_kind_laws modular) [] h.0 us others) refl

  lists_once : (ds : Items) (ls ks : List (List (Tree (BaseLeaf F)))) → AllSpell (nodes_of modular) ds ls → AllSpell (nodes_of modular) ds ks → ls ≡ ks
  lists_once no_items [] [] h k = refl
  lists_once no_items [] (u ∷ ks) h k = absurd k
  lists_once no_items (t ∷ ls) ks h k = absurd h
  lists_once (item d ds) [] ks h k = absurd h
  lists_once (item d ds) (t ∷ ls) [] h k = absurd k
  lists_once (item d ds) (t ∷ ls) (u ∷ ks) h k = cc (nodes_once d t u h.0 k.0, lists_once ds ls ks h.1 k.1)

  trees_once : (d : Data) (a b : PoolTrees F) → GainsMember modular d a → GainsMember modular d b → a ≡ b
  trees_once d a b h k =
      let member : h.0 ≡ k.0 = cc (sym h.1 ∙ k.1) in
      let array : Some h.2.0 ≡ Some k.2.0 = sym h.2.1 ∙ ap as_array member ∙ k.2.1 in
      let items : h.2.0 ≡ k.2.0 = cc array in
      let other = subst (λ ds. AllSpell (nodes_of modular) ds k.2.2.lists) (sym items) k.2.2.spelt in
      let lists = lists_once h.2.0 h.2.2.lists k.2.2.lists h.2.2.spelt other in
      gains_once [] a b (map Some (all_of h.2.2.lists)) h.2.2.gained (subst (λ ls. GainsEach [] (map Some (all_of ls)) b) (sym lists) k.2.2.gained)

  roots_once : (p : BaseNodes F) → IsPool base_reads p → (is js : List ℕ) → AllIn p is → AllIn p js → map (tree_at p) is ≡ map (tree_at p) js → is ≡ js
  roots_once p pool [] [] h k e = refl
  roots_once p pool [] (j ∷ js) h k e = absurd cc
  roots_once p pool (i ∷ is) [] h k e = absurd cc
  roots_once p pool (i ∷ is) (j ∷ js) h k e =
      let tree : tree_at p i ≡ tree_at p j = cc in
      let rest : map (tree_at p) is ≡ map (tree_at p) js = cc in
      let first : i ≡ j = shared base_leaves p.nodes pool.nodes i j (h zero i (omega arith)) (k zero j (omega arith)) tree in
      cc (first, roots_once p pool is js (λ l d b. h (suc l) d (omega (arith, b))) (λ l d b. k (suc l) d (omega (arith, b))) rest)

  pub one_roots : (d : Data) (p q : BaseNodes F) (is js : List ℕ) → AreRootsOf modular d p is → AreRootsOf modular d q js → (p ≡ q) × (is ≡ js)
  one_roots d p q is js h k =
      let pools : p ≡ q = one_pool base_reads q p k.is_pool h.is_pool refl (trees_once d (trees_in p) (trees_in q) h.gained k.gained) in
      let read = (constraints_agree modular).again d in
      let trees = done_is (λ ts. map (tree_at p) is ≡ ts) (map (tree_at p) is) (map (tree_at q) js) (sym (read (map (tree_at p) is) h.trees) ∙ read (map (tree_at q) js) k.trees) refl in
      let there = subst (λ s. AllIn s js) (sym pools) k.here in
      (pools, roots_once p h.is_pool is js h.here there (trees ∙ ap (λ s. map (tree_at s) js) (sym pools)))
