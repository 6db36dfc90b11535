-- An object whose trace and constraints are read separately from its other members.
use Rattle.std.specs.Prelude.{◌≡◌, ◌≢◌, ℕ, ◌<◌, List, [], ◌∷◌, ◌++◌, map, All, Option, Result, Ok, IfOk, codes, Vec}
use Rattle.std.specs.Global.{Global}
use Rattle.std.specs.Result.{result_map_both}
use Rattle.serde_json.specs.Data.{Data, Members}
use Rattle.serde_json.specs.Find.{get, get_member}
use Rattle.air_field.specs.Modular.{Modular}
use Rattle.air_symbolic.specs.BaseLeaves.{base_reads}
use Rattle.air_symbolic.specs.Pools.{IsPool, tree_at, size}
use Rattle.air_symbolic.specs.Numbered.{trees_in}
use Rattle.air_symbolic.specs.Trees.{Tree}
use Rattle.air_symbolic.specs.declared.leaves.base_leaf.BaseLeaf.{BaseLeaf}
use Rattle.air_json.specs.Results.{◌>>=◌, Gives}
use Rattle.air_json.specs.declared.errors.FlatError.{FlatError}
use Rattle.air_object.specs.Gained.{PoolTrees, GainsFound, GainsMember}
use Rattle.air_object.specs.Readers.{Reader, or_wrong_form, elements, trees, elements_member, constraints_member}
use Rattle.air_object.specs.declared.constraints.Constraints.{Constraints}
use Rattle.air_object.specs.declared.labelled.Labelled.{Labelled}

-- the elements of the trace, or the first fault
abbrev pub GivenElements : Type 0 → Type 0
GivenElements F = Result (List F) FlatError

-- the code's answer is these elements, or this fault, or `Memory`
abbrev pub AreElements : {F : Type 0} → GivenElements F → Result (Vec F Global) FlatError → Type 0
AreElements given es = Gives (λ v. v.items) es given

-- the trees of the constraints, or the first fault
abbrev pub GivenTrees : Type 0 → Type 0
GivenTrees F = Result (List (Option (Tree (BaseLeaf F)))) FlatError

-- the ids of the roots, or the first fault
abbrev pub root_numbers : Result (Vec ℕ Global) FlatError → Result (List ℕ) FlatError
root_numbers roots = result_map_both (λ v. v.items) (λ f. f) roots

-- the roots are ids of the pool
pub record InPool {F : Type 0} (c : Constraints F) : Type 0 where
  pub pool : IsPool base_reads c.pool
  pub here : IfOk c.roots (λ roots. All (λ i. i < size c.pool) roots.items)

-- The roots have these trees, or the answer is this fault or `Memory`. If there are roots, `Gained` holds for the trees
-- of the pool.
pub record AreGiven {F : Type 0} (given : GivenTrees F) (Gained : PoolTrees F → Type 0) (c : Constraints F) : Type 0 where
  pub inside : InPool c
  pub gained : IfOk c.roots (λ _. Gained (trees_in c.pool))
  pub read : Gives (λ roots. map (tree_at c.pool) roots.items) c.roots given

-- these are the pool and the roots of the constraints
abbrev pub TakesPool : {F : Type 0} → Constraints F → Labelled F → Type 0
TakesPool c l = (l.pool ≡ c.pool) × (c.roots ≡ Ok l.roots)

-- a list and one more element, or the first fault
abbrev pub and_one : {X : Type 0} → Result (List X) FlatError → Result X FlatError → Result (List X) FlatError
and_one given one = given >>= λ before. one >>= λ x. Ok (before ++ x ∷ [])

-- a list and the reading of one more value, or the first fault
abbrev pub read_one_more : {X : Type 0} → Reader X → Result (List X) FlatError → Data → Result (List X) FlatError
read_one_more read given d = and_one given (read d)

-- the reading of a member's value; wrong form without the member
abbrev pub of_member : {X : Type 0} → Reader X → Option Data → Result X FlatError
of_member read o = or_wrong_form o >>= read

-- `rest` has the members ms except the trace and the constraints, which es and c give
pub record AreMembersOf {F : Type 0} {p : ℕ} (m : Modular F p) (ms rest : Members) (es : Result (Vec F Global) FlatError) (c : Constraints F) : Type 0 where
  pub others : (name : List ℕ) → name ≢ codes "main" → name ≢ codes "constraints" → get_member name ms ≡ get_member name rest
  pub main : AreElements (of_member (elements m) (get_member (codes "main") ms)) es
  pub constraints : AreGiven (of_member (trees m) (get_member (codes "constraints") ms))
      (GainsFound m (get_member (codes "constraints") ms)) c

-- `AreMembersOf` for a whole value; a value that is no object has no members
pub record ArePartsOf {F : Type 0} {p : ℕ} (m : Modular F p) (d rest : Data) (es : Result (Vec F Global) FlatError) (c : Constraints F) : Type 0 where
  pub others : (name : List ℕ) → name ≢ codes "main" → name ≢ codes "constraints" → get name d ≡ get name rest
  pub main : AreElements (elements_member m (codes "main") d) es
  pub constraints : AreGiven (constraints_member m d) (GainsMember m d) c

-- ---- the trace and the constraints, as they are given to a reader of the members

abbrev pub given_elements : {F : Type 0} → Result (Vec F Global) FlatError → GivenElements F
given_elements es = result_map_both (λ v. v.items) (λ f. f) es

abbrev pub given_by : {F : Type 0} → Constraints F → GivenTrees F
given_by c = result_map_both (λ roots. map (tree_at c.pool) roots.items) (λ f. f) c.roots
