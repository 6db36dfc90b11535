-- Grammars: what data spell, and the first fault of data that spell nothing.
use Rattle.std.specs.Prelude.{◌≡◌, ℕ, List, [], ◌∷◌, length, ◌<◌, ◌≤◌, Option, Some, None, ◌⊎◌, ⊤}
use Rattle.serde_json.specs.Data.{Data, Items, no_items, item}
use Rattle.serde_json.specs.Find.{get, as_array}
use Rattle.air_json.specs.Spelling.{HasField}
use Rattle.air_json.specs.declared.errors.FlatError.{FlatError}
use Rattle.air_json.specs.declared.errors.FlatError.TheVariants as faults

pub record Grammar (X : Type 0) : Type 1 where
  pub spells : Data → X → Type 0
  pub fault : Data → FlatError → Type 0

-- data that spell nothing have the wrong form
abbrev pub by_form : {X : Type 0} → (Data → X → Type 0) → Grammar X
by_form {X} spells = record { spells = spells; fault = λ d f. ((x : X) → spells d x → ⊥) × (f ≡ faults.Shape 0) }

-- ---- lists, element by element

abbrev pub AllSpell : {X : Type 0} → Grammar X → Items → List X → Type 0
AllSpell g no_items [] = ⊤
AllSpell g no_items (x ∷ xs) = ⊥
AllSpell g (item d ds) [] = ⊥
AllSpell g (item d ds) (x ∷ xs) = g.spells d x × AllSpell g ds xs

-- the first element that spells nothing has this fault, and all elements before it spell something
abbrev pub FirstElementFault : {X : Type 0} → Grammar X → Items → FlatError → Type 0
FirstElementFault g no_items f = ⊥
FirstElementFault {X} g (item d ds) f = g.fault d f ⊎ ((x : X) × g.spells d x × FirstElementFault g ds f)

abbrev pub list_of : {X : Type 0} → Grammar X → Grammar (List X)
list_of g = record {
  spells = λ d xs. (ds : Items) × (as_array d ≡ Some ds) × AllSpell g ds xs;
  fault = λ d f. ((as_array d ≡ None) × (f ≡ faults.Shape 0)) ⊎ ((ds : Items) × (as_array d ≡ Some ds) × FirstElementFault g ds f);
}

-- a list of at most n elements
abbrev pub at_most : {X : Type 0} → ℕ → Grammar (List X) → Grammar (List X)
at_most {X} n g = record {
  spells = λ d xs. g.spells d xs × (length xs ≤ n);
  fault = λ d f. g.fault d f ⊎ ((xs : List X) × g.spells d xs × (n < length xs) × (f ≡ faults.Shape 0));
}

-- ---- members of an object

-- the member with this name, which is required
abbrev pub needed_member : {X : Type 0} → List ℕ → Grammar X → Grammar X
needed_member name g = record {
  spells = λ d x. HasField name (λ c. g.spells c x) d;
  fault = λ d f. ((get name d ≡ None) × (f ≡ faults.Shape 0)) ⊎ HasField name (λ c. g.fault c f) d;
}

-- the member with this name; `absent` without it
abbrev pub optional_member : {X : Type 0} → List ℕ → X → Grammar X → Grammar X
optional_member name absent g = record {
  spells = λ d x. ((get name d ≡ None) × (x ≡ absent)) ⊎ HasField name (λ c. g.spells c x) d;
  fault = λ d f. HasField name (λ c. g.fault c f) d;
}

-- what a further grammar, which the value of the first determines, spells in the same data; a fault of the first comes first
abbrev pub then_member : {X Y : Type 0} → Grammar X → (X → Grammar Y) → Grammar Y
then_member {X} g h = record {
  spells = λ d y. (x : X) × g.spells d x × (h x).spells d y;
  fault = λ d f. g.fault d f ⊎ ((x : X) × g.spells d x × (h x).fault d f);
}

infixl 10 ◌>>=◌
abbrev pub ◌>>=◌ : {X Y : Type 0} → Grammar X → (X → Grammar Y) → Grammar Y
g >>= h = then_member g h

-- this value, whatever the data
abbrev pub given : {X : Type 0} → X → Grammar X
given x = record { spells = λ d y. y ≡ x; fault = λ d f. ⊥ }

-- two members; a fault of the first comes first
abbrev pub both_members : {X Y : Type 0} → Grammar X → Grammar Y → Grammar (X × Y)
both_members g h = do
  x ← g
  y ← h
  given (x, y)

-- the object has a member with one of these names
abbrev pub HasEither : List ℕ → List ℕ → Data → Type 0
HasEither one other d = HasField one (λ _. ⊤) d ⊎ HasField other (λ _. ⊤) d

-- both members or neither: if one is present, the other is required
abbrev pub both_or_none : {X Y : Type 0} → List ℕ → Grammar X → List ℕ → Grammar Y → Grammar (Option (X × Y))
both_or_none {X} {Y} one g other h = record {
  spells = λ d o.
      ((get one d ≡ None) × (get other d ≡ None) × (o ≡ None))
      ⊎ ((p : X × Y) × (both_members (needed_member one g) (needed_member other h)).spells d p × (o ≡ Some p));
  fault = λ d f. HasEither one other d × (both_members (needed_member one g) (needed_member other h)).fault d f;
}
