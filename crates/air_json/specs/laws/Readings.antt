-- The result of reading a value is one that the value spells.
use Rattle.air_json.specs.declared.errors.FlatError.{FlatError}
use Rattle.air_json.specs.Results.{◌>>=◌}
use Rattle.std.specs.Prelude.{◌≡◌, ℕ, List, [], ◌∷◌, Bool, true, false, Option, Some, None, Result, Ok, Err, ok_or, option_map, option_and_then, if◌then◌else◌, bytes_eq, refl, ⊤}
use Rattle.std.proofs.Common.{sym, ap, subst, ◌∙◌}
use Rattle.std.proofs.lemmas.Slice.Eq.{bytes_eq-Decides}
use Rattle.serde_json.specs.Data.{Data, null, boolean, number, string, array, object, unsigned, negative, float, no_members, member}
use Rattle.serde_json.specs.Find.{get, as_str}
use Rattle.air_json.specs.Parts.{only_member, as_whole_number, whole_at, all_two, all_three, find_name, case_or, text_or}
use Rattle.air_json.specs.Spelling.{number_data, case_data, HasField, HasWhole}

some_is : {A : Type 0} (x y : A) → Some x ≡ Some y → x ≡ y
some_is x y e = cc

by_test : {A : Type 0} (P : A → Type 0) (b : Bool) (x y : Option A) (z : A) → if b then x else y ≡ Some z → (b ≡ true → x ≡ Some z → P z) → (y ≡ Some z → P z) → P z
by_test P true x y z e p q = p refl e
by_test P false x y z e p q = q e

-- one of the two cases of a comparison of names
pub by_name : {A : Type 0} (P : A → Type 0) (s t : List ℕ) (x y : Option A) (z : A) → if bytes_eq s t then x else y ≡ Some z → (s ≡ t → x ≡ Some z → P z) → (y ≡ Some z → P z) → P z
by_name P s t x y z e p q = by_test P (bytes_eq s t) x y z e (λ b. p ((bytes_eq-Decides s t).0 b)) q

pub none_found : {A : Type 0} (P : A → Type 0) (z : A) → None ≡ Some z → P z
none_found P z e = absurd cc

pub by_some : {A : Type 0} (P : A → Type 0) (x z : A) → P x → Some x ≡ Some z → P z
by_some P x z h e = subst P (some_is x z e) h

pub map_found : {A B : Type 0} (P : B → Type 0) (f : A → B) (o : Option A) (z : B) → option_map f o ≡ Some z → ((a : A) → o ≡ Some a → P (f a)) → P z
map_found P f None z e h = absurd cc
map_found P f (Some a) z e h = subst P (some_is (f a) z e) (h a refl)

-- a whole number, as a value and as a field
whole_found : (o : Option Data) (n : ℕ) → option_and_then as_whole_number o ≡ Some n → o ≡ Some (number_data n)
whole_found None n e = absurd cc
whole_found (Some null) n e = absurd cc
whole_found (Some (boolean b)) n e = absurd cc
whole_found (Some (number (unsigned m))) n e = ap (λ k. Some (number_data k)) (some_is m n e)
whole_found (Some (number (negative z))) n e = absurd cc
whole_found (Some (number (float x))) n e = absurd cc
whole_found (Some (string s)) n e = absurd cc
whole_found (Some (array ds)) n e = absurd cc
whole_found (Some (object ms)) n e = absurd cc

pub field_found : (name : List ℕ) (d : Data) (n : ℕ) → whole_at name d ≡ Some n → HasWhole name n d
field_found name d n e = whole_found (get name d) n e

pub field_read : (name : List ℕ) (d : Data) (n : ℕ) → HasWhole name n d → whole_at name d ≡ Some n
field_read name d n h = ap (option_and_then as_whole_number) h

-- ---- values made of parts that were found

pub both_found : {A B C : Type 0} (P : C → Type 0) (make : A → B → C) (x : Option A) (y : Option B) (z : C) → all_two make x y ≡ Some z → ((a : A) (b : B) → x ≡ Some a → y ≡ Some b → P (make a b)) → P z
both_found P make None y z e h = none_found P z e
both_found P make (Some a) None z e h = none_found P z e
both_found P make (Some a) (Some b) z e h = by_some P (make a b) z (h a b refl refl) e

pub three_found : {A B C D : Type 0} (P : D → Type 0) (make : A → B → C → D) (x : Option A) (y : Option B) (o : Option C) (z : D)
    → all_three make x y o ≡ Some z → ((a : A) (b : B) (c : C) → x ≡ Some a → y ≡ Some b → o ≡ Some c → P (make a b c)) → P z
three_found P make None y o z e h = none_found P z e
three_found P make (Some a) None o z e h = none_found P z e
three_found P make (Some a) (Some b) None z e h = none_found P z e
three_found P make (Some a) (Some b) (Some c) z e h = by_some P (make a b c) z (h a b c refl refl refl) e

pub then_found : {A B : Type 0} (P : Type 0) (f : A → Option B) (o : Option A) (z : B) → option_and_then f o ≡ Some z → ((a : A) → o ≡ Some a → f a ≡ Some z → P) → P
then_found P f None z e h = none_found (λ _. P) z e
then_found P f (Some a) z e h = h a refl e

-- a field that is spelt is found
pub field_again : {A : Type 0} (spells : Data → A → Type 0) (read : Data → Option A) → ((d : Data) (x : A) → spells d x → read d ≡ Some x)
    → (name : List ℕ) (d : Data) (x : A) → HasField name (λ c. spells c x) d → option_and_then read (get name d) ≡ Some x
field_again spells read again name d x h = ap (option_and_then read) h.1 ∙ again h.0 x h.2

pub field_with : {A : Type 0} (spells : Data → A → Type 0) (read : Data → Option A) → ((d : Data) (x : A) → read d ≡ Some x → spells d x)
    → (name : List ℕ) (d : Data) (x : A) → option_and_then read (get name d) ≡ Some x → HasField name (λ c. spells c x) d
field_with spells read found name d x e =
    then_found (HasField name (λ c. spells c x) d) read (get name d) x e (λ c is e. (c, is, found c x e))

-- P holds for each row
abbrev pub Rows : {A : Type 0} → (List ℕ → A → Type 0) → List (List ℕ × A) → Type 0
Rows P [] = ⊤
Rows P (row ∷ rows) = P row.0 row.1 × Rows P rows

pub name_found : {A : Type 0} (P : List ℕ → A → Type 0) (rows : List (List ℕ × A)) (s : List ℕ) (z : A) → find_name rows s ≡ Some z → Rows P rows → P s z
name_found P [] s z e h = none_found (P s) z e
name_found P (row ∷ rows) s z e h =
    by_name (P s) s row.0 (Some row.1) (find_name rows s) z e
    (λ same e. subst (λ t. P t z) (sym same) (by_some (P row.0) row.1 z h.0 e)) (λ e. name_found P rows s z e h.1)

-- ---- results

abbrev pub ok_of : {A : Type 0} → A → Result A FlatError
ok_of x = Ok x

pub done_is : {A : Type 0} (P : A → Type 0) (x z : A) → ok_of x ≡ ok_of z → P x → P z
done_is {A} P x z e h = subst P (same x z e) h
  where
    same : (x z : A) → ok_of x ≡ ok_of z → x ≡ z
    same x z e = cc

pub not_done : {A : Type 0} (P : A → Type 0) (f : FlatError) (z : A) → Err f ≡ ok_of z → P z
not_done P f z e = absurd cc

pub bind_ok : {A B : Type 0} (r : Result A FlatError) (f : A → Result B FlatError) (y : B) → (r >>= f) ≡ Ok y → (x : A) × (r ≡ Ok x) × (f x ≡ Ok y)
bind_ok (Ok x) f y e = (x, refl, e)
bind_ok (Err d) f y e = absurd cc

pub bind_then : {A B : Type 0} (P : Type 0) (r : Result A FlatError) (f : A → Result B FlatError) (y : B) → (r >>= f) ≡ Ok y → ((x : A) → r ≡ Ok x → f x ≡ Ok y → P) → P
bind_then P (Ok x) f y e h = h x refl e
bind_then P (Err d) f y e h = absurd cc

pub ok_or_found : {A : Type 0} (o : Option A) (f : FlatError) (x : A) → ok_or o f ≡ Ok x → o ≡ Some x
ok_or_found None f x e = absurd cc
ok_or_found (Some y) f x e = done_is (λ z. Some y ≡ Some z) y x e refl

pub test_ok : {A : Type 0} (P : A → Type 0) (b : Bool) (x y : Result A FlatError) (z : A) → if b then x else y ≡ Ok z → (b ≡ true → x ≡ Ok z → P z) → (y ≡ Ok z → P z) → P z
test_ok P true x y z e p q = p refl e
test_ok P false x y z e p q = q e

pub name_ok : {A : Type 0} (P : A → Type 0) (s t : List ℕ) (x y : Result A FlatError) (z : A) → if bytes_eq s t then x else y ≡ Ok z → (s ≡ t → x ≡ Ok z → P z) → (y ≡ Ok z → P z) → P z
name_ok P s t x y z e p q = test_ok P (bytes_eq s t) x y z e (λ b. p ((bytes_eq-Decides s t).0 b)) q

-- ---- faults

abbrev pub err_of : {A : Type 0} → FlatError → Result A FlatError
err_of f = Err f

pub err_is : {A : Type 0} (f g : FlatError) → err_of {A = A} f ≡ err_of g → f ≡ g
err_is f g e = cc

pub not_failed : {A : Type 0} (P : Type 0) (a : A) (f : FlatError) → ok_of a ≡ err_of f → P
not_failed P a f e = absurd cc

pub ok_or_failed : {A : Type 0} (o : Option A) (g f : FlatError) → ok_or o g ≡ Err f → f ≡ g
ok_or_failed {A} None g f e = sym (err_is {A = A} g f e)
ok_or_failed (Some a) g f e = absurd cc

pub before_done : {A B : Type 0} (r : Result A FlatError) (h : A → B) (f : FlatError) → (r >>= λ a. ok_of (h a)) ≡ Err f → r ≡ Err f
before_done (Ok a) h f e = absurd cc
before_done {A} {B} (Err g) h f e = ap (λ k. err_of k) (err_is {A = B} g f e)

pub bind_failed : {A B : Type 0} (P : Type 0) (r : Result A FlatError) (k : A → Result B FlatError) (f : FlatError) → (r >>= k) ≡ Err f → (r ≡ Err f → P) → ((x : A) → r ≡ Ok x → k x ≡ Err f → P) → P
bind_failed P (Ok x) k f e p q = q x refl e
bind_failed {A} {B} P (Err g) k f e p q = p (ap (λ h. err_of h) (err_is {A = B} g f e))

-- one of the two cases of a test, or of a comparison of names, failed
pub test_failed : {A : Type 0} (P : Type 0) (b : Bool) (x y : Result A FlatError) (f : FlatError) → if b then x else y ≡ Err f → (b ≡ true → x ≡ Err f → P) → (b ≡ false → y ≡ Err f → P) → P
test_failed P true x y f e p q = p refl e
test_failed P false x y f e p q = q refl e

pub name_failed : {A : Type 0} (P : Type 0) (s t : List ℕ) (x y : Result A FlatError) (f : FlatError) → if bytes_eq s t then x else y ≡ Err f → (s ≡ t → x ≡ Err f → P) → (y ≡ Err f → P) → P
name_failed P s t x y f e p q = test_failed P (bytes_eq s t) x y f e (λ b. p ((bytes_eq-Decides s t).0 b)) (λ _. q)

-- a case is an object with one member
pub only_found : (d : Data) (c : List ℕ × Data) → only_member d ≡ Some c → d ≡ case_data c.0 c.1
only_found null c e = absurd cc
only_found (boolean b) c e = absurd cc
only_found (number n) c e = absurd cc
only_found (string s) c e = absurd cc
only_found (array ds) c e = absurd cc
only_found (object no_members) c e = absurd cc
only_found (object (member k v no_members)) c e = ap (λ p. case_data p.0 p.1) (some_is (k, v) c e)
only_found (object (member k v (member l w ms))) c e = absurd cc

pub text_found : (d : Data) (s : List ℕ) → as_str d ≡ Some s → d ≡ string s
text_found null s e = absurd cc
text_found (boolean b) s e = absurd cc
text_found (number n) s e = absurd cc
text_found (string t) s e = ap (λ x. string x) (some_is t s e)
text_found (array ds) s e = absurd cc
text_found (object ms) s e = absurd cc

-- a property of a value that was read as a case, or as a text
pub case_read : {B : Type 0} (P : Data → Type 0) (Is : B → Type 0) (other : B) (read : List ℕ → Data → B) (d : Data) → Is (case_or other read (only_member d)) → (Is other → P d)
    → ((name : List ℕ) (c : Data) → Is (read name c) → P (case_data name c)) → P d
case_read P Is other read d h none case = go (only_member d) refl h
  where
    go : (o : Option (List ℕ × Data)) → only_member d ≡ o → Is (case_or other read o) → P d
    go None is h = none h
    go (Some c) is h = subst P (sym (only_found d c is)) (case c.0 c.1 h)

pub text_read : {B : Type 0} (P : Data → Type 0) (Is : B → Type 0) (other : B) (bare : List ℕ → B) (read : List ℕ → Data → B) (d : Data) → Is (text_or other bare read (as_str d) d)
    → ((name : List ℕ) → Is (bare name) → P (string name)) → (Is other → P d) → ((name : List ℕ) (c : Data) → Is (read name c) → P (case_data name c)) → P d
text_read P Is other bare read d h text none case = go (as_str d) refl h
  where
    go : (o : Option (List ℕ)) → as_str d ≡ o → Is (text_or other bare read o d) → P d
    go None is h = case_read P Is other read d h none case
    go (Some s) is h = subst P (sym (text_found d s is)) (text s h)

pub number_found : (d : Data) (n : ℕ) → as_whole_number d ≡ Some n → d ≡ number_data n
number_found null n e = absurd cc
number_found (boolean b) n e = absurd cc
number_found (number (unsigned m)) n e = ap number_data (some_is m n e)
number_found (number (negative z)) n e = absurd cc
number_found (number (float x)) n e = absurd cc
number_found (string s) n e = absurd cc
number_found (array ds) n e = absurd cc
number_found (object ms) n e = absurd cc
