-- What has a number in a list, and the terms of lists that grow.
use Rattle.std.specs.List.{AllZip}
use Rattle.std.proofs.Common.{◌≡◌, ◌≤◌, ◌<◌, ℕ, zero, suc, ◌+◌, List, [], ◌∷◌, ◌++◌, All, Some, slice_get, get_or, take, length, map}
use Rattle.std.proofs.Common.{refl, sym, ap, subst, ◌∙◌, arith}
use Rattle.std.proofs.lemmas.List.{take_more, map-append}
use Rattle.std.proofs.Math.ListN.{length-append}
use Rattle.std.proofs.lemmas.Slice.Zip.{all_zipped_more}
use Rattle.std.proofs.lemmas.Option.{slice_get_within, get_or_from_slice_get}
use Rattle.air_field.specs.Term.{Term, ext_const_term, mul_term}
use Rattle.air_field.specs.Algebra.{AlgebraLaws}
use Rattle.air_field.specs.Ring.{CommRing}
use Rattle.air_field.specs.Extension.{Basis}
use Rattle.air_symbolic.specs.BaseLeaves.{base_reads}
use Rattle.air_symbolic.specs.ExtLeaves.{ext_reads}
use Rattle.air_symbolic.specs.ExtPool.{ExtNodes, ExtGrown, BaseMeans}
use Rattle.air_symbolic.specs.Pools.{IsPool, PoolMeans}
use Rattle.air_symbolic.specs.laws.ExtPool.{ext_keeps_base}
use Rattle.air_builder.specs.laws.Zips.{AllZip-weaker}
use Rattle.air_draft.specs.DraftTerms.{term_at, power_term, terms_after, factor_term, under_conditions}
use Rattle.air_draft.specs.ExtDraftTerms.{under_lifted}
use Rattle.air_draft.specs.declared.claim.Factor.{Factor}
use Rattle.air_draft.specs.declared.claim.Factor.TheVariants.{FirstRow}

-- what is true of each is true of what has a number
pub All-found : {A : Type 0} (P : A → Type 0) (xs : List A) (i : ℕ) (x : A) → All P xs → slice_get xs i ≡ Some x → P x
All-found P xs i x h at = subst P (get_or_from_slice_get xs i x x at) (h i x (slice_get_within xs i x at))

-- what is beside what has a number
AllZip-found : {A B : Type 0} (R : A → B → Type 0) (xs : List A) (ys : List B) (i : ℕ) (x : A) (d : B)
    → AllZip R xs ys → slice_get xs i ≡ Some x → R x (get_or ys i d)
AllZip-found R [] ys i x d h at = absurd (cc at)
AllZip-found R (y ∷ xs) [] i x d h at = absurd h
AllZip-found R (y ∷ xs) (z ∷ ys) zero x d h at = subst (λ v. R v z) (same at) h.0
  where
    same : Some y ≡ Some x → y ≡ x
    same e = cc
AllZip-found R (y ∷ xs) (z ∷ ys) (suc i) x d h at = AllZip-found R xs ys i x d h.1 at

-- it means the term of that number
pub term-found : {E F : Type 0} (means : E → Term F → Type 0) (xs : List E) (ts : List (Term F)) (i : ℕ) (x : E)
    → AllZip means xs ts → slice_get xs i ≡ Some x → means x (term_at ts i)
term-found means xs ts i x h at = AllZip-found means xs ts i x (ext_const_term []) h at

-- what is true of each that has something beside it
pub All-beside : {A B : Type 0} (R : A → B → Type 0) (P : A → Type 0) → ((x : A) (y : B) → R x y → P x)
    → (xs : List A) (ys : List B) → AllZip R xs ys → All P xs
All-beside R P w [] ys h k d lt = absurd (omega arith)
All-beside R P w (x ∷ xs) [] h k d lt = absurd h
All-beside R P w (x ∷ xs) (y ∷ ys) h zero d lt = w x y h.0
All-beside R P w (x ∷ xs) (y ∷ ys) h (suc k) d lt = All-beside R P w xs ys h.1 k d (omega arith)

-- what is beside one more, where what is beside each is made of another list
pub AllZip-more : {A B C : Type 0} (R : A → B → Type 0) (f : C → B) (xs : List A) (cs : List C) (i : ℕ) (d : C) (x : A)
    → i < length cs → AllZip R xs (map f (take i cs)) → R x (f (get_or cs i d)) → AllZip R (xs ++ x ∷ []) (map f (take (i + 1) cs))
AllZip-more R f xs cs i d x lt h new =
    subst (AllZip R (xs ++ x ∷ [])) (sym (ap (map f) (take_more cs i d lt) ∙ map-append f (take i cs) (get_or cs i d ∷ [])))
    (all_zipped_more R xs (map f (take i cs)) x (f (get_or cs i d)) h new)

-- the terms after one step more
terms_after-push : {F S : Type 0} (term : (ℕ → Term F) → S → Term F) (before : List (Term F)) (ss : List S) (s : S)
    → terms_after term before (ss ++ s ∷ []) ≡ terms_after term before ss ++ term (term_at (terms_after term before ss)) s ∷ []
terms_after-push term before [] s = refl
terms_after-push term before (u ∷ ss) s = terms_after-push term (before ++ term (term_at before) u ∷ []) ss s

pub terms_after-more : {F S : Type 0} (term : (ℕ → Term F) → S → Term F) (ss : List S) (i : ℕ) (d s : S) → i < length ss → s ≡ get_or ss i d
    → terms_after term [] (take (i + 1) ss) ≡ terms_after term [] (take i ss) ++ term (term_at (terms_after term [] (take i ss))) s ∷ []
terms_after-more term ss i d s lt is =
    ap (terms_after term []) (take_more ss i d lt ∙ ap (λ v. take i ss ++ v ∷ []) (sym is)) ∙ terms_after-push term [] (take i ss) s

-- a term under one condition more
under_conditions-push : {F : Type 0} (at : ℕ → Term F) (cs : List Factor) (c : Factor) (t : Term F)
    → under_conditions at (cs ++ c ∷ []) t ≡ mul_term (factor_term at c) (under_conditions at cs t)
under_conditions-push at [] c t = refl
under_conditions-push at (b ∷ cs) c t = under_conditions-push at cs c (mul_term (factor_term at b) t)

pub under_conditions-more : {F : Type 0} (at : ℕ → Term F) (cs : List Factor) (i : ℕ) (t : Term F) → i < length cs
    → under_conditions at (take (i + 1) cs) t ≡ mul_term (factor_term at (get_or cs i FirstRow)) (under_conditions at (take i cs) t)
under_conditions-more at cs i t lt =
    ap (λ v. under_conditions at v t) (take_more cs i FirstRow lt) ∙ under_conditions-push at (take i cs) (get_or cs i FirstRow) t

-- elements keep what they mean
pub all_mean_still : {R E F X : Type 0} {valid : R → Type 0} {has : R → E → Type 0} {means : R → E → Term F → Type 0}
    {extends : R → R → Type 0} {refuses : X → Term F → Type 0} → AlgebraLaws valid has means extends refuses
    → (p q : R) (xs : List E) (ts : List (Term F)) → extends p q → AllZip (means p) xs ts → AllZip (means q) xs ts
all_mean_still {means = means} laws p q xs ts g h =
    AllZip-weaker (means p) (means q) (λ x t m. laws.means_stays p q x t g m) xs ts h

-- and so do those of the base
pub base_mean_still : {F EF : Type 0} (r : CommRing F) (basis : Basis F EF) (p q : ExtNodes F EF) (xs : List ℕ) (ts : List (Term F))
    → ExtGrown basis p q → AllZip (BaseMeans r basis p) xs ts → AllZip (BaseMeans r basis q) xs ts
base_mean_still r basis p q xs ts g h =
    AllZip-weaker (BaseMeans r basis p) (BaseMeans r basis q) (λ x t m. (ext_keeps_base r basis).base_means_stays p q x t g m) xs ts h

-- what elements of the base pool mean, seen from that pool
pub seen_from_base : {F EF : Type 0} (r : CommRing F) (basis : Basis F EF) (p : ExtNodes F EF) (xs : List ℕ) (ts : List (Term F))
    → AllZip (BaseMeans r basis p) xs ts → AllZip (PoolMeans base_reads r p.base) xs ts
seen_from_base r basis p xs ts h = AllZip-weaker (BaseMeans r basis p) (PoolMeans base_reads r p.base) (λ x t m. m.base) xs ts h

-- and seen from the pool over it
pub base_meant : {F EF : Type 0} (r : CommRing F) (basis : Basis F EF) (p : ExtNodes F EF) (xs : List ℕ) (ts : List (Term F))
    → IsPool (ext_reads basis) p → AllZip (PoolMeans base_reads r p.base) xs ts → AllZip (BaseMeans r basis p) xs ts
base_meant r basis p xs ts is h = AllZip-weaker (PoolMeans base_reads r p.base) (BaseMeans r basis p) (λ x t m. record { pool = is; base = m }) xs ts h

-- each step has one term
terms_after-length : {F S : Type 0} (term : (ℕ → Term F) → S → Term F) (before : List (Term F)) (ss : List S)
    → length (terms_after term before ss) ≡ length before + length ss
terms_after-length term before [] = omega arith
terms_after-length term before (s ∷ ss) =
    let more = terms_after-length term (before ++ term (term_at before) s ∷ []) ss in
    let one = length-append before (term (term_at before) s ∷ []) in
    omega (arith, more, one)

pub terms-length : {F S : Type 0} (term : (ℕ → Term F) → S → Term F) (ss : List S) → length (terms_after term [] ss) ≡ length ss
terms-length term ss = let all = terms_after-length term [] ss in omega (arith, all)

-- a term under one lifted condition more
under_lifted-push : {F : Type 0} (at : ℕ → Term F) (cs : List Factor) (c : Factor) (t : Term F)
    → under_lifted at (cs ++ c ∷ []) t ≡ mul_term (under_lifted at cs t) (factor_term at c)
under_lifted-push at [] c t = refl
under_lifted-push at (b ∷ cs) c t = under_lifted-push at cs c (mul_term t (factor_term at b))

pub under_lifted-more : {F : Type 0} (at : ℕ → Term F) (cs : List Factor) (i : ℕ) (t : Term F) → i < length cs
    → under_lifted at (take (i + 1) cs) t ≡ mul_term (under_lifted at (take i cs) t) (factor_term at (get_or cs i FirstRow))
under_lifted-more at cs i t lt =
    ap (λ v. under_lifted at v t) (take_more cs i FirstRow lt) ∙ under_lifted-push at (take i cs) (get_or cs i FirstRow) t

-- a power times the term once more
pub power_term-more : {F : Type 0} (one : F) (t : Term F) (k : ℕ) → 1 ≤ k → power_term one t (k + 1) ≡ mul_term (power_term one t k) t
power_term-more one t zero le = absurd (omega (arith, le))
power_term-more one t (suc k) le = let next : suc k + 1 ≡ suc (suc k) = omega arith in ap (power_term one t) next
