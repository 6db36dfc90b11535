-- The answers of a reader that can't read a value.
use Rattle.std.proofs.Common.{◌≡◌, ◌≢◌, Option, Some, None, Result, Ok, Err, ap, ◌∙◌}
use Rattle.std.specs.Option.{ok_or}
use Rattle.std.specs.Result.{IfOk, IfErr}
use Rattle.air_json.specs.declared.errors.FlatError.{FlatError}
use Rattle.air_json.specs.declared.errors.FlatError.TheVariants.{Memory}

ok_or_found : {A : Type 0} (o : Option A) (f : FlatError) (x : A) → Ok x ≡ ok_or o f → o ≡ Some x
ok_or_found None f x e = absurd cc
ok_or_found (Some y) f x e = cc

nothing_there : {A : Type 0} (o : Option A) (f g : FlatError) (x : A) → Err g ≡ ok_or o f → o ≡ Some x → ⊥
nothing_there o f g x e h = absurd (cc (e ∙ ap (λ p. ok_or p f) h))

pub read_is : {A : Type 0} (P : A → Type 0) (o : Option A) (f : FlatError) (r : Result A FlatError) → r ≡ ok_or o f → ((x : A) → o ≡ Some x → P x) → IfOk r P
read_is P o f (Ok x) e h = h x (ok_or_found o f x e)
read_is P o f (Err g) e h = tt

pub nothing_is : {A : Type 0} (P : A → Type 0) (o : Option A) (f : FlatError) (r : Result A FlatError) → r ≡ ok_or o f → ((x : A) → P x → o ≡ Some x) → IfErr r (λ e. e ≢ Memory → (x : A) → P x → ⊥)
nothing_is P o f (Ok x) e h = tt
nothing_is P o f (Err g) e h = λ _ x p. nothing_there o f g x e (h x p)
