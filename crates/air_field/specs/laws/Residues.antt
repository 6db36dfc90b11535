-- Arithmetic of residues: equal ones are the same number of the field, and sums and products keep the laws of a ring.
use Rattle.std.specs.Prelude.{◌≡◌, ℕ, ◌+◌, ◌*◌, ◌-◌, ◌%◌, ◌<◌, ◌≤◌}
use Rattle.std.proofs.Common.{sym, ◌∙◌, ap, subst, arith, mod-lt, mod-eq_of_lt}
use Rattle.std.proofs.lemmas.Nat.{mul-mod_first, mul-mod_second}
use Rattle.std.proofs.Math.Nat.{add_comm, add-zero, mul_comm, mul-one, mod-add-mod, add-mod-mod, mod_self, zero-mod, mod-eq-sub-mod}
use Rattle.std.specs.Coded.{le_prop}
use Rattle.air_field.specs.declared.fields.modulus.Modulus.{Ghosts}
use Rattle.air_field.specs.declared.fields.residue.Residue.{Residue}
use mathlib.Core.HLevel.{is_prop→PathP}

-- two elements are equal if their values are
pub same_value : {M : Type 0} {m : Ghosts M} (a b : Residue M m) → a.residue ≡ b.residue → a ≡ b
same_value {m = m} a b p = λ i. record { residue = p i; modulus = record {}; reduced = is_prop→PathP (λ j. p j < m.P) (λ j. le_prop) a.reduced b.reduced i }

pub class_bound : {M : Type 0} (m : Ghosts M) (n : ℕ) → n % m.P < m.P
class_bound m n = mod-lt n (let least : 2 ≤ m.P = m.is_prime.least in omega (arith, least))

pub add_assoc_at : (p x y z : ℕ) → ((x + y) % p + z) % p ≡ (x + (y + z) % p) % p
add_assoc_at p x y z = mod-add-mod (x + y) p z ∙ (ap (λ s. s % p) (omega arith) ∙ sym (add-mod-mod x (y + z) p))

pub mul_assoc_at : (p x y z : ℕ) → ((x * y) % p * z) % p ≡ (x * ((y * z) % p)) % p
mul_assoc_at p x y z = mul-mod_first (x * y) z p ∙ (ap (λ s. s % p) (omega arith) ∙ sym (mul-mod_second x (y * z) p))

pub mul_add_at : (p x y z : ℕ) → (x * ((y + z) % p)) % p ≡ ((x * y) % p + (x * z) % p) % p
mul_add_at p x y z =
    mul-mod_second x (y + z) p
    ∙ (ap (λ s. s % p) (omega arith)
    ∙ (sym (mod-add-mod (x * y) p (x * z)) ∙ sym (add-mod-mod ((x * y) % p) (x * z) p)))

pub add_neg_at : (p x : ℕ) → x < p → (x + (p - x) % p) % p ≡ 0 % p
add_neg_at p x h = add-mod-mod x (p - x) p ∙ (ap (λ s. s % p) (omega arith) ∙ (mod_self p ∙ sym (zero-mod p)))

pub add_comm_at : (p x y : ℕ) → (x + y) % p ≡ (y + x) % p
add_comm_at p x y = ap (λ s. s % p) (add_comm x y)

pub add_nil_at : (p x : ℕ) → x < p → (x + 0 % p) % p ≡ x
add_nil_at p x h = add-mod-mod x 0 p ∙ (ap (λ s. s % p) (add-zero x) ∙ mod-eq_of_lt h)

pub mul_comm_at : (p x y : ℕ) → (x * y) % p ≡ (y * x) % p
mul_comm_at p x y = ap (λ s. s % p) (mul_comm x y)

pub mul_one_at : (p x : ℕ) → x < p → (x * (1 % p)) % p ≡ x
mul_one_at p x h = mul-mod_second x 1 p ∙ (ap (λ s. s % p) (mul-one x) ∙ mod-eq_of_lt h)

-- a number below the modulus, or below twice it, where q is the modulus as it was read
pub none_taken : (p q n r : ℕ) → q ≡ p → n < q → r ≡ n → r ≡ n % p
none_taken p q n r same h e = e ∙ sym (mod-eq_of_lt (subst (λ x. n < x) same h))

less_once : (p n : ℕ) → p ≤ n → n < p + p → n - p ≡ n % p
less_once p n low high =
    let rest : n - p < p = omega (arith, low, high) in
    sym (mod-eq-sub-mod low ∙ mod-eq_of_lt rest)

pub one_taken : (p q n r : ℕ) → q ≡ p → q ≤ n → n < p + p → r ≡ n - q → r ≡ n % p
one_taken p q n r same low high e = e ∙ (ap (λ x. n - x) same ∙ less_once p n (subst (λ x. x ≤ n) same low) high)
