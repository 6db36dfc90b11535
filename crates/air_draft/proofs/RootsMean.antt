-- What roots of either kind mean, and which assertions are of base terms.
use Rattle.std.specs.List.{AllZip}
use Rattle.std.proofs.Common.{◌≡◌, ℕ, List, refl}
use Rattle.air_field.specs.Ring.{CommRing, AlgebraOver}
use Rattle.air_field.specs.Extension.{Basis, ExtensionLaws}
use Rattle.air_field.specs.Term.{Term}
use Rattle.air_builder.specs.Assertion.{Assertion, Base, Extension}
use Rattle.air_builder.specs.laws.Zips.{AllZip-weaker}
use Rattle.air_symbolic.specs.BaseLeaves.{base_reads, base_grows}
use Rattle.air_symbolic.specs.ExtPool.{ExtNodes, ExtGrown}
use Rattle.air_symbolic.specs.laws.BaseLeaves.{base_leaf_laws}
use Rattle.air_symbolic.specs.laws.ExtPool.{ext_pool_laws}
use Rattle.air_symbolic.specs.laws.Pools.{pool_laws}
use Rattle.air_audit.specs.declared.flat.root.Root.{Root}
use Rattle.air_audit.specs.declared.flat.root.Root.TheVariants as root
use Rattle.air_draft.specs.DraftTerms.{claimed_term, under_conditions}
use Rattle.air_draft.specs.ExtDraftTerms.{claimed_assertion}
use Rattle.air_draft.specs.ExtRoots.{RootMeans}
use Rattle.air_draft.specs.declared.claim.Factor.{Factor}
use Rattle.air_draft.specs.declared.claim.Claimed.{Claimed}
use Rattle.air_draft.specs.declared.claim.Claimed.TheVariants as claimed
use Rattle.air_draft.specs.declared.claim.ExtClaimed.{ExtClaimed}

-- what isn't claimed over the extension is asserted of base terms
pub base_asserted : {F : Type 0} (one : F) (base at : ℕ → Term F) (factors : List Factor) (c : Claimed) → ((x : ExtClaimed) → c ≡ claimed.Extension x → ⊥)
    → claimed_assertion one base at factors c ≡ Base (under_conditions base factors (claimed_term one base c))
base_asserted one base at factors (claimed.Zero x) not = refl
base_asserted one base at factors (claimed.One x) not = refl
base_asserted one base at factors (claimed.Bool x) not = refl
base_asserted one base at factors (claimed.Equal x y) not = refl
base_asserted one base at factors (claimed.Extension x) not = absurd (not x refl)

-- a root keeps what it means
module _ {F EF : Type 0} {r : CommRing F} {over : AlgebraOver F EF} {basis : Basis F EF} {n : ℕ} (laws : ExtensionLaws r over basis n) where
  root_means_still : (p q : ExtNodes F EF) (x : Root F EF) (a : Assertion F) → ExtGrown basis p q → RootMeans r basis p x a → RootMeans r basis q x a
  root_means_still p q (root.Base i) (Base t) g h = (pool_laws r base_reads base_grows tt (base_leaf_laws r)).means_stays p.base q.base i t g.base h
  root_means_still p q (root.Base i) (Extension t) g h = absurd h
  root_means_still p q (root.Extension i) (Base t) g h = absurd h
  root_means_still p q (root.Extension i) (Extension t) g h = (ext_pool_laws laws).means_stays p q i t g h

  pub roots_mean_still : (p q : ExtNodes F EF) (xs : List (Root F EF)) (us : List (Assertion F)) → ExtGrown basis p q
      → AllZip (RootMeans r basis p) xs us → AllZip (RootMeans r basis q) xs us
  roots_mean_still p q xs us g h = AllZip-weaker (RootMeans r basis p) (RootMeans r basis q) (λ x a m. root_means_still p q x a g m) xs us h
