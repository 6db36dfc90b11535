use Rattle.std.proofs.Common.{rules, ◌≡◌, ◌⊎◌, ℕ, ◌+◌, ◌<◌, ◌%◌, List, length, get_or, sym, subst, ◌∙◌, arith, ⊎_elim}
use Rattle.std.proofs.lemmas.Grind.{common_steps}
use Rattle.std.proofs.lemmas.List.{get_or_default}
use Rattle.std.specs.Int.{IsPowerOfTwo}
use Rattle.air_core.specs.FirstOnes.{EachOfFirst}
use Rattle.air_report.specs.Shapes.{FitsHeight}
use Rattle.air_report.proofs.checks.shapes.check_shapes.Goals as goal
use Rattle.air_report.proofs.checks.shapes.check_shapes.Goals.{in-Some+else-preprocessed-height, in_default}

-- one more element has the property
each_more : {X : Type 0} (P : ℕ → X → Type 0) (xs : List X) (n : ℕ) (x : X) → n < length xs → x ≡ get_or xs n x → EachOfFirst P xs n → P n x → EachOfFirst P xs (n + 1)
each_more P xs n x lt is h p k b d =
    ⊎_elim
    (λ (below : k < n). h k below d)
    (λ (at : k ≡ n). subst (λ j. P j (get_or xs j d)) (sym at) (subst (P n) (is ∙ get_or_default xs n x d lt) p))
    (before_or_at k n b)
  where
    before_or_at : (i k : ℕ) → i < k + 1 → (i < k) ⊎ (i ≡ k)
    before_or_at i k b = grind (arith, b)

pub loop-index-preserved : goal.loop-index-preserved
loop-index-preserved g c =
    let column = c.index-columns-index.result in
    let long : c.len-length.result ≡ length column.items = search (rules, common_steps) in
    each_more (λ k v. IsPowerOfTwo (length v.items) × (c.args.height % length v.items ≡ 0)) c.args.columns.now c.loop-index.index column
    (omega (arith, c.loop-index-test.true)) c.index-columns-index.is c.loop-index.invariant
    (subst (λ n. IsPowerOfTwo n × (c.args.height % n ≡ 0)) long (c.is_power.ensures.0 c.if-not-is_power.false, c.if-height-length-ne0.false))

pub returns : goal.returns
returns g c =
    let fits : FitsHeight c.args.preprocessed c.args.height =
    elim c.match-preprocessed.branch [ in-Some+else-preprocessed-height w ↦ rw w.in-Some.is w.if-preprocessed-height.false | in_default w ↦ rw w.in_default.is tt ] in
    record { table_fits = fits; periods_fit = λ k lt. c.loop-index.invariant k (omega (arith, lt, c.loop-index-test.false)) }
