use Rattle.std.proofs.Common.{◌≡◌, ℕ, ◌+◌, ◌-◌, ◌<◌, List, [], ◌∷◌, ◌++◌, length, map, take, get_or, sym, ap₂, ◌∙◌, arith}
use Rattle.std.proofs.lemmas.List.{get_or_read, map_more}
use Rattle.std.proofs.lemmas.Grind.{common_steps}
use Rattle.air_recording.proofs.layouts.constraint_layout.powers_at.Goals as goal

-- one more power
picked_more : {T : Type 0} (powers : List T) (indices : List ℕ) (picked more : List T) (i : ℕ) (x d : T) → more ≡ picked ++ x ∷ [] → i < length indices → get_or indices i 0 < length powers → x ≡ get_or powers (length powers - 1 - get_or indices i 0) x → picked ≡ map (λ j. get_or powers (length powers - 1 - j) d) (take i indices) → more ≡ map (λ j. get_or powers (length powers - 1 - j) d) (take (i + 1) indices)
picked_more powers indices picked more i x d pushed in_indices in_powers read before =
    pushed
    ∙ (ap₂ (λ l y. l ++ y ∷ []) before (get_or_read powers (length powers - 1 - get_or indices i 0) x (omega arith) read d)
    ∙ sym (map_more (λ j. get_or powers (length powers - 1 - j) d) indices i 0 in_indices))

pub loop-index-preserved : goal.loop-index-preserved
loop-index-preserved g c d =
    let lt : c.loop-index.index-index < length c.args.indices.now = omega arith in
    picked_more c.args.powers.now c.args.indices.now c.loop-index.picked.items c.push.new.self.items c.loop-index.index-index c.index-powers-place.result d c.in_ok-push.ensures.items lt (c.requires c.loop-index.index-index 0 lt) c.index-powers-place.is (c.loop-index.invariant d)

pub returns : goal.returns
returns g c d = grind (arith, common_steps, c.loop-index.invariant d)
