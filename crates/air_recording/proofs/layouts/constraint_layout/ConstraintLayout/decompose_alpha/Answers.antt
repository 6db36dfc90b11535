use Rattle.std.proofs.Common.{◌≡◌, ℕ, ◌<◌, All, map, ap, ◌∙◌, subst, arith}
use Rattle.air_recording.specs.AlphaPowers.{alpha_powers_at, all_coordinates_of}
use Rattle.air_recording.specs.Layouts.{constraint_count, constraint_indices}
use Rattle.air_recording.proofs.FoldLaws.{recombines}
use Rattle.air_recording.specs.laws.Layouts.{below-none_past}
use Rattle.air_recording.proofs.WeightLaws.{below-powers, picked-weights, All-left, All-right}
use Rattle.air_recording.proofs.layouts.constraint_layout.ConstraintLayout.decompose_alpha.Goals as goal

pub powers_at-requires : goal.powers_at-requires
powers_at-requires g c =
    let l = c.args.self.now in
    let total = c.total_constraints-total.result in
    let within : All (λ i. i < total) (constraint_indices l) = below-none_past total (constraint_indices l) c.in_default.ensures in
    below-powers g.EF.ExtensionField.over.ring c.args.alpha total c.deref.result.now c.in_ok-powers.powers.items c.deref-2.result.now l.base_indices.items c.deref.ensures.value c.in_ok-powers.ensures.powers c.deref-2.ensures.value (All-left (λ i. i < total) l.base_indices.items l.ext_indices.items within)

pub powers_at-requires-2 : goal.powers_at-requires-2
powers_at-requires-2 g c =
    let l = c.args.self.now in
    let total = c.total_constraints-total.result in
    let within : All (λ i. i < total) (constraint_indices l) = below-none_past total (constraint_indices l) c.in_default.ensures in
    below-powers g.EF.ExtensionField.over.ring c.args.alpha total c.deref-3.result.now c.in_ok-powers.powers.items c.deref-4.result.now l.ext_indices.items c.deref-3.ensures.value c.in_ok-powers.ensures.powers c.deref-4.ensures.value (All-right (λ i. i < total) l.base_indices.items l.ext_indices.items within)

pub returns : goal.returns
returns g c =
    let l = c.args.self.now in
    let r = g.EF.ExtensionField.over.ring in
    let total = c.total_constraints-total.result in
    let within : All (λ i. i < total) (constraint_indices l) = below-none_past total (constraint_indices l) c.in_default.ensures in
    let base : c.in_ok-base.base.items ≡ alpha_powers_at r c.args.alpha (constraint_count l) l.base_indices.items =
    picked-weights r c.args.alpha total (constraint_count l) c.deref.result.now c.in_ok-powers.powers.items c.deref-2.result.now l.base_indices.items c.in_ok-base.base.items c.deref.ensures.value c.in_ok-powers.ensures.powers c.deref-2.ensures.value c.total_constraints-total.ensures (All-left (λ i. i < total) l.base_indices.items l.ext_indices.items within) c.in_ok-base.ensures in
    let whole : c.in_ok-whole.whole.items ≡ alpha_powers_at r c.args.alpha (constraint_count l) l.ext_indices.items =
    picked-weights r c.args.alpha total (constraint_count l) c.deref-3.result.now c.in_ok-powers.powers.items c.deref-4.result.now l.ext_indices.items c.in_ok-whole.whole.items c.deref-3.ensures.value c.in_ok-powers.ensures.powers c.deref-4.ensures.value c.total_constraints-total.ensures (All-right (λ i. i < total) l.base_indices.items l.ext_indices.items within) c.in_ok-whole.ensures in
    let lists : map (λ v. v.items) c.in_ok-coordinates.coordinates.items ≡ all_coordinates_of g.F.Field.ring g.EF.ExtensionField.basis (alpha_powers_at r c.args.alpha (constraint_count l) l.base_indices.items) g.EF.ExtensionField.DIMENSION =
    c.in_ok-coordinates.ensures.coordinates
    ∙ ap (λ ws. all_coordinates_of g.F.Field.ring g.EF.ExtensionField.basis ws g.EF.ExtensionField.DIMENSION) (c.deref-5.ensures.value ∙ base) in
    record {
      coordinates = lists;
      powers = whole;
      within = record { fits = omega arith; below = subst (λ (m : ℕ). All (λ i. i < m) (constraint_indices l)) c.total_constraints-total.ensures within };
      fold = recombines g.F.Field.ring g.EF.ExtensionField.over g.EF.ExtensionField.basis g.EF.ExtensionField.DIMENSION g.met.EF.ExtensionField.laws c.args.alpha (constraint_count l) l.base_indices.items l.ext_indices.items (map (λ v. v.items) c.in_ok-coordinates.coordinates.items) c.in_ok-whole.whole.items (omega arith) lists whole;
      refused = tt;
    }
