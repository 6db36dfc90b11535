use Rattle.std.proofs.Common.{◌≡◌, ◌-◌, ℕ, length, take, drop, List, arith, ◌∙◌}
use Rattle.std.proofs.lemmas.Grind.{common_steps}
use Rattle.std.proofs.Math.Seq.{take-add}
use Rattle.std.proofs.KnownBytes.{Appends-trans}
use Rattle.air_streams.proofs.whole.write_all.Goals as goal

whole : (xs : List ℕ) (i : ℕ) → take (length xs - i) (drop i xs) ≡ drop i xs
whole xs i = grind (arith, common_steps)

pub pieces-preserved : goal.pieces-preserved
pieces-preserved g c =
    let n = c.in_ok-done.field-0 in
    let xs = c.args.text.now in
    record {
      so_far = rw take-add (Appends-trans _ _ _ _ _ c.pieces.invariant.so_far (rw (whole xs c.pieces.done) at c.in_ok-done.ensures.bytes));
      inside = omega (arith, c.in_ok-done.ensures.bound);
      well = c.in_ok-done.ensures.ok ∙ c.pieces.invariant.well;
    }
