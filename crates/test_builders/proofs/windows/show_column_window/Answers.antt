use Rattle.std.proofs.Common.{◌≡◌, ◌∷◌, [], ap, refl}
use Rattle.air_field.specs.Grid.{grid_of}
use Rattle.test_builders.proofs.windows.show_column_window.Goals as goal

pub show_window-requires : goal.show_window-requires
show_window-requires c =
    let values : c.in_ok-values.values.items ≡ c.args.x ∷ c.args.y ∷ [] = c.in_ok-values.ensures.items in
    let made = rw values at c.in-Ok.ensures in
    let is : c.in-Ok.matrix ≡ grid_of 1 (c.args.x ∷ c.args.y ∷ []) = cc in
    (c.args.x ∷ [], c.args.y ∷ [], ap (λ m. m.rows) is, refl)
