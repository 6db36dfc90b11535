-- Lookups in a table, one on each row.
use Rattle.std.specs.Prelude.{◌≡◌, ◌≢◌, ◌↔◌, ◌*◌, ◌≤◌, ℕ, zero, suc, List, [], ◌∷◌, ◌++◌, Bool, true, refl}
use Rattle.std.proofs.Common.{subst, sym, ap, ap₂, ◌∙◌, arith}
use Rattle.air_field.specs.Ring.{CommRing, AlgebraOver, AlgebraOverLaws}
use Rattle.air_field.specs.Term.{Term}
use Rattle.air_field.specs.laws.Images.{HasCharacteristic}
use Rattle.air_field.specs.laws.Sums.{embed_neg}
use Rattle.air_report.specs.Instances.{Instance, row_count}
use Rattle.air_lookup.specs.Balance.{Entry, total, others}
use Rattle.air_lookup.specs.Theorem.{trace_entries, table_lookup, on_row, FewChallengesPass, TablesAreSound}
use Rattle.air_lookup.specs.laws.RowLookups.{row_entries, others_most, total_some}

module _ {F E : Type 0} (r : CommRing F) (a : AlgebraOver F E) (laws : AlgebraOverLaws r a) where
  entry : E → E → Entry E
  entry m n = record { value = m; multiplicity = n }

  row_list : E → E → E → E → List (Entry E)
  row_list m looked_up offered multiplicity = entry looked_up m ∷ entry offered multiplicity ∷ []

  abbrev over : Instance F → Term F → ℕ → E
  over g t i = a.embed (on_row r g i t)

  rows_are : (g : Instance F) (looked_up offered multiplicity : Term F) (n : ℕ)
      → trace_entries r a g (table_lookup r looked_up offered multiplicity) n ≡ row_entries a.ring (over g looked_up) (over g offered) (over g multiplicity) n
  unfolding entry row_list
  rows_are g looked_up offered multiplicity zero = refl
  rows_are g looked_up offered multiplicity (suc n) =
      ap₂ (λ es fs. es ++ fs) (rows_are g looked_up offered multiplicity n)
      (ap (λ m. row_list m (over g looked_up n) (over g offered n) (over g multiplicity n)) (embed_neg r a laws r.one ∙ ap a.ring.neg laws.embed_one))

  module _ (eq : F → F → Bool) (ext_eq : E → E → Bool) (decides : (x y : E) → (ext_eq x y ≡ true) ↔ (x ≡ y))
      (same_in : (x y : F) → a.embed x ≡ a.embed y → x ≡ y) (p : ℕ) (has : HasCharacteristic a.ring p) where
    pub tables_are_sound : FewChallengesPass r a eq ext_eq → TablesAreSound r a eq ext_eq p
    tables_are_sound few g at looked_up offered multiplicity base_value base_entry base_multiplicity declared row lt short away alphas distinct all =
        let xs = table_lookup r looked_up offered multiplicity in
        let n = row_count g in
        let v : E = over g looked_up row in
        let rows = row_entries a.ring (over g looked_up) (over g offered) (over g multiplicity) n in
        let is : trace_entries r a g xs n ≡ rows = rows_are g looked_up offered multiplicity n in
        let some : total a.ring ext_eq v rows ≢ a.ring.zero =
        total_some a.ring (over g looked_up) (over g offered) (over g multiplicity) ext_eq decides v p has row n lt short refl
        (λ k below same. away k below (same_in _ _ same)) in
        let most : others ext_eq v (trace_entries r a g xs n) ≤ 2 * n =
        subst (λ es. others ext_eq v es ≤ 2 * n) (sym is)
        (others_most a.ring (over g looked_up) (over g offered) (over g multiplicity) ext_eq decides v n) in
        let passing = few g at xs (base_value, tt, (base_entry, base_multiplicity, tt)) declared v (λ z. some (ap (total a.ring ext_eq v) (sym is) ∙ z))
        alphas distinct all in
        omega (arith, most, passing)
