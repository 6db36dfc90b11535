-- Lists of field elements as they are written.
use Rattle.std.proofs.Common.{◌≡◌, ℕ, ◌≤◌, List, [], ◌∷◌, length, map, take, refl, ap, ◌∙◌, arith}
use Rattle.std.proofs.lemmas.Grind.{common_steps}
use Rattle.serde_json.specs.Data.{Data, array, item}
use Rattle.serde_json.specs.View.{items_of}
use Rattle.air_field.specs.Modular.{Modular}
use Rattle.air_json.specs.Spelling.{number_data}
use Rattle.air_json.specs.Coefficients.{number_items}

module _ {F : Type 0} {p : ℕ} (m : Modular F p) where
  number_items_is : (cs : List F) → items_of (map (λ c. number_data (m.value c)) cs) ≡ number_items m cs
  number_items_is [] = refl
  number_items_is (c ∷ cs) = ap (item (number_data (m.value c))) (number_items_is cs)

  -- the list of all elements, at the end of the loop
  pub all_elements : (ds : List Data) (cs : List F) (i : ℕ) → length cs ≤ i → ds ≡ map (λ c. number_data (m.value c)) (take i cs) → array (items_of ds) ≡ array (number_items m cs)
  all_elements ds cs i le is =
      let whole : take i cs ≡ cs = grind (arith, common_steps) in
      ap (λ (es : List Data). array (items_of es)) (is ∙ ap (map (λ (c : F). number_data (m.value c))) whole) ∙ ap (λ x. array x) (number_items_is cs)
