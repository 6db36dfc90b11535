-- Boundary values: reading answers exactly the one that is spelt, and the written value is one spelling.
use Rattle.std.specs.Prelude.{◌≡◌, Some, option_and_then, codes, refl}
use Rattle.std.proofs.Common.{ap, ◌∙◌}
use Rattle.serde_json.specs.Data.{Data, string}
use Rattle.serde_json.specs.Find.{get, as_str}
use Rattle.air_json.specs.Parts.{whole_at, find_name}
use Rattle.air_json.specs.Plain.{PlainLaws}
use Rattle.air_json.specs.laws.Readings.{three_found, then_found, field_again, field_with, field_found, field_read, name_found, text_found}
use Rattle.air_json.specs.Boundaries.{end_data, SpellsEnd, SpellsCell, bare_ends, end_of, end_plain, cell_at, cell_of, cell_plain}
use Rattle.air_core.specs.declared.boundary.BoundaryEnd.{BoundaryEnd}
use Rattle.air_core.specs.declared.boundary.BoundaryEnd.TheVariants as ends
use Rattle.air_core.specs.declared.boundary.BoundaryPublic.{BoundaryPublic}

end_read : (e : BoundaryEnd) → end_of (end_data e) ≡ Some e
unfolding end_of
end_read ends.First = refl
end_read ends.Last = refl

end_found : (d : Data) (e : BoundaryEnd) → end_of d ≡ Some e → SpellsEnd d e
unfolding end_of
end_found d e h =
    then_found (SpellsEnd d e) (find_name bare_ends) (as_str d) e h
    (λ s is at. text_found d s is ∙ name_found (λ s e. string s ≡ end_data e) bare_ends s e at (refl, (refl, tt)))

pub end_laws : PlainLaws end_plain
end_laws = record { is_spelt = λ e. refl; found = end_found; again = λ d e h. ap end_of h ∙ end_read e }

-- ---- cells

cell_again : (d : Data) (p : BoundaryPublic) → SpellsCell d p → cell_of d ≡ Some p
unfolding cell_of
cell_again d p h =
    rw (
      field_read (codes "column") d p.column h.0,
      field_again SpellsEnd end_of end_laws.again (codes "end") d p.end h.1,
      field_read (codes "public_value") d p.public_value h.2,
    ) refl

cell_found : (d : Data) (p : BoundaryPublic) → cell_of d ≡ Some p → SpellsCell d p
unfolding cell_of
cell_found d p h =
    three_found (SpellsCell d) cell_at (whole_at (codes "column") d) (option_and_then end_of (get (codes "end") d)) (whole_at (codes "public_value") d) p h
    (λ c e v c_is e_is v_is. (
      field_found (codes "column") d c c_is,
      field_with SpellsEnd end_of end_found (codes "end") d e e_is,
      field_found (codes "public_value") d v v_is,
    ))

pub cell_laws : PlainLaws cell_plain
cell_laws = record { is_spelt = λ p. (refl, (end_data p.end, refl, refl), refl); found = cell_found; again = cell_again }
