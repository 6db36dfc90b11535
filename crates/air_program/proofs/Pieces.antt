-- Lines and fields, one after another.
use Rattle.std.proofs.Common.{◌≡◌, ℕ, Bool, true, false, eqb, ltb, cond, List, [], ◌∷◌, length, filter, refl, ap, ◌∙◌, rules, tests}
use Rattle.std.proofs.lemmas.Bool.{lt-ltb}
use Rattle.std.specs.List.{slice_split, onto_first}
use Rattle.std.specs.Str.Lines.{lines, lines_of_parts, strip_carriage_return}
use Rattle.air_program.specs.Grammar.{fields_of, has_some}

-- ---- lines

onto_some : (b : ℕ) (parts : List (List ℕ)) → (p : List ℕ) × (ps : List (List ℕ)) × (onto_first b parts ≡ p ∷ ps)
onto_some b [] = (b ∷ [], [], refl)
onto_some b (p ∷ ps) = (b ∷ p, ps, refl)

either_some : (t : Bool) (b : ℕ) (parts : List (List ℕ)) → (p : List ℕ) × (ps : List (List ℕ)) × (cond t ([] ∷ parts) (onto_first b parts) ≡ p ∷ ps)
either_some true b parts = ([], parts, refl)
either_some false b parts = onto_some b parts

some_part : (p : ℕ → Bool) (bytes : List ℕ) → (part : List ℕ) × (parts : List (List ℕ)) × (slice_split p bytes ≡ part ∷ parts)
some_part p [] = ([], [], refl)
some_part p (b ∷ bs) = either_some (p b) b (slice_split p bs)

pub ended_line : (bytes line rest : List ℕ) → slice_split (λ b. eqb b 10) bytes ≡ line ∷ slice_split (λ b. eqb b 10) rest → lines bytes ≡ strip_carriage_return line ∷ lines rest
ended_line bytes line rest e =
    let s = some_part (λ b. eqb b 10) rest in
    ap lines_of_parts e ∙ rw s.2 refl

-- ---- fields

pub empty_field : (bytes field rest : List ℕ) → slice_split (λ b. eqb b 32) bytes ≡ field ∷ slice_split (λ b. eqb b 32) rest → length field ≡ 0 → fields_of bytes ≡ fields_of rest
unfolding fields_of
empty_field bytes field rest e empty = ap (filter has_some) e ∙ rw empty refl

pub some_field : (bytes field : List ℕ) (parts : List (List ℕ)) → slice_split (λ b. eqb b 32) bytes ≡ field ∷ parts → false ≡ eqb (length field) 0 → fields_of bytes ≡ field ∷ filter has_some parts
unfolding fields_of
some_field bytes field parts e some =
    let at : ltb 0 (length field) ≡ true = lt-ltb _ _ (search (rules, tests)) in
    ap (filter has_some) e ∙ rw at refl
