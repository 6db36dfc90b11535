use Rattle.std.proofs.Common.{◌≡◌, ℕ, ◌≤◌, length}
use Rattle.json.specs.Json.{members, value}
use Rattle.serde_json.specs.Data.{Members, no_members}
use Rattle.serde_json.specs.Read.{of_members, converted}
use Rattle.serde_json.specs.View.{members_view}
use Rattle.air_object.specs.Parts.{AreMembersOf}
use Rattle.air_object.proofs.parts.read_apart.Given as goal

abbrev pub decreases-members : goal.decreases-members
decreases-members g l = length l.reader

-- the members read so far and the remaining ones are all members
abbrev pub invariant-members : goal.invariant-members
invariant-members g l =
    (n : ℕ) × (length l.reader ≤ n) × (ms : Members)
    × (converted (λ xs. of_members xs no_members) (members (value l.depth) (length l.initial.reader) l.initial.reader) ≡ converted (λ xs. of_members xs ms) (members (value l.depth) n l.reader))
    × (length l.reader ≤ length l.initial.reader)
    × AreMembersOf g.F.PrimeField64.residues ms (members_view l.rest.entries) l.main l.constraints
