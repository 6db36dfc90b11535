-- The words that the program knows.
use Rattle.std.specs.Prelude.{Bool, true, false, ◌&&◌, nat_lt, ◌^◌, length, ℕ, List, [], ◌∷◌, codes, bytes_eq, ◌==◌, drop, if◌then◌else◌, Option, Some, None, option_map, option_and_then}
use Rattle.std.specs.List.{starts_with}
use Rattle.std.specs.Str.{all_ascii_digits}
use Rattle.std.specs.Str.Parse.{digits_value}
use Rattle.air_program.specs.declared.commands.Command.{Command}
use Rattle.air_program.specs.declared.commands.Request.{Request}
use Rattle.air_program.specs.declared.commands.Command.TheVariants as commands
use Rattle.air_program.specs.declared.commands.Request.TheVariants as requests
use Rattle.air_program.specs.declared.commands.Wanted.TheVariants as wanted

-- the AIR that the first word names
abbrev pub command_of : List ℕ → Option Command
command_of word =
    if bytes_eq word (codes "fibonacci") then Some commands.Fibonacci else
    if bytes_eq word (codes "named") then Some commands.Named else None

-- one or more decimal digits whose value fits `usize`
abbrev pub is_cap : List ℕ → Bool
is_cap word = nat_lt 0 (length word) && (all_ascii_digits word && nat_lt (digits_value 10 word) (2 ^ 64))

-- the value of a cap's digits
abbrev pub cap_of : List ℕ → Option ℕ
cap_of word = if is_cap word then Some (digits_value 10 word) else None

-- the value of the digits after `w=`, if they form a cap
abbrev pub weight_of : List ℕ → Option ℕ
weight_of word =
    if starts_with (λ a b. a == b) word (codes "w=") then cap_of (drop 2 word) else None

-- an audit of the command's AIR on a trace, under the cap if there is one, in a domain of weight w
abbrev pub trace : Option ℕ → ℕ → Command → Request
trace cap w command = requests.Trace (record { command = command; cap = cap; transition_weight = w })

-- a command and one word: a weight and no cap, or else a cap and the weight 0
abbrev pub setting_of : Command → List ℕ → Option ℕ → Option Request
setting_of command word None = option_map (λ n. trace (Some n) 0 command) (cap_of word)
setting_of command word (Some w) = Some (trace None w command)

-- a command and two words: a cap, then a weight
abbrev pub settings_of : Command → List ℕ → List ℕ → Option Request
settings_of command cap weight =
    option_and_then
    (λ n. option_map (λ w. trace (Some n) w command) (weight_of weight)) (cap_of cap)

-- the request of a single word
abbrev pub word_request : List ℕ → Option Request
word_request word =
    if bytes_eq word (codes "flat") then Some (requests.Object wanted.Audit) else
    if bytes_eq word (codes "show") then Some (requests.Object wanted.Show) else
    if bytes_eq word (codes "explain") then Some (requests.Object wanted.Explain) else
    option_map (trace None 0) (command_of word)

-- a single word, or a command followed by a cap, a weight or both
abbrev pub request_of : List (List ℕ) → Option Request
request_of [] = None
request_of (word ∷ []) = word_request word
request_of (word ∷ setting ∷ []) =
    option_and_then (λ command. setting_of command setting (weight_of setting)) (command_of word)
request_of (word ∷ cap ∷ weight ∷ []) =
    option_and_then (λ command. settings_of command cap weight) (command_of word)
request_of (word ∷ cap ∷ weight ∷ more ∷ words) = None

-- whether the command labels the assertions
abbrev pub has_labels : Command → Bool
has_labels commands.Fibonacci = false
has_labels commands.Named = true
