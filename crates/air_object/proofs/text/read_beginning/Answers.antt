use Rattle.std.proofs.Common.{◌≡◌, ◌-◌, [], ◌∷◌, length, ap, ap₂, ◌∙◌, arith}
use Rattle.json.specs.Json.{items, value}
use Rattle.json.specs.Reads.{token_of}
use Rattle.json.proofs.Grammar.{value_is, value-begin_array}
use Rattle.serde_json.specs.Read.{of_json, converted}
use Rattle.air_object.proofs.TokenLemmas.{converted-array}
use Rattle.air_object.proofs.text.read_beginning.Goals as goal

pub returns-in_err-token-clause-err : goal.returns-in_err-token-clause-err
returns-in_err-token-clause-err c refused =
    let empty : c.args.reader.now ≡ [] = grind arith in
    ap (converted of_json) (ap (value c.args.depth) empty ∙ value_is c.args.depth [])

pub returns-then-depth-eq0-clause-err : goal.returns-then-depth-eq0-clause-err
unfolding value
returns-then-depth-eq0-clause-err c never =
    let first : c.args.reader.now ≡ token_of c.in_ok-token.token ∷ c.next.new.self = grind arith in
    let none : c.args.depth ≡ 0 = omega arith in
    ap (converted of_json) (ap₂ value none (first ∙ ap (λ k. token_of k ∷ c.next.new.self) c.in-BeginArray.is))

pub returns-in-BeginArray-clause-ok : goal.returns-in-BeginArray-clause-ok
returns-in-BeginArray-clause-ok c =
    let first : c.args.reader.now ≡ token_of c.in_ok-token.token ∷ c.next.new.self = grind arith in
    ap (converted of_json) (ap (value c.args.depth) (first ∙ ap (λ k. token_of k ∷ c.next.new.self) c.in-BeginArray.is) ∙ value-begin_array c.args.depth c.next.new.self (omega arith)) ∙ converted-array (items (value (c.args.depth - 1)) (length c.next.new.self) c.next.new.self)
