use Rattle.std.proofs.Common.{◌≡◌, ◌∷◌, [], sym, ap, ◌∙◌, option_map, arith}
use Rattle.json.specs.Reads.{token_of}
use Rattle.serde_json.specs.Data.{Num, number}
use Rattle.serde_json.specs.View.{number_view}
use Rattle.mk_json.specs.Tokens.{next_value}
use Rattle.mk_json.proofs.Turns.{refused, no_value_first, number_first, begun}
use Rattle.mk_json.proofs.OtherKinds.{no_integer}
use Rattle.mk_json.proofs.tokens.next_integer.Goals as goal

pub returns-in_err-token : goal.returns-in_err-token
returns-in_err-token c =
    let empty : c.args.reader.now ≡ [] = grind arith in
    refused _ _ _ _ _ c.from_residual.ensures.0 (ap (next_value c.args.depth) empty ∙ (no_value_first c.args.depth []).0)

pub returns-in-Some : goal.returns-in-Some
returns-in-Some c =
    let first : c.args.reader.now ≡ token_of c.in_ok-token.token ∷ c.next.new.self = grind arith in
    let rest = c.next.new.self in
    let n = number_view c.in-Some.number in
    let found = number_first c.args.depth c.in-Number.text.now rest ∙ ap (option_map (λ (m : Num). (number m, rest))) (sym c.in-Some.ensures) in
    (number n, ap (next_value c.args.depth) (first ∙ ap (λ k. token_of k ∷ rest) c.in-Number.is) ∙ found, c.as_i128.ensures)

pub returns-in-None : goal.returns-in-None
returns-in-None c =
    let first : c.args.reader.now ≡ token_of c.in_ok-token.token ∷ c.next.new.self = grind arith in
    let rest = c.next.new.self in
    let found = number_first c.args.depth c.in-Number.text.now rest ∙ ap (option_map (λ (m : Num). (number m, rest))) (sym c.in-None.ensures) in
    ap (next_value c.args.depth) (first ∙ ap (λ k. token_of k ∷ rest) c.in-Number.is) ∙ found

pub returns-in_ok-skip_rest-in_default : goal.returns-in_ok-skip_rest-in_default
returns-in_ok-skip_rest-in_default c =
    let first : c.args.reader.now ≡ token_of c.in_ok-token.token ∷ c.next.new.self = grind arith in
    let passed = c.in_ok-skip_rest-in_default.ensures in
    let is = begun c.args.depth (token_of c.in_ok-token.token) c.next.new.self c.skip_rest.new.reader passed.0 passed.1 in
    (passed.0, ap (next_value c.args.depth) first ∙ passed.1, no_integer c.in_ok-token.token passed.0 is c.in_default.not-Number)
