use Rattle.std.proofs.Common.{◌≡◌, ◌∷◌, [], ap, ◌∙◌, refl, arith}
use Rattle.json.specs.Reads.{token_of}
use Rattle.serde_json.specs.Data.{string}
use Rattle.mk_json.specs.Tokens.{next_value}
use Rattle.mk_json.proofs.Turns.{refused, no_value_first, string_first, begun}
use Rattle.mk_json.proofs.OtherKinds.{no_text}
use Rattle.mk_json.proofs.tokens.next_text.Goals as goal

pub returns-in_err-token : goal.returns-in_err-token
returns-in_err-token c =
    let empty : c.args.reader.now ≡ [] = grind arith in
    refused _ _ _ _ _ c.from_residual.ensures.0 (ap (next_value c.args.depth) empty ∙ (no_value_first c.args.depth []).0)

pub returns-in-String : goal.returns-in-String
returns-in-String c =
    let first : c.args.reader.now ≡ token_of c.in_ok-token.token ∷ c.next.new.self = grind arith in
    let text = c.in-String.text.now in
    (string text, ap (next_value c.args.depth) (first ∙ ap (λ k. token_of k ∷ c.next.new.self) c.in-String.is) ∙ string_first c.args.depth text c.next.new.self, refl)

pub returns-in_ok-skip_rest-in_default : goal.returns-in_ok-skip_rest-in_default
returns-in_ok-skip_rest-in_default c =
    let first : c.args.reader.now ≡ token_of c.in_ok-token.token ∷ c.next.new.self = grind arith in
    let passed = c.in_ok-skip_rest-in_default.ensures in
    let is = begun c.args.depth (token_of c.in_ok-token.token) c.next.new.self c.skip_rest.new.reader passed.0 passed.1 in
    (passed.0, ap (next_value c.args.depth) first ∙ passed.1, no_text c.in_ok-token.token passed.0 is c.in_default.not-String)
