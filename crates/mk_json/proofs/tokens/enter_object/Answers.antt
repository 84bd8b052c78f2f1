use Rattle.std.proofs.Common.{◌≡◌, ◌<◌, ◌∷◌, [], ap, ap₂, ◌∙◌, arith}
use Rattle.json.specs.Reads.{token_of}
use Rattle.mk_json.specs.Tokens.{next_value}
use Rattle.mk_json.proofs.Turns.{refused_object, no_value_first, object_begun, not_deeper_object, begun}
use Rattle.mk_json.proofs.OtherKinds.{no_object}
use Rattle.mk_json.proofs.tokens.enter_object.Goals as goal

pub returns-in_err-token : goal.returns-in_err-token
returns-in_err-token c =
    let empty : c.args.reader.now ≡ [] = grind arith in
    refused_object _ _ _ _ c.from_residual.ensures.0 (ap (next_value c.args.depth) empty ∙ (no_value_first c.args.depth []).0)

pub returns-then-depth-eq0 : goal.returns-then-depth-eq0
returns-then-depth-eq0 c =
    let first : c.args.reader.now ≡ token_of c.in_ok-token.token ∷ c.next.new.self = grind arith in
    let none : c.args.depth ≡ 0 = omega arith in
    ap₂ next_value none (first ∙ ap (λ k. token_of k ∷ c.next.new.self) c.in-BeginObject.is) ∙ not_deeper_object c.next.new.self

pub returns-else-depth-eq0 : goal.returns-else-depth-eq0
returns-else-depth-eq0 c =
    let first : c.args.reader.now ≡ token_of c.in_ok-token.token ∷ c.next.new.self = grind arith in
    let some : 0 < c.args.depth = omega arith in
    (some, ap (next_value c.args.depth) (first ∙ ap (λ k. token_of k ∷ c.next.new.self) c.in-BeginObject.is) ∙ object_begun c.args.depth c.next.new.self some)

pub returns-in_ok-skip_rest-in_default : goal.returns-in_ok-skip_rest-in_default
returns-in_ok-skip_rest-in_default c =
    let first : c.args.reader.now ≡ token_of c.in_ok-token.token ∷ c.next.new.self = grind arith in
    let passed = c.in_ok-skip_rest-in_default.ensures in
    let is = begun c.args.depth (token_of c.in_ok-token.token) c.next.new.self c.skip_rest.new.reader passed.0 passed.1 in
    (passed.0, ap (next_value c.args.depth) first ∙ passed.1, no_object c.in_ok-token.token passed.0 is c.in_default.not-BeginObject)
