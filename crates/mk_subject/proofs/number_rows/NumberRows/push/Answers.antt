use Rattle.std.proofs.Common.{◌≡◌, ◌∷◌, ◌++◌, [], List, ℕ, length, arith, ap, ◌∙◌}
use Rattle.mk_subject.proofs.NumberRows.{pushed, still_rows}
use Rattle.mk_subject.proofs.number_rows.NumberRows.push.Goals as goal

pub invariant_of-self-2 : goal.invariant_of-self-2
invariant_of-self-2 c =
    let ends = c.self.inside.ends.items in
    let numbers = c.self.inside.numbers.items in
    let new = c.extend_from_slice.new.self.items in
    let long : c.len.result ≡ length new = omega (arith, c.len.ensures, c.extend_from_slice.new.self.ok.0) in
    let more : c.push.new.self.items ≡ ends ++ c.len.result ∷ [] = c.in_ok-push.ensures.items ∙ ap (λ (l : List ℕ). l ++ c.len.result ∷ []) c.reserve.ensures.items in
    still_rows ends numbers c.self.invariant c.args.row.now c.len.result c.push.new.self.items new c.in_ok-extend_from_slice.ensures.items long more

pub returns : goal.returns
returns c =
    let ends = c.self.inside.ends.items in
    let numbers = c.self.inside.numbers.items in
    let new = c.extend_from_slice.new.self.items in
    let long : c.len.result ≡ length new = omega (arith, c.len.ensures, c.extend_from_slice.new.self.ok.0) in
    let more : c.push.new.self.items ≡ ends ++ c.len.result ∷ [] = c.in_ok-push.ensures.items ∙ ap (λ (l : List ℕ). l ++ c.len.result ∷ []) c.reserve.ensures.items in
    pushed ends numbers c.self.invariant c.args.row.now c.len.result c.push.new.self.items new c.in_ok-extend_from_slice.ensures.items long more ∙ ap (λ (rows : List (List ℕ)). rows ++ c.args.row.now ∷ []) c.self.view_is
