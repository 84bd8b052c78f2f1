use Rattle.std.proofs.Common.{◌≡◌, ◌∷◌, ◌++◌, [], List, ℕ, length, string_bytes, arith, ap, ◌∙◌}
use Rattle.std.proofs.lemmas.Str.{IsCharBoundary-at_seam}
use Rattle.mk_cert_text.proofs.Packed.{pushed, still_packed}
use Rattle.mk_cert_text.proofs.packed_names.PackedNames.push.Goals as goal

pub truncate-requires : goal.truncate-requires
truncate-requires c = λ _.
    let old = string_bytes c.self.inside.text in
    let at = IsCharBoundary-at_seam (string_bytes c.push_str.new.self) old c.args.name.now c.in_ok-push_str.ensures.bytes c.utf8.name in
    let long : length old ≡ c.len-start.result = omega (arith, c.len-start.ensures, c.self.inside.text.bytes.ok.0) in
    rw (← long) (at.0, λ _. at.1)

pub invariant_of-self-in_default : goal.invariant_of-self-in_default
invariant_of-self-in_default c =
    let text = string_bytes c.push_str.new.self in
    let long : c.len.result ≡ length text = omega (arith, c.len.ensures, c.push_str.new.self.bytes.ok.0) in
    still_packed c.self.inside.ends.items (string_bytes c.self.inside.text) c.self.invariant c.args.name.now c.len.result c.push.new.self.items text c.in_ok-push_str.ensures.bytes long c.in_default.ensures.items c.utf8.name

pub returns-clause-ok : goal.returns-clause-ok
returns-clause-ok c =
    let text = string_bytes c.push_str.new.self in
    let long : c.len.result ≡ length text = omega (arith, c.len.ensures, c.push_str.new.self.bytes.ok.0) in
    pushed c.self.inside.ends.items (string_bytes c.self.inside.text) c.self.invariant c.args.name.now c.len.result c.push.new.self.items text c.in_ok-push_str.ensures.bytes long c.in_default.ensures.items ∙ ap (λ (names : List (List ℕ)). names ++ c.args.name.now ∷ []) c.self.view_is
