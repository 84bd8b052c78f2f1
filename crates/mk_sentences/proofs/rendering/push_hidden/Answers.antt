-- Some claims are left, so they are told after the line that leads to them.
use Rattle.std.proofs.Common.{◌≡◌, ◌∙◌, ◌==◌, ℕ, Bool, false, List, [], ◌∷◌, ◌++◌, ap, sym, refl, map, length, append_assoc, string_bytes}
use Rattle.std.specs.Prelude.{codes}
use Rattle.std.proofs.lemmas.Bool.{false≢true}
use Rattle.std.proofs.lemmas.Result.{on_ok_weaker}
use Rattle.mk_claims.specs.Claims.{Claim, claim_view}
use Rattle.mk_sentences.specs.Text.{claims_text, hidden_text}
use Rattle.mk_claims.specs.declared.claim.Claim as borrowed
use Rattle.mk_read.specs.Reading.{Makefile}
use Rattle.mk_sentences.proofs.rendering.push_hidden.Goals as goal

hidden_told : (m : Makefile) (later : List borrowed.Claim) → false ≡ (length later == 0) → hidden_text m (map claim_view later) ≡ codes "once these are mended, as far as can be seen now:\n" ++ claims_text m (map claim_view later)
hidden_told m [] none = absurd (false≢true none)
hidden_told m (c ∷ later) some = refl

pub returns : goal.returns
returns c =
    let m = c.args.makefile.now in
    let old = string_bytes c.args.out.now in
    let told = claims_text m (map claim_view c.args.later.now) in
    on_ok_weaker c.push_claims.result (λ is.
    is
    ∙ (ap (λ (o : List ℕ). o ++ told) c.in_ok-push_str.ensures.bytes
    ∙ (append_assoc old (codes "once these are mended, as far as can be seen now:\n") told
    ∙ ap (λ (t : List ℕ). old ++ t) (sym (hidden_told m c.args.later.now c.if-is_empty.ensures))))) c.push_claims.ensures
