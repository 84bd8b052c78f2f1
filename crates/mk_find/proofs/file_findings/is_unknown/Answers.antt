-- It is written just where it has writers.
use Rattle.std.proofs.Common.{◌≡◌, ◌∙◌, Bool, true, false, not, ap, sym}
use Rattle.std.specs.Prelude.{◌↔◌}
use Rattle.mk_foot.specs.Setting.{is_given}
use Rattle.mk_subject.specs.NodeRow.{writers_of}
use Rattle.mk_subject.specs.FileInfo.{FileInfo}
use Rattle.mk_subject.specs.Target.{Target}
use Rattle.mk_find.proofs.FileDecided.{written_decides}
use Rattle.mk_find.proofs.file_findings.is_unknown.Goals as goal

-- a test whose contrary decides a fact
contrary : {P : Type 0} (b : Bool) → ((not b ≡ true) ↔ P) → (b ≡ true) ↔ (P → ⊥)
contrary true d = ((λ t p. absurd (let e : false ≡ true = d.1 p in cc)), (λ h. cc))
contrary false d = ((λ t. absurd (let e : false ≡ true = t in cc)), (λ h. absurd (h (d.0 (cc)))))

pub returns-then-not-known : goal.returns-then-not-known
returns-then-not-known c =
    let x = c.args.subject.now in
    let f = c.args.file.now.file in
    let known = c.known.view_is ∙ (ap (λ (t : Target). t.known) c.file.view_is ∙ ap (λ (t : Target). t.known) c.requires) in
    let given : is_given x.setting f ≡ false = sym (ap (λ (k : FileInfo). k.given) known) ∙ c.if-not-known.true in
    let writers : c.writers.result.now ≡ writers_of x f = c.writers.ensures ∙ ap (λ (t : Target). t.known.writers) c.requires in
    let decides = contrary c.is_empty.result (written_decides x f c.writers.result.now c.is_empty.result c.graph-graph.ensures.graph c.serial_reaches_each_once.ensures writers c.is_empty.ensures) in
    ((λ t. (given, λ o wrote. decides.0 t (o, wrote))), (λ h. decides.1 (λ w. h.1 w.0 w.1)))
