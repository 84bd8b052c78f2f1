use Rattle.mk_read.specs.Steps.{seen}
use Rattle.std.proofs.Common.{◌≡◌, List, ℕ, Err, Some, None, sym, ap, subst, ◌∙◌}
use Rattle.std.specs.Prelude.{◌⊎◌}
use Rattle.std.specs.Option.{option_map}
use Rattle.std.proofs.lemmas.Result.{err_from_is_err_and}
use Rattle.mk_read.specs.declared.fault.ReadFault.TheVariants.{Memory, NoMakefile, ReadFailed}
use Rattle.mk_read.specs.Files.{IfFits, text_at}
use Rattle.mk_read.specs.Following.{Follows}
use Rattle.mk_read.specs.Reading.{from_named, reading}
use Rattle.mk_read_parse.specs.Views.{IsUnread, begun}
use Rattle.mk_read_parse.proofs.OwnText.{named_unread, named_found, named_absent}
use Rattle.mk_read_parse.proofs.reading.read_named.Goals as goal

pub returns-in_err-bytes-clause-follows : goal.returns-in_err-bytes-clause-follows
returns-in_err-bytes-clause-follows g c =
    let p = err_from_is_err_and c.from_residual-in_err-bytes.result c.from_residual-in_err-bytes.ensures.1 in
    rw (p.1, p.2) (named_unread c.args.state.now c.args.name.now (g.F.Files.fits c.makefile_at.new.files) c.in_err-bytes.field-0.0 (subst (λ (n : List ℕ). (c.in_err-bytes.field-0.0 ≡ Memory) ⊎ (c.in_err-bytes.field-0.0 ≡ ReadFailed None n)) c.as_str-text.ensures c.in_err-bytes.ensures.fault))

pub returns-in-Some-clause-follows : goal.returns-in-Some-clause-follows
returns-in-Some-clause-follows g c =
    named_found c.args.state.now c.args.name.now (g.F.Files.fits c.makefile_at.new.files) (g.F.Files.fits c.read_own_text.new.files) c.deref.result.now (seen (λ done. c.read_own_text.new.state) c.read_own_text.result) c.read_own_text.ensures.keeps
    (subst (λ (n : List ℕ). IfFits (g.F.Files.fits c.makefile_at.new.files)
    (λ told. Some c.deref.result.now ≡ text_at told n)) c.as_str-text.ensures
    (λ told e.
    (ap (λ text. Some text) c.deref.ensures.value ∙ ap (option_map (λ text. text.items))
    (sym c.in-Some.is)) ∙ c.in_ok-bytes.ensures.text told e))
    (subst (λ (n : List ℕ). IfFits (g.F.Files.fits c.read_own_text.new.files)
    (λ told. Follows told (λ reader. reading 16 reader n c.deref.result.now (begun c.args.state.now n))
    (begun c.args.state.now n) (seen (λ done. c.read_own_text.new.state) c.read_own_text.result)))
    c.as_str-text.ensures c.read_own_text.ensures.follows)

pub returns-in-None-clause-follows : goal.returns-in-None-clause-follows
returns-in-None-clause-follows g c =
    subst (λ (n : List ℕ). IfFits (g.F.Files.fits c.makefile_at.new.files) (λ told. IsUnread c.args.state.now → Follows told (λ reader. from_named reader c.args.state.now (Some c.args.name.now)) c.args.state.now (Err (NoMakefile (Some n))))) (sym (c.in_ok-copy.ensures ∙ c.as_str-text.ensures))
    (named_absent c.args.state.now c.args.name.now (g.F.Files.fits c.makefile_at.new.files)
    (subst (λ (n : List ℕ). IfFits (g.F.Files.fits c.makefile_at.new.files) (λ told. None ≡ text_at told n))
    c.as_str-text.ensures (λ told e. ap (option_map (λ text. text.items)) (sym c.in-None.is)
    ∙ c.in_ok-bytes.ensures.text told e)))
