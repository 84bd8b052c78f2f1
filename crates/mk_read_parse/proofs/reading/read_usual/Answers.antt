use Rattle.mk_read.specs.Steps.{seen}
use Rattle.std.proofs.Common.{Some, sym, ap, ◌∙◌}
use Rattle.std.specs.Option.{option_map}
use Rattle.std.proofs.lemmas.Result.{err_from_is_err_and}
use Rattle.mk_read_parse.proofs.OwnText.{usual_unread, usual_found, usual_second}
use Rattle.mk_read_parse.proofs.reading.read_usual.Goals as goal

pub returns-in_err-text-clause-follows : goal.returns-in_err-text-clause-follows
returns-in_err-text-clause-follows g c =
    let p = err_from_is_err_and c.from_residual.result c.from_residual.ensures.1 in
    rw (p.1, p.2) (usual_unread c.args.state.now (g.F.Files.fits c.makefile_at.new.files) c.in_err-text.field-0.0 c.in_err-text.ensures.fault)

pub returns-in-Some-clause-follows : goal.returns-in-Some-clause-follows
returns-in-Some-clause-follows g c =
    usual_found c.args.state.now (g.F.Files.fits c.makefile_at.new.files) (g.F.Files.fits c.read_own_text.new.files)
    c.deref.result.now (seen (λ done. c.read_own_text.new.state) c.read_own_text.result)
    c.read_own_text.ensures.keeps (λ told e. (ap (λ text. Some text) c.deref.ensures.value
    ∙ ap (option_map (λ text. text.items)) (sym c.in-Some.is))
    ∙ c.in_ok-text.ensures.text told e) c.read_own_text.ensures.follows

pub returns-in-None-clause-follows : goal.returns-in-None-clause-follows
returns-in-None-clause-follows g c =
    usual_second c.args.state.now (g.F.Files.fits c.makefile_at.new.files) (g.F.Files.fits c.read_second.new.files)
    (seen (λ done. c.read_second.new.state) c.read_second.result) c.read_second.ensures.keeps
    (λ told e. ap (option_map (λ text. text.items))
    (sym c.in-None.is) ∙ c.in_ok-text.ensures.text told e)
    c.read_second.ensures.follows
