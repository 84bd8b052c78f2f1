use Rattle.std.proofs.Common.{refl}
use Rattle.std.proofs.lemmas.Result.{err_from_is_err_and}
use Rattle.mk_infer.specs.There.{Exists}
use Rattle.mk_subject.specs.Subject.{IsSubject, subject_of}
use Rattle.mk_subject.proofs.subject.Subject.new.Goals as goal

pub returns-in_err-tables-clause-value : goal.returns-in_err-tables-clause-value
returns-in_err-tables-clause-value c =
    let p = err_from_is_err_and c.from_residual.result c.from_residual.ensures.1 in
    rw p.1 tt

pub returns-in_err-tables-clause-subject : goal.returns-in_err-tables-clause-subject
returns-in_err-tables-clause-subject c =
    let p = err_from_is_err_and c.from_residual.result c.from_residual.ensures.1 in
    rw p.1 tt

pub returns-in_err-tables-clause-fault : goal.returns-in_err-tables-clause-fault
returns-in_err-tables-clause-fault c =
    let p = err_from_is_err_and c.from_residual.result c.from_residual.ensures.1 in
    rw (p.1, p.2) c.in_err-tables.ensures.fault

pub invariant_of-result : goal.invariant_of-result
invariant_of-result c =
    let x = λ (e : Exists). subject_of c.args.table.now e c.args.graph.now c.args.setting.now in
    let is : IsSubject (x c.args.exists) = record {
      selected = c.requires.selected;
      no_leaf = c.requires.no_leaf;
      nothing_more = c.requires.nothing_more;
      sources = c.requires.sources;
      fixed = c.requires.fixed;
      texts = c.requires.texts;
      told = c.in_ok-tables.ensures.tables.told;
    } in
    record { is_subject = is; tables = c.in_ok-tables.ensures.tables }

pub returns : goal.returns
returns c =
    let x = λ (e : Exists). subject_of c.args.table.now e c.args.graph.now c.args.setting.now in
    let is : IsSubject (x c.args.exists) = record {
      selected = c.requires.selected;
      no_leaf = c.requires.no_leaf;
      nothing_more = c.requires.nothing_more;
      sources = c.requires.sources;
      fixed = c.requires.fixed;
      texts = c.requires.texts;
      told = c.in_ok-tables.ensures.tables.told;
    } in
    record {
      value = refl;
      subject = is;
      fault = tt;
    }
