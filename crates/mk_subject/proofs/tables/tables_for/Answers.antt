use Rattle.std.proofs.Common.{◌≡◌, ◌∙◌, ℕ, ap, subst, refl, inl, List, map}
use Rattle.std.specs.Prelude.{filter}
use Rattle.std.proofs.lemmas.Result.{err_from_is_err_and}
use Rattle.mk_lemmas.proofs.Texts.{texts}
use Rattle.mk_lines.specs.Names.{has_name}
use Rattle.mk_graph.specs.declared.node.Node.{Node}
use Rattle.mk_graph.specs.Graph.{IsGraph}
use Rattle.mk_build.specs.Setting as build
use Rattle.mk_subject.specs.FileInfo.{FileInfo, AreFiles, all_names, known_by, known_of}
use Rattle.mk_subject.specs.Records.{Recorded, recorded_of}
use Rattle.mk_infer.specs.There.{Exists}
use Rattle.mk_infer.specs.declared.fault.InferFault.{InferFault}
use Rattle.mk_read.specs.Reading.{Makefile}
use Rattle.mk_subject.specs.Subject.{footprints, reads_of, subject_of, writes_of}
use Rattle.mk_subject.specs.Writers.{numbers_at}
use Rattle.mk_subject.specs.NodeRow.{AreRows, NodeRow, IsFaultOf, row_writes, writers_of}
use Rattle.mk_subject.proofs.Entries.{all_told, writers_are}
use Rattle.mk_subject.proofs.KnownFiles.{known_is}
use Rattle.mk_subject.proofs.tables.tables_for.Goals as goal

-- a fault by what was recorded is one by what is the same
same_fault : (m : Makefile) (e : Exists) (r other : Recorded) (fault : InferFault) → r ≡ other → IsFaultOf (subject_of m e r.graph r.setting) fault → IsFaultOf (subject_of m e other.graph other.setting) fault
same_fault m e r other fault same h = subst (λ (k : Recorded). IsFaultOf (subject_of m e k.graph k.setting) fault) same h

pub returns-in_err-entries-clause-fault : goal.returns-in_err-entries-clause-fault
returns-in_err-entries-clause-fault c =
    let p = err_from_is_err_and c.from_residual-in_err-entries.result c.from_residual-in_err-entries.ensures.1 in
    rw (p.1, p.2) (same_fault c.args.table.now c.args.exists.now c.in_ok-records.records (recorded_of c.args.graph.now c.args.setting.now) _ c.in_ok-records.ensures c.in_err-entries.ensures.fault)

pub returns-in_err-writers-clause-fault : goal.returns-in_err-writers-clause-fault
returns-in_err-writers-clause-fault c =
    let p = err_from_is_err_and c.from_residual-in_err-writers.result c.from_residual-in_err-writers.ensures.1 in
    rw (p.1, p.2) (inl refl)

pub returns-in_err-names-clause-fault : goal.returns-in_err-names-clause-fault
returns-in_err-names-clause-fault c =
    let p = err_from_is_err_and c.from_residual-in_err-names.result c.from_residual-in_err-names.ensures.1 in
    rw (p.1, p.2) (inl refl)

pub returns-in_err-files-clause-fault : goal.returns-in_err-files-clause-fault
returns-in_err-files-clause-fault c =
    let p = err_from_is_err_and c.from_residual-in_err-files.result c.from_residual-in_err-files.ensures.1 in
    rw (p.1, p.2) (inl refl)

pub returns-in_err-unsettled-clause-fault : goal.returns-in_err-unsettled-clause-fault
returns-in_err-unsettled-clause-fault c =
    let p = err_from_is_err_and c.from_residual-in_err-unsettled.result c.from_residual-in_err-unsettled.ensures.1 in
    rw (p.1, p.2) (inl refl)

pub returns : goal.returns
returns c =
    let x = subject_of c.args.table.now c.args.exists.now c.args.graph.now c.args.setting.now in
    let entries = c.in_ok-entries.entries.items in
    let m = c.args.table.now in
    let e = c.args.exists.now in
    let recorded = c.in_ok-records.ensures in
    let held : AreRows x entries = subst (λ (r : Recorded). AreRows (subject_of m e r.graph r.setting) entries) recorded c.in_ok-entries.ensures.entries in
    let is_graph : IsGraph x.graph = subst (λ (r : Recorded). IsGraph r.graph) recorded c.in_ok-entries.ensures.graph in
    let writers : (file : List ℕ) → numbers_at c.in_ok-writers.writers file
    ≡ writers_of x file = λ file. c.in_ok-writers.ensures file
    ∙ (ap (λ (es : List NodeRow). map (λ (e : NodeRow). e.number)
    (filter (λ (e : NodeRow). has_name (row_writes e) file) es)) c.deref.ensures.value
    ∙ writers_are x file entries held) in
    let names : c.in_ok-names.names ≡ all_names x = c.in_ok-names.ensures in
    let files = c.in_ok-files.files in
    let texts = texts files.names.keys in
    let by = λ (r : Recorded). known_by m r.setting (numbers_at c.in_ok-writers.writers) c.in_ok-names.names in
    let files_of_it = subst (λ (r : Recorded). AreFiles (by r) (map (λ (n : Node). n.name) r.graph.nodes) (build.writes r.graph (footprints r.setting)) (build.reads r.graph (footprints r.setting)) texts files.known.items files.nodes.items files.writes files.reads) recorded c.in_ok-files.ensures in
    let kept : AreFiles (known_of x) (all_names x) (writes_of x) (reads_of x) texts files.known.items
    files.nodes.items files.writes files.reads = subst (λ (by : List ℕ → FileInfo). AreFiles by
    (all_names x) (writes_of x) (reads_of x) texts files.known.items files.nodes.items files.writes
    files.reads) (known_is x (numbers_at c.in_ok-writers.writers) c.in_ok-names.names writers names)
    files_of_it in
    record {
      tables = record {
        is_graph = is_graph;
        told = all_told x entries is_graph c.serial_reaches_each_once.ensures held;
        entries_held = held;
        names_held = names;
        files_held = kept;
        unsettled_held = λ t. c.in_ok-unsettled.ensures (known_of x) texts t (reads_of x t) (c.deref-2.ensures.value ∙ kept.known_held) (kept.reads_held t);
      };
      fault = tt;
    }
