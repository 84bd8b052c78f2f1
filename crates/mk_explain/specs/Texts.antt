-- Which text explains which finding or fault.
use Rattle.std.specs.Prelude.{ℕ, ◌==◌, List, codes, Option, None, Some, if◌then◌else◌}
use Rattle.std.specs.Option.{option_or}
use Rattle.std.specs.Str.{bytes_eq}
use Rattle.mk_explain.specs.declared.findings.TheConstants as findings
use Rattle.mk_explain.specs.declared.lines.TheConstants as lines
use Rattle.mk_explain.specs.declared.macros.TheConstants as macros
use Rattle.mk_explain.specs.declared.kinds.TheConstants as kinds
use Rattle.mk_explain.specs.declared.names.TheConstants as names
use Rattle.mk_explain.specs.declared.files.TheConstants as files
use Rattle.mk_explain.specs.declared.graph.TheConstants as graph
use Rattle.mk_explain.specs.declared.footprints.TheConstants as footprints
use Rattle.mk_explain.specs.declared.plans.TheConstants as plans
use Rattle.mk_explain.specs.declared.certificates.TheConstants as certificates
use Rattle.mk_explain.specs.declared.terms.TheConstants as terms

-- The text of the finding with this first word.
unfoldable pub finding_text : List ℕ → Option (List ℕ)
finding_text word =
    (if bytes_eq word (codes "record") then Some findings.RECORD.now else
    (if bytes_eq word (codes "commands") then Some findings.COMMANDS.now else
    (if bytes_eq word (codes "varying") then Some findings.VARYING.now else
    (if bytes_eq word (codes "target") then Some findings.TARGET.now else
    (if bytes_eq word (codes "writers") then Some findings.WRITERS.now else
    (if bytes_eq word (codes "given") then Some findings.GIVEN.now else
    (if bytes_eq word (codes "own") then Some findings.OWN.now else
    (if bytes_eq word (codes "unknown") then Some findings.UNKNOWN.now else
    (if bytes_eq word (codes "loose") then Some findings.LOOSE.now else
    (if bytes_eq word (codes "race") then Some findings.RACE.now else
    (if bytes_eq word (codes "stale") then Some findings.STALE.now else
    (if bytes_eq word (codes "selection") then Some findings.SELECTION.now else None))))))))))))

-- The texts of faults of lines.
unfoldable pub lines_text : ℕ → Option (List ℕ)
lines_text number =
    (if number == 1 then Some lines.NUL_BYTE.now else
    (if number == 2 then Some lines.LINE_TOO_LONG.now else
    (if number == 3 then Some lines.TOO_MANY_LINES.now else None)))

-- The texts of faults of macros.
unfoldable pub macros_text : ℕ → Option (List ℕ)
macros_text number =
    (if number == 11 then Some macros.BAD_MACRO_NAME.now else
    (if number == 12 then Some macros.RECURSIVE.now else
    (if number == 13 then Some macros.UNCLOSED.now else
    (if number == 14 then Some macros.TOO_MANY_REFERENCES.now else
    (if number == 15 then Some macros.VALUE_TOO_LONG.now else
    (if number == 16 then Some macros.LONE_DOLLAR.now else
    (if number == 17 then Some macros.MEMBER_MACRO.now else None)))))))

-- The texts of faults of kinds of lines.
unfoldable pub kinds_text : ℕ → Option (List ℕ)
kinds_text number =
    (if number == 21 then Some kinds.SHELL_ASSIGN.now else
    (if number == 22 then Some kinds.COLON_ASSIGN.now else
    (if number == 23 then Some kinds.DOUBLE_COLON.now else
    (if number == 24 then Some kinds.TARGET_MACRO.now else
    (if number == 25 then Some kinds.NOT_A_LINE.now else
    (if number == 26 then Some kinds.STRAY_COMMAND.now else None))))))

-- The texts of faults of names and rules.
unfoldable pub names_text : ℕ → Option (List ℕ)
names_text number =
    (if number == 27 then Some names.BAD_NAME.now else
    (if number == 28 then Some names.ARCHIVE_MEMBER.now else
    (if number == 29 then Some names.UNKNOWN_SPECIAL.now else
    (if number == 30 then Some names.SPECIAL_SHAPE.now else
    (if number == 31 then Some names.TWO_RECIPES.now else None)))))

-- The texts of faults of files.
unfoldable pub files_text : ℕ → Option (List ℕ)
files_text number =
    (if number == 32 then Some files.INCLUDE_MISSING.now else
    (if number == 33 then Some files.INCLUDE_DEPTH.now else
    (if number == 34 then Some files.INCLUDE_EMPTY.now else
    (if number == 35 then Some files.READ_FAILED.now else
    (if number == 36 then Some files.TOO_MANY_FILES.now else
    (if number == 37 then Some files.NO_MAKEFILE.now else
    (if number == 38 then Some files.NO_FILE.now else None)))))))

-- The texts of faults of the graph.
unfoldable pub graph_text : ℕ → Option (List ℕ)
graph_text number =
    (if number == 41 then Some graph.NO_RULE.now else
    (if number == 42 then Some graph.CYCLE.now else
    (if number == 43 then Some graph.TOO_MANY_NODES.now else
    (if number == 44 then Some graph.NO_GOAL.now else
    (if number == 45 then Some graph.INFERENCE_PREREQUISITES.now else None)))))

-- The texts of faults of footprints.
unfoldable pub footprints_text : ℕ → Option (List ℕ)
footprints_text number =
    (if number == 51 then Some footprints.NOT_JSON.now else
    (if number == 52 then Some footprints.SHAPE.now else
    (if number == 53 then Some footprints.OTHER_FORMAT.now else
    (if number == 54 then Some footprints.TWO_RECORDS.now else
    (if number == 55 then Some footprints.BAD_NAME.now else
    (if number == 56 then Some footprints.SOURCE_IS_FIXED.now else
    (if number == 57 then Some footprints.NO_GROUP.now else
    (if number == 58 then Some footprints.NO_LIST.now else None))))))))

-- The texts of faults of plans.
unfoldable pub plans_text : ℕ → Option (List ℕ)
plans_text number =
    (if number == 59 then Some plans.CLOCK_SPENT.now else
    (if number == 60 then Some plans.OTHER_OUTCOME.now else
    (if number == 61 then Some plans.NO_MAKE.now else
    (if number == 62 then Some plans.MAKE_RUNS.now else
    (if number == 63 then Some plans.NOT_READY.now else
    (if number == 64 then Some plans.NO_JOB_FREE.now else
    (if number == 65 then Some plans.OUT_OF_DATE.now else
    (if number == 66 then Some plans.NOT_RUNNING.now else
    (if number == 67 then Some plans.NOT_IN_FOOTPRINT.now else
    (if number == 68 then Some plans.NOT_ALL_DONE.now else
    (if number == 69 then Some plans.PLAN_LINE.now else
    (if number == 70 then Some plans.NOT_EDITABLE.now else
    (if number == 77 then Some plans.NOT_A_GOAL.now else
    (if number == 78 then Some plans.NOT_LEFT_TO_RUN.now else None))))))))))))))

-- The texts of faults of certificates.
unfoldable pub certificates_text : ℕ → Option (List ℕ)
certificates_text number =
    (if number == 71 then Some certificates.NOT_JSON.now else
    (if number == 72 then Some certificates.SHAPE.now else
    (if number == 73 then Some certificates.OTHER_GOALS.now else
    (if number == 74 then Some certificates.NO_WAY.now else
    (if number == 75 then Some certificates.BAD_WAY.now else
    (if number == 76 then Some certificates.STATIC.now else None))))))

-- The text of the fault with this number.
unfoldable pub fault_text : ℕ → Option (List ℕ)
fault_text number =
    option_or (lines_text number) (
    option_or (macros_text number) (
    option_or (kinds_text number) (
    option_or (names_text number) (
    option_or (files_text number) (
    option_or (graph_text number) (
    option_or (footprints_text number) (
    option_or (plans_text number) (
    certificates_text number))))))))

-- The text of another word that an answer begins with.
unfoldable pub term_text : List ℕ → Option (List ℕ)
term_text word =
    (if bytes_eq word (codes "yes") then Some terms.YES.now else
    (if bytes_eq word (codes "way") then Some terms.WAY.now else
    (if bytes_eq word (codes "cycle") then Some terms.CYCLE.now else
    (if bytes_eq word (codes "tried") then Some terms.TRIED.now else
    (if bytes_eq word (codes "since") then Some terms.SINCE.now else None)))))
