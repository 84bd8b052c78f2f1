-- Prepared requests.
use Rattle.std.specs.Prelude.{ℕ, Bool, List, [], Option, None, Some, Result, Ok}
use Rattle.std.specs.Option.{is_none}
use Rattle.mk_foot.specs.Book.{Book, no_book}
use Rattle.mk_foot.specs.Reading.{book_from}
use Rattle.mk_foot.specs.Setting.{Setting}
use Rattle.mk_infer.specs.Goals.{goal_names}
use Rattle.mk_infer.specs.There.{Exists}
use Rattle.mk_macros.specs.Table.{Macro}
use Rattle.mk_read.specs.declared.fault.ReadFault.{ReadFault}
use Rattle.mk_read.specs.Files.{Told}
use Rattle.mk_read.specs.Following.{reader_of}
use Rattle.mk_read.specs.Reading.{Makefile, Reader, makefile}
use Rattle.mk_read_parse.specs.Requests.{request_read}
use Rattle.mk_core_text.specs.declared.fault.Fault.{Fault}
use Rattle.mk_core_text.specs.declared.fault.Fault.TheVariants.{Read, Infer, Foot}
use Rattle.mk_core.specs.declared.request.Request.{Request}
use Rattle.mk_core.specs.FileText.{text_of}
use Rattle.mk_core.specs.Steps.{◌>>=◌, as_fault}

-- The makefile, the goals, the footprints and inputs of the build, and whether each name that
-- nothing makes is given.
pub record Ready : Type 0 where
  pub makefile : Makefile
  pub goals : List (List ℕ)
  pub setting : Setting
  pub any_leaf : Bool

-- The files that exist before a make.
abbrev pub exists : Ready → Exists
exists ready =
    record {
      any_leaf = ready.any_leaf;
      sources = ready.setting.sources;
      fixed = ready.setting.fixed;
      texts = ready.setting.texts;
      more = [];
    }

-- The macros of a request before any file is read, or the fault of its makefile's name or of one of
-- its operands.
abbrev pub macros_for : Request → Result (List Macro) ReadFault
macros_for request = request_read request.makefile request.defaults request.operands

-- The makefile of a request, as the reader gives it.
abbrev pub makefile_for : Request → Reader → Result Makefile ReadFault
makefile_for request reader = makefile reader request.makefile request.defaults request.operands

-- The footprints for these goals, from the footprint file; empty without such a file.
abbrev pub book_for : Told → Option (List ℕ) → Option (List ℕ) → List (List ℕ) → Result Book Fault
book_for files failing None goals = Ok no_book
book_for files failing (Some name) goals = do
  bytes ← text_of files failing name
  as_fault Foot (book_from goals bytes)

-- The build inputs: those of the footprint file, with the makefile's texts and the names that its
-- reading passed over.
abbrev pub setting_of : Makefile → Book → Setting
setting_of m book =
    record {
      records = book.records;
      sources = book.sources;
      texts = m.texts;
      fixed = book.fixed;
      passed_over = m.passed_over;
    }

-- The prepared request when the files have these contents and the file `failing`, if there is one,
-- can't be read; or the first fault. Without a footprint file each name that nothing makes is
-- given.
abbrev pub ready_for : Told → Option (List ℕ) → Request → Result Ready Fault
ready_for files failing request = do
  m ← as_fault Read (makefile_for request (reader_of files None))
  goals ← as_fault Infer (goal_names m request.goals)
  book ← book_for files failing request.book goals
  Ok (record {
    makefile = m;
    goals = goals;
    setting = setting_of m book;
    any_leaf = is_none request.book;
  })
