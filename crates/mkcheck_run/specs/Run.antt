-- The outcome of a run.
use Rattle.std.specs.Prelude.{◌≡◌, ◌⊎◌, ℕ, ◌==◌, Bool, true, false, List, [], ◌∷◌, ◌++◌, codes, option_and_then, is_some, Option, None, Some, Result, Ok, Err, if◌then◌else◌}
use Rattle.std.specs.Option.{option_or}
use Rattle.clap.specs.Words.{IsAmong, Kinds}
use Rattle.clap.specs.declared.error.ErrorKind.{ErrorKind}
use Rattle.clap.specs.declared.error.ErrorKind.TheVariants.{DisplayHelp, DisplayVersion, OutOfMemory}
use Rattle.mk_core_text.specs.declared.fault.Fault.{Fault}
use Rattle.mk_core_text.specs.declared.fault.Fault.TheVariants.{Memory}
use Rattle.mk_core.specs.declared.request.Request.{Request}
use Rattle.mk_core.specs.Answer.{Answers, NotesFailure}
use Rattle.mk_core.specs.CheckAnswer.{AnswersCheck}
use Rattle.mk_core_evidence.specs.EvidenceAnswer.{AnswersEvidence}
use Rattle.mk_core.specs.GraphAnswer.{AnswersGraph}
use Rattle.mk_core.specs.SimulationAnswer.{AnswersSimulation}
use Rattle.mk_core.specs.Simulation.{Simulation, run_text, run_words}
use Rattle.mk_core_text.specs.Causes.{caused_words}
use Rattle.mk_core_text.specs.FaultText.{fault_text}
use Rattle.mk_core.specs.Right.{IsRightFor}
use Rattle.mk_core.specs.Steps.{is_out_of_memory, seen}
use Rattle.mk_core_text.specs.VerdictText.{verdict_text}
use Rattle.mk_core.specs.VerifyAnswer.{AnswersVerify}
use Rattle.mk_explain.specs.Explain.{explained, overview_text}
use Rattle.mk_explain.specs.Near.{near_text}
use Rattle.mk_core_json.specs.AnswerValue.{answer_text, old_refusal_value, refusal_value}
use Rattle.mk_read_files.specs.declared.cause.Cause.{Cause}
use Rattle.mk_core_json.specs.OtherValues.{mended_value, printed_value, run_value, unmended_value}
use Rattle.mk_core_json.specs.SinceValues.{named_value, told_values}
use Rattle.mk_core_json.specs.declared.checking.InJson.{InJson}
use Rattle.mk_core_json.specs.declared.checking.InJson.TheVariants as json
use Rattle.mk_core_json.specs.InJsonAnswer.{AnswersInJson}
use Rattle.mk_core_sentences.specs.declared.checking.InWords.{InWords}
use Rattle.mk_core_sentences.specs.declared.checking.InWords.TheVariants as words
use Rattle.mk_core_sentences.specs.InWordsAnswer.{AnswersInWords}
use Rattle.mk_core_sentences.specs.RefusedLine.{FindsLine, line_place}
use Rattle.mk_read.specs.Names.{is_empty}
use Rattle.mk_read.specs.declared.fault.Place.{Place}
use Rattle.mk_core_repair.specs.declared.outcome.Repair.{Repair as Repaired}
use Rattle.mk_core_repair.specs.Outcome.{Outcome, right, mended, unmended, outcome_of}
use Rattle.mk_core_repair.specs.RepairAnswer.{AnswersRepair, Mends}
use Rattle.mk_core_repair.specs.RepairText.{outcome_message, outcome_part, outcome_text}
use Rattle.mk_core_since.specs.declared.outcome.Since.{Since as Found}
use Rattle.mk_core_since.specs.declared.outcome.Since.TheVariants as since
use Rattle.mk_core_since.specs.SinceAnswer.{AnswersSince}
use Rattle.mk_core_since.specs.SinceText.{since_message, since_output}
use Rattle.mk_core_evidence.specs.declared.showing.Evidence.{Evidence}
use Rattle.mk_core_evidence.specs.declared.showing.Evidence.TheVariants.{Plan, NoPlan}
use Rattle.mk_core_text.specs.declared.verdict.Verdict.{Verdict}
use Rattle.mk_core_text.specs.declared.verdict.Verdict.TheVariants.{Yes, No}
use Rattle.mk_core.specs.Files.{IfFits, Told}
use Rattle.mk_cert_text.specs.Writing.{value_of}
use Rattle.serde_json.specs.Written.{compact_text}
use Rattle.mk_command.specs.Invocation.{form_of, request_of}
use Rattle.mk_command.specs.declared.invocation.Form.{Form}
use Rattle.mk_command.specs.declared.invocation.Form.TheVariants.{Lines, Words, Json}
use Rattle.mk_command.specs.declared.invocation.Invocation.{Invocation}
use Rattle.mk_command.specs.declared.invocation.Invocation.TheVariants.{Graph, Check, CheckInWords, CheckInJson, Repair, Explain, Since, Verify, Simulate}
use Rattle.mkcheck_host.specs.Outcome.{Written}

-- The response to a command: a text for standard output, one for standard error, and the exit
-- status.
pub record Response : Type 0 where
  pub text : List ℕ
  pub err : List ℕ
  pub status : ℕ

-- The response with this text and status 0: for a graph, and for a certificate that is accepted.
abbrev pub text_response : List ℕ → Response
text_response text = record { text = text; err = []; status = 0 }

-- The response with this text and this status, and nothing for standard error.
abbrev pub printed_response : List ℕ → ℕ → Response
printed_response text status = record { text = text; err = []; status = status }

-- The response with a verdict: a yes has status 0, and is its certificate alone on a line where
-- only that is asked for; a no has status 1.
abbrev pub verdict_response : Bool → Verdict → Response
verdict_response only_certificate (Yes certificate recipes reads) =
    text_response (if only_certificate then compact_text (value_of certificate) ++ 10 ∷ []
    else verdict_text (Yes certificate recipes reads))
verdict_response only_certificate (No found) = printed_response (verdict_text (No found)) 1

-- The response with a plan that shows a finding: status 1.
abbrev pub plan_response : List ℕ → Response
plan_response plan = printed_response plan 1

-- The response where a plan alone is asked for and there is none: a yes as usual, for a no `no
-- plan` and status 1.
abbrev pub response_without_plan : Bool → Verdict → Response
response_without_plan only_certificate (Yes certificate recipes reads) =
    verdict_response only_certificate (Yes certificate recipes reads)
response_without_plan only_certificate (No found) = plan_response (codes "no plan\n")

-- The response with the plan alone or, without one, with the verdict.
abbrev pub evidence_response : Bool → Evidence → Response
evidence_response only_certificate (Plan plan) = plan_response plan.items
evidence_response only_certificate (NoPlan verdict) = response_without_plan only_certificate verdict

-- What follows a yes in words: that nothing was judged, if the goals reach no recipe.
abbrev pub yes_note : Bool → Verdict → List ℕ
yes_note true verdict = []
yes_note false (Yes certificate recipes reads) =
    if recipes == 0
    then codes "the goals reach no recipe, so nothing was judged; name other goals\n" else []
yes_note false (No found) = []

-- The response with a verdict as without words, and that nothing was judged, if that is so.
abbrev pub noted_response : Bool → Verdict → Response
noted_response only_certificate verdict =
    record (verdict_response only_certificate verdict) {
      text = (verdict_response only_certificate verdict).text ++ yes_note only_certificate verdict;
    }

-- The response with a verdict in words: a yes as without words; a no has status 1.
abbrev pub words_response : Bool → InWords → Response
words_response only_certificate (words.Yes verdict) = noted_response only_certificate verdict
words_response only_certificate (words.No text) = printed_response text.items 1

-- The response with a verdict as JSON: a yes has status 0, a no status 1.
abbrev pub json_response : InJson → Response
json_response (json.Yes text) = text_response text.items
json_response (json.No text) = printed_response text.items 1

-- The status of what comes of mending: 1 where nothing known mends the makefile, else 0.
abbrev pub repair_status : Outcome → ℕ
repair_status right = 0
repair_status (mended text) = 0
repair_status (unmended found reason) = 1

-- The lines for standard output: those that mend the makefile; also those for a part of its
-- findings, where these are asked for.
abbrev pub lines_printed : (part : Bool) → Outcome → List ℕ
lines_printed part outcome = if part then outcome_part outcome else outcome_text outcome

-- The response with what comes of mending: the lines go to standard output; why nothing mends the
-- makefile goes to standard error.
abbrev pub lines_response : (part : Bool) → Outcome → Response
lines_response part outcome =
    record {
      text = lines_printed part outcome;
      err = outcome_message outcome;
      status = repair_status outcome;
    }

-- What comes of mending, as JSON, always with the lines for a part of the findings.
abbrev pub repair_in_json : Outcome → List ℕ
repair_in_json right = answer_text (mended_value (outcome_text right))
repair_in_json (mended text) = answer_text (mended_value (outcome_text (mended text)))
repair_in_json (unmended found reason) =
    answer_text (unmended_value (outcome_message (unmended found reason))
    (outcome_part (unmended found reason)))

-- The response with what comes of mending, in this form.
abbrev pub repair_response : Form → (part : Bool) → Repaired → Response
repair_response Lines part found = lines_response part (outcome_of found)
repair_response Words part found = lines_response part (outcome_of found)
repair_response Json part found =
    printed_response (repair_in_json (outcome_of found)) (repair_status (outcome_of found))

-- The text of a run in this form.
abbrev pub run_printed : Form → Simulation → List ℕ
run_printed Lines run = run_text run
run_printed Words run = run_words run
run_printed Json run = answer_text (run_value run.printed run.refused run.left)

-- The status of a run: 2 where a line was refused, else 0.
abbrev pub run_status : Simulation → ℕ
run_status run = if is_some run.refused then 2 else 0

-- The status of what comes of `since`: 1 for findings, 2 for a refusal of the old build.
abbrev pub since_status : Found → ℕ
since_status (since.Named names) = 0
since_status (since.No found text) = 1
since_status (since.Unsure found) = 1
since_status (since.Refused fault) = 2

-- What comes of `since`, as JSON; a refusal with this cause of a failed read.
abbrev pub since_in_json : Cause → Found → List ℕ
since_in_json cause (since.Named names) = answer_text (named_value names)
since_in_json cause (since.No found text) = answer_text (told_values (codes "new") found)
since_in_json cause (since.Unsure found) = answer_text (told_values (codes "old") found)
since_in_json cause (since.Refused fault) = answer_text (old_refusal_value fault cause)

-- The response with what comes of `since`, from this folder, in lines: named files alone go to
-- standard output. A refusal is in words where a cause is given.
abbrev pub since_lines : List ℕ → Option Cause → Found → Response
since_lines folder cause found =
    record {
      text = since_output found;
      err = since_message folder cause found;
      status = since_status found;
    }

-- The form is that of words.
abbrev pub is_words : Form → Bool
is_words Words = true
is_words form = false

-- The response with what comes of `since` in this form, with this cause of a failed read.
abbrev pub since_response : Form → Cause → List ℕ → Found → Response
since_response Lines cause folder found = since_lines folder None found
since_response Words cause folder found = since_lines folder (Some cause) found
since_response Json cause folder found =
    printed_response (since_in_json cause found) (since_status found)

-- The response with the run of a plan: status 2 where a line was refused, else 0.
abbrev pub run_response : Form → Simulation → Response
run_response form run =
    printed_response (run_printed form run) (run_status run)

-- The response with the text of a graph, or of a certificate that is accepted, in this form.
abbrev pub form_response : Form → List ℕ → Response
form_response Lines text = text_response text
form_response Words text = text_response text
form_response Json text = text_response (answer_text (printed_value text))

-- The explanation of the first of the words that has one.
abbrev pub first_explained : List (List ℕ) → Option (List ℕ)
first_explained [] = None
first_explained (word ∷ words) = option_or (explained word) (first_explained words)

-- What begins like this word among what is explained, if something does.
abbrev pub near : List ℕ → Option (List ℕ)
near word = if is_empty (near_text word) then None else Some (near_text word)

-- What begins like the first of the words for which there is such a thing.
abbrev pub first_near : List (List ℕ) → Option (List ℕ)
first_near [] = None
first_near (word ∷ words) = option_or (near word) (first_near words)

-- What to look up in place of words that aren't explained.
abbrev pub instead_text : Option (List ℕ) → List ℕ
instead_text None = codes "mkcheck explain lists those that are"
instead_text (Some near) = codes "these begin alike: " ++ near

-- What standard error gets where none of the words is explained.
abbrev pub unknown_text : List (List ℕ) → List ℕ
unknown_text words =
    codes "error: none of these words is explained; " ++ (instead_text (first_near words) ++
    10 ∷ [])

-- The response with the explanation of the first of the words that has one, or without one with
-- status 2.
abbrev pub explained_response : List (List ℕ) → Option (List ℕ) → Response
explained_response words (Some text) = text_response text
explained_response words None = record { text = []; err = unknown_text words; status = 2 }

-- The response to `explain`: the explanation of the first of the words that has one; without words
-- the overview.
abbrev pub explain_response : List (List ℕ) → Response
explain_response [] = text_response overview_text
explain_response (word ∷ words) =
    explained_response (word ∷ words) (first_explained (word ∷ words))

-- The response to `check`: the verdict as it is shown, or the fault.
abbrev pub ShowsVerdict : Told → Request → (Verdict → Response) → Result Response Fault → Type 0
ShowsVerdict files request shown answer =
    (verdict : Result Verdict Fault) ×
    Answers files request AnswersCheck verdict × (answer ≡ seen shown verdict)

-- The response where a plan is asked for: the plan alone, if there is one, else the verdict; or the
-- fault.
abbrev pub ShowsPlan : Told → Request → Bool → Result (Option (List ℕ)) Fault →
    Result Response Fault → Type 0
ShowsPlan files request only_certificate (Ok (Some plan)) answer = answer ≡ Ok (plan_response plan)
ShowsPlan files request only_certificate (Ok None) answer =
    ShowsVerdict files request (response_without_plan only_certificate) answer
ShowsPlan files request only_certificate (Err fault) answer = answer ≡ Err fault

-- Over files with this map, the response to a command other than `since`, or its fault.
abbrev pub AnswersInvocation : Told → Invocation → Result Response Fault → Type 0
AnswersInvocation files (Graph request form) answer =
    (text : Result (List ℕ) Fault) ×
    Answers files request (AnswersGraph request.commands) text ×
    (answer ≡ seen (form_response form) text)
AnswersInvocation files (Check request only_certificate None) answer =
    ShowsVerdict files request (verdict_response only_certificate) answer
AnswersInvocation files (Check request only_certificate (Some number)) answer =
    (plan : Result (Option (List ℕ)) Fault) ×
    Answers files request (AnswersEvidence number) plan ×
    ShowsPlan files request only_certificate plan answer
AnswersInvocation files (CheckInWords request only_certificate) answer =
    (found : Result InWords Fault) ×
    Answers files request AnswersInWords found ×
    (answer ≡ seen (words_response only_certificate) found)
AnswersInvocation files (CheckInJson request) answer =
    (found : Result InJson Fault) ×
    Answers files request AnswersInJson found × (answer ≡ seen json_response found)
AnswersInvocation files (Repair request form part) answer =
    (found : Result Repaired Fault) ×
    AnswersRepair files request found × (answer ≡ seen (repair_response form part) found)
AnswersInvocation files (Explain what) answer =
    (answer ≡ Err Memory) ⊎ (answer ≡ Ok (explain_response what))
AnswersInvocation files (Verify request certificate form) answer =
    (text : Result (List ℕ) Fault) ×
    Answers files request (AnswersVerify files certificate) text ×
    (answer ≡ seen (form_response form) text)
AnswersInvocation files (Simulate request plan form) answer =
    (run : Result Simulation Fault) ×
    Answers files request (AnswersSimulation files plan) run ×
    (answer ≡ seen (run_response form) run)
AnswersInvocation files (Since request folder form) answer = ⊥

-- The same, where the folder of `since` has the first contents, by names in it. Other commands read
-- no folder. A failed read has some cause.
abbrev pub AnswersOver : Told → Told → Invocation → Result Response Fault → Type 0
AnswersOver was files (Since request folder form) answer =
    (found : Result Found Fault) ×
    AnswersSince (is_words form) was files folder request found ×
    ((cause : Cause) × (answer ≡ seen (since_response form cause folder) found))
AnswersOver was files asked answer = AnswersInvocation files asked answer

-- The text that `repair` prints in this form mends the makefile, or has the lines that do.
abbrev pub MendsIn : Form → Told → Request → List ℕ → Type 0
MendsIn Lines files request text = Mends files request text
MendsIn Words files request text = Mends files request text
MendsIn Json files request text =
    (lines : List ℕ) × Mends files request lines × (text ≡ answer_text (mended_value lines))

-- What status 0 of a command with this text on standard output says, over files with this map: the
-- build that `check` or `verify` judges is right, and the text that `repair` prints mends it.
abbrev pub Promises : Told → Invocation → List ℕ → Type 0
Promises files (Check request only_certificate evidence) text = IsRightFor files request
Promises files (CheckInWords request only_certificate) text = IsRightFor files request
Promises files (CheckInJson request) text = IsRightFor files request
Promises files (Repair request form part) text = MendsIn form files request text
Promises files (Verify request certificate form) text = IsRightFor files request
Promises files asked text = Unit {0}

-- What is printed for a refusal by this fault in this form, with the cause of the last failed read,
-- and the line of a file that is shown for the fault.
abbrev pub refusal_text : Form → Fault → Cause → (line : List ℕ) → List ℕ
refusal_text Lines fault cause line = fault_text fault ++ 10 ∷ []
refusal_text Words fault cause line = caused_words fault cause ++ 10 ∷ line
refusal_text Json fault cause line = compact_text (refusal_value fault cause line) ++ 10 ∷ []

-- The line of a file that is shown for a refusal in this form: none in lines.
abbrev pub line_in : Form → Option Request → Fault → Option Place
line_in Lines request fault = None
line_in Words request fault = option_and_then (λ asked. line_place asked fault) request
line_in Json request fault = option_and_then (λ asked. line_place asked fault) request

-- The line of a file that is shown for the refusal of this command by this fault.
abbrev pub line_shown : Invocation → Fault → Option Place
line_shown asked fault = line_in (form_of asked) (request_of asked) fault

-- A refusal of `since` with this text in this form goes to standard error, or as JSON to standard
-- output.
abbrev pub since_refusal : Form → List ℕ → Written
since_refusal Json text = record { out = text; err = []; status = 2 }
since_refusal form text = record { out = []; err = text; status = 2 }

-- A refusal of the command with this text is written to standard output, that of `since` to
-- standard error unless it is JSON, with status 2.
abbrev pub refusal_written : Invocation → List ℕ → Written
refusal_written (Since request folder form) text = since_refusal form text
refusal_written asked text = record { out = text; err = []; status = 2 }

-- The response to the command is written to both streams, with its status; a fault as a refusal on
-- standard output, or on standard error for `since`, with status 2, in words or as JSON with its
-- line of a file, which is read for that, and a failed read with some cause. Out of memory isn't
-- written here. The names whose reads failed grew by at most that file, where it can't be read
-- again.
abbrev pub Shows : (Told → Type 0) → (old new : List (List ℕ)) → Invocation →
    Result Response Fault → Written → Type 0
Shows fits old new asked (Ok shown) w =
    (new ≡ old) × (w ≡ record { out = shown.text; err = shown.err; status = shown.status })
Shows fits old new asked (Err fault) w =
    (is_out_of_memory fault ≡ false) ×
    (cause : Cause) × (line : List ℕ) × FindsLine fits old new (line_shown asked fault) line ×
    (w ≡ refusal_written asked (refusal_text (form_of asked) fault cause line))

-- The outcome is that of some response or fault. It is the defined one over each two maps that fit
-- what the reader of the folder and the reader of files have answered. The names whose reads
-- failed grew by the name that the fault says, if it is a failed read, and else they stayed; and
-- then as the printed line says.
pub record IsAnswered (fits_below fits : Told → Type 0) (old new : List (List ℕ))
    (asked : Invocation) (w : Written) : Type 0
  where
    pub answer : Result Response Fault
    pub answers : IfFits fits_below (λ was.
        IfFits fits (λ files. AnswersOver was files asked answer))
    pub between : List (List ℕ)
    pub noted : NotesFailure old between answer
    pub shows : Shows fits between new asked answer w

-- Help and the version go to standard output only, with status 0; a fault of the words goes to
-- standard error only, with status 2.
abbrev pub Explains : ErrorKind → Written → Type 0
Explains DisplayHelp w = (w.err ≡ []) × (w.status ≡ 0)
Explains DisplayVersion w = (w.err ≡ []) × (w.status ≡ 0)
Explains OutOfMemory w = ⊥
Explains kind w = (w.out ≡ []) × (w.status ≡ 2)

-- The outcome explains one of the faults of the words.
abbrev pub IsRefused : Kinds → Written → Type 0
IsRefused kinds w = (kind : ErrorKind) × IsAmong kind kinds × Explains kind w
