-- The command that the words of a command line give.
use Rattle.std.specs.Prelude.{◌≢◌, ◌⊎◌, ℕ, ◌^◌, ◌==◌, Bool, true, false, not, ◌&&◌, nat_lt, List, None, Some, [], ◌∷◌, Option, option_and_then, option_map, codes, length, unwrap_or, IsErr, if◌then◌else◌}
use Rattle.std.specs.Char.{is_ascii_digit}
use Rattle.std.specs.List.{list_all}
use Rattle.std.specs.Str.{bytes_eq}
use Rattle.std.specs.Str.Parse.{digits_value, without_leading_plus}
use Rattle.clap.specs.Lexer.{strip_byte}
use Rattle.clap.specs.Words.{Kinds, Row, Text, all_of, count_of, fault_of, first_of, subcommand_of}
use Rattle.mk_core.specs.declared.request.Request.{Request}
use Rattle.mk_core.specs.Ready.{macros_for}
use Rattle.mk_core.specs.Words.{goals_of, operands_of}
use Rattle.mk_command.specs.declared.invocation.Form.{Form}
use Rattle.mk_command.specs.declared.invocation.Form.TheVariants.{Lines, Words, Json}
use Rattle.mk_command.specs.declared.invocation.Invocation.{Invocation}
use Rattle.mk_command.specs.declared.invocation.Invocation.TheVariants.{Graph, Check, CheckInWords, CheckInJson, Repair, Explain, Since, Verify, Simulate}
use Rattle.mk_command.specs.CommandLine.{command_line}

-- The kinds of fault that the command line finds in the words; none where it accepts them.
abbrev pub faults_of : List Text → Kinds
faults_of words = fault_of command_line words

-- A name that isn't empty and begins with no slash.
abbrev pub below : Text → Option Text
below [] = None
below (b ∷ rest) = if b == 47 then None else Some (b ∷ rest)

-- The name without `./` at its front, if such a name is left.
abbrev pub without_dot : Text → Text
without_dot name =
    unwrap_or (option_and_then below (option_and_then (strip_byte 47) (strip_byte 46 name))) name

-- The request for this makefile, whose name may begin with `./`, with the macro operands and goals
-- among these words, with the default text, without footprints and without commands; memory may be
-- leaked at exit.
abbrev pub asking : Option (List ℕ) → List Text → Request
asking makefile words =
    record {
      makefile = option_map without_dot makefile;
      defaults = true;
      operands = operands_of words;
      goals = goals_of words;
      book = None;
      commands = false;
      leaves_memory = true;
    }

-- The option is given, once or more.
abbrev pub is_set : Text → List Row → Bool
is_set id rows = nat_lt 0 (count_of id rows)

-- The request that the values of the options and of `WORD..` make.
abbrev pub requested : List Row → Request
requested rows =
    record (asking (first_of (codes "makefile") rows)
    (unwrap_or (all_of (codes "words") rows) [])) {
      defaults = not (is_set (codes "no-defaults") rows);
      book = first_of (codes "book") rows;
      commands = is_set (codes "commands") rows;
    }

-- The value of a required option.
abbrev pub needed : Text → List Row → List ℕ
needed id rows = unwrap_or (first_of id rows) []

-- The digits, at least one, are a number below 2 to the 64th.
abbrev pub is_number : List ℕ → Bool
is_number digits =
    list_all is_ascii_digit digits &&
    (nat_lt 0 (length digits) && nat_lt (digits_value 10 digits) (2 ^ 64))

-- The number that a text is, after an optional plus sign.
abbrev pub number_in : Text → Option ℕ
number_in text =
    let digits = without_leading_plus text in
    if is_number digits then Some (digits_value 10 digits) else None

-- The number that an option gives, if it is given.
abbrev pub number_at : Text → List Row → Option ℕ
number_at id rows = option_and_then number_in (first_of id rows)

-- The command `check` with these options. With a number only the plan is printed, never in words.
abbrev pub checking : Request → (in_words only_certificate : Bool) → Option ℕ → Invocation
checking request true only_certificate None = CheckInWords request only_certificate
checking request in_words only_certificate evidence = Check request only_certificate evidence

-- The command `check` with this request and these values. With `--json` the options that say how a
-- verdict is printed change nothing.
abbrev pub check_by : Request → List Row → Invocation
check_by request rows =
    if is_set (codes "json") rows then CheckInJson request
    else checking request (is_set (codes "in-words") rows)
    (is_set (codes "only-certificate") rows) (number_at (codes "evidence") rows)

-- How an answer is printed, by these values: `--json` counts before `-w`.
abbrev pub form_by : List Row → Form
form_by rows =
    if is_set (codes "json") rows then Json
    else (if is_set (codes "in-words") rows then Words else Lines)

-- The command for the subcommand with this name and these values.
abbrev pub invocation_by : Text → List Row → Invocation
invocation_by name rows =
    if bytes_eq name (codes "check") then check_by (requested rows) rows else
    (if bytes_eq name (codes "repair")
    then Repair (requested rows) (form_by rows) (is_set (codes "part") rows) else
    (if bytes_eq name (codes "explain") then Explain (requested rows).goals else
    (if bytes_eq name (codes "verify")
    then Verify (requested rows) (needed (codes "certificate") rows) (form_by rows) else
    (if bytes_eq name (codes "since")
    then Since (requested rows) (needed (codes "folder") rows) (form_by rows) else
    (if bytes_eq name (codes "simulate")
    then Simulate (requested rows) (needed (codes "plan") rows) (form_by rows)
    else Graph (requested rows) (form_by rows))))))

-- The command for the subcommand that the words name. Words without a subcommand are never
-- accepted, so that case is arbitrary.
abbrev pub asked_with : Option (Text × List Row) → Invocation
asked_with None = Graph (requested []) Lines
asked_with (Some met) = invocation_by met.0 met.1

-- The command that the words give.
abbrev pub invocation_of : List Text → Invocation
invocation_of words = asked_with (subcommand_of command_line words)

-- The request of a command. `explain` reads no file, so its request is arbitrary.
abbrev pub request_in : Invocation → Request
request_in (Graph request form) = request
request_in (Check request only_certificate evidence) = request
request_in (CheckInWords request only_certificate) = request
request_in (CheckInJson request) = request
request_in (Repair request form part) = request
request_in (Explain what) = requested []
request_in (Verify request certificate form) = request
request_in (Since request folder form) = request
request_in (Simulate request plan form) = request

-- How the answer of a command is printed.
abbrev pub form_of : Invocation → Form
form_of (Graph request form) = form
form_of (Check request only_certificate evidence) = Lines
form_of (CheckInWords request only_certificate) = Words
form_of (CheckInJson request) = Json
form_of (Repair request form part) = form
form_of (Explain what) = Lines
form_of (Verify request certificate form) = form
form_of (Since request folder form) = form
form_of (Simulate request plan form) = form

-- The request of a command; `explain` has none.
abbrev pub request_of : Invocation → Option Request
request_of (Explain what) = None
request_of asked = Some (request_in asked)

-- The words are refused before any file is read: they have a fault, or they give a makefile's name
-- or a macro operand that is refused.
abbrev pub AreRefusedUnread : List Text → Type 0
AreRefusedUnread words =
    (faults_of words ≢ []) ⊎ IsErr (macros_for (request_in (invocation_of words)))
