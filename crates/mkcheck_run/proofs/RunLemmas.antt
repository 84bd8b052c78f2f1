-- What the parts of a run make together.
use Rattle.std.proofs.Common.{◌≡◌, ◌⊎◌, ◌∙◌, ℕ, Bool, true, false, true≢false, nat_eq, List, [], String, Global, map, Option, Some, None, refl, sym, ap, ap₂, subst, inl, inr, Result, Ok, Err, IfOk}
use Rattle.std.specs.Prelude.{IsErr, OnErr, unwrap_or}
use Rattle.std.specs.Option.{option_map}
use Rattle.std.specs.String.{string_bytes}
use Rattle.clap.specs.Words.{IsAmong, Kinds, Row, Text}
use Rattle.clap.specs.declared.error.ErrorKind.{ErrorKind}
use Rattle.clap.specs.declared.error.ErrorKind.TheVariants.{OutOfMemory}
use Rattle.mk_core.specs.Answer.{Answers}
use Rattle.mk_core.specs.CheckAnswer.{AnswersCheck}
use Rattle.mk_core.specs.Ready.{macros_for}
use Rattle.mk_core_evidence.specs.EvidenceAnswer.{AnswersEvidence, HasVerdict, plan_in}
use Rattle.mk_core.specs.Files.{Told}
use Rattle.mk_core_repair.specs.declared.outcome.Repair.{Repair as Repaired}
use Rattle.mk_core_repair.specs.declared.outcome.Repair.TheVariants as repairs
use Rattle.mk_core_repair.specs.Outcome.{outcome_of}
use Rattle.mk_core_repair.specs.RepairAnswer.{Mends, Suffices}
use Rattle.mk_core_repair.specs.RepairText.{outcome_text}
use Rattle.mk_core_text.specs.declared.fault.Fault.{Fault}
use Rattle.mk_core_text.specs.declared.fault.Fault.TheVariants.{Memory}
use Rattle.mk_core.specs.declared.request.Request.{Request}
use Rattle.mk_core_evidence.specs.declared.showing.Evidence.{Evidence}
use Rattle.mk_core_evidence.specs.declared.showing.Evidence.TheVariants.{Plan, NoPlan}
use Rattle.mk_read_files.specs.declared.cause.Cause.TheVariants.{Other}
use Rattle.mk_command.specs.declared.invocation.Form.{Form}
use Rattle.mk_command.specs.declared.invocation.Form.TheVariants.{Lines, Words, Json}
use Rattle.mk_command.specs.declared.invocation.Invocation.{Invocation}
use Rattle.mk_command.specs.declared.invocation.Invocation.TheVariants.{Check, CheckInJson, CheckInWords, Explain, Graph, Repair, Simulate, Since, Verify}
use Rattle.mk_command.specs.Invocation.{AreRefusedUnread, faults_of, invocation_of, request_in}
use Rattle.mkcheck_host.specs.Outcome.{Written}
use Rattle.mkcheck_run.specs.Run.{AnswersInvocation, AnswersOver, Explains, MendsIn, Promises, Response, Shows, evidence_response, lines_printed, refusal_written, repair_response, repair_status}

-- what is explained is one of the kinds, and not out of memory
pub explained_kind : (kind : ErrorKind) (kinds : Kinds) (w : Written) → Explains kind w → (kind ≡ OutOfMemory) ⊎ IsAmong kind kinds → IsAmong kind kinds
explained_kind kind kinds w h (inl e) = absurd (subst (λ k. Explains k w) e h)
explained_kind kind kinds w h (inr among) = among

-- a fact of each outcome is one of an `Ok`
pub IfOk-each : {X E : Type 0} (r : Result X E) (P : X → Type 0) → ((x : X) → P x) → IfOk r P
IfOk-each (Ok x) P h = h x
IfOk-each (Err e) P h = tt

-- out of memory is a response to a request for a verdict
pub no_memory_answers : (told : Told) (request : Request) (only_certificate : Bool) → AnswersInvocation told (Check request only_certificate None) (Err Memory)
no_memory_answers told request only_certificate = (Err Memory, tt, refl)

-- and to one for a plan
pub no_memory_shows : (told : Told) (request : Request) (only_certificate : Bool) (number : ℕ) → AnswersInvocation told (Check request only_certificate (Some number)) (Err Memory)
no_memory_shows told request only_certificate number = (Err Memory, tt, refl)

module _ (told : Told) (request : Request) (only_certificate : Bool) (number : ℕ) where
  -- a plan is shown, or the verdict where there is none
  evidence_shows : (evidence : Evidence) → Answers told request (AnswersEvidence number) (Ok (plan_in evidence)) → HasVerdict (Answers told request AnswersCheck) (Ok evidence)
      → AnswersInvocation told (Check request only_certificate (Some number)) (Ok (evidence_response only_certificate evidence))
  evidence_shows (Plan plan) a v = (Ok (Some plan.items), a, refl)
  evidence_shows (NoPlan verdict) a v = (Ok None, a, (Ok verdict, v, refl))

  pub evidence_answers : (evidence : Evidence) (shown : Response) → Answers told request (AnswersEvidence number) (Ok (plan_in evidence)) → HasVerdict (Answers told request AnswersCheck) (Ok evidence)
      → shown ≡ evidence_response only_certificate evidence → AnswersInvocation told (Check request only_certificate (Some number)) (Ok shown)
  evidence_answers evidence shown a v e =
      subst (λ (s : Response). AnswersInvocation told (Check request only_certificate (Some number)) (Ok s)) (sym e) (evidence_shows evidence a v)

-- and to one for a verdict in words
pub no_memory_in_words : (told : Told) (request : Request) (only_certificate : Bool) → AnswersInvocation told (CheckInWords request only_certificate) (Err Memory)
no_memory_in_words told request only_certificate = (Err Memory, tt, refl)

-- and to one for a graph, for the reading of a certificate, or for the run of a plan
pub no_memory_draws : (told : Told) (request : Request) (form : Form) → AnswersInvocation told (Graph request form) (Err Memory)
no_memory_draws told request form = (Err Memory, tt, refl)

pub no_memory_verifies : (told : Told) (request : Request) (certificate : List ℕ) (form : Form) → AnswersInvocation told (Verify request certificate form) (Err Memory)
no_memory_verifies told request certificate form = (Err Memory, tt, refl)

pub no_memory_runs : (told : Told) (request : Request) (plan : List ℕ) (form : Form) → AnswersInvocation told (Simulate request plan form) (Err Memory)
no_memory_runs told request plan form = (Err Memory, tt, refl)

-- and to one to mend a makefile
pub no_memory_mends : (told : Told) (request : Request) (form : Form) (part : Bool) → AnswersInvocation told (Repair request form part) (Err Memory)
no_memory_mends told request form part = (Err Memory, tt, refl)

-- and to one to compare two builds
pub no_memory_compares : (was told : Told) (request : Request) (folder : List ℕ) (form : Form) → AnswersOver was told (Since request folder form) (Err Memory)
no_memory_compares was told request folder form = (Err Memory, inl refl, (Other, refl))

module _ (told : Told) (request : Request) where
  text_mends : (part : Bool) (found : Repaired) → Suffices told request (Ok found) → repair_status (outcome_of found) ≡ 0 → Mends told request (lines_printed part (outcome_of found))
  text_mends true repairs.Right s e = s
  text_mends false repairs.Right s e = s
  text_mends true (repairs.Mended text) s e = s
  text_mends false (repairs.Mended text) s e = s
  text_mends part (repairs.Unmended list why) s e = absurd cc

  json_mends : (part : Bool) (found : Repaired) → Suffices told request (Ok found) → repair_status (outcome_of found) ≡ 0 → MendsIn Json told request (repair_response Json part found).text
  json_mends part repairs.Right s e = ([], s, refl)
  json_mends part (repairs.Mended text) s e = (outcome_text (outcome_of (repairs.Mended text)), s, refl)
  json_mends part (repairs.Unmended list why) s e = absurd cc

  form_mends : (form : Form) (part : Bool) (found : Repaired) → Suffices told request (Ok found) → (repair_response form part found).status ≡ 0 → MendsIn form told request (repair_response form part found).text
  form_mends Lines part found s e = text_mends part found s e
  form_mends Words part found s e = text_mends part found s e
  form_mends Json part found s e = json_mends part found s e

  -- with status 0 the text that is shown mends the makefile, or has the lines that do
  pub shown_mends : (form : Form) (part : Bool) (found : Repaired) (shown : Response) → Suffices told request (Ok found) → shown ≡ repair_response form part found → shown.status ≡ 0 → MendsIn form told request shown.text
  shown_mends form part found shown s e done =
      let ends = sym (ap (λ (r : Response). r.status) e) ∙ done in
      subst (λ (r : Response). MendsIn form told request r.text) (sym e) (form_mends form part found s ends)

-- what the words spell
abbrev pub texts_of : List (String Global) → List Text
texts_of words = map (λ (word : String Global). string_bytes word) words

-- words without a fault are refused unread only with their makefile's name or an operand
pub unread_by : (words : List Text) (same : Type 0) → faults_of words ≡ [] → OnErr (macros_for (request_in (invocation_of words))) same → AreRefusedUnread words → same
unread_by words same none h (inl some) = absurd (some none)
unread_by words same none h (inr is) = at (macros_for (request_in (invocation_of words))) h is
  where
    at : {A E : Type 0} (r : Result A E) → OnErr r same → IsErr r → same
    at (Ok x) k is = absurd cc
    at (Err fault) k is = k

-- a refusal has status 2, wherever it is written
refusal_status : (asked : Invocation) (text : List ℕ) → (refusal_written asked text).status ≡ 2
refusal_status (Graph request form) text = refl
refusal_status (Check request only_certificate evidence) text = refl
refusal_status (CheckInWords request only_certificate) text = refl
refusal_status (CheckInJson request) text = refl
refusal_status (Repair request form part) text = refl
refusal_status (Explain what) text = refl
refusal_status (Verify request certificate form) text = refl
refusal_status (Since request folder Lines) text = refl
refusal_status (Since request folder Words) text = refl
refusal_status (Since request folder Json) text = refl
refusal_status (Simulate request plan form) text = refl

-- what status 0 of an answer promises, it promises where it is written
pub promised : (told : Told) (asked : Invocation) (fits : Told → Type 0) (old new : List (List ℕ)) (answer : Result Response Fault) (w : Written)
    → IfOk answer (λ shown. shown.status ≡ 0 → Promises told asked shown.text) → Shows fits old new asked answer w → w.status ≡ 0 → Promises told asked w.out
promised told asked fits old new (Ok shown) w h (same, shows) e =
    subst (λ (x : Written). Promises told asked x.out) (sym shows) (h (sym (ap (λ (x : Written). x.status) shows) ∙ e))
promised told asked fits old new (Err fault) w h (known, cause, line, finds, shows) e =
    let bad : 2 ≡ 0 = sym (refusal_status asked _) ∙ (sym (ap (λ (x : Written). x.status) shows) ∙ e) in absurd (true≢false (ap (λ (n : ℕ). nat_eq n 2) bad))

-- what two steps leave as it was stays
pub unread_twice : {A E X : Type 0} (r : Result A E) (x y z : X) → OnErr r (y ≡ x) → OnErr r (z ≡ y) → OnErr r (z ≡ x)
unread_twice (Ok a) x y z one two = tt
unread_twice (Err fault) x y z one two = two ∙ one

-- the subcommand that was found is the one whose name and values are given
module _ {P B : Type 0} (n : P → Text) (r : P → List Row) (name : B → Text) (rows : B → List Row) where
  abbrev met_in : Option B → Option (Text × List Row)
  met_in o = option_map {U = Text × List Row} (λ b. (name b, rows b)) o

  pub met_found : (o : Option B) (found : Option P) (p : P) → option_map n found ≡ option_map name o → option_map r found ≡ option_map (λ (q : Text × List Row). q.1) (met_in o) → found ≡ Some p
      → met_in o ≡ Some (n p, r p)
  met_found None found p hn hr e = let k : Some (n p) ≡ None = ap (option_map n) (sym e) ∙ hn in absurd cc
  met_found (Some b) found p hn hr e =
      let same_name : name b ≡ n p = sym (ap (λ (x : Option Text). unwrap_or x (n p)) (ap (option_map n) (sym e) ∙ hn)) in
      let same_rows : rows b ≡ r p = sym (ap (λ (x : Option (List Row)). unwrap_or x (r p)) (ap (option_map r) (sym e) ∙ hr)) in
      ap₂ (λ (x : Text) (y : List Row). Some (x, y)) same_name same_rows
