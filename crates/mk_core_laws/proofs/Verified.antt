-- A certificate that `check` answers with is accepted.
use Rattle.std.proofs.Common.{◌≡◌, ◌∙◌, ◌<◌, ℕ, suc, true, List, [], ◌∷◌, ◌++◌, All, length, map, Option, None, Some, Result, Ok, Err, inl, inr, refl, sym, ap, ap₂, subst, arith}
use Rattle.std.specs.List.{list_all, flat_map}
use Rattle.std.specs.Option.{ok_or}
use Rattle.std.proofs.lemmas.Bool.{true≢false, cases_lt, and_from}
use Rattle.std.proofs.lemmas.List.{get_or_past}
use Rattle.std.proofs.lemmas.List.Folds.{list_all-append}
use Rattle.serde_json.specs.Written.{compact_text}
use Rattle.mk_lines.specs.Paths.{is_plain_path}
use Rattle.mk_graph.specs.declared.node.Node.{Node}
use Rattle.mk_graph.specs.Graph as value
use Rattle.mk_graph.specs.Graph.{IsGraph, no_node}
use Rattle.mk_graph.specs.Membership.{Has}
use Rattle.mk_build.specs.World.{IsOfWorld}
use Rattle.mk_infer.specs.Selection.{Selects}
use Rattle.mk_subject.specs.Subject.{IsRecipe, Subject, IsSubject, footprints, name_of}
use Rattle.mk_cert.specs.Verdict.{IsGood, NoneBad, Verifies}
use Rattle.mk_cert_laws.specs.Laws.{LineIsReadBack}
use Rattle.mk_cert_text.specs.Certificate.{Way, Certificate}
use Rattle.mk_cert_text.specs.Laws.{TextIsReadBack, names_of, names_of_way}
use Rattle.mk_cert_text.specs.Reading.{certificate_from}
use Rattle.mk_cert_text.specs.Writing.{value_of}
use Rattle.mk_cert_text.specs.declared.fault.CertTextFault.{CertTextFault}
use Rattle.mk_cert.specs.Laws.{CertificateIsAccepted}
use Rattle.mk_find.specs.FindingLaws.{NoFindings}
use Rattle.mk_read.specs.Files.{Told, text_at}
use Rattle.mk_core_text.specs.VerdictText.{yes_line}
use Rattle.mk_core_text.specs.declared.fault.Fault.{Fault}
use Rattle.mk_core_text.specs.declared.fault.Fault.TheVariants.{NoFile}
use Rattle.mk_core_text.specs.declared.verdict.Verdict.{Verdict}
use Rattle.mk_core_text.specs.declared.verdict.Verdict.TheVariants.{Yes}
use Rattle.mk_core.specs.declared.request.Request.{Request}
use Rattle.mk_core.specs.Answer.{Draws}
use Rattle.mk_core.specs.CheckAnswer.{AnswersCheck, IsVerdict}
use Rattle.mk_core.specs.Judging.{recorded, subject_over}
use Rattle.mk_core.specs.Ready.{Ready, ready_for}
use Rattle.mk_core.specs.VerifyAnswer.{AnswersVerify, VerifiesCertificate, VerifiesText}
use Rattle.mk_core_laws.specs.AnswerLaws.{VerificationIsOne}
use Rattle.mk_core_laws.specs.CertificateLaws.{CheckedIsVerified, HasTextOf}
use Rattle.mk_core_laws.specs.EvidenceLaws.{NamesOfWorldArePlain}

-- ---- the names of an accepted certificate

module _ (x : Subject) (is : IsGraph x.graph) (world : (f : List ℕ) → IsOfWorld x.graph (footprints x.setting) f → is_plain_path f ≡ true) where
  node_plain : (n : ℕ) → n < length x.graph.nodes → is_plain_path (name_of x n) ≡ true
  node_plain n low = world (name_of x n) (inl (n, (low, refl)))

  is_node : (n : ℕ) → IsRecipe x n → n < length x.graph.nodes
  is_node n recipe =
      elim (cases_lt n (length x.graph.nodes)) [
        | inl low ↦ low
        | inr past ↦ absurd (true≢false (sym recipe ∙ ap (λ (k : Node). k.recipe) (get_or_past x.graph.nodes n no_node past)))
      ]

  goals_plain : (ns : List ℕ) → ((n : ℕ) → Has ns n → n < length x.graph.nodes) → list_all is_plain_path (map (name_of x) ns) ≡ true
  goals_plain [] low = refl
  goals_plain (n ∷ ns) low =
      and_from (is_plain_path (name_of x n)) (list_all is_plain_path (map (name_of x) ns)) (node_plain n (low n (inl refl))) (goals_plain ns (λ k h. low k (inr h)))

  path_plain : (ns : List ℕ) → All (IsRecipe x) ns → list_all is_plain_path (map (name_of x) ns) ≡ true
  path_plain [] are = refl
  path_plain (n ∷ ns) are =
      and_from (is_plain_path (name_of x n)) (list_all is_plain_path (map (name_of x) ns)) (node_plain n (is_node n (are 0 0 (omega arith)))) (path_plain ns (λ k d low. are (suc k) d (omega arith)))

  way_plain : (w : Way) → IsGood x w → list_all is_plain_path (names_of_way w) ≡ true
  way_plain w good =
      let recipe : is_plain_path w.recipe ≡ true = subst (λ (f : List ℕ). is_plain_path f ≡ true) (sym good.begins) (node_plain good.start (is_node good.start (good.recipes 0 0 (omega arith)))) in
      let file : is_plain_path w.file ≡ true = world w.file (inr (inr (good.start, inl good.needed.0))) in
      let path : list_all is_plain_path w.path ≡ true = ap (list_all is_plain_path) good.names ∙ path_plain (good.start ∷ good.others) good.recipes in
      and_from (is_plain_path w.recipe) (list_all is_plain_path (w.file ∷ w.path)) recipe (and_from (is_plain_path w.file) (list_all is_plain_path w.path) file path)

  ways_plain : (before ways : List Way) → NoneBad x before ways → list_all is_plain_path (flat_map names_of_way ways) ≡ true
  ways_plain before [] none = refl
  ways_plain before (w ∷ ways) none =
      list_all-append is_plain_path (names_of_way w) (flat_map names_of_way ways)
      ∙ and_from (list_all is_plain_path (names_of_way w)) (list_all is_plain_path (flat_map names_of_way ways)) (way_plain w none.0.0) (ways_plain (w ∷ before) ways none.1)

  pub names_plain : (c : Certificate) → Verifies x c (Ok tt) → list_all is_plain_path (names_of c) ≡ true
  names_plain c accepted =
      list_all-append is_plain_path c.goals (flat_map names_of_way c.ways)
      ∙ and_from (list_all is_plain_path c.goals) (list_all is_plain_path (flat_map names_of_way c.ways)) (ap (list_all is_plain_path) accepted.0 ∙ goals_plain x.graph.goals is.sound.goals) (ways_plain [] c.ways accepted.2)

-- ---- its text

module _ (back : TextIsReadBack) (line : LineIsReadBack) (c : Certificate) (plain : list_all is_plain_path (names_of c) ≡ true) (files : Told) (name : List ℕ) where
  text_there : HasTextOf files name c → (text : List ℕ) × (text_at files name ≡ Some text) × (certificate_from text ≡ Ok c)
  text_there (inl e) = (compact_text (value_of c), e, back c plain)
  text_there (inr e) = (compact_text (value_of c) ++ 10 ∷ [], e, line c plain)

  -- what is accepted is answered with a yes
  text_verifies : (x : Subject) (answer : Result (List ℕ) Fault) → HasTextOf files name c → VerifiesCertificate x (Ok c) answer → VerifiesText x (ok_or (text_at files name) (NoFile name)) answer
  text_verifies x answer has v =
      let there = text_there has in
      subst (λ (o : Option (List ℕ)). VerifiesText x (ok_or o (NoFile name)) answer) (sym there.1)
      (subst (λ (r : Result Certificate CertTextFault). VerifiesCertificate x r answer) (sym there.2) v)

-- ---- the answer

module _ (accepts : CertificateIsAccepted) (nothing : NoFindings) (world_plain : NamesOfWorldArePlain) (back : TextIsReadBack) (line : LineIsReadBack) (files later : Told) (request : Request) (c : Certificate) (recipes reads : ℕ)
    (name : List ℕ) (has : HasTextOf later name c) where
  abbrev yes : Verdict
  yes = Yes c recipes reads

  of_verdict : (ready : Ready) → ready_for files None request ≡ Ok ready → (g : value.Graph) → Selects ready.makefile (recorded ready) ready.goals (Ok g) → IsGraph g → IsSubject (subject_over ready g)
      → IsVerdict (subject_over ready g) yes → AnswersVerify later name ready (Ok (yes_line recipes reads))
  of_verdict ready is g s is_graph is_subject (none, certified, counted, read) =
      let x = subject_over ready g in
      let accepted = accepts x c is_graph (nothing x none).0 certified in
      let plain = names_plain x is_graph (λ f of. world_plain files request ready g is s f of) c accepted in
      let told = ap₂ (λ (n m : ℕ). let r : Result (List ℕ) Fault = Ok (yes_line n m) in r) counted read in
      (Ok g, s, inl (is_graph, is_subject, text_verifies back line c plain later name x (Ok (yes_line recipes reads)) has (Ok tt, accepted, told)))

  of_build : (ready : Ready) → ready_for files None request ≡ Ok ready → AnswersCheck ready (Ok yes) → AnswersVerify later name ready (Ok (yes_line recipes reads))
  of_build ready is (Err fault, s, (settled, e)) = absurd cc
  of_build ready is (Ok g, s, inr (fault, first, e)) = absurd cc
  of_build ready is (Ok g, s, inl (is_graph, is_subject, (verdict, v, e))) =
      let same : yes ≡ verdict = cc in
      of_verdict ready is g s is_graph is_subject (subst (λ (k : Verdict). IsVerdict (subject_over ready g) k) (sym same) v)

  of_check : (r : Result Ready Fault) → ready_for files None request ≡ r → Draws AnswersCheck r (Ok yes) → Draws (AnswersVerify later name) r (Ok (yes_line recipes reads))
  of_check (Err fault) is e = absurd cc
  of_check (Ok ready) is d = of_build ready is d

pub checked_is_verified : CertificateIsAccepted → NoFindings → NamesOfWorldArePlain → TextIsReadBack → LineIsReadBack → VerificationIsOne → CheckedIsVerified
checked_is_verified accepts nothing world_plain back line one files later request c recipes reads name checked same has =
    let drawn = of_check accepts nothing world_plain back line files later request c recipes reads name has (ready_for files None request) refl checked in
    let verified : Draws (AnswersVerify later name) (ready_for later None request) (Ok (yes_line recipes reads)) = subst (λ (r : Result Ready Fault). Draws (AnswersVerify later name) r (Ok (yes_line recipes reads))) (sym same) drawn in
    record {
      is_answer = verified;
      only = λ answer settled a. one later request name answer (Ok (yes_line recipes reads)) settled tt a verified;
    }
