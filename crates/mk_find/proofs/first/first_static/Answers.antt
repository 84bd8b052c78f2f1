use Rattle.std.proofs.Common.{◌≡◌, ◌++◌, [], List, sym, subst, take, drop}
use Rattle.std.specs.Prelude.{Option, Some, Result, Ok, Err, IfOk}
use Rattle.std.specs.declared.alloc.AllocError.{AllocError}
use Rattle.std.proofs.lemmas.Grind.{flat_map-append}
use Rattle.mk_graph.specs.Serial.{serial_order}
use Rattle.mk_find.specs.declared.finding.Finding.{Finding}
use Rattle.mk_subject.specs.Subject.{Subject}
use Rattle.mk_find.specs.Listing.{Lists}
use Rattle.mk_find.specs.Candidates.{Candidate, by_number, pairs_of_writers, static_candidates}
use Rattle.mk_find.specs.Listed.{IsFirstFinding}
use Rattle.mk_find.specs.NodeChecks.{candidates_before_pairs, candidates_after_pairs}
use Rattle.mk_find.proofs.FirstFound.{tells_before, tells_behind}
use Rattle.mk_find.proofs.first.first_static.Goals as goal

-- what is looked for between these
abbrev pairs : Subject → List Candidate
pairs x = pairs_of_writers x (serial_order x.graph)

joined : (x : Subject) → static_candidates x ≡ candidates_before_pairs x ++ (pairs x ++ candidates_after_pairs x)
joined x = flat_map-append (λ (part : List Candidate). part) (take 4 (by_number x)) (drop 4 (by_number x))

-- where nothing is found by what is asked first, what is asked last tells
told_last : (x : Subject) (r : Result (Option Finding) AllocError) → Lists x (candidates_before_pairs x) [] → Lists x (pairs x) [] → IfOk r (IsFirstFinding x (candidates_after_pairs x)) → IfOk r (IsFirstFinding x (static_candidates x))
told_last x (Ok first) none apart told = subst (λ (l : List Candidate). IsFirstFinding x l first) (sym (joined x)) (tells_behind x (candidates_before_pairs x) (pairs x ++ candidates_after_pairs x) first none (tells_behind x (pairs x) (candidates_after_pairs x) first apart told))
told_last x (Err fault) none apart told = tt

pub returns-then-branch : goal.returns-then-branch
returns-then-branch c = c.in_ok-finds_nothing.ensures.0 c.if-branch.true

pub returns-in-Some : goal.returns-in-Some
returns-in-Some c =
    let x = c.args.subject.now in
    let told : IsFirstFinding x (candidates_before_pairs x) (Some c.in-Some.finding) = subst (λ (r : Option Finding). IsFirstFinding x (candidates_before_pairs x) r) c.in-Some.is c.in_ok-finding.ensures in
    subst (λ (l : List Candidate). IsFirstFinding x l (Some c.in-Some.finding)) (sym (joined x)) (tells_before x (candidates_before_pairs x) (pairs x ++ candidates_after_pairs x) c.in-Some.finding told)

pub returns-in-Some-2 : goal.returns-in-Some-2
returns-in-Some-2 c =
    let x = c.args.subject.now in
    let none : Lists x (candidates_before_pairs x) [] = subst (λ (r : Option Finding). IsFirstFinding x (candidates_before_pairs x) r) c.in_default.is c.in_ok-finding.ensures in
    let told : IsFirstFinding x (pairs x) (Some c.in-Some-2.finding) = subst (λ (r : Option Finding). IsFirstFinding x (pairs x) r) c.in-Some-2.is c.in_ok-finding-2.ensures in
    subst (λ (l : List Candidate). IsFirstFinding x l (Some c.in-Some-2.finding)) (sym (joined x))
    (tells_behind x (candidates_before_pairs x) (pairs x ++ candidates_after_pairs x) (Some c.in-Some-2.finding) none (tells_before x (pairs x) (candidates_after_pairs x) c.in-Some-2.finding told))

pub returns : goal.returns
returns c =
    let x = c.args.subject.now in
    let none : Lists x (candidates_before_pairs x) [] = subst (λ (r : Option Finding). IsFirstFinding x (candidates_before_pairs x) r) c.in_default.is c.in_ok-finding.ensures in
    let apart : Lists x (pairs x) [] = subst (λ (r : Option Finding). IsFirstFinding x (pairs x) r) c.in_default-2.is c.in_ok-finding-2.ensures in
    told_last x c.first_behind_pairs.result none apart c.first_behind_pairs.ensures
