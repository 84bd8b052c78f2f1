-- Where files are named, both builds were judged.
use Rattle.std.proofs.Common.{◌≡◌, ℕ, Bool, List, None, Result, Ok, Err, inl, inr, refl, sym, subst}
use Rattle.mk_graph.specs.Graph as value
use Rattle.mk_infer.specs.Selection.{Selects}
use Rattle.mk_read.specs.Files.{Told}
use Rattle.mk_since.specs.Doubts.{AreDoubted, HasNoStatic}
use Rattle.mk_since.specs.Named.{AreNamedBy}
use Rattle.mk_since.specs.Past.{Past, past_of}
use Rattle.mk_subject.specs.Subject.{IsSubject}
use Rattle.mk_core_text.specs.declared.fault.Fault.{Fault}
use Rattle.mk_core.specs.declared.request.Request.{Request}
use Rattle.mk_core.specs.Answer.{Draws}
use Rattle.mk_core.specs.Judging.{AnswersJudged, recorded, subject_over}
use Rattle.mk_core.specs.Ready.{Ready, ready_for}
use Rattle.mk_core_since.specs.Before.{before}
use Rattle.mk_core_since.specs.declared.old_build.OldBuild.{OldBuild}
use Rattle.mk_core_since.specs.declared.old_build.OldBuild.TheVariants as old
use Rattle.mk_core_since.specs.declared.outcome.Since.{Since}
use Rattle.mk_core_since.specs.declared.outcome.Since.TheVariants.{Named, No, Unsure, Refused}
use Rattle.mk_core_since.specs.Next.{IfNamed, IsNextFor, NamedIsRight, NamedIsRightWithout, SinceIsNext}
use Rattle.mk_core_since.specs.OldAnswer.{AnswersBefore, AnswersOld, GivesOld, IsOld}
use Rattle.mk_core_since.specs.SinceAnswer.{AfterOld, AnswersSince, GivesSince, IsSince}

-- a build without static findings
record Judged (files : Told) (request : Request) : Type 0 where
  ready : Ready
  graph : value.Graph
  is_ready : ready_for files None request ≡ Ok ready
  is_selected : Selects ready.makefile (recorded ready) ready.goals (Ok graph)
  is_graph : value.IsGraph graph
  is_subject : IsSubject (subject_over ready graph)
  no_static : HasNoStatic (subject_over ready graph)

-- the old build, of which something is kept
record Kept (was : Told) (request : Request) (past : Past) : Type 0 where
  judged : Judged was request
  doubted : List (List ℕ)
  are_doubted : AreDoubted (subject_over judged.ready judged.graph) doubted
  is_past : past ≡ past_of doubted (subject_over judged.ready judged.graph)

module _ (was : Told) (old_request : Request) (past : Past) where
  old_judged : (ready : Ready) → ready_for was None old_request ≡ Ok ready → AnswersJudged GivesOld ready (Ok (old.Kept past)) → Kept was old_request past
  old_judged ready is (Ok g, s, inl (is_graph, is_subject, (old.Kept kept, (none, doubted, are, same), e))) = record {
    judged = record { ready = ready; graph = g; is_ready = is; is_selected = s; is_graph = is_graph; is_subject = is_subject; no_static = none };
    doubted = doubted;
    are_doubted = are;
    is_past = let here : past ≡ kept = cc in subst (λ (p : Past). p ≡ past_of doubted (subject_over ready g)) (sym here) same;
  }
  old_judged ready is (Ok g, s, inl (is_graph, is_subject, (old.Unsure found, found_is, e))) = absurd cc
  old_judged ready is (Ok g, s, inr (fault, first, e)) = absurd cc
  old_judged ready is (Err fault, s, (settled, e)) = absurd cc

  old_drawn : (r : Result Ready Fault) → ready_for was None old_request ≡ r → Draws (AnswersJudged GivesOld) r (Ok (old.Kept past)) → Kept was old_request past
  old_drawn (Ok ready) is d = old_judged ready is d
  old_drawn (Err fault) is e = absurd cc

module _ (was : Told) (request : Request) (past : Past) where
  old_before : (r : Result Request Fault) → before was request ≡ r → AnswersBefore was r (Ok (old.Kept past)) → (q : Request) × (before was request ≡ Ok q) × Kept was q past
  old_before (Ok q) is a = (q, is, old_drawn was q past (ready_for was None q) refl a)
  old_before (Err fault) is e = absurd cc

  old_found : AnswersOld was request (Ok (old.Kept past)) → (q : Request) × (before was request ≡ Ok q) × Kept was q past
  old_found (inl e) = absurd cc
  old_found (inr (inl e)) = absurd cc
  old_found (inr (inr (inl e))) = absurd cc
  old_found (inr (inr (inr a))) = old_before (before was request) refl a

module _ (right : NamedIsRight) (right_without : NamedIsRightWithout) (words : Bool) (was files : Told) (request : Request) (names : List (List ℕ)) where
  module _ (past : Past) (q : Request) (is_old : before was request ≡ Ok q) (kept : Kept was q past) where
    new_judged : (ready : Ready) → ready_for files None request ≡ Ok ready → AnswersJudged (GivesSince words past) ready (Ok (Named names)) → IsNextFor was files request names
    new_judged ready is (Ok g, s, inl (is_graph, is_subject, (Named found, (has, by), e))) =
        let x = subject_over kept.judged.ready kept.judged.graph in
        let y = subject_over ready g in
        let here : names ≡ found = cc in
        let those = subst (λ (p : Past). AreNamedBy p y names) kept.is_past (subst (λ (l : List (List ℕ)). AreNamedBy past y l) (sym here) by) in
        let both = right_without x y kept.judged.is_graph kept.judged.is_subject kept.judged.no_static is_graph is_subject has kept.doubted names kept.are_doubted those in
        record {
          old_request = q;
          old_ready = kept.judged.ready;
          old_graph = kept.judged.graph;
          ready = ready;
          graph = g;
          doubted = kept.doubted;
          is_old = is_old;
          is_old_ready = kept.judged.is_ready;
          is_old_selected = kept.judged.is_selected;
          is_ready = is;
          is_selected = s;
          are_doubted = kept.are_doubted;
          are_named = both.0;
          are_right = both.1;
          after_yes = λ yes_x. right x y kept.judged.is_graph kept.judged.is_subject yes_x is_graph is_subject has kept.doubted names kept.are_doubted those;
        }
    new_judged ready is (Ok g, s, inl (is_graph, is_subject, (No found text, found_is, e))) = absurd cc
    new_judged ready is (Ok g, s, inl (is_graph, is_subject, (Unsure found, none, e))) = absurd none
    new_judged ready is (Ok g, s, inl (is_graph, is_subject, (Refused fault, none, e))) = absurd none
    new_judged ready is (Ok g, s, inr (fault, first, e)) = absurd cc
    new_judged ready is (Err fault, s, (settled, e)) = absurd cc

    new_drawn : (r : Result Ready Fault) → ready_for files None request ≡ r → Draws (AnswersJudged (GivesSince words past)) r (Ok (Named names)) → IsNextFor was files request names
    new_drawn (Ok ready) is d = new_judged ready is d
    new_drawn (Err fault) is e = absurd cc

  next_of : (folder : List ℕ) (found : Result OldBuild Fault) → AnswersOld was request found → AfterOld words files folder request found (Ok (Named names)) → IsNextFor was files request names
  next_of folder (Ok (old.Kept past)) a after =
      let (q, is_old, kept) = old_found was request past a in
      new_drawn past q is_old kept (ready_for files None request) refl after
  next_of folder (Ok (old.Unsure found)) a e = absurd cc
  next_of folder (Err fault) a e = absurd cc

pub since_is_next : NamedIsRight → NamedIsRightWithout → SinceIsNext
since_is_next right without words was files folder request (Ok (Named names)) (inl e) = absurd cc
since_is_next right without words was files folder request (Ok (Named names)) (inr (found, a, after)) = next_of right without words was files request names folder found a after
since_is_next right without words was files folder request (Ok (No found text)) a = tt
since_is_next right without words was files folder request (Ok (Unsure found)) a = tt
since_is_next right without words was files folder request (Ok (Refused fault)) a = tt
since_is_next right without words was files folder request (Err fault) a = tt
