-- The graphs that names lead to.
use Rattle.std.proofs.Common.{◌≡◌, ◌∙◌, ℕ, ◌==◌, true, List, [], ◌∷◌, length, filter, Option, None, Result, refl, sym, subst, arith}
use Rattle.std.specs.Prelude.{MatchOption}
use Rattle.std.specs.Borrow.{Bor}
use Rattle.std.proofs.lemmas.Bool.{eqb-true}
use Rattle.mk_graph.specs.Graph.{Graph}
use Rattle.mk_infer.specs.Goals.{goal_names}
use Rattle.mk_infer.specs.Targets.{is_target}
use Rattle.mk_infer.specs.There.{Exists}
use Rattle.mk_infer.specs.declared.fault.InferFault.{InferFault}
use Rattle.mk_read.specs.Reading.{Makefile}
use Rattle.mk_repair.specs.Rows.{names_view}
use Rattle.mk_subject.specs.Subject.{Subject}
use Rattle.mk_claims.specs.Claims.{Claim}
use Rattle.mk_claims.specs.Wider.{Leads, far_names, far_targets, is_made, there_with, unreached_names}

-- the same goals lead to the same
pub leads_same : (m n : Makefile) (e f : Exists) (a b : List (List ℕ)) (answer : Result Graph InferFault) → m ≡ n → e ≡ f → a ≡ b → Leads m e (goal_names m a) answer → Leads n f (goal_names n b) answer
leads_same m n e f a b answer p q r l =
    subst (λ (names : List (List ℕ)). Leads n f (goal_names n names) answer) r
    (subst (λ (there : Exists). Leads n there (goal_names n a) answer) q (subst (λ (k : Makefile). Leads k e (goal_names k a) answer) p l))

-- no name
none_seen : (names : List (Bor (List ℕ))) → length names ≡ 0 → names_view names ≡ []
none_seen [] e = refl
none_seen (name ∷ names) e = absurd (omega (arith, e))

pub none_left : (names : List (Bor (List ℕ))) (count : ℕ) (left : List (List ℕ)) → true ≡ (count == 0) → length names ≡ count → names_view names ≡ left → left ≡ []
none_left names count left zero many same = sym same ∙ none_seen names (many ∙ eqb-true count 0 (sym zero))

-- the names that rules make, and the targets, among those that the goals don't reach
pub far_are : (x : Subject) (claims : List Claim) (m : Makefile) (e : Exists) (names made : List (List ℕ)) → m ≡ x.makefile → e ≡ there_with x claims → names ≡ unreached_names x claims → made ≡ filter (is_made m e) names → made ≡ far_names x claims
far_are x claims m e names made p q r is = is ∙ (λ i. filter (is_made (p i) (q i)) (r i))

pub targets_are : (x : Subject) (claims : List Claim) (m : Makefile) (names targets : List (List ℕ)) → m ≡ x.makefile → names ≡ unreached_names x claims → targets ≡ filter (is_target m) names → targets ≡ far_targets x claims
targets_are x claims m names targets p r is = is ∙ (λ i. filter (is_target (p i)) (r i))

-- there are no lines where there is a fault
pub none_found : {T P : Type 0} (Q : T → Type 0) (found : Option T) → found ≡ None → P → MatchOption found P Q
none_found {T} {P} Q found e p = subst (λ (o : Option T). MatchOption o P Q) (sym e) p
