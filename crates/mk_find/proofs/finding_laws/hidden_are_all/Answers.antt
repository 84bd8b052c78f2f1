-- No recipe reads what it writes, so no read is left out.
use Rattle.std.proofs.Common.{◌≡◌, ◌∙◌, ℕ, List, [], ◌∷◌, ◌++◌, Bool, false, cond, map, ap, refl, subst, inl, inr}
use Rattle.std.specs.List.{flat_map}
use Rattle.std.proofs.lemmas.Bool.{false_from_ne_true}
use Rattle.mk_lines.proofs.NameTests.{Has-from_has_name}
use Rattle.mk_lines.specs.Names.{has_name}
use Rattle.mk_graph.specs.Membership.{Has}
use Rattle.mk_graph.specs.Serial.{serial_order}
use Rattle.mk_find.specs.Candidates.{Candidate, race_candidates, stale}
use Rattle.mk_find.specs.Listed.{Adds}
use Rattle.mk_subject.specs.Subject.{Subject, reads_of, writes_of}
use Rattle.mk_find.specs.Findings.{hidden_read, hidden_reads}
use Rattle.mk_find.proofs.Noting.{reader_writes_not}
use Rattle.mk_find.proofs.finding_laws.hidden_are_all.Goals as goal

-- of files that the recipe doesn't write none is left out
none_left_out : (x : Subject) (t : ℕ) (files : List (List ℕ)) → ((f : List ℕ) → Has files f → ¬ (Has (writes_of x t) f)) → flat_map (hidden_read x t) files ≡ map (λ f. stale t f) files
none_left_out x t [] others = refl
none_left_out x t (f ∷ files) others =
    let lacks : has_name (writes_of x t) f ≡ false = false_from_ne_true _ (λ has. others f (inl refl) (Has-from_has_name (writes_of x t) f has)) in
    ap (λ (b : Bool). cond b [] (stale t f ∷ []) ++ flat_map (hidden_read x t) files) lacks ∙ ap (λ (l : List Candidate). stale t f ∷ l) (none_left_out x t files (λ g h. others g (inr h)))

-- so all are there, node by node
all_there : (x : Subject) (ns : List ℕ) → ((t : ℕ) (f : List ℕ) → Has (reads_of x t) f → ¬ (Has (writes_of x t) f)) → flat_map (hidden_reads x) ns ≡ flat_map (λ t. map (λ f. stale t f) (reads_of x t)) ns
all_there x [] others = refl
all_there x (t ∷ ns) others =
    ap (λ (l : List Candidate). l ++ flat_map (hidden_reads x) ns) (none_left_out x t (reads_of x t) (others t))
    ∙ ap (λ (l : List Candidate). map (λ f. stale t f) (reads_of x t) ++ l) (all_there x ns others)

pub returns : goal.returns
returns c x found graph is none hidden =
    inr (none, subst (λ (l : List Candidate). Adds x (race_candidates x ++ l) [] found) (all_there x (serial_order x.graph) (reader_writes_not c.nothing_found_is_sound.ensures x graph is none)) hidden)
