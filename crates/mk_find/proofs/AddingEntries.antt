-- Entries of a certificate that grow.
use Rattle.std.proofs.Common.{◌≡◌, ℕ, ◌+◌, ◌<◌, inl, inr, length, length-append, reverse, List, [], ◌∷◌, ◌++◌, get_or, map, take, sym, ap, subst, ◌∙◌, append_assoc, append-nil, arith}
use Rattle.std.proofs.lemmas.List.{length-map, map_push, nil_from_length, take_more}
use Rattle.mk_lemmas.proofs.Members.{Has-map}
use Rattle.mk_graph.proofs.Nodes.{recipe_is_node}
use Rattle.mk_graph.specs.Membership.{Has}
use Rattle.mk_cert_text.specs.declared.certificate.Finish.{Finish}
use Rattle.mk_find.specs.declared.finding.Finding.{Finding}
use Rattle.mk_find.specs.Candidates.{Candidate, stale}
use Rattle.mk_find.specs.Listed.{Adds, named}
use Rattle.mk_find.specs.Conditions.{IsStale}
use Rattle.mk_find.specs.FindingLaws.{ListedExactly}
use Rattle.mk_find.specs.Listing.{Lists}
use Rattle.mk_cert_text.specs.Certificate.{Way}
use Rattle.mk_subject.specs.Subject.{Subject, reads_of}
use Rattle.mk_subject.specs.Reads.{Read}
use Rattle.mk_find.specs.FirstPaths.{IsAlongFirstPath}
use Rattle.mk_find.proofs.CarriedRecipes.{carried_are_recipes}
use Rattle.mk_find.specs.Certifying.{ReadNeedsWay, IsEntryFor, AreEntriesFor, nothing, entry, none, AddsEntries}

-- the reads of these files by a recipe
abbrev pub reads_of_files : ℕ → List (List ℕ) → List Read
reads_of_files t files = map (λ f. record { recipe = t; file = f }) files

-- entries one behind the other
entries_append : (x : Subject) (reads others : List Read) (ways more : List Way) → AreEntriesFor x reads ways → AreEntriesFor x others more → AreEntriesFor x (reads ++ others) (ways ++ more)
entries_append x [] others ways more nothing b = b
entries_append x (r ∷ reads) others ways more (entry {w} {ways = ws} needs is rest) b = entry needs is (entries_append x reads others ws more rest b)
entries_append x (r ∷ reads) others ways more (none out rest) b = none out (entries_append x reads others ways more rest b)

-- of no reads none is added
pub adds_no_entries : (x : Subject) (ways : List Way) → AddsEntries x [] ways ways
adds_no_entries x ways = record { more = []; right = nothing; added = sym (append-nil ways) }

-- what is added for some reads, and then for others
pub adds_more_entries : (x : Subject) (reads others : List Read) (old mid new : List Way) → AddsEntries x reads old mid → AddsEntries x others mid new → AddsEntries x (reads ++ others) old new
adds_more_entries x reads others old mid new a b = record {
  more = a.more ++ b.more;
  right = entries_append x reads others a.more b.more a.right b.right;
  added = b.added ∙ (ap (λ (l : List Way). l ++ b.more) a.added ∙ append_assoc old a.more b.more);
}

-- one read with its entry, and one without
pub adds_entry : (x : Subject) (r : Read) (w : Way) (old new : List Way) → ReadNeedsWay x r → IsEntryFor x r w → new ≡ old ++ w ∷ [] → AddsEntries x (r ∷ []) old new
adds_entry x r w old new needs is e = record { more = w ∷ []; right = entry needs is nothing; added = e }

pub adds_no_entry : (x : Subject) (r : Read) (old : List Way) → ¬ (ReadNeedsWay x r) → AddsEntries x (r ∷ []) old old
adds_no_entry x r old out = record { more = []; right = none out nothing; added = sym (append-nil old) }

-- what is added for the files before a place, and then for the one there
pub adds_next : (x : Subject) (t i : ℕ) (files : List (List ℕ)) (first old new : List Way) → i < length files → AddsEntries x (reads_of_files t (take i files)) first old → AddsEntries x (record { recipe = t; file = get_or files i [] } ∷ []) old new → AddsEntries x (reads_of_files t (take (i + 1) files)) first new
adds_next x t i files first old new low so one =
    let f = get_or files i [] in
    let r : Read = record { recipe = t; file = f } in
    let before = take i files in
    let more : reads_of_files t before ++ r ∷ [] ≡ reads_of_files t (take (i + 1) files) = sym (map_push (λ (g : List ℕ). record { recipe = t; file = g }) before f) ∙ ap (reads_of_files t) (sym (take_more files i [] low)) in
    subst (λ (l : List Read). AddsEntries x l first new) more (adds_more_entries x (reads_of_files t before) (r ∷ []) first old new so one)

-- the nodes along a first path are nodes of the graph
pub nodes_low : (x : Subject) (f : List ℕ) (t : ℕ) (nodes : List ℕ) (finish : Finish) → t < length x.graph.nodes → IsAlongFirstPath x f t nodes finish → (n : ℕ) → Has nodes n → n < length x.graph.nodes
nodes_low x f t nodes finish low goes n h = by (subst (λ (l : List ℕ). Has l n) goes.goes h)
  where
    by : Has (t ∷ reverse goes.way) n → n < length x.graph.nodes
    by (inl here) = subst (λ (m : ℕ). m < length x.graph.nodes) here low
    by (inr there) = recipe_is_node x.graph n (carried_are_recipes x t (reverse goes.way) goes.first.path.carried n there)

-- where nothing is found behind the reads of a recipe, nothing was found before them
pub nothing_before : (x : Subject) (all : List Candidate) (old new : List Finding) → Adds x all old new → new ≡ [] → old ≡ []
nothing_before x all old new a empty =
    let long : length new ≡ length old + length (map (named x) a.kept) = ap length a.added ∙ length-append old (map (named x) a.kept) in
    nil_from_length old (omega (arith, long, ap length empty))

-- nor was one of them kept
pub nothing_kept : (x : Subject) (all : List Candidate) (old new : List Finding) → Adds x all old new → new ≡ [] → Lists x all []
nothing_kept x all old new a empty =
    let long : length new ≡ length old + length (map (named x) a.kept) = ap length a.added ∙ length-append old (map (named x) a.kept) in
    let kept : length (map (named x) a.kept) ≡ length a.kept = length-map a.kept (named x) in
    subst (λ (l : List Candidate). Lists x all l) (nil_from_length a.kept (omega (arith, long, kept, ap length empty))) a.right

-- so no read of the recipe is stale
pub reads_not_stale : ListedExactly → (x : Subject) (t : ℕ) (old new : List Finding) → Adds x (map (λ f. stale t f) (reads_of x t)) old new → new ≡ [] → (f : List ℕ) → Has (reads_of x t) f → ¬ (IsStale x t f)
reads_not_stale listed x t old new a empty f h stale_it =
    (listed x (map (λ g. stale t g) (reads_of x t)) [] (nothing_kept x (map (λ g. stale t g) (reads_of x t)) old new a empty) (stale t f)).1 (Has-map (λ g. stale t g) (reads_of x t) f h, stale_it)
