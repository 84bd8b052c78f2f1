-- The walk of names by one list of names to do: what is met from here is met in all.
use Rattle.std.proofs.Common.{◌≡◌, ℕ, ◌+◌, ◌<◌, true, false, List, [], ◌∷◌, ◌++◌, reverse, length, sym, ap, subst, ◌∙◌, append_assoc, append-nil, arith}
use Rattle.std.specs.Borrow.{Bor}
use Rattle.std.proofs.lemmas.Bool.{both_ways}
use Rattle.std.proofs.lemmas.List.{map-append, reverse-append, reverse-reverse, length-map, length-reverse}
use Rattle.mk_lemmas.proofs.Texts.{texts}
use Rattle.mk_lines.proofs.NameTests.{Has-from_has_name, has_name-from_Has}
use Rattle.mk_graph.specs.Membership.{Has}
use Rattle.mk_lines.specs.Names.{has_name}
use Rattle.mk_read.specs.Reading.{Makefile}
use Rattle.mk_infer.specs.Ends.{needing, weight}
use Rattle.mk_infer.specs.Laws.{NewNamesLeaveLess}
use Rattle.mk_infer.specs.Selection.{needs}
use Rattle.mk_infer.specs.There.{Exists}
use Rattle.mk_infer.specs.Walk.{Meets, ends, known, new}

-- ---- a walk by one list

-- a walk of some names, and then of others
record Parted (needs : List ℕ → List (List ℕ)) (met front rest all : List (List ℕ)) : Type 0 where
  below : List (List ℕ)
  walked : Meets needs met front below
  left : Meets needs below rest all

parted : {needs : List ℕ → List (List ℕ)} {met all : List (List ℕ)} (front rest : List (List ℕ)) → Meets needs met (front ++ rest) all → Parted needs met front rest all
parted [] rest m = record { below = _; walked = ends; left = m }
parted (name ∷ front) rest (known h m) =
    let p = parted front rest m in
    record { below = p.below; walked = known h p.walked; left = p.left }
parted (name ∷ front) rest (new u m1 m2) =
    let p = parted front rest m2 in
    record { below = p.below; walked = new u m1 p.walked; left = p.left }

-- what a new name needs comes before the names that are left
pub goes_deeper : {needs : List ℕ → List (List ℕ)} {met rest all : List (List ℕ)} {name : List ℕ} → ¬ (Has met name) → Meets needs (met ++ name ∷ []) (needs name ++ rest) all → Meets needs met (name ∷ rest) all
goes_deeper {needs} {rest} {name} u m = let p = parted (needs name) rest m in new u p.walked p.left

-- what was met stays in front
pub stays_front : {needs : List ℕ → List (List ℕ)} {met names all : List (List ℕ)} → Meets needs met names all → (more : List (List ℕ)) × (all ≡ met ++ more)
stays_front {met} ends = ([], sym (append-nil met))
stays_front (known h m) = stays_front m
stays_front {met} (new {name} u m1 m2) =
    let r = stays_front m1 in
    let s = stays_front m2 in
    (name ∷ (r.0 ++ s.0), s.1 ∙ (ap (λ (ns : List (List ℕ)). ns ++ s.0) r.1 ∙ (append_assoc (met ++ name ∷ []) r.0 s.0 ∙ append_assoc met (name ∷ []) (r.0 ++ s.0))))

-- from here on the same is met in all
abbrev pub Continues : (List ℕ → List (List ℕ)) → List (List ℕ) → List (Bor (List ℕ)) → List (List ℕ) → Type 0
Continues needs met todo goals = (all : List (List ℕ)) → Meets needs met (texts (reverse todo)) all → Meets needs [] goals all

pub reverse_last : (todo rest : List (Bor (List ℕ))) (name : Bor (List ℕ)) → todo ≡ rest ++ name ∷ [] → texts (reverse todo) ≡ name.now ∷ texts (reverse rest)
reverse_last todo rest name e = ap (λ ns. texts (reverse ns)) e ∙ ap texts (reverse-append rest (name ∷ []))

-- a name that isn't found isn't met
pub unmet : (met : List (List ℕ)) (name : List ℕ) → has_name met name ≡ false → ¬ (Has met name)
unmet met name h there = both_ways (has_name met name) h (has_name-from_Has met name there)

-- a name that is met already
pub walk_known : (needs : List ℕ → List (List ℕ)) (met after goals : List (List ℕ)) (todo rest : List (Bor (List ℕ))) (name : Bor (List ℕ)) → todo ≡ rest ++ name ∷ [] → has_name met name.now ≡ true → after ≡ met → Continues needs met todo goals → Continues needs after rest goals
walk_known needs met after goals todo rest name e h same k = λ all m.
    k all (subst (λ (ns : List (List ℕ)). Meets needs met ns all) (sym (reverse_last todo rest name e)) (known (Has-from_has_name met name.now h) (subst (λ (ms : List (List ℕ)). Meets needs ms (texts (reverse rest)) all) same m)))

-- what is to do behind a new name
left_behind : (needs : List ℕ → List (List ℕ)) (rest words more : List (Bor (List ℕ))) (name : List ℕ) → texts words ≡ needs name → more ≡ rest ++ reverse words → texts (reverse more) ≡ needs name ++ texts (reverse rest)
left_behind needs rest words more name are pushed =
    ap (λ ns. texts (reverse ns)) pushed ∙ (ap texts (reverse-append rest (reverse words) ∙ ap (λ ws. ws ++ reverse rest) (reverse-reverse words)) ∙ (map-append (λ (n : Bor (List ℕ)). n.now) words (reverse rest) ∙ ap (λ ws. ws ++ texts (reverse rest)) are))

-- a new name
pub walk_new : (needs : List ℕ → List (List ℕ)) (met after goals : List (List ℕ)) (todo rest words more : List (Bor (List ℕ))) (name : Bor (List ℕ)) → todo ≡ rest ++ name ∷ [] → has_name met name.now ≡ false → after ≡ met ++ name.now ∷ []
    → texts words ≡ needs name.now → more ≡ rest ++ reverse words → Continues needs met todo goals → Continues needs after more goals
walk_new needs met after goals todo rest words more name e h grown are pushed k = λ all m.
    let left : texts (reverse more) ≡ needs name.now ++ texts (reverse rest) = left_behind needs rest words more name.now are pushed in
    k all (subst (λ (ns : List (List ℕ)). Meets needs met ns all) (sym (reverse_last todo rest name e))
    (goes_deeper (unmet met name.now h) (subst (λ (ns : List (List ℕ)). Meets needs (met ++ name.now ∷ []) ns all) left (subst (λ (ms : List (List ℕ)). Meets needs ms (texts (reverse more)) all) grown m))))

-- at the start
pub walk_start : (needs : List ℕ → List (List ℕ)) (met : List (List ℕ)) (goals todo : List (Bor (List ℕ))) → met ≡ [] → todo ≡ reverse goals → Continues needs met todo (texts goals)
walk_start needs met goals todo none turned = λ all m.
    subst (λ (ms : List (List ℕ)). Meets needs ms (texts goals) all) none (subst (λ (ns : List (List ℕ)). Meets needs met ns all) (ap (λ ns. texts (reverse ns)) turned ∙ ap texts (reverse-reverse goals)) m)

-- at the end
pub walk_end : (needs : List ℕ → List (List ℕ)) (met goals : List (List ℕ)) (todo : List (Bor (List ℕ))) → todo ≡ [] → Continues needs met todo goals → Meets needs [] goals met
walk_end needs met goals todo none k = k met (subst (λ (ns : List (List ℕ)). Meets needs met ns met) (sym (ap (λ ns. texts (reverse ns)) none)) ends)

-- ---- what is to do

-- as many names as are to do, in the order in which they are done
pub turned_length : (todo : List (Bor (List ℕ))) → length (texts (reverse todo)) ≡ length todo
turned_length todo = length-map (reverse todo) (λ (w : Bor (List ℕ)). w.now) ∙ length-reverse todo

-- it falls at a new name
pub less_new : NewNamesLeaveLess → (m : Makefile) (e : Exists) (met after : List (List ℕ)) (todo rest words more : List (Bor (List ℕ))) (name : Bor (List ℕ)) → todo ≡ rest ++ name ∷ [] → has_name met name.now ≡ false → after ≡ met ++ name.now ∷ []
    → texts words ≡ needs m e name.now → more ≡ rest ++ reverse words → weight (needs m e) after (needing m e) + length more < weight (needs m e) met (needing m e) + length todo
less_new leave m e met after todo rest words more name is h grown are pushed =
    let less = leave m e met (texts (reverse rest)) name.now h in
    let long : length (needs m e name.now ++ texts (reverse rest)) ≡ length more = sym (ap length (left_behind (needs m e) rest words more name.now are pushed)) ∙ turned_length more in
    let longer : length (name.now ∷ texts (reverse rest)) ≡ length todo = sym (ap length (reverse_last todo rest name is)) ∙ turned_length todo in
    let alike : weight (needs m e) after (needing m e) ≡ weight (needs m e) (met ++ name.now ∷ []) (needing m e) = ap (λ (ms : List (List ℕ)). weight (needs m e) ms (needing m e)) grown in
    omega arith
