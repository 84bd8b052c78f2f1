-- Why a walk terminates: only finitely many names have prerequisites.
use Rattle.std.specs.Prelude.{ℕ, ◌+◌, List, [], ◌∷◌, ◌++◌, length, map, if◌then◌else◌}
use Rattle.std.specs.List.{flat_map}
use Rattle.mk_read.specs.Names.{has_name}
use Rattle.mk_read.specs.Reading.{Makefile}
use Rattle.mk_infer.specs.Inference.{but_last}
use Rattle.mk_infer.specs.Selection.{needs}
use Rattle.mk_infer.specs.Table.{targets_in}
use Rattle.mk_infer.specs.There.{Exists}

-- the names that count as present
abbrev pub names_there : Makefile → Exists → List (List ℕ)
names_there m e = e.sources ++ (e.texts ++ (targets_in m.rules ++ e.more))

-- the names that arise from a present name if its suffix is removed or replaced by a known one
abbrev pub made_from : Makefile → List ℕ → List ℕ → List (List ℕ)
made_from m name suffix =
    but_last (length suffix) name ∷
    map (λ other. but_last (length suffix) name ++ other) m.suffixes

-- the names that an inference rule can make
abbrev pub inferable : Makefile → Exists → List (List ℕ)
inferable m e = flat_map (λ name. flat_map (made_from m name) m.suffixes) (names_there m e)

-- the names that can have prerequisites
abbrev pub needing : Makefile → Exists → List (List ℕ)
needing m e = targets_in m.rules ++ inferable m e

-- the total number of prerequisites of those of the names that weren't visited
unfoldable pub weight : (List ℕ → List (List ℕ)) → List (List ℕ) → List (List ℕ) → ℕ
weight needs met [] = 0
weight needs met (name ∷ names) =
    (if has_name met name then 0 else length (needs name)) + weight needs met names

-- a bound on the number of names that a walk still visits, given the visited and remaining names
abbrev pub left_to_do : Makefile → Exists → List (List ℕ) → List (List ℕ) → ℕ
left_to_do m e met names = weight (needs m e) met (needing m e) + length names
