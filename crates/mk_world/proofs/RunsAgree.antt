-- A whole run writes the same contents in a plan and in a schedule that is made node by node.
use Rattle.std.proofs.Common.{◌≡◌, ℕ, ◌+◌, ◌<◌, List, [], ◌∷◌, ◌++◌, length, map, Option, Some, None, refl, ap, subst, min, arith, inl, inr, ◌⊎◌}
use Rattle.std.specs.Prelude.{unwrap_or}
use Rattle.mk_graph.specs.Graph.{Graph}
use Rattle.mk_build.specs.Setting.{FileName, Setting, reads, writes}
use Rattle.mk_build.specs.World.{Disk, Making, World, Idle, Busy, content, last_stamp, written, outcome}
use Rattle.mk_build.specs.Steps.{Step, Look, End, IsLegal, after, after_all, begun, looked, has_put}
use Rattle.mk_build.specs.SerialMake.{puts, whole_run}
use Rattle.mk_build.specs.NodeByNode.{next_stamps}
use Rattle.mk_world.specs.Running.{new_stamps}
use Rattle.mk_world.specs.RunLaws.{WholeRunsAgree}

-- the front of a trace is a trace
pub legal_front : (g : Graph) (s : Setting) (w : World) (xs ys : List Step) → IsLegal g s w (xs ++ ys) → IsLegal g s w xs
legal_front g s w [] ys h = tt
legal_front g s w (x ∷ xs) ys h = (h.0, legal_front g s (after g s w x) xs ys h.1)

-- and what stands behind it is one from the world that it leaves
pub legal_behind : (g : Graph) (s : Setting) (w : World) (xs ys : List Step) → IsLegal g s w (xs ++ ys) → IsLegal g s (after_all g s w xs) ys
legal_behind g s w [] ys h = h
legal_behind g s w (x ∷ xs) ys h = legal_behind g s (after g s w x) xs ys h.1

-- looks leave the disk
looks_leave : (g : Graph) (s : Setting) (t : ℕ) (files : List FileName) (m : Making) (d : Disk) → (end : Making) × (after_all g s (Busy m d) (map (λ f. Look t f) files) ≡ Busy end d)
looks_leave g s t [] m d = (m, refl)
looks_leave g s t (f ∷ files) m d = looks_leave g s t files (looked m t f (content d f)) d

min_small : (clock : ℕ) → clock < last_stamp → min (clock + 1) last_stamp ≡ clock + 1
min_small clock lt = omega arith

-- where as many puts as there are files are allowed, no stamp that they take is beyond the last one
puts_stamps : (g : Graph) (s : Setting) (t : ℕ) (files : List FileName) (cs : List ℕ) (m : Making) (d : Disk) (clock : ℕ) → length cs ≡ length files → d.clock ≡ clock → IsLegal g s (Busy m d) (puts t files cs) → new_stamps clock files ≡ next_stamps clock (length files)
puts_stamps g s t [] cs m d clock many e h = refl
puts_stamps g s t (f ∷ files) [] m d clock many e h = absurd (omega (arith, many))
puts_stamps g s t (f ∷ files) (c ∷ cs) m d clock many e h =
    let room : d.clock < last_stamp = h.0.2 in
    let first = min_small clock (subst (λ k. k < last_stamp) e room) in
    let fewer : length cs ≡ length files = omega (arith, many) in
    let rest = puts_stamps g s t files cs (has_put m t f c) (written d f c) (clock + 1) fewer (ap (λ k. k + 1) e) h.1 in
    λ i. first i ∷ rest i

many_new : (clock : ℕ) (files : List FileName) → length (new_stamps clock files) ≡ length files
many_new clock [] = refl
many_new clock (f ∷ files) = let rest = many_new (clock + 1) files in omega (arith, rest)

many_next : (clock : ℕ) (files : List FileName) → length (next_stamps clock (length files)) ≡ length files
many_next clock [] = refl
many_next clock (f ∷ files) = let rest = many_next (clock + 1) files in omega (arith, rest)

-- a whole run that writes as many contents as there are files has stamps for them
run_stamps : (g : Graph) (s : Setting) (m : Making) (d : Disk) (t : ℕ) (cs : List ℕ) → length cs ≡ length (writes g s t) → IsLegal g s (Busy m d) (whole_run g s t cs) → new_stamps d.clock (writes g s t) ≡ next_stamps d.clock (length (writes g s t))
run_stamps g s m d t cs many h =
    let looks = looks_leave g s t (reads g s t) (begun m t) d in
    let behind = legal_behind g s (Busy (begun m t) d) (map (λ f. Look t f) (reads g s t)) (puts t (writes g s t) cs ++ End t ∷ []) h.1 in
    let here = subst (λ (w : World). IsLegal g s w (puts t (writes g s t) cs ++ End t ∷ [])) looks.1 behind in
    puts_stamps g s t (writes g s t) cs looks.0 d d.clock many refl (legal_front g s (Busy looks.0 d) (puts t (writes g s t) cs) (End t ∷ []) here)

known_or_stamps : (g : Graph) (s : Setting) (m : Making) (d : Disk) (t : ℕ) (known : Option (List ℕ))
    → IsLegal g s (Busy m d) (whole_run g s t (unwrap_or known (new_stamps d.clock (writes g s t))))
    ⊎ IsLegal g s (Busy m d) (whole_run g s t (unwrap_or known (next_stamps d.clock (length (writes g s t)))))
    → unwrap_or known (new_stamps d.clock (writes g s t)) ≡ unwrap_or known (next_stamps d.clock (length (writes g s t)))
known_or_stamps g s m d t (Some known) h = refl
known_or_stamps g s m d t None (inl h) = run_stamps g s m d t (new_stamps d.clock (writes g s t)) (many_new d.clock (writes g s t)) h
known_or_stamps g s m d t None (inr h) = run_stamps g s m d t (next_stamps d.clock (length (writes g s t))) (many_next d.clock (writes g s t)) h

pub runs_agree : WholeRunsAgree
runs_agree g s (Idle d) t (inl h) = absurd h.0
runs_agree g s (Idle d) t (inr h) = absurd h.0
runs_agree g s (Busy m d) t h = known_or_stamps g s m d t (outcome d.known t (map (content d) (reads g s t))) h
