-- Paths are ways, and ways are paths.
use Rattle.std.proofs.Common.{◌≡◌, ℕ, List, [], ◌∷◌, refl}
use Rattle.mk_graph.specs.Graph.{Graph}
use Rattle.mk_build.specs.Setting.{FileName, Setting}
use Rattle.mk_build.specs.Ways.{Way, over, written, source, always, Carries}
use Rattle.mk_cert_text.specs.declared.certificate.Finish.{Finish}
use Rattle.mk_cert_text.specs.declared.certificate.Finish.TheVariants.{Written, Source, Always}
use Rattle.mk_subject.specs.Paths.{AreCarried, last_of, EndsAt, IsPath}

-- a path with others is a way
along : (g : Graph) (s : Setting) (f : FileName) (finish : Finish) (t o : ℕ) (others : List ℕ) → Carries g s t o → AreCarried g s o others → EndsAt g s f finish (last_of o others) → Way g s f t
along g s f Written t o [] here tt ends = written o here ends
along g s f Source t o [] here tt (editable, needs) = over o here (source editable needs)
along g s f Always t o [] here tt ends = over o here (always ends)
along g s f finish t o (p ∷ others) here (next, more) ends = over o here (along g s f finish o p others next more ends)

pub path_is_way : (g : Graph) (s : Setting) (f : FileName) (finish : Finish) (t : ℕ) (others : List ℕ) → IsPath g s f finish t others → Way g s f t
path_is_way g s f Written t [] path = absurd (path.not_alone refl refl)
path_is_way g s f Source t [] path = source path.ends.0 path.ends.1
path_is_way g s f Always t [] path = always path.ends
path_is_way g s f finish t (o ∷ others) path = along g s f finish t o others path.carried.0 path.carried.1 path.ends

-- a way is a path
pub way_is_path : (g : Graph) (s : Setting) (f : FileName) (t : ℕ) → Way g s f t → (finish : Finish) × (others : List ℕ) × IsPath g s f finish t others
way_is_path g s f t (over o here more) =
    let (finish, others, path) = way_is_path g s f o more in
    (finish, o ∷ others, record { carried = (here, path.carried); ends = path.ends; not_alone = λ e none. absurd (let k : o ∷ others ≡ [] = none in cc) })
way_is_path g s f t (written o here wrote) = (Written, o ∷ [], record { carried = (here, tt); ends = wrote; not_alone = λ e none. absurd (let k : o ∷ [] ≡ [] = none in cc) })
way_is_path g s f t (source editable needs) = (Source, [], record { carried = tt; ends = (editable, needs); not_alone = λ e none. absurd (let k : Source ≡ Written = e in cc) })
way_is_path g s f t (always made) = (Always, [], record { carried = tt; ends = made; not_alone = λ e none. absurd (let k : Always ≡ Written = e in cc) })
