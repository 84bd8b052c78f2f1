-- Disks in lists and as the model has them.
use Rattle.std.proofs.Common.{◌≡◌, ℕ, ◌+◌, Bool, true, List, Option, Some, None, false, refl, ap, ◌∙◌}
use Rattle.std.specs.Bool.{OnTrue}
use Rattle.std.specs.Prelude.{option_map}
use Rattle.mk_build.specs.Setting.{FileName}
use Rattle.mk_build.specs.World.{changed, written, without}
use Rattle.mk_world.specs.declared.file.File.{File}
use Rattle.mk_world.specs.Tables.{look}
use Rattle.mk_world.specs.State.{DiskState, disk_of, file_of}
use Rattle.mk_world.proofs.Tables.{map_changed}

-- a writing in the table is a writing on the disk
pub written_is : (d : DiskState) (new : List (Option File)) (f : FileName) (c : ℕ) → look d.names new ≡ changed (look d.names d.files) f (Some (record { content = c; stamp = d.clock + 1 }))
    → disk_of (record { names = d.names; files = new; clock = d.clock + 1; known = d.known }) ≡ written (disk_of d) f c
written_is d new f c e =
    let at : (q : FileName) → option_map file_of (look d.names new q) ≡ changed (λ h. option_map file_of (look d.names d.files h)) f (Some (record { content = c; stamp = d.clock + 1 })) q =
    λ q. ap (λ (l : FileName → Option File). option_map file_of (l q)) e ∙ map_changed (option_map file_of) (look d.names d.files) f (Some (record { content = c; stamp = d.clock + 1 })) q in
    λ i. record { files = λ q. at q i; clock = d.clock + 1; known = d.known }

-- so is a removal
pub removed_is : (d : DiskState) (new : List (Option File)) (f : FileName) → look d.names new ≡ changed (look d.names d.files) f None
    → disk_of (record { names = d.names; files = new; clock = d.clock; known = d.known }) ≡ without (disk_of d) f
removed_is d new f e =
    let at : (q : FileName) → option_map file_of (look d.names new q) ≡ changed (λ h. option_map file_of (look d.names d.files h)) f None q =
    λ q. ap (λ (l : FileName → Option File). option_map file_of (l q)) e ∙ map_changed (option_map file_of) (look d.names d.files) f None q in
    λ i. record { files = λ q. at q i; clock = d.clock; known = d.known }

-- a fact for a test that holds
pub from_true : {P : Type 0} (b : Bool) → (b ≡ true → P) → OnTrue b P
from_true true h = h refl
from_true false h = tt
