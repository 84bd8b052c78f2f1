-- Files with what is known of them.
use Rattle.std.proofs.Common.{◌≡◌, ◌∙◌, ◌<◌, [], ℕ, List, ap, sym, subst, get_or, length}
use Rattle.mk_lemmas.proofs.Members.{Has-get_or}
use Rattle.mk_graph.specs.Membership.{Has}
use Rattle.mk_subject.specs.Subject.{Subject, writes_of}
use Rattle.mk_subject.specs.Target.{Target, target_of}

-- what is known of it is known by its name
pub by_name : (x : Subject) (file : Target) (f : List ℕ) → file ≡ target_of x f → file ≡ target_of x file.file
by_name x file f same = same ∙ sym (ap (λ (k : Target). target_of x k.file) same)

-- the file at a place of what the recipe of a node writes, the node by two numbers that are one
module _ (x : Subject) (file : Target) (n t i : ℕ) (number : n ≡ t) (same : file ≡ target_of x (get_or (writes_of x n) i [])) where
  pub written_at : get_or (writes_of x t) i [] ≡ file.file
  written_at = ap (λ (k : ℕ). get_or (writes_of x k) i []) (sym number) ∙ sym (ap (λ (k : Target). k.file) same)

  pub is_written : i < length (writes_of x t) → Has (writes_of x t) file.file
  is_written low = subst (λ (f : List ℕ). Has (writes_of x t) f) written_at (Has-get_or (writes_of x t) i [] low)
