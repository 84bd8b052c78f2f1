-- Certificates, in lists of bytes.
use Rattle.std.specs.Prelude.{ℕ, List}
use Rattle.mk_cert_text.specs.declared.certificate.Finish.{Finish}

-- how a change of a file reaches a recipe that reads it: the recipe, the file, the recipes on the
-- path, and how the path ends
pub record Way : Type 0 where
  pub recipe : List ℕ
  pub file : List ℕ
  pub path : List (List ℕ)
  pub finish : Finish

-- the goals that were checked, and the ways
pub record Certificate : Type 0 where
  pub goals : List (List ℕ)
  pub ways : List Way
