-- What is known of a record beside its parts.
use Rattle.std.proofs.Common.{◌≡◌, ℕ, Bool, true, ◌&&◌, List, ◌∙◌, Ok, refl, sym, subst}
use Rattle.std.specs.List.{list_all}
use Rattle.std.proofs.lemmas.Bool.{and_parts}
use Rattle.mk_lines.specs.Paths.{is_plain_path}
use Rattle.mk_foot.specs.Checks.{entry_is_plain}
use Rattle.mk_foot.specs.Names.{once}
use Rattle.mk_foot.specs.Parts.{RawRecord}

-- its names are plain paths
pub known_plain : (entry : RawRecord) (target : List ℕ) (reads writes : List (List ℕ)) (plain : Bool) → target ≡ entry.target → reads ≡ entry.reads → writes ≡ entry.writes
    → plain ≡ (is_plain_path target && list_all is_plain_path reads && list_all is_plain_path writes) → plain ≡ true → entry_is_plain entry ≡ Ok tt
unfolding entry_is_plain
known_plain entry target reads writes plain at own others is holds =
    let first = and_parts (is_plain_path target && list_all is_plain_path reads) (list_all is_plain_path writes) (sym is ∙ holds) in
    let second = and_parts (is_plain_path target) (list_all is_plain_path reads) first.0 in
    rw (← at, second.0, ← own, second.1, ← others, first.1) refl

-- no name comes twice among its reads, nor among its writes
pub known_apart : (reads writes same_reads same_writes : List (List ℕ)) → reads ≡ same_reads → writes ≡ same_writes → (once reads ≡ reads) × (once writes ≡ writes) → (once same_reads ≡ same_reads) × (once same_writes ≡ same_writes)
known_apart reads writes same_reads same_writes own others apart = (subst (λ names. once names ≡ names) own apart.0, subst (λ names. once names ≡ names) others apart.1)
