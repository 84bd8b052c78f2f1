-- What is counted of entries is what is counted of their nodes.
use Rattle.std.proofs.Common.{◌≡◌, ℕ, ◌+◌, List, [], ◌∷◌, length, map, refl, sym, ap, ◌∙◌}
use Rattle.std.specs.Prelude.{All, sum_by}
use Rattle.std.proofs.lemmas.List.Elements.{All-head, All-tail}
use Rattle.std.proofs.lemmas.List.Sums.{sum_by-cons}
use Rattle.mk_subject.proofs.Entries.{same_writes}
use Rattle.mk_foot.specs.Setting as foot
use Rattle.mk_subject.specs.Subject.{Subject, writes_of}
use Rattle.mk_subject.specs.NodeRow.{NodeRow, IsRow, row_writes}

pub writes_counted : (x : Subject) (entries : List NodeRow) → All (IsRow x) entries → sum_by (λ (e : NodeRow). length (row_writes e)) entries ≡ sum_by (λ t. length (writes_of x t)) (map (λ (e : NodeRow). e.number) entries)
writes_counted x [] h = refl
writes_counted x (e ∷ es) h =
    let same : length (row_writes e) ≡ length (writes_of x e.number) = ap (λ (fs : List (List ℕ)). length fs) (same_writes x e (All-head (IsRow x) e es h)) in
    sum_by-cons (λ (k : NodeRow). length (row_writes k)) e es
    ∙ (ap (λ n. n + sum_by (λ (k : NodeRow). length (row_writes k)) es) same
    ∙ (ap (λ n. length (writes_of x e.number) + n) (writes_counted x es (All-tail (IsRow x) e es h))
    ∙ sym (sum_by-cons (λ t. length (writes_of x t)) e.number (map (λ (k : NodeRow). k.number) es))))
