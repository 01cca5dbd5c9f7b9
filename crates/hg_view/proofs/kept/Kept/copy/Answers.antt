use Rattle.std.proofs.Common.{◌≡◌}
use Rattle.std.proofs.lemmas.List.Elements.{same_from_all_zip}
use Rattle.hg_view.proofs.kept.Kept.copy.Goals as goal

pub invariant_of-result : goal.invariant_of-result
invariant_of-result c =
    let same : c.in_ok-upheld.upheld.keys ≡ c.self.inside.upheld.keys =
    same_from_all_zip _ c.self.inside.upheld.keys c.in_ok-upheld.upheld.keys
    c.in_ok-upheld.ensures.cases (λ x y e. e) in
    rw (c.in_ok-replica.ensures, c.in_ok-pins.ensures, c.in_ok-instabilities.ensures, same, c.in_ok-heads.ensures)
    c.self.invariant
