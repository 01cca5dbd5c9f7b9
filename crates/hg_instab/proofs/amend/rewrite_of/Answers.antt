use Rattle.std.proofs.lemmas.Option.{IfSome_then}
use Rattle.hg_instab.proofs.amend.rewrite_of.Goals as goal

pub returns-in-Some : goal.returns-in-Some
returns-in-Some c =
    IfSome_then c.rewrite_to.result c.rewrite_to.ensures (λ amend rewrite. rewrite c.in-Some.ensures)
