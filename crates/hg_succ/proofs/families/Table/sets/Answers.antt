use Rattle.std.proofs.Common.{◌≡◌, refl, sym, ap, ◌∙◌, Some}
use Rattle.std.proofs.lemmas.Option.{none-some}
use Rattle.hg_replica.specs.Content.{content_of}
use Rattle.hg_succ.specs.declared.families.Solved.{Solved}
use Rattle.hg_succ.specs.declared.families.Solved.TheVariants.{Family, Overfull}
use Rattle.hg_succ.specs.Answer.{sets_of}
use Rattle.hg_succ.specs.Cover.{answer, sets_at}
use Rattle.hg_succ.proofs.SolveLemmas.{told_family}
use Rattle.hg_succ.proofs.families.Table.sets.Goals as goal

pub returns-in_ok-family-in-Some-Family : goal.returns-in_ok-family-in-Some-Family
returns-in_ok-family-in-Some-Family c =
    let f = content_of c.args.replica.now in
    let t = c.args.self.now in
    let n = c.args.node in
    let place = c.in-Some-Family.place in
    let is : answer t n ≡ Some (Family place) = sym c.in-Some-Family.ensures
    ∙ ap (λ (e : Solved). Some e) c.in-Some-Family.field-0-is in
    told_family f n (sets_at t.families.items place) (sets_of c.in_ok-family-in-Some-Family.family.items)
    (c.requires.table.right n (Family place) is).1
    (c.in_ok-family-in-Some-Family.ensures ∙ c.family_at.ensures ∙ ap (sets_at t.families.items)
    c.in-Some-Family.place-is)

pub returns-in-Some-Overfull : goal.returns-in-Some-Overfull
returns-in-Some-Overfull c =
    let is : answer c.args.self.now c.args.node ≡ Some Overfull = sym c.in-Some-Overfull.ensures
    ∙ ap (λ (e : Solved). Some e) c.in-Some-Overfull.field-0-is in
    (c.requires.table.right c.args.node Overfull is).1

pub returns-in_ok-family-in-None : goal.returns-in_ok-family-in-None
returns-in_ok-family-in-None c = told_family (content_of c.args.replica.now) c.args.node
    _ _ c.in_ok-family-in-None.ensures refl

pub own_set-requires : goal.own_set-requires
own_set-requires c is = (let h = c.requires.done is in none-some h.0 (c.in-None.ensures ∙ h.1))
