use Rattle.std.proofs.Common.{rules, ◌≡◌, ◌∙◌, sym, ap, subst, false, get_or, Contains, All, List}
use Rattle.hg_marker.specs.Fields.{Fields}
use Rattle.std.proofs.lemmas.Bool.{false≢true}
use Rattle.std.proofs.lemmas.List.{take_all}
use Rattle.std.proofs.lemmas.List.Elements.{All-more}
use Rattle.hg_obsstore.proofs.store.Store.is_below.Goals as goal

pub returns-then-not-contains : goal.returns-then-not-contains
returns-then-not-contains c =
    let item = c.marker-item.is
    ∙ ap (λ (ms : List Fields). get_or ms c.loop-marker.marker-index c.marker-item.result)
    c.markers-marker-items.ensures.markers in
    let out : c.contains.result ≡ false = search rules in (
      (λ h. absurd (false≢true h)),
      (λ all. absurd
          (false≢true (sym out
          ∙ c.contains.ensures.1
          (subst (Contains c.args.other.now) (sym item)
          (all c.loop-marker.marker-index c.marker-item.result (search rules)))))),
    )

pub loop-marker-preserved : goal.loop-marker-preserved
loop-marker-preserved c =
    All-more (Contains c.args.other.now) _ _ c.marker-item.result (search rules) c.loop-marker.invariant
    (subst (Contains c.args.other.now) (c.marker-item.is
    ∙ ap (λ (ms : List Fields). get_or ms c.loop-marker.marker-index c.marker-item.result)
    c.markers-marker-items.ensures.markers) (c.contains.ensures.0 (search rules)))

pub returns : goal.returns
returns c =
    let all : All (Contains c.args.other.now) c.args.self.now =
    subst (All (Contains c.args.other.now)) (take_all c.loop-marker.marker-index c.args.self.now (search rules))
    c.loop-marker.invariant in
    ((λ h. all), (λ h. search rules))
