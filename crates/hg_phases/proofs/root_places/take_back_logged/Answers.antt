use Rattle.std.proofs.Common.{set, ◌≡◌, ◌<◌, sym, ap, ◌∙◌, ◌++◌, ◌∷◌, [], length, Some}
use Rattle.std.proofs.lemmas.List.{length-set}
use Rattle.std.proofs.lemmas.List.Elements.{All-pop}
use Rattle.hg_phases.specs.declared.lowered.LoweredPlace.{LoweredPlace}
use Rattle.hg_phases.specs.Log.{restored}
use Rattle.hg_phases.proofs.LogLemmas.{restored-push}
use Rattle.hg_phases.proofs.RootPlaceLemmas.{roots-set}
use Rattle.hg_phases.proofs.root_places.take_back_logged.Goals as goal

pub loop-place-preserved : goal.loop-place-preserved
loop-place-preserved c =
    let phases = c.loop-place.phases in
    let rest = c.pop.new.self.items in
    let e : LoweredPlace = c.in-Some.field-0 in
    let items : c.loop-place.log.items ≡ rest ++ e ∷ [] = c.in-Some.ensures.items in
    let set_is : c.set.new.self ≡ set phases e.place e.had = c.set.ensures in
    record {
      len = ap length set_is ∙ length-set phases e.place e.had ∙ c.loop-place.invariant.len;
      within = (All-pop (λ e. e.place < length c.args.graph.now) c.loop-place.log.items rest (Some e) items
          c.loop-place.invariant.within).0;
      rest = ap (λ ks. restored ks rest) set_is ∙ sym (restored-push phases rest e) ∙ ap (restored phases) (sym items)
          ∙ c.loop-place.invariant.rest;
      rooted = roots-set c.args.graph.now phases c.set.new.self e.place e.had c.loop-place.roots
          c.recompute_family.new.roots set_is c.loop-place.invariant.rooted c.recompute_family.ensures;
    }
