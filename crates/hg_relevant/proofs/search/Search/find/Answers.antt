use Rattle.std.proofs.Common.{rules, ◌≡◌, false, refl, sym, ◌∙◌}
use Rattle.std.proofs.lemmas.Bool.{true≢false}
use Rattle.std.proofs.lemmas.List.{get_or_read}
use Rattle.hg_relevant.proofs.SearchLemmas.{finds-new}
use Rattle.hg_relevant.proofs.search.Search.find.Goals as goal

pub returns-in_ok-push : goal.returns-in_ok-push
returns-in_ok-push c =
    let read = get_or_read c.args.self.now.found.items c.args.place c.index.result.now c.requires c.index.ensures
    false in
    let new : c.index.result.now ≡ false = search rules in
    finds-new c.args.place c.args.self.now _ c.requires (λ h. true≢false (sym h ∙ sym read ∙ new)) refl
    c.in_ok-push.ensures.items refl
