use Rattle.std.proofs.Common.{◌∙◌, List, ap, string_bytes, subst, ℕ}
use Rattle.hgfleet.specs.Trying.{IsUnread}
use Rattle.hgfleet.proofs.TryingLemmas.{unread_among}
use Rattle.hgfleet.proofs.trying.read_files.Goals as goal

pub returns-in-Err-clause-unread : goal.returns-in-Err-clause-unread
returns-in-Err-clause-unread g c =
    let name = c.as_str.ensures.value ∙ ap string_bytes c.name-item.is in
    unread_among c.args.names.now c.loop-name.name-index c.name-item.result c.in-Err.failure c.loop-name-test.true
    (subst (λ (n : List ℕ). IsUnread n c.in-Err.failure) name c.in-Err.ensures)
