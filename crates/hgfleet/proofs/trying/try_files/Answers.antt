use Rattle.std.proofs.Common.{List, String, subst}
use Rattle.std.specs.declared.alloc.Global.{Global}
use Rattle.hgfleet.specs.Trying.{IsUnreadAmong}
use Rattle.hgfleet.proofs.TryingLemmas.{unread_ends_trial}
use Rattle.hgfleet.proofs.trying.try_files.Goals as goal

pub returns-in-Err-clause-failed : goal.returns-in-Err-clause-failed
returns-in-Err-clause-failed g c =
    unread_ends_trial c.args.wanted.now _ c.in-Err.failure
    (subst (λ (names : List (String Global)). IsUnreadAmong names c.in-Err.failure) c.deref.ensures.value
    c.in-Err.ensures.unread)
