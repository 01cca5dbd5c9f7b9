use Rattle.std.proofs.lemmas.Result.{IfOk-weaker}
use Rattle.hg_message.proofs.OfferLemmas.{if_ok_both}
use Rattle.hg_message.proofs.outgoing.named_marks.Goals as goal

pub returns-in-Served : goal.returns-in-Served
returns-in-Served c = rw c.in-Served.is (IfOk-weaker c.served_marks.result _ _
    (λ marks h. record { len = h.0; exact = h.1 })
    (if_ok_both _ _ c.served_marks.result c.served_marks.ensures.len c.served_marks.ensures.exact))

pub returns-in-Whole : goal.returns-in-Whole
returns-in-Whole c = rw c.in-Whole.is (IfOk-weaker c.shared_marks.result _ _
    (λ marks h. record { len = h.0; exact = h.1 })
    (if_ok_both _ _ c.shared_marks.result c.shared_marks.ensures.len c.shared_marks.ensures.exact))
