use Rattle.std.proofs.Common.{◌≡◌, ℕ, List, length, Ok, subst, arith}
use Rattle.std.proofs.lemmas.Result.{IfOk-weaker}
use Rattle.std.specs.Result.{IfOk}
use Rattle.hg_changeset.proofs.ListLemmas.{take-drop_rest}
use Rattle.hg_obsstore.specs.Faults.{markers_at}
use Rattle.hg_obsstore.proofs.FormatLemmas.{store_checked, store_empty}
use Rattle.hg_obsstore.proofs.format.read_checked.Goals as goal

pub returns-in-empty-clause-read : goal.returns-in-empty-clause-read
returns-in-empty-clause-read c =
    store_empty c.args.bytes.now c.new.result.items c.in-empty.len_below c.new.ensures.items

pub returns-in-len1-up-clause-read : goal.returns-in-len1-up-clause-read
returns-in-len1-up-clause-read c =
    let bytes = c.args.bytes.now in
    let read = subst
    (λ (rest : List ℕ). IfOk c.read_to_end.result
    (λ ms. markers_at (length bytes) (length rest) rest ≡ Ok ms.items)) (take-drop_rest bytes 1)
    (c.read_to_end.ensures.read (length bytes)) in
    IfOk-weaker c.read_to_end.result _ _
    (λ ms r. store_checked bytes ms.items (omega (arith, c.in-len1-up.len_at_least)) c.requires r) read
