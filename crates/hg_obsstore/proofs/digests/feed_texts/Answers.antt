use Rattle.std.proofs.Common.{◌++◌, ◌∷◌, [], ◌∙◌, ap, sym, subst, List, ℕ}
use Rattle.std.proofs.lemmas.List.{append-nil}
use Rattle.sha1.specs.Sha1.{Holds}
use Rattle.hg_obsstore.specs.Digests.{texts_bytes}
use Rattle.hg_obsstore.proofs.DigestLemmas.{entry_fed}
use Rattle.hg_obsstore.proofs.digests.feed_texts.Goals as goal

pub loop-key-preserved : goal.loop-key-preserved
loop-key-preserved c = λ m h.
    let so_far = c.loop-key.invariant m h in
    let k = c.in-Some.key.now in
    let v = c.in-Some.value.now in (
      (((so_far.0 ++ 0 ∷ []) ++ k) ++ 58 ∷ []) ++ v,
      c.update-in-loop-key-3.ensures _ (c.update-in-loop-key-2.ensures _
          (c.update-in-loop-key.ensures _ (c.update.ensures _ so_far.1))),
      entry_fed so_far.0 k v (texts_bytes c.next.new.self)
          ∙ ap (λ (es : List (List ℕ × List ℕ)). so_far.0 ++ texts_bytes es) (sym c.in-Some.ensures.steps)
          ∙ so_far.2,
    )

pub returns : goal.returns
returns c = λ m h.
    let so_far = c.loop-key.invariant m h in
    subst (Holds c.loop-key.hasher)
    (sym (append-nil so_far.0)
    ∙ ap (λ (es : List (List ℕ × List ℕ)). so_far.0 ++ texts_bytes es) (sym c.in-None.ensures.steps.0) ∙ so_far.2)
    so_far.1
