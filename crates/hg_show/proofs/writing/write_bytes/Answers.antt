use Rattle.std.proofs.Common.{[], ◌++◌, ◌∙◌, List, ap, append-nil, append_assoc, rules, subst, sym, ℕ}
use Rattle.std.proofs.KnownBytes.{Appends-nil, Appends-trans}
use Rattle.std.proofs.lemmas.List.{nil_from_length}
use Rattle.std.specs.Io.KnownBytes.{Appends}
use Rattle.hg_show.proofs.writing.write_bytes.Goals as goal

pub loop-piece-init : goal.loop-piece-init
loop-piece-init g c = (search rules, ([], Appends-nil _, search rules))

pub loop-piece-preserved : goal.loop-piece-preserved
loop-piece-preserved g c =
    let before = c.loop-piece.invariant.1 in
    let piece = c.in-Some.piece.now in (
      search rules,
      (
        before.0 ++ piece,
        Appends-trans _ _ _ before.0 piece before.1 c.in-Ok.ensures.bytes,
        append_assoc before.0 piece _ ∙ ap (λ (rest : List ℕ). before.0 ++ rest)
            (sym c.in-Some.ensures.steps.1.0) ∙ before.2,
      ),
    )

pub returns-clause-ok : goal.returns-clause-ok
returns-clause-ok g c =
    let before = c.loop-piece.invariant.1 in
    let none = nil_from_length _ c.in-None.ensures.steps.1.0 in
    let held = g.W.Write.contents c.args.writer.now in
    let holds = g.W.Write.contents c.loop-piece.writer in
    subst (λ (text : List ℕ). Appends held holds text)
    (sym (append-nil before.0) ∙ ap (λ (rest : List ℕ). before.0 ++ rest) (sym none) ∙ before.2) before.1
