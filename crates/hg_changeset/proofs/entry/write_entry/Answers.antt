use Rattle.std.proofs.Common.{◌≡◌, ◌∙◌, ap, sym, false, ℕ, List, [], ◌∷◌}
use Rattle.std.specs.List.{list_any}
use Rattle.hg_changeset.specs.EntryValue.{EntryValue}
use Rattle.hg_changeset.specs.Bytes.{line_feed}
use Rattle.hg_changeset.specs.WhiteSpace.{white_space, is_one_of, trimmed, trimmed_end}
use Rattle.hg_changeset.specs.Description.{line_ends, lines_text}
use Rattle.hg_changeset.proofs.DescriptionLemmas.{one_line}
use Rattle.hg_changeset.proofs.entry.write_entry.Goals as goal

pub write_lines-requires-2-clause-desc : goal.write_lines-requires-2-clause-desc
write_lines-requires-2-clause-desc c =
    let desc = c.args.entry.now.desc in
    let is_desc = ap (λ (e : EntryValue). e.desc) c.entry.view_is in
    let none : list_any (is_one_of line_ends) desc ≡ false =
    ap (list_any (is_one_of line_ends)) (sym (c.deref.ensures.value ∙ is_desc)) ∙ sym c.has_line_end.ensures
    ∙ c.if-has_line_end.false in
    c.trimmed-2.ensures
    ∙ ap (λ (s : List ℕ). trimmed (line_feed ∷ []) s)
    (c.trimmed_end-line.ensures ∙ ap (λ (s : List ℕ). trimmed_end white_space s) (c.deref-2.ensures.value ∙ is_desc))
    ∙ ap (λ (ls : List (List ℕ)). trimmed (line_feed ∷ []) (lines_text ls)) (sym (one_line desc none))
