use Rattle.std.proofs.Common.{◌≡◌, List, Ok, subst}
use Rattle.hg_phases.specs.declared.phase.Phase.TheVariants.{Draft, Secret}
use Rattle.hg_phaseroots.specs.Writing.{AreListed, AreInOrder}
use Rattle.hg_phaseroots.specs.Reading.{Root, roots_of}
use Rattle.hg_phaseroots.proofs.WriteLemmas.{is_written, is_read_back}
use Rattle.hg_phaseroots.proofs.SpellingLemmas.{read_spelling}
use Rattle.hg_phaseroots.proofs.write.roots_text.Goals as goal

module _ (c : goal.After-drop-drafts-2) where
  draft : AreListed c.args.roots.now Draft c.in_ok-drafts.drafts.keys
  draft = subst (λ rs. AreListed rs Draft c.in_ok-drafts.drafts.keys) c.as_slice.ensures
      (record { ascending = c.in_ok-write_lines.ensures.ascending; same = c.in_ok-drafts.ensures })

  secret : AreListed c.args.roots.now Secret c.in_ok-secrets.secrets.keys
  secret = subst (λ rs. AreListed rs Secret c.in_ok-secrets.secrets.keys) c.as_slice-2.ensures
      (record { ascending = c.in_ok-write_lines-2.ensures.ascending; same = c.in_ok-secrets.ensures })

pub returns-clause-written : goal.returns-clause-written
returns-clause-written c =
    is_written c.args.roots.now c.in_ok-drafts.drafts.keys c.in_ok-secrets.secrets.keys c.new-text.result.items
    c.write_lines.new.text.items c.write_lines-2.new.text.items (draft c) (secret c)
    c.new-text.ensures.items c.in_ok-write_lines.ensures.written c.in_ok-write_lines-2.ensures.written

read_back : (c : goal.After-drop-drafts-2) (sorted : List Root) → AreInOrder c.args.roots.now sorted
    → roots_of c.write_lines-2.new.text.items ≡ Ok sorted
read_back c =
    is_read_back c.args.roots.now c.in_ok-drafts.drafts.keys c.in_ok-secrets.secrets.keys c.new-text.result.items
    c.write_lines.new.text.items c.write_lines-2.new.text.items (draft c) (secret c)
    c.new-text.ensures.items c.in_ok-write_lines.ensures.written c.in_ok-write_lines-2.ensures.written
    c.in_ok-write_lines.ensures.ids c.in_ok-write_lines-2.ensures.ids

pub returns-clause-reads_back : goal.returns-clause-reads_back
returns-clause-reads_back c = read_back c

pub returns-clause-spells : goal.returns-clause-spells
returns-clause-spells c = λ sorted order. read_spelling sorted c.write_lines-2.new.text.items (read_back c sorted order)
