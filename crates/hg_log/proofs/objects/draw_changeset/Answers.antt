use Rattle.std.proofs.Common.{◌≡◌, ◌++◌, [], List, OnOk, ℕ, rules, subst}
use Rattle.std.specs.Prelude.{codes, if◌then◌else◌}
use Rattle.std.proofs.lemmas.Result.{on_ok_weaker}
use Rattle.std.specs.Io.KnownBytes.{Appends}
use Rattle.hg_log.specs.Objects.{named}
use Rattle.hg_log.proofs.EntryLemmas.{one_written}
use Rattle.hg_log.proofs.objects.draw_changeset.Goals as goal

pub returns : goal.returns
returns g c =
    let told = c.in_ok-push_object.ensures in
    let first = c.push_divider.new.line.items in
    let divider : List ℕ = if c.args.is_behind.now then codes "," else [] in
    let cleared : c.clear.new.self.items ≡ [] = search rules in
    let front : first ≡ divider = subst (λ (t : List ℕ). first ≡ t ++ divider) cleared
    c.in_ok-push_divider.ensures.divider in
    let written : OnOk c.write_bytes.result (Appends (g.W.Write.contents c.args.writer.now) (g.W.Write.contents
    c.write_bytes.new.writer) c.push_object.new.line.items) = search rules in
    on_ok_weaker c.write_bytes.result
    (one_written (named c.args.node.now) c.args.place told.0 c.args.is_behind.now c.push_divider.new.is_behind first
    c.push_object.new.line.items _ _ told.1 front told.2.is c.in_ok-push_divider.ensures.behind)
    written
