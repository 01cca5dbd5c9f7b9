use Rattle.std.proofs.Common.{◌≡◌, ◌+◌, ℕ, List, Option, ap, subst, ◌∙◌, Some, is_some, if◌then◌else◌}
use Rattle.std.specs.BTreeMap.{btree_map_len}
use Rattle.std.specs.Map.{update}
use Rattle.std.specs.Str.{bytes_eq}
use Rattle.hg_names.specs.Names.{value_of}
use Rattle.hg_names.proofs.NameLemmas.{value_of-bound}
use Rattle.hg_names.proofs.names.bind.Goals as goal

pub returns-clause-bound : goal.returns-clause-bound
returns-clause-bound g c =
    let old = c.args.names.now in
    let new = c.insert.new.self in
    let name = c.in_ok-name.name in
    let value = c.args.value in
    record {
      values = subst (λ (bs : List ℕ). (other : List ℕ)
          → value_of new other ≡ update bytes_eq (value_of old) bs (Some value) other) c.in_ok-name.ensures.items
          (value_of-bound name.items old new (Some value) c.in_ok-insert.ensures.updates);
      count = c.in_ok-insert.ensures.len
          ∙ ap (λ (o : Option g.row.V.Denot). btree_map_len old + (if is_some o then 0 else 1))
          (c.in_ok-insert.ensures.old ∙ ap (value_of old) c.in_ok-name.ensures.items);
    }
