use Rattle.std.proofs.Common.{rules, ◌≡◌, ◌∙◌, [], ap, sym, refl, subst, None, Some, Result, Ok, Err, OnOk, OnErr}
use Rattle.std.proofs.Common.{Contains, ℕ}
use Rattle.std.proofs.lemmas.Result.{on_ok_weaker, on_err_weaker}
use Rattle.std.proofs.lemmas.List.Elements.{Contains-push}
use Rattle.indexmap.specs.Entry.{map_with_value}
use Rattle.indexmap.specs.IndexMap.{get}
use Rattle.hg_changeset.specs.Node.{node_eq}
use Rattle.hg_obsstore.specs.declared.index.Role.{Role}
use Rattle.hg_obsstore.specs.declared.index.Roles.{Roles}
use Rattle.hg_obsstore.specs.Entries.{ChangesRole, HasPlace, SameRoles, Table, found_as, listed_as, places_at}
use Rattle.hg_obsstore.specs.Index.{with_last}
use Rattle.hg_obsstore.proofs.DigestLemmas.{with_last_has}
use Rattle.hg_obsstore.proofs.EntryLemmas.{changes, found_same, place_kept, sets_written, starts, written}
use Rattle.hg_obsstore.proofs.entries.Entries.put.Goals as goal
use Rattle.hg_obsstore.proofs.entries.Entries.put.Goals.{in-Occupied, in-Vacant}

-- what a place was put into has one, and keeps one where it was refused
still_placed : {A E : Type 0} (r : Result A E) (role : Role) (place : ℕ) (old new : Roles)
    → OnOk r (ChangesRole role (with_last (listed_as role old) place) old new) → OnErr r (SameRoles old new)
    → HasPlace old → HasPlace new
still_placed (Ok a) role place old new ok err has =
    (role, place, subst (λ ps. Contains ps place) (sym ok.here) (with_last_has _ _))
still_placed (Err e) role place old new ok err has = place_kept old new err has

pub invariant_of-self-2 : goal.invariant_of-self-2
invariant_of-self-2 c =
    let m = c.self.inside.table in
    let n = c.args.node in
    let e = c.in_ok-known.field-0 in
    let update = c.in_ok-known.ensures.update in
    elim c.match-branch-2.branch [
      | in-Occupied w ↦
          let v = w.put.new.self in
          let there : get node_eq m n ≡ Some w.into_mut.result.now = search rules in
          written m (map_with_value e v) n v (update.0 v) c.match-branch-2.self-inside.table.entries (search rules)
          (update.2 v) c.self.invariant.1 (still_placed w.put.result c.args.role c.args.place _ v w.put.ensures.ok
          w.put.ensures.err (c.self.invariant.1 n w.into_mut.result.now there))
      | in-Vacant w ↦
          let v = w.one.result in
          written m (map_with_value e v) n v (update.0 v) c.match-branch-2.self-inside.table.entries (search rules)
          (update.2 v) c.self.invariant.1 (
            c.args.role,
            c.args.place,
            subst (λ ps. Contains ps c.args.place) (sym w.one.ensures.here) (Contains-push [] c.args.place),
          )
    ]

pub returns-clause-ok : goal.returns-clause-ok
returns-clause-ok c =
    let m = c.self.inside.table in
    let n = c.args.node in
    let e = c.in_ok-known.field-0 in
    let update = c.in_ok-known.ensures.update in
    elim c.match-branch-2.branch [
      | in-Occupied w ↦
          let v = w.put.new.self in
          let there : get node_eq m n ≡ Some w.into_mut.result.now = search rules in
          rw w.result-is (on_ok_weaker w.put.result (λ change. changes _ _ n _ v _ there
          (sets_written m (map_with_value e v) n v (update.0 v) c.match-branch-2.self-inside.table.entries
          (search rules)) (λ role. refl) (λ places. with_last places c.args.place) _ change _ c.self.view_is)
          w.put.ensures.ok)
      | in-Vacant w ↦
          let v = w.one.result in
          let none : get node_eq m n ≡ None = search rules in
          rw w.result-is (starts _ _ n v _ _ none
          (sets_written m (map_with_value e v) n v (update.0 v) c.match-branch-2.self-inside.table.entries
          (search rules)) w.one.ensures.here w.one.ensures.others _ c.self.view_is)
    ]

pub returns-clause-err : goal.returns-clause-err
returns-clause-err c =
    let m = c.self.inside.table in
    let n = c.args.node in
    let e = c.in_ok-known.field-0 in
    let update = c.in_ok-known.ensures.update in
    elim c.match-branch-2.branch [
      | in-Occupied w ↦
          let v = w.put.new.self in
          let there : get node_eq m n ≡ Some w.into_mut.result.now = search rules in
          rw w.result-is (on_err_weaker w.put.result (λ same other. found_same (record { entries = m.entries }) _ n
          (Some v) (sets_written m (map_with_value e v) n v (update.0 v)
          c.match-branch-2.self-inside.table.entries (search rules)) other
          (same other ∙ ap (found_as other) (sym there)) ∙ ap (λ (t : Table). places_at t other) c.self.view_is)
          w.put.ensures.err)
      | in-Vacant w ↦ rw w.result-is tt
    ]
