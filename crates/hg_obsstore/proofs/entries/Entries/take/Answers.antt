use Rattle.std.proofs.Common.{◌≡◌, ◌∙◌, [], ap, sym, refl, subst, Some, None}
use Rattle.std.proofs.lemmas.Option.{none-some, same_Some}
use Rattle.hg_obsstore.specs.Entries.{HasPlace, Table, found_as, places_at, known}
use Rattle.hg_obsstore.specs.Index.{without_last}
use Rattle.hg_obsstore.proofs.EntryLemmas.{changes, placed, sets_at, sets_none, unique_at, unknown}
use Rattle.hg_obsstore.proofs.PlaceLemmas.{without_last_none}
use Rattle.hg_obsstore.proofs.entries.Entries.take.Goals as goal

pub invariant_of-self : goal.invariant_of-self
invariant_of-self c =
    let m = c.self.inside.table in (
      c.forget.ensures.unique,
      placed _ _ _ _
          (sets_none m _ _ c.get_index_of.ensures.unique _
          (sym c.in-Some.ensures.index) _ c.index_mut-roles.ensures.value
          c.forget.new.table c.forget.ensures.updates) c.self.invariant.1 (λ roles e. absurd (none-some roles e)),
    )

pub invariant_of-self-else-is_empty : goal.invariant_of-self-else-is_empty
invariant_of-self-else-is_empty c =
    let m = c.self.inside.table in (
      unique_at m c.in-Some.number c.args.node c.get_index_of.ensures.unique c.take.new.self,
      placed (record { entries = m.entries }) _ c.args.node (Some c.take.new.self)
          (sets_at m c.in-Some.number c.args.node c.get_index_of.ensures.unique c.take.new.self
          (sym c.in-Some.ensures.index) c.index_mut-roles.result.now c.index_mut-roles.ensures.value) c.self.invariant.1
          (λ roles e. subst HasPlace (same_Some c.take.new.self roles e)
          (c.is_empty.ensures.placed c.if-is_empty.false)),
    )

pub returns-then-is_empty : goal.returns-then-is_empty
returns-then-is_empty c =
    let m = c.self.inside.table in
    changes _ _ _ _ _ _ (sym c.in-Some.ensures.value ∙ c.index_mut-roles.ensures.value)
    (sets_none m _ _ c.get_index_of.ensures.unique _ (sym c.in-Some.ensures.index) _ c.index_mut-roles.ensures.value
    c.forget.new.table c.forget.ensures.updates)
    (λ role. sym (c.is_empty.ensures.empty c.if-is_empty.true role)) (λ places. without_last places c.args.place)
    _ c.take.ensures _ c.self.view_is

pub returns-else-is_empty : goal.returns-else-is_empty
returns-else-is_empty c =
    let m = c.self.inside.table in
    changes _ _ _ _ _ _ (sym c.in-Some.ensures.value ∙ c.index_mut-roles.ensures.value)
    (sets_at m _ _ c.get_index_of.ensures.unique _ (sym c.in-Some.ensures.index) _ c.index_mut-roles.ensures.value)
    (λ role. refl) (λ places. without_last places c.args.place) _ c.take.ensures _ c.self.view_is

pub returns-in-None : goal.returns-in-None
returns-in-None c =
    let none : known c.args.self.now c.args.node ≡ None = ap (λ (t : Table). known t c.args.node) (sym c.self.view_is)
    ∙ unknown (known (record { entries = c.self.inside.table.entries }) c.args.node) c.in-None.ensures.found in
    let empty : places_at c.args.self.now c.args.role c.args.node ≡ [] = ap (found_as c.args.role) none in record {
      here = empty ∙ sym (ap (λ ps. without_last ps c.args.place) empty ∙ without_last_none c.args.place);
      others = λ q other. refl;
      aside = λ other apart. refl;
    }
