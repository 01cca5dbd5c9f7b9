-- The answers of an absorption and of a join that give their undo out.
use Rattle.std.specs.Prelude.{Result, Ok, Err}
use Rattle.hg_join.specs.declared.absorbed.Absorbed.{Absorbed}

-- the answer without the undo
abbrev pub without_undo : {C U F : Type 0} → Result (Absorbed C U) F → Result C F
without_undo (Ok absorbed) = Ok absorbed.change
without_undo (Err fault) = Err fault

-- the answer of a join without the undo
abbrev pub join_without_undo : {U F : Type 0} → Result U F → Result (Unit {0}) F
join_without_undo (Ok undo) = Ok tt
join_without_undo (Err fault) = Err fault
