-- The state that entries lead to, taken in one after the other.
use Rattle.std.specs.Prelude.{◌≡◌, List, [], ◌∷◌}
use Rattle.hg_replica.specs.Change.{ChangeValue}
use Rattle.hg_replica.specs.Answer.{IsAbsorbed}
use Rattle.hg_replica.specs.Least.{PartValue}
use Rattle.hg_view.specs.Kept.{KeptValue}
use Rattle.hg_peer.specs.Marks.{Marks}
use Rattle.hg_live.specs.declared.entry.Entry.{Entry}
use Rattle.hg_live.specs.declared.entry.Entry.TheVariants.{Part, Mark}

-- t is s with one entry more: with the part absorbed, in the order that absorbing keeps, and the pins as they were; or
-- with the pins marked, and the replica as it was
abbrev pub IsNext : KeptValue → Entry → KeptValue → Type 0
IsNext s (Part k) t = ((change : ChangeValue) × IsAbsorbed s.replica k change t.replica) × (t.pins ≡ s.pins)
IsNext s (Mark m) t = Marks s m t

-- t is s with the entries taken in one after the other
unfoldable pub IsAfter : KeptValue → List Entry → KeptValue → Type 0
IsAfter s [] t = t ≡ s
IsAfter s (e ∷ es) t = (u : KeptValue) × IsNext s e u × IsAfter u es t

-- the parts among the entries, in their order
abbrev pub parts_among : List Entry → List PartValue
parts_among [] = []
parts_among (Part k ∷ es) = k ∷ parts_among es
parts_among (Mark m ∷ es) = parts_among es
