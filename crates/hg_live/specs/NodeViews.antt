-- What contracts see of a pass, of what is published, of what lies under a node's lock, and of a node without a name.
use Rattle.std.specs.Prelude.{ℕ, List, []}
use Rattle.logbook.specs.Pages.{Book}
use Rattle.hg_view.specs.Kept.{KeptValue}
use Rattle.hg_live.specs.declared.entry.Entry.{Entry}

-- the entries that were published up to then, and the state that they lead to
pub record PublishedView : Type 0 where
  pub entries : List Entry
  pub state : KeptValue

-- what the pass has seen and was told, and how many of its calls were accepted
pub record PassView : Type 0 where
  pub seen : List Entry
  pub told : List Entry
  pub calls : ℕ

-- all that was accepted, in order; what readers see of it; what waits to be published, in order; and the state that all
-- of it leads to
pub record DeskView : Type 0 where
  pub journal : List Entry
  pub published : List Entry
  pub waiting : List Entry
  pub working : KeptValue

-- the tokens of a node that has no name yet: their own name, and how many parts they have
pub record TokensView : Type 0 where
  pub name : ℕ
  pub parts : ℕ

-- what a node that has no name yet opens with, the book of its journal, and its tokens
pub record BlankView : Type 0 where
  pub opening : KeptValue
  pub opened : Book
  pub tokens : TokensView

-- a pass that has seen nothing and was told nothing, and no call of which was accepted
abbrev pub new_pass : PassView
new_pass = record { seen = []; told = []; calls = 0 }
