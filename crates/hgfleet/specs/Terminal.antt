-- What is said to somebody who sits at a terminal.
use Rattle.std.specs.Prelude.{◌≡◌, ◌≢◌, ◌⊎◌, All, Bool, List, String, codes, false, string_bytes, true}
use Rattle.std.specs.declared.alloc.Global.{Global}
use Rattle.hg_show.specs.declared.form.Form.TheVariants.{Message, Roots, Store}
use Rattle.hgfleet.specs.declared.arguments.Wanted.{Wanted}
use Rattle.hgfleet.specs.declared.arguments.Wanted.TheVariants.{Compare, Help, Race, Try, Version, Write}

-- none of these names stands for standard input
abbrev pub AreFiles : List (String Global) → Type 0
AreFiles = All (λ name. string_bytes name ≢ codes "-")

-- standard input is read: as a script, as bytes, or as a message of the files that are tried, or compared
abbrev pub ReadsInput : Wanted → Type 0
ReadsInput (Race nodes rounds) = ⊥
ReadsInput (Try trial) = ¬ (AreFiles trial.files.items)
ReadsInput (Compare first second) = (string_bytes first ≡ codes "-") ⊎ (string_bytes second ≡ codes "-")
ReadsInput (Help text) = ⊥
ReadsInput (Version text) = ⊥
ReadsInput _ = Unit {0}

-- what is written is bytes that are no text
abbrev pub writes_bytes : Wanted → Bool
writes_bytes (Write Store name) = true
writes_bytes (Write Message name) = true
writes_bytes (Write Roots name) = false
writes_bytes _ = false
