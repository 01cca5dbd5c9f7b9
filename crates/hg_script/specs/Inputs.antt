-- How the reading of a script ends.
use Rattle.std.specs.Prelude.{◌≡◌, ◌⊎◌}
use Rattle.hg_line.specs.declared.fault.RunFault.{RunFault}
use Rattle.hg_line.specs.declared.fault.RunFault.TheVariants.{ScriptTooLong, Read, NoMemory}

-- what can end the reading of a script
abbrev pub IsInputFault : RunFault → Type 0
IsInputFault fault = (fault ≡ Read) ⊎ ((fault ≡ ScriptTooLong) ⊎ (fault ≡ NoMemory))
