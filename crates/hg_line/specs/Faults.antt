-- The texts and the exit statuses of what ends a script.
use Rattle.std.specs.Prelude.{ℕ, List, ◌++◌, codes, decimal}
use Rattle.hg_line.specs.declared.command_fault.CommandFault.{CommandFault}
use Rattle.hg_line.specs.declared.command_fault.CommandFault.TheVariants as ends
use Rattle.hg_line.specs.declared.command_fault.CommandFault.TheVariants.{Name}
use Rattle.hg_line.specs.declared.fault.LineFault.{LineFault}
use Rattle.hg_line.specs.declared.fault.LineFault.TheVariants.{TooLong, UnknownCommand, WordCount, BadName, BadPhase}
use Rattle.hg_line.specs.declared.fault.LineFault.TheVariants.{UnknownName, NameTaken}
use Rattle.hg_line.specs.declared.fault.RunFault.{RunFault}
use Rattle.hg_line.specs.declared.fault.RunFault.TheVariants.{Line, ScriptTooLong, Read, Write, NoMemory}

abbrev pub line_fault_text : LineFault → List ℕ
line_fault_text TooLong = codes "line is too long"
line_fault_text UnknownCommand = codes "unknown command"
line_fault_text WordCount = codes "wrong number of words"
line_fault_text BadName = codes "bad name"
line_fault_text BadPhase = codes "bad phase"
line_fault_text UnknownName = codes "unknown name"
line_fault_text NameTaken = codes "name is taken"

-- a line's fault comes after the line's number
abbrev pub fault_text : RunFault → List ℕ
fault_text (Line number fault) = codes "line " ++ (decimal number ++ (codes ": " ++ line_fault_text fault))
fault_text ScriptTooLong = codes "script is too long"
fault_text Read = codes "read fault"
fault_text Write = codes "write fault"
fault_text NoMemory = codes "no memory"

-- what ends the script at a command of the line with this number
abbrev pub at_line : ℕ → CommandFault → RunFault
at_line number (Name fault) = Line number fault
at_line number ends.Write = Write
at_line number ends.NoMemory = NoMemory

-- what ends a line that prints into a text: such a write is refused for want of memory alone
abbrev pub in_text_fault : RunFault → RunFault
in_text_fault Write = NoMemory
in_text_fault fault = fault

-- 3 for want of memory, otherwise 1
abbrev pub status_of : RunFault → ℕ
status_of NoMemory = 3
status_of _ = 1
