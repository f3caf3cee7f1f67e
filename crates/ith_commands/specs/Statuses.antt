-- The exit status of each way to end.
use Rattle.std.specs.Prelude.{ℕ, ⊤, Bool, true, false, Result, Ok, Err}
use Rattle.ith_commands.specs.declared.status.Status.{Status}
use Rattle.ith_commands.specs.declared.status.Status.TheVariants as status

-- The number of a status.
abbrev pub code_of : Status → ℕ
code_of status.Finished = 0
code_of status.Unfinished = 1
code_of status.Words = 2
code_of status.Image = 3
code_of status.Memo = 4
code_of status.EditList = 5
code_of status.ReadFault = 6
code_of status.WriteFault = 7
code_of status.NoMemory = 8
code_of status.TooLarge = 9
code_of status.Schedule = 10
code_of status.Untrue = 11

-- The status of a command line: by whether each round ended by exit, if it is done, or why it isn't.
abbrev pub status_in : Result Bool Status → Status
status_in (Ok true) = status.Finished
status_in (Ok false) = status.Unfinished
status_in (Err s) = s

-- If a command line is done, a fact holds of whether each round ended by exit.
abbrev pub IfDone : Status → (Bool → Type 0) → Type 0
IfDone status.Finished fact = fact true
IfDone status.Unfinished fact = fact false
IfDone _ fact = ⊤
