-- Why the code returns no result.
use Rattle.std.specs.Prelude.{ℕ, ◌≡◌, ◌<◌, List, length, Err, Some}
use Rattle.edit_spec.specs.Edit.{LineEdit}
use Rattle.edit_spec.specs.Grammar.{EncodeBytes, IsEdit, Says}
use Rattle.edit_spec.specs.Editing.{edited}
use Rattle.edit_list.specs.Lengths.{line_out_of_range}
use Rattle.edit_list.specs.declared.line.LineFault.{LineFault}
use Rattle.edit_list.specs.declared.line.LineFault.TheVariants as fault
use Rattle.edit_list.specs.declared.parser.ParseError.{ParseError}
use Rattle.edit_list.specs.declared.parser.ParseError.TheVariants.{BadLine, NoMemory}
use Rattle.edit_list.specs.declared.apply.ApplyError.{ApplyError}
use Rattle.edit_list.specs.declared.apply.ApplyError.TheVariants.{OutOfRange}
use Rattle.edit_list.specs.declared.apply.ApplyError.TheVariants as applying

-- why digits gave no bytes: they encode none, or memory ran out
abbrev pub WhyNoBytes : List ℕ → LineFault → Type 0
WhyNoBytes digits fault.Bad = (bytes : List ℕ) → 0 < length bytes → EncodeBytes digits bytes → ⊥
WhyNoBytes digits fault.NoMemory = Unit {0}

-- why a line gave no edit: it encodes none, or memory ran out
abbrev pub WhyNoEdit : List ℕ → LineFault → Type 0
WhyNoEdit text fault.Bad = IsEdit text → ⊥
WhyNoEdit text fault.NoMemory = Unit {0}

-- why a list gave no edits: the first line that encodes none has this number, or memory ran out
abbrev pub WhyNotParsed : List ℕ → ParseError → Type 0
WhyNotParsed bytes (BadLine number) = Says bytes (Err number)
WhyNotParsed bytes NoMemory = Unit {0}

-- why a line was not added to others: it encodes no edit, or memory ran out
abbrev pub WhyNotAdded : ℕ → List ℕ → ParseError → Type 0
WhyNotAdded number text (BadLine bad) = (bad ≡ number) × (0 < length text) × (IsEdit text → ⊥)
WhyNotAdded number text NoMemory = Unit {0}

-- why edits were not applied: the first that passes its bound is on this line, or memory ran out
abbrev pub WhyNotApplied : List LineEdit → List ℕ → ApplyError → Type 0
WhyNotApplied edits input (OutOfRange number) = edited edits input ≡ Err number
WhyNotApplied edits input applying.NoMemory = Unit {0}

-- why edits give no length: the first that passes its bound is on this line
abbrev pub WhyNoLength : List LineEdit → ℕ → ApplyError → Type 0
WhyNoLength edits len (OutOfRange number) = line_out_of_range edits len ≡ Some number
WhyNoLength edits len applying.NoMemory = ⊥
