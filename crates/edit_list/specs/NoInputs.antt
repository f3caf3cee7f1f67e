-- Why there are no inputs.
use Rattle.std.specs.Prelude.{ℕ, ◌≡◌, List}
use Rattle.rerun_spec.specs.Inputs.{Refusal, Refuses, IsFirstRefused}
use Rattle.rerun_spec.specs.Inputs as cause
use Rattle.edit_list.specs.declared.refusal.Why.{Why}
use Rattle.edit_list.specs.declared.refusal.Why.TheVariants.{BadLine, OutOfRange}
use Rattle.edit_list.specs.declared.refusal.InputsError.{InputsError}
use Rattle.edit_list.specs.declared.refusal.InputsError.TheVariants.{Refused, NoMemory}

-- A line with its cause, as a refusal.
abbrev pub refusal_of : ℕ → Why → Refusal
refusal_of line BadLine = cause.BadLine line
refusal_of line OutOfRange = cause.OutOfRange line

-- Why the list at a place has no result on an input: it is refused there, by this line and for this cause; or memory
-- ran out.
abbrev pub WhyNotMade : ℕ → List ℕ → List ℕ → InputsError → Type 0
WhyNotMade place list input (Refused at line why) = (at ≡ place) × Refuses list input (refusal_of line why)
WhyNotMade place list input NoMemory = Unit {0}

-- Why there are no inputs: the list at this place, from 0 on, is the first that is refused, by this line and for this
-- cause; or memory ran out.
abbrev pub WhyNoInputs : List ℕ → List (List ℕ) → InputsError → Type 0
WhyNoInputs first lists (Refused list line why) = IsFirstRefused first lists list (refusal_of line why)
WhyNoInputs first lists NoMemory = Unit {0}
