-- Why the code returns no threads.
use Rattle.std.specs.Prelude.{ℕ, ◌≡◌, ◌<◌, List, length, Err}
use Rattle.schedule_list.specs.Schedule.{IsEncoding, Says}
use Rattle.schedule_list.specs.declared.parser.ParseError.{ParseError}
use Rattle.schedule_list.specs.declared.parser.ParseError.TheVariants.{BadToken, NoMemory}

-- Why a text gave no threads: the first token that encodes none has this number, or memory ran out.
abbrev pub WhyNotParsed : List ℕ → ParseError → Type 0
WhyNotParsed text (BadToken number) = Says text (Err number)
WhyNotParsed text NoMemory = Unit {0}

-- Why a piece was not appended to `count` threads: it is a token that encodes none, or memory ran out.
abbrev pub WhyNotAdded : ℕ → List ℕ → ParseError → Type 0
WhyNotAdded count piece (BadToken number) = (number ≡ count) × (0 < length piece) × (IsEncoding piece → ⊥)
WhyNotAdded count piece NoMemory = Unit {0}
