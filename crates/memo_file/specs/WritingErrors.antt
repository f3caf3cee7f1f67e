-- What an error of the writer states about a memo's length.
use Rattle.std.specs.Prelude.{◌≡◌, ◌<◌, ℕ, ⊤}
use Rattle.memo_spec.specs.declared.TheConstants.{MOST_MEMO_BYTES}
use Rattle.memo_file.specs.declared.writing.WriteError.{WriteError}
use Rattle.memo_file.specs.declared.writing.WriteError.TheVariants.{TooLong, NoMemory}

-- If a memo is reported as too long, its length is the reported one, and more than a memo may have.
abbrev pub IsTooLongFor : ℕ → WriteError → Type 0
IsTooLongFor len (TooLong n) = (n ≡ len) × (MOST_MEMO_BYTES < n)
IsTooLongFor len NoMemory = ⊤
