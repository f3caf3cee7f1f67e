-- The parts of a setup: two runs of bytes, and the limits.
use Rattle.std.specs.Prelude.{List, ℕ}
use Rattle.std.specs.Int.{w32}
use Rattle.elf_spec.specs.Refusals.{refusal_of}
use Rattle.elf_spec.specs.declared.TheConstants.{MOST_ELF_BYTES}
use Rattle.machine_spec.specs.declared.TheConstants.{MOST_FUEL, MOST_INPUT_BYTES, MOST_STEPS}
use Rattle.machine_spec.specs.Limits.{Limits}
use Rattle.memo_spec.specs.declared.Limit.TheVariants as limit
use Rattle.memo_spec.specs.declared.Refusal.TheVariants.{Limit}
use Rattle.memo_spec.specs.Reader.{Reader, ◌>>=◌, done, bytes_at, number_at, limited}
use Rattle.memo_spec.specs.Reading.{is_within, accepted}

-- An executable, which is accepted, after its length.
abbrev pub elf_at : Reader (List ℕ)
elf_at = do
  length ← limited (number_at w32) (is_within 0 MOST_ELF_BYTES) (Limit limit.Elf)
  bytes_at length >>= λ bytes. accepted (refusal_of bytes) bytes

-- An input after its length.
abbrev pub input_at : Reader (List ℕ)
input_at = do
  length ← limited (number_at w32) (is_within 0 MOST_INPUT_BYTES) (Limit limit.Input)
  bytes_at length

-- The limits of a run.
abbrev pub limits_at : Reader Limits
limits_at = do
  fuel ← limited (number_at w32) (is_within 1 MOST_FUEL) (Limit limit.Fuel)
  steps ← limited (number_at w32) (is_within 1 MOST_STEPS) (Limit limit.Steps)
  done (record { fuel = fuel; steps = steps })
