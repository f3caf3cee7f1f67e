-- The smallest rounds, by which the definitions are tried: their starts are of bytes, and their histories can be
-- encoded.
use Rattle.std.proofs.Common.{◌≡◌, ℕ, true, ltb, List, [], ◌∷◌, Some, None, refl, arith, ltb-true}
use Rattle.std.proofs.lemmas.Bool.{and_parts}
use Rattle.std.specs.List.{list_all}
use Rattle.elf_spec.proofs.Examples.{hi_elf}
use Rattle.machine_spec.specs.Setup.{Setup}
use Rattle.history_spec.specs.History.{History}
use Rattle.history_spec.proofs.Examples.{shortest, shortest-setup}
use Rattle.report_spec.specs.declared.Entry.{Entry}
use Rattle.round_spec.specs.Rounds.{history_of}
use Rattle.round_spec.specs.Schedules.{events_in, round_by}
use Rattle.round_spec.specs.Alone.{lone_round}
use Rattle.round_spec.proofs.Workers.{entries-end}
use Rattle.memo_spec.specs.Encoding.{AreBytes, IsEncodable}
use Rattle.rerun_spec.specs.Encoded.{IsEncodedStart}
use Rattle.rerun_spec.proofs.Events.{round-encoded, round-next}

tested-bytes : (bytes : List ℕ) → list_all (λ (b : ℕ). ltb b 256) bytes ≡ true → AreBytes bytes
tested-bytes [] h = tt
tested-bytes (b ∷ bytes) h =
    let parts = and_parts (ltb b 256) (list_all (λ (x : ℕ). ltb x 256) bytes) h in
    (ltb-true b 256 parts.0, tested-bytes bytes parts.1)

hi-bytes : AreBytes hi_elf
hi-bytes = tested-bytes hi_elf refl

-- a round without a history to be based on
pub first-start : IsEncodedStart None shortest
first-start =
    record {
      valid = shortest-setup;
      elf_bytes = hi-bytes;
      input_bytes = tt;
      past = tt;
    }

-- made by the schedule that one worker picks
abbrev first-entries : List Entry
first-entries = (lone_round shortest None).schedule

-- its history
abbrev pub first-left : History
first-left = history_of (round_by shortest None first-entries)

pub first-encoded : IsEncodable first-left
first-encoded =
    round-encoded shortest None (events_in first-entries) first-start (entries-end shortest None shortest-setup)

-- the same program on another input and with another fuel, based on the first round's history
abbrev pub longer : Setup
longer = record { elf = hi_elf; input = 255 ∷ []; fuel = 2; limit = 1 }

pub second-start : IsEncodedStart (Some first-left) longer
second-start =
    record {
      valid =
          record {
            elf_size = shortest-setup.elf_size;
            elf_accepted = shortest-setup.elf_accepted;
            input_size = omega arith;
            limits =
                record {
                  some_fuel = omega arith;
                  most_fuel = omega arith;
                  some_steps = omega arith;
                  most_steps = omega arith;
                };
          };
      elf_bytes = hi-bytes;
      input_bytes = (omega arith, tt);
      past =
          round-next shortest longer None (events_in first-entries) first-start
          (entries-end shortest None shortest-setup) refl;
    }

abbrev second-entries : List Entry
second-entries = (lone_round longer (Some first-left)).schedule

pub second-encoded : IsEncodable (history_of (round_by longer (Some first-left) second-entries))
second-encoded =
    round-encoded longer (Some first-left) (events_in second-entries) second-start
    (entries-end longer (Some first-left) second-start.valid)

-- a byte of 256 is no byte, so this input has no encoding
pub no-bytes : AreBytes (256 ∷ []) → ⊥
no-bytes all = let small = all.0 in omega arith
