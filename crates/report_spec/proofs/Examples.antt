-- Worked examples, each computed by the checker; the digest isn't computed. The lines are those that the report's
-- format prescribes.
use Rattle.std.proofs.Common.{◌≡◌, ℕ, true, false, [], ◌∷◌, ◌++◌, Some, refl}
use Rattle.std.specs.Prelude.{codes}
use Rattle.std.specs.Fmt.{digits}
use Rattle.hex.specs.Hex.{encode_with}
use Rattle.isa_spec.specs.Fields.{i_immediate, u_immediate}
use Rattle.isa_spec.specs.Registers.{with_register}
use Rattle.isa_spec.specs.Operations.{immediate_result}
use Rattle.isa_spec.specs.Table.{decoded, reading_of}
use Rattle.isa_spec.specs.declared.Cause.TheVariants.{LoadMisaligned}
use Rattle.memory_spec.specs.Pages.{Memory, permission_at}
use Rattle.memory_spec.specs.Access.{number_in, number_at, fetched}
use Rattle.guest_call.specs.Objects.{all_unlocked}
use Rattle.thunk_spec.specs.Put.{is_readable, put_addresses}
use Rattle.thunk_spec.specs.Turn.{turn}
use Rattle.thunk_spec.specs.Thunk.{thunk}
use Rattle.thunk_spec.proofs.Guests.{hi}
use Rattle.machine_spec.specs.declared.states.End.TheVariants.{Exit, Trap, Deadlock, Spent}
use Rattle.machine_spec.specs.Performing.{first_registers}
use Rattle.machine_spec.specs.Step.{step, finished}
use Rattle.machine_spec.proofs.Guests.{begins}
use Rattle.report_spec.specs.declared.Entry.{Entry}
use Rattle.report_spec.specs.Text.{newline}
use Rattle.report_spec.specs.Report.{no_extras, end_text, instructions_from, memory_digest, report_lines}

abbrev pub executed : ℕ → Entry
executed t = record { thread = t; reused = false }

abbrev pub reused : ℕ → Entry
reused t = record { thread = t; reused = true }

pub end_text-exit : end_text (Exit 4294967295) ≡ codes "exit 4294967295"
unfolding digits
end_text-exit = refl

-- The pc has eight hexadecimal digits; thread and cause are decimal.
pub end_text-trap : end_text (Trap 0 0x1000C LoadMisaligned) ≡ codes "trap 0 0001000c 4"
unfolding digits encode_with
end_text-trap = refl

pub end_text-deadlock : end_text Deadlock ≡ codes "deadlock"
end_text-deadlock = refl

-- The lines of the report of the guest that prints "hi".
pub report_lines-hi :
    (memory : Memory)
    → report_lines 0
    (record {
      ending = Some (Exit 0);
      schedule = executed 0 ∷ executed 0 ∷ [];
      extras = no_extras;
      instructions = 8;
      worker_steps = 2 ∷ [];
      memory = memory;
      output = 0x68 ∷ 0x69 ∷ 0x0A ∷ [];
    })
    ≡ (codes "round 0" ++ newline)
    ∷ (codes "end exit 0" ++ newline)
    ∷ (codes "steps 2" ++ newline)
    ∷ (codes "reused 0" ++ newline)
    ∷ (codes "executed 2" ++ newline)
    ∷ (codes "instructions 8" ++ newline)
    ∷ (codes "by 2" ++ newline)
    ∷ (codes "schedule 0+ 0+" ++ newline)
    ∷ (codes "memory " ++ memory_digest memory ++ newline)
    ∷ (codes "output 3" ++ newline)
    ∷ []
unfolding digits
report_lines-hi memory = refl

-- A reused entry has the mark =, four workers have four numbers of steps, the reached steps come after the executed
-- ones, and what a watcher read after these.
pub report_lines-reused :
    (memory : Memory)
    → report_lines 12
    (record {
      ending = Some Spent;
      schedule = reused 0 ∷ executed 31 ∷ [];
      extras = record { reached = Some 2; progress = Some (1 ∷ 2 ∷ []) };
      instructions = 7;
      worker_steps = 1 ∷ 0 ∷ 0 ∷ 1 ∷ [];
      memory = memory;
      output = [];
    })
    ≡ (codes "round 12" ++ newline)
    ∷ (codes "end spent" ++ newline)
    ∷ (codes "steps 2" ++ newline)
    ∷ (codes "reused 1" ++ newline)
    ∷ (codes "executed 1" ++ newline)
    ∷ (codes "reached 2" ++ newline)
    ∷ (codes "instructions 7" ++ newline)
    ∷ (codes "by 1 0 0 1" ++ newline)
    ∷ (codes "progress 1 2" ++ newline)
    ∷ (codes "schedule 0= 31+" ++ newline)
    ∷ (codes "memory " ++ memory_digest memory ++ newline)
    ∷ (codes "output 0" ++ newline)
    ∷ []
unfolding digits
report_lines-reused memory = refl

-- The ECALL's turn counts too: five and three. A reused entry counts none.
pub instructions-hi : instructions_from (begins 9 9 hi) (executed 0 ∷ executed 0 ∷ []) ≡ 8
unfolding step finished thunk turn fetched number_at number_in permission_at decoded reading_of u_immediate i_immediate
    immediate_result with_register is_readable put_addresses first_registers all_unlocked
instructions-hi = refl

pub instructions-reused : instructions_from (begins 9 9 hi) (reused 0 ∷ executed 0 ∷ []) ≡ 3
unfolding step finished thunk turn fetched number_at number_in permission_at decoded reading_of u_immediate i_immediate
    immediate_result with_register is_readable put_addresses first_registers all_unlocked
instructions-reused = refl
