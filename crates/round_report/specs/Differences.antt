-- The first difference between a thread and the record of its step.
use Rattle.std.specs.Prelude.{ℕ, ◌==◌, not, List, find, position, slice_index, slice_set, zip, Option, Some, None}
use Rattle.std.specs.Str.{bytes_eq}
use Rattle.isa_spec.specs.Registers.{Registers}
use Rattle.memory_spec.specs.Pages.{Memory, page_of}
use Rattle.thunk_spec.specs.Reads.{ReadPage}
use Rattle.thunk_spec.specs.Record.{Record}
use Rattle.machine_spec.specs.Machine.{Hart}
use Rattle.round_report.specs.declared.why.reason.Cause.{Cause}
use Rattle.round_report.specs.declared.why.reason.Cause.TheVariants.{NoRecord, Register, Byte}

-- The pc and x1 to x31 by their numbers; the pc has the number 0.
abbrev pub numbered : Registers → List ℕ
numbered r = slice_set r.x 0 r.pc

-- The first place at which two lists differ.
abbrev pub first_difference : List ℕ → List ℕ → Option ℕ
first_difference now was = position (λ p. not (p.0 == p.1)) (zip now was)

-- The first of some read pages whose bytes differ from a view's.
abbrev pub first_other_page : Memory → List ReadPage → Option ReadPage
first_other_page view reads = find (λ (p : ReadPage). not (bytes_eq (page_of view p.slot) p.bytes)) reads

-- A register that differs, if one does.
abbrev pub register_cause : List ℕ → List ℕ → Option ℕ → Option Cause
register_cause now was None = None
register_cause now was (Some n) = Some (Register n (slice_index now n) (slice_index was n))

-- A byte that differs of the page at an address, if one does, with the entry that stored it.
abbrev pub byte_cause : ℕ → (ℕ → Option ℕ) → List ℕ → List ℕ → Option ℕ → Option Cause
byte_cause address stored now was None = None
byte_cause address stored now was (Some place) =
    Some (Byte address place (slice_index now place) (slice_index was place) (stored place))

-- A byte of a page that differs, if one does.
abbrev pub page_cause : List ℕ → (ℕ → ℕ → Option ℕ) → Memory → Option ReadPage → Option Cause
page_cause addresses stored view None = None
page_cause addresses stored view (Some p) =
    byte_cause (slice_index addresses p.slot) (stored p.slot) (page_of view p.slot) p.bytes
    (first_difference (page_of view p.slot) p.bytes)

-- The first of two causes, or the second if there is no first.
abbrev pub first_cause : Option Cause → Option Cause → Option Cause
first_cause (Some cause) other = Some cause
first_cause None other = other

-- Why a record can't be reused for the next step of a hart: there is none; or else the least register that differs from
-- the record's first registers; or else the first byte that differs in the first read page that differs. Pages are
-- named by their addresses. `stored` has the entry that stored each byte, by slot and place.
abbrev pub cause_of : List ℕ → (ℕ → ℕ → Option ℕ) → Hart → Option Record → Option Cause
cause_of addresses stored h None = Some NoRecord
cause_of addresses stored h (Some r) =
    first_cause
    (register_cause (numbered h.regs) (numbered r.start) (first_difference (numbered h.regs) (numbered r.start)))
    (page_cause addresses stored h.view (first_other_page h.view r.kept.reads))
