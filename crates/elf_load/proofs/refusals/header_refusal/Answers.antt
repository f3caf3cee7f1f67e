-- Answers to the goals that the check of `header_refusal` leaves open.
use Rattle.std.proofs.Common.{[], ◌∷◌, sym, ◌∙◌}
use Rattle.elf_spec.specs.Refusals.{not_elf, not_elf32, not_exec, not_riscv, compressed, entry_size}
use Rattle.elf_load.proofs.Given.{skip, stop, last}
use Rattle.elf_load.proofs.refusals.header_refusal.Goals as goal

pub returns-in-Some : goal.returns-in-Some
returns-in-Some c =
    let bytes = c.args.bytes.now in
    sym (stop (not_elf bytes)
    (not_elf32 bytes ∷ not_exec bytes ∷ not_riscv bytes ∷ compressed bytes ∷ entry_size bytes ∷ []) c.in-Some.refusal
    (sym c.not_elf.ensures ∙ c.in-Some.is))

pub returns-in-Some-not_elf32 : goal.returns-in-Some-not_elf32
returns-in-Some-not_elf32 c =
    let bytes = c.args.bytes.now in
    sym (skip (not_elf bytes)
    (not_elf32 bytes ∷ not_exec bytes ∷ not_riscv bytes ∷ compressed bytes ∷ entry_size bytes ∷ [])
    (sym c.not_elf.ensures ∙ c.in-None.is) ∙
    stop (not_elf32 bytes) (not_exec bytes ∷ not_riscv bytes ∷ compressed bytes ∷ entry_size bytes ∷ [])
    c.in-Some-not_elf32.refusal (sym c.not_elf32.ensures ∙ c.in-Some-not_elf32.is))

pub returns-in-Some-not_exec : goal.returns-in-Some-not_exec
returns-in-Some-not_exec c =
    let bytes = c.args.bytes.now in
    sym (skip (not_elf bytes)
    (not_elf32 bytes ∷ not_exec bytes ∷ not_riscv bytes ∷ compressed bytes ∷ entry_size bytes ∷ [])
    (sym c.not_elf.ensures ∙ c.in-None.is) ∙
    skip (not_elf32 bytes) (not_exec bytes ∷ not_riscv bytes ∷ compressed bytes ∷ entry_size bytes ∷ [])
    (sym c.not_elf32.ensures ∙ c.in-None-not_elf32.is) ∙
    stop (not_exec bytes) (not_riscv bytes ∷ compressed bytes ∷ entry_size bytes ∷ []) c.in-Some-not_exec.refusal
    (sym c.not_exec.ensures ∙ c.in-Some-not_exec.is))

pub returns-in-Some-not_riscv : goal.returns-in-Some-not_riscv
returns-in-Some-not_riscv c =
    let bytes = c.args.bytes.now in
    sym (skip (not_elf bytes)
    (not_elf32 bytes ∷ not_exec bytes ∷ not_riscv bytes ∷ compressed bytes ∷ entry_size bytes ∷ [])
    (sym c.not_elf.ensures ∙ c.in-None.is) ∙
    skip (not_elf32 bytes) (not_exec bytes ∷ not_riscv bytes ∷ compressed bytes ∷ entry_size bytes ∷ [])
    (sym c.not_elf32.ensures ∙ c.in-None-not_elf32.is) ∙
    skip (not_exec bytes) (not_riscv bytes ∷ compressed bytes ∷ entry_size bytes ∷ [])
    (sym c.not_exec.ensures ∙ c.in-None-not_exec.is) ∙
    stop (not_riscv bytes) (compressed bytes ∷ entry_size bytes ∷ []) c.in-Some-not_riscv.refusal
    (sym c.not_riscv.ensures ∙ c.in-Some-not_riscv.is))

pub returns-in-Some-compressed : goal.returns-in-Some-compressed
returns-in-Some-compressed c =
    let bytes = c.args.bytes.now in
    sym (skip (not_elf bytes)
    (not_elf32 bytes ∷ not_exec bytes ∷ not_riscv bytes ∷ compressed bytes ∷ entry_size bytes ∷ [])
    (sym c.not_elf.ensures ∙ c.in-None.is) ∙
    skip (not_elf32 bytes) (not_exec bytes ∷ not_riscv bytes ∷ compressed bytes ∷ entry_size bytes ∷ [])
    (sym c.not_elf32.ensures ∙ c.in-None-not_elf32.is) ∙
    skip (not_exec bytes) (not_riscv bytes ∷ compressed bytes ∷ entry_size bytes ∷ [])
    (sym c.not_exec.ensures ∙ c.in-None-not_exec.is) ∙
    skip (not_riscv bytes) (compressed bytes ∷ entry_size bytes ∷ [])
    (sym c.not_riscv.ensures ∙ c.in-None-not_riscv.is) ∙
    stop (compressed bytes) (entry_size bytes ∷ []) c.in-Some-compressed.refusal
    (sym c.compressed.ensures ∙ c.in-Some-compressed.is))

pub returns : goal.returns
returns c =
    let bytes = c.args.bytes.now in
    sym (skip (not_elf bytes)
    (not_elf32 bytes ∷ not_exec bytes ∷ not_riscv bytes ∷ compressed bytes ∷ entry_size bytes ∷ [])
    (sym c.not_elf.ensures ∙ c.in-None.is) ∙
    skip (not_elf32 bytes) (not_exec bytes ∷ not_riscv bytes ∷ compressed bytes ∷ entry_size bytes ∷ [])
    (sym c.not_elf32.ensures ∙ c.in-None-not_elf32.is) ∙
    skip (not_exec bytes) (not_riscv bytes ∷ compressed bytes ∷ entry_size bytes ∷ [])
    (sym c.not_exec.ensures ∙ c.in-None-not_exec.is) ∙
    skip (not_riscv bytes) (compressed bytes ∷ entry_size bytes ∷ [])
    (sym c.not_riscv.ensures ∙ c.in-None-not_riscv.is) ∙
    skip (compressed bytes) (entry_size bytes ∷ []) (sym c.compressed.ensures ∙ c.in-None-compressed.is) ∙
    last (entry_size bytes) ∙ sym c.entry_size.ensures)
