-- Answers to the goals that the check of `read_program` leaves open.
use Rattle.std.proofs.Common.{◌≡◌, ◌∙◌, rules}
use Rattle.memo_file.proofs.Accepting.{elf_taken}
use Rattle.memo_file.proofs.setup.read_program.Goals as goal

pub returns-in-Ok : goal.returns-in-Ok
returns-in-Ok c =
    let items : c.in_ok-elf.elf.items ≡ c.in_ok-run.field-0.now = search rules in
    let elf : c.in-Ok.setup.elf ≡ c.in_ok-elf.elf.items = search rules in
    elf_taken c.in_ok-length.length c.args.cursor.now c.limited.new.cursor c.run.new.cursor c.in_ok-run.field-0.now
    c.in-Ok.setup.elf c.in_ok-length.ensures.given c.in_ok-run.ensures.given (elf ∙ items)
    c.in-Ok.ensures.sound.elf_accepted
