-- Answers to the goals that the check of `run_page` leaves open.
use Rattle.std.proofs.Common.{◌≡◌, ◌+◌, ◌-◌, ◌/◌, ◌%◌, ◌^◌, ◌<◌, ℕ, refl, ap, ◌∙◌, arith}
use Rattle.isa_spec.specs.Registers.{Registers, with_pc}
use Rattle.memory_spec.specs.Workspace.{Workspace}
use Rattle.rv_step.specs.Step.{Follow}
use Rattle.rv_step.specs.Paging.{at_word, instr_placed, word_at}
use Rattle.rv_step.proofs.Pages.{placed-within, placed-more}
use Rattle.rv_step.proofs.Zero.{executes-zero}
use Rattle.rv_step.proofs.page.run_page.Goals as goal

-- where nothing happened, the turns before it were made
stand :
    (made count : ℕ) (first w after : Workspace) (start r left : Registers)
    → count ≡ made → after ≡ w → left ≡ r → Follow made first start w r → Follow count first start after left
stand made count first w after start r left counted same is follow = rw (counted, same, is) follow

-- the word at the pc, in the page that has it
word_at-pc : (pc number : ℕ) → pc < 2 ^ 32 → pc / 4096 ≡ number → pc % 4 ≡ 0 → word_at number (pc % 4096 / 4) ≡ pc
word_at-pc pc number fits here aligned = omega arith

none-ahead : (pc : ℕ) → 1024 - pc % 4096 / 4 + pc % 4096 / 4 - 1024 ≡ 0
none-ahead pc = omega arith

pub turns-init : goal.turns-init
turns-init g c =
    let is = c.pc.ensures.value in
    let none = none-ahead c.pc.result in
    let here = word_at-pc c.pc.result c.args.page.now.number (rw is (omega arith)) (rw is c.requires.here) (rw is c.requires.aligned) in
    record {
      within = omega arith;
      some = omega arith;
      few = omega arith;
      counted = refl;
      zero = c.pc.ensures.zero;
      runs = c.requires.runs;
      follow = rw none (refl, ap (with_pc c.args.regs.now) (here ∙ is));
    }

pub turns-preserved-in-Ok-Next : goal.turns-preserved-in-Ok-Next
turns-preserved-in-Ok-Next g c =
    let page = c.args.page.now in
    let p = c.operation_at-placed.result in
    let here = c.operation_at-placed.ensures in
    let w = g.M.Mem.workspace c.turns.mem in
    let after = g.M.Mem.workspace c.execute_operation.new.mem in
    let registers = at_word p.number (p.index + 1) c.execute_operation.new.regs in
    let led = rw c.in-Ok-Next.field-0-is at c.in-Ok-Next.ensures.ok in
    let within : c.turns.index < 1024 = placed-within page p c.turns.index w after c.turns.regs registers here.code
    here.operation here.number here.index c.turns.invariant.within led.0 in
    let more = placed-more page p c.turns.index (c.turns.ahead + c.turns.index - 1024)
    (c.turns.ahead + (c.turns.index + 1) - 1024) (g.M.Mem.workspace c.args.mem.now) w after c.args.regs.now c.turns.regs
    registers here.code here.operation here.number here.index c.turns.invariant.runs c.turns.invariant.zero
    c.turns.invariant.follow within (omega arith) led.0 in
    let same : registers ≡ at_word page.number (c.turns.index + 1) c.execute_operation.new.regs =
    rw (here.number, here.index) refl in
    record {
      within = omega arith;
      some = omega arith;
      few = c.turns.invariant.few;
      counted = c.turns.invariant.counted;
      zero = executes-zero (instr_placed p) w after (at_word p.number p.index c.turns.regs) registers c.turns.invariant.zero led.0;
      runs = (rw here.number at led.1) page.bytes c.turns.invariant.runs;
      follow = rw (← same) more;
    }

pub turns-preserved : goal.turns-preserved
turns-preserved g c =
    let page = c.args.page.now in
    let p = c.operation_at-placed.result in
    let here = c.operation_at-placed.ensures in
    let w = g.M.Mem.workspace c.turns.mem in
    let after = g.M.Mem.workspace c.execute_operation.new.mem in
    let target = c.in-Ok-Inside.target in
    let registers = at_word p.number target c.execute_operation.new.regs in
    let led = rw c.in-Ok-Inside.field-0-is at c.in-Ok-Inside.ensures.ok in
    let within : c.turns.index < 1024 = placed-within page p c.turns.index w after c.turns.regs registers here.code
    here.operation here.number here.index c.turns.invariant.within led.0 in
    let inside : target < 1024 = led.2 in
    let more = placed-more page p c.turns.index (c.turns.ahead + c.turns.index - 1024)
    (c.turns.ahead - (1023 - c.turns.index) + (1024 - target) + target - 1024) (g.M.Mem.workspace c.args.mem.now) w
    after
    c.args.regs.now c.turns.regs
    registers here.code here.operation here.number here.index c.turns.invariant.runs c.turns.invariant.zero
    c.turns.invariant.follow within (omega arith) led.0 in
    let same : registers ≡ at_word page.number target c.execute_operation.new.regs =
    rw here.number refl in
    record {
      within = omega arith;
      some = omega arith;
      few = omega arith;
      counted = c.turns.invariant.counted;
      zero = executes-zero (instr_placed p) w after (at_word p.number p.index c.turns.regs) registers c.turns.invariant.zero led.0;
      runs = (rw here.number at led.1) page.bytes c.turns.invariant.runs;
      follow = rw (← same) more;
    }

pub returns-then-made-room-clause-turns : goal.returns-then-made-room-clause-turns
returns-then-made-room-clause-turns g c =
    let page = c.args.page.now in
    let p = c.operation_at-placed.result in
    let here = c.operation_at-placed.ensures in
    let w = g.M.Mem.workspace c.turns.mem in
    let after = g.M.Mem.workspace c.execute_operation.new.mem in
    let registers = at_word p.number c.in-Ok-Inside.target c.execute_operation.new.regs in
    let led = rw c.in-Ok-Inside.field-0-is at c.in-Ok-Inside.ensures.ok in
    let within : c.turns.index < 1024 = placed-within page p c.turns.index w after c.turns.regs registers here.code
    here.operation here.number here.index c.turns.invariant.within led.0 in
    rw (c.leave.ensures.registers, c.address_of-pc.ensures)
    (placed-more page p c.turns.index (c.turns.ahead + c.turns.index - 1024) c.leave.result.count
    (g.M.Mem.workspace c.args.mem.now) w after c.args.regs.now c.turns.regs registers here.code here.operation
    here.number here.index c.turns.invariant.runs c.turns.invariant.zero c.turns.invariant.follow within
    (omega arith) led.0)

pub returns-in-Ok-Outside-clause-turns : goal.returns-in-Ok-Outside-clause-turns
returns-in-Ok-Outside-clause-turns g c =
    let page = c.args.page.now in
    let p = c.operation_at-placed.result in
    let here = c.operation_at-placed.ensures in
    let w = g.M.Mem.workspace c.turns.mem in
    let after = g.M.Mem.workspace c.execute_operation.new.mem in
    let registers = with_pc c.execute_operation.new.regs c.in-Ok-Outside.target in
    let led = rw c.in-Ok-Outside.field-0-is at c.in-Ok-Outside.ensures.ok in
    let within : c.turns.index < 1024 = placed-within page p c.turns.index w after c.turns.regs registers here.code
    here.operation here.number here.index c.turns.invariant.within led in
    rw c.leave-in-Ok-Outside.ensures.registers
    (placed-more page p c.turns.index (c.turns.ahead + c.turns.index - 1024) c.leave-in-Ok-Outside.result.count
    (g.M.Mem.workspace c.args.mem.now) w after c.args.regs.now c.turns.regs registers here.code here.operation
    here.number here.index c.turns.invariant.runs c.turns.invariant.zero c.turns.invariant.follow within
    (omega arith) led)

pub returns-in-Ok-Changed-clause-turns : goal.returns-in-Ok-Changed-clause-turns
returns-in-Ok-Changed-clause-turns g c =
    let page = c.args.page.now in
    let p = c.operation_at-placed.result in
    let here = c.operation_at-placed.ensures in
    let w = g.M.Mem.workspace c.turns.mem in
    let after = g.M.Mem.workspace c.execute_operation.new.mem in
    let registers = at_word p.number (p.index + 1) c.execute_operation.new.regs in
    let led = rw c.in-Ok-Changed.field-0-is at c.in-Ok-Changed.ensures.ok in
    let within : c.turns.index < 1024 = placed-within page p c.turns.index w after c.turns.regs registers here.code
    here.operation here.number here.index c.turns.invariant.within led in
    rw (c.leave-in-Ok-Changed.ensures.registers, c.address_of-pc-in-Ok-Changed.ensures, ← here.index)
    (placed-more page p c.turns.index (c.turns.ahead + c.turns.index - 1024) c.leave-in-Ok-Changed.result.count
    (g.M.Mem.workspace c.args.mem.now) w after c.args.regs.now c.turns.regs registers here.code here.operation
    here.number here.index c.turns.invariant.runs c.turns.invariant.zero c.turns.invariant.follow within
    (omega arith) led)

pub returns-in-Ok-Other : goal.returns-in-Ok-Other
returns-in-Ok-Other g c =
    let led = rw c.in-Ok-Other.field-0-is at c.in-Ok-Other.ensures.ok in
    record {
      turns = stand _ _ _ _ _ _ _ _ (omega arith) led.0
          (rw (c.leave-in-Ok-Other.ensures.registers, c.address_of-pc-in-Ok-Other.ensures, c.operation_at-placed.ensures.number, led.1) refl)
          c.turns.invariant.follow;
      few = omega arith;
      cost = omega arith;
      never_lower = omega arith;
      err = tt;
      jumped = λ jumped. cc (jumped, c.leave-in-Ok-Other.ensures.end);
    }

pub returns-in-Err : goal.returns-in-Err
returns-in-Err g c =
    let kept = c.in-Err.ensures.err in
    let follow = stand _ (c.turns.ahead + c.turns.index - 1024) _ _ _ _ _ _ refl kept.1
    (rw (c.fail.ensures.registers, c.address_of-pc-in-Err.ensures, c.operation_at-placed.ensures.number, kept.0) refl)
    c.turns.invariant.follow in
    record {
      turns = tt;
      few = tt;
      cost = tt;
      never_lower = omega arith;
      err = (c.turns.ahead + c.turns.index - 1024, omega arith, omega arith, follow);
      jumped = tt;
    }
