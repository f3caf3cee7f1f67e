-- Operations of a page that don't access memory do what their instructions do.
use Rattle.std.proofs.Common.{◌≡◌, ℕ, slice_set, ◌+◌, ◌/◌, ◌%◌, ◌^◌, ◌<◌, ◌==◌, true, false, cond, [], Some, refl, ap, sym, ◌∙◌, eq-eqb, arith}
use Rattle.isa_spec.specs.declared.Instr.{Instr}
use Rattle.isa_spec.specs.declared.ShiftOperation.{ShiftOperation}
use Rattle.isa_spec.specs.declared.ShiftOperation.TheVariants as shift
use Rattle.isa_spec.specs.Operations.{shift_result}
use Rattle.isa_spec.specs.Registers.{Registers, with_register, with_pc}
use Rattle.isa_spec.specs.Words.{sum_of}
use Rattle.memory_spec.specs.declared.TheConstants.{PAGE_NUMBERS}
use Rattle.memory_spec.specs.Workspace.{Workspace}
use Rattle.thunk_spec.specs.Turn.{Turn, executed, computed, passed, advanced, linked}
use Rattle.rv_code.specs.Meaning.{offset_to}
use Rattle.rv_step.specs.declared.placed.Flow.{Flow}
use Rattle.rv_step.specs.declared.placed.Flow.TheVariants as flow
use Rattle.rv_step.specs.declared.placed.Placed.{Placed}
use Rattle.rv_step.specs.Paging.{word_at, at_word, instr_placed, Executes, Leads}

-- the word after a word is 4 bytes after it
pub word_at-next : (number index : ℕ) → sum_of (word_at number index) 4 ≡ word_at number (index + 1)
word_at-next number index = omega arith

-- a write to a register keeps the pc
pub with_register-pc :
    (r : Registers) (n value pc : ℕ) → with_register (with_pc r pc) n value ≡ with_pc (with_register r n value) pc
unfolding with_register
with_register-pc r n value pc =
    elim (n == 0)
    as (λ b.
    cond b (with_pc r pc) (record { pc = pc; x = slice_set r.x n value })
    ≡ with_pc (cond b r (record { pc = r.pc; x = slice_set r.x n value })) pc)
    [ true ↦ refl | false ↦ refl ]

-- an instruction that computes, and continues at the next word
pub computed-next :
    (w : Workspace) (number index : ℕ) (r registers : Registers) (rd value : ℕ) (i : Instr)
    → registers ≡ with_register r rd value
    → executed w.map w.memory (at_word number index r) i ≡ computed (at_word number index r) rd value
    → Executes (Some i) w (at_word number index r) w (at_word number (index + 1) registers)
computed-next w number index r registers rd value i are does =
    let regs : at_word number (index + 1) registers ≡ advanced (with_register (at_word number index r) rd value) =
    rw (are, with_register-pc r rd value (word_at number index), word_at-next number index) refl in
    record {
      outcome_is = ap (λ (t : Turn). t.outcome) (sym does);
      regs_are = regs ∙ ap (λ (t : Turn). t.regs) (sym does);
      workspace_is = rw does refl;
    }

-- after an operation that computes, the page continues
pub computed-leads :
    (p : Placed) (r registers : Registers) (rd value : ℕ) (i : Instr) (f : Flow)
    → f ≡ flow.Next → instr_placed p ≡ Some i
    → registers ≡ with_register r rd value
    → ((w : Workspace) → executed w.map w.memory (at_word p.number p.index r) i
    ≡ computed (at_word p.number p.index r) rd value)
    → (w : Workspace) → Leads f p w r w registers
computed-leads p r registers rd value i f next stands are does w =
    rw (next, stands) (computed-next w p.number p.index r registers rd value i are (does w), λ _ runs. runs)

mod_twice : (n : ℕ) → n % 32 % 32 ≡ n % 32
mod_twice n = omega arith

-- only the low five bits of a shift's amount count
pub shift_result-low :
    (s : ShiftOperation) (a amount : ℕ) → shift_result s a (amount % 32) ≡ shift_result s a amount
unfolding shift_result
shift_result-low shift.LeftLogical a amount = rw (mod_twice amount) refl
shift_result-low shift.RightLogical a amount = rw (mod_twice amount) refl
shift_result-low shift.RightArithmetic a amount = rw (mod_twice amount) refl

-- an instruction after which the page continues, and that doesn't access memory
pub passed-executes :
    (w : Workspace) (before after : Registers) (i : Instr)
    → executed w.map w.memory before i ≡ passed after [] [] → Executes (Some i) w before w after
passed-executes w before after i does =
    record {
      outcome_is = ap (λ (t : Turn). t.outcome) (sym does);
      regs_are = ap (λ (t : Turn). t.regs) (sym does);
      workspace_is = rw does refl;
    }

-- an operation that leads to a word of its page
pub inside-leads :
    (p : Placed) (r registers : Registers) (target : ℕ) (i : Instr)
    → instr_placed p ≡ Some i → target < 1024
    → ((w : Workspace) → executed w.map w.memory (at_word p.number p.index r) i
    ≡ passed (at_word p.number target registers) [] [])
    → (w : Workspace) → Leads (flow.Inside target) p w r w registers
inside-leads p r registers target i stands lt does w =
    rw stands
    (passed-executes w (at_word p.number p.index r) (at_word p.number target registers) i (does w), λ _ runs. runs, lt)

-- an operation that leads to an address
pub outside-leads :
    (p : Placed) (r registers : Registers) (target : ℕ) (i : Instr)
    → instr_placed p ≡ Some i
    → ((w : Workspace) → executed w.map w.memory (at_word p.number p.index r) i
    ≡ passed (with_pc registers target) [] [])
    → (w : Workspace) → Leads (flow.Outside target) p w r w registers
outside-leads p r registers target i stands does w =
    rw stands (passed-executes w (at_word p.number p.index r) (with_pc registers target) i (does w))

-- an offset inside a page leads to its word
pub offset-leads :
    (number index target : ℕ) → number < PAGE_NUMBERS → index < 1024 → target < 1024
    → sum_of (word_at number index) (offset_to (word_at number index) target) ≡ word_at number target
offset-leads number index target few within inside = omega arith

-- the address of a word is a multiple of 4
pub word_at-aligned : (number index : ℕ) → (word_at number index % 4 == 0) ≡ true
word_at-aligned number index = eq-eqb (word_at number index % 4) 0 (omega arith)

-- the link of a jump, and its target
pub linked-pc :
    (r : Registers) (rd number index target : ℕ)
    → with_pc (linked (at_word number index r) rd) target
    ≡ with_pc (with_register r rd (word_at number (index + 1))) target
linked-pc r rd number index target =
    rw (with_register-pc r rd (sum_of (word_at number index) 4) (word_at number index), word_at-next number index) refl

-- no link is written to x0
pub linked-zero : (r : Registers) → linked r 0 ≡ r
unfolding with_register
linked-zero r = refl

-- a multiple of 4 in a page is the address of one of its words
pub word_at-inside :
    (number target : ℕ) → target < 2 ^ 32 → target / 4096 ≡ number → target % 4 ≡ 0
    → word_at number (target % 4096 / 4) ≡ target
word_at-inside number target few page aligned = omega arith
