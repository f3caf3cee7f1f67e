-- A page that is executed can still be executed while nothing is stored to it.
use Rattle.std.proofs.Common.{◌≡◌, ◌≢◌, ℕ, ◌+◌, ◌*◌, ◌/◌, ◌%◌, ◌<◌, ◌≤◌, ◌==◌, Bool, true, false, cond, zero, suc, subst, slice_index_or, Option, None, List, [], ◌∷◌, length, set, get_or, Some, refl, ap, sym, ◌∙◌, eqb-true, arith}
use Rattle.std.proofs.lemmas.List.{get_or-set_other, set-set, set_comm}
use Rattle.std.proofs.lemmas.Bool.Decides.{nat_tests}
use Rattle.isa_spec.specs.declared.Instr.{Instr}
use Rattle.isa_spec.specs.declared.Instr.TheVariants as instr
use Rattle.isa_spec.specs.declared.Load.{Load}
use Rattle.isa_spec.specs.declared.Store.{Store}
use Rattle.isa_spec.specs.Registers.{Registers, register, with_register}
use Rattle.isa_spec.specs.Words.{sum_of}
use Rattle.isa_spec.specs.Table.{decoded}
use Rattle.memory_spec.specs.declared.Size.{Size}
use Rattle.memory_spec.specs.declared.Size.TheVariants.{One, Two, Four}
use Rattle.memory_spec.specs.declared.TheConstants.{PAGE_NUMBERS}
use Rattle.memory_spec.specs.Pages.{Mapped, Memory, allows, execute_right, slot_of, permission_at, page_of, unmapped}
use Rattle.memory_spec.specs.Stores.{with_byte, with_stores}
use Rattle.memory_spec.specs.Access.{byte_count, byte_stored, bytes_stored, number_in, number_at, loaded, fetched, may_store}
use Rattle.memory_spec.specs.Workspace.{Workspace, taken_at, after_taking, after_storing}
use Rattle.thunk_spec.specs.declared.ends.Outcome.TheVariants.{Next}
use Rattle.thunk_spec.specs.Turn.{Turn, turn, word_turn, with_fetch, executed, passed, load_size, load_result, store_size}
use Rattle.page_store.specs.Entering.{RunsFrom}
use Rattle.page_store.proofs.Slots.{slot_of-page, number-slot_of}
use Rattle.rv_code.specs.declared.operation.Operation.{Operation}
use Rattle.rv_code.specs.Meaning.{Decoded, IsCodeOf, instr_of, other}
use Rattle.rv_step.specs.declared.placed.Placed.{Placed}
use Rattle.rv_step.specs.Step.{Makes, Follow}
use Rattle.rv_step.specs.Paging.{word_at, at_word, operation_of, instr_placed, Executes, RunsOn}
use Rattle.rv_step.proofs.Words.{word_at-next, word_at-aligned, with_register-pc}

-- a page that may be executed is mapped
pub executed-mapped :
    (map : List Mapped) (address : ℕ) → allows execute_right (permission_at map address) ≡ true
    → slot_of map address < length map
unfolding permission_at
executed-mapped [] address permitted = cc
executed-mapped (p ∷ ps) address permitted =
    elim (p.number == address / 4096)
    as (λ b.
    allows execute_right (get_or (p ∷ ps) (cond b 0 (suc (slot_of ps address))) unmapped).permission ≡ true
    → cond b 0 (suc (slot_of ps address)) < suc (length ps))
    [ true ↦ λ _. omega arith | false ↦ λ h. omega (arith, executed-mapped ps address h) ] permitted

-- the page of a number has another slot than an address of another page
pub other-slot :
    (map : List Mapped) (number address : ℕ) → allows execute_right (permission_at map (number * 4096)) ≡ true
    → address / 4096 ≢ number → slot_of map (number * 4096) ≢ slot_of map address
other-slot map number address permitted other same =
    let mapped = executed-mapped map (number * 4096) permitted in
    let mapped_too : slot_of map address < length map = omega arith in
    let here = number-slot_of map (number * 4096) mapped in
    let there = number-slot_of map address mapped_too in
    let equal : (get_or map (slot_of map (number * 4096)) unmapped).number
    ≡ (get_or map (slot_of map address) unmapped).number =
    ap (λ (k : ℕ). (get_or map k unmapped).number) same in
    other (omega arith)

-- a mark that is set stays set
pub set-stays :
    (taken : List Bool) (k n : ℕ) → set taken k true ≡ taken → set (set taken n true) k true ≡ set taken n true
set-stays taken k n is =
    elim (n == k) as (λ b. (n == k) ≡ b → set (set taken n true) k true ≡ set taken n true) [
      | true ↦ λ same. rw (eqb-true n k same) (set-set taken k true true)
      | false ↦ λ differ.
          set_comm taken n k true true (λ same. absurd (grind (arith, nat_tests)))
          ∙ ap (λ (marks : List Bool). set marks n true) is
    ] refl

-- taking a byte of any page
pub taking-runs_on : (w : Workspace) (number address : ℕ) → RunsOn number w (after_taking w (address ∷ []))
taking-runs_on w number address bytes runs =
    record {
      permitted = runs.permitted;
      bytes_are = runs.bytes_are;
      taken = set-stays w.taken (slot_of w.map (number * 4096)) (slot_of w.map address) runs.taken;
    }

-- one byte stored elsewhere
pub with_byte-elsewhere :
    (map : List Mapped) (m : Memory) (number address value : ℕ)
    → allows execute_right (permission_at map (number * 4096)) ≡ true → address / 4096 ≢ number
    → page_of (with_byte map m (record { address = address; byte = value })) (slot_of map (number * 4096))
    ≡ page_of m (slot_of map (number * 4096))
unfolding with_byte
with_byte-elsewhere map m number address value permitted other =
    get_or-set_other m (slot_of map address) (slot_of map (number * 4096)) _ []
    (other-slot map number address permitted other)

-- an aligned store elsewhere
pub with_stores-elsewhere :
    (map : List Mapped) (m : Memory) (number address value : ℕ) (size : Size)
    → allows execute_right (permission_at map (number * 4096)) ≡ true → address / 4096 ≢ number
    → address % byte_count size ≡ 0
    → page_of (with_stores map m (bytes_stored address size value)) (slot_of map (number * 4096))
    ≡ page_of m (slot_of map (number * 4096))
unfolding bytes_stored
with_stores-elsewhere map m number address value One permitted other aligned =
    with_byte-elsewhere map m number (address + 0) _ permitted (λ same. other (omega arith))
with_stores-elsewhere map m number address value Two permitted other aligned =
    let m0 = with_byte map m (byte_stored address value 0) in
    with_byte-elsewhere map m0 number (address + 1) _ permitted (λ same. other (omega arith))
    ∙ with_byte-elsewhere map m number (address + 0) _ permitted (λ same. other (omega arith))
with_stores-elsewhere map m number address value Four permitted other aligned =
    let m0 = with_byte map m (byte_stored address value 0) in
    let m1 = with_byte map m0 (byte_stored address value 1) in
    let m2 = with_byte map m1 (byte_stored address value 2) in
    with_byte-elsewhere map m2 number (address + 3) _ permitted (λ same. other (omega arith))
    ∙ with_byte-elsewhere map m1 number (address + 2) _ permitted (λ same. other (omega arith))
    ∙ with_byte-elsewhere map m0 number (address + 1) _ permitted (λ same. other (omega arith))
    ∙ with_byte-elsewhere map m number (address + 0) _ permitted (λ same. other (omega arith))

-- storing to another page
pub storing-runs_on :
    (w : Workspace) (number address value : ℕ) (size : Size)
    → address / 4096 ≢ number → address % byte_count size ≡ 0
    → RunsOn number w (after_storing w (bytes_stored address size value))
storing-runs_on w number address value size other aligned bytes runs =
    record {
      permitted = runs.permitted;
      bytes_are = with_stores-elsewhere w.map w.memory number address value size runs.permitted other aligned ∙ runs.bytes_are;
      taken = runs.taken;
    }

-- a load that found its value
pub load-executes :
    (w after : Workspace) (number index : ℕ) (r registers : Registers) (kind : Load) (size : Size)
    (rd rs1 imm address value result : ℕ)
    → size ≡ load_size kind → sum_of (register r rs1) imm ≡ address → (address % byte_count size == 0) ≡ true
    → loaded w.map w.memory address size ≡ Some value → result ≡ load_result kind value
    → registers ≡ with_register r rd result → after ≡ after_taking w (address ∷ [])
    → Executes (Some (instr.Load kind rd rs1 imm)) w (at_word number index r) after
    (at_word number (index + 1) registers)
load-executes w after number index r registers kind size rd rs1 imm address value result sized is aligned found gives
    are taken =
    let does : executed w.map w.memory (at_word number index r) (instr.Load kind rd rs1 imm)
    ≡ passed (at_word number (index + 1) registers) (address ∷ []) [] =
    rw (
      is,
      ← sized,
      aligned,
      found,
      ← gives,
      with_register-pc r rd result (word_at number index),
      word_at-next number index,
      are,
    ) refl in
    record {
      outcome_is = ap (λ (t : Turn). t.outcome) (sym does);
      regs_are = ap (λ (t : Turn). t.regs) (sym does);
      workspace_is = rw does taken;
    }

-- a store that was permitted
pub store-executes :
    (w after : Workspace) (number index : ℕ) (r : Registers) (kind : Store) (size : Size)
    (rs1 rs2 imm address value : ℕ)
    → size ≡ store_size kind → sum_of (register r rs1) imm ≡ address → register r rs2 ≡ value
    → (address % byte_count size == 0) ≡ true → may_store w.map address ≡ true
    → after ≡ after_storing w (bytes_stored address size value)
    → Executes (Some (instr.Store kind rs1 rs2 imm)) w (at_word number index r) after (at_word number (index + 1) r)
store-executes w after number index r kind size rs1 rs2 imm address value sized is value_is aligned permitted stored =
    let does : executed w.map w.memory (at_word number index r) (instr.Store kind rs1 rs2 imm)
    ≡ passed (at_word number (index + 1) r) [] (bytes_stored address size value) =
    rw (is, value_is, ← sized, aligned, permitted, word_at-next number index) refl in
    record {
      outcome_is = ap (λ (t : Turn). t.outcome) (sym does);
      regs_are = ap (λ (t : Turn). t.regs) (sym does);
      workspace_is = rw does stored;
    }

-- the address of a word
word_at-plain : (number index : ℕ) → number < PAGE_NUMBERS → index < 1024 → word_at number index ≡ number * 4096 + 4 * index
word_at-plain number index few within = omega arith

-- the permission depends on the page's number alone
pub permission_at-page :
    (map : List Mapped) (a b : ℕ) → a / 4096 ≡ b / 4096 → permission_at map a ≡ permission_at map b
unfolding permission_at
permission_at-page map a b same = ap (λ (k : ℕ). (get_or map k unmapped).permission) (slot_of-page map a b same)

-- an address of a page that runs has that page's slot
page-slot :
    (map : List Mapped) (number index : ℕ) → number < PAGE_NUMBERS → index < 1024
    → slot_of map (word_at number index) ≡ slot_of map (number * 4096)
page-slot map number index few within = slot_of-page map (word_at number index) (number * 4096) (omega arith)

-- the word that a page that runs has at an index
fetched-word :
    (w : Workspace) (bytes : List ℕ) (number index : ℕ) → RunsFrom w number bytes → number < PAGE_NUMBERS → index < 1024
    → fetched w.map w.memory (word_at number index) ≡ Some (number_in bytes (4 * index) Four)
unfolding fetched number_at
fetched-word w bytes number index runs few within =
    let permission : permission_at w.map (word_at number index) ≡ permission_at w.map (number * 4096) =
    permission_at-page w.map (word_at number index) (number * 4096) (omega arith) in
    let offset : word_at number index % 4096 ≡ 4 * index = omega arith in
    rw (permission, page-slot w.map number index few within, offset, runs.permitted, runs.bytes_are) refl

-- a turn whose word is fetched from a page that runs
fetched-turn :
    (w : Workspace) (bytes : List ℕ) (number index : ℕ) (r : Registers) (i : Instr)
    → RunsFrom w number bytes → number < PAGE_NUMBERS → index < 1024
    → executed w.map w.memory (at_word number index r) i
    ≡ word_turn w.map w.memory (at_word number index r) (decoded (number_in bytes (4 * index) Four))
    → turn w.map w.memory (at_word number index r)
    ≡ with_fetch (word_at number index) (executed w.map w.memory (at_word number index r) i)
unfolding turn
fetched-turn w bytes number index r i runs few within same =
    rw (word_at-aligned number index, fetched-word w bytes number index runs few within, same) refl

-- an instruction that was executed in such a page is a turn
executed-turn :
    (w after : Workspace) (bytes : List ℕ) (number index : ℕ) (r registers : Registers) (i : Instr)
    → RunsFrom w number bytes → number < PAGE_NUMBERS → index < 1024
    → executed w.map w.memory (at_word number index r) i
    ≡ word_turn w.map w.memory (at_word number index r) (decoded (number_in bytes (4 * index) Four))
    → Makes (executed w.map w.memory (at_word number index r) i) w Next registers after
    → Makes (turn w.map w.memory (at_word number index r)) w Next registers after
executed-turn w after bytes number index r registers i runs few within same made =
    let does = fetched-turn w bytes number index r i runs few within same in
    let t = executed w.map w.memory (at_word number index r) i in
    let mark : set w.taken (slot_of w.map (word_at number index)) true ≡ w.taken =
    rw (page-slot w.map number index few within) runs.taken in
    rw does
    record {
      outcome_is = made.outcome_is;
      regs_are = made.regs_are;
      workspace_is = made.workspace_is
          ∙ ap (λ (marks : List Bool). after_storing (record w { taken = taken_at w.map marks t.taken }) t.stores)
          (sym mark);
    }

-- what an operation of such a page does is a turn
pub operation-turn :
    (c : Decoded) (w after : Workspace) (index : ℕ) (r registers : Registers) (o : Option Instr)
    → IsCodeOf c → RunsFrom w c.number c.bytes → index < 1024 → register r 0 ≡ 0
    → instr_of (word_at c.number index) (slice_index_or c.operations index other) ≡ o
    → Executes o w (at_word c.number index r) after registers
    → Makes (turn w.map w.memory (at_word c.number index r)) w Next registers after
operation-turn c w after index r registers None code runs within empty stands none = absurd none
operation-turn c w after index r registers (Some i) code runs within empty stands made =
    let plain = word_at-plain c.number index code.number within in
    executed-turn w after c.bytes c.number index r registers i runs code.number within
    ((code.words index within).same w.map w.memory (at_word c.number index r) i (rw (← plain) stands) plain empty) made

-- after the last word nothing is executed
pub operation-within :
    (c : Decoded) (w after : Workspace) (index : ℕ) (r registers : Registers) (address : ℕ)
    → IsCodeOf c → index ≤ 1024
    → Executes (instr_of address (slice_index_or c.operations index other)) w r after registers
    → index < 1024
operation-within c w after index r registers address code few made =
    elim (index == 1024) as (λ b. (index == 1024) ≡ b → index < 1024) [
      | true ↦ λ last.
          absurd
          (let at : index ≡ 1024 = eqb-true index 1024 last in
          let P : Operation → Type 0 = λ o. Executes (instr_of address o) w r after registers in
          subst P (ap (λ (k : ℕ). slice_index_or c.operations k other) at ∙ code.last) made)
      | false ↦ λ differ. grind (arith, nat_tests)
    ] refl

-- turns and a last one
follow-last :
    (n : ℕ) (first w after : Workspace) (start r registers : Registers)
    → Follow n first start w r → Makes (turn w.map w.memory r) w Next registers after
    → Follow (suc n) first start after registers
follow-last zero first w after start r registers (same, still) last =
    let P : Workspace → Registers → Type 0 = λ v s. Makes (turn v.map v.memory s) v Next registers after in
    (after, registers, subst (λ (v : Workspace). P v start) same (subst (P w) still last), (refl, refl))
follow-last (suc n) first w after start r registers (middle, between, made, rest) last =
    (middle, between, made, follow-last n middle w after between r registers rest last)

-- turns and one more
pub follow-more :
    (n k : ℕ) (first w after : Workspace) (start r registers : Registers)
    → k ≡ suc n → Follow n first start w r → Makes (turn w.map w.memory r) w Next registers after
    → Follow k first start after registers
follow-more n k first w after start r registers is made last =
    rw is (follow-last n first w after start r registers made last)

-- what an operation does, by its page and its index there
pub placed-executes :
    (c : Decoded) (p : Placed) (index : ℕ) (w after : Workspace) (r registers : Registers)
    → operation_of p ≡ slice_index_or c.operations index other → p.number ≡ c.number → p.index ≡ index
    → Executes (instr_placed p) w (at_word p.number p.index r) after registers
    → Executes (instr_of (word_at c.number index) (slice_index_or c.operations index other)) w (at_word c.number index r)
    after registers
placed-executes c p index w after r registers is numbered indexed made = rw (← is, ← numbered, ← indexed) made

-- an operation after which the page continues is before the end of its page
pub placed-within :
    (c : Decoded) (p : Placed) (index : ℕ) (w after : Workspace) (r registers : Registers)
    → IsCodeOf c → operation_of p ≡ slice_index_or c.operations index other → p.number ≡ c.number → p.index ≡ index
    → index ≤ 1024
    → Executes (instr_placed p) w (at_word p.number p.index r) after registers
    → index < 1024
placed-within c p index w after r registers code is numbered indexed few made =
    operation-within c w after index (at_word c.number index r) registers (word_at c.number index) code few
    (placed-executes c p index w after r registers is numbered indexed made)

-- and it is one more turn
pub placed-more :
    (c : Decoded) (p : Placed) (index n k : ℕ) (first w after : Workspace) (start r registers : Registers)
    → IsCodeOf c → operation_of p ≡ slice_index_or c.operations index other → p.number ≡ c.number → p.index ≡ index
    → RunsFrom w c.number c.bytes → register r 0 ≡ 0
    → Follow n first start w (at_word c.number index r) → index < 1024 → k ≡ suc n
    → Executes (instr_placed p) w (at_word p.number p.index r) after registers
    → Follow k first start after registers
placed-more c p index n k first w after start r registers code is numbered indexed runs empty turns within more made =
    follow-more n k first w after start (at_word c.number index r) registers more turns
    (operation-turn c w after index r registers
    (instr_of (word_at c.number index) (slice_index_or c.operations index other)) code runs within empty refl
    (placed-executes c p index w after r registers is numbered indexed made))
