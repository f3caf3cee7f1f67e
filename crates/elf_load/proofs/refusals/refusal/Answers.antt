-- Answers to the goals that the check of `refusal` leaves open.
use Rattle.std.proofs.Common.{◌≡◌, ℕ, List, ◌++◌, Option, None, sym, ◌∙◌, subst}
use Rattle.std.specs.Prelude.{IfOk}
use Rattle.elf_spec.specs.declared.Refusal.{Refusal}
use Rattle.elf_spec.specs.Refusals.{refusal_of, first_given}
use Rattle.elf_load.specs.Rows.{header_rows, table_rows, page_rows}
use Rattle.elf_load.proofs.Given.{skip_all, stop_within}
use Rattle.elf_load.proofs.refusals.refusal.Goals as goal

-- the rows after those of the header
later_rows : List ℕ → List (Option Refusal)
later_rows bytes = table_rows bytes ++ page_rows bytes

pub returns-in-Some : goal.returns-in-Some
unfolding refusal_of later_rows
returns-in-Some c =
    let bytes = c.args.bytes.now in
    sym (stop_within (header_rows bytes) (later_rows bytes) c.in-Some.refusal
    (sym c.header_refusal.ensures ∙ c.in-Some.is))

-- if the header and the program headers get no refusal, the pages decide
past_tables :
    (bytes : List ℕ) → first_given (header_rows bytes) ≡ None → first_given (table_rows bytes) ≡ None
    → refusal_of bytes ≡ first_given (page_rows bytes)
unfolding refusal_of later_rows
past_tables bytes header table =
    skip_all (header_rows bytes) (later_rows bytes) header ∙ skip_all (table_rows bytes) (page_rows bytes) table

pub returns-in-Some-table_refusal : goal.returns-in-Some-table_refusal
unfolding refusal_of later_rows
returns-in-Some-table_refusal c =
    let bytes = c.args.bytes.now in
    sym (skip_all (header_rows bytes) (later_rows bytes) (sym c.header_refusal.ensures ∙ c.in-None.is)
    ∙ stop_within (table_rows bytes) (page_rows bytes) c.in-Some-table_refusal.refusal
    (sym c.table_refusal.ensures ∙ c.in-Some-table_refusal.is))

pub returns : goal.returns
returns c =
    let bytes = c.args.bytes.now in
    let same : first_given (page_rows bytes) ≡ refusal_of bytes =
    sym (past_tables bytes (sym c.header_refusal.ensures ∙ c.in-None.is)
    (sym c.table_refusal.ensures ∙ c.in-None-table_refusal.is)) in
    subst (λ answer. IfOk c.page_refusal.result (λ refusal. refusal ≡ answer)) same c.page_refusal.ensures
