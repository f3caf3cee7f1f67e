-- Answers to the goals that the check of `page_cause` leaves open.
use Rattle.std.proofs.Common.{◌≡◌, ℕ, List, None, length, sym, ap, ◌∙◌, arith}
use Rattle.memory_spec.specs.Pages.{page_of}
use Rattle.round_report.specs.Differences.{first_difference}
use Rattle.ith_commands.proofs.Alike.{no-other-page, other-page, other-bytes}
use Rattle.ith_commands.proofs.reasons.walking.page_cause.Goals as goal

pub returns-in_default-clause-none : goal.returns-in_default-clause-none
returns-in_default-clause-none c = λ all. no-other-page c.args.view.now c.args.reads.now (sym c.in_default.ensures)

pub returns-then-slot-len-clause-none : goal.returns-then-slot-len-clause-none
returns-then-slot-len-clause-none c = λ all.
    let other =
    other-page c.args.view.now c.args.reads.now c.in-Some.read.now (length c.args.view.now) (sym c.in-Some.ensures) all in
    let inside = other.1 in
    absurd (omega (arith, c.if-slot-len.true, c.len.ensures, c.slot.ensures))

pub returns-in_default-first_other_byte-clause-none : goal.returns-in_default-first_other_byte-clause-none
returns-in_default-first_other_byte-clause-none c = λ all.
    let other =
    other-page c.args.view.now c.args.reads.now c.in-Some.read.now (length c.args.view.now) (sym c.in-Some.ensures) all in
    let now_is : c.bytes.result.now ≡ page_of c.args.view.now c.in-Some.read.now.slot =
    c.bytes.ensures.value ∙ c.page-now.ensures.page ∙ ap (page_of c.args.view.now) c.slot-2.ensures in
    let was_is : c.bytes-2.result.now ≡ c.in-Some.read.now.bytes = c.bytes-2.ensures.value ∙ c.page-was.ensures in
    let none : first_difference (page_of c.args.view.now c.in-Some.read.now.slot) c.in-Some.read.now.bytes ≡ None =
    ap (λ (l : List ℕ). first_difference l c.in-Some.read.now.bytes) (sym now_is)
    ∙ ap (λ (l : List ℕ). first_difference c.bytes.result.now l) (sym was_is)
    ∙ sym c.first_other_byte.ensures.first
    ∙ c.in_default-first_other_byte.is in
    let now_long : length (page_of c.args.view.now c.in-Some.read.now.slot) ≡ 4096 =
    ap length (sym now_is ∙ c.bytes.ensures.value) ∙ c.bytes.ensures.whole in
    let was_long : length c.in-Some.read.now.bytes ≡ 4096 =
    ap length (sym was_is ∙ c.bytes-2.ensures.value) ∙ c.bytes-2.ensures.whole in
    absurd
    (other-bytes (page_of c.args.view.now c.in-Some.read.now.slot) c.in-Some.read.now.bytes (now_long ∙ sym was_long)
    other.0 none)
