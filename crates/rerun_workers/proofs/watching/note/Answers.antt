-- Answers to the goals that the check of `note` leaves open.
use Rattle.std.proofs.Common.{◌≤◌, ◌-◌, ℕ, None, length, ◌∙◌, sym, ap, arith}
use Rattle.std.specs.Prelude.{slice_get}
use Rattle.std.specs.List.{last_or}
use Rattle.std.proofs.lemmas.List.Elements.{All-push, All-same}
use Rattle.rerun_workers.proofs.Numbers.{last-push, last-is}
use Rattle.rerun_workers.proofs.watching.note.Goals as goal

pub returns-in-Some-clause-last : goal.returns-in-Some-clause-last
returns-in-Some-clause-last c = λ all.
    last-is c.args.numbers.now.items c.in-Some.last.now c.args.number
    (ap (λ xs. slice_get xs (length xs - 1)) (sym c.deref.ensures.value) ∙ sym c.in-Some.ensures.value)
    c.if-number-last.true all

pub returns-in_default-clause-last : goal.returns-in_default-clause-last
returns-in_default-clause-last c = λ all.
    ap (last_or None) c.push_reserved.ensures.items ∙ last-push None c.args.numbers.now.items c.args.number

pub returns-in_default-clause-below : goal.returns-in_default-clause-below
returns-in_default-clause-below c = λ all.
    All-same (λ (n : ℕ). n ≤ c.args.number) c.push_reserved.new.self.items _ c.push_reserved.ensures.items
    (All-push (λ (n : ℕ). n ≤ c.args.number) c.args.numbers.now.items c.args.number all (omega arith))
