-- The accesses that weren't seen are the last ones.
use Rattle.std.proofs.Common.{◌≡◌, ℕ, false, not, eqb, ltb, drop, slice_index, ap, sym, ◌∙◌, subst, arith}
use Rattle.std.specs.List.{filter}
use Rattle.std.specs.List.Sorted.{IsNonDecreasingBy}
use Rattle.std.proofs.lemmas.Bool.{eq-eqb, ne_eqb}
use Rattle.std.proofs.lemmas.List.{take_rest, drop_all}
use Rattle.std.proofs.lemmas.List.Kept.{IsNonDecreasingBy-filter}
use Rattle.memo_reports.specs.declared.races.past.Access.{Access}
use Rattle.memo_reports.proofs.Own.{none-racing, racing-all, racing-writing}
use Rattle.memo_reports.proofs.races.past.ThreadPast.racing.Goals as goal
use Rattle.memo_reports.proofs.races.past.ThreadPast.racing.Goals.{then-self-step, else-self-step, then-writes, else-writes}

pub first_from-first-requires : goal.first_from-first-requires
first_from-first-requires c =
    subst (IsNonDecreasingBy (λ (a : Access). a.number)) (sym c.deref.ensures.value)
    (elim c.if-writes.branch [
      | then-writes w ↦
          subst (IsNonDecreasingBy (λ (a : Access). a.number)) (sym (ap (λ b. b.now.items) w.accesses-is)) c.requires.numbers
      | else-writes w ↦
          subst (IsNonDecreasingBy (λ (a : Access). a.number))
          (sym (ap (λ b. b.now.items) w.accesses-is ∙ c.requires.writing))
          (IsNonDecreasingBy-filter (λ (a : Access). a.number) (λ (a : Access). a.writes) c.args.self.now.all.items c.requires.numbers)
    ])

pub returns : goal.returns
returns c =
    let p = c.args.self.now in
    let s = c.args.step.now in
    let xs = c.if-writes.accesses.now.items in
    take_rest c.deref-2.result.now c.if-self-step.first
    ∙ ap (drop c.if-self-step.first) c.deref-2.ensures.value
    ∙ (elim c.if-self-step.branch [
      | then-self-step w ↦
          let all = w.len-first.ensures in
          drop_all c.if-self-step.first xs (omega arith)
          ∙ none-racing p s c.args.writes c.requires (eq-eqb p.thread s.thread w.if-self-step.true)
      | else-self-step w ↦
          let apart : eqb p.thread s.thread ≡ false = ne_eqb p.thread s.thread w.if-self-step.false in
          let last : drop c.if-self-step.first xs
          ≡ filter (λ (a : Access). not (ltb a.number (slice_index s.seen p.thread))) xs =
          ap (λ (n : ℕ). drop n xs) w.first-is
          ∙ ap (drop w.first_from-first.result) (sym w.deref.ensures.value)
          ∙ w.first_from-first.ensures.rest
          ∙ ap (filter (λ (a : Access). not (ltb a.number w.count.result))) w.deref.ensures.value
          ∙ ap (λ (n : ℕ). filter (λ (a : Access). not (ltb a.number n)) xs) w.count.ensures in
          last
          ∙ (elim c.if-writes.branch [
            | then-writes v ↦
                ap (filter (λ (a : Access). not (ltb a.number (slice_index s.seen p.thread)))) (ap (λ b. b.now.items) v.accesses-is)
                ∙ racing-all p s c.args.writes c.requires apart v.if-writes.true
            | else-writes v ↦
                ap (filter (λ (a : Access). not (ltb a.number (slice_index s.seen p.thread)))) (ap (λ b. b.now.items) v.accesses-is)
                ∙ racing-writing p s c.args.writes c.requires apart v.if-writes.false
          ])
    ])
