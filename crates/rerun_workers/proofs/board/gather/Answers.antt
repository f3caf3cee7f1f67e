-- Answers to the goals that the check of `gather` leaves open.
use Rattle.std.proofs.Common.{◌≡◌, ℕ, ◌+◌, ◌<◌, List, [], ◌∷◌, ◌++◌, length, map, sum, get_or, drop, append_assoc, ap, sym, ◌∙◌, arith}
use Rattle.std.specs.List.{sum_by}
use Rattle.std.proofs.lemmas.List.Sums.{sum_by-cons, sum_by_push}
use Rattle.rerun_workers.proofs.board.gather.Goals as goal

-- a list is its first element and the rest
taken_first :
    {X : Type 0} (xs rest : List X) (x : X) → 0 < length xs → x ≡ get_or xs 0 x → rest ≡ drop 1 xs → xs ≡ x ∷ rest
taken_first [] rest x some first left = absurd (omega (arith, some))
taken_first (y ∷ xs) rest x some first left = cc (first, left)

-- a number more is listed, and fewer are still to be
listed :
    {X : Type 0} (f : X → ℕ) (before after all : List ℕ) (xs rest : List X) (x : X)
    → xs ≡ x ∷ rest → after ≡ before ++ f x ∷ [] → before ++ map f xs ≡ all → after ++ map f rest ≡ all
listed f before after all xs rest x first more so_far =
    ap (λ l. l ++ map f rest) more
    ∙ append_assoc before (f x ∷ []) (map f rest)
    ∙ ap (λ l. before ++ map f l) (sym first)
    ∙ so_far

sum_more :
    (before after : List ℕ) (n : ℕ) → after ≡ before ++ n ∷ [] → sum after ≡ sum before + n
sum_more before after n more = ap sum more ∙ sum_by_push (λ k. k) before n

pub loop-passes-init : goal.loop-passes-init
loop-passes-init g c =
    let pass = c.remove-all.result in
    let rest = c.remove-all.new.self.items in
    let left = c.remove-all.ensures.len in
    let pushed = c.push_reserved.ensures in
    let first =
    taken_first c.args.passes.items rest pass (omega (arith, left)) c.remove-all.ensures.value c.remove-all.ensures.items in
    let none = c.requires.none in
    let one = pass.one in
    let counted = pass.counted in
    let more = sum_more c.args.worker_steps.items c.push_reserved.new.self.items pass.steps pushed.items in (
      omega (arith, left, one),
      omega (arith, counted, more, ap sum none),
      omega (arith, left, pushed.len, ap length none),
      omega (arith, c.requires.room, pushed.capacity),
      listed (λ p. p.steps) c.args.worker_steps.items c.push_reserved.new.self.items _ c.args.passes.items rest pass first
          pushed.items (ap (λ l. l ++ map (λ p. p.steps) c.args.passes.items) none),
      sym (ap (sum_by (λ p. p.effort.turns)) first ∙ sum_by-cons (λ p. p.effort.turns) pass rest),
      pass.idle,
      pass.spares,
    )

pub loop-passes-preserved : goal.loop-passes-preserved
loop-passes-preserved g c =
    let pass = c.remove-share.result in
    let items = c.loop-passes.passes.items in
    let rest = c.remove-share.new.self.items in
    let left = c.remove-share.ensures.len in
    let before = c.loop-passes.invariant in
    let shares = c.merge.ensures in
    let efforts = c.merge-in-loop-passes.ensures in
    let pushed = c.push_reserved-in-loop-passes.ensures in
    let first = taken_first items rest pass (omega (arith, left)) c.remove-share.ensures.value c.remove-share.ensures.items in
    let one = pass.one in
    let counted = pass.counted in
    let more =
    sum_more c.loop-passes.worker_steps.items c.push_reserved-in-loop-passes.new.self.items pass.steps pushed.items in
    let turns = ap (sum_by (λ p. p.effort.turns)) first ∙ sum_by-cons (λ p. p.effort.turns) pass rest in (
      omega (arith, before.0, shares.parts, one, left),
      omega (arith, before.1, shares.amount, counted, more),
      omega (arith, before.2, pushed.len, left),
      omega (arith, before.3, pushed.capacity),
      listed (λ p. p.steps) c.loop-passes.worker_steps.items c.push_reserved-in-loop-passes.new.self.items _ items rest pass
          first pushed.items before.4,
      omega (arith, before.5, efforts.turns, turns),
      λ h past unedited. omega (arith, before.6 h past unedited, efforts.turns, pass.idle h past unedited),
      λ h past repeats. omega (arith, before.7 h past repeats, efforts.compared, pass.spares h past repeats),
    )
