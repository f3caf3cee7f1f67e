-- What one worker executes pick by pick adds up to what the executed entries of its schedule have.
use Rattle.std.proofs.Common.{◌≡◌, ◌+◌, ℕ, zero, suc, Bool, true, false, cond, List, [], ◌∷◌, ◌++◌, length, Option, is_some, refl, ap, ◌∙◌, append_assoc, append-nil, arith}
use Rattle.std.specs.List.{range_with_len}
use Rattle.thunk_spec.specs.Thunk.{thunk}
use Rattle.machine_spec.specs.declared.states.End.{End}
use Rattle.machine_spec.specs.Machine.{Machine, hart_of}
use Rattle.machine_spec.specs.Step.{step, can_step}
use Rattle.machine_spec.specs.Schedule.{scratch_from}
use Rattle.machine_spec.specs.Setup.{Setup, IsSetup, first, scratch, is_permitted, records}
use Rattle.machine_spec.specs.Whole.{IsWhole}
use Rattle.machine_spec.proofs.Beginning.{IsWhole-first}
use Rattle.history_spec.specs.History.{History, IsSound}
use Rattle.history_spec.proofs.Scratch.{scratch-whole, scratch-more, permitted-more}
use Rattle.report_spec.specs.Report.{instructions_from}
use Rattle.round_spec.specs.declared.events.Pick.TheVariants as pick
use Rattle.round_spec.specs.Marks.{fits_next, marked_from, marked}
use Rattle.round_spec.specs.Rounds.{RoundState, opening}
use Rattle.round_spec.specs.Choice.{pick_of}
use Rattle.round_spec.specs.Alone.{guided_from, after_picks}
use Rattle.round_spec.specs.OneWorker.{made_by, cost_of, executed_in}
use Rattle.round_spec.proofs.Picks.{pick-over, pick-chosen, running, after-made, after-over, guided-over, guided-next, Stands, Over, Goes, stands}
use Rattle.round_spec.proofs.Lone.{rounds-made}

-- the instructions of a thread's next step
abbrev count_at : Machine → ℕ → ℕ
count_at m t = (thunk m.frame (hart_of m t).view (hart_of m t).regs).count

-- those of the executed entries, with one more entry
marked-instructions :
    (past : Option History) (m : Machine) (ts : List ℕ) (t : ℕ)
    → instructions_from m (marked_from past m (ts ++ t ∷ []))
    ≡ instructions_from m (marked_from past m ts) + cond (fits_next past (scratch_from m ts) t) 0
    (count_at (scratch_from m ts) t)
marked-instructions past m [] t = omega arith
marked-instructions past m (u ∷ ts) t =
    let rest = marked-instructions past (step m u) ts t in omega arith

cost-picked :
    (w : RoundState) (b : Bool) (t : ℕ)
    → cost_of w (cond b (pick.Reuse t) (pick.Run t)) ≡ cond b 0 (count_at w.machine t)
cost-picked w true t = refl
cost-picked w false t = refl

cost-made :
    (setup : Setup) (past : Option History) (n : ℕ) (ts : List ℕ)
    → IsSetup setup → IsSound past setup → is_permitted setup ts ≡ true
    → instructions_from (first setup) (marked past setup ts) + executed_in n (made_by setup past ts)
    ≡ instructions_from (first setup) (marked past setup (ts ++ guided_from past n (scratch setup ts)))
cost-made setup past zero ts valid sound permitted =
    let same = ap (λ (us : List ℕ). instructions_from (first setup) (marked past setup us)) (append-nil ts) in
    omega arith
cost-made setup past (suc n) ts valid sound permitted =
    by (stands past (scratch setup ts) whole) (cost-made setup past n ts valid sound permitted)
    (λ t can. cost-made setup past n (ts ++ t ∷ []) valid sound (permitted-more (first setup) ts t permitted can))
  where
    whole : IsWhole (scratch setup ts)
    whole = scratch-whole (first setup) ts (IsWhole-first setup valid) permitted

    sum : List ℕ → ℕ
    sum us = instructions_from (first setup) (marked past setup us)

    by :
        Stands past (scratch setup ts)
        → sum ts + executed_in n (made_by setup past ts) ≡ sum (ts ++ guided_from past n (scratch setup ts))
        → ((t : ℕ) → can_step (scratch setup ts) t ≡ true
        → sum (ts ++ t ∷ []) + executed_in n (made_by setup past (ts ++ t ∷ []))
        ≡ sum ((ts ++ t ∷ []) ++ guided_from past n (scratch setup (ts ++ t ∷ []))))
        → sum ts + executed_in (suc n) (made_by setup past ts) ≡ sum (ts ++ guided_from past (suc n) (scratch setup ts))
    by (Over e is) stays goes =
        let none : cost_of (made_by setup past ts) (pick_of (made_by setup past ts)) ≡ 0 =
        ap (cost_of (made_by setup past ts))
        (pick-over setup past (scratch setup ts) (marked past setup ts) (records setup ts)
        (range_with_len 0 (length ts))
        (ap (λ (o : Option End). is_some o) is)) in
        let after = ap (executed_in n) (after-over setup past ts e is) in
        let now = ap (λ (us : List ℕ). sum (ts ++ us)) (guided-over past n (scratch setup ts) e is) in
        let later = ap (λ (us : List ℕ). sum (ts ++ us)) (guided-over past (suc n) (scratch setup ts) e is) in
        omega arith
    by (Goes t none chosen can) stays goes =
        let cost : cost_of (made_by setup past ts) (pick_of (made_by setup past ts)) ≡ cond
        (fits_next past (scratch setup ts) t) 0 (count_at (scratch setup ts) t) =
        ap (cost_of (made_by setup past ts))
        (pick-chosen setup past (scratch setup ts) (marked past setup ts) (records setup ts)
        (range_with_len 0 (length ts)) t (running (scratch setup ts) none) chosen)
        ∙ cost-picked (made_by setup past ts) (fits_next past (scratch setup ts) t) t in
        let after = ap (executed_in n) (after-made setup past ts t sound whole none chosen) in
        let one = marked-instructions past (first setup) ts t in
        let next = ap (λ (us : List ℕ). sum (ts ++ us)) (guided-next past n (scratch setup ts) t none chosen) in
        let same : sum ((ts ++ t ∷ []) ++ guided_from past n (scratch setup (ts ++ t ∷ []))) ≡ sum
        (ts ++ t ∷ guided_from past n (step (scratch setup ts) t)) =
        ap (λ (m : Machine). sum ((ts ++ t ∷ []) ++ guided_from past n m)) (scratch-more (first setup) ts t)
        ∙ ap sum (append_assoc ts (t ∷ []) (guided_from past n (step (scratch setup ts) t))) in
        let rest = goes t can in
        omega arith

pub rounds-cost :
    (setup : Setup) (past : Option History) (n : ℕ)
    → IsSetup setup → IsSound past setup
    → executed_in n (opening setup past) ≡ instructions_from (first setup) (after_picks n (opening setup past)).schedule
rounds-cost setup past n valid sound =
    let all = cost-made setup past n [] valid sound refl in
    let round =
    ap (λ (w : RoundState). instructions_from (first setup) w.schedule) (rounds-made setup past n valid sound) in
    omega arith
