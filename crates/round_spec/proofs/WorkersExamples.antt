-- What workers make of a round: some workers make one, however its steps are divided; and rounds that no workers make.
use Rattle.std.proofs.Common.{◌≡◌, ℕ, true, false, List, [], ◌∷◌, length, Option, Some, None, refl, ap, sym, ◌∙◌, arith}
use Rattle.machine_spec.specs.Setup.{Setup, first}
use Rattle.history_spec.specs.History.{History, schedule_of}
use Rattle.history_spec.proofs.Examples.{shortest, shortest-setup, only_step}
use Rattle.report_spec.specs.declared.Entry.{Entry}
use Rattle.round_spec.specs.Rounds.{RoundState}
use Rattle.round_spec.specs.Alone.{lone_round}
use Rattle.round_spec.specs.Unedited.{IsUnedited, is_all_reused, OnlyReuses}
use Rattle.round_spec.specs.Schedules.{round_by}
use Rattle.round_spec.proofs.Samples.{reuses, executes}
use Rattle.round_spec.proofs.ScheduleExamples.{by-nothing}
use Rattle.round_spec.proofs.UneditedExamples.{unedited-only}
use Rattle.round_spec.specs.Workers.{IsMadeBy}
use Rattle.round_spec.proofs.Unedited.{reused-all}
use Rattle.round_spec.proofs.Workers.{lone-made, workers-reuse}

-- the smallest round without a history, and without an edit
abbrev first-entries : List Entry
first-entries = (lone_round shortest None).schedule

abbrev again-entries : List Entry
again-entries = (lone_round shortest (Some only_step)).schedule

-- One worker makes all steps of a round.
pub made-alone : IsMadeBy 1 shortest None first-entries (length first-entries ∷ [])
made-alone =
    lone-made 1 shortest None (length first-entries ∷ []) shortest-setup refl
    (let n = length first-entries in omega arith)

-- Of three workers one may make them all.
pub made-by_three : IsMadeBy 3 shortest None first-entries (0 ∷ length first-entries ∷ 0 ∷ [])
made-by_three =
    lone-made 3 shortest None (0 ∷ length first-entries ∷ 0 ∷ []) shortest-setup refl
    (let n = length first-entries in omega arith)

-- So they do without an edit, and their round only reuses the history.
pub made-again : IsMadeBy 2 shortest (Some only_step) again-entries (length again-entries ∷ 0 ∷ [])
made-again =
    lone-made 2 shortest (Some only_step) (length again-entries ∷ 0 ∷ []) shortest-setup refl
    (let n = length again-entries in omega arith)

pub reuses-again : OnlyReuses only_step (round_by shortest (Some only_step) again-entries)
reuses-again =
    workers-reuse 2 only_step shortest again-entries (length again-entries ∷ 0 ∷ []) unedited-only made-again

-- A mark of reuse without a history doesn't hold.
pub wrong-mark : (n : ℕ) (setup : Setup) (t : ℕ) (worker_steps : List ℕ) → IsMadeBy n setup None (reuses t ∷ []) worker_steps → ⊥
wrong-mark n setup t worker_steps made =
    let empty : [] ≡ reuses t ∷ [] = ap (λ (w : RoundState). w.schedule) (sym (by-nothing setup t)) ∙ made.stands in cc

-- A round without a step has no end.
pub no-end : (n : ℕ) (setup : Setup) (past : Option History) (worker_steps : List ℕ) → IsMadeBy n setup past [] worker_steps → ⊥
unfolding first
no-end n setup past worker_steps made = let ended : false ≡ true = made.ended in cc

not-both : (n : ℕ) → n ≡ 1 → n ≡ 2 → ⊥
not-both n one two = omega arith

-- There is a number of steps for each worker, and they add up to all steps.
pub wrong-share_count :
    (setup : Setup) (past : Option History) (entries : List Entry) → IsMadeBy 2 setup past entries (1 ∷ []) → ⊥
wrong-share_count setup past entries made = not-both 1 refl made.each

pub wrong-worker_steps :
    (setup : Setup) (past : Option History) (e : Entry) → IsMadeBy 2 setup past (e ∷ []) (1 ∷ 1 ∷ []) → ⊥
wrong-worker_steps setup past e made = not-both 2 made.steps refl

-- One worker makes only what it picks.
pub wrong-alone :
    (setup : Setup) (past : Option History) (entries : List Entry) (worker_steps : List ℕ)
    → length entries ≡ 3
    → length (lone_round setup past).schedule ≡ 2
    → IsMadeBy 1 setup past entries worker_steps
    → ⊥
wrong-alone setup past entries worker_steps three two made =
    let same = ap (λ (es : List Entry). length es) (made.alone refl) in omega arith

-- Without an edit nothing is executed.
pub executes-unedited :
    (n : ℕ) (h : History) (setup : Setup) (t : ℕ) (entries : List Entry) (worker_steps : List ℕ)
    → IsUnedited h setup
    → IsMadeBy n setup (Some h) (executes t ∷ entries) worker_steps
    → ⊥
executes-unedited n h setup t entries worker_steps unedited made =
    let all : false ≡ true =
    ap is_all_reused (made.unedited h refl unedited) ∙ reused-all (schedule_of h) in cc
