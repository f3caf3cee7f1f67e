-- What any number of workers, and one of them, execute of a round.
use Rattle.std.proofs.Common.{◌≡◌, ℕ, List, Option, ap, sym, ◌∙◌, subst}
use Rattle.machine_spec.specs.Setup.{Setup, IsSetup}
use Rattle.history_spec.specs.History.{History, IsSound}
use Rattle.report_spec.specs.declared.Entry.{Entry}
use Rattle.round_spec.specs.Rounds.{RoundState}
use Rattle.round_spec.specs.Schedules.{IsBySchedule, events_in, round_by}
use Rattle.round_spec.specs.Alone.{lone_round}
use Rattle.round_spec.specs.Picking.{ArePicked}
use Rattle.round_spec.proofs.Leaving.{round-setup, round-past}
use Rattle.round_spec.specs.Workers.{IsMadeBy}
use Rattle.round_spec.proofs.Picked.{lone-all_picked}
use Rattle.round_spec.proofs.Workers.{lone-entries}
use Rattle.round_spec.specs.Working.{ReexecutesLeast}
use Rattle.round_spec.proofs.InRounds.{reexecutes-after, reexecutes-by}

-- a round of a schedule whose entries were chosen by the rule, if the history is sound
reexecutes-schedule :
    (setup : Setup) (past : Option History) (entries : List Entry)
    → IsSetup setup → (round_by setup past entries).schedule ≡ entries
    → (IsSound past setup → (points : List ℕ) × ArePicked setup past entries points)
    → ReexecutesLeast (round_by setup past entries)
reexecutes-schedule setup past entries valid stands picked =
    λ h goes works.
    let sound : IsSound past setup =
    subst (λ (s : Setup). IsSound past s) (round-setup setup past (events_in entries))
    (subst (λ (p : Option History). IsSound p (round_by setup past entries).setup)
    (sym goes ∙ round-past setup past (events_in entries)) works.sound) in
    let points = picked sound in
    reexecutes-after setup past (events_in entries) points.0 valid
    (subst (λ (es : List Entry). ArePicked setup past es points.0) (sym stands) points.1) h goes works

pub reexecutes-picked :
    (w : RoundState) (points : List ℕ)
    → IsSetup w.setup → IsBySchedule w → (IsSound w.past w.setup → ArePicked w.setup w.past w.schedule points)
    → ReexecutesLeast w
reexecutes-picked w points valid along picked =
    λ h goes works.
    reexecutes-by w points valid along
    (picked (subst (λ (p : Option History). IsSound p w.setup) (sym goes) works.sound)) h goes works

pub reexecutes-made :
    (workers : ℕ) (setup : Setup) (past : Option History) (entries : List Entry) (worker_steps : List ℕ)
    → IsSetup setup → IsMadeBy workers setup past entries worker_steps → ReexecutesLeast (round_by setup past entries)
reexecutes-made workers setup past entries worker_steps valid made =
    reexecutes-schedule setup past entries valid made.stands made.picked

pub reexecutes-alone :
    (setup : Setup) (past : Option History) → IsSetup setup → ReexecutesLeast (lone_round setup past)
reexecutes-alone setup past valid =
    subst ReexecutesLeast (lone-entries setup past)
    (reexecutes-schedule setup past (lone_round setup past).schedule valid
    (ap (λ (w : RoundState). w.schedule) (lone-entries setup past))
    (λ sound. ((lone_round setup past).picked, lone-all_picked setup past valid sound)))
