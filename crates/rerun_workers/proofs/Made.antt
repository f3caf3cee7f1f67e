-- What workers made of a round.
use Rattle.std.proofs.Common.{◌≡◌, ◌+◌, ◌-◌, ◌<◌, ◌≤◌, ℕ, zero, suc, true, List, ◌∷◌, length, sum, replicate, set, fold, Option, Some, is_some, refl, ap, sym, ◌∙◌, subst, arith}
use Rattle.std.proofs.lemmas.List.{length-replicate}
use Rattle.machine_spec.specs.Setup.{Setup, IsSetup}
use Rattle.history_spec.specs.History.{History, IsSound}
use Rattle.round_spec.specs.Rounds.{RoundState, opening}
use Rattle.round_spec.specs.Schedules.{IsBySchedule}
use Rattle.round_spec.specs.Alone.{lone_round}
use Rattle.round_spec.specs.Workers.{IsMadeBy}
use Rattle.round_spec.proofs.Workers.{lone-made, ended-made}
use Rattle.round_spec.specs.Picking.{ArePicked, IsPickedSoFar}
use Rattle.round_spec.specs.Unedited.{IsUnedited, OnlyReuses}
use Rattle.round_spec.proofs.Replay.{unedited-repeats, replays-end}
use Rattle.round_spec.proofs.ByWorkers.{reexecutes-picked}
use Rattle.propagate.specs.Executing.{executed_by, IsCostOf}
use Rattle.propagate.proofs.Executing.{alone-setup, alone-past, alone-picked, alone-least, alone-ends, alone-reuses}
use Rattle.rerun_workers.specs.Following.{FollowsPicks}
use Rattle.rerun_workers.specs.Making.{IsRoundBy, IsClosed}

pub alone-made :
    (workers : ℕ) (setup : Setup) (past : Option History) (w : RoundState) (worker_steps : List ℕ)
    → w ≡ lone_round setup past → IsSetup setup → length worker_steps ≡ workers → sum worker_steps ≡ length w.schedule
    → IsMadeBy workers setup past w.schedule worker_steps
alone-made workers setup past w worker_steps is valid each steps =
    subst (λ (x : RoundState). IsMadeBy workers setup past x.schedule worker_steps) (sym is)
    (lone-made workers setup past worker_steps valid each (steps ∙ ap (λ (x : RoundState). length x.schedule) is))

-- and that of several, if it has an end
pub together-made :
    (workers : ℕ) (setup : Setup) (past : Option History) (w : RoundState) (worker_steps : List ℕ)
    → 1 < workers → w.setup ≡ setup → w.past ≡ past → IsBySchedule w → is_some w.machine.ending ≡ true
    → length worker_steps ≡ workers → sum worker_steps ≡ length w.schedule
    → FollowsPicks w.setup w.past w
    → IsMadeBy workers setup past w.schedule worker_steps
together-made workers setup past w worker_steps many is_setup is_past stands ended each steps follows =
    subst (λ (s : Setup). IsMadeBy workers s past w.schedule worker_steps) is_setup
    (subst (λ (p : Option History). IsMadeBy workers w.setup p w.schedule worker_steps) is_past
    (ended-made workers w worker_steps many stands ended each steps
    (λ h by unedited. follows.replays h by (unedited-repeats h w.setup unedited)) follows.picked))

-- the picks so far were chosen by the rule, entry by entry
pub entries-picked :
    (setup : Setup) (past : Option History) (w : RoundState)
    → w.setup ≡ setup → w.past ≡ past → FollowsPicks setup past w
    → IsSound past setup → ArePicked setup past w.schedule w.picked
entries-picked setup past w setup_is past_is follows sound =
    let so_far : IsPickedSoFar w = follows.picked sound in
    subst (λ (s : Setup). ArePicked s past w.schedule w.picked) setup_is
    (subst (λ (p : Option History). ArePicked w.setup p w.schedule w.picked) past_is so_far.entries)

-- so the round of one worker is what workers make, and that of several, if it has an end

pub by-one :
    (workers : ℕ) (setup : Setup) (past : Option History) (w : RoundState) (worker_steps : List ℕ)
    → w ≡ lone_round setup past → IsSetup setup → IsBySchedule w → length worker_steps ≡ workers → sum worker_steps ≡ length w.schedule
    → IsRoundBy workers setup past w worker_steps
by-one workers setup past w worker_steps is valid stands each steps =
    record {
      setup = alone-setup setup past w is;
      past = alone-past setup past w is;
      stands = stands;
      made = alone-made workers setup past w worker_steps is valid each steps;
      alone = λ one. is;
      picked = alone-picked setup past w valid is;
      least = alone-least setup past w valid is;
      ends = alone-ends setup past w valid is;
      unedited = λ h. alone-reuses setup past w h is;
    }

pub by-several :
    (workers : ℕ) (setup : Setup) (past : Option History) (w : RoundState) (worker_steps : List ℕ)
    (turns compared : ℕ)
    → 1 < workers → IsSetup w.setup → IsClosed setup past w worker_steps turns compared → IsBySchedule w
    → is_some w.machine.ending ≡ true → length worker_steps ≡ workers → IsRoundBy workers setup past w worker_steps
by-several workers setup past w worker_steps turns compared many valid closed stands ended each =
    let is_setup = closed.setup in
    let is_past = closed.past in
    let follows = closed.follows in
    let own : FollowsPicks w.setup w.past w =
    subst (λ (s : Setup). FollowsPicks s w.past w) (sym is_setup)
    (subst (λ (p : Option History). FollowsPicks setup p w) (sym is_past) follows) in
    record {
      setup = is_setup;
      past = is_past;
      stands = stands;
      made = together-made workers setup past w worker_steps many is_setup is_past stands ended each closed.steps own;
      alone = λ one. absurd (let no : 1 < workers = many in omega (arith, one, no));
      picked = entries-picked setup past w is_setup is_past follows;
      least = reexecutes-picked w w.picked valid stands (entries-picked w.setup w.past w refl refl own);
      ends = ended;
      unedited = λ h is unedited.
          replays-end h w unedited.honest
          (own.replays h (is_past ∙ is)
          (unedited-repeats h w.setup (subst (IsUnedited h) (sym is_setup) unedited))) ended;
    }

-- a round that was opened is of its setup, and is based on its history, also when it is closed
pub closed-opening :
    (w : RoundState) (worker_steps : List ℕ) (turns compared : ℕ) (setup : Setup) (past : Option History) (first : RoundState)
    → first ≡ opening setup past → IsClosed first.setup first.past w worker_steps turns compared
    → IsClosed setup past w worker_steps turns compared
closed-opening w worker_steps turns compared setup past first is by =
    subst (λ (x : RoundState). IsClosed x.setup x.past w worker_steps turns compared) is by

-- what is said of a setup and a history is said of the same
pub of-same :
    (P : Setup → Option History → Type 0) (s t : Setup) (p q : Option History) → s ≡ t → p ≡ q → P s p → P t q
of-same P s t p q setup past says = subst (λ (x : Setup). P x q) setup (subst (P s) past says)

-- a closed round is one of its own setup and history
pub closed-own :
    (w : RoundState) (worker_steps : List ℕ) (turns compared : ℕ) (setup : Setup) (past : Option History)
    → IsClosed setup past w worker_steps turns compared → IsClosed w.setup w.past w worker_steps turns compared
closed-own w worker_steps turns compared setup past closed =
    of-same (λ s p. IsClosed s p w worker_steps turns compared) setup w.setup past w.past (sym closed.setup)
    (sym closed.past) closed

-- the steps of each worker if the first made all

pub first-each :
    (workers steps : ℕ) (worker_steps : List ℕ) → 1 ≤ workers → worker_steps ≡ steps ∷ replicate (workers - 1) 0 → length worker_steps ≡ workers
first-each workers steps worker_steps some is =
    let rest : length (replicate {A = ℕ} (workers - 1) 0) ≡ workers - 1 = length-replicate (workers - 1) 0 in
    ap (length {A = ℕ}) is ∙ omega arith

pub first_set :
    (workers steps : ℕ) (zeros worker_steps : List ℕ)
    → 1 ≤ workers → zeros ≡ replicate {A = ℕ} workers 0 → worker_steps ≡ set zeros 0 steps
    → worker_steps ≡ steps ∷ replicate (workers - 1) 0
first_set zero steps zeros worker_steps some none is = absurd (omega (arith, some))
first_set (suc n) steps zeros worker_steps some none is =
    let count : n ≡ suc n - 1 = omega arith in
    is
    ∙ ap (λ (l : List ℕ). set l 0 steps) none
    ∙ ap (λ (k : ℕ). steps ∷ replicate {A = ℕ} k 0) count

zeros-sum : (n a : ℕ) → fold (λ (s : ℕ) (x : ℕ). s + x) a (replicate n 0) ≡ a
zeros-sum zero a = refl
zeros-sum (suc n) a = let rest = zeros-sum n (a + 0) in omega arith

pub first-sum : (workers steps : ℕ) (worker_steps : List ℕ) → worker_steps ≡ steps ∷ replicate (workers - 1) 0 → sum worker_steps ≡ steps
first-sum workers steps worker_steps is =
    let rest = zeros-sum (workers - 1) (0 + steps) in ap sum is ∙ omega arith

-- the cost of a round that one worker made, beside turns that were made before
pub cost-first :
    (workers spent turns : ℕ) (s : Setup) (before : Option History) (w : RoundState) (worker_steps : List ℕ)
    → IsRoundBy workers s before w worker_steps → turns ≡ spent + executed_by w
    → (workers ≡ 1 → spent ≡ 0) → ((h : History) → before ≡ Some h → IsUnedited h s → spent ≡ 0)
    → IsCostOf workers s before w turns
cost-first workers spent turns s before w worker_steps by rise one none =
    record {
      alone = λ single. let zero = one single in omega (arith, rise, zero);
      idle = λ h there unedited.
          let zero = none h there unedited in
          let reuses : OnlyReuses h w = by.unedited h there unedited in
          let executed = reuses.executed in
          omega (arith, rise, zero, executed);
    }

-- and of one that several made together
pub cost-several :
    (workers turns compared : ℕ) (s : Setup) (before : Option History) (w : RoundState) (worker_steps : List ℕ)
    → 1 < workers → IsClosed s before w worker_steps turns compared → IsCostOf workers s before w turns
cost-several workers turns compared s before w worker_steps many closed =
    record {
      alone = λ one. absurd (let no : 1 < workers = many in omega (arith, one, no));
      idle = closed.idle;
    }
