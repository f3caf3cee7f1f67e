-- The round of one worker without an edit: the history's own schedule, all of it reused.
use Rattle.std.proofs.Common.{◌≡◌, ◌≢◌, ℕ, zero, suc, Bool, true, cond, List, [], ◌∷◌, ◌++◌, length, map, take, drop, Some, refl, ap, sym, ◌∙◌, subst, arith}
use Rattle.std.proofs.lemmas.List.{take_all, take-append-drop}
use Rattle.std.specs.List.{range_with_len}
use Rattle.thunk_spec.specs.Record.{Record}
use Rattle.machine_spec.specs.Machine.{Machine}
use Rattle.machine_spec.specs.Step.{step}
use Rattle.machine_spec.specs.Schedule.{record_of, records_from}
use Rattle.machine_spec.specs.Setup.{first, scratch, records}
use Rattle.history_spec.specs.History.{History, IsHonest, IsSound, schedule_of}
use Rattle.report_spec.specs.declared.Entry.{Entry}
use Rattle.report_spec.specs.Report.{instructions_from}
use Rattle.round_spec.specs.declared.events.Pick.{Pick}
use Rattle.round_spec.specs.declared.events.Pick.TheVariants as pick
use Rattle.round_spec.specs.Marks.{marked}
use Rattle.round_spec.specs.Rounds.{RoundState, opening}
use Rattle.round_spec.specs.Choice.{pick_of}
use Rattle.round_spec.specs.Alone.{one_worker, after_pick, after_picks, lone_round, begun_by, begun_in, begun}
use Rattle.round_spec.specs.Instructions.{executed_instructions}
use Rattle.round_spec.specs.Unedited.{is_all_reused, all_reused_of, OnlyReuses}
use Rattle.round_spec.specs.OneWorker.{made_by, executed_in}
use Rattle.round_spec.proofs.Picks.{pick-over, pick-chosen, running}
use Rattle.round_spec.proofs.Lone.{rounds-made}
use Rattle.round_spec.proofs.Cost.{rounds-cost}
use Rattle.round_spec.proofs.Following.{honest-next, honest-whole, honest-end, honest-length, own-fits, next-fits, next-chosen, can_step-none, follow, follow-marks}

pub honest-sound : (h : History) → IsHonest h → IsSound (Some h) h.setup
honest-sound h honest = (honest, refl)

pub unedited-schedule : (h : History) → IsHonest h → one_worker h.setup (Some h) ≡ schedule_of h
unedited-schedule h honest =
    follow h h.setup.limit [] (schedule_of h) honest refl
    ∙ take_all h.setup.limit (schedule_of h) (honest-length h honest)

-- the round is the one that the history's schedule makes
pub unedited-round : (h : History) → IsHonest h → lone_round h.setup (Some h) ≡ made_by h.setup (Some h) (schedule_of h)
unedited-round h honest =
    rounds-made h.setup (Some h) h.setup.limit honest.valid (honest-sound h honest)
    ∙ ap (made_by h.setup (Some h)) (unedited-schedule h honest)

pub unedited-marks : (h : History) → IsHonest h → marked (Some h) h.setup (schedule_of h) ≡ all_reused_of h
unedited-marks h honest = follow-marks h [] (schedule_of h) honest refl

pub reused-all : (ts : List ℕ) → is_all_reused (map (λ t. record { thread = t; reused = true }) ts) ≡ true
reused-all [] = refl
reused-all (t ∷ ts) = reused-all ts

-- reused entries execute nothing
pub reused-instructions :
    (m : Machine) (ts : List ℕ)
    → instructions_from m (map (λ t. record { thread = t; reused = true }) ts) ≡ 0
reused-instructions m [] = refl
reused-instructions m (t ∷ ts) = let rest = reused-instructions (step m t) ts in omega arith

-- what is picked on the way is never executed
not-run : (p : Pick) (u : ℕ) → p ≡ pick.Over → p ≢ pick.Run u
not-run p u is = λ run. cc

reuse-not_run : (p : Pick) (t u : ℕ) → p ≡ pick.Reuse t → p ≢ pick.Run u
reuse-not_run p t u is = λ run. cc

made-not_run :
    (h : History) (xs ys : List ℕ) (u : ℕ)
    → IsHonest h → schedule_of h ≡ xs ++ ys → pick_of (made_by h.setup (Some h) xs) ≢ pick.Run u
made-not_run h xs [] u honest split =
    not-run (pick_of (made_by h.setup (Some h) xs)) u
    (pick-over h.setup (Some h) (scratch h.setup xs) (marked (Some h) h.setup xs) (records h.setup xs)
    (range_with_len 0 (length xs)) (honest-end h xs honest split))
made-not_run h xs (t ∷ ys) u honest split =
    let next = honest-next h xs t ys honest split in
    let own : Record = record_of (scratch h.setup xs) t in
    let back : List Record = records_from (step (scratch h.setup xs) t) ys in
    reuse-not_run (pick_of (made_by h.setup (Some h) xs)) t u
    (pick-chosen h.setup (Some h) (scratch h.setup xs) (marked (Some h) h.setup xs) (records h.setup xs)
    (range_with_len 0 (length xs)) t (running (scratch h.setup xs) (can_step-none (scratch h.setup xs) t next.can))
    (next-chosen (Some h) (scratch h.setup xs) (records h.setup xs) own back (honest-whole h xs (t ∷ ys) honest split)
    next)
    ∙ ap (λ (b : Bool). cond b (pick.Reuse t) (pick.Run t))
    (next-fits (Some h) (scratch h.setup xs) (records h.setup xs) own back next
    (own-fits (scratch h.setup xs) t next.can)))

pub unedited-never_runs :
    (h : History) (n u : ℕ) → IsHonest h
    → pick_of (after_picks n (opening h.setup (Some h))) ≢ pick.Run u
unedited-never_runs h n u honest = λ run.
    made-not_run h (take n (schedule_of h)) (drop n (schedule_of h)) u honest (sym (take-append-drop n (schedule_of h)))
    (ap pick_of
    (ap (made_by h.setup (Some h)) (sym (follow h n [] (schedule_of h) honest refl))
    ∙ sym (rounds-made h.setup (Some h) n honest.valid (honest-sound h honest)))
    ∙ run)

not-begun : (p : Pick) → ((u : ℕ) → p ≢ pick.Run u) → begun_by p ≡ []
not-begun (pick.Run t) never = absurd (never t refl)
not-begun (pick.Reuse t) never = refl
not-begun pick.Hold never = refl
not-begun pick.Over never = refl

-- if no step is picked to be executed, none is started
none-begun : (n : ℕ) (w : RoundState) → ((k u : ℕ) → pick_of (after_picks k w) ≢ pick.Run u) → begun_in n w ≡ []
none-begun zero w never = refl
none-begun (suc n) w never =
    ap (λ (ts : List ℕ). ts ++ begun_in n (after_pick w (pick_of w))) (not-begun (pick_of w) (never 0))
    ∙ none-begun n (after_pick w (pick_of w)) (λ k. never (suc k))

pub unedited-begun : (h : History) → IsHonest h → begun h.setup (Some h) ≡ []
unedited-begun h honest = none-begun h.setup.limit (opening h.setup (Some h)) (λ k u. unedited-never_runs h k u honest)

-- reused records don't count
pub reused-executed :
    (ts : List ℕ) (rs : List Record)
    → executed_instructions (map (λ t. record { thread = t; reused = true }) ts) rs ≡ 0
reused-executed [] rs = refl
reused-executed (t ∷ ts) [] = refl
reused-executed (t ∷ ts) (r ∷ rs) = let rest = reused-executed ts rs in omega arith

-- so the round only reuses the history
pub unedited-reuses : (h : History) → IsHonest h → OnlyReuses h (lone_round h.setup (Some h))
unedited-reuses h honest =
    subst (OnlyReuses h) (sym (unedited-round h honest))
    (record {
      schedule = unedited-marks h honest;
      reused = ap is_all_reused (unedited-marks h honest) ∙ reused-all (schedule_of h);
      begun = unedited-begun h honest;
      executed =
          ap (λ (es : List Entry). executed_instructions es (records h.setup (schedule_of h))) (unedited-marks h honest)
          ∙ reused-executed (schedule_of h) (records h.setup (schedule_of h));
      discarded = refl;
      machine = refl;
      records = sym honest.recorded;
    })

pub unedited-instructions :
    (h : History) → IsHonest h
    → instructions_from (first h.setup) (lone_round h.setup (Some h)).schedule ≡ 0
unedited-instructions h honest =
    ap (instructions_from (first h.setup)) (unedited-reuses h honest).schedule
    ∙ reused-instructions (first h.setup) (schedule_of h)

pub unedited-executed : (h : History) → IsHonest h → executed_in h.setup.limit (opening h.setup (Some h)) ≡ 0
unedited-executed h honest =
    rounds-cost h.setup (Some h) h.setup.limit honest.valid (honest-sound h honest) ∙ unedited-instructions h honest
