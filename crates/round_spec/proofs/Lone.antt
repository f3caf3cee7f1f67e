-- The whole round of one worker: its schedule is permitted and complete, and if the history is sound, it is the round
-- that its schedule makes.
use Rattle.std.proofs.Common.{◌≡◌, ◌≤◌, ◌+◌, ℕ, zero, suc, Bool, true, false, cond, List, [], ◌∷◌, ◌++◌, Option, Some, None, is_some, unwrap_or, refl, ap, sym, ◌∙◌, subst, append_assoc, append-nil, arith}
use Rattle.thunk_spec.specs.Record.{Record}
use Rattle.machine_spec.specs.declared.states.End.{End}
use Rattle.machine_spec.specs.Machine.{Machine, hart_of}
use Rattle.machine_spec.specs.Step.{step, can_step}
use Rattle.machine_spec.specs.Schedule.{is_permitted_from, is_complete_from, record_of, records_from}
use Rattle.machine_spec.specs.Setup.{Setup, IsSetup, first, scratch, is_permitted, is_complete, records}
use Rattle.machine_spec.specs.Whole.{IsWhole}
use Rattle.machine_spec.proofs.Beginning.{IsWhole-first}
use Rattle.machine_spec.proofs.Steps.{step-whole}
use Rattle.machine_spec.proofs.Alone.{step-limit, step-steps, first-limit}
use Rattle.history_spec.specs.History.{History, IsSound}
use Rattle.history_spec.proofs.Scratch.{and-left, and-right, step-frame, scratch-whole, scratch-more, permitted-more}
use Rattle.history_spec.proofs.Truth.{reuse-record}
use Rattle.report_spec.specs.Report.{threads_of}
use Rattle.round_spec.specs.Marks.{record_for, is_fitting, fits_next, marked_from, marked, source_of, sourced_from}
use Rattle.round_spec.specs.Rounds.{RoundState, opening}
use Rattle.round_spec.specs.Alone.{guided_from, one_worker, after_picks, lone_round}
use Rattle.round_spec.specs.Keeping.{IsFromScratch}
use Rattle.round_spec.specs.OneWorker.{made_by}
use Rattle.round_spec.proofs.Picks.{marked-threads, after-made, after-over, guided-over, guided-next, Stands, Over, Goes, stands}

-- the schedule of one worker is permitted
pub guided-permitted :
    (past : Option History) (n : ℕ) (m : Machine) → IsWhole m
    → is_permitted_from m (guided_from past n m) ≡ true
guided-permitted past zero m whole = refl
guided-permitted past (suc n) m whole =
    by (stands past m whole) (λ t can. guided-permitted past n (step m t) (step-whole m t whole can))
  where
    by :
        Stands past m
        → ((t : ℕ) → can_step m t ≡ true → is_permitted_from (step m t) (guided_from past n (step m t)) ≡ true)
        → is_permitted_from m (guided_from past (suc n) m) ≡ true
    by (Over e is) later = ap (is_permitted_from m) (guided-over past (suc n) m e is)
    by (Goes t none chosen can) later =
        ap (is_permitted_from m) (guided-next past n m t none chosen) ∙ (rw can (later t can))

-- and complete, if there are enough picks
pub guided-complete :
    (past : Option History) (n : ℕ) (m : Machine)
    → IsWhole m → m.limit ≤ m.steps + n → is_complete_from m (guided_from past n m) ≡ true
guided-complete past zero m whole enough = ended m.ending refl
  where
    ended : (e : Option End) → m.ending ≡ e → is_some m.ending ≡ true
    ended (Some e) is = rw is refl
    ended None is = absurd (let left = whole.steps_left is in omega arith)
guided-complete past (suc n) m whole enough =
    by (stands past m whole)
    (λ t can.
    let limit = step-limit m t in
    let steps = step-steps m t in
    guided-complete past n (step m t) (step-whole m t whole can) (omega arith))
  where
    by :
        Stands past m
        → ((t : ℕ) → can_step m t ≡ true → is_complete_from (step m t) (guided_from past n (step m t)) ≡ true)
        → is_complete_from m (guided_from past (suc n) m) ≡ true
    by (Over e is) later =
        ap (is_complete_from m) (guided-over past (suc n) m e is) ∙ ap (λ (o : Option End). is_some o) is
    by (Goes t none chosen can) later = ap (is_complete_from m) (guided-next past n m t none chosen) ∙ later t can

-- the round after some picks is the one that the schedule so far makes
pub picks-made :
    (setup : Setup) (past : Option History) (n : ℕ) (ts : List ℕ)
    → IsSetup setup → IsSound past setup → is_permitted setup ts ≡ true
    → after_picks n (made_by setup past ts) ≡ made_by setup past (ts ++ guided_from past n (scratch setup ts))
picks-made setup past zero ts valid sound permitted = ap (made_by setup past) (sym (append-nil ts))
picks-made setup past (suc n) ts valid sound permitted =
    by (stands past (scratch setup ts) whole) (picks-made setup past n ts valid sound permitted)
    (λ t can. picks-made setup past n (ts ++ t ∷ []) valid sound (permitted-more (first setup) ts t permitted can))
  where
    whole : IsWhole (scratch setup ts)
    whole = scratch-whole (first setup) ts (IsWhole-first setup valid) permitted

    by :
        Stands past (scratch setup ts)
        → after_picks n (made_by setup past ts) ≡ made_by setup past (ts ++ guided_from past n (scratch setup ts))
        → ((t : ℕ) → can_step (scratch setup ts) t ≡ true
        → after_picks n (made_by setup past (ts ++ t ∷ []))
        ≡ made_by setup past ((ts ++ t ∷ []) ++ guided_from past n (scratch setup (ts ++ t ∷ []))))
        → after_picks (suc n) (made_by setup past ts)
        ≡ made_by setup past (ts ++ guided_from past (suc n) (scratch setup ts))
    by (Over e is) stays goes =
        ap (after_picks n) (after-over setup past ts e is) ∙ stays
        ∙ ap (λ (us : List ℕ). made_by setup past (ts ++ us)) (guided-over past n (scratch setup ts) e is)
        ∙ sym (ap (λ (us : List ℕ). made_by setup past (ts ++ us)) (guided-over past (suc n) (scratch setup ts) e is))
    by (Goes t none chosen can) stays goes =
        ap (after_picks n) (after-made setup past ts t sound whole none chosen) ∙ goes t can
        ∙ ap (λ (m : Machine). made_by setup past ((ts ++ t ∷ []) ++ guided_from past n m))
        (scratch-more (first setup) ts t)
        ∙ ap (made_by setup past) (append_assoc ts (t ∷ []) (guided_from past n (step (scratch setup ts) t)))
        ∙ sym (ap (λ (us : List ℕ). made_by setup past (ts ++ us))
        (guided-next past n (scratch setup ts) t none chosen))

pub rounds-made :
    (setup : Setup) (past : Option History) (n : ℕ)
    → IsSetup setup → IsSound past setup
    → after_picks n (opening setup past) ≡ made_by setup past (guided_from past n (first setup))
rounds-made setup past n valid sound = picks-made setup past n [] valid sound refl

pub one_worker-permitted :
    (setup : Setup) (past : Option History) → IsSetup setup
    → is_permitted setup (one_worker setup past) ≡ true
one_worker-permitted setup past valid = guided-permitted past setup.limit (first setup) (IsWhole-first setup valid)

pub one_worker-complete :
    (setup : Setup) (past : Option History) → IsSetup setup
    → is_complete setup (one_worker setup past) ≡ true
one_worker-complete setup past valid =
    guided-complete past setup.limit (first setup) (IsWhole-first setup valid) (first-limit setup)

-- the records of a permitted schedule come from the history or a step, as the marks say
source-is :
    (past : Option History) (setup : Setup) (m : Machine) (t : ℕ) (o : Option Record) (b : Bool)
    → IsSound past setup → IsWhole m → m.frame ≡ (first setup).frame
    → record_for past m t ≡ o → is_fitting m o ≡ b
    → record_of m t ≡ cond b (unwrap_or o (record_of m t)) (record_of m t)
source-is past setup m t None true sound whole frame there fit = cc
source-is past setup m t (Some r) true sound whole frame there fit =
    sym (reuse-record setup past m t (hart_of m t).number r sound whole frame there fit)
source-is past setup m t o false sound whole frame there fit = refl

sources-are :
    (past : Option History) (setup : Setup) (m : Machine) (ts : List ℕ)
    → IsSound past setup → IsWhole m → m.frame ≡ (first setup).frame → is_permitted_from m ts ≡ true
    → records_from m ts ≡ sourced_from past m (marked_from past m ts)
sources-are past setup m [] sound whole frame permitted = refl
sources-are past setup m (t ∷ ts) sound whole frame permitted =
    let here : record_of m t ≡ source_of past m (record { thread = t; reused = fits_next past m t }) =
    source-is past setup m t (record_for past m t) (fits_next past m t) sound whole frame refl refl in
    let rest : records_from (step m t) ts ≡ sourced_from past (step m t) (marked_from past (step m t) ts) =
    sources-are past setup (step m t) ts sound
    (step-whole m t whole (and-left (can_step m t) (is_permitted_from (step m t) ts) permitted))
    (step-frame m t ∙ frame) (and-right (can_step m t) (is_permitted_from (step m t) ts) permitted) in
    ap (λ (r : Record). r ∷ records_from (step m t) ts) here
    ∙ ap (λ (rs : List Record). source_of past m (record { thread = t; reused = fits_next past m t }) ∷ rs) rest

-- so a round that a permitted schedule makes is at the machine from scratch
pub made-scratch :
    (setup : Setup) (past : Option History) (ts : List ℕ)
    → IsSetup setup → IsSound past setup → is_permitted setup ts ≡ true
    → IsFromScratch (made_by setup past ts)
made-scratch setup past ts valid sound permitted =
    let threads : ts ≡ threads_of (marked past setup ts) = sym (marked-threads past (first setup) ts) in
    record {
      machine = ap (scratch setup) threads;
      permitted = ap (is_permitted setup) (sym threads) ∙ permitted;
      records = ap (records setup) threads;
      sources = sources-are past setup (first setup) ts sound (IsWhole-first setup valid) refl permitted;
      marks = ap (marked past setup) threads;
    }

pub lone-threads :
    (setup : Setup) (past : Option History)
    → IsSetup setup → IsSound past setup
    → threads_of (lone_round setup past).schedule ≡ one_worker setup past
lone-threads setup past valid sound =
    ap (λ (w : RoundState). threads_of w.schedule) (rounds-made setup past setup.limit valid sound)
    ∙ marked-threads past (first setup) (one_worker setup past)

pub lone-scratch :
    (setup : Setup) (past : Option History)
    → IsSetup setup → IsSound past setup → IsFromScratch (lone_round setup past)
lone-scratch setup past valid sound =
    subst IsFromScratch (sym (rounds-made setup past setup.limit valid sound))
    (made-scratch setup past (one_worker setup past) valid sound (one_worker-permitted setup past valid))
