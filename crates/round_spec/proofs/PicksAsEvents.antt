-- What one worker does at its picks are events, and its round's history is honest.
use Rattle.std.proofs.Common.{◌≡◌, ℕ, true, List, Option, ap, sym, ◌∙◌, subst}
use Rattle.machine_spec.specs.Setup.{Setup, IsSetup, first, is_permitted, is_complete, records}
use Rattle.history_spec.specs.History.{History, IsHonest, IsSound, threads_of_records}
use Rattle.history_spec.proofs.Scratch.{records-threads}
use Rattle.round_spec.specs.declared.events.Event.{Event}
use Rattle.round_spec.specs.Rounds.{RoundState, opening, round_after, history_of}
use Rattle.round_spec.specs.Alone.{one_worker, after_picks, lone_round}
use Rattle.round_spec.specs.Schedules.{events_in}
use Rattle.round_spec.specs.OneWorker.{made_by}
use Rattle.round_spec.proofs.Lone.{rounds-made, one_worker-permitted, one_worker-complete}
use Rattle.round_spec.proofs.Workers.{picks-entries}

-- the events of the entries that were made
pub picks-events :
    (setup : Setup) (past : Option History) (n : ℕ)
    → (events : List Event) × (after_picks n (opening setup past) ≡ round_after setup past events)
picks-events setup past n = (events_in (after_picks n (opening setup past)).schedule, sym (picks-entries setup past n))

made-honest :
    (setup : Setup) (past : Option History) (ts : List ℕ)
    → IsSetup setup → is_permitted setup ts ≡ true → is_complete setup ts ≡ true
    → IsHonest (history_of (made_by setup past ts))
made-honest setup past ts valid permitted complete =
    let threads : threads_of_records (records setup ts) ≡ ts = records-threads (first setup) ts in
    record {
      valid = valid;
      permitted = ap (is_permitted setup) threads ∙ permitted;
      complete = ap (is_complete setup) threads ∙ complete;
      recorded = ap (records setup) (sym threads);
    }

pub lone-honest :
    (setup : Setup) (past : Option History) → IsSetup setup → IsSound past setup
    → IsHonest (history_of (lone_round setup past))
lone-honest setup past valid sound =
    subst (λ (w : RoundState). IsHonest (history_of w)) (sym (rounds-made setup past setup.limit valid sound))
    (made-honest setup past (one_worker setup past) valid (one_worker-permitted setup past valid)
    (one_worker-complete setup past valid))
