-- Under the lock, no step is started but a picked one.
use Rattle.std.proofs.Common.{◌≡◌, ℕ, suc, Bool, true, false, Option, Some, refl, ap, sym, ◌∙◌, subst}
use Rattle.std.proofs.lemmas.Bool.{eq-eqb}
use Rattle.machine_spec.specs.Setup.{Setup, IsSetup}
use Rattle.history_spec.specs.History.{History, IsSound, CanGoBy}
use Rattle.round_spec.specs.declared.events.Event.{Event}
use Rattle.round_spec.specs.declared.events.Event.TheVariants.{Take, Reuse, Commit, GiveBack, Stop}
use Rattle.round_spec.specs.declared.events.Pick.{Pick}
use Rattle.round_spec.specs.declared.events.Pick.TheVariants as pick
use Rattle.round_spec.specs.Rounds.{RoundState, opening, is_finished, happens}
use Rattle.round_spec.specs.Choice.{pick_of}
use Rattle.round_spec.specs.Keeping.{IsInOrder}
use Rattle.round_spec.specs.Unedited.{IsUnedited}
use Rattle.round_spec.proofs.Happening.{happens-kept}
use Rattle.round_spec.proofs.Leaving.{same-happens}
use Rattle.round_spec.specs.Replaying.{IsReplaying, goes_on_by}
use Rattle.round_spec.proofs.Replay.{unedited-repeats, replays-start, replays-on, replays-next}
use Rattle.round_spec.proofs.ByRule.{by_rule-opening, by_rule-happens}
use Rattle.propagate.proofs.Choosing.{pick-over}
use Rattle.rerun_workers.specs.Following.{FollowsPicks}
use Rattle.rerun_workers.specs.Locking.{with_reuse, settled, given_up}

-- what is known of the round under the lock
pub record IsUnder (setup : Setup) (past : Option History) (w : RoundState) : Type 0 where
  pub setup_is : w.setup ≡ setup
  pub past_is : w.past ≡ past
  pub valid : IsSetup w.setup
  pub in_order : IsInOrder w
  pub follows : FollowsPicks setup past w

can-go : (setup : Setup) (past : Option History) (w : RoundState) → IsUnder setup past w → IsSound past setup → CanGoBy w.past w.setup
can-go setup past w under sound =
    record {
      valid = under.valid;
      sound =
          subst (IsSound w.past) (sym under.setup_is)
          (subst (λ (p : Option History). IsSound p setup) (sym under.past_is) sound);
    }

-- at its start nothing was picked
pub follows_opening :
    (setup : Setup) (past : Option History) (w : RoundState)
    → w ≡ opening setup past → FollowsPicks setup past w
follows_opening setup past w is =
    subst (FollowsPicks setup past) (sym is)
    (record {
      picked = λ sound. by_rule-opening setup past;
      replays = λ h past_is repeats.
          subst (λ (p : Option History). IsReplaying h (opening setup p)) (sym past_is)
          (subst (λ (s : Setup). IsReplaying h (opening s (Some h))) repeats.same (replays-start h));
    })

-- an event by which a round may continue after its pick
on :
    (setup : Setup) (past : Option History) (w v : RoundState) (e : Event)
    → IsUnder setup past w → goes_on_by (pick_of w) e ≡ true → v ≡ happens w e → FollowsPicks setup past v
on setup past w v e under goes is =
    subst (FollowsPicks setup past) (sym is)
    (record {
      picked = λ sound.
          by_rule-happens w e (can-go setup past w under sound) under.in_order (under.follows.picked sound) goes;
      replays = λ h past_is repeats.
          let replays = under.follows.replays h past_is repeats in
          replays-on h w e (subst IsSetup replays.reused.setup under.valid) repeats.coherent replays goes;
    })

-- and what is known of it then
on-under :
    (setup : Setup) (past : Option History) (w : RoundState) (e : Event)
    → IsUnder setup past w → goes_on_by (pick_of w) e ≡ true → IsUnder setup past (happens w e)
on-under setup past w e under goes =
    let same = same-happens w e in
    record {
      setup_is = same.setup ∙ under.setup_is;
      past_is = same.past ∙ under.past_is;
      valid = subst IsSetup (sym same.setup) under.valid;
      in_order = happens-kept w e under.in_order;
      follows = on setup past w (happens w e) e under goes refl;
    }

commit-goes : (p : Pick) (t : ℕ) → goes_on_by p (Commit t) ≡ true
commit-goes (pick.Reuse u) t = refl
commit-goes (pick.Run u) t = refl
commit-goes pick.Hold t = refl
commit-goes pick.Over t = refl

give_back-goes : (p : Pick) (t : ℕ) → goes_on_by p (GiveBack t) ≡ true
give_back-goes (pick.Reuse u) t = refl
give_back-goes (pick.Run u) t = refl
give_back-goes pick.Hold t = refl
give_back-goes pick.Over t = refl

stop-goes : (p : Pick) → goes_on_by p Stop ≡ true
stop-goes (pick.Reuse u) = refl
stop-goes (pick.Run u) = refl
stop-goes pick.Hold = refl
stop-goes pick.Over = refl

pub follows-reuse :
    (setup : Setup) (past : Option History) (w v : RoundState) (t : ℕ)
    → IsUnder setup past w → pick_of w ≡ pick.Reuse t → v ≡ happens w (Reuse t) → FollowsPicks setup past v
follows-reuse setup past w v t under picked is =
    on setup past w v (Reuse t) under (ap (λ (p : Pick). goes_on_by p (Reuse t)) picked ∙ eq-eqb t t refl) is

pub follows-take :
    (setup : Setup) (past : Option History) (w v : RoundState) (t : ℕ)
    → IsUnder setup past w → pick_of w ≡ pick.Run t → v ≡ happens w (Take t) → FollowsPicks setup past v
follows-take setup past w v t under picked is =
    on setup past w v (Take t) under (ap (λ (p : Pick). goes_on_by p (Take t)) picked ∙ eq-eqb t t refl) is

pub follows-commit :
    (setup : Setup) (past : Option History) (w v : RoundState) (t : ℕ)
    → IsUnder setup past w → v ≡ happens w (Commit t) → FollowsPicks setup past v
follows-commit setup past w v t under is = on setup past w v (Commit t) under (commit-goes (pick_of w) t) is

pub follows-give_back :
    (setup : Setup) (past : Option History) (w v : RoundState) (t : ℕ)
    → IsUnder setup past w → v ≡ happens w (GiveBack t) → FollowsPicks setup past v
follows-give_back setup past w v t under is = on setup past w v (GiveBack t) under (give_back-goes (pick_of w) t) is

pub follows-stop :
    (setup : Setup) (past : Option History) (w v : RoundState)
    → IsUnder setup past w → v ≡ happens w Stop → FollowsPicks setup past v
follows-stop setup past w v under is = on setup past w v Stop under (stop-goes (pick_of w)) is

pub follows-given_up :
    (setup : Setup) (past : Option History) (w v : RoundState) (t : ℕ)
    → IsUnder setup past w → v ≡ given_up w t → FollowsPicks setup past v
follows-given_up setup past w v t under is =
    follows-stop setup past (happens w (GiveBack t)) v
    (on-under setup past w (GiveBack t) under (give_back-goes (pick_of w) t)) is

-- and without an edit no step is started
pub never-begins :
    (setup : Setup) (past : Option History) (w : RoundState) (t : ℕ) (h : History)
    → FollowsPicks setup past w → pick_of w ≡ pick.Run t → past ≡ Some h → IsUnedited h setup → ⊥
never-begins setup past w t h follows picked past_is unedited = by (is_finished w) refl
  where
    by : (over : Bool) → is_finished w ≡ over → ⊥
    by true is = let over = pick-over w is in let both : pick.Over ≡ pick.Run t = sym over ∙ picked in cc
    by false is =
        let repeats = unedited-repeats h setup unedited in
        let next =
        replays-next h w unedited.honest.valid repeats.coherent (follows.replays h past_is repeats) is in
        let both : pick.Reuse next.0 ≡ pick.Run t = sym next.1.picked ∙ picked in cc

-- one more record was reused
pub settled-more :
    (n t : ℕ) (w v u : RoundState)
    → v ≡ settled n w → pick_of v ≡ pick.Reuse t → u ≡ happens v (Reuse t) → u ≡ settled (suc n) w
settled-more n t w v u so_far picked is =
    is ∙ ap (with_reuse v) (sym picked) ∙ ap (λ (x : RoundState). with_reuse x (pick_of x)) so_far
