-- The records of a round have their slots in its map, if those of its history have.
use Rattle.std.proofs.Common.{◌≡◌, ℕ, Bool, true, false, cond, List, [], ◌∷◌, ◌++◌, All, length, Option, Some, None, refl, ap, sym, ◌∙◌, subst}
use Rattle.std.proofs.lemmas.List.Elements.{recursion_from_All, All-from_recursion}
use Rattle.std.specs.List.{AllByRecursion}
use Rattle.memory_spec.specs.Pages.{Mapped}
use Rattle.thunk_spec.specs.Thunk.{Frame}
use Rattle.thunk_spec.specs.Record.{Record}
use Rattle.machine_spec.specs.Machine.{hart_of}
use Rattle.machine_spec.specs.Schedule.{record_of}
use Rattle.machine_spec.specs.Setup.{Setup, map_of}
use Rattle.history_spec.specs.History.{History, IsMappedIn, IsMapped, past_records}
use Rattle.history_spec.proofs.Scratch.{step-frame}
use Rattle.history_spec.proofs.Applying.{apply-frame}
use Rattle.history_spec.proofs.Truth.{found-all}
use Rattle.history_spec.proofs.Mapped.{record-mapped, first-map}
use Rattle.round_spec.specs.declared.events.Event.{Event}
use Rattle.round_spec.specs.declared.events.Event.TheVariants.{Take, Reuse, Commit, GiveBack, Stop}
use Rattle.round_spec.specs.Marks.{record_for}
use Rattle.round_spec.specs.Rounds.{RoundState, opening, is_finished, is_in_flight, can_take, can_reuse, taken, reused_by, committed, given_back, happens, all_happen, round_after, history_of}
use Rattle.round_spec.proofs.Leaving.{same-happens, round-setup}

-- what holds of both holds in either case
either-round : (P : RoundState → Type 0) (b : Bool) (v w : RoundState) → P v → P w → P (cond b v w)
either-round P true v w left right = left
either-round P false v w left right = right

-- the machine's map stays

reused-frame : (w : RoundState) (t : ℕ) (o : Option Record) → (reused_by w t o).machine.frame ≡ w.machine.frame
reused-frame w t None = refl
reused-frame w t (Some r) = apply-frame w.machine r

pub happens-frame : (w : RoundState) (e : Event) → (happens w e).machine.frame ≡ w.machine.frame
unfolding happens
happens-frame w (Take t) = either-round (λ v. v.machine.frame ≡ w.machine.frame) (can_take w t) (taken w t) w refl refl
happens-frame w (Reuse t) =
    either-round (λ v. v.machine.frame ≡ w.machine.frame) (can_reuse w t)
    (reused_by w t (record_for w.past w.machine t)) w
    (reused-frame w t (record_for w.past w.machine t)) refl
happens-frame w (Commit t) =
    either-round (λ v. v.machine.frame ≡ w.machine.frame) (is_in_flight w t)
    (cond (is_finished w) (given_back w t) (committed w t)) w
    (either-round (λ v. v.machine.frame ≡ w.machine.frame) (is_finished w) (given_back w t) (committed w t) refl
    (step-frame w.machine t)) refl
happens-frame w (GiveBack t) =
    either-round (λ v. v.machine.frame ≡ w.machine.frame) (is_in_flight w t) (given_back w t) w refl refl
happens-frame w Stop = refl

-- each new record is one of the history, or that of a step

mapped-more :
    (n : ℕ) (rs : List Record) (r : Record)
    → AllByRecursion (IsMappedIn n) rs → IsMappedIn n r → AllByRecursion (IsMappedIn n) (rs ++ r ∷ [])
mapped-more n [] r all last = (last, tt)
mapped-more n (x ∷ rs) r all last = (all.0, mapped-more n rs r all.1 last)

-- the records of a round, in a map of this number of pages
abbrev AreMapped : ℕ → RoundState → Type 0
AreMapped n w = AllByRecursion (IsMappedIn n) w.records

reused-mapped :
    (n : ℕ) (w : RoundState) (t : ℕ) (o : Option Record)
    → AllByRecursion (IsMappedIn n) (past_records w.past) → record_for w.past w.machine t ≡ o
    → AreMapped n w → AreMapped n (reused_by w t o)
reused-mapped n w t None past there all = all
reused-mapped n w t (Some r) past there all =
    mapped-more n w.records r all
    (found-all (IsMappedIn n) t (hart_of w.machine t).number (past_records w.past) r past there)

committed-mapped :
    (n : ℕ) (w : RoundState) (t : ℕ) → length w.machine.frame.map ≡ n → AreMapped n w
    → AreMapped n (committed w t)
committed-mapped n w t pages all =
    mapped-more n w.records (record_of w.machine t) all
    (subst (λ (k : ℕ). IsMappedIn k (record_of w.machine t)) pages (record-mapped w.machine t))

pub happens-mapped :
    (n : ℕ) (w : RoundState) (e : Event)
    → AllByRecursion (IsMappedIn n) (past_records w.past) → length w.machine.frame.map ≡ n
    → AreMapped n w → AreMapped n (happens w e)
unfolding happens
happens-mapped n w (Take t) past pages all = either-round (AreMapped n) (can_take w t) (taken w t) w all all
happens-mapped n w (Reuse t) past pages all =
    either-round (AreMapped n) (can_reuse w t) (reused_by w t (record_for w.past w.machine t)) w
    (reused-mapped n w t (record_for w.past w.machine t) past refl all) all
happens-mapped n w (Commit t) past pages all =
    either-round (AreMapped n) (is_in_flight w t) (cond (is_finished w) (given_back w t) (committed w t)) w
    (either-round (AreMapped n) (is_finished w) (given_back w t) (committed w t) all (committed-mapped n w t pages all)) all
happens-mapped n w (GiveBack t) past pages all = either-round (AreMapped n) (is_in_flight w t) (given_back w t) w all all
happens-mapped n w Stop past pages all = all

all_happen-mapped :
    (n : ℕ) (w : RoundState) (es : List Event)
    → AllByRecursion (IsMappedIn n) (past_records w.past) → length w.machine.frame.map ≡ n
    → AreMapped n w → AreMapped n (all_happen w es)
all_happen-mapped n w [] past pages all = all
all_happen-mapped n w (e ∷ es) past pages all =
    all_happen-mapped n (happens w e) es
    (subst (λ (p : Option History). AllByRecursion (IsMappedIn n) (past_records p)) (sym (same-happens w e).past) past)
    (ap (λ (f : Frame). length f.map) (happens-frame w e) ∙ pages)
    (happens-mapped n w e past pages all)

pub event-mapped :
    (n : ℕ) (w : RoundState) (e : Event)
    → All (IsMappedIn n) (past_records w.past) → length w.machine.frame.map ≡ n
    → All (IsMappedIn n) w.records → All (IsMappedIn n) (happens w e).records
event-mapped n w e past pages all =
    All-from_recursion (IsMappedIn n) (happens w e).records
    (happens-mapped n w e (recursion_from_All (IsMappedIn n) (past_records w.past) past) pages
    (recursion_from_All (IsMappedIn n) w.records all))

-- so a round's own history is mapped
pub round-mapped :
    (setup : Setup) (past : Option History) (es : List Event)
    → All (IsMappedIn (length (map_of setup))) (past_records past) → IsMapped (history_of (round_after setup past es))
round-mapped setup past es all =
    subst (λ (s : Setup). All (IsMappedIn (length (map_of s))) (round_after setup past es).records)
    (sym (round-setup setup past es))
    (All-from_recursion (IsMappedIn (length (map_of setup))) (round_after setup past es).records
    (all_happen-mapped (length (map_of setup)) (opening setup past) es
    (recursion_from_All (IsMappedIn (length (map_of setup))) (past_records past) all)
    (ap (λ (map : List Mapped). length map) (first-map setup)) tt))
