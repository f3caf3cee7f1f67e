-- How a command line ends, from how its rounds did.
use Rattle.std.proofs.Common.{◌≡◌, Bool, ℕ, true, false, List, ◌++◌, Option, Some, length, take, sym, ap, ◌∙◌, inl, inr, subst}
use Rattle.std.specs.Prelude.{Result, Ok, Err, IfOk, IfErr}
use Rattle.std.specs.List.{concat}
use Rattle.std.specs.Io.KnownBytes.{Appends}
use Rattle.memo_spec.specs.Encoding.{memo}
use Rattle.rerun_spec.specs.Rounds.{Found}
use Rattle.ith_host.specs.World.{World, NoneFell, Stays, AsksNothing}
use Rattle.ith_words.specs.Words.{Text, Line}
use Rattle.ith_commands.specs.declared.status.Status.{Status}
use Rattle.ith_commands.specs.declared.status.Status.TheVariants as status
use Rattle.ith_commands.specs.Statuses.{status_in}
use Rattle.ith_commands.specs.Contents.{Plan, workers_of}
use Rattle.ith_commands.specs.Ends.{HasRounds, texts_of, last_history_of, new_memo_of, Prints, PrintsAndKeeps, IsDone, RoundsEnd}
use Rattle.ith_commands.specs.Counting.{Work, SpendsTurns, RoundsSpend}
use Rattle.ith_commands.specs.Refusals.{WhyCutShort, WhyUnkept, WhyUndone}
use Rattle.ith_commands.specs.Playing.{IsPrepared, AreFound, IsCarriedOut}
use Rattle.ith_commands.proofs.Worlds.{rose_before}
use Rattle.ith_commands.proofs.Printing.{prints_after, prints_then}
use Rattle.ith_top.proofs.Promises.{promised_of, each_kept}
use Rattle.ith_commands.proofs.Spent.{rounds_unspent}

-- the rounds of a plan, as far as they were found
pub rounds_in :
    (line : Line) (a b : World) (p : Plan) (found : List Found)
    → IsPrepared line a b p → AreFound (workers_of line) p found → HasRounds line a
rounds_in line a b p found ready are =
    record {
      plan = p;
      is_plan = ready.is;
      found = found;
      few = are.few;
      made = are.made;
      watched = are.watched;
      promised = promised_of line a p found ready.is ready.playable ready.encoded are;
      kept = each_kept (workers_of line) p found ready.playable ready.encoded are;
    }

-- printing and writing after a change that keeps files and printed bytes
kept_after : (name : Option Text) (content : List ℕ) (a b c : World) (bytes : List ℕ) → Stays a b
    → PrintsAndKeeps name content b c bytes → PrintsAndKeeps name content a c bytes
kept_after name content a b c bytes stays keeps =
    record {
      is_stated = keeps.is_stated ∙ stays.is_stated;
      printed = subst (λ (reported : Option (List ℕ)). Appends reported c.printed bytes) stays.printed keeps.printed;
      written = keeps.written;
      others = λ other away. keeps.others other away ∙ ap (λ (files : Text → Option (List ℕ)). files other) stays.files;
    }

done_by :
    (line : Line) (a b c : World) (p : Plan) (earlier later : Work) (exits : Bool)
    → IsPrepared line a b p → AsksNothing b c
    → IsCarriedOut (new_memo_of line) (workers_of line) p b c earlier later exits → IsDone line exits a c
unfolding rounds_in
done_by line a b c p earlier later exits ready none done =
    record {
      asked = none ∙ ready.reads.asked;
      has = rounds_in line a b p done.found ready done.made;
      all = done.all;
      keeps = kept_after (new_memo_of line) (memo (last_history_of p done.found)) a b c (concat (texts_of p done.found))
          ready.reads.stays done.keeps;
      within = done.within;
      ends = done.are_exits;
    }

-- and the counter rose by the turns of its rounds
spent_by :
    (line : Line) (a b c : World) (p : Plan) (earlier later : Work) (exits : Bool)
    → IsPrepared line a b p → AsksNothing b c
    → IsCarriedOut (new_memo_of line) (workers_of line) p b c earlier later exits
    → (done : IsDone line exits a c) × SpendsTurns line a done.has earlier later
unfolding rounds_in done_by
spent_by line a b c p earlier later exits ready none done =
    (done_by line a b c p earlier later exits ready none done, record { counted = done.made.counted; turns = done.turns })

-- not all rounds were made and printed
cut_short :
    (line : Line) (a b c : World) (p : Plan) (found : List Found) (why : Status)
    → IsPrepared line a b p → AsksNothing b c → AreFound (workers_of line) p found
    → WhyCutShort p found b c why → RoundsEnd line a c why
unfolding rounds_in
cut_short line a b c p found status.WriteFault ready none are cause =
    inl
    (record {
      asked = none ∙ ready.reads.asked;
      has = rounds_in line a b p found ready are;
      part = record {
        cause = rose_before _ _ _ ready.reads.counts.prints cause.cause;
        whole = cause.whole;
        next = cause.next;
        is_next = cause.is_next;
        count = cause.count;
        prints = prints_after a b c
            (concat (take cause.whole (texts_of p found)) ++ take cause.count cause.next) ready.reads.stays cause.prints;
      };
    })
cut_short line a b c p found status.NoMemory ready none are cause =
    record {
      asked = none ∙ ready.reads.asked;
      has = rounds_in line a b p found ready are;
      prints = prints_after a b c (concat (texts_of p found)) ready.reads.stays cause;
    }
cut_short line a b c p found _ ready none are cause = absurd cause

-- all texts were printed, and the memo wasn't written
unkept :
    (line : Line) (a b m c : World) (p : Plan) (found : List Found) (name : Text) (why : Status)
    → IsPrepared line a b p → AsksNothing b c → AreFound (workers_of line) p found → length found ≡ length p.inputs
    → NoneFell b m → new_memo_of line ≡ Some name → Prints b m (concat (texts_of p found))
    → WhyUnkept name (memo (last_history_of p found)) m c why
    → RoundsEnd line a c why
unfolding rounds_in
unkept line a b m c p found name status.WriteFault ready none are all later by prints cause =
    let printed : Prints a m (concat (texts_of p found)) =
    prints_after a b m (concat (texts_of p found)) ready.reads.stays prints in
    inr
    (record {
      asked = none ∙ ready.reads.asked;
      has = rounds_in line a b p found ready are;
      all = all;
      name = name;
      is_named = by;
      within = cause.within;
      cause = rose_before _ _ _ (ready.reads.counts.writes name) (rose_before _ _ _ (later.writes name) cause.cause);
      is_stated = cause.is_stated ∙ printed.is_stated;
      printed = subst (λ (reported : Option (List ℕ)). Appends a.printed reported (concat (texts_of p found)))
          (sym cause.printed) printed.printed;
      unstated = cause.unstated;
      others = λ other away. cause.others other away
          ∙ ap (λ (files : Text → Option (List ℕ)). files other) printed.files;
    })
unkept line a b m c p found name status.NoMemory ready none are all later by prints cause =
    record {
      asked = none ∙ ready.reads.asked;
      has = rounds_in line a b p found ready are;
      prints = prints_then a m c (concat (texts_of p found))
          (prints_after a b m (concat (texts_of p found)) ready.reads.stays prints) cause;
    }
unkept line a b m c p found name status.TooLarge ready none are all later by prints cause =
    record {
      asked = none ∙ ready.reads.asked;
      has = rounds_in line a b p found ready are;
      all = all;
      name = name;
      is_named = by;
      long = cause.long;
      prints = prints_then a m c (concat (texts_of p found))
          (prints_after a b m (concat (texts_of p found)) ready.reads.stays prints) cause.stays;
    }
unkept line a b m c p found name _ ready none are all later by prints cause = absurd cause

-- not all was done
undone :
    (line : Line) (a b c : World) (p : Plan) (earlier later : Work) (why : Status)
    → IsPrepared line a b p → AsksNothing b c
    → WhyUndone (new_memo_of line) (workers_of line) p b c earlier later why → RoundsEnd line a c why
undone line a b c p earlier later why ready none cause =
    elim cause [
      | inl short ↦ cut_short line a b c p short.found why ready none short.made short.why
      | inr after ↦ unkept line a b after.between c p after.found after.kept why ready none
          after.made after.all after.counts after.is_named after.prints after.why
    ]

-- how a command line ends whose rounds were started
pub rounds_end :
    (line : Line) (a b c : World) (p : Plan) (earlier later : Work) (r : Result Bool Status)
    → IsPrepared line a b p → AsksNothing b c
    → IfOk r (IsCarriedOut (new_memo_of line) (workers_of line) p b c earlier later)
    → IfErr r (WhyUndone (new_memo_of line) (workers_of line) p b c earlier later)
    → RoundsEnd line a c (status_in r)
rounds_end line a b c p earlier later (Ok true) ready none done why =
    done_by line a b c p earlier later true ready none done
rounds_end line a b c p earlier later (Ok false) ready none done why =
    done_by line a b c p earlier later false ready none done
rounds_end line a b c p earlier later (Err s) ready none done why = undone line a b c p earlier later s ready none why

-- and what its rounds cost
pub rounds_spend :
    (line : Line) (a b c : World) (p : Plan) (earlier later : Work) (r : Result Bool Status)
    → IsPrepared line a b p → AsksNothing b c
    → IfOk r (IsCarriedOut (new_memo_of line) (workers_of line) p b c earlier later)
    → IfErr r (WhyUndone (new_memo_of line) (workers_of line) p b c earlier later)
    → RoundsSpend line a c earlier later (status_in r)
rounds_spend line a b c p earlier later (Ok true) ready none done why =
    spent_by line a b c p earlier later true ready none done
rounds_spend line a b c p earlier later (Ok false) ready none done why =
    spent_by line a b c p earlier later false ready none done
rounds_spend line a b c p earlier later (Err s) ready none done why =
    rounds_unspent (new_memo_of line) (workers_of line) p b c earlier later s
    (λ exits. (done : IsDone line exits a c) × SpendsTurns line a done.has earlier later) why
