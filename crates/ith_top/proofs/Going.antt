-- Rounds that are being made: those so far were printed, and the others are still to come.
use Rattle.std.proofs.Common.{◌≡◌, ◌+◌, ◌≤◌, ℕ, suc, Bool, true, false, ◌&&◌, List, [], ◌∷◌, ◌++◌, length, take, map, slice_get, Some, refl, ap, sym, subst, ◌∙◌, append_assoc, arith}
use Rattle.std.specs.Prelude.{All}
use Rattle.std.specs.List.{AllByRecursion, concat, list_all}
use Rattle.std.proofs.lemmas.List.{append-nil, map_push, map-append}
use Rattle.std.proofs.lemmas.List.Folds.{list_all-append}
use Rattle.std.proofs.lemmas.List.Sums.{sum_by_push}
use Rattle.std.proofs.lemmas.List.Elements.{All-from_recursion, recursion_from_All}
use Rattle.machine_spec.specs.declared.TheConstants.{MOST_INPUT_BYTES}
use Rattle.history_spec.specs.History.{History}
use Rattle.rerun_spec.specs.Inputs.{AreShort}
use Rattle.rerun_spec.specs.Rounds.{Found, Round, Beginning, IsMade, IsWatched, round_on, after_round, rounds_after, after_rounds, history_at}
use Rattle.rerun_spec.specs.Reports.{made_report, made_reports, made_exits, all_made_exit}
use Rattle.ith_host.specs.World.{World, NoneFell, AsksNothing}
use Rattle.ith_top.specs.declared.report.Form.TheVariants as form
use Rattle.ith_commands.specs.declared.status.Status.{Status}
use Rattle.ith_commands.specs.declared.status.Status.TheVariants as status
use Rattle.ith_commands.specs.Ends.{Prints}
use Rattle.ith_commands.specs.Contents.{Plan}
use Rattle.ith_commands.specs.Refusals.{WhyUnprinted, IsPlayedInPart}
use Rattle.ith_commands.specs.Counting.{Work, IsCounted, turns_for}
use Rattle.ith_commands.specs.Playing.{AreFound, IsPlayed}
use Rattle.ith_top.specs.Making.{IsMadeOn}
use Rattle.ith_commands.proofs.Worlds.{none_fell_trans, rose_before}
use Rattle.ith_commands.proofs.Printing.{prints_none, prints_both, prints_then}

-- the rounds so far were made and printed, and the counter rose by their turns, from one number to the other; and those
-- to come, whatever is found of them, begin where the last one ended
pub record IsGoing (b : Beginning) (workers : ℕ) (inputs : List (List ℕ)) (a w : World) (t u : ℕ) (now : Beginning)
    (rest : List (List ℕ)) (exit : Bool) : Type 0 where
  pub found : List Found
  pub done : List Round
  pub count : length found + length rest ≡ length inputs
  pub rounds : (more : List Found) → rounds_after b inputs (found ++ more) ≡ done ++ rounds_after now rest more
  pub last : (more : List Found) → after_rounds b inputs (found ++ more) ≡ after_rounds now rest more
  pub made : AllByRecursion (IsMade workers) done
  pub watched : AllByRecursion (IsWatched workers) done
  pub counted : AllByRecursion (IsCounted workers) done
  pub turns : u ≡ t + turns_for found
  pub prints : Prints a w (concat (map made_report done))
  pub ended : exit ≡ list_all made_exits done
  pub counts : NoneFell a w
  pub asked : AsksNothing a w

concat-more : (texts : List (List ℕ)) (text : List ℕ) → concat (texts ++ text ∷ []) ≡ concat texts ++ text
concat-more [] text = append-nil text
concat-more (t ∷ texts) text = ap (λ (l : List ℕ). t ++ l) (concat-more texts text)
    ∙ sym (append_assoc t (concat texts) text)

and-true : (b : Bool) → (b && true) ≡ b
and-true true = refl
and-true false = refl

take-front : (front back : List (List ℕ)) → take (length front) (front ++ back) ≡ front
take-front [] back = refl
take-front (x ∷ front) back = ap (λ (l : List (List ℕ)). x ∷ l) (take-front front back)

get-next : (front : List (List ℕ)) (next : List ℕ) (back : List (List ℕ))
    → slice_get (front ++ next ∷ back) (length front) ≡ Some next
get-next [] next back = refl
get-next (x ∷ front) next back = get-next front next back

-- after the last round, no input remains
pub none_left : (rest : List (List ℕ)) (place all : ℕ) → place + length rest ≡ all → all ≤ place → rest ≡ []
none_left [] place all count past = refl
none_left (input ∷ rest) place all count past = let no : ⊥ = omega arith in absurd no

-- the plan of a beginning and inputs
abbrev of_line : Beginning → List (List ℕ) → Plan
of_line b inputs = record { beginning = b; inputs = inputs }

none-after : (b : Beginning) (inputs : List (List ℕ)) → rounds_after b inputs [] ≡ []
none-after b [] = refl
none-after b (input ∷ inputs) = refl

same-after : (b : Beginning) (inputs : List (List ℕ)) → after_rounds b inputs [] ≡ b
same-after b [] = refl
same-after b (input ∷ inputs) = refl

-- before the first round
pub going_start :
    (b now : Beginning) (workers : ℕ) (inputs : List (List ℕ)) (a : World) (t : ℕ)
    → now ≡ b → NoneFell a a → IsGoing b workers inputs a a t t now inputs true
going_start b now workers inputs a t first counts =
    rw first
    (record {
      found = [];
      done = [];
      count = omega arith;
      rounds = λ more. refl;
      last = λ more. refl;
      made = tt;
      watched = tt;
      counted = tt;
      turns = omega arith;
      prints = prints_none a;
      ended = refl;
      counts = counts;
      asked = refl;
    })

-- the rounds so far are those of what was found so far
going-rounds :
    (b : Beginning) (workers : ℕ) (inputs : List (List ℕ)) (a w : World) (t u : ℕ) (now : Beginning) (rest : List (List ℕ))
    (exit : Bool) (going : IsGoing b workers inputs a w t u now rest exit)
    → rounds_after b inputs going.found ≡ going.done
going-rounds b workers inputs a w t u now rest exit going =
    ap (rounds_after b inputs) (sym (append-nil going.found))
    ∙ going.rounds []
    ∙ ap (λ (rs : List Round). going.done ++ rs) (none-after now rest)
    ∙ append-nil going.done

going-after :
    (b : Beginning) (workers : ℕ) (inputs : List (List ℕ)) (a w : World) (t u : ℕ) (now : Beginning) (rest : List (List ℕ))
    (exit : Bool) (going : IsGoing b workers inputs a w t u now rest exit)
    → after_rounds b inputs going.found ≡ now
going-after b workers inputs a w t u now rest exit going =
    ap (after_rounds b inputs) (sym (append-nil going.found)) ∙ going.last [] ∙ same-after now rest

-- and so are their texts
going-texts :
    (b : Beginning) (workers : ℕ) (inputs : List (List ℕ)) (a w : World) (t u : ℕ) (now : Beginning) (rest : List (List ℕ))
    (exit : Bool) (going : IsGoing b workers inputs a w t u now rest exit)
    → made_reports (rounds_after b inputs going.found) ≡ map made_report going.done
unfolding made_reports
going-texts b workers inputs a w t u now rest exit going =
    ap (map made_report) (going-rounds b workers inputs a w t u now rest exit going)

going-found :
    (b : Beginning) (workers : ℕ) (inputs : List (List ℕ)) (a w : World) (t u : ℕ) (now : Beginning) (rest : List (List ℕ))
    (exit : Bool) (going : IsGoing b workers inputs a w t u now rest exit)
    → AreFound workers (of_line b inputs) going.found
going-found b workers inputs a w t u now rest exit going =
    record {
      few = let count = going.count in omega arith;
      made = subst (All (IsMade workers)) (sym (going-rounds b workers inputs a w t u now rest exit going))
          (All-from_recursion (IsMade workers) going.done going.made);
      watched = subst (All (IsWatched workers)) (sym (going-rounds b workers inputs a w t u now rest exit going))
          (All-from_recursion (IsWatched workers) going.done going.watched);
      counted = subst (All (IsCounted workers)) (sym (going-rounds b workers inputs a w t u now rest exit going))
          (All-from_recursion (IsCounted workers) going.done going.counted);
    }

all-more :
    (fact : Round → Type 0) (rounds : List Round) (r : Round) → AllByRecursion fact rounds → fact r
    → AllByRecursion fact (rounds ++ r ∷ [])
all-more fact [] r all one = (one, tt)
all-more fact (first ∷ rounds) r all one = (all.0, all-more fact rounds r all.1 one)

-- what is known of the next round before it is printed
record HasNext (b : Beginning) (workers : ℕ) (inputs : List (List ℕ)) (now : Beginning) (input : List ℕ)
    (rest : List (List ℕ)) (found : List Found) (done : List Round) (f : Found) : Type 0 where
  pub count : length (found ++ f ∷ []) + length rest ≡ length inputs
  pub rounds : (more : List Found) → rounds_after b inputs ((found ++ f ∷ []) ++ more)
      ≡ (done ++ round_on now input f ∷ []) ++ rounds_after (after_round now input f) rest more
  pub last : (more : List Found) → after_rounds b inputs ((found ++ f ∷ []) ++ more)
      ≡ after_rounds (after_round now input f) rest more
  pub made : AllByRecursion (IsMade workers) (done ++ round_on now input f ∷ [])
  pub watched : AllByRecursion (IsWatched workers) (done ++ round_on now input f ∷ [])
  pub counted : AllByRecursion (IsCounted workers) (done ++ round_on now input f ∷ [])

length-more : (found : List Found) (f : Found) (n : ℕ) → length (found ++ f ∷ []) + n ≡ length found + suc n
length-more [] f n = omega arith
length-more (g ∷ found) f n = let rest = length-more found f n in omega arith

turns-more : (found : List Found) (f : Found) → turns_for (found ++ f ∷ []) ≡ turns_for found + f.turns
turns-more found f = sum_by_push (λ g. g.turns) found f

has-next :
    (b : Beginning) (workers : ℕ) (inputs : List (List ℕ)) (a w : World) (t u : ℕ) (now : Beginning) (input : List ℕ)
    (rest : List (List ℕ)) (exit : Bool) (going : IsGoing b workers inputs a w t u now (input ∷ rest) exit) (f : Found)
    → IsMade workers (round_on now input f)
    → IsWatched workers (round_on now input f)
    → IsCounted workers (round_on now input f)
    → HasNext b workers inputs now input rest going.found going.done f
has-next b workers inputs a w t u now input rest exit going f made watched counted =
    let more_found = λ (more : List Found). append_assoc going.found (f ∷ []) more in
    record {
      count = let more = length-more going.found f (length rest) in let count = going.count in omega arith;
      rounds = λ more. ap (rounds_after b inputs) (more_found more)
          ∙ going.rounds (f ∷ more)
          ∙ sym (append_assoc going.done (round_on now input f ∷ [])
          (rounds_after (after_round now input f) rest more));
      last = λ more. ap (after_rounds b inputs) (more_found more) ∙ going.last (f ∷ more);
      made = all-more (IsMade workers) going.done (round_on now input f) going.made made;
      watched = all-more (IsWatched workers) going.done (round_on now input f) going.watched watched;
      counted = all-more (IsCounted workers) going.done (round_on now input f) going.counted counted;
    }

-- the next round was made and printed
pub going_next :
    (b : Beginning) (workers : ℕ) (inputs : List (List ℕ)) (a w v : World) (t u o : ℕ) (now next : Beginning)
    (input : List ℕ) (rest : List (List ℕ)) (exit : Bool) (text : List ℕ) (ended : Bool)
    → IsGoing b workers inputs a w t u now (input ∷ rest) exit
    → IsMadeOn workers form.Report now input u o text ended next
    → Prints w v text → NoneFell w v → AsksNothing w v
    → IsGoing b workers inputs a v t o next rest (exit && ended)
going_next b workers inputs a w v t u o now next input rest exit text ended going one prints counts asked =
    let f = one.found in
    let r = round_on now input f in
    let has = has-next b workers inputs a w t u now input rest exit going f one.made one.watched one.counted in
    let before = concat (map made_report going.done) in
    let printed : Prints a v (before ++ text) = prints_both a w v before text going.prints prints in
    let texts_are : concat (map made_report (going.done ++ r ∷ [])) ≡ before ++ text =
    ap concat (map_push made_report going.done r) ∙ concat-more (map made_report going.done) (made_report r)
    ∙ ap (λ (l : List ℕ). before ++ l) (sym one.is_text) in
    let all : list_all made_exits (going.done ++ r ∷ []) ≡ (exit && ended) =
    list_all-append made_exits going.done (r ∷ [])
    ∙ ap (λ (c : Bool). list_all made_exits going.done && c) (and-true (made_exits r) ∙ sym one.is_exit)
    ∙ ap (λ (c : Bool). c && ended) (sym going.ended) in
    rw one.is_next
    (record {
      found = going.found ++ f ∷ [];
      done = going.done ++ r ∷ [];
      count = has.count;
      rounds = has.rounds;
      last = has.last;
      made = has.made;
      watched = has.watched;
      counted = has.counted;
      turns = let so_far = going.turns in let rise = one.turns in let more = turns-more going.found f in omega arith;
      prints = subst (Prints a v) (sym texts_are) printed;
      ended = sym all;
      counts = none_fell_trans a w v going.counts counts;
      asked = asked ∙ going.asked;
    })

-- all were made and printed, and the later rounds would be based on the last one's history
pub going_played :
    (b : Beginning) (workers : ℕ) (inputs : List (List ℕ)) (a w : World) (now : Beginning) (rest : List (List ℕ))
    (exit : Bool) (left : History) (earlier later : Work)
    → rest ≡ [] → now.past ≡ Some left → IsGoing b workers inputs a w earlier.turns later.turns now rest exit
    → later.rounds + length rest ≡ earlier.rounds + length inputs
    → IsPlayed workers (of_line b inputs) a w earlier later exit left
unfolding all_made_exit
going_played b workers inputs a w now rest exit left earlier later none past going count =
    let rounds = going-rounds b workers inputs a w earlier.turns later.turns now rest exit going in
    let is : history_at now ≡ left = rw past refl in
    record {
      found = going.found;
      made = going-found b workers inputs a w earlier.turns later.turns now rest exit going;
      all = let count = rw none at going.count in omega arith;
      rounds = let rounds = going.count in omega arith;
      turns = going.turns;
      prints = subst (λ (texts : List (List ℕ)). Prints a w (concat texts))
          (sym (going-texts b workers inputs a w earlier.turns later.turns now rest exit going)) going.prints;
      are_exits = ap (list_all made_exits) rounds ∙ sym going.ended;
      is_last = sym is ∙ ap history_at (sym (going-after b workers inputs a w earlier.turns later.turns now rest exit going));
    }

-- no other round was made
pub going_cut :
    (b : Beginning) (workers : ℕ) (inputs : List (List ℕ)) (a w : World) (t u : ℕ) (now : Beginning)
    (rest : List (List ℕ)) (exit : Bool) (earlier later : Work)
    → IsGoing b workers inputs a w t u now rest exit
    → later.rounds + length rest ≤ earlier.rounds + length inputs + 1 → later.rounds ≤ earlier.rounds + length inputs
    → IsPlayedInPart workers (of_line b inputs) a w earlier later status.NoMemory
going_cut b workers inputs a w t u now rest exit earlier later going count most =
    record {
      found = going.found;
      made = going-found b workers inputs a w t u now rest exit going;
      rounds = let found = going.count in omega arith;
      most = most;
      why = subst (λ (texts : List (List ℕ)). Prints a w (concat texts))
          (sym (going-texts b workers inputs a w t u now rest exit going)) going.prints;
    }

next-rounds :
    (b : Beginning) (workers : ℕ) (inputs : List (List ℕ)) (now : Beginning) (input : List ℕ)
    (rest : List (List ℕ)) (found : List Found) (done : List Round) (f : Found)
    → HasNext b workers inputs now input rest found done f
    → rounds_after b inputs (found ++ f ∷ []) ≡ done ++ round_on now input f ∷ []
next-rounds b workers inputs now input rest found done f has =
    ap (rounds_after b inputs) (sym (append-nil (found ++ f ∷ [])))
    ∙ has.rounds []
    ∙ ap (λ (rs : List Round). (done ++ round_on now input f ∷ []) ++ rs)
    (none-after (after_round now input f) rest)
    ∙ append-nil (done ++ round_on now input f ∷ [])

texts-are :
    (b : Beginning) (inputs : List (List ℕ)) (found : List Found) (done : List Round) (r : Round)
    → rounds_after b inputs found ≡ done ++ r ∷ []
    → made_reports (rounds_after b inputs found) ≡ map made_report done ++ made_report r ∷ []
unfolding made_reports
texts-are b inputs found done r are = ap (map made_report) are ∙ map-append made_report done (r ∷ [])

-- the next text wasn't printed
pub going_unprinted :
    (b : Beginning) (workers : ℕ) (inputs : List (List ℕ)) (a w v : World) (t u o : ℕ) (now : Beginning)
    (input : List ℕ) (rest : List (List ℕ)) (exit : Bool) (text : List ℕ) (ended : Bool) (next : Beginning)
    (earlier later : Work) (why : Status)
    → IsGoing b workers inputs a w t u now (input ∷ rest) exit
    → IsMadeOn workers form.Report now input u o text ended next
    → later.rounds + length (input ∷ rest) ≤ earlier.rounds + length inputs + 1
    → later.rounds ≤ earlier.rounds + length inputs
    → WhyUnprinted text w v why → IsPlayedInPart workers (of_line b inputs) a v earlier later why
going_unprinted b workers inputs a w v t u o now input rest exit text ended next earlier later status.WriteFault going one count most cause =
    let f = one.found in
    let r = round_on now input f in
    let has = has-next b workers inputs a w t u now input rest exit going f one.made one.watched one.counted in
    let texts = map made_report going.done in
    let rounds : rounds_after b inputs (going.found ++ f ∷ []) ≡ going.done ++ r ∷ [] =
    next-rounds b workers inputs now input rest going.found going.done f has in
    let are : made_reports (rounds_after b inputs (going.found ++ f ∷ [])) ≡ texts ++ made_report r ∷ [] =
    texts-are b inputs (going.found ++ f ∷ []) going.done r rounds in
    let front : take (length texts) (made_reports (rounds_after b inputs (going.found ++ f ∷ []))) ≡ texts =
    ap (take (length texts)) are ∙ take-front texts (made_report r ∷ []) in
    let printed : Prints a v (concat texts ++ take cause.1.0 text) =
    prints_both a w v (concat texts) (take cause.1.0 text) going.prints cause.1.1 in
    record {
      found = going.found ++ f ∷ [];
      made = record {
        few = let count = has.count in omega arith;
        made = subst (All (IsMade workers)) (sym rounds)
            (All-from_recursion (IsMade workers) (going.done ++ r ∷ []) has.made);
        watched = subst (All (IsWatched workers)) (sym rounds)
            (All-from_recursion (IsWatched workers) (going.done ++ r ∷ []) has.watched);
        counted = subst (All (IsCounted workers)) (sym rounds)
            (All-from_recursion (IsCounted workers) (going.done ++ r ∷ []) has.counted);
      };
      rounds = let found = has.count in omega arith;
      most = most;
      why = record {
        cause = rose_before _ _ _ going.counts.prints cause.0;
        whole = length texts;
        next = text;
        is_next = ap (λ (ts : List (List ℕ)). slice_get ts (length texts)) are
            ∙ get-next texts (made_report r) [] ∙ ap (λ (t : List ℕ). Some t) (sym one.is_text);
        count = cause.1.0;
        prints = subst (λ (ts : List (List ℕ)). Prints a v (concat ts ++ take cause.1.0 text)) (sym front) printed;
      };
    }
going_unprinted b workers inputs a w v t u o now input rest exit text ended next earlier later status.NoMemory going one count most cause =
    let part = going_cut b workers inputs a w t u now (input ∷ rest) exit earlier later going count most in
    record {
      found = part.found;
      made = part.made;
      rounds = part.rounds;
      most = part.most;
      why = prints_then a w v _ part.why cause;
    }
going_unprinted b workers inputs a w v t u o now input rest exit text ended next earlier later _ going one count most cause =
    absurd cause

-- if all inputs are short, so is the first, and so are the others
pub short_first : (input : List ℕ) (rest : List (List ℕ)) → AreShort (input ∷ rest) → length input ≤ MOST_INPUT_BYTES
short_first input rest short = (recursion_from_All (λ i. length i ≤ MOST_INPUT_BYTES) (input ∷ rest) short).0

pub short_rest : (input : List ℕ) (rest : List (List ℕ)) → AreShort (input ∷ rest) → AreShort rest
short_rest input rest short =
    All-from_recursion (λ i. length i ≤ MOST_INPUT_BYTES) rest
    (recursion_from_All (λ i. length i ≤ MOST_INPUT_BYTES) (input ∷ rest) short).1
