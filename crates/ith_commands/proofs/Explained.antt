-- How a `why` command ends.
use Rattle.std.proofs.Common.{◌≡◌, ◌+◌, ℕ, List, [], ◌∷◌, Option, Some, map, refl, sym, ap, subst, ◌∙◌}
use Rattle.std.proofs.lemmas.List.{append-nil}
use Rattle.machine_spec.specs.Setup.{Setup}
use Rattle.history_spec.specs.History.{History, IsSound}
use Rattle.round_spec.specs.Rounds.{RoundState}
use Rattle.rerun_spec.specs.Inputs.{AreRerunInputs}
use Rattle.rerun_spec.specs.Rounds.{nothing_asked, Beginning, limits_of, after_memo, with_input}
use Rattle.propagate.proofs.Executing.{alone-setup, alone-past}
use Rattle.round_report.specs.declared.why.reason.Reason.{Reason}
use Rattle.round_report.specs.Reasons.{reasons_of, reasons_by, scratch_before, executed_places, IsBasedOnOldRun}
use Rattle.propagate.specs.Executing.{executed_by}
use Rattle.ith_host.specs.World.{World, AsksNothing}
use Rattle.ith_words.specs.Words.{Text, Reruns, Explains, ExplainLine}
use Rattle.ith_commands.specs.declared.status.Status.{Status}
use Rattle.ith_commands.specs.declared.status.Status.TheVariants as status
use Rattle.ith_commands.specs.Files.{files_named}
use Rattle.ith_commands.specs.Contents.{Plan, AreLists, IsPlan, as_rerun}
use Rattle.ith_commands.specs.Rounds.{BeginsHonestly}
use Rattle.ith_commands.specs.Explaining.{explained_round, why_of}
use Rattle.ith_commands.specs.Ends.{Prints, HasReasons, text_of_reasons, IsExplained, EndsEarly, ExplainEnds, Ends}
use Rattle.ith_commands.specs.Counting.{ExplainSpends}
use Rattle.ith_commands.specs.Refusals.{WhyUnprinted}
use Rattle.ith_commands.specs.Playing.{plan_said, IsPrepared, IsFirstRound, GivesReasons, ReportsReasons}
use Rattle.ith_commands.specs.declared.plan.Plan.{Plan as Planned}
use Rattle.std.specs.Prelude.{Result, Ok, Err, IfOk}
use Rattle.ith_commands.proofs.Worlds.{stays_same}
use Rattle.ith_commands.proofs.OneText.{reported, unstated}

-- the host's memory ran out before a read was requested
pub explain_unasked : (line : ExplainLine) (a : World) → EndsEarly (Explains line) a a status.NoMemory
explain_unasked line a =
    record {
      asked = record {
        first = [];
        later = files_named (Explains line);
        are = refl;
        asked = sym (append-nil a.asked);
      };
      stays = stays_same a;
    }

-- the plan of the rerun that a `why` command explains is the command's
pub explain_prepared :
    (line : ExplainLine) (a b : World) (r : Result Planned Status)
    → IfOk r (λ p. IsPrepared (Reruns (as_rerun line)) a b (plan_said p))
    → IfOk r (λ p. IsPrepared (Explains line) a b (plan_said p))
explain_prepared line a b (Ok p) ready =
    record { is = ready.is; playable = ready.playable; encoded = ready.encoded; reads = ready.reads }
explain_prepared line a b (Err s) ready = ready

-- the reasons of a round that one worker made are those of the round that is explained
pub reasons_reported :
    (p : Plan) (w : RoundState) (text : List ℕ) → IsFirstRound p w → GivesReasons w text → ReportsReasons p text
reasons_reported p w text one gives =
    let s : Setup = with_input p.beginning.setup one.input in
    let setup : w.setup ≡ s = alone-setup s p.beginning.past w one.is in
    let past : w.past ≡ p.beginning.past = alone-past s p.beginning.past w one.is in
    let same : reasons_of w ≡ reasons_of (explained_round p.beginning one.input) = ap reasons_of one.is in
    record {
      input = one.input;
      later = one.later;
      first = one.first;
      is_text = gives.is_text ∙ ap why_of one.is;
      each = λ goes.
          let at : IsBasedOnOldRun w.past w.setup =
          subst (λ (t : Setup). IsBasedOnOldRun w.past t) (sym setup)
          (subst (λ (o : Option History). IsBasedOnOldRun o s) (sym past) goes) in
          ap (map (λ (r : Reason). r.step)) (sym same) ∙ gives.each at
          ∙ ap (λ (x : RoundState). executed_places x.schedule) one.is;
      scratch = λ sound.
          let at : IsSound w.past w.setup =
          subst (λ (t : Setup). IsSound w.past t) (sym setup)
          (subst (λ (o : Option History). IsSound o s) (sym past) sound) in
          sym same ∙ gives.scratch at ∙ ap (λ (x : RoundState). reasons_by (scratch_before x) x) one.is;
    }

-- and what it cost is what the first round costs
pub first_cost :
    (p : Plan) (w : RoundState) (before after : ℕ) (input : List ℕ) (later : List (List ℕ))
    → IsFirstRound p w → after ≡ before + executed_by w → p.inputs ≡ input ∷ later
    → after ≡ before + executed_by (explained_round p.beginning input)
first_cost p w before after input later one cost are =
    let both : one.input ∷ one.later ≡ input ∷ later = sym one.first ∙ are in
    let same : one.input ≡ input = cc in
    cost
    ∙ ap (λ (x : RoundState). before + executed_by x) (one.is ∙ ap (explained_round p.beginning) same)

-- one list makes one input
one_input :
    (a : World) (name : Text) (lists : List (List ℕ)) (first : List ℕ) (inputs : List (List ℕ)) (input : List ℕ)
    (later : List (List ℕ))
    → AreLists a (name ∷ []) lists → AreRerunInputs first lists inputs → inputs ≡ input ∷ later → inputs ≡ input ∷ []
one_input a name [] first inputs input later reported edited is = absurd reported
one_input a name (list ∷ more ∷ lists) first inputs input later reported edited is = absurd reported.1
one_input a name (list ∷ []) first [] input later reported edited is = absurd edited
one_input a name (list ∷ []) first (next ∷ other ∷ inputs) input later reported edited is = absurd edited.1
one_input a name (list ∷ []) first (next ∷ []) input later reported edited is = let same : next ≡ input = cc in rw same refl

-- the reasons of a `why` command
explained_by : (line : ExplainLine) (a : World) (p : Plan) (text : List ℕ) → IsPlan (Explains line) a p
    → ReportsReasons p text → HasReasons line a
explained_by line a p text is tells =
    let h = is.history in
    let goes : IsBasedOnOldRun p.beginning.past (with_input p.beginning.setup tells.input) =
    subst (λ (b : Beginning). IsBasedOnOldRun b.past (with_input b.setup tells.input)) (sym is.beginning)
    (record { coherent = is.accepted.coherent; program = refl; fuel = refl }) in
    record {
      plan = p;
      is_plan = is;
      input = tells.input;
      one = one_input a line.edits is.lists h.setup.input p.inputs tells.input tells.later is.lists_read is.edited
          tells.first;
      are = record {
        each = tells.each goes;
        scratch = λ honest.
            let begins : BeginsHonestly (after_memo h (limits_of h.setup) nothing_asked) =
            subst (λ (b : Beginning). BeginsHonestly b) is.beginning honest in
            tells.scratch
            (subst (λ (b : Beginning). IsSound b.past (with_input b.setup tells.input)) (sym is.beginning)
            (begins, refl));
      };
    }

-- how a `why` command ends if the reasons were made
pub explained_ends :
    (line : ExplainLine) (a b c : World) (p : Plan) (text : List ℕ)
    → IsPrepared (Explains line) a b p → ReportsReasons p text → AsksNothing b c → Prints b c text → IsExplained line a c
unfolding explained_by
explained_ends line a b c p text ready tells none prints =
    reported (Explains line) (HasReasons line a) (text_of_reasons line a) (explained_by line a p text ready.is tells) a b c
    ready.reads none (subst (Prints b c) tells.is_text prints)

-- and the counter rose by the turns of its executed steps
pub explained_spent :
    (line : ExplainLine) (a b c : World) (p : Plan) (text : List ℕ) (before after : ℕ)
    → IsPrepared (Explains line) a b p → ReportsReasons p text → AsksNothing b c → Prints b c text
    → ((input : List ℕ) (later : List (List ℕ)) → p.inputs ≡ input ∷ later
    → after ≡ before + executed_by (explained_round p.beginning input))
    → ExplainSpends line a c before after status.Finished
unfolding explained_by explained_ends
explained_spent line a b c p text before after ready tells none prints cost =
    (explained_ends line a b c p text ready tells none prints, cost tells.input tells.later tells.first)

-- the text wasn't printed whole
pub unexplained :
    (line : ExplainLine) (a b c : World) (p : Plan) (text : List ℕ) (s : Status)
    → IsPrepared (Explains line) a b p → ReportsReasons p text → AsksNothing b c → WhyUnprinted text b c s
    → Ends (Some (Explains line)) a c s
unfolding explained_by
unexplained line a b c p text s ready tells none why =
    unstated (Explains line) (HasReasons line a) (text_of_reasons line a) (explained_by line a p text ready.is tells)
    (λ s. ExplainEnds line a c s) a b c s ready.reads none (λ part. part)
    (subst (λ (l : List ℕ). WhyUnprinted l b c s) tells.is_text why)
