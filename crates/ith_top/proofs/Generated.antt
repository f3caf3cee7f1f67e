-- How a `gen` command ends, from how its parts did.
use Rattle.std.proofs.Common.{◌≡◌, ◌+◌, ◌≤◌, ℕ, Bool, true, false, ◌&&◌, List, [], ◌∷◌, ◌++◌, length, map, Some, refl, sym, ap, subst, ◌∙◌, append_assoc, inl, inr, arith}
use Rattle.std.specs.Prelude.{All, if◌then◌else◌, codes, decimal, Ok, Err}
use Rattle.std.specs.List.{AllByRecursion, concat, list_all}
use Rattle.std.proofs.lemmas.List.{append-nil}
use Rattle.std.proofs.lemmas.List.Elements.{All-from_recursion}
use Rattle.machine_spec.specs.declared.TheConstants.{MOST_INPUT_BYTES}
use Rattle.machine_spec.specs.Machine.{Machine}
use Rattle.machine_spec.specs.Setup.{Setup, IsSetup}
use Rattle.report_spec.specs.Text.{line as text_line}
use Rattle.edit_spec.specs.Editing.{edited}
use Rattle.guest_gen.specs.declared.making.Generated.{Generated}
use Rattle.guest_gen.specs.Generated.{IsOf, input_of, list_of, edits_of, next_of}
use Rattle.guest_gen.proofs.Inputs.{length-input_of, edit-in_range}
use Rattle.guest_gen.proofs.Lists.{list-says}
use Rattle.report_spec.specs.Report.{no_extras}
use Rattle.rerun_spec.specs.Inputs.{Refusal, AreInputs, IsFirstRefused}
use Rattle.rerun_spec.proofs.Inputs.{inputs-count, inputs-unrefused}
use Rattle.rerun_spec.specs.Rounds.{Found, Round, Beginning, IsMade, IsWatched, nothing_asked, from_scratch, round_on, after_round, rounds_after}
use Rattle.rerun_spec.specs.Reports.{made_exits, all_made_exit}
use Rattle.rerun_spec.proofs.Rounds.{IsSoundlyMade, each-round, scratch-begins, round-machine}
use Rattle.round_report.specs.Short.{short_text, short_of, made_short}
use Rattle.ith_host.specs.World.{World, Stays, AsksNothing}
use Rattle.ith_words.specs.Words.{Generates, GenerateLine}
use Rattle.ith_commands.specs.declared.status.Status.{Status}
use Rattle.ith_commands.specs.declared.status.Status.TheVariants as status
use Rattle.ith_commands.specs.Contents.{Plan, IsGeneratedPlan}
use Rattle.ith_commands.specs.Statuses.{status_in}
use Rattle.ith_commands.specs.Ends.{Prints, HasRounds, IsGenerated, generated_text, Ends}
use Rattle.ith_commands.specs.Rounds.{rounds_of}
use Rattle.ith_commands.specs.Refusals.{WhyUnprinted}
use Rattle.ith_commands.specs.Counting.{Work, IsCounted, turns_for, MakesRounds, SpendsTurns, GenerateSpends}
use Rattle.ith_commands.specs.Playing.{AreFound, AreTheGenerated, CanBePlayed, CanBeEncoded}
use Rattle.ith_top.specs.Making.{IsMadeOn}
use Rattle.ith_top.specs.declared.report.Form.TheVariants as form
use Rattle.ith_commands.proofs.Worlds.{stays_same, none_fell_same}
use Rattle.ith_commands.proofs.Asking.{unbegun}
use Rattle.ith_commands.proofs.Printing.{in_part}
use Rattle.ith_top.proofs.Promises.{promised_from_scratch, promised_of, each_kept}

-- the line of a round that was soundly made is that of the machine from scratch
short_made : (workers : ℕ) (r : Round) → IsSoundlyMade workers r → made_short r ≡ short_of r
unfolding short_text
short_made workers r is = ap (λ (m : Machine). short_text r.number (record {
  ending = m.ending;
  schedule = [];
  extras = no_extras;
  instructions = 0;
  worker_steps = [];
  memory = m.memory;
  output = m.output;
})) (round-machine workers r is)

all_short :
    (workers : ℕ) (rounds : List Round) → AllByRecursion (IsSoundlyMade workers) rounds
    → map made_short rounds ≡ map short_of rounds
all_short workers [] each = refl
all_short workers (r ∷ rounds) each =
    ap (λ (text : List ℕ). text ∷ map made_short rounds) (short_made workers r each.0)
    ∙ ap (λ (texts : List (List ℕ)). short_of r ∷ texts) (all_short workers rounds each.1)

-- the lines of rounds from scratch
shorts_made :
    (workers : ℕ) (s : Setup) (p : Plan) (found : List Found)
    → p.beginning ≡ from_scratch s nothing_asked → CanBePlayed p → CanBeEncoded p → AreFound workers p found
    → map made_short (rounds_of p found) ≡ map short_of (rounds_of p found)
shorts_made workers s p found begins playable encoded are =
    let valid : IsSetup s = subst (λ (b : Beginning). IsSetup b.setup) begins encoded.valid in
    let made : All (IsMade workers) (rounds_after (from_scratch s nothing_asked) p.inputs found) =
    subst (λ (b : Beginning). All (IsMade workers) (rounds_after b p.inputs found)) begins are.made in
    subst (λ (b : Beginning). map made_short (rounds_after b p.inputs found) ≡ map short_of (rounds_after b p.inputs found))
    (sym begins)
    (all_short workers (rounds_after (from_scratch s nothing_asked) p.inputs found)
    (each-round (from_scratch s nothing_asked) p.inputs found workers (scratch-begins s nothing_asked valid) playable.short made))

-- the generated list of edits makes of the generated input the one after the edit
pub generated-inputs : (number : ℕ) → AreInputs (input_of number) (list_of number ∷ []) (input_of number ∷ next_of number ∷ [])
generated-inputs number =
    let done : edited (edits_of number) (input_of number) ≡ Ok (next_of number) =
    ap (λ (beyond : Bool). if beyond then Err 1 else Ok (next_of number)) (edit-in_range number) in
    (refl, (record { edits = edits_of number; said = list-says number; done = done }, tt))

-- so it isn't refused
pub generated-unrefused :
    (number : ℕ) (g : Generated) (first : List ℕ) (place : ℕ) (why : Refusal)
    → IsOf number g → first ≡ g.input.items → IsFirstRefused first (g.edits.items ∷ []) place why → ⊥
generated-unrefused number g first place why is same refused =
    let input : first ≡ input_of number = same ∙ is.input in
    let inputs : AreInputs first (g.edits.items ∷ []) (input_of number ∷ next_of number ∷ []) =
    subst (λ (i : List ℕ). AreInputs i (g.edits.items ∷ []) (input_of number ∷ next_of number ∷ [])) (sym input)
    (subst (λ (l : List ℕ). AreInputs (input_of number) (l ∷ []) (input_of number ∷ next_of number ∷ [])) (sym is.edits)
    (generated-inputs number)) in
    inputs-unrefused first (g.edits.items ∷ []) (input_of number ∷ next_of number ∷ []) place why inputs refused

pub generated-small : (number : ℕ) (g : Generated) → IsOf number g → length g.input.items ≤ MOST_INPUT_BYTES
generated-small number g is =
    let same : length g.input.items ≡ length (input_of number) = ap (λ (l : List ℕ). length l) is.input in
    let count = length-input_of number in omega arith

-- one list of edits makes one more input
one_more :
    (first list input next : List ℕ) (rest inputs : List (List ℕ))
    → inputs ≡ input ∷ next ∷ rest → AreInputs first (list ∷ []) inputs → inputs ≡ input ∷ next ∷ []
one_more first list input next [] inputs is are = is
one_more first list input next (more ∷ rest) inputs is are =
    let never : AreInputs first (list ∷ []) (input ∷ next ∷ more ∷ rest) = subst (AreInputs first (list ∷ [])) is are in
    absurd never.1.1

and-true : (b : Bool) → (b && true) ≡ b
and-true true = refl
and-true false = refl

-- two rounds, of which the second is based on the history of the first
record TwoRounds (workers : ℕ) (s : Setup) (input next : List ℕ) (t u : ℕ) (one other : List ℕ) (exit ended : Bool) : Type 0
  where
    pub first : Round
    pub second : Round
    pub found : List Found
    pub count : length found ≡ 2
    pub are : rounds_after (from_scratch s nothing_asked) (input ∷ next ∷ []) found ≡ first ∷ second ∷ []
    pub made_first : IsMade workers first
    pub made_second : IsMade workers second
    pub watched_first : IsWatched workers first
    pub watched_second : IsWatched workers second
    pub counted_first : IsCounted workers first
    pub counted_second : IsCounted workers second
    pub turns : u ≡ t + turns_for found
    pub lines : one ++ other ≡ concat (map made_short (first ∷ second ∷ []))
    pub exits : (exit && ended) ≡ list_all made_exits (first ∷ second ∷ [])

two_rounds :
    (workers : ℕ) (s : Setup) (input next : List ℕ) (t u o : ℕ) (one other : List ℕ) (exit ended : Bool)
    (after last : Beginning)
    → IsMadeOn workers form.Line (from_scratch s nothing_asked) input t u one exit after
    → IsMadeOn workers form.Line after next u o other ended last
    → TwoRounds workers s input next t o one other exit ended
two_rounds workers s input next t u o one other exit ended after last on on_next =
    let f = on.found in
    let on_second : IsMadeOn workers form.Line (after_round (from_scratch s nothing_asked) input f) next u o other ended last =
    subst (λ (b : Beginning). IsMadeOn workers form.Line b next u o other ended last) on.is_next on_next in
    let first : Round = round_on (from_scratch s nothing_asked) input f in
    let second : Round = round_on (after_round (from_scratch s nothing_asked) input f) next on_second.found in
    record {
      first = first;
      second = second;
      found = f ∷ on_second.found ∷ [];
      count = refl;
      are = refl;
      made_first = on.made;
      made_second = on_second.made;
      watched_first = on.watched;
      watched_second = on_second.watched;
      counted_first = on.counted;
      counted_second = on_second.counted;
      turns = let first = on.turns in let second = on_second.turns in omega arith;
      lines = ap (λ (l : List ℕ). l ++ other) on.is_text
          ∙ ap (λ (l : List ℕ). made_short first ++ l) (on_second.is_text ∙ sym (append-nil (made_short second)));
      exits = ap (λ (b : Bool). b && ended) on.is_exit
          ∙ ap (λ (b : Bool). made_exits first && b) (on_second.is_exit ∙ sym (and-true (made_exits second)));
    }

-- both rounds were made
pub both_generated :
    (workers number : ℕ) (p : Plan) (input next : List ℕ) (rest : List (List ℕ)) (one other text : List ℕ)
    (exit ended exits : Bool) (after last : Beginning) (earlier between later : Work)
    → later.rounds ≡ earlier.rounds + 2 → IsGeneratedPlan number p → CanBePlayed p → CanBeEncoded p → p.inputs ≡ input ∷ next ∷ rest
    → IsMadeOn workers form.Line p.beginning input earlier.turns between.turns one exit after
    → IsMadeOn workers form.Line after next between.turns later.turns other ended last
    → text ≡ text_line (codes "gen") (decimal number) ++ one ++ other
    → exits ≡ (exit && ended)
    → AreTheGenerated workers number earlier later text exits
unfolding all_made_exit
both_generated workers number p input next rest one other text exit ended exits after last earlier between later rise is playable encoded inputs on on_next reported ends =
    let s : Setup = p.beginning.setup in
    let begins : p.beginning ≡ from_scratch s nothing_asked =
    is.beginning ∙ ap (λ (t : Setup). from_scratch t nothing_asked) (sym (ap (λ (b : Beginning). b.setup) is.beginning)) in
    let all : p.inputs ≡ input ∷ next ∷ [] = one_more _ _ input next rest p.inputs inputs is.edited in
    let two : TwoRounds workers s input next earlier.turns later.turns one other exit ended =
    two_rounds workers s input next earlier.turns between.turns later.turns one other exit ended after last
    (subst (λ (b : Beginning). IsMadeOn workers form.Line b input earlier.turns between.turns one exit after) begins on)
    on_next in
    let rounds : rounds_of p two.found ≡ two.first ∷ two.second ∷ [] =
    ap (λ (l : List (List ℕ)). rounds_after p.beginning l two.found) all
    ∙ ap (λ (b : Beginning). rounds_after b (input ∷ next ∷ []) two.found) begins
    ∙ two.are in
    let count : length p.inputs ≡ 2 = ap (λ (l : List (List ℕ)). length l) all in
    let are : AreFound workers p two.found =
    record {
      few = let found = two.count in omega arith;
      made = subst (All (IsMade workers)) (sym rounds)
          (All-from_recursion (IsMade workers) (two.first ∷ two.second ∷ []) (two.made_first, (two.made_second, tt)));
      watched = subst (All (IsWatched workers)) (sym rounds)
          (All-from_recursion (IsWatched workers) (two.first ∷ two.second ∷ []) (two.watched_first, (two.watched_second, tt)));
      counted = subst (All (IsCounted workers)) (sym rounds)
          (All-from_recursion (IsCounted workers) (two.first ∷ two.second ∷ []) (two.counted_first, (two.counted_second, tt)));
    } in
    let promised = promised_from_scratch workers s nothing_asked p two.found begins playable encoded are in
    record {
      plan = p;
      is_plan = is;
      playable = playable;
      encoded = encoded;
      found = two.found;
      made = are;
      all = two.count ∙ sym count;
      rounds = let found = two.count in omega arith;
      turns = two.turns;
      is_text = reported
          ∙ append_assoc (text_line (codes "gen") (decimal number)) one other
          ∙ ap (λ (l : List ℕ). text_line (codes "gen") (decimal number) ++ l)
          (two.lines
          ∙ ap (λ (rs : List Round). concat (map made_short rs)) (sym rounds)
          ∙ ap (λ (texts : List (List ℕ)). concat texts) (shorts_made workers s p two.found begins playable encoded are));
      are_exits = sym promised.exits ∙ ap (list_all made_exits) rounds ∙ sym two.exits ∙ sym ends;
    }

has_generated : (line : GenerateLine) (a : World) (earlier later : Work) (text : List ℕ) (exits : Bool)
    → AreTheGenerated line.workers line.number earlier later text exits → HasRounds (Generates line) a
has_generated line a earlier later text exits is =
    record {
      plan = is.plan;
      is_plan = is.is_plan;
      found = is.found;
      few = is.made.few;
      made = is.made.made;
      watched = is.made.watched;
      promised = promised_of (Generates line) a is.plan is.found is.is_plan is.playable is.encoded is.made;
      kept = each_kept line.workers is.plan is.found is.playable is.encoded is.made;
    }

both_made :
    (line : GenerateLine) (earlier later : Work) (text : List ℕ) (exits : Bool)
    → AreTheGenerated line.workers line.number earlier later text exits → later.rounds ≡ earlier.rounds + 2
both_made line earlier later text exits is =
    let rounds = is.rounds in let all = is.all in
    let inputs = inputs-count (input_of line.number) (list_of line.number ∷ []) is.plan.inputs is.is_plan.edited in
    omega arith

-- the rounds were printed, and the counter rose by their turns
generated_by :
    (line : GenerateLine) (a b : World) (earlier later : Work) (text : List ℕ) (exits : Bool)
    → AsksNothing a b → AreTheGenerated line.workers line.number earlier later text exits → Prints a b text
    → (done : IsGenerated line exits a b) × SpendsTurns (Generates line) a done.has earlier later
unfolding has_generated
generated_by line a b earlier later text exits none is prints = (
  record {
    asked = none;
    has = has_generated line a earlier later text exits is;
    all = is.all;
    prints = subst (Prints a b) is.is_text prints;
    ends = is.are_exits;
  },
  record { counted = is.made.counted; turns = is.turns },
)

pub generate_spent :
    (line : GenerateLine) (a b : World) (earlier later : Work) (text : List ℕ) (exits : Bool)
    → AsksNothing a b → AreTheGenerated line.workers line.number earlier later text exits → Prints a b text
    → GenerateSpends line a b earlier later (status_in (Ok exits))
generate_spent line a b earlier later text true none is prints =
    generated_by line a b earlier later text true none is prints
generate_spent line a b earlier later text false none is prints =
    generated_by line a b earlier later text false none is prints

-- so the command line ends
pub generate_ends :
    (line : GenerateLine) (a b : World) (earlier later : Work) (exits : Bool)
    → GenerateSpends line a b earlier later (status_in (Ok exits)) → Ends (Some (Generates line)) a b (status_in (Ok exits))
generate_ends line a b earlier later true spent = inr spent.0
generate_ends line a b earlier later false spent = inr spent.0

-- and as many rounds were made as it requests
pub generate_made :
    (line : GenerateLine) (earlier later : Work) (text : List ℕ) (exits : Bool)
    → AreTheGenerated line.workers line.number earlier later text exits
    → MakesRounds (Generates line) earlier.rounds later.rounds (status_in (Ok exits))
generate_made line earlier later text true is = both_made line earlier later text true is
generate_made line earlier later text false is = both_made line earlier later text false is

pub unprinted_made :
    (line : GenerateLine) (text : List ℕ) (a b : World) (earlier later : Work) (s : Status)
    → later.rounds ≤ earlier.rounds + 2 → WhyUnprinted text a b s
    → MakesRounds (Generates line) earlier.rounds later.rounds s
unprinted_made line text a b earlier later status.WriteFault most why = most
unprinted_made line text a b earlier later status.NoMemory most why = most
unprinted_made line text a b earlier later _ most why = absurd why

-- the host's memory ran out
pub generate_cut : (line : GenerateLine) (a b : World) → AsksNothing a b → Stays a b
    → Ends (Some (Generates line)) a b status.NoMemory
generate_cut line a b none stays = inl (unbegun [] a b (none ∙ sym (append-nil a.asked)) stays)

-- not all was printed
pub generate_unprinted :
    (line : GenerateLine) (a b : World) (earlier later : Work) (text : List ℕ) (exits : Bool) (s : Status)
    → AsksNothing a b → AreTheGenerated line.workers line.number earlier later text exits → WhyUnprinted text a b s
    → Ends (Some (Generates line)) a b s
unfolding has_generated
generate_unprinted line a b earlier later text exits status.WriteFault none is why =
    let whole = generated_text line.number (rounds_of is.plan is.found) in
    let cause : WhyUnprinted whole a b status.WriteFault =
    subst (λ (l : List ℕ). WhyUnprinted l a b status.WriteFault) is.is_text why in
    inr
    (record {
      asked = none;
      has = has_generated line a earlier later text exits is;
      all = is.all;
      part = in_part whole a a b (stays_same a) (none_fell_same a) cause;
    })
generate_unprinted line a b earlier later text exits status.NoMemory none is why = generate_cut line a b none why
generate_unprinted line a b earlier later text exits _ none is why = absurd why
