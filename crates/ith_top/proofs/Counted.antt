-- How many rounds the workers of a command line made, from how its parts ended.
use Rattle.std.proofs.Common.{◌≡◌, ◌+◌, ◌≤◌, ℕ, suc, max, Bool, true, false, List, [], ◌∷◌, length, Option, refl, ◌∙◌, inl, inr, ap, arith}
use Rattle.std.specs.Prelude.{Result, Ok, Err, IfOk, IfErr}
use Rattle.rerun_spec.proofs.Inputs.{inputs-count, rerun-count}
use Rattle.ith_host.specs.World.{World}
use Rattle.ith_words.specs.Words.{Text, Line, Runs, Reruns, RunLine, RerunLine}
use Rattle.ith_commands.specs.declared.status.Status.{Status}
use Rattle.ith_commands.specs.declared.status.Status.TheVariants as status
use Rattle.ith_commands.specs.Contents.{AreLists, Plan, IsRunPlan, IsRerunPlan}
use Rattle.ith_commands.specs.Counting.{Work, MakesRounds, rounds_asked}
use Rattle.ith_commands.specs.Statuses.{status_in}
use Rattle.ith_commands.specs.Ends.{EndsEarly}
use Rattle.ith_commands.specs.Refusals.{WhyUndone}
use Rattle.ith_commands.specs.Playing.{IsCarriedOut}

-- there are as many contents of lists as names
lists_count : (a : World) (names : List Text) (lists : List (List ℕ)) → AreLists a names lists
    → length lists ≡ length names
lists_count a [] [] are = refl
lists_count a [] (list ∷ lists) are = absurd are
lists_count a (name ∷ names) [] are = absurd are
lists_count a (name ∷ names) (list ∷ lists) are = ap (λ (n : ℕ). suc n) (lists_count a names lists are.1)

-- a plan has as many inputs as the command line requests rounds
pub run_asked : (line : RunLine) (a : World) (p : Plan) → IsRunPlan line a p
    → length p.inputs ≡ rounds_asked (Runs line)
run_asked line a p is =
    let lists = lists_count a line.edits is.contents.lists is.read.contents.lists in
    let inputs = inputs-count is.contents.input is.contents.lists p.inputs is.edited in omega arith

pub rerun_asked : (line : RerunLine) (a : World) (p : Plan) → IsRerunPlan line a p
    → length p.inputs ≡ rounds_asked (Reruns line)
rerun_asked line a p is =
    rerun-count is.history.setup.input is.lists p.inputs is.edited
    ∙ ap (λ (n : ℕ). max 1 n) (lists_count a line.edits is.lists is.lists_read)

-- none was made
pub counted_none :
    (line : Line) (a b : World) (count : ℕ) (s : Status) → EndsEarly line a b s → MakesRounds line count count s
counted_none line a b count status.Image ends = refl
counted_none line a b count status.Memo ends = refl
counted_none line a b count status.EditList ends = refl
counted_none line a b count status.ReadFault ends = refl
counted_none line a b count status.NoMemory ends = omega arith
counted_none line a b count status.TooLarge ends = omega arith
counted_none line a b count _ ends = absurd ends

-- all were made
counted_all :
    (line : Line) (name : Option Text) (workers : ℕ) (p : Plan) (a b : World) (earlier later : Work) (exits : Bool)
    → length p.inputs ≡ rounds_asked line → IsCarriedOut name workers p a b earlier later exits
    → later.rounds ≡ earlier.rounds + rounds_asked line
counted_all line name workers p a b earlier later exits count done =
    let all = done.all in let rounds = done.rounds in omega arith

-- some were made
some_counted :
    (line : Line) (name : Option Text) (workers : ℕ) (p : Plan) (a b : World) (earlier later : Work) (s : Status)
    → length p.inputs ≡ rounds_asked line → WhyUndone name workers p a b earlier later s
    → later.rounds ≤ earlier.rounds + rounds_asked line
some_counted line name workers p a b earlier later s count why =
    elim why [
      | inl part ↦ (let most = part.most in omega arith)
      | inr after ↦ (let all = after.all in let rounds = after.rounds in omega arith)
    ]

counted_some :
    (line : Line) (name : Option Text) (workers : ℕ) (p : Plan) (a b : World) (earlier later : Work) (s : Status)
    → length p.inputs ≡ rounds_asked line → WhyUndone name workers p a b earlier later s
    → MakesRounds line earlier.rounds later.rounds s
counted_some line name workers p a b earlier later status.WriteFault count why =
    some_counted line name workers p a b earlier later status.WriteFault count why
counted_some line name workers p a b earlier later status.NoMemory count why =
    some_counted line name workers p a b earlier later status.NoMemory count why
counted_some line name workers p a b earlier later status.TooLarge count why =
    some_counted line name workers p a b earlier later status.TooLarge count why
counted_some line name workers p a b earlier later _ count why =
    elim why [ inl part ↦ absurd part.why | inr after ↦ absurd after.why ]

-- as many rounds were made as a command line requests if it is done, and no more if not
pub counted :
    (line : Line) (name : Option Text) (workers : ℕ) (p : Plan) (a b : World) (earlier later : Work) (r : Result Bool Status)
    → length p.inputs ≡ rounds_asked line → IfOk r (IsCarriedOut name workers p a b earlier later)
    → IfErr r (WhyUndone name workers p a b earlier later)
    → MakesRounds line earlier.rounds later.rounds (status_in r)
counted line name workers p a b earlier later (Ok true) count done why =
    counted_all line name workers p a b earlier later true count done
counted line name workers p a b earlier later (Ok false) count done why =
    counted_all line name workers p a b earlier later false count done
counted line name workers p a b earlier later (Err s) count done why =
    counted_some line name workers p a b earlier later s count why
