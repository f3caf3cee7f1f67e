-- The plan of a command line, from the contents of its files.
use Rattle.std.proofs.Common.{◌≡◌, ◌<◌, ◌≤◌, ◌^◌, ◌==◌, ℕ, true, false, List, [], ◌∷◌, Vec, length, refl, sym, ap, ◌∙◌, subst, arith}
use Rattle.std.specs.Global.{Global}
use Rattle.std.specs.List.{AllByRecursion}
use Rattle.std.proofs.lemmas.List.{length-map}
use Rattle.std.proofs.lemmas.List.Elements.{All-from_recursion}
use Rattle.machine_spec.specs.declared.TheConstants.{MOST_INPUT_BYTES}
use Rattle.machine_spec.specs.Limits.{Limits, AreLimits}
use Rattle.machine_spec.specs.Setup.{Setup, IsSetup}
use Rattle.history_spec.specs.History.{History}
use Rattle.memo_spec.specs.Encoding.{AreBytes}
use Rattle.edit_spec.proofs.Bytes.{bytes_of_bytes}
use Rattle.rerun_spec.specs.Inputs.{AreMade, AreInputs, AreRerunInputs}
use Rattle.rerun_spec.specs.Rounds.{Beginning, asked_by, from_scratch, after_memo, with_limits}
use Rattle.rerun_spec.specs.declared.Asked.{Asked}
use Rattle.rerun_spec.proofs.Inputs.{inputs-count, inputs-short, rerun-count, rerun-short}
use Rattle.rerun_spec.proofs.Rounds.{with-limits}
use Rattle.edit_list.specs.Lists.{bytes_of_each}
use Rattle.ith_host.specs.World.{World}
use Rattle.ith_words.specs.Words.{RunLine, RerunLine}
use Rattle.ith_commands.specs.Contents.{Contents, AreLists, AreContents, IsMemoContent, IsMemoOf, Plan, IsRunPlan, IsRerunPlan, setup_of, limits_for}
use Rattle.propagate.specs.Consistency.{IsOfMap}
use Rattle.propagate.proofs.Mapped.{same_image}
use Rattle.rerun_spec.specs.Encoded.{IsEncodedPast}
use Rattle.ith_commands.specs.Playing.{CanBePlayed, CanBeEncoded}

-- the inputs of a rerun, without the first one if there is a list
pub rerun_edited :
    (first : List ℕ) (vectors : List (Vec ℕ Global)) (inputs later : List (List ℕ)) (input : List ℕ)
    → AreInputs first (bytes_of_each vectors) inputs → inputs ≡ input ∷ later → (length vectors == 0) ≡ false
    → AreRerunInputs first (bytes_of_each vectors) later
rerun_edited first [] inputs later input made is some = absurd (let no : true ≡ false = some in cc)
rerun_edited first (v ∷ vectors) inputs later input made is some =
    let whole : AreInputs first (bytes_of_each (v ∷ vectors)) (input ∷ later) =
    subst (AreInputs first (bytes_of_each (v ∷ vectors))) is made in
    whole.1

pub rerun_unedited :
    (first : List ℕ) (vectors : List (Vec ℕ Global)) (inputs : List (List ℕ))
    → AreInputs first (bytes_of_each vectors) inputs → length vectors ≡ 0
    → AreRerunInputs first (bytes_of_each vectors) inputs
rerun_unedited first (v ∷ vectors) inputs made none = absurd (omega (arith, none))
rerun_unedited first [] [] made none = absurd made
rerun_unedited first [] (input ∷ []) made none = ap (λ (i : List ℕ). i ∷ []) made.0
rerun_unedited first [] (input ∷ next ∷ inputs) made none = absurd made.1

-- inputs that edit lists make of bytes are bytes
made_bytes : (lists : List (List ℕ)) (input : List ℕ) (inputs : List (List ℕ)) → AreBytes input
    → AreMade input lists inputs → AllByRecursion AreBytes inputs
made_bytes [] input [] bytes made = tt
made_bytes [] input (next ∷ inputs) bytes made = absurd made
made_bytes (list ∷ lists) input [] bytes made = absurd made
made_bytes (list ∷ lists) input (next ∷ inputs) bytes made =
    let here : AreBytes next = bytes_of_bytes list input next made.0.edits made.0.said made.0.done bytes in
    (here, made_bytes lists next inputs here made.1)

inputs_bytes : (lists : List (List ℕ)) (input : List ℕ) (inputs : List (List ℕ)) → AreBytes input
    → AreInputs input lists inputs → AllByRecursion AreBytes inputs
inputs_bytes lists input [] bytes are = absurd are
inputs_bytes lists input (first ∷ inputs) bytes are =
    (subst AreBytes (sym are.0) bytes, made_bytes lists input inputs bytes are.1)

rerun_bytes : (lists : List (List ℕ)) (input : List ℕ) (inputs : List (List ℕ)) → AreBytes input
    → AreRerunInputs input lists inputs → AllByRecursion AreBytes inputs
rerun_bytes [] input inputs bytes are = subst (AllByRecursion AreBytes) (sym are) (bytes, tt)
rerun_bytes (list ∷ lists) input inputs bytes are = made_bytes (list ∷ lists) input inputs bytes are

-- the rounds of lists that are held in memory can be numbered
pub few_lists : (lists : Vec (Vec ℕ Global) Global) → length (bytes_of_each lists.items) < 2 ^ 63
few_lists lists =
    let count = length-map lists.items (λ (v : Vec ℕ Global). v.items) in let items = lists.ok.0 in
    let within = lists.ok.1 in let small = lists.small in omega arith

-- a plan from scratch
pub run_plan :
    (line : RunLine) (a : World) (c : Contents) (s : Setup) (p : Plan)
    → AreContents a line c → s ≡ setup_of line c → IsSetup s → p.beginning ≡ from_scratch s (asked_by line.reach line.progress)
    → AreInputs s.input c.lists p.inputs
    → IsRunPlan line a p
run_plan line a c s p are is valid begins edited =
    record {
      contents = c;
      read = record { contents = are; accepted = (subst IsSetup is valid).elf_accepted };
      beginning = begins ∙ ap (λ (s : Setup). from_scratch s (asked_by line.reach line.progress)) is;
      edited = subst (λ (t : Setup). AreInputs t.input c.lists p.inputs) is edited;
    }

pub run_playable :
    (s : Setup) (asked : Asked) (lists : List (List ℕ)) (p : Plan)
    → IsSetup s → p.beginning ≡ from_scratch s asked → length lists < 2 ^ 63 → AreInputs s.input lists p.inputs
    → CanBePlayed p
run_playable s asked lists p valid begins few edited =
    let count = inputs-count s.input lists p.inputs edited in
    record {
      some = omega arith;
      short = All-from_recursion (λ i. length i ≤ MOST_INPUT_BYTES) p.inputs
          (inputs-short s.input lists p.inputs valid.input_size edited);
      few = let number : p.beginning.number ≡ 0 = ap (λ (b : Beginning). b.number) begins in omega arith;
      map = subst (λ (b : Beginning). IsOfMap b.past b.setup) (sym begins) tt;
    }

pub run_encoded :
    (s : Setup) (asked : Asked) (lists : List (List ℕ)) (p : Plan)
    → IsSetup s → AreBytes s.elf → AreBytes s.input → p.beginning ≡ from_scratch s asked
    → AreInputs s.input lists p.inputs
    → CanBeEncoded p
run_encoded s asked lists p valid elf input begins edited =
    record {
      valid = subst (λ (b : Beginning). IsSetup b.setup) (sym begins) valid;
      elf = subst (λ (b : Beginning). AreBytes b.setup.elf) (sym begins) elf;
      inputs = All-from_recursion AreBytes p.inputs (inputs_bytes lists s.input p.inputs input edited);
      past = subst (λ (b : Beginning). IsEncodedPast b.past b.setup) (sym begins) tt;
    }

-- a plan after a memo
pub rerun_plan :
    (line : RerunLine) (a : World) (memo : List ℕ) (lists : List (List ℕ)) (h : History) (p : Plan)
    → IsMemoContent a line.memo memo → AreLists a line.edits lists → IsMemoOf memo h
    → p.beginning ≡ after_memo h (limits_for line h) (asked_by line.reach line.progress)
    → AreRerunInputs h.setup.input lists p.inputs → IsRerunPlan line a p
rerun_plan line a memo lists h p read reported is begins edited =
    record {
      memo = memo;
      read = read;
      lists = lists;
      lists_read = reported;
      history = h;
      accepted = is;
      beginning = begins;
      edited = edited;
    }

pub rerun_playable :
    (memo : List ℕ) (lists : List (List ℕ)) (h : History) (limits : Limits) (asked : Asked) (p : Plan)
    → IsMemoOf memo h → p.beginning ≡ after_memo h limits asked → length lists < 2 ^ 63
    → AreRerunInputs h.setup.input lists p.inputs → CanBePlayed p
rerun_playable memo lists h limits asked p is begins few edited =
    let count = rerun-count h.setup.input lists p.inputs edited in
    record {
      some = omega arith;
      short = All-from_recursion (λ i. length i ≤ MOST_INPUT_BYTES) p.inputs
          (rerun-short h.setup.input lists p.inputs is.encodes.fits.setup.input_size edited);
      few = let number : p.beginning.number ≡ 1 = ap (λ (b : Beginning). b.number) begins in omega arith;
      map = subst (λ (b : Beginning). IsOfMap b.past b.setup) (sym begins)
          (same_image h.setup (with_limits h.setup limits) refl);
    }

pub rerun_encoded :
    (memo : List ℕ) (lists : List (List ℕ)) (h : History) (limits : Limits) (asked : Asked) (p : Plan)
    → IsMemoOf memo h → AreLimits limits.fuel limits.steps → p.beginning ≡ after_memo h limits asked
    → AreRerunInputs h.setup.input lists p.inputs → CanBeEncoded p
rerun_encoded memo lists h limits asked p is within begins edited =
    let fits = is.encodes.fits in
    record {
      valid = subst (λ (b : Beginning). IsSetup b.setup) (sym begins) (with-limits h.setup limits fits.setup within);
      elf = subst (λ (b : Beginning). AreBytes b.setup.elf) (sym begins) fits.elf_bytes;
      inputs = All-from_recursion AreBytes p.inputs (rerun_bytes lists h.setup.input p.inputs fits.input_bytes edited);
      past = subst (λ (b : Beginning). IsEncodedPast b.past b.setup) (sym begins)
          (fits, refl);
    }
