-- A list is read line by line.
use Rattle.std.proofs.Common.{◌≡◌, ℕ, ◌+◌, ◌<◌, ◌==◌, false, List, [], ◌∷◌, ◌++◌, length, Result, Ok, Err, refl, sym, ap, subst, ◌∙◌, arith, append_assoc, length-append, inl, inr}
use Rattle.std.specs.List.{All, slice_split}
use Rattle.std.proofs.lemmas.List.Splits.{slice_split_at, slice_split_none}
use Rattle.edit_list.specs.declared.parser.ParseError.{ParseError}
use Rattle.edit_list.specs.declared.parser.ParseError.TheVariants.{BadLine, NoMemory}
use Rattle.edit_list.specs.Refusals.{WhyNotAdded, WhyNotParsed}
use Rattle.std.proofs.lemmas.List.{append-nil}
use Rattle.edit_spec.specs.Edit.{Edit, LineEdit}
use Rattle.edit_spec.specs.Grammar.{lines, IsEdit, Encodes, EncodeAll, Say, Says, newline}
use Rattle.edit_list.specs.Adding.{lines_from, AddsLine}

-- an answer about lines, after the edits of the lines before them
abbrev pub after_front : List LineEdit → Result (List LineEdit) ℕ → Result (List LineEdit) ℕ
after_front front (Ok edits) = Ok (front ++ edits)
after_front front (Err number) = Err number

-- the edits so far, with those that the rest encodes, are those of the whole list
abbrev pub Leads : List ℕ → ℕ → List (List ℕ) → List LineEdit → Type 0
Leads bytes number pieces front =
    (answer : Result (List LineEdit) ℕ) → Say (lines_from number pieces) answer → Says bytes (after_front front answer)

-- the edits of one line, and what the lines after it encode
joined : (number : ℕ) (text : List ℕ) (more : List (List ℕ)) (added : List LineEdit) (answer : Result (List LineEdit) ℕ)
    → EncodeAll (lines_from number (text ∷ [])) added → Say (lines_from (number + 1) more) answer
    → Say (lines_from number (text ∷ more)) (after_front added answer)
joined number [] more [] (Ok edits) s said = said
joined number [] more [] (Err bad) s said = said
joined number [] more (e ∷ added) answer s said = absurd s
joined number (b ∷ text) more [] answer s said = absurd s
joined number (b ∷ text) more (e ∷ []) (Ok edits) s said = (s.0, said)
joined number (b ∷ text) more (e ∷ []) (Err bad) s said = inr ((e.edit, s.0.1), said)
joined number (b ∷ text) more (e ∷ f ∷ added) answer s said = absurd s.1

-- putting edits in front of edits in front of an answer is putting both in front
in_front :
    (before added : List LineEdit) (answer : Result (List LineEdit) ℕ)
    → after_front before (after_front added answer) ≡ after_front (before ++ added) answer
in_front before added (Ok edits) = ap (λ (x : List LineEdit). Ok x) (sym (append_assoc before added edits))
in_front before added (Err bad) = refl

-- one more line was read
pub one_line_more : (bytes : List ℕ) (number : ℕ) (text : List ℕ) (more : List (List ℕ)) (before after : List LineEdit)
    → AddsLine number text before after → Leads bytes number (text ∷ more) before → Leads bytes (number + 1) more after
one_line_more bytes number text more before after adds leads answer said =
    let there = leads (after_front adds.0 answer) (joined number text more adds.0 answer adds.1 said) in
    subst (Says bytes) (in_front before adds.0 answer
    ∙ ap (λ (front : List LineEdit). after_front front answer) (sym adds.2)) there

-- a bad line after lines that were read
pub bad_line : (bytes : List ℕ) (number : ℕ) (text : List ℕ) (more : List (List ℕ)) (before : List LineEdit)
    → 0 < length text → (IsEdit text → ⊥) → Leads bytes number (text ∷ more) before → Says bytes (Err number)
bad_line bytes number [] more before some bad leads = absurd (omega arith)
bad_line bytes number (b ∷ text) more before some bad leads = leads (Err number) (inl (bad, refl))

-- no line was read yet
pub no_line_yet : (bytes : List ℕ) → Leads bytes 1 (slice_split (λ byte. byte == newline) bytes) []
unfolding lines
no_line_yet bytes (Ok edits) said = said
no_line_yet bytes (Err bad) said = said

-- all lines were read
pub all_lines :
    (bytes : List ℕ) (number : ℕ) (edits : List LineEdit) → Leads bytes number [] edits
    → Says bytes (Ok edits)
all_lines bytes number edits leads =
    subst (λ (x : List LineEdit). Says bytes (Ok x)) (append-nil edits) (leads (Ok []) tt)

-- the edit of a line is appended to others
pub edit_added : (number : ℕ) (text : List ℕ) (edit : Edit) (before after : List LineEdit)
    → 0 < length text → Encodes text edit → after ≡ before ++ record { line = number; edit = edit } ∷ []
    → AddsLine number text before after
edit_added number [] edit before after some encodes is = absurd (omega arith)
edit_added number (b ∷ text) edit before after some encodes is =
    (record { line = number; edit = edit } ∷ [], ((refl, encodes), tt), is)

-- the rest of a list with a newline is split at the first one
pub cut_leads : (bytes : List ℕ) (number : ℕ) (rest text after : List ℕ) (front : List LineEdit)
    → All (λ b. (b == 10) ≡ false) text × (rest ≡ text ++ 10 ∷ after)
    → Leads bytes number (slice_split (λ byte. byte == 10) rest) front
    → Leads bytes number (text ∷ slice_split (λ byte. byte == 10) after) front
cut_leads bytes number rest text after front parts leads =
    let e : slice_split (λ byte. byte == 10) rest ≡ text ∷ slice_split (λ byte. byte == 10) after =
    ap (slice_split (λ byte. byte == 10)) parts.1 ∙ slice_split_at (λ byte. byte == 10) text 10 after parts.0 refl in
    subst (λ (pieces : List (List ℕ)). Leads bytes number pieces front) e leads

-- the rest of a list without a newline is its last line
pub last_leads : (bytes : List ℕ) (number : ℕ) (rest : List ℕ) (front : List LineEdit)
    → All (λ b. (b == 10) ≡ false) rest → Leads bytes number (slice_split (λ byte. byte == 10) rest) front
    → Leads bytes number (rest ∷ []) front
last_leads bytes number rest front all leads =
    subst (λ (pieces : List (List ℕ)). Leads bytes number pieces front)
    (slice_split_none (λ byte. byte == 10) rest all) leads

-- why a list gave no edits if one of its lines was not added
pub refused_there :
    (bytes : List ℕ) (number : ℕ) (text : List ℕ) (more : List (List ℕ)) (front : List LineEdit) (error : ParseError)
    → WhyNotAdded number text error → Leads bytes number (text ∷ more) front → WhyNotParsed bytes error
refused_there bytes number text more front (BadLine bad) why leads =
    subst (λ (n : ℕ). Says bytes (Err n)) (sym why.0) (bad_line bytes number text more front why.1 why.2 leads)
refused_there bytes number text more front NoMemory why leads = tt

-- what follows a newline is shorter
pub after_is_shorter : (rest text after : List ℕ) → rest ≡ text ++ 10 ∷ after → length after < length rest
after_is_shorter rest text after e =
    let count = ap length e in let parts = length-append text (10 ∷ after) in omega arith
