-- The schedule line of a report encodes the threads of its entries.
use Rattle.std.proofs.Common.{◌≡◌, ℕ, ◌<◌, Bool, true, false, if◌then◌else◌, List, [], ◌∷◌, ◌++◌, length, flat_map, map, inl, inr, refl, sym, ap, subst, ◌∙◌, All, arith, append_assoc}
use Rattle.std.specs.Prelude.{codes, decimal, Ok}
use Rattle.std.specs.List.{AllZip, list_all}
use Rattle.std.specs.Char.{is_ascii_digit}
use Rattle.std.proofs.lemmas.Bool.{and_parts}
use Rattle.std.proofs.lemmas.Bool.Decides.{nat_tests}
use Rattle.std.proofs.lemmas.List.Elements.{All-cons, All-head, All-tail}
use Rattle.std.proofs.lemmas.Fmt.{decimal_nonempty}
use Rattle.guest_call.specs.declared.thread_number.TheConstants.{THREADS}
use Rattle.report_spec.specs.declared.Entry.{Entry}
use Rattle.report_spec.specs.Text.{space, newline}
use Rattle.report_spec.specs.Report.{entry_text, threads_of}
use Rattle.schedule_list.specs.Schedule.{is_gap, tokens, IsMark, Encodes, Says}
use Rattle.schedule_list.proofs.Encoding.{AreDigits, digits_of}
use Rattle.schedule_list.proofs.Reading.{with_piece, tokens-gap}

-- a byte that is no gap
abbrev NoGap : ℕ → Type 0
NoGap b = is_gap b ≡ false

-- the mark of an entry, which has no gap in it
abbrev mark_text : Bool → List ℕ
mark_text reused = if reused then codes "=" else codes "+"

is_mark : (reused : Bool) → IsMark (mark_text reused)
is_mark true = inr (inl refl)
is_mark false = inr (inr refl)

no_gap-mark : (reused : Bool) → All NoGap (mark_text reused)
no_gap-mark true = All-cons NoGap 61 [] refl (λ k d under. absurd (omega arith))
no_gap-mark false = All-cons NoGap 43 [] refl (λ k d under. absurd (omega arith))

-- digits before bytes without a gap have none
no_gap-digits : (ds mark : List ℕ) → AreDigits ds → All NoGap mark → All NoGap (ds ++ mark)
no_gap-digits [] mark digits none = none
no_gap-digits (d ∷ ds) mark digits none =
    let parts = and_parts (is_ascii_digit d) (list_all is_ascii_digit ds) digits in
    All-cons NoGap d (ds ++ mark) (grind (arith, nat_tests, parts.0)) (no_gap-digits ds mark parts.1 none)

no_gap-entry : (e : Entry) → e.thread < THREADS → All NoGap (entry_text e)
no_gap-entry e few = no_gap-digits (decimal e.thread) (mark_text e.reused) (digits_of e.thread few) (no_gap-mark e.reused)

-- what is written of entries, each after a space, and the line's end
abbrev line_of : List Entry → List ℕ
line_of schedule = flat_map (λ (e : Entry). space ++ entry_text e) schedule ++ newline

-- digits before bytes are a piece
filled : (ds mark : List ℕ) (more : List (List ℕ)) → 0 < length ds → with_piece (ds ++ mark) more ≡ (ds ++ mark) ∷ more
filled [] mark more some = absurd (omega arith)
filled (d ∷ ds) mark more some = refl

filled-entry : (e : Entry) (more : List (List ℕ)) → e.thread < THREADS → with_piece (entry_text e) more ≡ entry_text e ∷ more
filled-entry e more few = filled (decimal e.thread) (mark_text e.reused) more (decimal_nonempty e.thread (omega arith))

-- no bytes have no token
tokens-nil : tokens [] ≡ []
unfolding tokens
tokens-nil = refl

-- the tokens of a line, after bytes without a gap
tokens-line :
    (front : List ℕ) (schedule : List Entry) → All NoGap front → All (λ t. t < THREADS) (threads_of schedule)
    → tokens (front ++ line_of schedule) ≡ with_piece front (map entry_text schedule)
tokens-line front [] none few = tokens-gap front 10 [] none refl ∙ ap (with_piece front) tokens-nil
tokens-line front (e ∷ schedule) none few =
    let first : e.thread < THREADS = All-head (λ t. t < THREADS) e.thread (threads_of schedule) few in
    let rest = tokens-line (entry_text e) schedule (no_gap-entry e first)
    (All-tail (λ t. t < THREADS) e.thread (threads_of schedule) few) in
    let opened : line_of (e ∷ schedule) ≡ 32 ∷ (entry_text e ++ line_of schedule) =
    ap (λ (l : List ℕ). 32 ∷ l) (append_assoc (entry_text e) (flat_map (λ (x : Entry). space ++ entry_text x) schedule) newline) in
    ap (λ (l : List ℕ). tokens (front ++ l)) opened
    ∙ tokens-gap front 32 (entry_text e ++ line_of schedule) none refl
    ∙ ap (with_piece front) (rest ∙ filled-entry e (map entry_text schedule) first)

-- the entries' texts encode their threads
entries-encode :
    (schedule : List Entry) → All (λ t. t < THREADS) (threads_of schedule)
    → AllZip Encodes (map entry_text schedule) (threads_of schedule)
entries-encode [] few = tt
entries-encode (e ∷ schedule) few = (
  (All-head (λ t. t < THREADS) e.thread (threads_of schedule) few, mark_text e.reused, is_mark e.reused, refl),
  entries-encode schedule (All-tail (λ t. t < THREADS) e.thread (threads_of schedule) few),
)

pub line-says :
    (schedule : List Entry) → All (λ t. t < THREADS) (threads_of schedule)
    → Says (line_of schedule) (Ok (threads_of schedule))
line-says schedule few =
    subst (λ (l : List (List ℕ)). AllZip Encodes l (threads_of schedule))
    (sym (tokens-line [] schedule (λ k d under. absurd (omega arith)) few)) (entries-encode schedule few)
