-- Worked examples, on an input of the five bytes 1 to 5. The expected values follow by hand.
use Rattle.std.proofs.Common.{◌≡◌, ℕ, true, false, List, [], ◌∷◌, ◌++◌, inl, Some, None, Ok, refl, ap, sym, ◌∙◌, subst, lit<}
use Rattle.std.proofs.lemmas.Option.{same_Some}
use Rattle.std.specs.Prelude.{codes, decimal}
use Rattle.std.specs.Fmt.{digits}
use Rattle.machine_spec.specs.declared.states.End.TheVariants.{Exit, Deadlock, Spent}
use Rattle.machine_spec.specs.Limits.{Limits}
use Rattle.machine_spec.specs.Setup.{Setup}
use Rattle.history_spec.specs.History.{History}
use Rattle.edit_spec.specs.Edit.{Edit, Set, Size}
use Rattle.edit_spec.specs.Grammar.{Encodes, IsEdit, Says, EncodeBytes, lines}
use Rattle.edit_spec.proofs.Encoding.{digits-decimal, same_around_space, other_word}
use Rattle.edit_spec.proofs.Examples.{five, zero_is_encoded}
use Rattle.rerun_spec.specs.declared.Asked.{Asked}
use Rattle.rerun_spec.specs.Inputs.{Makes, AreInputs, AreRerunInputs, BadLine, OutOfRange, IsFirstRefused}
use Rattle.rerun_spec.specs.Rounds.{Found, Round, limits_of, with_input, with_limits, resulting_history, from_scratch, after_memo, round_on, after_round, rounds_after, after_rounds, last_history, IsRepeated, IsUneditedRerun}
use Rattle.rerun_spec.specs.Reports.{is_exit}
use Rattle.edit_spec.proofs.Deciding.{no-byte-odd}

-- the byte at offset 1 is 2 already
same_byte_is_encoded : Encodes (codes "set 1 02") (Set 1 (2 ∷ []))
unfolding digits
same_byte_is_encoded = (lit< tt, lit< tt, codes "02", (refl, refl, tt), refl)

same_byte_is_said : Says (codes "set 1 02\n") (Ok (record { line = 1; edit = Set 1 (2 ∷ []) } ∷ []))
unfolding lines
same_byte_is_said = ((refl, same_byte_is_encoded), tt)

same_byte : Makes (codes "set 1 02\n") five five
same_byte = record { edits = record { line = 1; edit = Set 1 (2 ∷ []) } ∷ []; said = same_byte_is_said; done = refl }

-- a list of no lines
nothing_is_said : Says [] (Ok [])
unfolding lines
nothing_is_said = tt

nothing : Makes [] five five
nothing = record { edits = []; said = nothing_is_said; done = refl }

-- Two lists that change nothing make three rounds on one input.
pub inputs-unchanged : AreInputs five (codes "set 1 02\n" ∷ [] ∷ []) (five ∷ five ∷ five ∷ [])
inputs-unchanged = (refl, (same_byte, (nothing, tt)))

-- the length 0
empty_is_said : Says (codes "size 0") (Ok (record { line = 1; edit = Size 0 } ∷ []))
unfolding lines
empty_is_said = ((refl, zero_is_encoded), tt)

-- The input of the second round is empty.
pub inputs-emptied : AreInputs five (codes "size 0" ∷ []) (five ∷ [] ∷ [])
inputs-emptied =
    (refl, (record { edits = record { line = 1; edit = Size 0 } ∷ []; said = empty_is_said; done = refl }, tt))

-- offset 4, of an input that the list before has emptied
last_byte_is_encoded : Encodes (codes "set 4 00") (Set 4 (0 ∷ []))
unfolding digits
last_byte_is_encoded = (lit< tt, lit< tt, codes "00", (refl, refl, tt), refl)

last_byte_is_said : Says (codes "\nset 4 00") (Ok (record { line = 2; edit = Set 4 (0 ∷ []) } ∷ []))
unfolding lines
last_byte_is_said = ((refl, last_byte_is_encoded), tt)

-- The second list is refused by its second line, whatever comes after it.
pub refused-second :
    (rest : List (List ℕ))
    → IsFirstRefused five (codes "size 0" ∷ codes "\nset 4 00" ∷ rest) 1 (OutOfRange 2)
refused-second rest = (
  [],
  record { edits = record { line = 1; edit = Size 0 } ∷ []; said = empty_is_said; done = refl },
  (record { line = 2; edit = Set 4 (0 ∷ []) } ∷ [], last_byte_is_said, refl),
)

-- one digit encodes no byte
half_byte : (edit : Edit) → Encodes (codes "set 4 0") edit → ⊥
half_byte (Set offset bytes) encoded =
    let same =
    same_around_space (codes "4") (decimal offset) (codes "0") encoded.2 refl (digits-decimal offset encoded.0)
    (let all : codes "set 4 0" ≡ codes "set " ++ (decimal offset ++ 32 ∷ encoded.2) = encoded.4 in cc) in
    no-byte-odd 48 bytes (subst (λ (ds : List ℕ). EncodeBytes ds bytes) (sym same.1) encoded.3)
half_byte (Size size) encoded = other_word (codes "set 4 0") refl (sym encoded.1)

half_byte_is_bad : (edit : IsEdit (codes "set 4 0")) → ⊥
half_byte_is_bad edit = half_byte edit.0 edit.1

-- The first list is refused by its first line, even if the second would be refused, too.
pub refused-first : IsFirstRefused five (codes "set 4 0" ∷ codes "set 5 00" ∷ []) 0 (BadLine 1)
unfolding lines
refused-first = inl (half_byte_is_bad, refl)

-- Round 0 is based on no history, and round 1 on that of round 0.
pub rounds-two :
    (s : Setup) (asked : Asked) (a b : List ℕ) (f g : Found)
    → rounds_after (from_scratch s asked) (a ∷ b ∷ []) (f ∷ g ∷ [])
    ≡ record { number = 0; setup = with_input s a; past = None; asked = asked; found = f }
    ∷ record {
      number = 1;
      setup = with_input s b;
      past = Some (resulting_history (record { number = 0; setup = with_input s a; past = None; asked = asked; found = f }));
      asked = asked;
      found = g;
    }
    ∷ []
rounds-two s asked a b f g = refl

-- After a memo, round 1 is based on its history, and round 2 on that of round 1; both have the limits that are
-- requested.
pub reruns-two :
    (h : History) (limits : Limits) (asked : Asked) (a b : List ℕ) (f g : Found)
    → rounds_after (after_memo h limits asked) (a ∷ b ∷ []) (f ∷ g ∷ [])
    ≡ record { number = 1; setup = with_input (with_limits h.setup limits) a; past = Some h; asked = asked; found = f }
    ∷ record {
      number = 2;
      setup = with_input (with_limits h.setup limits) b;
      past =
          Some (resulting_history
          (record { number = 1; setup = with_input (with_limits h.setup limits) a; past = Some h; asked = asked; found = f }));
      asked = asked;
      found = g;
    }
    ∷ []
reruns-two h limits asked a b f g = refl

-- If one thing was found so far, there is one round, whatever inputs are to come.
pub rounds-one_of_two :
    (s : Setup) (asked : Asked) (a b : List ℕ) (f : Found)
    → rounds_after (from_scratch s asked) (a ∷ b ∷ []) (f ∷ [])
    ≡ record { number = 0; setup = with_input s a; past = None; asked = asked; found = f } ∷ []
rounds-one_of_two s asked a b f = refl

-- Its history is the last one; and without a round the memo's history is.
pub left-two :
    (h : History) (limits : Limits) (asked : Asked) (a b : List ℕ) (f g : Found)
    → last_history (after_memo h limits asked) (a ∷ b ∷ []) (f ∷ g ∷ [])
    ≡ resulting_history (record {
      number = 2;
      setup = with_input (with_limits h.setup limits) b;
      past =
          Some (resulting_history
          (record { number = 1; setup = with_input (with_limits h.setup limits) a; past = Some h; asked = asked; found = f }));
      asked = asked;
      found = g;
    })
left-two h limits asked a b f g = refl

pub last-none : (h : History) (limits : Limits) (asked : Asked) (found : List Found) → last_history (after_memo h limits asked) [] found ≡ h
last-none h limits asked found = refl

-- From scratch and without a round, it is a history of no steps.
pub left-scratch :
    (s : Setup) (asked : Asked) (found : List Found) → last_history (from_scratch s asked) [] found ≡ record { setup = s; records = [] }
left-scratch s asked found = refl

-- The third round is without an edit, though the second isn't.
pub repeated-third :
    (s : Setup) (asked : Asked) (a b : List ℕ) (f g k : Found)
    → IsRepeated (rounds_after (from_scratch s asked) (a ∷ b ∷ b ∷ []) (f ∷ g ∷ k ∷ []))
    (round_on (after_round (from_scratch s asked) a f) b g)
    (round_on (after_rounds (from_scratch s asked) (a ∷ b ∷ []) (f ∷ g ∷ [])) b k)
repeated-third s asked a b f g k = record { place = 1; one = refl; next = refl; same = refl }

-- A rerun with a list is on the input that the list makes, and one without is on the input itself.
pub rerun-emptied : AreRerunInputs five (codes "size 0" ∷ []) ([] ∷ [])
rerun-emptied = (record { edits = record { line = 1; edit = Size 0 } ∷ []; said = empty_is_said; done = refl }, tt)

pub rerun-unedited : AreRerunInputs five [] (five ∷ [])
rerun-unedited = refl

-- A rerun with another fuel or another step limit than the memo's isn't without an edit.
pub rerun-limits :
    (h : History) (limits : Limits) (asked : Asked) (input : List ℕ) (f : Found) (r : Round)
    → IsUneditedRerun h limits asked (input ∷ []) (f ∷ []) r → limits ≡ limits_of h.setup
rerun-limits h limits asked input f r rerun =
    ap (λ (q : Round). limits_of q.setup) (same_Some (round_on (after_memo h limits asked) input f) r rerun.first)
    ∙ rerun.same_limits

-- An exit with another code than 0 is an exit; no other end is one.
pub exit-five : is_exit (Some (Exit 5)) ≡ true
exit-five = refl

pub exit-deadlock : is_exit (Some Deadlock) ≡ false
exit-deadlock = refl

pub exit-spent : is_exit (Some Spent) ≡ false
exit-spent = refl
