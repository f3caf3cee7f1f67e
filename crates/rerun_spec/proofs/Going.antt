-- Rounds that are made one after the other: as more is found, there are more.
use Rattle.std.proofs.Common.{◌≡◌, ◌≢◌, ◌≤◌, ◌+◌, ℕ, zero, suc, min, List, [], ◌∷◌, ◌++◌, length, drop, slice_get, Some, None, refl, ap, ◌∙◌, arith}
use Rattle.std.proofs.lemmas.Option.{same_Some}
use Rattle.rerun_spec.specs.Rounds.{Found, Round, resulting_history, Beginning, round_on, after_round, rounds_after, after_rounds, history_at, last_history}

-- if nothing was found, there is no round
pub none-found : (b : Beginning) (inputs : List (List ℕ)) → rounds_after b inputs [] ≡ []
none-found b [] = refl
none-found b (input ∷ inputs) = refl

pub none-found_after : (b : Beginning) (inputs : List (List ℕ)) → after_rounds b inputs [] ≡ b
none-found_after b [] = refl
none-found_after b (input ∷ inputs) = refl

pub rounds-later :
    (b : Beginning) (inputs : List (List ℕ)) (found more : List Found)
    → rounds_after b inputs (found ++ more)
    ≡ rounds_after b inputs found ++ rounds_after (after_rounds b inputs found) (drop (length found) inputs) more
rounds-later b [] [] more = refl
rounds-later b [] (f ∷ found) more = refl
rounds-later b (input ∷ inputs) [] more = refl
rounds-later b (input ∷ inputs) (f ∷ found) more =
    ap (λ (rs : List Round). round_on b input f ∷ rs) (rounds-later (after_round b input f) inputs found more)

pub after-later :
    (b : Beginning) (inputs : List (List ℕ)) (found more : List Found)
    → after_rounds b inputs (found ++ more)
    ≡ after_rounds (after_rounds b inputs found) (drop (length found) inputs) more
after-later b [] [] more = refl
after-later b [] (f ∷ found) more = refl
after-later b (input ∷ inputs) [] more = refl
after-later b (input ∷ inputs) (f ∷ found) more = after-later (after_round b input f) inputs found more

-- the next input is the first of the remaining ones
next-input :
    (inputs : List (List ℕ)) (place : ℕ) (input : List ℕ) → slice_get inputs place ≡ Some input
    → drop place inputs ≡ input ∷ drop (suc place) inputs
next-input [] place input is = absurd (let no : None ≡ Some input = is in cc)
next-input (x ∷ inputs) zero input is = ap (λ (i : List ℕ). i ∷ inputs) (same_Some x input is)
next-input (x ∷ inputs) (suc place) input is = next-input inputs place input is

pub rounds-one :
    (b : Beginning) (inputs : List (List ℕ)) (found : List Found) (input : List ℕ) (f : Found)
    → slice_get inputs (length found) ≡ Some input
    → rounds_after b inputs (found ++ f ∷ [])
    ≡ rounds_after b inputs found ++ round_on (after_rounds b inputs found) input f ∷ []
rounds-one b inputs found input f is =
    let now = after_rounds b inputs found in
    let rest = drop (suc (length found)) inputs in
    rounds-later b inputs found (f ∷ [])
    ∙ ap (λ (left : List (List ℕ)). rounds_after b inputs found ++ rounds_after now left (f ∷ []))
    (next-input inputs (length found) input is)
    ∙ ap (λ (rs : List Round). rounds_after b inputs found ++ round_on now input f ∷ rs)
    (none-found (after_round now input f) rest)

pub after-one :
    (b : Beginning) (inputs : List (List ℕ)) (found : List Found) (input : List ℕ) (f : Found)
    → slice_get inputs (length found) ≡ Some input
    → after_rounds b inputs (found ++ f ∷ []) ≡ after_round (after_rounds b inputs found) input f
after-one b inputs found input f is =
    let now = after_rounds b inputs found in
    let rest = drop (suc (length found)) inputs in
    after-later b inputs found (f ∷ [])
    ∙ ap (λ (left : List (List ℕ)). after_rounds now left (f ∷ [])) (next-input inputs (length found) input is)
    ∙ none-found_after (after_round now input f) rest

pub last-one :
    (b : Beginning) (inputs : List (List ℕ)) (found : List Found) (input : List ℕ) (f : Found)
    → slice_get inputs (length found) ≡ Some input
    → last_history b inputs (found ++ f ∷ []) ≡ resulting_history (round_on (after_rounds b inputs found) input f)
last-one b inputs found input f is = ap (λ (c : Beginning). history_at c) (after-one b inputs found input f is)

-- rounds for which something was found need no later inputs
pub rounds-few :
    (b : Beginning) (inputs rest : List (List ℕ)) (found : List Found) → length found ≤ length inputs
    → rounds_after b (inputs ++ rest) found ≡ rounds_after b inputs found
rounds-few b [] rest [] few = none-found b rest
rounds-few b [] rest (f ∷ found) few = absurd (omega arith)
rounds-few b (input ∷ inputs) rest [] few = refl
rounds-few b (input ∷ inputs) rest (f ∷ found) few =
    ap (λ (rs : List Round). round_on b input f ∷ rs)
    (rounds-few (after_round b input f) inputs rest found (omega arith))

pub after-few :
    (b : Beginning) (inputs rest : List (List ℕ)) (found : List Found) → length found ≤ length inputs
    → after_rounds b (inputs ++ rest) found ≡ after_rounds b inputs found
after-few b [] rest [] few = none-found_after b rest
after-few b [] rest (f ∷ found) few = absurd (omega arith)
after-few b (input ∷ inputs) rest [] few = refl
after-few b (input ∷ inputs) rest (f ∷ found) few =
    after-few (after_round b input f) inputs rest found (omega arith)

-- the number, setup, flag and history of the next round
pub number-later :
    (b : Beginning) (inputs : List (List ℕ)) (found : List Found)
    → (after_rounds b inputs found).number ≡ b.number + min (length inputs) (length found)
number-later b [] found = omega arith
number-later b (input ∷ inputs) [] = omega arith
number-later b (input ∷ inputs) (f ∷ found) =
    let rest = number-later (after_round b input f) inputs found in omega arith

pub setup-later :
    (b : Beginning) (inputs : List (List ℕ)) (found : List Found) → (after_rounds b inputs found).setup ≡ b.setup
setup-later b [] found = refl
setup-later b (input ∷ inputs) [] = refl
setup-later b (input ∷ inputs) (f ∷ found) = setup-later (after_round b input f) inputs found

pub asked-later :
    (b : Beginning) (inputs : List (List ℕ)) (found : List Found) → (after_rounds b inputs found).asked ≡ b.asked
asked-later b [] found = refl
asked-later b (input ∷ inputs) [] = refl
asked-later b (input ∷ inputs) (f ∷ found) = asked-later (after_round b input f) inputs found

-- after a round there is a history, that of the last round
pub past-later :
    (b : Beginning) (inputs : List (List ℕ)) (found : List Found) → inputs ≢ [] → found ≢ []
    → (after_rounds b inputs found).past ≡ Some (last_history b inputs found)
past-later b [] found some one = absurd (some refl)
past-later b (input ∷ inputs) [] some one = absurd (one refl)
past-later b (input ∷ []) (f ∷ found) some one = refl
past-later b (input ∷ next ∷ inputs) (f ∷ []) some one = refl
past-later b (input ∷ next ∷ inputs) (f ∷ g ∷ found) some one =
    past-later (after_round b input f) (next ∷ inputs) (g ∷ found) (λ none. cc) (λ none. cc)
