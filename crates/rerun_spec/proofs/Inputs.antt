-- The inputs exist, or a list is the first that is refused, and not both; each is as short as an input may be. The same
-- holds for the inputs of a rerun.
use Rattle.std.proofs.Common.{◌≡◌, ◌≢◌, ◌≤◌, ◌<◌, ℕ, zero, suc, max, List, [], ◌∷◌, ◌++◌, slice_get, Some, length, Result, Ok, Err, ◌⊎◌, inl, inr, refl, ap, sym, ◌∙◌, subst, arith}
use Rattle.std.proofs.lemmas.Option.{same_Some}
use Rattle.std.proofs.lemmas.List.Elements.{All-from_recursion}
use Rattle.std.specs.List.{AllByRecursion}
use Rattle.edit_spec.specs.Edit.{LineEdit}
use Rattle.edit_spec.specs.Grammar.{lines, Says}
use Rattle.edit_spec.specs.Editing.{edited, longest_input}
use Rattle.edit_spec.proofs.Saying.{one_thing}
use Rattle.edit_spec.proofs.Lengths.{stays_short}
use Rattle.rerun_spec.specs.Inputs.{Makes, AreMade, AreInputs, AreRerunInputs, AreShort, Refusal, BadLine, OutOfRange, Refuses, IsFirstRefused}
use Rattle.edit_spec.proofs.Deciding.{lines-say}

-- two answers on one list
same-edits : (list : List ℕ) (a b : List LineEdit) → Says list (Ok a) → Says list (Ok b) → a ≡ b
same-edits list a b p q = let same = one_thing (lines list) (Ok a) (Ok b) p q in cc

same-line : (list : List ℕ) (m n : ℕ) → Says list (Err m) → Says list (Err n) → m ≡ n
same-line list m n p q = let same = one_thing (lines list) (Err m) (Err n) p q in cc

not-both : (list : List ℕ) (a : List LineEdit) (n : ℕ) → Says list (Ok a) → Says list (Err n) → ⊥
not-both list a n p q = let same = one_thing (lines list) (Ok a) (Err n) p q in cc

-- two answers on one edit
ok-one : (r : Result (List ℕ) ℕ) (a b : List ℕ) → r ≡ Ok a → r ≡ Ok b → a ≡ b
ok-one r a b p q = cc

err-one : (r : Result (List ℕ) ℕ) (m n : ℕ) → r ≡ Err m → r ≡ Err n → m ≡ n
err-one r m n p q = cc

ok-err : (r : Result (List ℕ) ℕ) (a : List ℕ) (n : ℕ) → r ≡ Ok a → r ≡ Err n → ⊥
ok-err r a n p q = cc

-- a list makes one thing, or is refused for one cause
makes-one : (list input a b : List ℕ) → Makes list input a → Makes list input b → a ≡ b
makes-one list input a b p q =
    ok-one (edited p.edits input) a b p.done
    (ap (λ (es : List LineEdit). edited es input) (same-edits list p.edits q.edits p.said q.said) ∙ q.done)

makes-unrefused : (list input next : List ℕ) (why : Refusal) → Makes list input next → Refuses list input why → ⊥
makes-unrefused list input next (BadLine number) p q = not-both list p.edits number p.said q
makes-unrefused list input next (OutOfRange number) p q =
    ok-err (edited p.edits input) next number p.done
    (ap (λ (es : List LineEdit). edited es input) (same-edits list p.edits q.0 p.said q.1) ∙ q.2)

refuses-one :
    (list input : List ℕ) (why other : Refusal) → Refuses list input why → Refuses list input other
    → why ≡ other
refuses-one list input (BadLine m) (BadLine n) p q = ap (λ (k : ℕ). BadLine k) (same-line list m n p q)
refuses-one list input (BadLine m) (OutOfRange n) p q = absurd (not-both list q.0 m q.1 p)
refuses-one list input (OutOfRange m) (BadLine n) p q = absurd (not-both list p.0 n p.1 q)
refuses-one list input (OutOfRange m) (OutOfRange n) p q =
    ap (λ (k : ℕ). OutOfRange k)
    (err-one (edited p.0 input) m n p.2
    (ap (λ (es : List LineEdit). edited es input) (same-edits list p.0 q.0 p.1 q.1) ∙ q.2))

makes-or-refuses :
    (list input : List ℕ)
    → ((next : List ℕ) × Makes list input next) ⊎ ((why : Refusal) × Refuses list input why)
makes-or-refuses list input = by (lines-say (lines list)).0 (lines-say (lines list)).1
  where
    does :
        (edits : List LineEdit) → Says list (Ok edits) → (r : Result (List ℕ) ℕ) → edited edits input ≡ r
        → ((next : List ℕ) × Makes list input next) ⊎ ((why : Refusal) × Refuses list input why)
    does edits said (Ok next) is = inl (next, record { edits = edits; said = said; done = is })
    does edits said (Err number) is = inr (OutOfRange number, (edits, said, is))

    by :
        (answer : Result (List LineEdit) ℕ) → Says list answer
        → ((next : List ℕ) × Makes list input next) ⊎ ((why : Refusal) × Refuses list input why)
    by (Ok edits) said = does edits said (edited edits input) refl
    by (Err number) said = inr (BadLine number, said)

-- lists make one thing
made-one :
    (lists : List (List ℕ)) (input : List ℕ) (a b : List (List ℕ)) → AreMade input lists a → AreMade input lists b
    → a ≡ b
made-one [] input [] [] p q = refl
made-one [] input [] (y ∷ b) p q = absurd q
made-one [] input (x ∷ a) b p q = absurd p
made-one (list ∷ lists) input [] b p q = absurd p
made-one (list ∷ lists) input (x ∷ a) [] p q = absurd q
made-one (list ∷ lists) input (x ∷ a) (y ∷ b) p q =
    let next : x ≡ y = makes-one list input x y p.0 q.0 in
    let rest : a ≡ b = made-one lists x a b p.1 (subst (λ (i : List ℕ). AreMade i lists b) (sym next) q.1) in
    cc

made-unrefused :
    (lists : List (List ℕ)) (input : List ℕ) (inputs : List (List ℕ)) (place : ℕ) (why : Refusal)
    → AreMade input lists inputs → IsFirstRefused input lists place why → ⊥
made-unrefused [] input inputs place why p q = q
made-unrefused (list ∷ lists) input [] place why p q = p
made-unrefused (list ∷ lists) input (x ∷ inputs) zero why p q = makes-unrefused list input x why p.0 q
made-unrefused (list ∷ lists) input (x ∷ inputs) (suc place) why p q =
    made-unrefused lists x inputs place why p.1
    (subst (λ (i : List ℕ). IsFirstRefused i lists place why) (makes-one list input q.0 x q.1 p.0) q.2)

made-or-refused :
    (lists : List (List ℕ)) (input : List ℕ)
    → ((inputs : List (List ℕ)) × AreMade input lists inputs)
    ⊎ ((place : ℕ) × (why : Refusal) × IsFirstRefused input lists place why)
made-or-refused [] input = inl ([], tt)
made-or-refused (list ∷ lists) input = by (makes-or-refuses list input) (made-or-refused lists)
  where
    next :
        (n : List ℕ) → Makes list input n
        → ((inputs : List (List ℕ)) × AreMade n lists inputs)
        ⊎ ((place : ℕ) × (why : Refusal) × IsFirstRefused n lists place why)
        → ((inputs : List (List ℕ)) × AreMade input (list ∷ lists) inputs)
        ⊎ ((place : ℕ) × (why : Refusal) × IsFirstRefused input (list ∷ lists) place why)
    next n makes (inl made) = inl (n ∷ made.0, (makes, made.1))
    next n makes (inr refused) = inr (suc refused.0, refused.1, (n, makes, refused.2))

    by :
        ((n : List ℕ) × Makes list input n) ⊎ ((why : Refusal) × Refuses list input why)
        → ((n : List ℕ)
        → ((inputs : List (List ℕ)) × AreMade n lists inputs)
        ⊎ ((place : ℕ) × (why : Refusal) × IsFirstRefused n lists place why))
        → ((inputs : List (List ℕ)) × AreMade input (list ∷ lists) inputs)
        ⊎ ((place : ℕ) × (why : Refusal) × IsFirstRefused input (list ∷ lists) place why)
    by (inl made) rest = next made.0 made.1 (rest made.0)
    by (inr refused) rest = inr (zero, refused.0, refused.1)

pub refused-one :
    (lists : List (List ℕ)) (input : List ℕ) (m n : ℕ) (why other : Refusal)
    → IsFirstRefused input lists m why → IsFirstRefused input lists n other → (m ≡ n) × (why ≡ other)
refused-one [] input m n why other p q = absurd p
refused-one (list ∷ lists) input zero zero why other p q = (refl, refuses-one list input why other p q)
refused-one (list ∷ lists) input zero (suc n) why other p q = absurd (makes-unrefused list input q.0 why q.1 p)
refused-one (list ∷ lists) input (suc m) zero why other p q = absurd (makes-unrefused list input p.0 other p.1 q)
refused-one (list ∷ lists) input (suc m) (suc n) why other p q =
    let same =
    refused-one lists p.0 m n why other p.2
    (subst (λ (i : List ℕ). IsFirstRefused i lists n other) (makes-one list input q.0 p.0 q.1 p.1) q.2) in
    (ap (λ (k : ℕ). suc k) same.0, same.1)

pub refused-below :
    (lists : List (List ℕ)) (input : List ℕ) (place : ℕ) (why : Refusal) → IsFirstRefused input lists place why
    → place < length lists
refused-below [] input place why p = absurd p
refused-below (list ∷ lists) input zero why p = omega arith
refused-below (list ∷ lists) input (suc place) why p = let rest = refused-below lists p.0 place why p.2 in omega arith

-- the inputs
pub inputs-one :
    (input : List ℕ) (lists a b : List (List ℕ))
    → AreInputs input lists a → AreInputs input lists b → a ≡ b
inputs-one input lists [] b p q = absurd p
inputs-one input lists (x ∷ a) [] p q = absurd q
inputs-one input lists (x ∷ a) (y ∷ b) p q =
    let here : x ≡ y = p.0 ∙ sym q.0 in
    let rest : a ≡ b = made-one lists input a b p.1 q.1 in
    cc

pub inputs-unrefused :
    (input : List ℕ) (lists inputs : List (List ℕ)) (place : ℕ) (why : Refusal)
    → AreInputs input lists inputs → IsFirstRefused input lists place why → ⊥
inputs-unrefused input lists [] place why p q = p
inputs-unrefused input lists (x ∷ inputs) place why p q = made-unrefused lists input inputs place why p.1 q

pub inputs-or-refused :
    (input : List ℕ) (lists : List (List ℕ))
    → ((inputs : List (List ℕ)) × AreInputs input lists inputs)
    ⊎ ((place : ℕ) × (why : Refusal) × IsFirstRefused input lists place why)
inputs-or-refused input lists =
    elim (made-or-refused lists input) [
      | inl made ↦ inl (input ∷ made.0, (refl, made.1))
      | inr refused ↦ inr refused
    ]

made-count :
    (lists : List (List ℕ)) (input : List ℕ) (inputs : List (List ℕ)) → AreMade input lists inputs
    → length inputs ≡ length lists
made-count [] input [] p = refl
made-count [] input (x ∷ inputs) p = absurd p
made-count (list ∷ lists) input [] p = absurd p
made-count (list ∷ lists) input (x ∷ inputs) p = ap (λ (n : ℕ). suc n) (made-count lists x inputs p.1)

pub inputs-count :
    (input : List ℕ) (lists inputs : List (List ℕ)) → AreInputs input lists inputs → length inputs ≡ suc (length lists)
inputs-count input lists [] p = absurd p
inputs-count input lists (x ∷ inputs) p = ap (λ (n : ℕ). suc n) (made-count lists input inputs p.1)

made-short :
    (lists : List (List ℕ)) (input : List ℕ) (inputs : List (List ℕ))
    → length input ≤ longest_input → AreMade input lists inputs → AllByRecursion (λ i. length i ≤ longest_input) inputs
made-short [] input [] short p = tt
made-short [] input (x ∷ inputs) short p = absurd p
made-short (list ∷ lists) input [] short p = tt
made-short (list ∷ lists) input (x ∷ inputs) short p =
    let next = stays_short p.0.edits input x short p.0.done in
    (next, made-short lists x inputs next p.1)

pub inputs-short :
    (input : List ℕ) (lists inputs : List (List ℕ))
    → length input ≤ longest_input → AreInputs input lists inputs
    → AllByRecursion (λ i. length i ≤ longest_input) inputs
inputs-short input lists [] short p = tt
inputs-short input lists (x ∷ inputs) short p =
    (subst (λ (i : List ℕ). length i ≤ longest_input) (sym p.0) short, made-short lists input inputs short p.1)

-- the same, as the laws of rounds state it
pub inputs-are-short :
    (input : List ℕ) (lists inputs : List (List ℕ))
    → length input ≤ longest_input → AreInputs input lists inputs → AreShort inputs
inputs-are-short input lists inputs short are =
    All-from_recursion (λ i. length i ≤ longest_input) inputs (inputs-short input lists inputs short are)

-- one more list
made-more :
    (lists : List (List ℕ)) (input : List ℕ) (inputs : List (List ℕ)) (current list next : List ℕ)
    → AreMade input lists inputs → slice_get (input ∷ inputs) (length lists) ≡ Some current → Makes list current next
    → AreMade input (lists ++ list ∷ []) (inputs ++ next ∷ [])
made-more [] input [] current list next p last makes =
    (subst (λ (i : List ℕ). Makes list i next) (sym (same_Some input current last)) makes, tt)
made-more [] input (x ∷ inputs) current list next p last makes = absurd p
made-more (l ∷ lists) input [] current list next p last makes = absurd p
made-more (l ∷ lists) input (x ∷ inputs) current list next p last makes =
    (p.0, made-more lists x inputs current list next p.1 last makes)

refused-more :
    (lists : List (List ℕ)) (input : List ℕ) (inputs : List (List ℕ)) (current list : List ℕ) (why : Refusal)
    (later : List (List ℕ))
    → AreMade input lists inputs → slice_get (input ∷ inputs) (length lists) ≡ Some current → Refuses list current why
    → IsFirstRefused input (lists ++ list ∷ later) (length lists) why
refused-more [] input inputs current list why later p last refuses =
    subst (λ (i : List ℕ). Refuses list i why) (sym (same_Some input current last)) refuses
refused-more (l ∷ lists) input [] current list why later p last refuses = absurd p
refused-more (l ∷ lists) input (x ∷ inputs) current list why later p last refuses =
    (x, p.0, refused-more lists x inputs current list why later p.1 last refuses)

pub inputs-more :
    (input : List ℕ) (lists inputs : List (List ℕ)) (current list next : List ℕ)
    → AreInputs input lists inputs → slice_get inputs (length lists) ≡ Some current → Makes list current next
    → AreInputs input (lists ++ list ∷ []) (inputs ++ next ∷ [])
inputs-more input lists [] current list next are last makes = absurd are
inputs-more input lists (x ∷ inputs) current list next are last makes = (
  are.0,
  made-more lists input inputs current list next are.1
      (subst (λ (i : List ℕ). slice_get (i ∷ inputs) (length lists) ≡ Some current) are.0 last) makes,
)

pub inputs-refused :
    (input : List ℕ) (lists inputs : List (List ℕ)) (current list : List ℕ) (why : Refusal) (later : List (List ℕ))
    → AreInputs input lists inputs → slice_get inputs (length lists) ≡ Some current → Refuses list current why
    → IsFirstRefused input (lists ++ list ∷ later) (length lists) why
inputs-refused input lists [] current list why later are last refuses = absurd are
inputs-refused input lists (x ∷ inputs) current list why later are last refuses =
    refused-more lists input inputs current list why later are.1
    (subst (λ (i : List ℕ). slice_get (i ∷ inputs) (length lists) ≡ Some current) are.0 last) refuses

-- without lists the first input is all
pub only-input : (input : List ℕ) (inputs : List (List ℕ)) → AreInputs input [] inputs → inputs ≡ input ∷ []
only-input input [] are = absurd are
only-input input (x ∷ []) are = ap (λ (i : List ℕ). i ∷ []) are.0
only-input input (x ∷ y ∷ inputs) are = absurd are.1

-- the inputs of a rerun
pub rerun-one :
    (input : List ℕ) (lists a b : List (List ℕ)) → AreRerunInputs input lists a → AreRerunInputs input lists b → a ≡ b
rerun-one input [] a b p q = p ∙ sym q
rerun-one input (list ∷ lists) a b p q = made-one (list ∷ lists) input a b p q

pub rerun-unrefused :
    (input : List ℕ) (lists inputs : List (List ℕ)) (place : ℕ) (why : Refusal)
    → AreRerunInputs input lists inputs → IsFirstRefused input lists place why → ⊥
rerun-unrefused input [] inputs place why p q = q
rerun-unrefused input (list ∷ lists) inputs place why p q = made-unrefused (list ∷ lists) input inputs place why p q

pub rerun-or-refused :
    (input : List ℕ) (lists : List (List ℕ))
    → ((inputs : List (List ℕ)) × AreRerunInputs input lists inputs)
    ⊎ ((place : ℕ) × (why : Refusal) × IsFirstRefused input lists place why)
rerun-or-refused input [] = inl (input ∷ [], refl)
rerun-or-refused input (list ∷ lists) = made-or-refused (list ∷ lists) input

pub rerun-count :
    (input : List ℕ) (lists inputs : List (List ℕ)) → AreRerunInputs input lists inputs
    → length inputs ≡ max 1 (length lists)
rerun-count input [] inputs p = ap (λ (is : List (List ℕ)). length is) p
rerun-count input (list ∷ lists) inputs p = let count = made-count (list ∷ lists) input inputs p in omega arith

pub rerun-short :
    (input : List ℕ) (lists inputs : List (List ℕ))
    → length input ≤ longest_input → AreRerunInputs input lists inputs
    → AllByRecursion (λ i. length i ≤ longest_input) inputs
rerun-short input [] inputs short p =
    subst (λ (is : List (List ℕ)). AllByRecursion (λ i. length i ≤ longest_input) is) (sym p) (short, tt)
rerun-short input (list ∷ lists) inputs short p = made-short (list ∷ lists) input inputs short p

pub rerun-are-short :
    (input : List ℕ) (lists inputs : List (List ℕ))
    → length input ≤ longest_input → AreRerunInputs input lists inputs → AreShort inputs
rerun-are-short input lists inputs short are =
    All-from_recursion (λ i. length i ≤ longest_input) inputs (rerun-short input lists inputs short are)

pub rerun-later :
    (input start : List ℕ) (lists inputs : List (List ℕ))
    → lists ≢ [] → AreInputs input lists (start ∷ inputs) → AreRerunInputs input lists inputs
rerun-later input start [] inputs some are = absurd (some refl)
rerun-later input start (list ∷ lists) inputs some are = are.1

pub rerun-alone :
    (input : List ℕ) (inputs : List (List ℕ)) → AreInputs input [] inputs → AreRerunInputs input [] inputs
rerun-alone input inputs are = only-input input inputs are
