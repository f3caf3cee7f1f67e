-- One more list: it makes the next input, or it is the first that is refused.
use Rattle.std.proofs.Common.{◌≡◌, ◌<◌, ℕ, ◌+◌, List, [], ◌∷◌, ◌++◌, length, take, drop, get_or, slice_get, Some, Ok, Vec, ap, sym, subst, ◌∙◌, arith}
use Rattle.std.specs.Global.{Global}
use Rattle.std.proofs.lemmas.Grind.{common_steps}
use Rattle.std.proofs.lemmas.List.{map_more, take-append-drop, drop_more, map-append}
use Rattle.edit_spec.specs.Edit.{LineEdit}
use Rattle.edit_spec.specs.Editing.{edited}
use Rattle.edit_spec.specs.Grammar.{Says}
use Rattle.rerun_spec.specs.Inputs.{AreInputs, IsFirstRefused}
use Rattle.rerun_spec.proofs.Inputs.{inputs-more, inputs-refused}
use Rattle.edit_list.specs.Pending.{inputs_from}
use Rattle.edit_list.specs.declared.refusal.InputsError.{InputsError}
use Rattle.edit_list.specs.declared.refusal.InputsError.TheVariants.{Refused, NoMemory}
use Rattle.edit_list.specs.Lists.{bytes_of_each}
use Rattle.edit_list.specs.NoInputs.{refusal_of, WhyNotMade, WhyNoInputs}
use Rattle.edit_list.proofs.Leading.{Leads, leads-last, leads-more, inputs_from-more}

-- the lists so far make the inputs so far, and the last of these is known
pub record IsGoing (first : List ℕ) (lists : List (Vec ℕ Global)) (place : ℕ) (later : List (List LineEdit))
    (last : List ℕ) : Type 0 where
  pub made : AreInputs first (bytes_of_each (take place lists)) (inputs_from later first)
  pub leads : Leads later first last
  pub count : length later ≡ place

-- the last of the inputs so far is that of the next round
current-there :
    (first : List ℕ) (lists : List (Vec ℕ Global)) (place : ℕ) (later : List (List LineEdit)) (last : List ℕ)
    → place < length lists → IsGoing first lists place later last
    → slice_get (inputs_from later first) (length (bytes_of_each (take place lists))) ≡ Some last
current-there first lists place later last within going =
    let places : length (bytes_of_each (take place lists)) ≡ place = grind (arith, common_steps) in
    ap (slice_get (inputs_from later first)) (places ∙ sym going.count) ∙ leads-last later first last going.leads

-- a list that makes an input of the last one
pub one-more :
    (first : List ℕ) (lists : List (Vec ℕ Global)) (place : ℕ) (later : List (List LineEdit)) (last next : List ℕ)
    (list : Vec ℕ Global) (edits : List LineEdit)
    → place < length lists → list ≡ get_or lists place list → IsGoing first lists place later last
    → Says list.items (Ok edits) → edited edits last ≡ Ok next
    → IsGoing first lists (place + 1) (later ++ edits ∷ []) next
one-more first lists place later last next list edits within at going said done =
    let more =
    inputs-more first (bytes_of_each (take place lists)) (inputs_from later first) last list.items next going.made
    (current-there first lists place later last within going) (record { edits = edits; said = said; done = done }) in
    let taken : bytes_of_each (take (place + 1) lists) ≡ bytes_of_each (take place lists) ++ list.items ∷ [] =
    map_more (λ v. v.items) lists place list within
    ∙ ap (λ (v : Vec ℕ Global). bytes_of_each (take place lists) ++ v.items ∷ []) (sym at) in
    let count : length (later ++ edits ∷ []) ≡ place + 1 = let before = going.count in grind (arith, common_steps) in
    record {
      made = rw (taken, inputs_from-more later edits first last next going.leads done) more;
      leads = leads-more later edits first last next going.leads done;
      count = count;
    }

-- a list that is refused on the last one
pub refused-there :
    (first : List ℕ) (lists : List (Vec ℕ Global)) (place : ℕ) (later : List (List LineEdit)) (last : List ℕ)
    (list : Vec ℕ Global) (error : InputsError)
    → place < length lists → list ≡ get_or lists place list → IsGoing first lists place later last
    → WhyNotMade place list.items last error
    → WhyNoInputs first (bytes_of_each lists) error
refused-there first lists place later last list (Refused number line why) within at going refuses =
    let current = current-there first lists place later last within going in
    let behind = bytes_of_each (drop (place + 1) lists) in
    let there = inputs-refused first (bytes_of_each (take place lists)) (inputs_from later first) last list.items
    (refusal_of line why) behind going.made current refuses.1 in
    let places : length (bytes_of_each (take place lists)) ≡ number =
    let size : length (bytes_of_each (take place lists)) ≡ place = grind (arith, common_steps) in
    size ∙ sym refuses.0 in
    let rest : drop place lists ≡ list ∷ drop (place + 1) lists =
    drop_more lists place list within ∙ ap (λ (v : Vec ℕ Global). v ∷ drop (place + 1) lists) (sym at) in
    let whole : bytes_of_each (take place lists) ++ list.items ∷ behind ≡ bytes_of_each lists =
    sym (map-append (λ v. v.items) (take place lists) (list ∷ drop (place + 1) lists))
    ∙ ap (λ (vs : List (Vec ℕ Global)). bytes_of_each (take place lists ++ vs)) (sym rest)
    ∙ ap bytes_of_each (take-append-drop place lists) in
    subst (λ (n : ℕ). IsFirstRefused first (bytes_of_each lists) n (refusal_of line why)) places
    (subst (λ (ls : List (List ℕ)). IsFirstRefused first ls (length (bytes_of_each (take place lists)))
    (refusal_of line why)) whole there)
refused-there first lists place later last list NoMemory within at going refuses = tt
