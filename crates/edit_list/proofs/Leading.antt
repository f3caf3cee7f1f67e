-- What lists of edits make of an input, one after the other, up to the last input.
use Rattle.std.proofs.Common.{◌≡◌, ℕ, suc, List, [], ◌∷◌, ◌++◌, length, slice_get, Some, Ok, Result, refl, ap, ◌∙◌}
use Rattle.std.specs.Result.{result_unwrap_or}
use Rattle.edit_spec.specs.Edit.{LineEdit}
use Rattle.edit_spec.specs.Editing.{edited}
use Rattle.edit_list.specs.Pending.{inputs_from, CanBeDone}

-- lists of edits, applied one after the other, make the last input from the first
abbrev pub Leads : List (List LineEdit) → List ℕ → List ℕ → Type 0
Leads [] input last = input ≡ last
Leads (edits ∷ lists) input last = (next : List ℕ) × (edited edits input ≡ Ok next) × Leads lists next last

-- one input for each list, and the first
pub inputs-count :
    (lists : List (List LineEdit)) (input : List ℕ)
    → length (inputs_from lists input) ≡ suc (length lists)
inputs-count [] input = refl
inputs-count (edits ∷ lists) input =
    ap (λ (n : ℕ). suc n) (inputs-count lists (result_unwrap_or (edited edits input) input))

-- they can be applied
pub leads-done : (lists : List (List LineEdit)) (input last : List ℕ) → Leads lists input last → CanBeDone lists input
leads-done [] input last leads = tt
leads-done (edits ∷ lists) input last leads = (leads.0, leads.1, leads-done lists leads.0 last leads.2)

-- what a list that can be applied makes
made-is :
    (edits : List LineEdit) (input next : List ℕ) → edited edits input ≡ Ok next
    → result_unwrap_or (edited edits input) input ≡ next
made-is edits input next done = ap (λ (made : Result (List ℕ) ℕ). result_unwrap_or made input) done

-- the last input is there
pub leads-last :
    (lists : List (List LineEdit)) (input last : List ℕ)
    → Leads lists input last → slice_get (inputs_from lists input) (length lists) ≡ Some last
leads-last [] input last leads = ap (λ (i : List ℕ). Some i) leads
leads-last (edits ∷ lists) input last leads =
    ap (λ (i : List ℕ). slice_get (inputs_from lists i) (length lists)) (made-is edits input leads.0 leads.1)
    ∙ leads-last lists leads.0 last leads.2

-- one more list
pub leads-more :
    (lists : List (List LineEdit)) (edits : List LineEdit) (input last next : List ℕ)
    → Leads lists input last → edited edits last ≡ Ok next → Leads (lists ++ edits ∷ []) input next
leads-more [] edits input last next leads done = (next, ap (edited edits) leads ∙ done, refl)
leads-more (es ∷ lists) edits input last next leads done =
    (leads.0, leads.1, leads-more lists edits leads.0 last next leads.2 done)

pub inputs_from-more :
    (lists : List (List LineEdit)) (edits : List LineEdit) (input last next : List ℕ)
    → Leads lists input last → edited edits last ≡ Ok next → inputs_from (lists ++ edits ∷ []) input
    ≡ inputs_from lists input ++ next ∷ []
inputs_from-more [] edits input last next leads done =
    ap (λ (i : List ℕ). input ∷ i ∷ []) (made-is edits input next (ap (edited edits) leads ∙ done))
inputs_from-more (es ∷ lists) edits input last next leads done =
    let made = made-is es input leads.0 leads.1 in
    let rest = inputs_from-more lists edits leads.0 last next leads.2 done in
    rw made (ap (λ (is : List (List ℕ)). input ∷ is) rest)
