-- Edits applied one after the other to a buffer that shows what later edits keep.
use Rattle.std.proofs.Common.{◌≡◌, ◌<◌, ℕ, min, false, List, [], ◌∷◌, length, drop, map, slice_index_or, Result, Ok, refl, ap, sym, subst, ◌∙◌, arith}
use Rattle.std.proofs.lemmas.List.{drop-map, length-map}
use Rattle.edit_spec.specs.Edit.{LineEdit}
use Rattle.edit_spec.specs.Editing.{edited, edited_once, is_out_of_range}
use Rattle.edit_list.specs.declared.edits.LineEdit.{LineEdit as Kept}
use Rattle.edit_list.specs.Said.{line_said}
use Rattle.edit_list.specs.Lengths.{new_length, lesser, least, leasts}
use Rattle.edit_list.specs.Showing.{Shows}
use Rattle.edit_list.proofs.Lengths.{first-least, get_or-leasts, length-edited_once}
use Rattle.edit_list.proofs.Showing.{shown-whole}

-- a buffer shows an input of this length that the other edits turn into the whole
abbrev pub IsAt : List LineEdit → List ℕ → ℕ → ℕ → Result (List ℕ) ℕ → Type 0
IsAt edits buffer current last whole =
    (now : List ℕ) × (length now ≡ current) × (edited edits now ≡ whole)
    × Shows buffer now (min current (least edits last))

-- what an edit does to a buffer, with the least length that it and the later ones leave
abbrev pub DoesEdit : LineEdit → List ℕ → List ℕ → ℕ → ℕ → ℕ → Type 0
DoesEdit e before after current result here =
    (input : List ℕ) (rest : ℕ) → length input ≡ current → is_out_of_range e.edit current ≡ false → here
    ≡ lesser e.edit rest
    → Shows before input (min current here) → Shows after (edited_once e.edit input) (min result rest)

pub one-edit :
    (e : LineEdit) (edits : List LineEdit) (before after : List ℕ) (current result here last : ℕ)
    (whole : Result (List ℕ) ℕ)
    → is_out_of_range e.edit current ≡ false → result ≡ new_length e.edit current → here ≡ least (e ∷ edits) last
    → DoesEdit e before after current result here
    → IsAt (e ∷ edits) before current last whole → IsAt edits after result last whole
one-edit e edits before after current result here last whole within count at does is =
    let inside : is_out_of_range e.edit (length is.0) ≡ false = rw is.1 within in
    let size : length (edited_once e.edit is.0) ≡ result =
    length-edited_once e.edit is.0 inside ∙ ap (new_length e.edit) is.1 ∙ sym count in
    let goes : edited (e ∷ edits) is.0 ≡ edited edits (edited_once e.edit is.0) = rw inside refl in
    let shown = subst (λ (n : ℕ). Shows before is.0 (min current n)) (sym at) is.3 in
    (edited_once e.edit is.0, size, sym goes ∙ is.2, does is.0 (least edits last) is.1 within at shown)

-- at the end the buffer is the input
pub all-edits :
    (buffer : List ℕ) (current last : ℕ) (whole : Result (List ℕ) ℕ) → current ≡ last → length buffer ≡ last
    → IsAt [] buffer current last whole → whole ≡ Ok buffer
all-edits buffer current last whole comes size is =
    let same : is.0 ≡ buffer =
    shown-whole buffer is.0 (min current last) (omega (arith, is.1)) (omega (arith, is.1)) is.3 in
    sym is.2 ∙ ap (λ (x : List ℕ). Ok x) same

-- the least lengths, as the code has them
pub kept-is :
    (lengths : List ℕ) (edits : List LineEdit) (most kept : ℕ) → lengths ≡ leasts edits most
    → kept ≡ slice_index_or lengths 0 most
    → kept ≡ least edits most
kept-is lengths edits most kept are is =
    is ∙ ap (λ (ls : List ℕ). slice_index_or ls 0 most) are ∙ first-least edits most

pub least-at :
    (lengths : List ℕ) (lines : List Kept) (most place : ℕ) → lengths ≡ leasts (map line_said lines) most
    → place < length lines
    → slice_index_or lengths place 0 ≡ least (map line_said (drop place lines)) most
least-at lengths lines most place are under =
    let within : place < length (map line_said lines) = omega (arith, length-map lines line_said) in
    ap (λ (ls : List ℕ). slice_index_or ls place 0) are
    ∙ get_or-leasts (map line_said lines) most place 0 within
    ∙ ap (λ (es : List LineEdit). least es most) (drop-map line_said place lines)
