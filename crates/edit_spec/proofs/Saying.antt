-- A list encodes one thing.
use Rattle.std.proofs.Common.{◌≡◌, ℕ, List, [], ◌∷◌, Result, Ok, Err, refl, ap, sym, ◌∙◌, inl, inr}
use Rattle.edit_spec.specs.Edit.{Edit, LineEdit}
use Rattle.edit_spec.specs.Grammar.{Line, EncodeAll, IsFirstBad, Say}
use Rattle.edit_spec.proofs.Encoding.{one_edit}

-- edits of the same line that do the same are one
same_line_edit :
    (m n : ℕ) (a b : Edit) → m ≡ n → a ≡ b
    → (let x : LineEdit = record { line = m; edit = a } in x) ≡ record { line = n; edit = b }
same_line_edit m n a b number edit = cc

-- lines encode one list of edits
same_edits : (lines : List Line) (a b : List LineEdit) → EncodeAll lines a → EncodeAll lines b → a ≡ b
same_edits [] [] [] p q = refl
same_edits [] [] (y ∷ b) p q = absurd q
same_edits [] (x ∷ a) b p q = absurd p
same_edits (line ∷ lines) [] b p q = absurd p
same_edits (line ∷ lines) (x ∷ a) [] p q = absurd q
same_edits (line ∷ lines) (x ∷ a) (y ∷ b) p q =
    let edit = one_edit line.1 x.edit y.edit p.0.1 q.0.1 in
    let number : x.line ≡ y.line = cc in
    let rest = same_edits lines a b p.1 q.1 in
    let front : x ≡ y = same_line_edit x.line y.line x.edit y.edit number edit in
    cc

-- if all lines encode edits, none is bad
none_bad : (lines : List Line) (edits : List LineEdit) (number : ℕ) → EncodeAll lines edits → IsFirstBad lines number → ⊥
none_bad [] edits number p q = q
none_bad (line ∷ lines) [] number p q = p
none_bad (line ∷ lines) (e ∷ edits) number p (inl bad) = bad.0 (e.edit, p.0.1)
none_bad (line ∷ lines) (e ∷ edits) number p (inr later) = none_bad lines edits number p.1 later.1

-- one line is the first bad one
same_line : (lines : List Line) (m n : ℕ) → IsFirstBad lines m → IsFirstBad lines n → m ≡ n
same_line [] m n p q = absurd p
same_line (line ∷ lines) m n (inl bad) (inl worse) = bad.1 ∙ sym worse.1
same_line (line ∷ lines) m n (inl bad) (inr later) = absurd (bad.0 later.0)
same_line (line ∷ lines) m n (inr later) (inl bad) = absurd (bad.0 later.0)
same_line (line ∷ lines) m n (inr later) (inr last) = same_line lines m n later.1 last.1

pub one_thing : (lines : List Line) (a b : Result (List LineEdit) ℕ) → Say lines a → Say lines b → a ≡ b
one_thing lines (Ok edits) (Ok others) p q = ap (λ x. Ok x) (same_edits lines edits others p q)
one_thing lines (Ok edits) (Err number) p q = absurd (none_bad lines edits number p q)
one_thing lines (Err number) (Ok edits) p q = absurd (none_bad lines edits number q p)
one_thing lines (Err m) (Err n) p q = ap (λ x. Err x) (same_line lines m n p q)
