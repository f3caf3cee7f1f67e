-- Stored bytes, compared by writing those of one over those of the other.
use Rattle.std.proofs.Common.{◌≡◌, ℕ, ◌≤◌, Bool, true, false, List, [], ◌∷◌, length, Decides, refl, sym, ap, ◌∙◌, arith}
use Rattle.thunk_spec.specs.Delta.{PageDelta, chosen, spread}

-- the bytes written at the places of a mask are there
pub chosen-spread : (m : List Bool) (p q : List ℕ) → length m ≤ length p → length p ≡ length q
    → chosen m (spread m (chosen m p) q) ≡ chosen m p
chosen-spread [] p q few same = refl
chosen-spread (mark ∷ m) [] q few same = absurd (omega arith)
chosen-spread (mark ∷ m) (x ∷ p) [] few same = absurd (omega arith)
chosen-spread (false ∷ m) (x ∷ p) (y ∷ q) few same = chosen-spread m p q (omega arith) (omega arith)
chosen-spread (true ∷ m) (x ∷ p) (y ∷ q) few same =
    ap (λ (bytes : List ℕ). x ∷ bytes) (chosen-spread m p q (omega arith) (omega arith))

-- a page's own bytes change nothing
pub spread-own : (m : List Bool) (q : List ℕ) → spread m (chosen m q) q ≡ q
spread-own [] q = refl
spread-own (mark ∷ m) [] = refl
spread-own (false ∷ m) (y ∷ q) = ap (λ (bytes : List ℕ). y ∷ bytes) (spread-own m q)
spread-own (true ∷ m) (y ∷ q) = ap (λ (bytes : List ℕ). y ∷ bytes) (spread-own m q)

-- The stored bytes of a page, by its slot, the mask and a page that has the bytes.
abbrev pub Delta : ℕ → List Bool → List ℕ → PageDelta
Delta slot mask page = record { slot = slot; mask = mask; bytes = chosen mask page }

-- stored bytes are the same if slots and masks are, and writing those of one over those of the other changes nothing
pub delta_same :
    (d e : PageDelta) (m n : List Bool) (p q after : List ℕ) (answer : Bool)
    → d ≡ Delta d.slot m p → e ≡ Delta e.slot n q → d.slot ≡ e.slot → m ≡ n
    → length m ≡ 4096 → length p ≡ 4096 → length q ≡ 4096
    → after ≡ spread m (chosen m p) q → Decides answer (after ≡ q) → Decides answer (d ≡ e)
delta_same d e m n p q after answer is_d is_e slots masks lm lp lq written decides =
    let over : spread m (chosen m p) q ≡ after = sym written in (
      λ yes.
          let bytes : chosen m p ≡ chosen m q =
          sym (chosen-spread m p q (omega (arith, lm, lp)) (lp ∙ sym lq))
          ∙ ap (chosen m) (over ∙ decides.0 yes) in
          is_d ∙ ap (λ (b : List ℕ). record { slot = d.slot; mask = m; bytes = b }) bytes
          ∙ ap (λ (s : ℕ). Delta s m q) slots ∙ ap (λ (k : List Bool). Delta e.slot k q) masks ∙ sym is_e,
      λ same.
          let bytes : chosen m p ≡ chosen m q =
          ap (λ (x : PageDelta). x.bytes) (sym is_d) ∙ ap (λ (x : PageDelta). x.bytes) same
          ∙ ap (λ (x : PageDelta). x.bytes) is_e ∙ ap (λ (k : List Bool). chosen k q) (sym masks) in
          decides.1 (sym over ∙ ap (λ (b : List ℕ). spread m b q) bytes ∙ spread-own m q),
    )
