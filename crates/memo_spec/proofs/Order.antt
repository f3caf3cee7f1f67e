-- The pool has the different read pages in the order in which they come first.
use Rattle.std.proofs.Common.{◌≡◌, ℕ, zero, suc, ◌<◌, ◌≤◌, Bool, true, false, eqb, ltb, List, [], ◌∷◌, ◌++◌, length, eq-eqb, refl, sym, ap, ◌∙◌, append_assoc, arith, inl, inr}
use Rattle.std.specs.Prelude.{bytes_eq, slice_index_or}
use Rattle.std.specs.List.{fold}
use Rattle.std.proofs.lemmas.Bool.{ltb-true, lt-ltb, le-ltb, ne_eqb, cases_lt}
use Rattle.std.proofs.lemmas.List.{append-nil, length-append}
use Rattle.memo_spec.specs.Encoding.{AreBytes, has_page, with_page, index_in}
use Rattle.memo_spec.specs.Reading.{used_after}
use Rattle.memo_spec.proofs.Pool.{bytes_determine, index_back}

Page : Type 0
Page = List ℕ

abbrev pub Pages : Type 0
Pages = List (List ℕ)

abbrev pub IsOnce : Pages → Type 0
IsOnce pool = (i : ℕ) → i < length pool → index_in pool (slice_index_or pool i []) ≡ i

abbrev pub IsPage : List ℕ → Type 0
IsPage page = (length page ≡ 4096) × AreBytes page

step : (a b : ℕ) → ltb a b ≡ ltb (suc a) (suc b)
step a b = elim (cases_lt a b) [
  | inl lt ↦ lt-ltb a b lt
      ∙ sym (lt-ltb (suc a) (suc b) (omega arith))
  | inr le ↦ le-ltb a b le ∙ sym (le-ltb (suc a) (suc b) (omega arith))
]

-- A page is in the front of a pool exactly if its index is there.
pub has_in_front : (s t : Pages) (page : List ℕ) → has_page s page ≡ ltb (index_in (s ++ t) page) (length s)
has_in_front [] t page = sym (le-ltb (index_in t page) 0 (omega arith))
has_in_front (p ∷ s) t page = elim (bytes_determine page p) [ inl h ↦ here h.0 | inr h ↦ later h.0 (has_in_front s t page) ]
  where
    here : bytes_eq page p ≡ true → has_page (p ∷ s) page ≡ ltb (index_in (p ∷ s ++ t) page) (length (p ∷ s))
    here h = rw h (sym (lt-ltb 0 (suc (length s)) (omega arith)))

    later : bytes_eq page p ≡ false → has_page s page ≡ ltb (index_in (s ++ t) page) (length s)
        → has_page (p ∷ s) page ≡ ltb (index_in (p ∷ s ++ t) page) (length (p ∷ s))
    later h e =
        let k : index_in (p ∷ s ++ t) page ≡ suc (index_in (s ++ t) page) = rw h (omega arith) in
        rw (k, h) (e ∙ step (index_in (s ++ t) page) (length s))

-- A page that is appended to a pool doesn't change the index of another.
pub index_push : (s t : Pages) (page : List ℕ) → index_in s page < length s → index_in (s ++ t) page ≡ index_in s page
index_push [] t page lt = absurd (omega arith)
index_push (p ∷ s) t page lt = elim (bytes_determine page p) [ inl h ↦ here h.0 | inr h ↦ later h.0 (index_push s t page) ]
  where
    here : bytes_eq page p ≡ true → index_in (p ∷ s ++ t) page ≡ index_in (p ∷ s) page
    here h = rw h refl

    later : bytes_eq page p ≡ false → (index_in s page < length s → index_in (s ++ t) page ≡ index_in s page)
        → index_in (p ∷ s ++ t) page ≡ index_in (p ∷ s) page
    later h e =
        let k : index_in (p ∷ s ++ t) page ≡ suc (index_in (s ++ t) page) = rw h (omega arith) in
        let j : index_in (p ∷ s) page ≡ suc (index_in s page) = rw h (omega arith) in
        k ∙ ap suc (e (omega (arith, j, lt))) ∙ sym j

-- The index of a new page that comes last, whatever follows.
pub index_new : (s t : Pages) (page : List ℕ) → has_page s page ≡ false → index_in (s ++ page ∷ t) page ≡ length s
index_new [] t page h = elim (bytes_determine page page) [ inl k ↦ here k.0 | inr k ↦ absurd (k.1 refl) ]
  where
    here : bytes_eq page page ≡ true → index_in (page ∷ t) page ≡ 0
    here k = rw k refl
index_new (p ∷ s) t page h =
    elim (bytes_determine page p) [ inl k ↦ absurd (there k.0 h) | inr k ↦ later k.0 h (index_new s t page) ]
  where
    there : bytes_eq page p ≡ true → has_page (p ∷ s) page ≡ false → ⊥
    there k e = let f : true ≡ false = sym (rw k refl) ∙ e in absurd cc

    later : bytes_eq page p ≡ false → has_page (p ∷ s) page ≡ false
        → (has_page s page ≡ false → index_in (s ++ page ∷ t) page ≡ length s)
        → index_in (p ∷ s ++ page ∷ t) page ≡ length (p ∷ s)
    later k e rest =
        let j : index_in (p ∷ s ++ page ∷ t) page ≡ suc (index_in (s ++ page ∷ t) page) = rw k (omega arith) in
        let f : has_page (p ∷ s) page ≡ has_page s page = rw k refl in
        j ∙ ap suc (rest (sym f ∙ e))

at_front : (s t : Pages) (i : ℕ) → i < length s → slice_index_or (s ++ t) i [] ≡ slice_index_or s i []
at_front [] t i lt = absurd (omega arith)
at_front (p ∷ s) t zero lt = refl
at_front (p ∷ s) t (suc i) lt = at_front s t i (omega arith)

pub at_end : (s t : Pages) (page : List ℕ) → slice_index_or (s ++ page ∷ t) (length s) [] ≡ page
at_end [] t page = refl
at_end (p ∷ s) t page = at_end s t page

pub once_push : (s : Pages) (page : List ℕ) → IsOnce s → has_page s page ≡ false → IsOnce (s ++ page ∷ [])
once_push s page once h i lt = elim (cases_lt i (length s)) [
  | inl less ↦ let e = once i less in
      ap (index_in (s ++ page ∷ [])) (at_front s (page ∷ []) i less) ∙ index_push s (page ∷ []) (slice_index_or s i [])
      (omega (arith, e, less)) ∙ e
  | inr le ↦ let is : i ≡ length s = omega (arith, length-append s (page ∷ []), lt, le) in
      rw is (ap (index_in (s ++ page ∷ [])) (at_end s [] page) ∙ index_new s [] page h)
]

with_once : (s : Pages) (page : List ℕ) → IsOnce s → (b : Bool) → has_page s page ≡ b → IsOnce (with_page s page)
with_once s page once true h = rw h once
with_once s page once false h = rw h (once_push s page once h)

pub fold_once : (ps s : Pages) → IsOnce s → IsOnce (fold with_page s ps)
fold_once [] s once = once
fold_once (p ∷ ps) s once = fold_once ps (with_page s p) (with_once s p once (has_page s p) refl)

with_front : (s : Pages) (page : List ℕ) (b : Bool) → has_page s page ≡ b → (t : Pages) × (with_page s page ≡ s ++ t)
with_front s page true h = ([], rw h (sym (append-nil s)))
with_front s page false h = (page ∷ [], rw h refl)

-- Adding pages to a pool appends to it.
pub fold_front : (ps s : Pages) → (t : Pages) × (fold with_page s ps ≡ s ++ t)
fold_front [] s = ([], sym (append-nil s))
fold_front (p ∷ ps) s =
    let a = with_front s p (has_page s p) refl in
    let b = fold_front ps (with_page s p) in
    (a.0 ++ b.0, b.1 ∙ ap (λ (l : Pages). l ++ b.0) a.1 ∙ append_assoc s a.0 b.0)

-- ---- one more read page

-- The used part of the pool after a page was read, if the used part is its front.
pub read_step : (used rest : Pages) (page : List ℕ) → index_in (used ++ rest) page ≤ length used
    → index_in (used ++ rest) page < length (used ++ rest)
    → (more : Pages) × (with_page used page ++ more ≡ used ++ rest)
    × (length (with_page used page) ≡ used_after (length used) (index_in (used ++ rest) page))
read_step used rest page le lt = elim (cases_lt (index_in (used ++ rest) page) (length used)) [
  | inl less ↦ old less
  | inr more ↦ new rest le lt (omega (arith, le, more))
]
  where
    old : index_in (used ++ rest) page < length used → (more : Pages) × (with_page used page ++ more ≡ used ++ rest)
        × (length (with_page used page) ≡ used_after (length used) (index_in (used ++ rest) page))
    old less =
        let h : has_page used page ≡ true = has_in_front used rest page ∙ lt-ltb _ _ less in
        let n : eqb (index_in (used ++ rest) page) (length used) ≡ false = ne_eqb _ _ (λ e. omega (arith, e, less)) in
        (rest, rw h refl, rw (h, n) refl)

    new : (rest : Pages) → index_in (used ++ rest) page ≤ length used
        → index_in (used ++ rest) page < length (used ++ rest) → index_in (used ++ rest) page ≡ length used
        → (more : Pages) × (with_page used page ++ more ≡ used ++ rest)
        × (length (with_page used page) ≡ used_after (length used) (index_in (used ++ rest) page))
    new [] le lt is = absurd (omega (arith, length-append used [], lt, is))
    new (p ∷ rest) le lt is =
        let h : has_page used page ≡ false = has_in_front used (p ∷ rest) page ∙ le-ltb _ _ (omega (arith, is)) in
        let same : p ≡ page = sym (at_end used rest p) ∙ ap (λ (i : ℕ). slice_index_or (used ++ p ∷ rest) i []) (sym is)
        ∙ index_back (used ++ p ∷ rest) page lt in
        let n : eqb (index_in (used ++ p ∷ rest) page) (length used) ≡ true = rw is (eq-eqb _ _ refl) in (
          rest,
          rw (h, same) (append_assoc used (page ∷ []) rest),
          rw (h, n)
              (omega (arith, length-append used (page ∷ []))),
        )

-- Conversely: a page that is in the pool after it, and what is used then.
pub write_step : (used rest : Pages) (page : List ℕ) (b : Bool) → has_page used page ≡ b
    → (index_in (with_page used page ++ rest) page ≤ length used)
    × (index_in (with_page used page ++ rest) page < length (with_page used page ++ rest))
    × (length (with_page used page) ≡ used_after (length used) (index_in (with_page used page ++ rest) page))
write_step used rest page true h =
    let e : with_page used page ≡ used = rw h refl in
    let less : index_in (used ++ rest) page < length used = ltb-true _ _ (sym (has_in_front used rest page) ∙ h) in
    let n : eqb (index_in (used ++ rest) page) (length used) ≡ false = ne_eqb _ _ (λ e. omega (arith, e, less)) in
    rw e (omega (arith, less), omega (arith, less, length-append used rest), rw n refl)
write_step used rest page false h =
    let e : with_page used page ≡ used ++ page ∷ [] = rw h refl in
    let k : index_in (used ++ page ∷ [] ++ rest) page ≡ length used =
    ap (λ (l : Pages). index_in l page) (append_assoc used (page ∷ []) rest) ∙ index_new used rest page h in
    let n : eqb (index_in (used ++ page ∷ [] ++ rest) page) (length used) ≡ true = rw k (eq-eqb _ _ refl) in
    rw e (
      omega (arith, k),
      omega (arith, k, length-append (used ++ page ∷ []) rest, length-append used (page ∷ [])),
      rw n (omega (arith, length-append used (page ∷ []))),
    )

pub fold_append : (ps qs s : Pages) → fold with_page s (ps ++ qs) ≡ fold with_page (fold with_page s ps) qs
fold_append [] qs s = refl
fold_append (p ∷ ps) qs s = fold_append ps qs (with_page s p)
