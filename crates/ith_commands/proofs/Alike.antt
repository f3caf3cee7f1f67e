-- If there is no first difference, there is none at all.
use Rattle.std.proofs.Common.{◌≡◌, ◌+◌, ◌<◌, ◌==◌, ℕ, Bool, true, false, not, cond, List, [], ◌∷◌, length, set, get_or, All, Some, None, refl, ap, sym, ◌∙◌, subst, arith}
use Rattle.std.specs.List.{position_from, zip}
use Rattle.std.specs.Str.{bytes_eq}
use Rattle.std.proofs.lemmas.Bool.{eqb-true}
use Rattle.std.proofs.lemmas.List.Elements.{All-head, All-tail}
use Rattle.std.proofs.lemmas.Slice.Eq.{bytes_eq-Decides}
use Rattle.std.proofs.lemmas.Iterator.Adapters.{position_from-zero}
use Rattle.std.proofs.Math.ListN.{length-set}
use Rattle.isa_spec.specs.Registers.{Registers, same_registers}
use Rattle.isa_spec.proofs.Equality.{same_registers-refl}
use Rattle.memory_spec.specs.Pages.{Memory, page_of}
use Rattle.thunk_spec.specs.Reads.{ReadPage, has}
use Rattle.round_report.specs.Differences.{numbered, first_difference, first_other_page}

-- lists of one length whose pairs don't differ are the same
same-from :
    (xs ys : List ℕ) (i : ℕ) → length xs ≡ length ys → position_from (λ p. not (p.0 == p.1)) i (zip xs ys) ≡ None
    → xs ≡ ys
same-from [] [] i count none = refl
same-from [] (y ∷ ys) i count none = absurd (omega arith)
same-from (x ∷ xs) [] i count none = absurd (omega arith)
same-from (x ∷ xs) (y ∷ ys) i count none =
    by (x == y) refl (λ rest. same-from xs ys (i + 1) (omega arith) rest)
  where
    by :
        (b : Bool) → (x == y) ≡ b
        → (position_from (λ p. not (p.0 == p.1)) (i + 1) (zip xs ys) ≡ None → xs ≡ ys)
        → x ∷ xs ≡ y ∷ ys
    by true is more =
        let first : x ≡ y = eqb-true x y is in
        let rest : xs ≡ ys =
        more (sym (ap (λ (b : Bool). cond (not b) (Some i) (position_from (λ p. not (p.0 == p.1)) (i + 1) (zip xs ys))) is)
        ∙ none) in
        cc
    by false is more =
        let no : Some i ≡ None =
        sym (ap (λ (b : Bool). cond (not b) (Some i) (position_from (λ p. not (p.0 == p.1)) (i + 1) (zip xs ys))) is)
        ∙ none in
        cc no

pub same-lists : (xs ys : List ℕ) → length xs ≡ length ys → first_difference xs ys ≡ None → xs ≡ ys
same-lists xs ys count none =
    same-from xs ys 0 count (sym (position_from-zero (λ p. not (p.0 == p.1)) (zip xs ys)) ∙ none)

-- registers without a difference are the same
numbered-same :
    (x y : List ℕ) (p q : ℕ) → length x ≡ 32 → length y ≡ 32 → get_or x 0 0 ≡ 0 → get_or y 0 0 ≡ 0
    → set x 0 p ≡ set y 0 q
    → (p ≡ q) × (x ≡ y)
numbered-same [] y p q long_x long_y zero_x zero_y e = absurd (omega arith)
numbered-same (a ∷ x) [] p q long_x long_y zero_x zero_y e = absurd (omega arith)
numbered-same (a ∷ x) (b ∷ y) p q long_x long_y zero_x zero_y e =
    let pcs : p ≡ q = cc in let rest : x ≡ y = cc in let firsts : a ≡ b = zero_x ∙ sym zero_y in (pcs, cc)

pub same-registers :
    (a b : Registers) → length a.x ≡ 32 → length b.x ≡ 32 → get_or a.x 0 0 ≡ 0 → get_or b.x 0 0 ≡ 0
    → first_difference (numbered a) (numbered b) ≡ None
    → same_registers b a ≡ true
same-registers a b long_a long_b zero_a zero_b none =
    let lists : set a.x 0 a.pc ≡ set b.x 0 b.pc =
    same-lists (numbered a) (numbered b) (length-set a.x 0 a.pc ∙ long_a ∙ sym long_b ∙ sym (length-set b.x 0 b.pc)) none in
    let parts = numbered-same a.x b.x a.pc b.pc long_a long_b zero_a zero_b lists in
    let same : b ≡ a = whole b a (sym parts.0) (sym parts.1) in
    subst (λ (r : Registers). same_registers b r ≡ true) same (same_registers-refl b)
  where
    whole : (r s : Registers) → r.pc ≡ s.pc → r.x ≡ s.x → r ≡ s
    whole r s pc x =
        ap (λ (n : ℕ). record { pc = n; x = r.x }) pc ∙ ap (λ (xs : List ℕ). record { pc = s.pc; x = xs }) x

-- a view without another page has all
pub no-other-page :
    (view : Memory) (reads : List ReadPage) → first_other_page view reads ≡ None → has view reads ≡ true
no-other-page view [] none = refl
no-other-page view (p ∷ reads) none =
    by (bytes_eq (page_of view p.slot) p.bytes) refl (λ rest. no-other-page view reads rest)
  where
    by :
        (b : Bool) → bytes_eq (page_of view p.slot) p.bytes ≡ b
        → (first_other_page view reads ≡ None → has view reads ≡ true)
        → has view (p ∷ reads) ≡ true
    by true is more =
        rw is (more (sym (ap (λ (b : Bool). cond (not b) (Some p) (first_other_page view reads)) is) ∙ none))
    by false is more =
        let no : Some p ≡ None =
        sym (ap (λ (b : Bool). cond (not b) (Some p) (first_other_page view reads)) is) ∙ none in
        cc no

-- the first other page is among the read pages, and its bytes differ
pub other-page :
    (view : Memory) (reads : List ReadPage) (p : ReadPage) (n : ℕ) → first_other_page view reads ≡ Some p
    → All (λ (q : ReadPage). q.slot < n) reads
    → (bytes_eq (page_of view p.slot) p.bytes ≡ false) × (p.slot < n)
other-page view [] p n is all = cc is
other-page view (q ∷ reads) p n is all =
    by (bytes_eq (page_of view q.slot) q.bytes) refl
    (λ rest. other-page view reads p n rest (All-tail (λ (r : ReadPage). r.slot < n) q reads all))
  where
    same-page : (a b : ReadPage) → Some a ≡ Some b → a ≡ b
    same-page a b e = cc

    by :
        (b : Bool) → bytes_eq (page_of view q.slot) q.bytes ≡ b
        → (first_other_page view reads ≡ Some p → (bytes_eq (page_of view p.slot) p.bytes ≡ false) × (p.slot < n))
        → (bytes_eq (page_of view p.slot) p.bytes ≡ false) × (p.slot < n)
    by true is_same more =
        more (sym (ap (λ (b : Bool). cond (not b) (Some q) (first_other_page view reads)) is_same) ∙ is)
    by false is_same more =
        let same : q ≡ p =
        same-page q p (sym (ap (λ (b : Bool). cond (not b) (Some q) (first_other_page view reads)) is_same) ∙ is) in (
          subst (λ (r : ReadPage). bytes_eq (page_of view r.slot) r.bytes ≡ false) same is_same,
          subst (λ (r : ReadPage). r.slot < n) same (All-head (λ (r : ReadPage). r.slot < n) q reads all),
        )

-- pages of one length that differ have a difference
pub other-bytes :
    (now was : List ℕ) → length now ≡ length was → bytes_eq now was ≡ false → first_difference now was ≡ None → ⊥
other-bytes now was count other none =
    let same = same-lists now was count none in
    let yes : bytes_eq now was ≡ true = (bytes_eq-Decides now was).1 same in
    cc
