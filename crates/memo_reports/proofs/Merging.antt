-- Two ascending lists of slots, merged.
use Rattle.std.proofs.Common.{◌≡◌, ◌<◌, ◌≤◌, ℕ, zero, suc, Bool, true, false, ◌||◌, eqb, leb, cond, List, [], ◌∷◌, map, drop, get_or, refl, ap, ap₂, sym, ◌∙◌, inl, inr, ◌⊎◌, arith}
use Rattle.std.specs.List.{range_with_len}
use Rattle.std.proofs.lemmas.Bool.{cases_eq, cases_lt, and_parts, leb-true, le-leb, eq-eqb}
use Rattle.std.proofs.lemmas.Bool.Decides.{nat_tests}
use Rattle.thunk_spec.specs.Delta.{PageDelta}
use Rattle.thunk_spec.specs.Reads.{ReadPage}
use Rattle.thunk_spec.specs.Ascending.{deltas_ascend, reads_ascend}
use Rattle.history_spec.specs.Before.{is_in}
use Rattle.history_spec.proofs.Lists.{or-in_left, or-in_right}
use Rattle.memo_reports.specs.declared.races.touches.Touch.{Touch}
use Rattle.memo_reports.specs.Touches.{ascends, touch_in, touches_in}
use Rattle.memo_reports.proofs.Filters.{filter-none, filter-first, map-filter-same}

-- ascending slots

pub ascends-lower : (low lower : ℕ) (ps : List ℕ) → lower ≤ low → ascends low ps ≡ true → ascends lower ps ≡ true
ascends-lower low lower [] less asc = refl
ascends-lower low lower (p ∷ ps) less asc =
    let parts = and_parts (leb low p) (ascends (suc p) ps) asc in
    let above : low ≤ p = leb-true low p parts.0 in
    let is : leb lower p ≡ true = le-leb lower p (omega arith) in
    rw is parts.1

pub ascends-drop : (n : ℕ) (ps : List ℕ) → ascends 0 ps ≡ true → ascends 0 (drop n ps) ≡ true
ascends-drop zero ps asc = asc
ascends-drop (suc n) [] asc = refl
ascends-drop (suc n) (p ∷ ps) asc =
    let parts = and_parts (leb 0 p) (ascends (suc p) ps) asc in
    ascends-drop n ps (ascends-lower (suc p) 0 ps (omega arith) parts.1)

pub absent-below : (low : ℕ) (ps : List ℕ) (p : ℕ) → ascends low ps ≡ true → p < low → is_in p ps ≡ false
absent-below low [] p asc below = refl
absent-below low (k ∷ ps) p asc below =
    let parts = and_parts (leb low k) (ascends (suc k) ps) asc in
    let above : low ≤ k = leb-true low k parts.0 in
    let no : eqb k p ≡ false = grind (arith, nat_tests) in
    rw no (absent-below (suc k) ps p parts.1 (omega arith))

pub reads-ascend : (low : ℕ) (pages : List ReadPage)
    → reads_ascend low pages ≡ true → ascends low (map (λ (p : ReadPage). p.slot) pages) ≡ true
reads-ascend low [] asc = refl
reads-ascend low (p ∷ pages) asc =
    let parts = and_parts (leb low p.slot) (reads_ascend (suc p.slot) pages) asc in
    rw parts.0 (reads-ascend (suc p.slot) pages parts.1)

pub deltas-ascend : (low : ℕ) (pages : List PageDelta)
    → deltas_ascend low pages ≡ true → ascends low (map (λ (d : PageDelta). d.slot) pages) ≡ true
deltas-ascend low [] asc = refl
deltas-ascend low (d ∷ pages) asc =
    let parts = and_parts (leb low d.slot) (deltas_ascend (suc d.slot) pages) asc in
    rw parts.0 (deltas-ascend (suc d.slot) pages parts.1)

-- the rest of a list of ascending slots without a slot, which is no greater than its first one
record IsTaken (pages slot : ℕ) (ps left : List ℕ) : Type 0 where
  pub below : (p : ℕ) → p < slot → is_in p ps ≡ false
  pub here : is_in slot ps ≡ eqb (get_or ps 0 pages) slot
  pub gone : (p : ℕ) → p ≤ slot → is_in p left ≡ false
  pub same : (p : ℕ) → slot < p → is_in p ps ≡ is_in p left

taken-from :
    (pages slot : ℕ) (ps : List ℕ)
    → ascends 0 ps ≡ true → slot < pages → slot ≤ get_or ps 0 pages
    → IsTaken pages slot ps (drop (cond (eqb (get_or ps 0 pages) slot) 1 0) ps)
taken-from pages slot [] asc less low =
    let no : eqb pages slot ≡ false = grind (arith, nat_tests) in
    record {
      below = λ p b. refl;
      here = sym no;
      gone = λ p b. ap (λ (c : Bool). is_in p (drop (cond c 1 0) [])) no;
      same = λ p b. sym (ap (λ (c : Bool). is_in p (drop (cond c 1 0) [])) no);
    }
taken-from pages slot (k ∷ ps) asc less low =
    let parts = and_parts (leb 0 k) (ascends (suc k) ps) asc in
    let rest : (p : ℕ) → p ≤ k → is_in p ps ≡ false = λ p b. absent-below (suc k) ps p parts.1 (omega arith) in
    elim (cases_eq k slot) [
      | inl is ↦
          let yes : eqb k slot ≡ true = eq-eqb k slot is in
          record {
            below = λ p b. (let no : eqb k p ≡ false = grind (arith, nat_tests) in rw no (rest p (omega arith)));
            here = rw yes refl;
            gone = λ p b. rw yes (rest p (omega arith));
            same = λ p b. (let no : eqb k p ≡ false = grind (arith, nat_tests) in rw (yes, no) refl);
          }
      | inr other ↦
          let no : eqb k slot ≡ false = grind (arith, nat_tests) in
          let whole : (p : ℕ) → p ≤ slot → is_in p (k ∷ ps) ≡ false =
          λ p b. (let isnt : eqb k p ≡ false = grind (arith, nat_tests) in rw isnt (rest p (omega arith))) in
          record {
            below = λ p b. whole p (omega arith);
            here = whole slot (omega arith) ∙ sym no;
            gone = λ p b. rw no (whole p b);
            same = λ p b. rw no refl;
          }
    ]

none-either : (a b : Bool) → a ≡ false → b ≡ false → (a || b) ≡ false
none-either true b h k = cc
none-either false b h k = k

later : (p slot : ℕ) → (p ≤ slot → ⊥) → slot < p
later p slot not_below =
    elim (cases_lt slot p) [
      | inl is ↦ is
      | inr isnt ↦ absurd (not_below isnt)
    ]

-- a page that is touched
abbrev pub touch : ℕ → Bool → Touch
touch slot writes = record { slot = slot; writes = writes }

-- the smallest slot of two lists is the first page of both
pub first-merged :
    (pages slot : ℕ) (reads written : List ℕ)
    → ascends 0 reads ≡ true → ascends 0 written ≡ true
    → slot < pages → slot ≤ get_or reads 0 pages → slot ≤ get_or written 0 pages
    → (slot ≡ get_or reads 0 pages) ⊎ (slot ≡ get_or written 0 pages)
    → touches_in pages reads written
    ≡ touch slot (eqb (get_or written 0 pages) slot)
    ∷ touches_in pages (drop (cond (eqb (get_or reads 0 pages) slot) 1 0) reads)
    (drop (cond (eqb (get_or written 0 pages) slot) 1 0) written)
first-merged pages slot reads written asc_r asc_w less low_r low_w one =
    let r = taken-from pages slot reads asc_r less low_r in
    let w = taken-from pages slot written asc_w less low_w in
    let next_r = drop (cond (eqb (get_or reads 0 pages) slot) 1 0) reads in
    let next_w = drop (cond (eqb (get_or written 0 pages) slot) 1 0) written in
    let is : (is_in slot written || is_in slot reads) ≡ true =
    elim one [
      | inl same ↦
          or-in_right (is_in slot written) (is_in slot reads)
          (r.here ∙ eq-eqb (get_or reads 0 pages) slot (sym same))
      | inr same ↦
          or-in_left (is_in slot written) (is_in slot reads)
          (w.here ∙ eq-eqb (get_or written 0 pages) slot (sym same))
    ] in
    ap (map (touch_in written))
    (filter-first (λ p. is_in p written || is_in p reads) (λ p. is_in p next_w || is_in p next_r) 0 pages slot
    (omega arith) (omega arith) is
    (λ p b. none-either (is_in p written) (is_in p reads) (w.below p b) (r.below p b))
    (λ p b. none-either (is_in p next_w) (is_in p next_r) (w.gone p b) (r.gone p b))
    (λ p b. ap₂ (λ (a c : Bool). a || c) (w.same p b) (r.same p b)))
    ∙ ap₂ (λ (b : Bool) (ts : List Touch). touch slot b ∷ ts) w.here
    (map-filter-same (touch_in written) (touch_in next_w) (λ p. is_in p next_w || is_in p next_r)
    (range_with_len 0 pages)
    (λ p there. ap (touch p)
    (w.same p (later p slot (λ b.
    (let none = none-either (is_in p next_w) (is_in p next_r) (w.gone p b) (r.gone p b) in cc))))))

pub none-merged : (pages : ℕ) → touches_in pages [] [] ≡ []
none-merged pages = ap (map (touch_in [])) (filter-none (λ p. false) 0 pages (λ p lo hi. refl))
