-- The accesses of one thread to a page, and those of all.
use Rattle.std.proofs.Common.{◌≡◌, ◌<◌, ◌≤◌, ◌+◌, ℕ, Bool, true, false, ◌&&◌, ◌||◌, not, eqb, ltb, leb, List, [], ◌∷◌, ◌++◌, All, length, take, get_or, set, slice_index, refl, ap, sym, ◌∙◌, subst, arith}
use Rattle.std.specs.List.{AllByRecursion, filter, flat_map, count_by}
use Rattle.std.proofs.lemmas.Bool.{leb-true, eq-eqb, and_parts}
use Rattle.std.proofs.lemmas.List.{take_more}
use Rattle.std.proofs.lemmas.List.Concat.{flat_map-append}
use Rattle.std.proofs.lemmas.List.Elements.{recursion_from_All, All-from_recursion}
use Rattle.std.proofs.lemmas.List.Sums.{sum_by-set, get_or-le-sum_by, sum_by_more_le}
use Rattle.memo_reports.specs.declared.races.steps.Step.{Step}
use Rattle.memo_reports.specs.declared.races.past.Access.{Access}
use Rattle.memo_reports.specs.declared.races.past.ThreadPast.{ThreadPast}
use Rattle.memo_reports.specs.declared.races.past.PagePast.{PagePast}
use Rattle.memo_reports.specs.Past.{IsThreadPast, IsPagePast, races_with, IsAfter, is_misplaced}
use Rattle.memo_reports.proofs.Tally.{bit, filter-same, filter-both, count-flat, count-append, count-cons, none-counted}

-- what one element of a list has, each has
all-same :
    {X : Type 0} (P Q : X → Type 0) (xs : List X) → ((x : X) → P x → Q x) → AllByRecursion P xs → AllByRecursion Q xs
all-same P Q [] more all = tt
all-same P Q (x ∷ xs) more all = (more x all.0, all-same P Q xs more all.1)

-- which accesses of a thread race with one of a later step

reported-apart :
    (s : Step) (w : Bool) (t : ℕ) (a : Access) → a.thread ≡ t → eqb t s.thread ≡ false
    → ((w || a.writes) && not (ltb a.number (slice_index s.seen t))) ≡ races_with s w a
reported-apart s w t a is apart =
    let no : eqb a.thread s.thread ≡ false = ap (λ (u : ℕ). eqb u s.thread) is ∙ apart in
    rw no (ap (λ (u : ℕ). (w || a.writes) && not (ltb a.number (slice_index s.seen u))) (sym is))

reported-same :
    (s : Step) (w : Bool) (t : ℕ) (a : Access) → a.thread ≡ t → eqb t s.thread ≡ true → false ≡ races_with s w a
reported-same s w t a is same =
    let yes : eqb a.thread s.thread ≡ true = ap (λ (u : ℕ). eqb u s.thread) is ∙ same in
    rw yes refl

filter-nothing : {X : Type 0} (xs : List X) → filter (λ (x : X). false) xs ≡ []
filter-nothing [] = refl
filter-nothing (x ∷ xs) = filter-nothing xs

pub none-racing :
    (p : ThreadPast) (s : Step) (w : Bool) → IsThreadPast p → eqb p.thread s.thread ≡ true
    → [] ≡ filter (races_with s w) p.all.items
none-racing p s w is same =
    sym (filter-nothing p.all.items)
    ∙ filter-same (λ (a : Access). false) (races_with s w) p.all.items
    (all-same (λ (a : Access). a.thread ≡ p.thread) (λ (a : Access). false ≡ races_with s w a) p.all.items
    (λ a of. reported-same s w p.thread a of same)
    (recursion_from_All (λ (a : Access). a.thread ≡ p.thread) p.all.items is.threads))

racing-reported :
    (p : ThreadPast) (s : Step) (w : Bool) → IsThreadPast p → eqb p.thread s.thread ≡ false
    → filter (λ (a : Access). (w || a.writes) && not (ltb a.number (slice_index s.seen p.thread))) p.all.items
    ≡ filter (races_with s w) p.all.items
racing-reported p s w is apart =
    filter-same (λ (a : Access). (w || a.writes) && not (ltb a.number (slice_index s.seen p.thread))) (races_with s w) p.all.items
    (all-same (λ (a : Access). a.thread ≡ p.thread)
    (λ (a : Access). ((w || a.writes) && not (ltb a.number (slice_index s.seen p.thread))) ≡ races_with s w a) p.all.items
    (λ a of. reported-apart s w p.thread a of apart)
    (recursion_from_All (λ (a : Access). a.thread ≡ p.thread) p.all.items is.threads))

pub racing-all :
    (p : ThreadPast) (s : Step) (w : Bool) → IsThreadPast p → eqb p.thread s.thread ≡ false → w ≡ true
    → filter (λ (a : Access). not (ltb a.number (slice_index s.seen p.thread))) p.all.items ≡ filter (races_with s w) p.all.items
racing-all p s true is apart writes = racing-reported p s true is apart
racing-all p s false is apart writes = cc

pub racing-writing :
    (p : ThreadPast) (s : Step) (w : Bool) → IsThreadPast p → eqb p.thread s.thread ≡ false → w ≡ false
    → filter (λ (a : Access). not (ltb a.number (slice_index s.seen p.thread))) p.writing.items ≡ filter (races_with s w) p.all.items
racing-writing p s true is apart writes = cc
racing-writing p s false is apart writes =
    ap (filter (λ (a : Access). not (ltb a.number (slice_index s.seen p.thread)))) is.writing
    ∙ filter-both (λ (a : Access). not (ltb a.number (slice_index s.seen p.thread))) (λ (a : Access). a.writes) p.all.items
    ∙ racing-reported p s false is apart

-- one more thread's accesses
pub flat-more :
    {X Y : Type 0} (f : X → List Y) (xs : List X) (i : ℕ) (x : X) → i < length xs → x ≡ get_or xs i x
    → flat_map f (take (i + 1) xs) ≡ flat_map f (take i xs) ++ f x
flat-more f xs i x less at =
    ap (flat_map f) (take_more xs i x less ∙ ap (λ y. take i xs ++ y ∷ []) (sym at))
    ∙ flat_map-append f (take i xs) (x ∷ [])
    ∙ ap (λ ys. flat_map f (take i xs) ++ ys) (Rattle.std.proofs.lemmas.List.append-nil (f x))

pub flat-within :
    {X Y : Type 0} (f : X → List Y) (xs : List X) (i : ℕ) (x : X) → i < length xs → x ≡ get_or xs i x
    → length (flat_map f (take i xs)) + length (f x) ≤ length (flat_map f xs)
flat-within f xs i x less at =
    let one = Rattle.std.proofs.lemmas.List.Concat.length-flat_map f (take i xs) in
    let two = Rattle.std.proofs.lemmas.List.Concat.length-flat_map f xs in
    let three = sum_by_more_le (λ y. length (f y)) xs i x less in
    let four = ap (λ y. length (f y)) at in
    omega arith

-- a thread gets one more access
pub count-set :
    (q : Access → Bool) (ps : List ThreadPast) (i : ℕ) (p p' : ThreadPast) (a : Access) → i < length ps → p ≡ get_or ps i p
    → p'.all.items ≡ p.all.items ++ a ∷ []
    → count_by q (flat_map (λ (p : ThreadPast). p.all.items) (set ps i p'))
    ≡ count_by q (flat_map (λ (p : ThreadPast). p.all.items) ps) + bit (q a)
count-set q ps i p p' a less at more =
    let f = λ (r : ThreadPast). count_by q r.all.items in
    let one = count-flat q (λ (r : ThreadPast). r.all.items) (set ps i p') in
    let two = count-flat q (λ (r : ThreadPast). r.all.items) ps in
    let three = sum_by-set f ps i p' p less in
    let four = ap f at in
    let five = ap (count_by q) more ∙ count-append q p.all.items (a ∷ []) in
    let six = count-cons q a [] in
    let seven : count_by q [] ≡ 0 = refl in
    omega arith

-- no access of the thread comes after the new one

within-flat :
    {X Y : Type 0} (q : Y → Bool) (f : X → List Y) (xs : List X) (i : ℕ) (x : X) → i < length xs → x ≡ get_or xs i x
    → count_by q (flat_map f xs) ≡ 0 → count_by q (f x) ≡ 0
within-flat q f xs i x less at none =
    let one = count-flat q f xs in
    let two = get_or-le-sum_by (λ y. count_by q (f y)) xs i x less in
    let three = ap (λ y. count_by q (f y)) at in
    omega arith

after-one : (a b : Access) → b.thread ≡ a.thread → is_misplaced a b ≡ false → IsAfter a b
after-one a b same fits =
    let yes : eqb b.thread a.thread ≡ true = eq-eqb b.thread a.thread same in
    let both : not (leb b.place a.place && leb b.number a.number) ≡ false = rw yes at fits in
    let parts = and_parts (leb b.place a.place) (leb b.number a.number)
    (Rattle.std.proofs.lemmas.Bool.not-false (leb b.place a.place && leb b.number a.number) both) in
    record {
      place = leb-true b.place a.place parts.0;
      number = leb-true b.number a.number parts.1;
    }

after-each :
    (a : Access) (t : ℕ) (bs : List Access) → a.thread ≡ t → AllByRecursion (λ (b : Access). b.thread ≡ t) bs
    → AllByRecursion (λ (b : Access). is_misplaced a b ≡ false) bs → AllByRecursion (IsAfter a) bs
after-each a t [] is threads fit = tt
after-each a t (b ∷ bs) is threads fit =
    (after-one a b (threads.0 ∙ sym is) fit.0, after-each a t bs is threads.1 fit.1)

pub all-after :
    (a : Access) (ps : List ThreadPast) (i : ℕ) (p : ThreadPast) → i < length ps → p ≡ get_or ps i p
    → IsThreadPast p → p.thread ≡ a.thread
    → count_by (is_misplaced a) (flat_map (λ (p : ThreadPast). p.all.items) ps) ≡ 0
    → All (IsAfter a) p.all.items
all-after a ps i p less at is same none =
    All-from_recursion (IsAfter a) p.all.items
    (after-each a p.thread p.all.items (sym same)
    (recursion_from_All (λ (b : Access). b.thread ≡ p.thread) p.all.items is.threads)
    (none-counted (is_misplaced a) p.all.items
    (within-flat (is_misplaced a) (λ (r : ThreadPast). r.all.items) ps i p less at none)))

-- the accesses of each thread have their invariant
pub past-at :
    (page : PagePast) (ps : List ThreadPast) (i : ℕ) (p : ThreadPast) → IsPagePast page → ps ≡ page.threads.items
    → i < length ps → p ≡ get_or ps i p → IsThreadPast p
past-at page ps i p are same less at =
    subst IsThreadPast (sym (at ∙ ap (λ (qs : List ThreadPast). get_or qs i p) same))
    (are i p (subst (λ (qs : List ThreadPast). i < length qs) same less))
