-- Rows of races, and what is added to them.
use Rattle.std.proofs.Common.{◌≡◌, ◌<◌, ◌+◌, ◌-◌, ℕ, zero, suc, Bool, true, false, eqb, cond, List, [], ◌∷◌, ◌++◌, length, map, take, drop, get_or, set, append_assoc, append-nil, refl, ap, sym, ◌∙◌, inl, inr, arith}
use Rattle.std.specs.List.{filter}
use Rattle.std.specs.List.Sorted.{IsNonDecreasingBy}
use Rattle.std.proofs.lemmas.Bool.{cases_eq, eq-eqb, ne_eqb}
use Rattle.std.proofs.lemmas.Bool.Decides.{nat_tests}
use Rattle.std.proofs.lemmas.List.{take-append-drop, take_more, map-append, get_or-drop, get_or-set_same, get_or-set_other}
use Rattle.std.proofs.lemmas.List.Elements.{filter-append}
use Rattle.round_spec.specs.declared.Race.{Race}
use Rattle.memo_reports.specs.declared.races.touches.Touch.{Touch}
use Rattle.memo_reports.specs.declared.races.past.Access.{Access}
use Rattle.memo_reports.specs.Rows.{race_with, races_in}

-- accesses after some

races-append :
    (i j : ℕ) (t : Touch) (xs ys : List Access)
    → races_in i j t (xs ++ ys) ≡ races_in i j t xs ++ races_in i j t ys
races-append i j t xs ys =
    ap (map (race_with j t)) (filter-append (λ (a : Access). eqb a.place i) xs ys)
    ∙ map-append (race_with j t) (filter (λ (a : Access). eqb a.place i) xs) (filter (λ (a : Access). eqb a.place i) ys)

-- later accesses are in no earlier row
none-above :
    (i : ℕ) (xs : List Access) → ((k : ℕ) (d : Access) → k < length xs → i < (get_or xs k d).place)
    → filter (λ (a : Access). eqb a.place i) xs ≡ []
none-above i [] above = refl
none-above i (x ∷ xs) above =
    let here = above 0 x (omega arith) in
    let no : eqb x.place i ≡ false = grind (arith, nat_tests) in
    rw no (none-above i xs (λ k d less. above (suc k) d (omega arith)))

pub races-front :
    (i j : ℕ) (t : Touch) (xs : List Access) (k : ℕ) (x : Access)
    → IsNonDecreasingBy (λ (a : Access). a.place) xs → k < length xs → x ≡ get_or xs k x → i < x.place
    → races_in i j t xs ≡ races_in i j t (take k xs)
races-front i j t xs k x order less at above =
    ap (races_in i j t) (sym (take-append-drop k xs))
    ∙ races-append i j t (take k xs) (drop k xs)
    ∙ ap (λ (rs : List Race). races_in i j t (take k xs) ++ rs)
    (ap (map (race_with j t)) (none-above i (drop k xs)
    (λ m d within.
    (let place = ap (λ (a : Access). a.place) (get_or-drop k xs m d) in
    let long = Rattle.std.proofs.lemmas.List.length-drop k xs in
    let one = order k (k + m) d (omega arith) (omega arith) in
    let two = ap (λ (a : Access). a.place) (Rattle.std.proofs.lemmas.List.get_or_default xs k x d less) in
    let three = ap (λ (a : Access). a.place) at in
    omega arith))))
    ∙ append-nil (races_in i j t (take k xs))

-- one more access
pub races-more :
    (i j : ℕ) (t : Touch) (xs : List Access) (k : ℕ) (x : Access) → k < length xs → x ≡ get_or xs k x
    → races_in i j t (take (k + 1) xs)
    ≡ races_in i j t (take k xs) ++ cond (eqb x.place i) (race_with j t x ∷ []) []
races-more i j t xs k x less at =
    ap (races_in i j t) (take_more xs k x less ∙ ap (λ (a : Access). take k xs ++ a ∷ []) (sym at))
    ∙ races-append i j t (take k xs) (x ∷ [])
    ∙ ap (λ (rs : List Race). races_in i j t (take k xs) ++ rs) (one (eqb x.place i))
  where
    one : (b : Bool) → map (race_with j t) (cond b (x ∷ []) []) ≡ cond b (race_with j t x ∷ []) []
    one true = refl
    one false = refl

-- the row of its place gets it
pub row-pushed :
    (rows : List (List Race)) (e i : ℕ) (r : Race) → e < length rows
    → get_or (set rows e (get_or rows e [] ++ r ∷ [])) i [] ≡ get_or rows i [] ++ cond (eqb e i) (r ∷ []) []
row-pushed rows e i r less =
    elim (cases_eq e i) [
      | inl same ↦
          let yes : eqb e i ≡ true = eq-eqb e i same in
          rw yes (ap (λ (k : ℕ). get_or (set rows e (get_or rows e [] ++ r ∷ [])) k []) (sym same)
          ∙ get_or-set_same rows e (get_or rows e [] ++ r ∷ []) [] less
          ∙ ap (λ (k : ℕ). get_or rows k [] ++ r ∷ []) same)
      | inr other ↦
          let no : eqb e i ≡ false = ne_eqb e i other in
          rw no (get_or-set_other rows e i (get_or rows e [] ++ r ∷ []) [] (λ is. other (sym is)) ∙ sym (append-nil (get_or rows i [])))
    ]

pub row-more :
    (rows new old : List (List Race)) (i j : ℕ) (t : Touch) (xs : List Access) (k : ℕ) (x : Access)
    → k < length xs → x ≡ get_or xs k x → x.place < length rows
    → new ≡ set rows x.place (get_or rows x.place [] ++ race_with j t x ∷ [])
    → get_or rows i [] ≡ get_or old i [] ++ races_in i j t (take k xs)
    → get_or new i [] ≡ get_or old i [] ++ races_in i j t (take (k + 1) xs)
row-more rows new old i j t xs k x less at within is before =
    ap (λ (rs : List (List Race)). get_or rs i []) is
    ∙ row-pushed rows x.place i (race_with j t x) within
    ∙ ap (λ (rs : List Race). rs ++ cond (eqb x.place i) (race_with j t x ∷ []) []) before
    ∙ append_assoc (get_or old i []) (races_in i j t (take k xs)) (cond (eqb x.place i) (race_with j t x ∷ []) [])
    ∙ ap (λ (rs : List Race). get_or old i [] ++ rs) (sym (races-more i j t xs k x less at))

-- one more thread's accesses
pub row-joined :
    (old mid new xs ys : List Race) → mid ≡ old ++ xs → new ≡ mid ++ ys → new ≡ old ++ (xs ++ ys)
row-joined old mid new xs ys one two = two ∙ ap (λ (rs : List Race). rs ++ ys) one ∙ append_assoc old xs ys

pub races-joined :
    (i j : ℕ) (t : Touch) (q : Access → Bool) (xs ys : List Access)
    → races_in i j t (filter q (xs ++ ys)) ≡ races_in i j t (filter q xs) ++ races_in i j t (filter q ys)
races-joined i j t q xs ys =
    ap (races_in i j t) (filter-append q xs ys) ∙ races-append i j t (filter q xs) (filter q ys)

-- the first elements of two lists
pub take-both :
    {A : Type 0} (n : ℕ) (xs ys : List A) → take n (xs ++ ys) ≡ take n xs ++ take (n - length xs) ys
take-both zero xs ys = let none : 0 - length xs ≡ 0 = omega arith in rw none refl
take-both {A = A} (suc n) [] ys = let all : suc n - 0 ≡ suc n = omega arith in rw all refl
take-both {A = A} (suc n) (x ∷ xs) ys =
    let next : suc n - suc (length xs) ≡ n - length xs = omega arith in
    rw next (ap (λ (zs : List A). x ∷ zs) (take-both n xs ys))
