-- The best of some threads and of one more.
use Rattle.std.proofs.Common.{◌≡◌, ◌<◌, ◌≤◌, ◌+◌, ℕ, zero, suc, Bool, true, false, ◌&&◌, ◌||◌, eqb, ltb, cond, min, List, [], ◌∷◌, ◌++◌, map, filter, Option, Some, None, is_some, refl, ap, sym, ◌∙◌, inl, inr, arith}
use Rattle.std.proofs.lemmas.Bool.{eqb-true, eq-eqb, ne_eqb, lt-ltb, le-ltb, cases_order}
use Rattle.std.proofs.lemmas.Bool.Decides.{nat_tests}
use Rattle.std.specs.List.{AllByRecursion, range_with_len}
use Rattle.machine_spec.specs.Machine.{Machine, hart_of}
use Rattle.machine_spec.specs.Choice.{least}
use Rattle.history_spec.specs.History.{History}
use Rattle.round_spec.specs.Due.{place_in}
use Rattle.round_spec.specs.Choice.{first_of, least_by, best}
use Rattle.round_spec.proofs.Lists.{first-all, all-filter, all-pass, least-under, some-least_by}

-- lists

pub filter-more : (p : ℕ → Bool) (xs : List ℕ) (t : ℕ) → filter p (xs ++ t ∷ []) ≡ filter p xs ++ cond (p t) (t ∷ []) []
filter-more p [] t = refl
filter-more p (x ∷ xs) t = by (p x) (filter-more p xs t)
  where
    by :
        (b : Bool) → filter p (xs ++ t ∷ []) ≡ filter p xs ++ cond (p t) (t ∷ []) []
        → cond b (x ∷ filter p (xs ++ t ∷ [])) (filter p (xs ++ t ∷ []))
        ≡ cond b (x ∷ filter p xs) (filter p xs) ++ cond (p t) (t ∷ []) []
    by true rest = ap (λ (ys : List ℕ). x ∷ ys) rest
    by false rest = rest

pub range-more : (a n j : ℕ) → a + n ≡ j → range_with_len a (suc n) ≡ range_with_len a n ++ j ∷ []
range-more a zero j is = let same : a ≡ j = omega arith in rw same refl
range-more a (suc n) j is = ap (λ (ys : List ℕ). a ∷ ys) (range-more (a + 1) n j (omega arith))

append-nil-at : (xs : List ℕ) → xs ++ [] ≡ xs
append-nil-at [] = refl
append-nil-at (x ∷ xs) = ap (λ (ys : List ℕ). x ∷ ys) (append-nil-at xs)

-- the least of a measure, with one more

least-more :
    (f : ℕ → ℕ) (x : ℕ) (xs : List ℕ) (t : ℕ)
    → least (map f ((x ∷ xs) ++ t ∷ [])) ≡ min (least (map f (x ∷ xs))) (f t)
least-more f x [] t = refl
least-more f x (y ∷ ys) t = let rest = least-more f y ys t in omega arith

filter-above :
    (f : ℕ → ℕ) (n l : ℕ) (xs : List ℕ) → n < l → AllByRecursion (λ u. l ≤ f u) xs
    → filter (λ u. eqb (f u) n) xs ≡ []
filter-above f n l [] below all = refl
filter-above f n l (x ∷ xs) below all =
    let other : eqb (f x) n ≡ false = ne_eqb (f x) n (λ same. let low = all.0 in omega arith) in
    rw other (filter-above f n l xs below all.1)

-- the thread is alone if its measure is lower
least_by-lower :
    (f : ℕ → ℕ) (x : ℕ) (xs : List ℕ) (t : ℕ)
    → f t < least (map f (x ∷ xs)) → least_by f ((x ∷ xs) ++ t ∷ []) ≡ t ∷ []
unfolding least_by
least_by-lower f x xs t below =
    let is : least (map f ((x ∷ xs) ++ t ∷ [])) ≡ f t = let more = least-more f x xs t in omega arith in
    let under = least-under f x xs (least (map f (x ∷ xs))) (omega arith) in
    let none : filter (λ u. eqb (f u) (f t)) (x ∷ xs) ≡ [] =
    filter-above f (f t) (least (map f (x ∷ xs))) (x ∷ xs) below under in
    let same : eqb (f t) (f t) ≡ true = eq-eqb (f t) (f t) refl in
    ap (λ n. filter (λ u. eqb (f u) n) ((x ∷ xs) ++ t ∷ [])) is
    ∙ filter-more (λ u. eqb (f u) (f t)) (x ∷ xs) t
    ∙ ap (λ (ys : List ℕ). ys ++ cond (eqb (f t) (f t)) (t ∷ []) []) none
    ∙ ap (λ b. cond b (t ∷ []) []) same

-- the last of several if it is the same
least_by-same :
    (f : ℕ → ℕ) (x : ℕ) (xs : List ℕ) (t : ℕ)
    → f t ≡ least (map f (x ∷ xs)) → least_by f ((x ∷ xs) ++ t ∷ []) ≡ least_by f (x ∷ xs) ++ t ∷ []
unfolding least_by
least_by-same f x xs t at =
    let is : least (map f ((x ∷ xs) ++ t ∷ [])) ≡ least (map f (x ∷ xs)) = let more = least-more f x xs t in
    omega arith in
    let same : eqb (f t) (least (map f (x ∷ xs))) ≡ true = eq-eqb (f t) (least (map f (x ∷ xs))) at in
    ap (λ n. filter (λ u. eqb (f u) n) ((x ∷ xs) ++ t ∷ [])) is
    ∙ filter-more (λ u. eqb (f u) (least (map f (x ∷ xs)))) (x ∷ xs) t
    ∙ ap (λ b. filter (λ u. eqb (f u) (least (map f (x ∷ xs)))) (x ∷ xs) ++ cond b (t ∷ []) []) same

-- and none of them if it is higher
least_by-higher :
    (f : ℕ → ℕ) (x : ℕ) (xs : List ℕ) (t : ℕ)
    → least (map f (x ∷ xs)) < f t → least_by f ((x ∷ xs) ++ t ∷ []) ≡ least_by f (x ∷ xs)
unfolding least_by
least_by-higher f x xs t above =
    let is : least (map f ((x ∷ xs) ++ t ∷ [])) ≡ least (map f (x ∷ xs)) = let more = least-more f x xs t in
    omega arith in
    let other : eqb (f t) (least (map f (x ∷ xs))) ≡ false =
    ne_eqb (f t) (least (map f (x ∷ xs))) (λ same. omega arith) in
    ap (λ n. filter (λ u. eqb (f u) n) ((x ∷ xs) ++ t ∷ [])) is
    ∙ filter-more (λ u. eqb (f u) (least (map f (x ∷ xs)))) (x ∷ xs) t
    ∙ ap (λ b. filter (λ u. eqb (f u) (least (map f (x ∷ xs)))) (x ∷ xs) ++ cond b (t ∷ []) []) other
    ∙ append-nil-at (filter (λ u. eqb (f u) (least (map f (x ∷ xs)))) (x ∷ xs))

-- the first of those of the least measure, with one more

first-append : (xs ys : List ℕ) (u : ℕ) → first_of xs ≡ Some u → first_of (xs ++ ys) ≡ Some u
first-append [] ys u is = cc
first-append (x ∷ xs) ys u is = is

first-more :
    (g : ℕ → ℕ) (xs : List ℕ) (t u : ℕ)
    → first_of (least_by g xs) ≡ Some u → g u ≡ least (map g xs)
    → first_of (least_by g (xs ++ t ∷ [])) ≡ Some (cond (ltb (g t) (g u)) t u)
unfolding least_by
first-more g [] t u is at = cc
first-more g (x ∷ xs) t u is at =
    elim (cases_order (g t) (g u)) [
      | inl same ↦
          let no : ltb (g t) (g u) ≡ false = le-ltb (g t) (g u) (omega arith) in
          ap first_of (least_by-same g x xs t (omega arith)) ∙ first-append (least_by g (x ∷ xs)) (t ∷ []) u is
          ∙ ap (λ b. Some (cond b t u)) (sym no)
      | inr (inl below) ↦
          let yes : ltb (g t) (g u) ≡ true = lt-ltb (g t) (g u) below in
          ap first_of (least_by-lower g x xs t (omega arith)) ∙ ap (λ b. Some (cond b t u)) (sym yes)
      | inr (inr above) ↦
          let no : ltb (g t) (g u) ≡ false = le-ltb (g t) (g u) (omega arith) in
          ap first_of (least_by-higher g x xs t (omega arith)) ∙ is ∙ ap (λ b. Some (cond b t u)) (sym no)
    ]

-- each of those of the least measure has it
least_by-at : (f : ℕ → ℕ) (xs : List ℕ) → AllByRecursion (λ u. eqb (f u) (least (map f xs)) ≡ true) (least_by f xs)
unfolding least_by
least_by-at f xs = all-pass (λ u. eqb (f u) (least (map f xs))) xs

least_by-all : (P : ℕ → Type 0) (f : ℕ → ℕ) (xs : List ℕ) → AllByRecursion P xs → AllByRecursion P (least_by f xs)
unfolding least_by
least_by-all P f xs all = all-filter P (λ u. eqb (f u) (least (map f xs))) xs all

-- the first of some threads by two measures
abbrev first_by : (ℕ → ℕ) → (ℕ → ℕ) → List ℕ → Option ℕ
first_by f g xs = first_of (least_by g (least_by f xs))

first_by-at :
    (f g : ℕ → ℕ) (xs : List ℕ) (u : ℕ)
    → first_by f g xs ≡ Some u → (f u ≡ least (map f xs)) × (g u ≡ least (map g (least_by f xs)))
first_by-at f g xs u is = (
  eqb-true (f u) (least (map f xs))
      (first-all (λ v. eqb (f v) (least (map f xs)) ≡ true) (least_by g (least_by f xs)) u
      (least_by-all (λ v. eqb (f v) (least (map f xs)) ≡ true) g (least_by f xs) (least_by-at f xs)) is),
  eqb-true (g u) (least (map g (least_by f xs)))
      (first-all (λ v. eqb (g v) (least (map g (least_by f xs))) ≡ true) (least_by g (least_by f xs)) u
      (least_by-at g (least_by f xs)) is),
)

-- whether a thread comes before another by two measures
abbrev pub comes_before : ℕ → ℕ → ℕ → ℕ → Bool
comes_before place number other_place other_number =
    ltb place other_place || (eqb place other_place && ltb number other_number)

single : (f : ℕ → ℕ) (t : ℕ) → least_by f (t ∷ []) ≡ t ∷ []
unfolding least_by
single f t = let same : eqb (f t) (f t) ≡ true = eq-eqb (f t) (f t) refl in rw same refl

first_by-more :
    (f g : ℕ → ℕ) (xs : List ℕ) (t u : ℕ)
    → first_by f g xs ≡ Some u
    → first_by f g (xs ++ t ∷ []) ≡ Some (cond (comes_before (f t) (g t) (f u) (g u)) t u)
unfolding least_by
first_by-more f g [] t u is = cc
first_by-more f g (x ∷ xs) t u is =
    let at = first_by-at f g (x ∷ xs) u is in
    let at_f = at.0 in
    elim (cases_order (f t) (f u)) [
      | inl same ↦
          let lower : comes_before (f t) (g t) (f u) (g u) ≡ ltb (g t) (g u) = grind (arith, nat_tests) in
          ap (λ (ys : List ℕ). first_of (least_by g ys)) (least_by-same f x xs t (omega arith))
          ∙ first-more g (least_by f (x ∷ xs)) t u is at.1
          ∙ ap (λ b. Some (cond b t u)) (sym lower)
      | inr (inl below) ↦
          let lower : comes_before (f t) (g t) (f u) (g u) ≡ true = grind (arith, nat_tests) in
          ap (λ (ys : List ℕ). first_of (least_by g ys)) (least_by-lower f x xs t (omega arith))
          ∙ ap first_of (single g t)
          ∙ ap (λ b. Some (cond b t u)) (sym lower)
      | inr (inr above) ↦
          let lower : comes_before (f t) (g t) (f u) (g u) ≡ false = grind (arith, nat_tests) in
          ap (λ (ys : List ℕ). first_of (least_by g ys)) (least_by-higher f x xs t (omega arith))
          ∙ is
          ∙ ap (λ b. Some (cond b t u)) (sym lower)
    ]

-- the best of some threads and of one more
pub best-more :
    (past : Option History) (m : Machine) (xs : List ℕ) (t u : ℕ)
    → best past m xs ≡ Some u
    → best past m (xs ++ t ∷ [])
    ≡ Some (cond (comes_before (place_in past m t) (hart_of m t).number (place_in past m u) (hart_of m u).number) t u)
unfolding best
best-more past m xs t u is = first_by-more (place_in past m) (λ v. (hart_of m v).number) xs t u is

-- the best of no thread, and of one
pub best-nobody : (past : Option History) (m : Machine) → best past m [] ≡ None
unfolding best least_by
best-nobody past m = refl

some-best : (past : Option History) (m : Machine) (xs : List ℕ) → is_some (best past m xs) ≡ is_some (first_of xs)
unfolding best
some-best past m xs =
    some-least_by (λ t. (hart_of m t).number) (least_by (place_in past m) xs) ∙ some-least_by (place_in past m) xs

none-first : (xs : List ℕ) → is_some (first_of xs) ≡ false → xs ≡ []
none-first [] is = refl
none-first (x ∷ xs) is = cc

pub best-none : (past : Option History) (m : Machine) (xs : List ℕ) → best past m xs ≡ None → xs ≡ []
best-none past m xs is = none-first xs (sym (some-best past m xs) ∙ ap (λ (o : Option ℕ). is_some o) is)

best-single : (past : Option History) (m : Machine) (t : ℕ) → best past m (t ∷ []) ≡ Some t
unfolding best
best-single past m t =
    ap (λ (ys : List ℕ). first_of (least_by (λ v. (hart_of m v).number) ys)) (single (place_in past m) t)
    ∙ ap first_of (single (λ v. (hart_of m v).number) t)

pub best-first :
    (past : Option History) (m : Machine) (xs : List ℕ) (t : ℕ) → best past m xs ≡ None
    → best past m (xs ++ t ∷ []) ≡ Some t
best-first past m xs t is =
    ap (λ (ys : List ℕ). best past m (ys ++ t ∷ [])) (best-none past m xs is) ∙ best-single past m t

-- the best is one of them
pub best-all :
    (P : ℕ → Type 0) (past : Option History) (m : Machine) (xs : List ℕ) (u : ℕ)
    → AllByRecursion P xs → best past m xs ≡ Some u → P u
unfolding best
best-all P past m xs u all is =
    first-all P _ u (least_by-all P (λ t. (hart_of m t).number) _ (least_by-all P (place_in past m) xs all)) is

-- if some of the threads are removed

abbrev precedes : Option History → Machine → ℕ → ℕ → Bool
precedes past m t u = comes_before (place_in past m t) (hart_of m t).number (place_in past m u) (hart_of m u).number

-- The best of the remaining threads doesn't come before the best of all, and is the same if that one remains; without
-- a best of all, no thread remains.
pub record IsAhead (past : Option History) (m : Machine) (p : ℕ → Bool) (xs ys : List ℕ) : Type 0 where
  pub kept : (u : ℕ) → best past m xs ≡ Some u → p u ≡ true → best past m ys ≡ Some u
  pub behind : (u v : ℕ) → best past m xs ≡ Some u → best past m ys ≡ Some v → precedes past m v u ≡ false
  pub none : best past m xs ≡ None → ys ≡ []

-- what comes before what

never-itself : (a b : ℕ) → comes_before a b a b ≡ false
never-itself a b = grind (arith, nat_tests)

before-behind :
    (a b c d e f : ℕ)
    → comes_before a b c d ≡ true → comes_before e f c d ≡ false → comes_before a b e f ≡ true
before-behind a b c d e f first behind = grind (arith, nat_tests, first, behind)

not-before :
    (a b c d e f : ℕ)
    → comes_before a b c d ≡ true → comes_before e f c d ≡ false → comes_before e f a b ≡ false
not-before a b c d e f first behind = grind (arith, nat_tests, first, behind)

-- one more thread, removed or not

ahead-of :
    (past : Option History) (m : Machine) (p : ℕ → Bool) (xs ys : List ℕ) (u : ℕ)
    → best past m xs ≡ Some u
    → (p u ≡ true → best past m ys ≡ Some u)
    → ((v : ℕ) → best past m ys ≡ Some v → precedes past m v u ≡ false)
    → IsAhead past m p xs ys
ahead-of past m p xs ys u is kept behind = record {
  kept = λ w same passes.
      let one : w ≡ u = cc in
      kept (ap p (sym one) ∙ passes) ∙ ap (λ (n : ℕ). Some n) (sym one);
  behind = λ w v same has. let one : w ≡ u = cc in ap (precedes past m v) one ∙ behind v has;
  none = λ none. cc;
}

ahead-first :
    (past : Option History) (m : Machine) (p : ℕ → Bool) (t : ℕ) (b : Bool)
    → p t ≡ b → IsAhead past m p (t ∷ []) (cond b (t ∷ []) [])
ahead-first past m p t true is =
    ahead-of past m p (t ∷ []) (t ∷ []) t (best-single past m t) (λ passes. best-single past m t)
    (λ v has.
    let single = best-single past m t in
    let one : v ≡ t = cc in
    ap (λ n. precedes past m n t) one ∙ never-itself (place_in past m t) (hart_of m t).number)
ahead-first past m p t false is =
    ahead-of past m p (t ∷ []) [] t (best-single past m t) (λ passes. cc)
    (λ v has. let nobody = best-nobody past m in cc)

-- if the new one is the best of all
ahead-new :
    (past : Option History) (m : Machine) (p : ℕ → Bool) (xs ys : List ℕ) (t u : ℕ) (b : Bool) (o : Option ℕ)
    → IsAhead past m p xs ys → best past m xs ≡ Some u → precedes past m t u ≡ true → p t ≡ b → best past m ys ≡ o
    → IsAhead past m p (xs ++ t ∷ []) (ys ++ cond b (t ∷ []) [])
ahead-new past m p xs ys t u true None is some first passes left =
    ahead-of past m p (xs ++ t ∷ []) (ys ++ t ∷ []) t
    (best-more past m xs t u some ∙ ap (λ b. Some (cond b t u)) first)
    (λ same. best-first past m ys t left)
    (λ v has.
    let only = best-first past m ys t left in
    let one : v ≡ t = cc in
    ap (λ n. precedes past m n t) one ∙ never-itself (place_in past m t) (hart_of m t).number)
ahead-new past m p xs ys t u true (Some v) is some first passes left =
    let comes =
    before-behind (place_in past m t) (hart_of m t).number (place_in past m u) (hart_of m u).number (place_in past m v)
    (hart_of m v).number first (is.behind u v some left) in
    let only : best past m (ys ++ t ∷ []) ≡ Some t =
    best-more past m ys t v left ∙ ap (λ b. Some (cond b t v)) comes in
    ahead-of past m p (xs ++ t ∷ []) (ys ++ t ∷ []) t
    (best-more past m xs t u some ∙ ap (λ b. Some (cond b t u)) first)
    (λ same. only)
    (λ w has.
    let one : w ≡ t = cc in
    ap (λ n. precedes past m n t) one ∙ never-itself (place_in past m t) (hart_of m t).number)
ahead-new past m p xs ys t u false o is some first passes left =
    ahead-of past m p (xs ++ t ∷ []) (ys ++ []) t
    (best-more past m xs t u some ∙ ap (λ b. Some (cond b t u)) first)
    (λ same. cc)
    (λ v has.
    not-before (place_in past m t) (hart_of m t).number (place_in past m u) (hart_of m u).number (place_in past m v)
    (hart_of m v).number first (is.behind u v some (ap (best past m) (sym (append-nil-at ys)) ∙ has)))

-- if the best so far stays
ahead-old :
    (past : Option History) (m : Machine) (p : ℕ → Bool) (xs ys : List ℕ) (t u : ℕ) (b : Bool) (o : Option ℕ)
    → IsAhead past m p xs ys → best past m xs ≡ Some u → precedes past m t u ≡ false → p t ≡ b → best past m ys ≡ o
    → IsAhead past m p (xs ++ t ∷ []) (ys ++ cond b (t ∷ []) [])
ahead-old past m p xs ys t u true None is some later passes left =
    let only = best-first past m ys t left in
    ahead-of past m p (xs ++ t ∷ []) (ys ++ t ∷ []) u
    (best-more past m xs t u some ∙ ap (λ b. Some (cond b t u)) later)
    (λ kept. let there = is.kept u some kept in cc)
    (λ v has. let one : v ≡ t = cc in ap (λ n. precedes past m n u) one ∙ later)
ahead-old past m p xs ys t u true (Some v) is some later passes left =
    let more = best-more past m ys t v left in
    ahead-of past m p (xs ++ t ∷ []) (ys ++ t ∷ []) u
    (best-more past m xs t u some ∙ ap (λ b. Some (cond b t u)) later)
    (λ kept. best-more past m ys t u (is.kept u some kept) ∙ ap (λ b. Some (cond b t u)) later)
    (λ w has. by (precedes past m t v) w (sym more ∙ has))
  where
    by : (b : Bool) (w : ℕ) → Some (cond b t v) ≡ Some w → precedes past m w u ≡ false
    by true w same = let one : t ≡ w = cc in ap (λ n. precedes past m n u) (sym one) ∙ later
    by false w same = let one : v ≡ w = cc in ap (λ n. precedes past m n u) (sym one) ∙ is.behind u v some left
ahead-old past m p xs ys t u false o is some later passes left =
    ahead-of past m p (xs ++ t ∷ []) (ys ++ []) u
    (best-more past m xs t u some ∙ ap (λ b. Some (cond b t u)) later)
    (λ kept. ap (best past m) (append-nil-at ys) ∙ is.kept u some kept)
    (λ v has. is.behind u v some (ap (best past m) (sym (append-nil-at ys)) ∙ has))

pub ahead-none : (past : Option History) (m : Machine) (p : ℕ → Bool) → IsAhead past m p [] []
ahead-none past m p = record {
  kept = λ u same passes. same;
  behind = λ u v same has. let nobody = best-nobody past m in cc;
  none = λ none. refl;
}

pub ahead-more :
    (past : Option History) (m : Machine) (p : ℕ → Bool) (xs ys : List ℕ) (t : ℕ)
    → IsAhead past m p xs ys → IsAhead past m p (xs ++ t ∷ []) (ys ++ cond (p t) (t ∷ []) [])
ahead-more past m p xs ys t is = by (best past m xs) refl
  where
    with : (u : ℕ) (b : Bool) → best past m xs ≡ Some u → precedes past m t u ≡ b
        → IsAhead past m p (xs ++ t ∷ []) (ys ++ cond (p t) (t ∷ []) [])
    with u true some first = ahead-new past m p xs ys t u (p t) (best past m ys) is some first refl refl
    with u false some later = ahead-old past m p xs ys t u (p t) (best past m ys) is some later refl refl

    by : (o : Option ℕ) → best past m xs ≡ o → IsAhead past m p (xs ++ t ∷ []) (ys ++ cond (p t) (t ∷ []) [])
    by None none =
        rw (best-none past m xs none, is.none none) (ahead-first past m p t (p t) refl)
    by (Some u) some = with u (precedes past m t u) some refl
