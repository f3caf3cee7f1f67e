-- Reading a number of things, one after the other, as a loop does.
use Rattle.std.proofs.Common.{◌≡◌, ℕ, suc, ◌+◌, ◌-◌, ◌<◌, ◌≤◌, List, [], ◌∷◌, ◌++◌, Result, Ok, Err, refl, sym, ap, ◌∙◌, append_assoc, arith}
use Rattle.std.proofs.lemmas.List.{append-nil}
use Rattle.ith_text.specs.Place.{Place}
use Rattle.memo_spec.specs.declared.Refusal.{Refusal}
use Rattle.memo_spec.specs.Reader.{Reader, onward, done, each, chain, number_at}
use Rattle.memo_spec.specs.Reading.{registers_at}
use Rattle.memo_spec.proofs.Formats.{onward_ok, ok_is}
use Rattle.isa_spec.specs.Registers.{Registers}
use Rattle.std.specs.Prelude.{slice_index, slice_set}
use Rattle.std.specs.Int.{w32}
use Rattle.memo_file.specs.declared.error.ReadError.{ReadError}
use Rattle.memo_file.specs.declared.error.ReadError.TheVariants as errors
use Rattle.memo_file.specs.Gives.{Fails}

abbrev pub Chained : Type 0 → Type 0 → Type 0
Chained S A = Result ((List A × S) × Place) Refusal

-- What was read before, and what is still to be read.
abbrev pub with_front : {S A : Type 0} → List A → Chained S A → Chained S A
with_front front read = onward read (λ x. done (front ++ x.0, x.1))

regroup : {S A : Type 0} (front : List A) (a : A) (read : Chained S A)
    → with_front front (onward read (λ x. done (a ∷ x.0, x.1))) ≡ with_front (front ++ a ∷ []) read
regroup {S = S} {A = A} front a (Ok x) = ap (λ (l : List A). whole (l, x.0.1) x.1)
    (sym (append_assoc front (a ∷ []) x.0.0))
  where
    whole : List A × S → Place → Chained S A
    whole l p = Ok (l, p)
regroup front a (Err f) = refl

pub goes_on : {S A : Type 0} (step : S → Reader (A × S)) (front : List A) (n i : ℕ) (s : S) (p : Place) (x : A × S)
    (q : Place) (total : Chained S A) → i < n → step s p ≡ Ok (x, q)
    → with_front front (chain step (n - i) s p) ≡ total
    → with_front (front ++ x.0 ∷ []) (chain step (n - (i + 1)) x.1 q) ≡ total
goes_on step front n i s p x q total lt h so_far =
    let k : n - i ≡ suc (n - (i + 1)) = omega arith in
    let one : with_front front (chain step (n - i) s p) ≡ with_front (front ++ x.0 ∷ [])
    (chain step (n - (i + 1)) x.1 q) = rw (k, h) (regroup front x.0 (chain step (n - (i + 1)) x.1 q)) in
    sym one ∙ so_far

pub ends : {S A : Type 0} (e : ReadError) (step : S → Reader (A × S)) (front : List A) (n i : ℕ) (s : S) (p : Place)
    (total : Chained S A) → i < n → Fails e (step s p)
    → with_front front (chain step (n - i) s p) ≡ total → Fails e total
ends errors.NoMemory step front n i s p total lt h so_far = tt
ends (errors.Refused f) step front n i s p total lt h so_far =
    let k : n - i ≡ suc (n - (i + 1)) = omega arith in
    let one : with_front front (chain step (n - i) s p) ≡ Err f = rw (k, h) refl in
    sym so_far ∙ one

pub is_done : {S A : Type 0} (step : S → Reader (A × S)) (front : List A) (n i : ℕ) (s : S) (p : Place)
    (total : Chained S A) → n ≤ i → with_front front (chain step (n - i) s p) ≡ total
    → total ≡ Ok ((front, s), p)
is_done {S = S} {A = A} step front n i s p total le so_far =
    let k : n - i ≡ 0 = omega arith in
    let one : with_front front (chain step (n - i) s p) ≡ Ok ((front, s), p) = rw k
    (ap (λ (l : List A). whole (l, s) p) (append-nil front)) in
    sym so_far ∙ one
  where
    whole : List A × S → Place → Chained S A
    whole l p = Ok (l, p)

-- ---- the same with no state

abbrev pub Many : Type 0 → Type 0
Many A = Result (List A × Place) Refusal

abbrev pub with_all : {A : Type 0} → List A → Many A → Many A
with_all front read = onward read (λ xs. done (front ++ xs))

regroup_each : {A : Type 0} (front : List A) (a : A) (read : Many A)
    → with_all front (onward read (λ xs. done (a ∷ xs))) ≡ with_all (front ++ a ∷ []) read
regroup_each {A = A} front a (Ok x) = ap (λ (l : List A). whole l x.1) (sym (append_assoc front (a ∷ []) x.0))
  where
    whole : List A → Place → Many A
    whole l p = Ok (l, p)
regroup_each front a (Err f) = refl

pub each_goes_on : {A : Type 0} (step : Reader A) (front : List A) (n i : ℕ) (p : Place) (x : A) (q : Place)
    (total : Many A) → i < n → step p ≡ Ok (x, q)
    → with_all front (each (n - i) step p) ≡ total → with_all (front ++ x ∷ []) (each (n - (i + 1)) step q) ≡ total
each_goes_on step front n i p x q total lt h so_far =
    let k : n - i ≡ suc (n - (i + 1)) = omega arith in
    let one : with_all front (each (n - i) step p) ≡ with_all (front ++ x ∷ []) (each (n - (i + 1)) step q) = rw
    (k, h) (regroup_each front x (each (n - (i + 1)) step q)) in
    sym one ∙ so_far

pub each_ends : {A : Type 0} (e : ReadError) (step : Reader A) (front : List A) (n i : ℕ) (p : Place) (total : Many A)
    → i < n → Fails e (step p)
    → with_all front (each (n - i) step p) ≡ total → Fails e total
each_ends errors.NoMemory step front n i p total lt h so_far = tt
each_ends (errors.Refused f) step front n i p total lt h so_far =
    let k : n - i ≡ suc (n - (i + 1)) = omega arith in
    let one : with_all front (each (n - i) step p) ≡ Err f = rw (k, h) refl in
    sym so_far ∙ one

pub each_done : {A : Type 0} (step : Reader A) (front : List A) (n i : ℕ) (p : Place) (total : Many A) → n ≤ i
    → with_all front (each (n - i) step p) ≡ total → total ≡ Ok (front, p)
each_done {A = A} step front n i p total le so_far =
    let k : n - i ≡ 0 = omega arith in
    let one : with_all front (each (n - i) step p) ≡ Ok (front, p) = rw k
    (ap (λ (l : List A). whole l p) (append-nil front)) in
    sym so_far ∙ one
  where
    whole : List A → Place → Many A
    whole l p = Ok (l, p)

-- ---- registers are 32 words

abbrev of_words : List ℕ → Registers
of_words ws = record { pc = slice_index ws 0; x = slice_set ws 0 0 }

after_one : (a : ℕ) (r : Many ℕ) → onward r (λ x. done (record { pc = a; x = 0 ∷ x })) ≡ onward
    (onward r (λ x. done (a ∷ x))) (λ ws. done (of_words ws))
after_one a (Ok x) = refl
after_one a (Err f) = refl

after_first : (r : Result (ℕ × Place) Refusal)
    → onward r (λ a q. onward (each 31 (number_at w32) q) (λ x. done (record { pc = a; x = 0 ∷ x }))) ≡ onward
    (onward r (λ a q. onward (each 31 (number_at w32) q) (λ x. done (a ∷ x)))) (λ ws. done (of_words ws))
after_first (Ok x) = after_one x.0 (each 31 (number_at w32) x.1)
after_first (Err f) = refl

pub registers_are : (p : Place) → registers_at p ≡ onward (each 32 (number_at w32) p) (λ ws. done (of_words ws))
unfolding registers_at
registers_are p = after_first (number_at w32 p)

pub registers_fail : (e : ReadError) (p : Place) → Fails e (each 32 (number_at w32) p) → Fails e (registers_at p)
registers_fail errors.NoMemory p h = tt
registers_fail (errors.Refused f) p h = registers_are p ∙ ap (λ (r : Many ℕ). onward r (λ ws. done (of_words ws))) h

pub registers_done : (p q : Place) (front ws : List ℕ) → front ≡ ws → each 32 (number_at w32) p ≡ Ok (front, q)
    → registers_at p ≡ Ok (of_words ws, q)
registers_done p q front ws e h = registers_are p ∙ ap (λ (r : Many ℕ). onward r (λ ws. done (of_words ws))) h
    ∙ ap (found q) e
  where
    found : Place → List ℕ → Result (Registers × Place) Refusal
    found q l = Ok (of_words l, q)

-- ---- one part of several

-- If a part fails, so does what continues from it.
pub part_fails : {A B : Type 0} (e : ReadError) (r : Result (A × Place) Refusal) (next : A → Reader B) → Fails e r
    → Fails e (onward r next)
part_fails errors.NoMemory r next h = tt
part_fails {A = A} (errors.Refused f) r next h = ap (λ (x : Result (A × Place) Refusal). onward x next) h

-- If what only keeps a part of what was read fails, so does the reading.
pub kept_fails : {A B : Type 0} (e : ReadError) (r : Result (A × Place) Refusal) (kept : A → B)
    → Fails e (onward r (λ a. done (kept a))) → Fails e r
kept_fails errors.NoMemory r kept h = tt
kept_fails (errors.Refused f) (Ok x) kept h = absurd cc
kept_fails (errors.Refused f) (Err g) kept h = cc

-- What keeps a part of what was read.
pub kept_read : {A B : Type 0} (r : Result (A × Place) Refusal) (kept : A → B) (a : A) (p : Place)
    → r ≡ Ok (a, p) → onward r (λ x. done (kept x)) ≡ Ok (kept a, p)
kept_read r kept a p e = rw e refl

pub kept_ok : {A B : Type 0} (r : Result (A × Place) Refusal) (kept : A → B) (b : B) (p : Place)
    → onward r (λ x. done (kept x)) ≡ Ok (b, p) → (a : A) × (r ≡ Ok (a, p)) × (kept a ≡ b)
kept_ok {A = A} {B = B} r kept b p e =
    let x = onward_ok r (λ (a : A). done (kept a)) (b, p) e in
    let same = ok_is (kept x.0.0, x.0.1) (b, p) x.2 in
    (x.0.0, x.1 ∙ ap (found x.0.0) (ap (λ (y : B × Place). y.1) same), ap (λ (y : B × Place). y.0) same)
  where
    found : A → Place → Result (A × Place) Refusal
    found a q = Ok (a, q)
