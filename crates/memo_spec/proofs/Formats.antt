-- A reader agrees with an encoding: what it reads is encoded so, and what is encoded so is read again.
use Rattle.std.proofs.Common.{◌≡◌, ℕ, zero, suc, ◌+◌, ◌^◌, ◌<◌, ◌≤◌, Bool, true, false, cond, ltb, List, [], ◌∷◌, ◌++◌, length, get_or, take, drop, Result, Ok, Err, refl, sym, ap, subst, ◌∙◌, append_assoc, arith, inl, inr}
use Rattle.std.specs.List.{AllByRecursion, flat_map}
use Rattle.std.specs.Int.{Width, w8, w16, w32, byte_len, from_le_bytes, to_le_bytes}
use Rattle.std.proofs.lemmas.Bool.{cases_lt, ltb-false, le-ltb}
use Rattle.std.proofs.lemmas.List.{take_at, drop_at, append-nil, take-append-drop, length-append, length-take, get_or-drop, get_or-take, get_or_past}
use Rattle.std.proofs.lemmas.Nat.{le_bytes_2, le_bytes_4, from_le_bytes-to_le_bytes_2, from_le_bytes-to_le_bytes_4}
use Rattle.ith_text.specs.Place.{Place, Takes}
use Rattle.memo_spec.specs.declared.Refusal.{Refusal}
use Rattle.memo_spec.specs.declared.Refusal.TheVariants.{Field}
use Rattle.memo_spec.specs.Encoding.{AreBytes}
use Rattle.memo_spec.specs.Reader.{Reader, onward, ◌>>=◌, done, past, bytes_at, number_at, tested, each, chain}

abbrev pub IsBytes : List ℕ → Type 0
IsBytes bytes = (i : ℕ) → get_or bytes i 0 < 256

pub IsBytes-drop : (n : ℕ) (bytes : List ℕ) → IsBytes bytes → IsBytes (drop n bytes)
IsBytes-drop n bytes h i = rw get_or-drop (h (n + i))

pub IsBytes-take : (n : ℕ) (bytes : List ℕ) → IsBytes bytes → IsBytes (take n bytes)
IsBytes-take n bytes h i =
    elim (cases_lt i n) [
      | inl lt ↦ rw (get_or-take n bytes i 0 lt) (h i)
      | inr le ↦ rw (get_or_past (take n bytes) i 0 (omega (arith, length-take n bytes))) (omega arith)
    ]

pub AreBytes-of : (bytes : List ℕ) → IsBytes bytes → AreBytes bytes
AreBytes-of [] h = tt
AreBytes-of (b ∷ bytes) h = (h 0, AreBytes-of bytes (λ i. h (suc i)))

-- These bytes were taken, and the others remain.
pub record Took (p : Place) (text : List ℕ) (q : Place) : Type 0 where
  pub takes : Takes text p q
  pub rest : IsBytes q.left

-- The place after some bytes, if these remain.
abbrev pub behind : Place → List ℕ → List ℕ → Place
behind p text rest = record { taken = p.taken + length text; left = rest }

pub record Agrees {A : Type 0} (read : Reader A) (encode : A → List ℕ) (Fit : A → Type 0) : Type 0 where
  pub takes : (p : Place) (a : A) (q : Place) → IsBytes p.left → read p ≡ Ok (a, q) → Took p (encode a) q × Fit a
  pub again : (p : Place) (a : A) (rest : List ℕ) → Fit a → p.left ≡ encode a ++ rest
      → read p ≡ Ok (a, behind p (encode a) rest)

abbrev fine : {A : Type 0} → A → Result A Refusal
fine x = Ok x

pub ok_is : {A : Type 0} (x y : A) → fine x ≡ fine y → x ≡ y
ok_is x y e = cc

pub onward_ok : {A B : Type 0} (r : Result (A × Place) Refusal) (f : A → Reader B) (y : B × Place) → onward r f ≡ Ok y
    → (x : A × Place) × (r ≡ Ok x) × (f x.0 x.1 ≡ Ok y)
onward_ok (Ok x) f y e = (x, refl, e)
onward_ok (Err d) f y e = absurd cc

pub tested_ok : {A : Type 0} (b : Bool) (d : Refusal) (a : A) (p : Place) (y : A × Place) → tested b d a p ≡ Ok y
    → (b ≡ true) × ((a, p) ≡ y)
tested_ok true d a p y e = (refl, ok_is (a, p) y e)
tested_ok false d a p y e = absurd cc

took-then : (p m q : Place) (x y : List ℕ) → Took p x m → Took m y q → Took p (x ++ y) q
took-then p m q x y s t = record {
  takes = record {
    front = s.takes.front ∙ ap (λ (l : List ℕ). x ++ l) t.takes.front ∙ sym (append_assoc x y q.left);
    count = t.takes.count ∙ omega (arith, s.takes.count, length-append x y);
  };
  rest = t.rest;
}

-- One reader and then another, whose encodings follow each other.
pub agrees_then : {A B : Type 0} (read : Reader A) (encode : A → List ℕ) (FitA : A → Type 0)
    (next : A → Reader B) (encode_next : A → B → List ℕ) (FitB : A → B → Type 0) (whole : B → List ℕ) (Fit : B → Type 0)
    → Agrees read encode FitA → ((a : A) → FitA a → Agrees (next a) (encode_next a) (FitB a))
    → ((a : A) (b : B) → FitA a → FitB a b → Fit b × (encode a ++ encode_next a b ≡ whole b))
    → ((b : B) → Fit b → (a : A) × FitA a × FitB a b)
    → Agrees (read >>= next) whole Fit
agrees_then {A = A} {B = B} read encode FitA next encode_next FitB whole Fit one two join split = record {
  takes = λ p b q bytes e.
      let x = onward_ok (read p) next (b, q) e in
      let s = one.takes p x.0.0 x.0.1 bytes x.1 in
      let t = (two x.0.0 s.1).takes x.0.1 b q s.0.rest x.2 in
      let j = join x.0.0 b s.1 t.1 in (
        subst (λ (text : List ℕ). Took p text q) j.1 (took-then p x.0.1 q (encode x.0.0) (encode_next x.0.0 b) s.0 t.0),
        j.0,
      );
  again = λ p b rest fit e.
      let x = split b fit in
      let j = join x.0 b x.1 x.2 in
      let m = behind p (encode x.0) (encode_next x.0 b ++ rest) in
      let left : p.left ≡ encode x.0 ++ (encode_next x.0 b ++ rest) = e ∙ ap (λ (l : List ℕ). l ++ rest) (sym j.1)
      ∙ append_assoc (encode x.0) (encode_next x.0 b) rest in
      let r1 = one.again p x.0 (encode_next x.0 b ++ rest) x.1 left in
      let r2 = (two x.0 x.1).again m b rest x.2 refl in
      let len : m.taken + length (encode_next x.0 b) ≡ p.taken + length (whole b) =
      rw (← j.1) (omega (arith, length-append (encode x.0) (encode_next x.0 b))) in
      ap (λ (r : Result (A × Place) Refusal). onward r next) r1 ∙ r2
      ∙ ap (λ (n : ℕ). fine (b, record { taken = n; left = rest })) len;
}

pub agrees_done : {B : Type 0} (b : B) → Agrees (done b) (λ _. []) (λ c. c ≡ b)
agrees_done {B = B} b = record {
  takes = λ p c q bytes e.
      let same = ok_is (b, p) (c, q) e in
      let at : p ≡ q = ap (λ (x : B × Place). x.1) same in (
        subst (λ (m : Place). Took p [] m) at
            (record { takes = record { front = refl; count = omega arith }; rest = bytes }),
        sym
            (ap (λ (x : B × Place). x.0) same),
      );
  again = λ p c rest fit e.
      let at : record { taken = p.taken + 0; left = rest } ≡ p =
      rw (← e) (ap (λ (n : ℕ). record { taken = n; left = p.left }) (omega arith)) in
      rw (fit, at) refl;
}

-- The same format, defined otherwise.
pub agrees_said : {A : Type 0} (read : Reader A) (encode said : A → List ℕ) (Fit Fits : A → Type 0)
    → Agrees read encode Fit
    → ((a : A) → Fit a → Fits a × (encode a ≡ said a)) → ((a : A) → Fits a → Fit a) → Agrees read said Fits
agrees_said read encode said Fit Fits one there back = record {
  takes = λ p a q bytes e.
      let t = one.takes p a q bytes e in
      let s = there a t.1 in
      (subst (λ (text : List ℕ). Took p text q) s.1 t.0, s.0);
  again = λ p a rest fit e.
      let s = there a (back a fit) in
      rw (← s.1) (one.again p a rest (back a fit) (e ∙ ap (λ (l : List ℕ). l ++ rest) (sym s.1)));
}

-- A part of what is read, and then the rest of it.
pub agrees_part : {A B : Type 0} (read : Reader A) (encode : A → List ℕ) (FitA : A → Type 0)
    (next : A → Reader B) (encode_next : A → B → List ℕ) (FitB : A → B → Type 0)
    → Agrees read encode FitA → ((a : A) → FitA a → Agrees (next a) (encode_next a) (FitB a))
    → (part : B → A) → ((a : A) (b : B) → FitA a → FitB a b → part b ≡ a)
    → Agrees (read >>= next) (λ b. encode (part b) ++ encode_next (part b) b) (λ b. FitA (part b) × FitB (part b) b)
agrees_part {A = A} read encode FitA next encode_next FitB one two part tie =
    agrees_then read encode FitA next encode_next FitB (λ b. encode (part b) ++ encode_next (part b) b)
    (λ b. FitA (part b) × FitB (part b) b) one two
    (λ a b f g. let e = tie a b f g in (subst (λ (x : A). FitA x × FitB x b) (sym e) (f, g), rw e refl))
    (λ b f. (part b, f.0, f.1))

-- A reader with a test: a rule or a limit.
pub agrees_tested : {A : Type 0} (read : Reader A) (encode : A → List ℕ) (Fit : A → Type 0) (test : A → Bool)
    (refusal : Place → Refusal) → Agrees read encode Fit
    → Agrees (λ p. onward (read p) (λ a. tested (test a) (refusal p) a)) encode (λ a. Fit a × (test a ≡ true))
agrees_tested {A = A} read encode Fit test refusal one = record {
  takes = λ p a q bytes e.
      let x = onward_ok (read p) (λ a. tested (test a) (refusal p) a) (a, q) e in
      let y = tested_ok (test x.0.0) (refusal p) x.0.0 x.0.1 (a, q) x.2 in
      let t = one.takes p x.0.0 x.0.1 bytes x.1 in
      subst (λ (z : A × Place). Took p (encode z.0) z.1 × (Fit z.0 × (test z.0 ≡ true))) y.1 (t.0, (t.1, y.0));
  again = λ p a rest fit e. rw (one.again p a rest fit.0 e, fit.1) refl;
}

-- ---- numbers

pub record IsWide (w : Width) (limit : ℕ) : Type 0 where
  pub len : (n : ℕ) → length (to_le_bytes w n) ≡ byte_len w
  pub back : (bytes : List ℕ) → byte_len w ≤ length bytes → IsBytes bytes
      → to_le_bytes w (from_le_bytes w bytes) ≡ take (byte_len w) bytes
  pub again : (n : ℕ) (rest : List ℕ) → n < limit → from_le_bytes w (to_le_bytes w n ++ rest) ≡ n
  pub below : (bytes : List ℕ) → IsBytes bytes → from_le_bytes w bytes < limit

fits_two : (a b : ℕ) (bs : List ℕ) → IsBytes (a ∷ b ∷ bs) → IsBytes (a ∷ b ∷ [])
fits_two a b bs h zero = h 0
fits_two a b bs h (suc zero) = h 1
fits_two a b bs h (suc (suc i)) = omega arith

fits_four : (a b c d : ℕ) (bs : List ℕ) → IsBytes (a ∷ b ∷ c ∷ d ∷ bs) → IsBytes (a ∷ b ∷ c ∷ d ∷ [])
fits_four a b c d bs h zero = h 0
fits_four a b c d bs h (suc zero) = h 1
fits_four a b c d bs h (suc (suc zero)) = h 2
fits_four a b c d bs h (suc (suc (suc zero))) = h 3
fits_four a b c d bs h (suc (suc (suc (suc i)))) = omega arith

back_one : (bytes : List ℕ) → 1 ≤ length bytes → IsBytes bytes → to_le_bytes w8 (from_le_bytes w8 bytes) ≡ take 1 bytes
back_one [] le h = absurd (omega arith)
back_one (a ∷ bs) le h = ap (λ (x : ℕ). x ∷ []) (omega (arith, h 0))

back_two : (bytes : List ℕ) → 2 ≤ length bytes → IsBytes bytes
    → to_le_bytes w16 (from_le_bytes w16 bytes) ≡ take 2 bytes
back_two [] le h = absurd (omega arith)
back_two (a ∷ []) le h = absurd (omega arith)
back_two (a ∷ b ∷ bs) le h = le_bytes_2 (a ∷ b ∷ []) _ refl (fits_two a b bs h) refl

back_four : (bytes : List ℕ) → 4 ≤ length bytes → IsBytes bytes
    → to_le_bytes w32 (from_le_bytes w32 bytes) ≡ take 4 bytes
back_four [] le h = absurd (omega arith)
back_four (a ∷ []) le h = absurd (omega arith)
back_four (a ∷ b ∷ []) le h = absurd (omega arith)
back_four (a ∷ b ∷ c ∷ []) le h = absurd (omega arith)
back_four (a ∷ b ∷ c ∷ d ∷ bs) le h = le_bytes_4 (a ∷ b ∷ c ∷ d ∷ []) _ refl (fits_four a b c d bs h) refl

pub wide8 : IsWide w8 256
wide8 = record {
  len = λ n. refl;
  back = back_one;
  again = λ n rest lt. omega arith;
  below = λ bytes h. omega (arith, h 0);
}

pub wide16 : IsWide w16 (2 ^ 16)
wide16 = record {
  len = λ n. refl;
  back = back_two;
  again = λ n rest lt. from_le_bytes-to_le_bytes_2 n lt;
  below = λ bytes h. omega (arith, h 0, h 1);
}

pub wide32 : IsWide w32 (2 ^ 32)
wide32 = record {
  len = λ n. refl;
  back = back_four;
  again = λ n rest lt. from_le_bytes-to_le_bytes_4 n lt;
  below = λ bytes h. omega (arith, h 0, h 1, h 2, h 3);
}

guard_ok : {A : Type 0} (b : Bool) (d : Refusal) (x y : A) → cond b (Err d) (Ok x) ≡ Ok y → (b ≡ false) × (x ≡ y)
guard_ok true d x y e = absurd cc
guard_ok false d x y e = (refl, ok_is x y e)

-- ---- a run of bytes

pub agrees_bytes : (n : ℕ) → Agrees (bytes_at n) (λ bs. bs) (λ bs. (length bs ≡ n) × AreBytes bs)
agrees_bytes n = record {
  takes = λ p bs q bytes e.
      let g = guard_ok (ltb (length p.left) n) (Field p.taken) (take n p.left, past n p) (bs, q) e in
      let long : n ≤ length p.left = ltb-false _ _ g.0 in
      let len : length (take n p.left) ≡ n = omega (arith, length-take n p.left) in
      let took : Took p (take n p.left) (past n p) =
      record {
        takes = record {
          front = sym (take-append-drop n p.left);
          count =
              ap (λ (k : ℕ). p.taken + k) (sym len);
        };
        rest = IsBytes-drop n p.left bytes;
      } in
      subst (λ (z : List ℕ × Place). Took p z.0 z.1 × ((length z.0 ≡ n) × AreBytes z.0)) g.1
      (took, (len, AreBytes-of (take n p.left) (IsBytes-take n p.left bytes)));
  again = λ p bs rest fit e.
      let long : ltb (length (bs ++ rest)) n ≡ false = le-ltb _ _ (omega (arith, length-append bs rest, fit.0)) in
      rw (e, long, take_at bs rest n fit.0, drop_at bs rest n fit.0, fit.0) refl;
}

pub agrees_number : (w : Width) (limit : ℕ) → IsWide w limit → Agrees (number_at w) (to_le_bytes w) (λ n. n < limit)
agrees_number w limit wide = record {
  takes = λ p n q bytes e.
      let g = guard_ok (ltb (length p.left) (byte_len w)) (Field p.taken) (from_le_bytes w p.left, past (byte_len w) p)
      (n, q) e in
      let long : byte_len w ≤ length p.left = ltb-false _ _ g.0 in
      let back = wide.back p.left long bytes in
      let took : Took p (to_le_bytes w (from_le_bytes w p.left)) (past (byte_len w) p) =
      record {
        takes = record {
          front = rw back (sym (take-append-drop (byte_len w) p.left));
          count =
              ap (λ (k : ℕ). p.taken + k) (sym (wide.len (from_le_bytes w p.left)));
        };
        rest =
            IsBytes-drop (byte_len w) p.left bytes;
      } in
      subst (λ (z : ℕ × Place). Took p (to_le_bytes w z.0) z.1 × (z.0 < limit)) g.1 (took, wide.below p.left bytes);
  again = λ p n rest fit e.
      let len = wide.len n in
      let long : ltb (length (to_le_bytes w n ++ rest)) (byte_len w) ≡ false =
      le-ltb _ _ (omega (arith, length-append (to_le_bytes w n) rest, len)) in
      rw (e, long, wide.again n rest fit, drop_at (to_le_bytes w n) rest (byte_len w) len, len) refl;
}

-- ---- a number of things of a kind

pub agrees_each : {A : Type 0} (read : Reader A) (encode : A → List ℕ) (Fit : A → Type 0) → Agrees read encode Fit
    → (n : ℕ)
    → Agrees (each n read) (flat_map encode) (λ xs. (length xs ≡ n) × AllByRecursion Fit xs)
agrees_each {A = A} read encode Fit one zero =
    agrees_said (done []) (λ _. []) (flat_map encode) (λ xs. xs ≡ []) (λ xs. (length xs ≡ 0) × AllByRecursion Fit xs)
    (agrees_done [])
    (λ xs e. subst (λ (ys : List A). ((length ys ≡ 0) × AllByRecursion Fit ys) × ([] ≡ flat_map encode ys)) (sym e)
    ((refl, tt), refl))
    none_left
  where
    none_left : (xs : List A) → (length xs ≡ 0) × AllByRecursion Fit xs → xs ≡ []
    none_left [] h = refl
    none_left (x ∷ xs) h = absurd (omega (arith, h.0))
agrees_each {A = A} read encode Fit one (suc n) =
    agrees_then read encode Fit (λ first. each n read >>= λ others. done (first ∷ others))
    (λ first xs. flat_map encode (drop 1 xs) ++ [])
    (λ first xs. ((length (drop 1 xs) ≡ n) × AllByRecursion Fit (drop 1 xs)) × (xs ≡ first ∷ drop 1 xs))
    (flat_map encode) (λ xs. (length xs ≡ suc n) × AllByRecursion Fit xs) one
    (λ first fit. agrees_part (each n read) (flat_map encode) (λ xs. (length xs ≡ n) × AllByRecursion Fit xs)
    (λ others. done (first ∷ others)) (λ others xs. []) (λ others xs. xs ≡ first ∷ others)
    (agrees_each read encode Fit one n) (λ others _. agrees_done (first ∷ others)) (drop 1)
    (λ others xs _ e. ap (drop 1) e))
    (λ first xs fit g. subst
    (λ (ys : List A). ((length ys ≡ suc n) × AllByRecursion Fit ys)
    × (encode first ++ (flat_map encode (drop 1 xs) ++ []) ≡ flat_map encode ys)) (sym g.1)
    ((ap suc g.0.0, (fit, g.0.1)), ap (λ (l : List ℕ). encode first ++ l) (append-nil (flat_map encode (drop 1 xs)))))
    first_left
  where
    first_left : (xs : List A) → (length xs ≡ suc n) × AllByRecursion Fit xs → (x : A) × Fit x
        × (((length (drop 1 xs) ≡ n) × AllByRecursion Fit (drop 1 xs)) × (xs ≡ x ∷ drop 1 xs))
    first_left [] h = absurd (omega (arith, h.0))
    first_left (x ∷ xs) h = (x, h.1.0, ((omega (arith, h.0), h.1.1), refl))

-- ---- a number of things, each in the state after the one before it

abbrev pub Chained : {S A : Type 0} → (S → A × S → Type 0) → S → List A → S → Type 0
Chained Fit s [] t = t ≡ s
Chained {S = S} Fit s (a ∷ rest) t = (m : S) × Fit s (a, m) × Chained Fit m rest t

abbrev pair : {A S : Type 0} → List A → S → List A × S
pair xs t = (xs, t)

pub agrees_chain : {S A : Type 0} (step : S → Reader (A × S)) (encode : A → List ℕ) (Fit : S → A × S → Type 0)
    → ((s : S) → Agrees (step s) (λ x. encode x.0) (Fit s)) → (n : ℕ) (s : S)
    → Agrees (chain step n s) (λ x. flat_map encode x.0) (λ x. (length x.0 ≡ n) × Chained Fit s x.0 x.1)
agrees_chain {S = S} {A = A} step encode Fit one zero s =
    agrees_said (done ([], s)) (λ _. []) (λ x. flat_map encode x.0) (λ x. x ≡ ([], s))
    (λ x. (length x.0 ≡ 0) × Chained Fit s x.0 x.1) (agrees_done ([], s))
    (λ x e. subst (λ (y : List A × S). ((length y.0 ≡ 0) × Chained Fit s y.0 y.1) × ([] ≡ flat_map encode y.0)) (sym e)
    ((refl, refl), refl))
    (λ x. none_left x.0 x.1)
  where
    none_left : (xs : List A) (t : S) → (length xs ≡ 0) × Chained Fit s xs t → pair xs t ≡ pair [] s
    none_left [] t h = ap (pair []) h.1
    none_left (x ∷ xs) t h = absurd (omega (arith, h.0))
agrees_chain {S = S} {A = A} step encode Fit one (suc n) s =
    agrees_then (step s) (λ x. encode x.0) (Fit s) (λ x. chain step n x.1 >>= λ others. done (x.0 ∷ others.0, others.1))
    (λ x y. flat_map encode (drop 1 y.0) ++ [])
    (λ x y. ((length (drop 1 y.0) ≡ n) × Chained Fit x.1 (drop 1 y.0) y.1) × (y ≡ (x.0 ∷ drop 1 y.0, y.1)))
    (λ y. flat_map encode y.0) (λ y. (length y.0 ≡ suc n) × Chained Fit s y.0 y.1) (one s)
    (λ x fit. agrees_part (chain step n x.1) (λ y. flat_map encode y.0) (λ y. (length y.0 ≡ n) × Chained Fit x.1 y.0 y.1)
    (λ others. done (x.0 ∷ others.0, others.1)) (λ others y. []) (λ others y. y ≡ (x.0 ∷ others.0, others.1))
    (agrees_chain step encode Fit one n x.1) (λ others _. agrees_done (x.0 ∷ others.0, others.1))
    (λ y. (drop 1 y.0, y.1)) (λ others y _ e. ap (λ (z : List A × S). (drop 1 z.0, z.1)) e))
    (λ x y fit g. subst (λ (z : List A × S). ((length z.0 ≡ suc n) × Chained Fit s z.0 z.1)
    × (encode x.0 ++ (flat_map encode (drop 1 y.0) ++ []) ≡ flat_map encode z.0)) (sym g.1) (
      (ap suc g.0.0, (x.1, fit, g.0.1)),
      ap (λ (l : List ℕ). encode x.0 ++ l)
          (append-nil (flat_map encode (drop 1 y.0))),
    ))
    (λ y. first_left y.0 y.1)
  where
    first_left : (xs : List A) (t : S) → (length xs ≡ suc n) × Chained Fit s xs t → (x : A × S) × Fit s x
        × (((length (drop 1 xs) ≡ n) × Chained Fit x.1 (drop 1 xs) t) × (pair xs t ≡ pair (x.0 ∷ drop 1 xs) t))
    first_left [] t h = absurd (omega (arith, h.0))
    first_left (x ∷ xs) t h = ((x, h.1.0), h.1.1, ((omega (arith, h.0), h.1.2), refl))
