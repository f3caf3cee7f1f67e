-- The marks that bytes encode, place by place, and a page that is filled at them.
use Rattle.std.proofs.Common.{◌≡◌, ◌≢◌, ℕ, zero, suc, ◌+◌, ◌*◌, ◌/◌, ◌%◌, ◌^◌, ◌<◌, ◌≤◌, Bool, true, false, cond, List, [], ◌∷◌, ◌++◌, length, map, get_or, set, take, replicate, refl, sym, ap, ◌∙◌, arith, eq-eqb}
use Rattle.std.specs.Prelude.{◌==◌, count_ones}
use Rattle.std.specs.List.{count_by}
use Rattle.std.specs.Int.{bit_at}
use Rattle.std.specs.Int.RustNames.{bit_and}
use Rattle.std.specs.Simd.Lanes.{mask_l}
use Rattle.std.proofs.lemmas.Bool.{ne_eqb}
use Rattle.std.proofs.lemmas.Simd.{ones-mask_l}
use Rattle.std.proofs.lemmas.Nat.Bits.{bit_at-zero, shr_and_one}
use Rattle.std.proofs.lemmas.List.{take_more, take_all, length-set}
use Rattle.std.proofs.lemmas.List.Sums.{count_by_more_yes, count_by_more_no, count_by-le-length, sum_by-append, sum_by-take-le}
use Rattle.memory_spec.specs.Workspace.{no_marks}
use Rattle.thunk_spec.specs.Delta.{chosen}
use Rattle.memo_spec.specs.Reading.{marks_of}
use Rattle.memo_spec.proofs.Masks.{length_marks}
use Rattle.memo_file.specs.Filling.{filled, Filled}

-- ---- one place

abbrev bit_of : List ℕ → ℕ → Bool
bit_of bytes k = bit_at (get_or bytes (k / 8) 0) (k % 8) == 1

later : (b : ℕ) (bytes : List ℕ) (k : ℕ) → bit_of bytes k ≡ bit_of (b ∷ bytes) (8 + k)
later b bytes k =
    let d : (8 + k) / 8 ≡ suc (k / 8) = omega arith in
    let m : (8 + k) % 8 ≡ k % 8 = omega arith in
    rw (d, m) refl

marks_at : (bytes : List ℕ) (k : ℕ) → get_or (marks_of bytes) k false ≡ bit_of bytes k
marks_at [] k = sym (ap (λ (n : ℕ). n == 1) (bit_at-zero (k % 8)))
marks_at (b ∷ bytes) zero = refl
marks_at (b ∷ bytes) (suc zero) = refl
marks_at (b ∷ bytes) (suc (suc zero)) = refl
marks_at (b ∷ bytes) (suc (suc (suc zero))) = refl
marks_at (b ∷ bytes) (suc (suc (suc (suc zero)))) = refl
marks_at (b ∷ bytes) (suc (suc (suc (suc (suc zero))))) = refl
marks_at (b ∷ bytes) (suc (suc (suc (suc (suc (suc zero)))))) = refl
marks_at (b ∷ bytes) (suc (suc (suc (suc (suc (suc (suc zero))))))) = refl
marks_at (b ∷ bytes) (suc (suc (suc (suc (suc (suc (suc (suc k)))))))) =
    let e : suc (suc (suc (suc (suc (suc (suc (suc k))))))) ≡ 8 + k = omega arith in
    marks_at bytes k ∙ later b bytes k ∙ ap (bit_of (b ∷ bytes)) (sym e)

tested_at : (bytes : List ℕ) (group bit : ℕ) → bit < 8
    → (bit_and (get_or bytes group 0 / 2 ^ bit) 1 == 1) ≡ get_or (marks_of bytes) (8 * group + bit) false
tested_at bytes group bit lt =
    let d : (8 * group + bit) / 8 ≡ group = omega (arith, lt) in
    let m : (8 * group + bit) % 8 ≡ bit = omega (arith, lt) in
    ap (λ (n : ℕ). n == 1) (shr_and_one (get_or bytes group 0) bit)
    ∙ sym (marks_at bytes (8 * group + bit) ∙ ap (λ (j : ℕ). bit_at (get_or bytes j 0) ((8 * group + bit) % 8) == 1) d
    ∙ ap (λ (i : ℕ). bit_at (get_or bytes group 0) i == 1) m)

blank_at : (bytes : List ℕ) (group k : ℕ) → get_or bytes group 0 ≡ 0 → 8 * group ≤ k → k < 8 * group + 8
    → get_or (marks_of bytes) k false ≡ false
blank_at bytes group k none from below =
    let same : k / 8 ≡ group = omega (arith, from, below) in
    marks_at bytes k
    ∙ ap (λ (j : ℕ). bit_at (get_or bytes j 0) (k % 8) == 1) same
    ∙ ap (λ (w : ℕ). bit_at w (k % 8) == 1) none
    ∙ ap (λ (n : ℕ). n == 1) (bit_at-zero (k % 8))

-- ---- how many

bit_is : (n : ℕ) → n < 2 → cond (n == 1) 1 0 ≡ n
bit_is zero lt = refl
bit_is (suc zero) lt = refl
bit_is (suc (suc n)) lt = absurd (omega arith)

word_is : (b : ℕ) → b < 256 → mask_l (marks_of (b ∷ [])) ≡ b
word_is b lt =
    let a0 = bit_is (bit_at b 0) (omega arith) in
    let a1 = bit_is (bit_at b 1) (omega arith) in
    let a2 = bit_is (bit_at b 2) (omega arith) in
    let a3 = bit_is (bit_at b 3) (omega arith) in
    let a4 = bit_is (bit_at b 4) (omega arith) in
    let a5 = bit_is (bit_at b 5) (omega arith) in
    let a6 = bit_is (bit_at b 6) (omega arith) in
    let a7 = bit_is (bit_at b 7) (omega arith) in
    omega (arith, a0, a1, a2, a3, a4, a5, a6, a7)

map_same : (l : List Bool) → map (λ (mark : Bool). mark) l ≡ l
map_same [] = refl
map_same (x ∷ l) = ap (λ (r : List Bool). x ∷ r) (map_same l)

ones_are : (b : ℕ) → b < 256 → count_ones b ≡ count_by (λ mark. mark) (marks_of (b ∷ []))
ones_are b lt =
    ap count_ones (sym (word_is b lt)) ∙ ap (λ (l : List Bool). count_ones (mask_l l))
    (sym (map_same (marks_of (b ∷ [])))) ∙ ones-mask_l (λ (mark : Bool). mark) (marks_of (b ∷ []))

counted : (b : ℕ) (bytes : List ℕ) → count_by (λ mark. mark) (marks_of (b ∷ bytes)) ≡ count_by (λ mark. mark)
    (marks_of (b ∷ [])) + count_by (λ mark. mark) (marks_of bytes)
counted b bytes = sum_by-append (λ (mark : Bool). cond mark 1 0) (marks_of (b ∷ [])) (marks_of bytes)

marks_more : (front : List ℕ) (b : ℕ) → count_by (λ mark. mark) (marks_of (front ++ b ∷ [])) ≡ count_by (λ mark. mark)
    (marks_of front) + count_by (λ mark. mark) (marks_of (b ∷ []))
marks_more [] b = omega arith
marks_more (x ∷ front) b = omega (arith, counted x (front ++ b ∷ []), counted x front, marks_more front b)

pub count_more : (bytes : List ℕ) (i b : ℕ) → i < length bytes → b ≡ get_or bytes i 0 → b < 256
    → count_by (λ mark. mark) (marks_of (take i bytes)) + count_ones b ≡ count_by (λ mark. mark)
    (marks_of (take (i + 1) bytes))
count_more bytes i b lt e small =
    let t : take (i + 1) bytes ≡ take i bytes ++ b ∷ [] = take_more bytes i 0 lt
    ∙ ap (λ (x : ℕ). take i bytes ++ x ∷ []) (sym e) in
    rw t (omega (arith, marks_more (take i bytes) b, ones_are b small))

pub count_few : (bytes : List ℕ) → count_by (λ mark. mark) (marks_of bytes) ≤ 8 * length bytes
count_few bytes = omega (arith, count_by-le-length (λ (mark : Bool). mark) (marks_of bytes), length_marks bytes)

-- ---- marks so far

filled-none : (m : List Bool) → filled zero m ≡ replicate (length m) false
filled-none [] = refl
filled-none (x ∷ m) = ap (λ (r : List Bool). false ∷ r) (filled-none m)

filled-all : (m : List Bool) → filled (length m) m ≡ m
filled-all [] = refl
filled-all (x ∷ m) = ap (λ (r : List Bool). x ∷ r) (filled-all m)

filled-set : (m : List Bool) (p : ℕ) → get_or m p false ≡ true → set (filled p m) p true ≡ filled (suc p) m
filled-set [] p e = refl
filled-set (x ∷ m) zero e = ap (λ (y : Bool). y ∷ filled zero m) (sym e)
filled-set (x ∷ m) (suc p) e = ap (λ (r : List Bool). x ∷ r) (filled-set m p e)

filled-skip : (m : List Bool) (p : ℕ) → get_or m p false ≡ false → filled p m ≡ filled (suc p) m
filled-skip [] p e = refl
filled-skip (x ∷ m) zero e = ap (λ (y : Bool). y ∷ filled zero m) (sym e)
filled-skip (x ∷ m) (suc p) e = ap (λ (r : List Bool). x ∷ r) (filled-skip m p e)

chosen-set : (m : List Bool) (page : List ℕ) (p b : ℕ) → p < length m → p < length page → get_or m p false ≡ true
    → chosen (take (suc p) m) (set page p b) ≡ chosen (take p m) page ++ b ∷ []
chosen-set [] page p b lt le e = absurd (omega arith)
chosen-set (x ∷ m) [] p b lt le e = absurd (omega arith)
chosen-set (x ∷ m) (y ∷ page) zero b lt le e = rw e refl
chosen-set (true ∷ m) (y ∷ page) (suc p) b lt le e = ap (λ (r : List ℕ). y ∷ r)
    (chosen-set m page p b (omega arith) (omega arith) e)
chosen-set (false ∷ m) (y ∷ page) (suc p) b lt le e = chosen-set m page p b (omega arith) (omega arith) e

chosen-skip : (m : List Bool) (page : List ℕ) (p : ℕ) → get_or m p false ≡ false
    → chosen (take p m) page ≡ chosen (take (suc p) m) page
chosen-skip [] page zero e = refl
chosen-skip [] page (suc p) e = refl
chosen-skip (x ∷ m) [] zero e = refl
chosen-skip (x ∷ m) [] (suc p) e = refl
chosen-skip (x ∷ m) (y ∷ page) zero e = rw e refl
chosen-skip (true ∷ m) (y ∷ page) (suc p) e = ap (λ (r : List ℕ). y ∷ r) (chosen-skip m page p e)
chosen-skip (false ∷ m) (y ∷ page) (suc p) e = chosen-skip m page p e

is_no_marks : replicate 4096 false ≡ no_marks
unfolding no_marks
is_no_marks = refl

pub filled_first : (m : List Bool) (bytes page : List ℕ) → length m ≡ 4096 → length page ≡ 4096
    → Filled m bytes 0 no_marks page 0
filled_first m bytes page len size = record {
  within = omega arith;
  mask = sym (filled-none m ∙ ap (λ (n : ℕ). replicate n false) len ∙ is_no_marks);
  page = size ∙ sym len;
  picked = refl;
  count = refl;
}

count-take : (m : List Bool) (p : ℕ) → count_by (λ mark. mark) (take p m) ≤ count_by (λ mark. mark) m
count-take m p = sum_by-take-le (λ (mark : Bool). cond mark 1 0) m p

filled_room : (m : List Bool) (bytes : List ℕ) (p : ℕ) (mask : List Bool) (page : List ℕ) (next : ℕ)
    → Filled m bytes p mask page next → p < length m → get_or m p false ≡ true
    → length bytes ≡ count_by (λ mark. mark) m → next < length bytes
filled_room m bytes p mask page next f lt e len =
    omega (arith, f.count, count_by_more_yes (λ (mark : Bool). mark) m p false lt e, count-take m (p + 1), len)

filled_more : (m : List Bool) (bytes : List ℕ) (p : ℕ) (mask : List Bool) (page : List ℕ) (next : ℕ)
    → Filled m bytes p mask page next → p < length m → get_or m p false ≡ true
    → length bytes ≡ count_by (λ mark. mark) m
    → Filled m bytes (p + 1) (set mask p true) (set page p (get_or bytes next 0)) (next + 1)
filled_more m bytes p mask page next f lt e len =
    let one : p + 1 ≡ suc p = omega arith in
    let room = filled_room m bytes p mask page next f lt e len in
    record {
      within = omega arith;
      mask = ap (λ (r : List Bool). set r p true) f.mask ∙ filled-set m p e ∙ ap (λ (k : ℕ). filled k m) (sym one);
      page = length-set page p (get_or bytes next 0) ∙ f.page;
      picked =
          ap (λ (k : ℕ). chosen (take k m) (set page p (get_or bytes next 0))) one
          ∙ chosen-set m page p (get_or bytes next 0) lt (omega (arith, f.page)) e
          ∙ ap (λ (r : List ℕ). r ++ get_or bytes next 0 ∷ []) f.picked ∙ sym (take_more bytes next 0 room);
      count = omega (arith, f.count, count_by_more_yes (λ (mark : Bool). mark) m p false lt e);
    }

filled_skip : (m : List Bool) (bytes : List ℕ) (p : ℕ) (mask : List Bool) (page : List ℕ) (next : ℕ)
    → Filled m bytes p mask page next → p < length m → get_or m p false ≡ false
    → Filled m bytes (p + 1) mask page next
filled_skip m bytes p mask page next f lt e =
    let one : p + 1 ≡ suc p = omega arith in
    record {
      within = omega arith;
      mask = f.mask ∙ filled-skip m p e ∙ ap (λ (k : ℕ). filled k m) (sym one);
      page = f.page;
      picked = ap (λ (k : ℕ). chosen (take k m) page) one ∙ sym (chosen-skip m page p e) ∙ f.picked;
      count = f.count ∙ sym (count_by_more_no (λ (mark : Bool). mark) m p false lt e);
    }

filled_blank : (n : ℕ) (m : List Bool) (bytes : List ℕ) (p : ℕ) (mask : List Bool) (page : List ℕ) (next : ℕ)
    → Filled m bytes p mask page next → p + n ≤ length m
    → ((k : ℕ) → p ≤ k → k < p + n → get_or m k false ≡ false) → Filled m bytes (p + n) mask page next
filled_blank zero m bytes p mask page next f le blank =
    let same : p ≡ p + 0 = omega arith in
    rw (← same) f
filled_blank (suc n) m bytes p mask page next f le blank =
    let same : p + 1 + n ≡ p + suc n = omega arith in
    rw (← same) (filled_blank n m bytes (p + 1) mask page next
    (filled_skip m bytes p mask page next f (omega arith) (blank p (omega arith) (omega arith))) (omega arith)
    (λ k from below. blank k (omega arith) (omega arith)))

abbrev pub bit_in : List ℕ → ℕ → ℕ → ℕ
bit_in marks group bit = bit_and (get_or marks group 0 / 2 ^ bit) 1

below_all : (marks : List ℕ) (group bit : ℕ) → length marks ≡ 512 → group < 512 → bit < 8
    → 8 * group + bit < length (marks_of marks)
below_all marks group bit size lt bits = omega (arith, length_marks marks, size, lt, bits)

pub bit_room : (marks bytes : List ℕ) (group bit : ℕ) (mask : List Bool) (page : List ℕ) (next : ℕ)
    → length marks ≡ 512 → group < 512 → bit < 8 → Filled (marks_of marks) bytes (8 * group + bit) mask page next
    → bit_in marks group bit ≡ 1 → length bytes ≡ count_by (λ mark. mark) (marks_of marks)
    → next < length bytes
bit_room marks bytes group bit mask page next size lt bits f one len =
    filled_room (marks_of marks) bytes (8 * group + bit) mask page next f (below_all marks group bit size lt bits)
    (sym (tested_at marks group bit bits) ∙ eq-eqb _ _ one) len

pub bit_more : (marks bytes : List ℕ) (group bit : ℕ) (mask : List Bool) (page : List ℕ) (next : ℕ)
    → length marks ≡ 512 → group < 512 → bit < 8 → Filled (marks_of marks) bytes (8 * group + bit) mask page next
    → bit_in marks group bit ≡ 1 → length bytes ≡ count_by (λ mark. mark) (marks_of marks)
    → Filled (marks_of marks) bytes (8 * group + (bit + 1)) (set mask (8 * group + bit) true)
    (set page (8 * group + bit) (get_or bytes next 0)) (next + 1)
bit_more marks bytes group bit mask page next size lt bits f one len =
    let same : 8 * group + bit + 1 ≡ 8 * group + (bit + 1) = omega arith in
    rw (← same) (filled_more (marks_of marks) bytes (8 * group + bit) mask page next f
    (below_all marks group bit size lt bits) (sym (tested_at marks group bit bits) ∙ eq-eqb _ _ one) len)

pub bit_skip : (marks bytes : List ℕ) (group bit : ℕ) (mask : List Bool) (page : List ℕ) (next : ℕ)
    → length marks ≡ 512 → group < 512 → bit < 8 → Filled (marks_of marks) bytes (8 * group + bit) mask page next
    → bit_in marks group bit ≢ 1
    → Filled (marks_of marks) bytes (8 * group + (bit + 1)) mask page next
bit_skip marks bytes group bit mask page next size lt bits f other =
    let same : 8 * group + bit + 1 ≡ 8 * group + (bit + 1) = omega arith in
    rw (← same) (filled_skip (marks_of marks) bytes (8 * group + bit) mask page next f
    (below_all marks group bit size lt bits) (sym (tested_at marks group bit bits) ∙ ne_eqb _ _ other))

pub filled_eight : (m : List Bool) (bytes : List ℕ) (group : ℕ) (mask : List Bool) (page : List ℕ) (next : ℕ)
    → Filled m bytes (8 * group + 8) mask page next → Filled m bytes (8 * (group + 1)) mask page next
filled_eight m bytes group mask page next f = let same : 8 * group + 8 ≡ 8 * (group + 1) = omega arith in rw (← same) f

pub filled_none : (marks bytes : List ℕ) (group : ℕ) (mask : List Bool) (page : List ℕ) (next : ℕ)
    → Filled (marks_of marks) bytes (8 * group) mask page next → group < length marks → get_or marks group 0 ≡ 0
    → Filled (marks_of marks) bytes (8 * (group + 1)) mask page next
filled_none marks bytes group mask page next f lt none =
    let same : 8 * group + 8 ≡ 8 * (group + 1) = omega arith in
    rw (← same) (filled_blank 8 (marks_of marks) bytes (8 * group) mask page next f
    (omega (arith, length_marks marks, lt)) (λ k from below. blank_at marks group k none from below))

pub filled_last : (m : List Bool) (bytes : List ℕ) (p : ℕ) (mask : List Bool) (page : List ℕ) (next : ℕ)
    → Filled m bytes p mask page next → p ≡ length m → length bytes ≡ count_by (λ mark. mark) m
    → (mask ≡ m) × (chosen m page ≡ bytes)
filled_last m bytes p mask page next f end len =
    let whole : take p m ≡ m = take_all p m (omega (arith, end)) in
    let n : next ≡ length bytes = f.count ∙ ap (count_by (λ (mark : Bool). mark)) whole ∙ sym len in (
      f.mask ∙ ap (λ (k : ℕ). filled k m) end ∙ filled-all m,
      ap (λ (l : List Bool). chosen l page) (sym whole) ∙ f.picked ∙ take_all next bytes (omega (arith, n)),
    )
