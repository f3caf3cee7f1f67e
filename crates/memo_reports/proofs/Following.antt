-- What is found in the claims of the first of some records, as far as it determines the first false one of all.
use Rattle.std.proofs.Common.{◌≡◌, ℕ, zero, suc, ◌+◌, ◌<◌, ◌≤◌, Bool, true, false, cond, List, [], ◌∷◌, ◌++◌, length, drop, Option, Some, None, is_none, refl, sym, ap, ◌∙◌, subst, arith}
use Rattle.std.specs.Prelude.{slice_get}
use Rattle.thunk_spec.specs.Record.{Record}
use Rattle.machine_spec.specs.Machine.{Machine, hart_of, is_ready}
use Rattle.machine_spec.specs.Step.{apply, fits, can_step}
use Rattle.machine_spec.specs.Schedule.{record_of}
use Rattle.history_spec.proofs.Scratch.{and-left, and-right}
use Rattle.history_spec.proofs.Applying.{fits-can_step}
use Rattle.history_spec.proofs.Truth.{record-fits}
use Rattle.release_core.specs.Applying.{can_apply}
use Rattle.history_spec.specs.Audit.{IsMade, IsFirstFalseFrom, turns_from}
use Rattle.memo_reports.specs.declared.audit.claims.Claim.{Claim}
use Rattle.memo_reports.specs.Claims.{IsTrueClaim, made_by, turns_in, IsFirstIn, IsClaimOf, AreClaims, first_of_both}

-- a record whose claim is true is as the machine makes it
claim-made : (m : Machine) (r : Record) (c : Claim) → can_apply m r ≡ true → IsClaimOf m r c → IsTrueClaim c → IsMade m r
claim-made m r c can is true_claim = record {
  can = fits-can_step m r (and-left (is_none m.ending) (fits m r) can) (and-right (is_none m.ending) (fits m r) can);
  made = sym is.reported ∙ true_claim ∙ is.makes;
}

made-claim : (m : Machine) (r : Record) (c : Claim) → IsClaimOf m r c → IsMade m r → IsTrueClaim c
made-claim m r c is made = is.reported ∙ made.made ∙ sym is.makes

-- a record that can't be applied isn't as the machine makes it
pub unstored-unmade : (m : Machine) (r : Record) → can_apply m r ≡ false → IsMade m r → ⊥
unstored-unmade m r cannot made =
    let none : is_none m.ending ≡ true = and-left (is_none m.ending) _ made.can in
    let ready = and-right (is_none m.ending) _ made.can in
    let fit : fits m r ≡ true = subst (λ (x : Record). fits m x ≡ true) (sym made.made) (record-fits m r.thread ready) in
    let can : can_apply m r ≡ true = rw (none, fit) refl in
    absurd (let no : true ≡ false = sym can ∙ cannot in cc)

-- a record that can be applied is of a ready thread, which may make a step
pub apply_can : (m : Machine) (r : Record) → can_apply m r ≡ true → can_step m r.thread ≡ true
apply_can m r can =
    fits-can_step m r (and-left (is_none m.ending) (fits m r) can) (and-right (is_none m.ending) (fits m r) can)

pub apply_ready : (m : Machine) (r : Record) → can_apply m r ≡ true → is_ready (hart_of m r.thread).status ≡ true
apply_ready m r can = and-right (is_none m.ending) (is_ready (hart_of m r.thread).status) (apply_can m r can)

-- What is found of a whole, if what was found so far is of its first records: the first false one among
-- them, or else what is found of the rest.
abbrev pub IsSoFar : (Option ℕ → Type 0) → (Option ℕ → Type 0) → ℕ → Option ℕ → Type 0
IsSoFar Whole Rest count None = (p : Option ℕ) → Rest p → Whole (first_of_both None count p)
IsSoFar Whole Rest count (Some place) = Whole (Some place)

both-none : (count more : ℕ) (p : Option ℕ)
    → first_of_both None count (first_of_both None more p) ≡ first_of_both None (count + more) p
both-none count more None = refl
both-none count more (Some i) = ap (λ (k : ℕ). Some k) (omega arith)

pub far-then :
    (Whole Rest Other : Option ℕ → Type 0) (count more : ℕ) (a b : Option ℕ)
    → IsSoFar Whole Rest count a → IsSoFar Rest Other more b → IsSoFar Whole Other (count + more) (first_of_both a count b)
far-then Whole Rest Other count more (Some i) b x y = x
far-then Whole Rest Other count more None (Some i) x y = x (Some i) y
far-then Whole Rest Other count more None None x y = λ p other.
    subst Whole (both-none count more p) (x (first_of_both None more p) (y p other))

pub far-closed :
    (Whole Rest : Option ℕ → Type 0) (count : ℕ) (a p : Option ℕ)
    → IsSoFar Whole Rest count a → Rest p → Whole (first_of_both a count p)
far-closed Whole Rest count None p x rest = x p rest
far-closed Whole Rest count (Some i) p x rest = x

-- no claim was checked
pub far-nothing : (Whole : Option ℕ → Type 0) → IsSoFar Whole Whole 0 None
far-nothing Whole None whole = whole
far-nothing Whole (Some i) whole = let e : i ≡ 0 + i = omega arith in subst (λ (k : ℕ). Whole (Some k)) e whole

-- claims that were executed determine which of their records is false
pub claims-far :
    (m : Machine) (rs : List Record) (cs : List Claim) (after : Machine) (first : Option ℕ)
    → AreClaims m rs cs after → IsFirstIn cs first
    → IsSoFar (IsFirstFalseFrom m rs) (IsFirstFalseFrom after (drop (length cs) rs)) (length cs) first
claims-far m rs [] after None led found =
    subst (λ (x : Machine). IsSoFar (IsFirstFalseFrom m rs) (IsFirstFalseFrom x rs) 0 None) (sym led)
    (far-nothing (IsFirstFalseFrom m rs))
claims-far m rs [] after (Some i) led found = absurd found
claims-far m [] (c ∷ cs) after first led found = absurd led
claims-far m (r ∷ rs) (c ∷ cs) after None led found = λ p rest.
    step p (claims-far (apply m r) rs cs after None led.1.1 found.1 p rest)
  where
    made : IsMade m r
    made = claim-made m r c led.0 led.1.0 found.0

    step : (p : Option ℕ) → IsFirstFalseFrom (apply m r) rs (first_of_both None (length cs) p)
        → IsFirstFalseFrom m (r ∷ rs) (first_of_both None (suc (length cs)) p)
    step None rest = (made, rest)
    step (Some i) rest =
        let e : suc (length cs + i) ≡ suc (length cs) + i = omega arith in
        subst (λ (k : ℕ). IsFirstFalseFrom m (r ∷ rs) (Some k)) e (made, rest)
claims-far m (r ∷ rs) (c ∷ cs) after (Some zero) led found = λ made. found (made-claim m r c led.1.0 made)
claims-far m (r ∷ rs) (c ∷ cs) after (Some (suc i)) led found =
    (claim-made m r c led.0 led.1.0 found.0, claims-far (apply m r) rs cs after (Some i) led.1.1 found.1)

-- and their turns are those of the first records
pub claims-turns :
    (m : Machine) (rs : List Record) (cs : List Claim) (after : Machine) → AreClaims m rs cs after
    → turns_from m rs ≡ turns_in cs + turns_from after (drop (length cs) rs)
claims-turns m rs [] after led = ap (λ (x : Machine). turns_from x rs) (sym led) ∙ omega arith
claims-turns m [] (c ∷ cs) after led = absurd led
claims-turns m (r ∷ rs) (c ∷ cs) after led =
    let one : (record_of m r.thread).kept.count ≡ (made_by c).kept.count =
    ap (λ (x : Record). x.kept.count) (sym led.1.0.makes) in
    let step : turns_from m (r ∷ rs) ≡ (record_of m r.thread).kept.count + turns_from (apply m r) rs =
    ap (λ (b : Bool). cond b ((record_of m r.thread).kept.count + turns_from (apply m r) rs) 0) led.0 in
    step ∙ omega (arith, one, claims-turns (apply m r) rs cs after led.1.1)

-- one more claim
pub claims-more :
    (m : Machine) (rs : List Record) (cs : List Claim) (after : Machine) (r : Record) (c : Claim)
    → AreClaims m rs cs after → slice_get rs (length cs) ≡ Some r → can_apply after r ≡ true → IsClaimOf after r c
    → AreClaims m rs (cs ++ c ∷ []) (apply after r)
claims-more m [] [] after r c led there can is = let no : None ≡ Some r = there in cc
claims-more m (x ∷ rs) [] after r c led there can is =
    let same : x ≡ r = cc in
    subst (λ (y : Record). AreClaims m (y ∷ rs) (c ∷ []) (apply after r)) (sym same) (
      subst (λ (n : Machine). can_apply n r ≡ true) led can,
      (subst (λ (n : Machine). IsClaimOf n r c) led is, ap (λ (n : Machine). apply n r) led),
    )
claims-more m [] (d ∷ cs) after r c led there can is = absurd led
claims-more m (x ∷ rs) (d ∷ cs) after r c led there can is =
    (led.0, (led.1.0, claims-more (apply m x) rs cs after r c led.1.1 there can is))

none-there : (n : ℕ) → slice_get {X = Record} [] n ≡ None
none-there zero = refl
none-there (suc n) = refl

pub drop-nil : (n : ℕ) → drop {A = Record} n [] ≡ []
drop-nil zero = refl
drop-nil (suc n) = refl

-- the record after those that have claims
pub get-drop : (rs : List Record) (a n place : ℕ) → a + n ≡ place → slice_get (drop a rs) n ≡ slice_get rs place
get-drop rs zero n place is = let e : n ≡ place = omega arith in ap (slice_get rs) e
get-drop [] (suc a) n place is =
    ap (λ (l : List Record). slice_get l n) (drop-nil (suc a)) ∙ none-there n ∙ sym (none-there place)
get-drop (r ∷ rs) (suc a) n zero is = absurd (omega arith)
get-drop (r ∷ rs) (suc a) n (suc place) is = get-drop rs a n place (omega arith)

pub past-none : (rs : List Record) (n : ℕ) (r : Record) → length rs ≤ n → slice_get rs n ≡ Some r → ⊥
past-none [] n r past there = let no : None ≡ Some r = sym (none-there n) ∙ there in cc
past-none (x ∷ rs) zero r past there = absurd (omega arith)
past-none (x ∷ rs) (suc n) r past there = past-none rs n r (omega arith) there

-- the records from one on
pub record Front (rs : List Record) (n : ℕ) : Type 0 where
  pub r : Record
  pub rest : List Record
  pub are : drop n rs ≡ r ∷ rest
  pub there : slice_get rs n ≡ Some r

pub front-of : (rs : List Record) (n : ℕ) → n < length rs → Front rs n
front-of [] n lt = absurd (omega arith)
front-of (r ∷ rs) zero lt = record { r = r; rest = rs; are = refl; there = refl }
front-of (r ∷ rs) (suc n) lt =
    let f = front-of rs n (omega arith) in record { r = f.r; rest = f.rest; are = f.are; there = f.there }

pub nil-of-length : (cs : List Claim) → length cs ≡ 0 → cs ≡ []
nil-of-length [] none = refl
nil-of-length (c ∷ cs) none = absurd (omega arith)
