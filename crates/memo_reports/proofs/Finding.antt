-- What is found in some claims, and in others after them.
use Rattle.std.specs.Prelude.{IfSome}
use Rattle.std.proofs.Common.{◌≡◌, ℕ, zero, suc, ◌+◌, ◌^◌, ◌<◌, List, [], ◌∷◌, ◌++◌, length, Option, Some, None, sym, subst, arith}
use Rattle.std.proofs.lemmas.List.{length-append}
use Rattle.memo_reports.specs.declared.audit.claims.Claim.{Claim}
use Rattle.memo_reports.specs.declared.audit.verdict.Verdict.{Verdict}
use Rattle.memo_reports.specs.Claims.{turns_in, IsFirstIn, IsFoundIn, first_of_both}

turns-append : (xs ys : List Claim) → turns_in (xs ++ ys) ≡ turns_in xs + turns_in ys
turns-append [] ys = omega arith
turns-append (c ∷ xs) ys = omega (arith, turns-append xs ys)

first-append :
    (xs ys : List Claim) (a b : Option ℕ) → IsFirstIn xs a → IsFirstIn ys b
    → IsFirstIn (xs ++ ys) (first_of_both a (length xs) b)
first-append [] ys None None x y = y
first-append [] ys None (Some i) x y =
    let e : i ≡ 0 + i = omega arith in subst (λ (k : ℕ). IsFirstIn ys (Some k)) e y
first-append [] ys (Some i) b x y = absurd x
first-append (c ∷ xs) ys None None x y = (x.0, first-append xs ys None None x.1 y)
first-append (c ∷ xs) ys None (Some i) x y =
    let e : suc (length xs + i) ≡ suc (length xs) + i = omega arith in
    subst (λ (k : ℕ). IsFirstIn (c ∷ xs ++ ys) (Some k)) e (x.0, first-append xs ys None (Some i) x.1 y)
first-append (c ∷ xs) ys (Some zero) b x y = x
first-append (c ∷ xs) ys (Some (suc i)) b x y = (x.0, first-append xs ys (Some i) b x.1 y)

-- the first false claim is one of them
pub first-below : (cs : List Claim) (i : ℕ) → IsFirstIn cs (Some i) → i < length cs
first-below [] i x = absurd x
first-below (c ∷ cs) zero x = omega arith
first-below (c ∷ cs) (suc i) x = omega (arith, first-below cs i x.1)

pub found-append :
    (xs ys : List Claim) (a b v : Verdict) → IsFoundIn xs a → IsFoundIn ys b
    → v.instructions ≡ a.instructions + b.instructions → v.first ≡ first_of_both a.first (length xs) b.first
    → IsFoundIn (xs ++ ys) v
found-append xs ys a b v x y sum first = record {
  instructions = omega (arith, sum, x.instructions, y.instructions, turns-append xs ys);
  few = omega (arith, sum, x.few, y.few, length-append xs ys);
  first = subst (λ (p : Option ℕ). IsFirstIn (xs ++ ys) p) (sym first)
      (first-append xs ys a.first b.first x.first y.first);
}

-- the place of a claim after others is a number of 32 bits
pub places-fit :
    (cs : List Claim) (first : Option ℕ) (count : ℕ) → IsFirstIn cs first → count + length cs < 2 ^ 32
    → IfSome first (λ place. count + place < 2 ^ 32)
places-fit cs None count found fits = tt
places-fit cs (Some place) count found fits = omega (arith, first-below cs place found)
