-- How far some records were audited, from a machine on.
use Rattle.std.proofs.Common.{◌≡◌, ℕ, zero, suc, ◌+◌, ◌*◌, ◌^◌, ◌<◌, ◌≤◌, Bool, false, cond, List, [], ◌∷◌, length, drop, Option, Some, sym, ap, ◌∙◌, subst, arith}
use Rattle.std.specs.Prelude.{slice_get}
use Rattle.thunk_spec.specs.Record.{Record}
use Rattle.machine_spec.specs.Machine.{Machine}
use Rattle.machine_spec.specs.Schedule.{record_of}
use Rattle.machine_spec.specs.Step.{apply}
use Rattle.release_core.specs.Applying.{can_apply}
use Rattle.history_spec.specs.Audit.{IsFirstFalseFrom, turns_from}
use Rattle.memo_reports.specs.declared.audit.claims.Claim.{Claim}
use Rattle.memo_reports.specs.declared.audit.verdict.Verdict.{Verdict}
use Rattle.memo_reports.specs.Claims.{AreClaims, IsFoundIn, turns_in, first_of_both}
use Rattle.memo_reports.proofs.Following.{IsSoFar, far-then, far-closed, claims-far, claims-turns, unstored-unmade, drop-nil, front-of}

-- Some records were applied, which led to a machine, and what was found in them determines the verdict on all.
pub record IsAuditedTo (m : Machine) (rs : List Record) (place : ℕ) (core : Machine) (found : Verdict) : Type 0 where
  pub within : place ≤ length rs
  pub few : found.instructions ≤ place * 2 ^ 32
  pub turns : turns_from m rs ≡ found.instructions + turns_from core (drop place rs)
  pub so_far : IsSoFar (IsFirstFalseFrom m rs) (IsFirstFalseFrom core (drop place rs)) place found.first

drop-more : (rs : List Record) (a b : ℕ) → drop b (drop a rs) ≡ drop (a + b) rs
drop-more rs zero b = let e : b ≡ 0 + b = omega arith in ap (λ (k : ℕ). drop k rs) e
drop-more [] (suc a) b = ap (drop b) (drop-nil (suc a)) ∙ drop-nil b ∙ sym (drop-nil (suc a + b))
drop-more (r ∷ rs) (suc a) b =
    let e : suc (a + b) ≡ suc a + b = omega arith in drop-more rs a b ∙ ap (λ (k : ℕ). drop k (r ∷ rs)) e

-- some more were
pub audited-more :
    (m : Machine) (rs : List Record) (place : ℕ) (core after : Machine) (found more then : Verdict) (claims : List Claim)
    → IsAuditedTo m rs place core found → AreClaims core (drop place rs) claims after → IsFoundIn claims more
    → place + length claims ≤ length rs
    → then.instructions ≡ found.instructions + more.instructions
    → then.first ≡ first_of_both found.first place more.first
    → IsAuditedTo m rs (place + length claims) after then
audited-more m rs place core after found more then claims so led is within sum first =
    let rest : drop (length claims) (drop place rs) ≡ drop (place + length claims) rs = drop-more rs place (length claims) in
    let turns : turns_from core (drop place rs) ≡ turns_in claims + turns_from after (drop (length claims) (drop place rs)) =
    claims-turns core (drop place rs) claims after led in
    let left : turns_from after (drop (length claims) (drop place rs)) ≡ turns_from after (drop (place + length claims) rs) =
    ap (turns_from after) rest in
    record {
      within = within;
      few = omega (arith, sum, so.few, is.few);
      turns = so.turns ∙ omega (arith, turns, left, is.instructions, sum);
      so_far =
          subst (λ (p : Option ℕ). IsSoFar (IsFirstFalseFrom m rs)
          (IsFirstFalseFrom after (drop (place + length claims) rs)) (place + length claims) p) (sym first)
          (far-then (IsFirstFalseFrom m rs) (IsFirstFalseFrom core (drop place rs))
          (IsFirstFalseFrom after (drop (place + length claims) rs)) place (length claims) found.first more.first
          so.so_far
          (subst (λ (l : List Record). IsSoFar (IsFirstFalseFrom core (drop place rs)) (IsFirstFalseFrom after l)
          (length claims) more.first) rest
          (claims-far core (drop place rs) claims after more.first led is.first)));
    }

-- What is found of all.
pub record IsOfAll (m : Machine) (rs : List Record) (v : Verdict) : Type 0 where
  pub first : IsFirstFalseFrom m rs v.first
  pub turns : v.instructions ≡ turns_from m rs

-- the verdict is known if the first of the rest can't be applied
pub audited-stuck :
    (m : Machine) (rs : List Record) (place : ℕ) (core : Machine) (found then : Verdict)
    → IsAuditedTo m rs place core found → place < length rs
    → ((r : Record) → slice_get rs place ≡ Some r → can_apply core r ≡ false)
    → then.first ≡ first_of_both found.first place (Some 0) → then.instructions ≡ found.instructions
    → IsOfAll m rs then
audited-stuck m rs place core found then so lt stuck first sum =
    let f = front-of rs place lt in
    let cannot : can_apply core f.r ≡ false = stuck f.r f.there in
    let none : turns_from core (drop place rs) ≡ 0 =
    ap (turns_from core) f.are
    ∙ ap (λ (b : Bool). cond b ((record_of core f.r.thread).kept.count + turns_from (apply core f.r) f.rest) 0) cannot in
    record {
      first = subst (IsFirstFalseFrom m rs) (sym first)
          (far-closed (IsFirstFalseFrom m rs) (IsFirstFalseFrom core (drop place rs)) place found.first (Some 0) so.so_far
          (subst (λ (l : List Record). IsFirstFalseFrom core l (Some 0)) (sym f.are) (unstored-unmade core f.r cannot)));
      turns = omega (arith, so.turns, none, sum);
    }
