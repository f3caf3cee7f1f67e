-- Records that are applied, each with the job that should make it, and the verdict of executing these jobs.
use Rattle.std.specs.Prelude.{◌≡◌, ℕ, zero, suc, ◌+◌, ◌*◌, ◌^◌, ◌≤◌, true, List, [], ◌∷◌, length, Option, Some, None}
use Rattle.std.specs.Arc.{arc_value}
use Rattle.thunk_spec.specs.Record.{Record, kept_thunk}
use Rattle.machine_spec.specs.Machine.{Machine}
use Rattle.machine_spec.specs.Step.{apply}
use Rattle.machine_spec.specs.Schedule.{record_of}
use Rattle.release_core.specs.Applying.{can_apply}
use Rattle.memo_reports.specs.declared.audit.claims.Claim.{Claim}
use Rattle.memo_reports.specs.declared.audit.verdict.Verdict.{Verdict}

-- The record that a claim's job makes.
abbrev pub made_by : Claim → Record
made_by c =
    record {
      thread = c.job.thread;
      number = c.job.number;
      start = c.job.regs;
      kept = kept_thunk (arc_value c.job.frame) (arc_value c.job.view) c.job.regs;
    }

-- A claim is true: its job makes its record.
abbrev pub IsTrueClaim : Claim → Type 0
IsTrueClaim c = arc_value c.rec ≡ made_by c

-- A claim of this record, whose job is the next step of the record's thread.
pub record IsClaimOf (m : Machine) (r : Record) (c : Claim) : Type 0 where
  pub reported : arc_value c.rec ≡ r
  pub makes : made_by c ≡ record_of m r.thread

-- Claims of the first of some records, each of which can be applied after those before it, and the machine after them.
abbrev pub AreClaims : Machine → List Record → List Claim → Machine → Type 0
AreClaims m rs [] after = after ≡ m
AreClaims m [] (c ∷ cs) after = ⊥
AreClaims m (r ∷ rs) (c ∷ cs) after = (can_apply m r ≡ true) × (IsClaimOf m r c × AreClaims (apply m r) rs cs after)

-- The turns of the thunks of claims.
abbrev pub turns_in : List Claim → ℕ
turns_in [] = 0
turns_in (c ∷ cs) = (made_by c).kept.count + turns_in cs

-- The place of the first claim that isn't true, if there is one.
abbrev pub IsFirstIn : List Claim → Option ℕ → Type 0
IsFirstIn [] None = Unit {0}
IsFirstIn [] (Some i) = ⊥
IsFirstIn (c ∷ cs) None = IsTrueClaim c × IsFirstIn cs None
IsFirstIn (c ∷ cs) (Some zero) = IsTrueClaim c → ⊥
IsFirstIn (c ∷ cs) (Some (suc i)) = IsTrueClaim c × IsFirstIn cs (Some i)

-- The verdict of executing the jobs of claims. Each count of turns is a number of 32 bits.
pub record IsFoundIn (claims : List Claim) (v : Verdict) : Type 0 where
  pub instructions : v.instructions ≡ turns_in claims
  pub few : v.instructions ≤ length claims * 2 ^ 32
  pub first : IsFirstIn claims v.first

-- The first place of two: one among `count` records, and one among those after them.
abbrev pub first_of_both : Option ℕ → ℕ → Option ℕ → Option ℕ
first_of_both (Some place) count others = Some place
first_of_both None count (Some place) = Some (count + place)
first_of_both None count None = None
