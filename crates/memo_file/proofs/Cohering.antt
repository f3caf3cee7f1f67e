-- Applying records one after the other, as a loop does.
use Rattle.std.proofs.Common.{◌≡◌, ℕ, suc, ◌+◌, ◌<◌, Bool, true, false, cond, List, ◌∷◌, length, drop, Option, Some, sym, ap, ◌∙◌, arith}
use Rattle.std.specs.Prelude.{slice_get}
use Rattle.std.proofs.Math.Seq.{drop-cons}
use Rattle.std.proofs.lemmas.Option.{get_or_from_slice_get}
use Rattle.thunk_spec.specs.Record.{Record}
use Rattle.machine_spec.specs.Machine.{Machine}
use Rattle.machine_spec.specs.Step.{apply}
use Rattle.release_core.specs.Applying.{can_apply}
use Rattle.memo_spec.specs.Reading.{incoherent_from}

next_is : (rs : List Record) (i : ℕ) (r : Record) → i < length rs → slice_get rs i ≡ Some r
    → drop i rs ≡ r ∷ drop (i + 1) rs
next_is rs i r lt e =
    let n : suc i ≡ i + 1 = omega arith in
    drop-cons rs i r lt ∙ ap (λ (x : Record). x ∷ drop (suc i) rs) (get_or_from_slice_get rs i r r e)
    ∙ ap (λ (k : ℕ). r ∷ drop k rs) n

-- A record that fits is applied.
pub applied_next : (rs : List Record) (m : Machine) (i : ℕ) (r : Record) (whole : Option ℕ) → i < length rs
    → slice_get rs i ≡ Some r → can_apply m r ≡ true
    → incoherent_from i m (drop i rs) ≡ whole → incoherent_from (i + 1) (apply m r) (drop (i + 1) rs) ≡ whole
applied_next rs m i r whole lt e fits h =
    let step : incoherent_from i m (drop i rs) ≡ incoherent_from (i + 1) (apply m r) (drop (i + 1) rs) =
    ap (incoherent_from i m) (next_is rs i r lt e)
    ∙ ap (λ (b : Bool). cond b (incoherent_from (i + 1) (apply m r) (drop (i + 1) rs)) (Some i)) fits in
    sym step ∙ h

-- A record that doesn't fit is the first incoherent one.
pub stale_at : (rs : List Record) (m : Machine) (i : ℕ) (r : Record) (whole : Option ℕ) → i < length rs
    → slice_get rs i ≡ Some r → can_apply m r ≡ false
    → incoherent_from i m (drop i rs) ≡ whole → whole ≡ Some i
stale_at rs m i r whole lt e fits h =
    sym h ∙ ap (incoherent_from i m) (next_is rs i r lt e)
    ∙ ap (λ (b : Bool). cond b (incoherent_from (i + 1) (apply m r) (drop (i + 1) rs)) (Some i)) fits
