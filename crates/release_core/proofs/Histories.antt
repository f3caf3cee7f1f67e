-- The machines before and after the records of a history.
use Rattle.std.proofs.Common.{◌≡◌, ◌+◌, ℕ, zero, suc, true, ◌&&◌, List, [], ◌∷◌, Some, is_none, take, ap, subst, ◌∙◌, arith}
use Rattle.std.proofs.lemmas.Bool.{and_parts}
use Rattle.std.specs.List.{slice_get}
use Rattle.thunk_spec.specs.Record.{Record}
use Rattle.machine_spec.specs.Machine.{Machine}
use Rattle.machine_spec.specs.Whole.{IsWhole}
use Rattle.machine_spec.specs.Setup.{IsSetup, first}
use Rattle.machine_spec.specs.Step.{apply, fits}
use Rattle.machine_spec.proofs.Beginning.{IsWhole-first}
use Rattle.history_spec.specs.History.{History, applied_from, can_apply_from, is_coherent}
use Rattle.history_spec.proofs.Applying.{apply-whole, fits-can_step}
use Rattle.release_core.specs.Applying.{can_apply, machine_at}

-- the machine after the record at a place
applied-more :
    (m : Machine) (rs : List Record) (k : ℕ) (r : Record) → slice_get rs k ≡ Some r
    → applied_from m (take (suc k) rs) ≡ apply (applied_from m (take k rs)) r
applied-more m [] k r at = cc
applied-more m (x ∷ rs) zero r at = let same : x ≡ r = cc in ap (apply m) same
applied-more m (x ∷ rs) (suc k) r at = applied-more (apply m x) rs k r at

pub machine-more :
    (h : History) (k : ℕ) (r : Record) → slice_get h.records k ≡ Some r
    → machine_at h (k + 1) ≡ apply (machine_at h k) r
machine-more h k r at =
    let next : k + 1 ≡ suc k = omega arith in
    ap (machine_at h) next ∙ applied-more (first h.setup) h.records k r at

-- if each record can be applied, so can the one at a place, on a whole machine
can-at :
    (m : Machine) (rs : List Record) (k : ℕ) (r : Record) → can_apply_from m rs ≡ true → slice_get rs k ≡ Some r
    → can_apply (applied_from m (take k rs)) r ≡ true
can-at m [] k r can at = cc
can-at m (x ∷ rs) zero r can at =
    let same : x ≡ r = cc in subst (λ (y : Record). can_apply m y ≡ true) same (and_parts _ _ can).0
can-at m (x ∷ rs) (suc k) r can at = can-at (apply m x) rs k r (and_parts _ _ can).1 at

whole-at :
    (m : Machine) (rs : List Record) (k : ℕ) → IsWhole m → can_apply_from m rs ≡ true
    → IsWhole (applied_from m (take k rs))
whole-at m [] zero whole can = whole
whole-at m [] (suc k) whole can = whole
whole-at m (x ∷ rs) zero whole can = whole
whole-at m (x ∷ rs) (suc k) whole can =
    let parts = and_parts (is_none m.ending && fits m x) (can_apply_from (apply m x) rs) can in
    let here = and_parts (is_none m.ending) (fits m x) parts.0 in
    whole-at (apply m x) rs k (apply-whole m x whole (fits-can_step m x here.0 here.1)) parts.1

pub coherent-can :
    (h : History) (k : ℕ) (r : Record) → is_coherent h ≡ true → slice_get h.records k ≡ Some r
    → can_apply (machine_at h k) r ≡ true
coherent-can h k r coherent at = can-at (first h.setup) h.records k r (and_parts _ _ coherent).0 at

pub coherent-whole : (h : History) (k : ℕ) → IsSetup h.setup → is_coherent h ≡ true → IsWhole (machine_at h k)
coherent-whole h k valid coherent =
    whole-at (first h.setup) h.records k (IsWhole-first h.setup valid) (and_parts _ _ coherent).0
