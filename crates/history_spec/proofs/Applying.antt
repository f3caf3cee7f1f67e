-- What holds of a machine after any record that fits was applied, true or not.
use Rattle.std.proofs.Common.{◌≡◌, ◌≢◌, ℕ, zero, suc, Bool, true, false, List, [], ◌∷◌, is_none, length, set, refl, ap, ◌∙◌}
use Rattle.std.proofs.lemmas.List.{length-set}
use Rattle.std.proofs.lemmas.List.Elements.{recursion_from_All, All-from_recursion}
use Rattle.std.specs.List.{AllByRecursion}
use Rattle.memory_spec.specs.Pages.{Mapped, Memory, IsMemory, page_of}
use Rattle.thunk_spec.specs.Delta.{PageDelta, spread, masked}
use Rattle.thunk_spec.specs.Record.{Record, put_of, fits_at}
use Rattle.machine_spec.specs.Machine.{Machine, hart_of, is_ready}
use Rattle.machine_spec.specs.Step.{apply, fits, can_step}
use Rattle.machine_spec.specs.Whole.{IsWhole}
use Rattle.machine_spec.proofs.Steps.{finished-whole, finished-stays}
use Rattle.machine_spec.proofs.Alone.{finished-limit}
use Rattle.history_spec.proofs.Scratch.{and-left, and-right, finished-frame}

length-spread : (mask : List Bool) (bytes page : List ℕ) → length (spread mask bytes page) ≡ length page
length-spread [] bytes page = refl
length-spread (m ∷ mask) bytes [] = refl
length-spread (false ∷ mask) bytes (b ∷ page) = ap suc (length-spread mask bytes page)
length-spread (true ∷ mask) [] (b ∷ page) = refl
length-spread (true ∷ mask) (w ∷ bytes) (b ∷ page) = ap suc (length-spread mask bytes page)

abbrev IsPage : List ℕ → Type 0
IsPage bytes = length bytes ≡ 4096

pages-spread :
    (m : Memory) (k : ℕ) (mask : List Bool) (bytes : List ℕ)
    → AllByRecursion IsPage m → AllByRecursion IsPage (set m k (spread mask bytes (page_of m k)))
pages-spread [] k mask bytes all = tt
pages-spread (p ∷ m) zero mask bytes all = (length-spread mask bytes p ∙ all.0, all.1)
pages-spread (p ∷ m) (suc k) mask bytes all = (all.0, pages-spread m k mask bytes all.1)

masked-shape :
    (delta : List PageDelta) (m : Memory)
    → AllByRecursion IsPage m
    → (length (masked m delta) ≡ length m) × AllByRecursion IsPage (masked m delta)
masked-shape [] m all = (refl, all)
masked-shape (d ∷ delta) m all =
    let next =
    masked-shape delta (set m d.slot (spread d.mask d.bytes (page_of m d.slot)))
    (pages-spread m d.slot d.mask d.bytes all) in
    (next.0 ∙ length-set m d.slot (spread d.mask d.bytes (page_of m d.slot)), next.1)

IsMemory-masked :
    (map : List Mapped) (m : Memory) (delta : List PageDelta) → IsMemory map m
    → IsMemory map (masked m delta)
IsMemory-masked map m delta whole =
    let shape = masked-shape delta m (recursion_from_All IsPage m whole.pages) in
    record { count = shape.0 ∙ whole.count; pages = All-from_recursion IsPage (masked m delta) shape.1 }

-- a record that fits is of a ready thread, so its thread may make the next step if there is no end
pub fits-can_step : (m : Machine) (r : Record) → is_none m.ending ≡ true → fits m r ≡ true → can_step m r.thread ≡ true
unfolding fits
fits-can_step m r none fit =
    rw none
    (and-left (is_ready (hart_of m r.thread).status)
    (fits_at r (hart_of m r.thread).number (hart_of m r.thread).regs (hart_of m r.thread).view
    m.frame.fuel) fit)

pub apply-frame : (m : Machine) (r : Record) → (apply m r).frame ≡ m.frame
unfolding apply
apply-frame m r = finished-frame m r.thread _ _ _ _

pub apply-limit : (m : Machine) (r : Record) → (apply m r).limit ≡ m.limit
unfolding apply
apply-limit m r = finished-limit m r.thread _ _ _ _

pub apply-whole : (m : Machine) (r : Record) → IsWhole m → can_step m r.thread ≡ true → IsWhole (apply m r)
unfolding apply
apply-whole m r whole can =
    finished-whole m r.thread (masked m.memory r.kept.delta) r.kept.finish r.kept.end
    (put_of m.frame.map (hart_of m r.thread).view r.kept) whole can
    (IsMemory-masked m.frame.map m.memory r.kept.delta whole.memory)

-- applying a record keeps every other ready thread as it is
pub apply-stays :
    (m : Machine) (r : Record) (u : ℕ)
    → IsWhole m → can_step m r.thread ≡ true
    → u ≢ r.thread → is_ready (hart_of m u).status ≡ true
    → hart_of (apply m r) u ≡ hart_of m u
unfolding apply
apply-stays m r u whole can other ready_u =
    finished-stays m r.thread u (masked m.memory r.kept.delta) r.kept.finish r.kept.end
    (put_of m.frame.map (hart_of m r.thread).view r.kept) whole.tied
    (and-right (is_none m.ending) (is_ready (hart_of m r.thread).status) can) other ready_u
