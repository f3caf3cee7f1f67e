-- What a record that is found in a history is, and that it fits if nothing differs.
use Rattle.std.proofs.Common.{◌≡◌, ◌<◌, ◌==◌, ◌&&◌, ℕ, Bool, true, false, cond, List, [], ◌∷◌, ◌++◌, length, All, find, Option, Some, None, IfSome, IfNone, is_none, refl, ap, sym, ◌∙◌, subst, arith}
use Rattle.std.proofs.lemmas.Bool.{and_parts, eqb-true, eq-eqb}
use Rattle.std.proofs.lemmas.Bool.Decides.{nat_tests}
use Rattle.std.proofs.lemmas.List.Elements.{All-head, All-tail}
use Rattle.memory_spec.specs.Pages.{Mapped}
use Rattle.elf_spec.specs.Image.{image_pages}
use Rattle.isa_spec.specs.Registers.{same_registers}
use Rattle.thunk_spec.specs.Thunk.{Frame}
use Rattle.thunk_spec.specs.Reads.{ReadPage, has}
use Rattle.thunk_spec.specs.Record.{Record, fits_at, may_end}
use Rattle.machine_spec.specs.Machine.{Machine, hart_of, is_ready}
use Rattle.machine_spec.specs.Step.{apply, fits}
use Rattle.machine_spec.specs.Setup.{Setup, first, map_of, data_pages}
use Rattle.history_spec.specs.History.{History, IsMappedIn, IsMapped, can_apply_from, is_of, found, past_records}
use Rattle.history_spec.proofs.Applying.{apply-frame}
use Rattle.round_spec.specs.Marks.{record_for, is_fitting, fits_next}
use Rattle.round_report.specs.Reasons.{IsOldRun, IsBasedOnOldRun}

-- a found record passes the test, and has what all have
find-passes :
    (p : Record → Bool) (P : Record → Type 0) (rs : List Record) (r : Record) → find p rs ≡ Some r → All P rs
    → (p r ≡ true) × P r
find-passes p P [] r there all = cc there
find-passes p P (s ∷ rs) r there all =
    by (p s) refl (λ later. find-passes p P rs r later (All-tail P s rs all))
  where
    some-is : (x y : Record) → Some x ≡ Some y → x ≡ y
    some-is x y e = cc

    by : (b : Bool) → p s ≡ b → (find p rs ≡ Some r → (p r ≡ true) × P r) → (p r ≡ true) × P r
    by true is more =
        let same : s ≡ r = some-is s r (sym (ap (λ (b : Bool). cond b (Some s) (find p rs)) is) ∙ there) in
        (subst (λ (x : Record). p x ≡ true) same is, subst P same (All-head P s rs all))
    by false is more = more (sym (ap (λ (b : Bool). cond b (Some s) (find p rs)) is) ∙ there)

anything : (rs : List Record) → All (λ (r : Record). Unit {0}) rs
anything rs = λ k d under. tt

-- its thread and its number
pub found-of :
    (past : Option History) (t number : ℕ) (r : Record) → found past t number ≡ Some r
    → (r.thread ≡ t) × (r.number ≡ number)
found-of past t number r there =
    let passes =
    (find-passes (is_of t number) (λ r. Unit {0}) (past_records past) r there (anything (past_records past))).0 in
    let parts = and_parts (r.thread == t) (r.number == number) passes in
    (eqb-true r.thread t parts.0, eqb-true r.number number parts.1)

-- setups of one program have one page map
map_of-program : (a b : Setup) → a.elf ≡ b.elf → map_of a ≡ map_of b
unfolding map_of
map_of-program a b same =
    ap (λ (elf : List ℕ). image_pages elf ++ data_pages 0xC0000 1 ++ data_pages 0xC0001 256 ++ data_pages 0xD0000 512) same

-- its read pages have their slots in the page map of a setup of the same program
pub found-mapped :
    (h : History) (setup : Setup) (t number : ℕ) (r : Record) → IsMapped h → IsOldRun h setup
    → found (Some h) t number ≡ Some r
    → All (λ (p : ReadPage). p.slot < length (map_of setup)) r.kept.reads
found-mapped h setup t number r mapped old there =
    subst (λ (map : List Mapped). All (λ (p : ReadPage). p.slot < length map) r.kept.reads)
    (map_of-program h.setup setup old.program)
    (find-passes (is_of t number) (IsMappedIn (length (map_of h.setup))) h.records r there mapped).1.reads

-- its thunk may have ended as it did, under the fuel of a coherent history
within-head : (m : Machine) (r : Record) → fits m r ≡ true → may_end m.frame.fuel r.kept.end r.kept.count ≡ true
unfolding fits fits_at
within-head m r fit = grind (arith, nat_tests)

within :
    (p : Record → Bool) (m : Machine) (rs : List Record) (r : Record) → can_apply_from m rs ≡ true → find p rs ≡ Some r
    → may_end m.frame.fuel r.kept.end r.kept.count ≡ true
within p m [] r can there = cc there
within p m (s ∷ rs) r can there =
    by (p s) refl (λ later. subst (λ (f : Frame). may_end f.fuel r.kept.end r.kept.count ≡ true) (apply-frame m s)
    (within p (apply m s) rs r (and_parts (is_none m.ending && fits m s) (can_apply_from (apply m s) rs) can).1 later))
  where
    some-is : (x y : Record) → Some x ≡ Some y → x ≡ y
    some-is x y e = cc

    by :
        (b : Bool) → p s ≡ b → (find p rs ≡ Some r → may_end m.frame.fuel r.kept.end r.kept.count ≡ true)
        → may_end m.frame.fuel r.kept.end r.kept.count ≡ true
    by true is more =
        let same : s ≡ r = some-is s r (sym (ap (λ (b : Bool). cond b (Some s) (find p rs)) is) ∙ there) in
        let fit =
        (and_parts (is_none m.ending) (fits m s)
        (and_parts (is_none m.ending && fits m s) (can_apply_from (apply m s) rs) can).0).1 in
        subst (λ (x : Record). may_end m.frame.fuel x.kept.end x.kept.count ≡ true) same (within-head m s fit)
    by false is more = more (sym (ap (λ (b : Bool). cond b (Some s) (find p rs)) is) ∙ there)

first-fuel : (s : Setup) → (first s).frame.fuel ≡ s.fuel
unfolding first
first-fuel s = refl

pub found-within :
    (past : Option History) (setup : Setup) (t number : ℕ) (r : Record) → IsBasedOnOldRun past setup
    → found past t number ≡ Some r
    → may_end setup.fuel r.kept.end r.kept.count ≡ true
found-within None setup t number r old there = cc there
found-within (Some h) setup t number r old there =
    subst (λ (fuel : ℕ). may_end fuel r.kept.end r.kept.count ≡ true) (first-fuel h.setup ∙ old.fuel)
    (within (is_of t number) (first h.setup) h.records r
    (and_parts (can_apply_from (first h.setup) h.records) _ old.coherent).0 there)

-- if registers and read pages are the record's, it fits
fits-whole :
    (m : Machine) (t : ℕ) (r : Record) → r.thread ≡ t → r.number ≡ (hart_of m t).number
    → is_ready (hart_of m t).status ≡ true → same_registers r.start (hart_of m t).regs ≡ true
    → has (hart_of m t).view r.kept.reads ≡ true → may_end m.frame.fuel r.kept.end r.kept.count ≡ true
    → fits m r ≡ true
unfolding fits fits_at
fits-whole m t r thread number ready regs reads ended =
    let same : (r.number == (hart_of m t).number) ≡ true = eq-eqb r.number (hart_of m t).number number in
    rw (thread, ready, same, regs, reads, ended) refl

pub fits-anyway :
    (past : Option History) (setup : Setup) (m : Machine) (t : ℕ) (r : Record) → IsBasedOnOldRun past setup
    → m.frame.fuel ≡ setup.fuel → is_ready (hart_of m t).status ≡ true → record_for past m t ≡ Some r
    → same_registers r.start (hart_of m t).regs ≡ true → has (hart_of m t).view r.kept.reads ≡ true
    → fits_next past m t ≡ true
fits-anyway past setup m t r old fuel ready there regs reads =
    let of = found-of past t (hart_of m t).number r there in
    let ended : may_end m.frame.fuel r.kept.end r.kept.count ≡ true =
    subst (λ (n : ℕ). may_end n r.kept.end r.kept.count ≡ true) (sym fuel)
    (found-within past setup t (hart_of m t).number r old there) in
    ap (is_fitting m) there ∙ fits-whole m t r of.0 of.1 ready regs reads ended

-- what holds of an option, case by case
pub if_some : {A : Type 0} (P : A → Type 0) (o : Option A) → ((a : A) → o ≡ Some a → P a) → IfSome o P
if_some P None each = tt
if_some P (Some a) each = each a refl

pub if_none : {A : Type 0} (P : Type 0) (o : Option A) → (o ≡ None → P) → IfNone o P
if_none P None each = each refl
if_none P (Some a) each = tt

pub none_gives : {A : Type 0} (P : Type 0) (o : Option A) → o ≡ None → IfNone o P → P
none_gives P None is has = has
none_gives P (Some a) is has = cc is

-- the same of the history that a round is based on
pub past-mapped :
    (past : Option History) (setup : Setup) (t number : ℕ) (r : Record)
    → ((h : History) → past ≡ Some h → IsMapped h) → found past t number ≡ Some r → IsBasedOnOldRun past setup
    → All (λ (p : ReadPage). p.slot < length (map_of setup)) r.kept.reads
past-mapped None setup t number r mapped there old = absurd (cc)
past-mapped (Some h) setup t number r mapped there old =
    found-mapped h setup t number r (mapped h refl) old there
