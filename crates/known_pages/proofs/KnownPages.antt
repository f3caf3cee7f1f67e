-- Which versions the pages of a round are known to be.
use Rattle.std.proofs.Common.{leb, ◌≡◌, ◌≢◌, ◌<◌, ◌≤◌, ◌+◌, ℕ, suc, Bool, true, false, ◌&&◌, ◌||◌, eqb, cond, List, [], ◌∷◌, drop, length, map, set, slice_index, zero, Option, option_map, Box, Some, None, is_none, refl, ap, ap₂, sym, ◌∙◌, subst, inl, inr, ◌⊎◌, arith}
use Rattle.std.proofs.lemmas.Bool.{and_parts, cases_eq, cases_lt, eq-eqb, eqb-true}
use Rattle.std.proofs.lemmas.Bool.Decides.{nat_tests}
use Rattle.std.proofs.lemmas.List.{length-set, get_or_past}
use Rattle.std.proofs.lemmas.Option.{slice_get_within, slice_get-map}
use Rattle.std.proofs.lemmas.Slice.Eq.{bytes_eq-Decides}
use Rattle.std.specs.Prelude.{IfSome}
use Rattle.std.specs.Global.{Global}
use Rattle.std.specs.List.{slice_get}
use Rattle.std.specs.Str.{bytes_eq}
use Rattle.isa_spec.specs.Registers.{same_registers}
use Rattle.memory_spec.specs.Pages.{Memory, page_of}
use Rattle.thunk_spec.specs.Delta.{PageDelta}
use Rattle.thunk_spec.specs.Reads.{ReadPage, has}
use Rattle.thunk_spec.specs.Record.{Record, may_end}
use Rattle.thunk_spec.specs.Thunk.{Frame}
use Rattle.machine_spec.specs.Machine.{Machine, hart_of, is_ready}
use Rattle.machine_spec.specs.Setup.{first}
use Rattle.machine_spec.specs.Step.{apply, fits}
use Rattle.machine_spec.specs.Whole.{IsWhole}
use Rattle.machine_spec.proofs.Harts.{ready-below}
use Rattle.history_spec.specs.History.{History}
use Rattle.history_spec.proofs.Applying.{apply-frame, apply-whole, fits-can_step}
use Rattle.history_spec.proofs.Truth.{past-of}
use Rattle.history_spec.specs.Facts.{effect_of, written_slots}
use Rattle.history_spec.specs.Before.{is_in}
use Rattle.history_spec.proofs.Lists.{is_or_not}
use Rattle.history_spec.proofs.Pages.{length-masked, masked-other, masked-same}
use Rattle.history_spec.proofs.After.{apply-memory}
use Rattle.history_spec.proofs.Alike.{touched, IsFitting, fits-parts, fits-from}
use Rattle.release_core.specs.Applying.{machine_at}
use Rattle.release_core.proofs.Histories.{machine-more, coherent-can}
use Rattle.round_spec.specs.Marks.{record_for, is_fitting, fits_next}
use Rattle.round_spec.specs.Due.{place_in}
use Rattle.round_spec.specs.Rounds.{RoundState, can_begin}
use Rattle.round_spec.proofs.Happening.{CanBegin, can_begin-parts}
use Rattle.known_pages.proofs.Alike.{at-place}
use Rattle.round_spec.proofs.Picks.{below-32}
use Rattle.known_pages.specs.declared.times.PageVersion.{PageVersion}
use Rattle.known_pages.specs.declared.versions.StepVersions.{StepVersions}
use Rattle.known_pages.specs.declared.versions.Versions.{Versions}
use Rattle.known_pages.specs.Versions.{with_each, is_current, viewed_after, AreTimes, IsStepOf, AreStepsOf, AreOldPages, is_of_version, with_known, learned, rewritten, AreReused, AreExecuted, AreGiven, MayBeMadeAgain, MayBeMadeAnew, IsComparable, AreVersions, AreRight, AreFresh, is_known, read_version, knows_read, HasKnown, unknown_in, unboxed}
use Rattle.known_pages.proofs.Entries.{get-same, get-other, each-other, each-in, index-zeros}
use Rattle.known_pages.proofs.Passing.{IsBy, by-some, AreGivenBy, times-apply, applied-size, frame-fuel}

-- ---- a round

-- nothing is known yet
pub versions-fresh :
    (h : History) (w : RoundState) (v : Versions)
    → IsComparable w h → length v.steps.items ≡ length h.records
    → length h.records ≤ 65536 → AreStepsOf h v.steps.items → AreFresh (length w.schedule) v
    → AreVersions h w v
versions-fresh h w v comparable count few steps fresh =
    record {
      comparable = comparable;
      count = count;
      few = omega arith;
      steps = steps;
      times =
          record {
            current = λ u p none ready cur.
                absurd
                (let by : IsBy (slice_get v.times.written.items p) (slice_index v.times.viewed u) =
                by-some (slice_get v.times.written.items p) (slice_index v.times.viewed u) cur in
                let at = fresh.written p by.at by.is in
                let zeros = at-zero u in
                let late = by.by in
                omega arith);
            past = λ u ready. let zeros = at-zero u in omega arith;
            most = λ u. let zeros = at-zero u in omega arith;
          };
      pages = λ p x known. absurd (fresh.pages p x known);
    }
  where
    at-zero : (u : ℕ) → slice_index v.times.viewed u ≡ 0
    at-zero u = ap (λ (xs : List ℕ). slice_index xs u) fresh.viewed ∙ index-zeros 32 u

-- a round of the same history, machine and schedule
pub right-same :
    (w v : RoundState) (vs : Option Versions)
    → AreRight w vs → v.past ≡ w.past → v.machine ≡ w.machine → v.schedule ≡ w.schedule → AreRight v vs
right-same w v None were past machine schedule = tt
right-same w v (Some vs) were past machine schedule = λ h is.
    let old : AreVersions h w vs = were h (sym past ∙ is) in
    record {
      comparable = record {
        valid = old.comparable.valid;
        coherent = old.comparable.coherent;
        fuel = ap (λ (m : Machine). m.frame.fuel) machine ∙ old.comparable.fuel;
        size = ap (λ (m : Machine). length m.memory) machine ∙ old.comparable.size;
      };
      count = old.count;
      few = old.few;
      steps = old.steps;
      times =
          subst (λ (m : Machine). AreTimes m (length v.schedule) vs.times.written.items vs.times.viewed) (sym machine)
          (subst (λ (n : ℕ). AreTimes w.machine n vs.times.written.items vs.times.viewed)
          (ap (λ es. length es) (sym schedule)) old.times);
      pages = subst (λ (m : Machine). AreOldPages h m vs.pages.items) (sym machine) old.pages;
    }

-- a known version
record IsOfVersion (version : Option ℕ) (page : Option (Option ℕ)) : Type 0 where
  pub number : ℕ
  pub found : version ≡ Some number
  pub page_is : page ≡ Some (Some number)

of-version : (version : Option ℕ) (page : Option (Option ℕ)) → is_of_version version page ≡ true → IsOfVersion version page
of-version None page h = cc
of-version (Some x) None h = cc
of-version (Some x) (Some None) h = cc
of-version (Some x) (Some (Some y)) h =
    record { number = x; found = refl; page_is = ap (λ (n : ℕ). Some (Some n)) (sym (eqb-true x y h)) }

-- each of the read pages that a view has
has-at :
    (view : Memory) (reads : List ReadPage) (k : ℕ) (r : ReadPage)
    → has view reads ≡ true → slice_get reads k ≡ Some r → bytes_eq (page_of view r.slot) r.bytes ≡ true
has-at view [] k r fit at = absurd cc
has-at view (q ∷ reads) zero r fit at =
    let both = and_parts (bytes_eq (page_of view q.slot) q.bytes) (has view reads) fit in
    let same : q ≡ r = cc at in
    subst (λ (x : ReadPage). bytes_eq (page_of view x.slot) x.bytes ≡ true) same both.0
has-at view (q ∷ reads) (suc k) r fit at =
    has-at view reads k r (and_parts (bytes_eq (page_of view q.slot) q.bytes) (has view reads) fit).1 at

-- one more read page is in the view, or is the first that isn't
pub has-more :
    (view : Memory) (reads : List ReadPage) (k : ℕ) (r : ReadPage) → slice_get reads k ≡ Some r
    → has view (drop k reads) ≡ (bytes_eq (page_of view r.slot) r.bytes && has view (drop (suc k) reads))
has-more view [] k r at = absurd cc
has-more view (q ∷ reads) zero r at =
    let same : q ≡ r = cc at in
    ap (λ (x : ReadPage). bytes_eq (page_of view x.slot) x.bytes && has view reads) same
has-more view (q ∷ reads) (suc k) r at = has-more view reads k r at

pub unknown-more :
    (known : ℕ → Bool) (j : ℕ) (view : Memory) (reads : List ReadPage) (k : ℕ) (r : ReadPage)
    → slice_get reads k ≡ Some r
    → unknown_in known j view (drop k reads)
    ≡ cond (known j) (unknown_in known (suc j) view (drop (suc k) reads))
    (1 + cond (bytes_eq (page_of view r.slot) r.bytes) (unknown_in known (suc j) view (drop (suc k) reads)) 0)
unknown-more known j view [] k r at = absurd cc
unknown-more known j view (q ∷ reads) zero r at =
    let same : q ≡ r = cc at in
    ap
    (λ (x : ReadPage). cond (known j) (unknown_in known (suc j) view reads)
    (1 + cond (bytes_eq (page_of view x.slot) x.bytes) (unknown_in known (suc j) view reads) 0))
    same
unknown-more known j view (q ∷ reads) (suc k) r at = unknown-more known j view reads k r at

-- A record of a thread's next step fits if its registers do and the view has its pages, and the view has those of them
-- that are known.
pub record IsKnownNext (w : RoundState) (v : Versions) (t : ℕ) (r : Record) : Type 0 where
  pub fit :
      fits_next w.past w.machine t
      ≡ (same_registers r.start (hart_of w.machine t).regs && has (hart_of w.machine t).view r.kept.reads)
  pub known : HasKnown v (place_in w.past w.machine t) t (hart_of w.machine t).view r.kept.reads

known-next :
    (w : RoundState) (h : History) (v : Versions) (t : ℕ) (r : Record)
    → AreVersions h w v → w.past ≡ Some h → is_none w.machine.ending ≡ true → is_ready (hart_of w.machine t).status ≡ true
    → record_for w.past w.machine t ≡ Some r
    → IsKnownNext w v t r
known-next w h v t r versions past none ready there =
    record {
      fit =
          ap (is_fitting w.machine) there ∙ fit
          ∙ ap
          (λ (u : ℕ). same_registers r.start (hart_of w.machine u).regs && has (hart_of w.machine u).view r.kept.reads)
          own;
      known = λ i q at knows.
          subst (λ (u : ℕ). bytes_eq (page_of (hart_of w.machine u).view q.slot) q.bytes ≡ true) own
          (known-page i q at knows);
    }
  where
    k : ℕ
    k = place_in w.past w.machine t

    here : record_for (Some h) w.machine t ≡ Some r
    here = ap (λ (p : Option History). record_for p w.machine t) (sym past) ∙ there

    at_place : slice_get h.records (place_in w.past w.machine t) ≡ Some r
    at_place =
        ap (λ (p : Option History). slice_get h.records (place_in p w.machine t)) past ∙ at-place h w.machine t r here

    own : r.thread ≡ t
    own = (past-of w.past t (hart_of w.machine t).number r there).0

    can : (is_none (machine_at h k).ending ≡ true) × (fits (machine_at h k) r ≡ true)
    can =
        and_parts (is_none (machine_at h k).ending) (fits (machine_at h k) r)
        (coherent-can h k r versions.comparable.coherent at_place)

    old : IsFitting (machine_at h k) r
    old = fits-parts (machine_at h k) r can.1

    ready_r : is_ready (hart_of w.machine r.thread).status ≡ true
    ready_r = ap (λ (u : ℕ). is_ready (hart_of w.machine u).status) own ∙ ready

    known-page :
        (i : ℕ) (q : ReadPage) → slice_get r.kept.reads i ≡ Some q → knows_read v k t i ≡ true
        → bytes_eq (page_of (hart_of w.machine r.thread).view q.slot) q.bytes ≡ true
    known-page i q at knows = by-step (slice_get v.steps.items k) refl knows
      where
        old_has : bytes_eq (page_of (hart_of (machine_at h k) r.thread).view q.slot) q.bytes ≡ true
        old_has = has-at (hart_of (machine_at h k) r.thread).view r.kept.reads i q old.reads at

        by-step :
            (o : Option StepVersions) → slice_get v.steps.items k ≡ o → is_known v t (read_version o i) ≡ true
            → bytes_eq (page_of (hart_of w.machine r.thread).view q.slot) q.bytes ≡ true
        by-step None is known = absurd cc
        by-step (Some s) is known =
            let step : IsStepOf h k r s = versions.steps.each k r s at_place is in
            let f : ReadPage → PageVersion = λ (p : ReadPage). record { slot = p.slot; version = step.seen p.slot } in
            let page : slice_get s.read.items i ≡ Some (f q) =
            ap (λ (l : List PageVersion). slice_get l i) step.read ∙ slice_get-map f r.kept.reads i ∙ ap (option_map f) at in
            let both =
            and_parts (is_current v.times.written.items v.times.viewed t q.slot)
            (is_of_version (step.seen q.slot) (slice_get v.pages.items q.slot))
            (subst (λ (p : Option PageVersion). is_known v t p ≡ true) page known) in
            let of : IsOfVersion (step.seen q.slot) (slice_get v.pages.items q.slot) =
            of-version (step.seen q.slot) (slice_get v.pages.items q.slot) both.1 in
            let same :
            page_of (hart_of w.machine r.thread).view q.slot
            ≡ page_of (hart_of (machine_at h k) r.thread).view q.slot =
            ap (λ (u : ℕ). page_of (hart_of w.machine u).view q.slot) own
            ∙ versions.times.current t q.slot none ready both.0 ∙ versions.pages q.slot of.number of.page_is
            ∙ sym (step.views q.slot of.number of.found) in
            ap (λ (page : List ℕ). bytes_eq page q.bytes) same ∙ old_has

    fuel_at : (machine_at h k).frame.fuel ≡ h.setup.fuel
    fuel_at = frame-fuel h k

    ends : may_end w.machine.frame.fuel r.kept.end r.kept.count ≡ true
    ends =
        ap (λ (n : ℕ). may_end n r.kept.end r.kept.count) (versions.comparable.fuel ∙ sym fuel_at) ∙ old.ends

    number : r.number ≡ (hart_of w.machine r.thread).number
    number =
        (past-of w.past t (hart_of w.machine t).number r there).1 ∙ ap (λ (u : ℕ). (hart_of w.machine u).number) (sym own)

    fit :
        fits w.machine r
        ≡ (same_registers r.start (hart_of w.machine r.thread).regs && has (hart_of w.machine r.thread).view r.kept.reads)
    fit =
        elim (is_or_not (fits w.machine r)) [
          | inl so ↦ let parts = fits-parts w.machine r so in rw (so, parts.start, parts.reads) refl
          | inr unfit ↦
              elim (is_or_not (same_registers r.start (hart_of w.machine r.thread).regs)) [
                | inr other ↦ rw (unfit, other) refl
                | inl start ↦
                    elim (is_or_not (has (hart_of w.machine r.thread).view r.kept.reads)) [
                      | inr other ↦ rw (unfit, start, other) refl
                      | inl reads ↦
                          absurd (
                          let so =
                          fits-from w.machine r
                          (record { ready = ready_r; number = number; start = start; reads = reads; ends = ends }) in
                          cc)
                    ]
              ]
        ]

-- the same of the history that the round is based on
pub known-next-of :
    (w : RoundState) (v : Versions) (t : ℕ) (r : Record)
    → AreRight w (Some v) → can_begin w t ≡ true → record_for w.past w.machine t ≡ Some r → IsKnownNext w v t r
known-next-of w v t r were begins there = of w.past refl
  where
    can : CanBegin w t
    can = can_begin-parts w t begins

    of : (past : Option History) → w.past ≡ past → IsKnownNext w v t r
    of None is = absurd (let none = sym there ∙ ap (λ (p : Option History). record_for p w.machine t) is in cc)
    of (Some h) is = known-next w h v t r (were h is) is can.none can.ready there

-- ---- a record that is reused

-- as many pages as before

length-cond : (c : Bool) (xs ys : List (Option ℕ)) → length xs ≡ length ys → length (cond c xs ys) ≡ length ys
length-cond true xs ys same = same
length-cond false xs ys same = refl

length-known : (pages : List (Option ℕ)) (p : ℕ) (o : Option ℕ) → length (with_known pages p o) ≡ length pages
length-known pages p None = refl
length-known pages p (Some x) = length-set pages p (Some x)

length-learned :
    (written viewed : List ℕ) (pages : List (Option ℕ)) (t : ℕ) (read : List PageVersion)
    → length (learned written viewed pages t read) ≡ length pages
length-learned written viewed pages t [] = refl
length-learned written viewed pages t (v ∷ read) =
    length-learned written viewed
    (cond (is_current written viewed t v.slot) (with_known pages v.slot v.version) pages) t read
    ∙ length-cond (is_current written viewed t v.slot) (with_known pages v.slot v.version) pages
    (length-known pages v.slot v.version)

length-rewritten :
    (pages : List (Option ℕ)) (after : ℕ) (written : List PageVersion) → length (rewritten pages after written) ≡ length pages
length-rewritten pages after [] = refl
length-rewritten pages after (v ∷ written) =
    length-rewritten (set pages v.slot (cond (is_of_version v.version (slice_get pages v.slot)) (Some after) None)) after written
    ∙ length-set pages v.slot (cond (is_of_version v.version (slice_get pages v.slot)) (Some after) None)

pub length-again :
    (written viewed : List ℕ) (pages : List (Option ℕ)) (t after : ℕ) (s : StepVersions)
    → length (rewritten (learned written viewed pages t s.read.items) after s.written.items) ≡ length pages
length-again written viewed pages t after s =
    length-rewritten (learned written viewed pages t s.read.items) after s.written.items
    ∙ length-learned written viewed pages t s.read.items

-- one more version is known
known-more :
    (h : History) (m : Machine) (pages : List (Option ℕ)) (p : ℕ) (c : Bool) (o : Option ℕ)
    → AreOldPages h m pages
    → ((x : ℕ) → c ≡ true → o ≡ Some x → page_of m.memory p ≡ page_of (machine_at h x).memory p)
    → AreOldPages h m (cond c (with_known pages p o) pages)
known-more h m pages p false o were is = were
known-more h m pages p true None were is = were
known-more h m pages p true (Some x) were is = λ q y at.
    elim (cases_eq q p) [
      | inl here ↦
          let same : Some y ≡ Some x =
          get-same pages p (Some x) (Some y) (subst (λ (k : ℕ). slice_get (set pages p (Some x)) k ≡ Some (Some y)) here at) in
          let number : y ≡ x = (let both = same in cc) in
          ap (λ (k : ℕ). page_of m.memory k) here
          ∙ is x refl refl
          ∙ ap₂ (λ (k n : ℕ). page_of (machine_at h n).memory k) (sym here) (sym number)
      | inr other ↦ were q y (sym (get-other pages q p (Some x) other) ∙ at)
    ]

-- versions that are noted once a record fits are right
pub learned-right :
    (reads : List ReadPage) (h : History) (m : Machine) (old new : Memory) (seen : ℕ → Option ℕ)
    (written viewed : List ℕ) (pages : List (Option ℕ)) (t : ℕ)
    → AreOldPages h m pages → has old reads ≡ true → has new reads ≡ true
    → ((p : ℕ) → is_current written viewed t p ≡ true → page_of new p ≡ page_of m.memory p)
    → ((p x : ℕ) → seen p ≡ Some x → page_of old p ≡ page_of (machine_at h x).memory p)
    → AreOldPages h m
    (learned written viewed pages t (map (λ (r : ReadPage). record { slot = r.slot; version = seen r.slot }) reads))
learned-right [] h m old new seen written viewed pages t were has_old has_new current versions = were
learned-right (r ∷ reads) h m old new seen written viewed pages t were has_old has_new current versions =
    let olds = and_parts (bytes_eq (page_of old r.slot) r.bytes) (has old reads) has_old in
    let news = and_parts (bytes_eq (page_of new r.slot) r.bytes) (has new reads) has_new in
    let same : page_of new r.slot ≡ page_of old r.slot =
    (bytes_eq-Decides (page_of new r.slot) r.bytes).0 news.0
    ∙ sym ((bytes_eq-Decides (page_of old r.slot) r.bytes).0 olds.0) in
    learned-right reads h m old new seen written viewed
    (cond (is_current written viewed t r.slot) (with_known pages r.slot (seen r.slot)) pages) t
    (known-more h m pages r.slot (is_current written viewed t r.slot) (seen r.slot) were
    (λ x cur is. sym (current r.slot cur) ∙ same ∙ versions r.slot x is))
    olds.1 news.1 current versions

-- What is known of a page that a step of the history writes, after it was made again, if the page is of the version
-- after that step: it was of the version that the step found.
pub record IsRewritten (pages : List (Option ℕ)) (after p x : ℕ) (stored : ℕ → Option ℕ) : Type 0 where
  pub version : x ≡ after
  pub number : ℕ
  pub found : stored p ≡ Some number
  pub was : slice_get pages p ≡ Some (Some number)

-- the slots of the pages that some stored bytes are of
abbrev slots_of : List PageDelta → List ℕ
slots_of delta = map (λ (d : PageDelta). d.slot) delta

abbrev versions_of : (ℕ → Option ℕ) → List PageDelta → List PageVersion
versions_of stored delta = map (λ (d : PageDelta). record { slot = d.slot; version = stored d.slot }) delta

rewritten-get :
    (delta : List PageDelta) (pages : List (Option ℕ)) (after p x : ℕ) (stored : ℕ → Option ℕ)
    → slice_get (rewritten pages after (versions_of stored delta)) p ≡ Some (Some x)
    → ((is_in p (slots_of delta) ≡ false) × (slice_get pages p ≡ Some (Some x)))
    ⊎ ((is_in p (slots_of delta) ≡ true) × IsRewritten pages after p x stored)
rewritten-get [] pages after p x stored at = inl (refl, at)
rewritten-get (d ∷ delta) pages after p x stored at =
    by (rewritten-get delta (set pages d.slot page) after p x stored at) (cases_eq p d.slot)
  where
    known : Bool
    known = is_of_version (stored d.slot) (slice_get pages d.slot)

    page : Option ℕ
    page = cond known (Some after) None

    own : p ≡ d.slot → eqb d.slot p ≡ true
    own here = eq-eqb d.slot p (sym here)

    -- the first page of the step
    first : (y : ℕ) → p ≡ d.slot → slice_get (set pages d.slot page) p ≡ Some (Some y) → (y ≡ after) × IsRewritten pages after p after stored
    first y here there = of known refl
        (get-same pages d.slot page (Some y) (subst (λ (k : ℕ). slice_get (set pages d.slot page) k ≡ Some (Some y)) here there))
      where
        of : (b : Bool) → known ≡ b → Some y ≡ cond known (Some after) None → (y ≡ after) × IsRewritten pages after p after stored
        of true is same =
            let both : Some y ≡ Some after = same ∙ ap (λ (b : Bool). cond b (Some after) None) is in
            let v : IsOfVersion (stored d.slot) (slice_get pages d.slot) =
            of-version (stored d.slot) (slice_get pages d.slot) is in (
              cc,
              record {
                version = refl;
                number = v.number;
                found = ap stored here ∙ v.found;
                was = ap (slice_get pages) here ∙ v.page_is;
              },
            )
        of false is same =
            absurd
            (let both : Some y ≡ None = same ∙ ap (λ (b : Bool). cond b (Some after) None) is in cc)

    by :
        ((is_in p (slots_of delta) ≡ false) × (slice_get (set pages d.slot page) p ≡ Some (Some x)))
        ⊎ ((is_in p (slots_of delta) ≡ true) × IsRewritten (set pages d.slot page) after p x stored)
        → (p ≡ d.slot) ⊎ (p ≢ d.slot)
        → (((eqb d.slot p || is_in p (slots_of delta)) ≡ false) × (slice_get pages p ≡ Some (Some x)))
        ⊎ (((eqb d.slot p || is_in p (slots_of delta)) ≡ true) × IsRewritten pages after p x stored)
    by (inl both) (inl here) =
        let f = first x here both.1 in
        inr (rw (own here) refl, subst (λ (n : ℕ). IsRewritten pages after p n stored) (sym f.0) f.1)
    by (inl both) (inr other) =
        let none : eqb d.slot p ≡ false = grind (arith, nat_tests) in
        inl (rw (none, both.0) refl, sym (get-other pages p d.slot page other) ∙ both.1)
    by (inr both) (inl here) =
        let f = first both.1.number here both.1.was in
        inr
        (rw (own here) refl, subst (λ (n : ℕ). IsRewritten pages after p n stored) (sym both.1.version) f.1)
    by (inr both) (inr other) =
        let none : eqb d.slot p ≡ false = grind (arith, nat_tests) in
        inr (
          rw none both.0,
          record {
            version = both.1.version;
            number = both.1.number;
            found = both.1.found;
            was = sym (get-other pages p d.slot page other) ∙ both.1.was;
          },
        )

-- the pages after the step are the versions after it
pub rewritten-right :
    (h : History) (k : ℕ) (r : Record) (m : Machine) (pages : List (Option ℕ)) (stored : ℕ → Option ℕ)
    → slice_get h.records k ≡ Some r
    → AreOldPages h m pages
    → ((p x : ℕ) → stored p ≡ Some x → page_of (machine_at h k).memory p ≡ page_of (machine_at h x).memory p)
    → length m.memory ≡ length (machine_at h k).memory
    → AreOldPages h (apply m r) (rewritten pages (suc k) (versions_of stored r.kept.delta))
rewritten-right h k r m pages stored at were found size = λ p x known.
    by p x (rewritten-get r.kept.delta pages (suc k) p x stored known)
  where
    next : k + 1 ≡ suc k
    next = omega arith

    by :
        (p x : ℕ)
        → ((is_in p (slots_of r.kept.delta) ≡ false) × (slice_get pages p ≡ Some (Some x)))
        ⊎ ((is_in p (slots_of r.kept.delta) ≡ true) × IsRewritten pages (suc k) p x stored)
        → page_of (apply m r).memory p ≡ page_of (machine_at h x).memory p
    by p x (inl both) =
        ap (λ (v : Memory). page_of v p) (apply-memory m r)
        ∙ masked-other r.kept.delta m.memory p both.0
        ∙ were p x both.1
    by p x (inr both) =
        let is = both.1 in
        ap (λ (v : Memory). page_of v p) (apply-memory m r)
        ∙ masked-same r.kept.delta (machine_at h k).memory m.memory p size
        (were p is.number is.was ∙ sym (found p is.number is.found))
        ∙ sym
        (ap (λ (n : ℕ). page_of (machine_at h n).memory p) (is.version ∙ sym next)
        ∙ ap (λ (x : Machine). page_of x.memory p) (machine-more h k r at)
        ∙ ap (λ (v : Memory). page_of v p) (apply-memory (machine_at h k) r))

-- which threads were given a view by a step of a round
given-by :
    (m : Machine) (r : Record) (n : ℕ) (viewed given : List ℕ)
    → IsWhole (apply m r)
    → ((u : ℕ) → slice_index viewed u ≤ suc n)
    → ((u : ℕ) → u < 32 → slice_index given u ≡ viewed_after (apply m r) r.thread u (slice_index viewed u) (suc n))
    → length given ≡ 32
    → AreGivenBy m r n viewed given
given-by m r n viewed given whole most is long =
    record {
      each = λ u ready. each u ready (eqb u r.thread) refl;
      past = λ u ready. past u ready (eqb u r.thread) refl;
      most = λ u. few u (cases_lt u 32);
    }
  where
    at :
        (u : ℕ) → is_ready (hart_of (apply m r) u).status ≡ true
        → slice_index given u ≡ cond (eqb u r.thread) (suc n) (slice_index viewed u)
    at u ready =
        let here : leb u (length (apply m r).harts) ≡ true =
        (let below = ready-below (apply m r).harts u ready in grind (arith, nat_tests)) in
        is u (below-32 (apply m r) u whole ready)
        ∙ ap
        (λ (b : Bool).
        cond b
        (cond (is_ready (hart_of (apply m r) u).status) (cond (eqb u r.thread) (suc n) (slice_index viewed u)) (suc (suc n)))
        (slice_index viewed u))
        here
        ∙ ap (λ (b : Bool). cond b (cond (eqb u r.thread) (suc n) (slice_index viewed u)) (suc (suc n))) ready

    each :
        (u : ℕ) → is_ready (hart_of (apply m r) u).status ≡ true → (b : Bool) → eqb u r.thread ≡ b
        → (touched (effect_of m r) r.thread (length m.harts) u ≡ true) ⊎ (slice_index given u ≡ slice_index viewed u)
    each u ready true own =
        let same : eqb r.thread u ≡ true = eq-eqb r.thread u (sym (eqb-true u r.thread own)) in inl (rw same refl)
    each u ready false other =
        inr (at u ready ∙ ap (λ (b : Bool). cond b (suc n) (slice_index viewed u)) other)

    past :
        (u : ℕ) → is_ready (hart_of (apply m r) u).status ≡ true → (b : Bool) → eqb u r.thread ≡ b
        → slice_index given u ≤ suc n
    past u ready true own =
        let now : slice_index given u ≡ suc n =
        at u ready ∙ ap (λ (b : Bool). cond b (suc n) (slice_index viewed u)) own in
        omega arith
    past u ready false other =
        let same : slice_index given u ≡ slice_index viewed u =
        at u ready ∙ ap (λ (b : Bool). cond b (suc n) (slice_index viewed u)) other in
        let before = most u in
        omega arith

    either : (there a b : Bool) (x : ℕ) → x ≤ suc n → cond there (cond a (cond b (suc n) x) (suc (suc n))) x ≤ suc (suc n)
    either true true true x before = omega arith
    either true true false x before = omega arith
    either true false b x before = omega arith
    either false a b x before = omega arith

    few : (u : ℕ) → (u < 32) ⊎ (32 ≤ u) → slice_index given u ≤ suc (suc n)
    few u (inl below) =
        let now = is u below in
        let bound =
        either (leb u (length (apply m r).harts)) (is_ready (hart_of (apply m r) u).status) (eqb u r.thread) (slice_index viewed u)
        (most u) in
        omega arith
    few u (inr past) = let none : slice_index given u ≡ 0 = get_or_past given u 0 (omega arith) in omega arith

-- ---- a step of a round

-- A round with the record of one more step.
pub record IsLonger (w v : RoundState) (r : Record) : Type 0 where
  pub past : v.past ≡ w.past
  pub machine : v.machine ≡ apply w.machine r
  pub entries : length v.schedule ≡ suc (length w.schedule)
  pub whole : IsWhole w.machine
  pub going : is_none w.machine.ending ≡ true
  pub fit : fits w.machine r ≡ true

-- the times after it
times-longer :
    (w v : RoundState) (r : Record) (written viewed given : List ℕ)
    → IsLonger w v r → AreTimes w.machine (length w.schedule) written viewed
    → ((u : ℕ) → u < 32
    → slice_index given u ≡ viewed_after v.machine r.thread u (slice_index viewed u) (suc (length w.schedule)))
    → length given ≡ 32
    → AreTimes v.machine (length v.schedule) (with_each written (written_slots r) (suc (length w.schedule))) given
times-longer w v r written viewed given longer times is long =
    subst
    (λ (m : Machine). AreTimes m (length v.schedule) (with_each written (written_slots r) (suc (length w.schedule))) given)
    (sym longer.machine)
    (subst
    (λ (n : ℕ). AreTimes (apply w.machine r) n (with_each written (written_slots r) (suc (length w.schedule))) given)
    (sym longer.entries)
    (times-apply w.machine r (length w.schedule) written viewed given times longer.whole longer.going
    (fits-parts w.machine r longer.fit).ready
    (given-by w.machine r (length w.schedule) viewed given
    (apply-whole w.machine r longer.whole (fits-can_step w.machine r longer.going longer.fit)) times.most
    (λ u below.
    is u below
    ∙ ap (λ (m : Machine). viewed_after m r.thread u (slice_index viewed u) (suc (length w.schedule))) longer.machine)
    long)))

longer-size : (w v : RoundState) (r : Record) → IsLonger w v r → length v.machine.memory ≡ length w.machine.memory
longer-size w v r longer =
    ap (λ (m : Machine). length m.memory) longer.machine ∙ ap (λ (x : Memory). length x) (apply-memory w.machine r)
    ∙ length-masked r.kept.delta w.machine.memory

-- a round with one more step can still be compared
comparable-longer :
    (h : History) (w v : RoundState) (r : Record) → IsComparable w h → IsLonger w v r → IsComparable v h
comparable-longer h w v r were longer = record {
  valid = were.valid;
  coherent = were.coherent;
  fuel =
      ap (λ (m : Machine). m.frame.fuel) longer.machine ∙ ap (λ (f : Frame). f.fuel) (apply-frame w.machine r)
      ∙ were.fuel;
  size = longer-size w v r longer ∙ were.size;
}

-- a record that was reused
pub reused-versions :
    (h : History) (w v : RoundState) (k now : ℕ) (r : Record) (old made new : Versions)
    → AreVersions h w old → IsLonger w v r → now ≡ suc (length w.schedule)
    → slice_get h.records k ≡ Some r
    → AreReused old k r now made → AreGiven v.machine r.thread now made new
    → AreVersions h v new
reused-versions h w v k now r old made new were longer is_now at reused given =
    record {
      comparable = comparable-longer h w v r were.comparable longer;
      count = ap (λ (l : List StepVersions). length l) (given.steps ∙ reused.steps) ∙ were.count;
      few = subst (λ (l : List StepVersions). length l ≤ 65536) (sym (given.steps ∙ reused.steps)) were.few;
      steps = subst (AreStepsOf h) (sym (given.steps ∙ reused.steps)) were.steps;
      times =
          subst (λ (l : List ℕ). AreTimes v.machine (length v.schedule) l new.times.viewed)
          (sym
          (given.written ∙ reused.written
          ∙ ap (λ (n : ℕ). with_each old.times.written.items (written_slots r) n) is_now))
          (times-longer w v r old.times.written.items old.times.viewed new.times.viewed longer were.times
          (λ u below.
          given.viewed u below
          ∙ ap₂ (λ (l : List ℕ) (n : ℕ). viewed_after v.machine r.thread u (slice_index l u) n) reused.viewed is_now)
          given.count);
      pages =
          subst (AreOldPages h v.machine) (sym (given.pages ∙ reused.pages ∙ written_is))
          (subst (λ (m : Machine). AreOldPages h m (rewritten known (suc k) (versions_of step.stored r.kept.delta)))
          (sym longer.machine)
          (rewritten-right h k r w.machine known step.stored at known_right step.memory
          (were.comparable.size ∙ sym (applied-size (first h.setup) h.records k))));
    }
  where
    step : IsStepOf h k r reused.step
    step = were.steps.each k r reused.step at reused.there

    can : (is_none (machine_at h k).ending ≡ true) × (fits (machine_at h k) r ≡ true)
    can = and_parts (is_none (machine_at h k).ending) (fits (machine_at h k) r) (coherent-can h k r were.comparable.coherent at)

    known : List (Option ℕ)
    known =
        learned old.times.written.items old.times.viewed old.pages.items r.thread
        (map (λ (q : ReadPage). record { slot = q.slot; version = step.seen q.slot }) r.kept.reads)

    written_is :
        rewritten (learned old.times.written.items old.times.viewed old.pages.items r.thread reused.step.read.items)
        (suc k) reused.step.written.items
        ≡ rewritten known (suc k) (versions_of step.stored r.kept.delta)
    written_is =
        ap₂
        (λ (read written : List PageVersion).
        rewritten (learned old.times.written.items old.times.viewed old.pages.items r.thread read) (suc k) written)
        step.read step.written

    known_right : AreOldPages h w.machine known
    known_right =
        learned-right r.kept.reads h w.machine (hart_of (machine_at h k) r.thread).view
        (hart_of w.machine r.thread).view step.seen old.times.written.items old.times.viewed old.pages.items r.thread
        were.pages (fits-parts (machine_at h k) r can.1).reads (fits-parts w.machine r longer.fit).reads
        (λ p cur. were.times.current r.thread p longer.going (fits-parts w.machine r longer.fit).ready cur)
        step.views

-- a step that was executed
pub executed-versions :
    (h : History) (w v : RoundState) (now : ℕ) (r : Record) (old made new : Versions)
    → AreVersions h w old → IsLonger w v r → now ≡ suc (length w.schedule)
    → AreExecuted old r now made → AreGiven v.machine r.thread now made new
    → AreVersions h v new
executed-versions h w v now r old made new were longer is_now executed given =
    record {
      comparable = comparable-longer h w v r were.comparable longer;
      count = ap (λ (l : List StepVersions). length l) (given.steps ∙ executed.steps) ∙ were.count;
      few = subst (λ (l : List StepVersions). length l ≤ 65536) (sym (given.steps ∙ executed.steps)) were.few;
      steps = subst (AreStepsOf h) (sym (given.steps ∙ executed.steps)) were.steps;
      times =
          subst (λ (l : List ℕ). AreTimes v.machine (length v.schedule) l new.times.viewed)
          (sym
          (given.written ∙ executed.written
          ∙ ap (λ (n : ℕ). with_each old.times.written.items (written_slots r) n) is_now))
          (times-longer w v r old.times.written.items old.times.viewed new.times.viewed longer were.times
          (λ u below.
          given.viewed u below
          ∙ ap₂ (λ (l : List ℕ) (n : ℕ). viewed_after v.machine r.thread u (slice_index l u) n) executed.viewed is_now)
          given.count);
      pages = λ p x known.
          let at : slice_get (with_each old.pages.items (written_slots r) None) p ≡ Some (Some x) =
          ap (λ (l : List (Option ℕ)). slice_get l p) (sym (given.pages ∙ executed.pages)) ∙ known in
          elim (is_or_not (is_in p (written_slots r))) [
            | inl wrote ↦
                absurd
                (let none : Some x ≡ None = each-in old.pages.items (written_slots r) None (Some x) p wrote at in cc)
            | inr free ↦
                ap (λ (m : Machine). page_of m.memory p) longer.machine
                ∙ ap (λ (x : Memory). page_of x p) (apply-memory w.machine r)
                ∙ masked-other r.kept.delta w.machine.memory p free
                ∙ were.pages p x (sym (each-other old.pages.items (written_slots r) None p free) ∙ at)
          ];
    }

-- the same if nothing has to be known

pub right-reused :
    (w v : RoundState) (k now : ℕ) (r : Record) (old new : Option Versions)
    → AreRight w old → IsLonger w v r → now ≡ suc (length w.schedule)
    → ((h : History) → w.past ≡ Some h → slice_get h.records k ≡ Some r)
    → MayBeMadeAgain old v.machine k r now new
    → AreRight v new
right-reused w v k now r old None were longer is_now at made = tt
right-reused w v k now r None (Some new) were longer is_now at made = absurd made
right-reused w v k now r (Some old) (Some new) were longer is_now at made = λ h is.
    let own : w.past ≡ Some h = sym longer.past ∙ is in
    reused-versions h w v k now r old made.made new (were h own) longer is_now (at h own) made.reused made.given

pub right-executed :
    (w v : RoundState) (now : ℕ) (r : Record) (old new : Option Versions)
    → AreRight w old → IsLonger w v r → now ≡ suc (length w.schedule)
    → MayBeMadeAnew old v.machine r now new
    → AreRight v new
right-executed w v now r old None were longer is_now made = tt
right-executed w v now r None (Some new) were longer is_now made = absurd made
right-executed w v now r (Some old) (Some new) were longer is_now made = λ h is.
    executed-versions h w v now r old made.made new (were h (sym longer.past ∙ is)) longer is_now made.executed made.given

-- the known versions, or else fresh ones
pub right-either :
    (w : RoundState) (c : Bool) (a b : Option (Box Versions Global)) → AreRight w (unboxed a) → AreRight w (unboxed b)
    → AreRight w (unboxed (cond c a b))
right-either w true a b first second = first
right-either w false a b first second = second

-- the place of a found record is one of a step whose versions are known

pub right-there :
    (w : RoundState) (t : ℕ) (r : Record) (vs : Option (Box Versions Global))
    → AreRight w (unboxed vs) → record_for w.past w.machine t ≡ Some r
    → IfSome vs (λ (v : Box Versions Global). place_in w.past w.machine t < length v.value.steps.items)
right-there w t r None were there = tt
right-there w t r (Some v) were there = of w.past refl
  where
    of : (past : Option History) → w.past ≡ past → place_in w.past w.machine t < length v.value.steps.items
    of None is = absurd (let none = sym there ∙ ap (λ (p : Option History). record_for p w.machine t) is in cc)
    of (Some h) is =
        let here : record_for (Some h) w.machine t ≡ Some r =
        ap (λ (p : Option History). record_for p w.machine t) (sym is) ∙ there in
        let below = slice_get_within h.records (place_in (Some h) w.machine t) r (at-place h w.machine t r here) in
        let same : place_in w.past w.machine t ≡ place_in (Some h) w.machine t =
        ap (λ (p : Option History). place_in p w.machine t) is in
        omega (arith, (were h is).count)
