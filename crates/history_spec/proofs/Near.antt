-- A run of another input beside a run: they differ only in a set of steps that is closed under what spreads a
-- difference.
use Rattle.std.proofs.Common.{◌≡◌, ◌≢◌, ◌+◌, ℕ, suc, Bool, true, false, ◌&&◌, ◌||◌, eqb, cond, List, [], ◌∷◌, length, Option, Some, None, is_none, refl, ap, ap₂, sym, ◌∙◌, subst, inl, inr, ◌⊎◌, arith}
use Rattle.std.proofs.lemmas.Bool.{cases_eq, eq-eqb}
use Rattle.std.proofs.lemmas.Bool.Decides.{nat_tests}
use Rattle.isa_spec.specs.Registers.{Registers, same_registers}
use Rattle.memory_spec.specs.Pages.{Memory, page_of}
use Rattle.guest_call.specs.declared.Fate.{Fate}
use Rattle.guest_call.specs.declared.Fate.TheVariants.{Returns, Blocks, Ends, Exits}
use Rattle.guest_call.specs.Effect.{Effect}
use Rattle.guest_call.specs.Objects.{Objects, created_count}
use Rattle.thunk_spec.specs.Thunk.{Frame}
use Rattle.thunk_spec.specs.Delta.{masked}
use Rattle.thunk_spec.specs.Record.{Record, Kept, may_end}
use Rattle.machine_spec.specs.Machine.{Hart, Machine, hart_of, is_ready}
use Rattle.machine_spec.specs.Performing.{returned, fated, first_hart}
use Rattle.machine_spec.specs.Step.{apply, fits, fate_end}
use Rattle.machine_spec.specs.Whole.{IsWhole}
use Rattle.history_spec.proofs.Applying.{apply-frame}
use Rattle.history_spec.proofs.Numbers.{one_for, apply-number}
use Rattle.history_spec.specs.Facts.{ask_of, acted, effect_of, served_by, read_slots, written_slots}
use Rattle.history_spec.specs.Before.{is_in}
use Rattle.history_spec.proofs.Lists.{or-left, or-right, is_or_not}
use Rattle.history_spec.proofs.Pages.{length-masked, masked-other, masked-same}
use Rattle.history_spec.proofs.After.{woken_at, settled_at, created_at, ran_at, after_at, apply-at, apply-length, apply-memory, apply-objects, apply-steps, apply-ending, own_end_of}
use Rattle.history_spec.proofs.Local.{acted-like}
use Rattle.history_spec.proofs.Alike.{touched, untouched-after, touched-served, has-like, fits-parts, fits-from}
use Rattle.history_spec.proofs.Simulate.{none-is, end_after-none, fate-none}

-- a hart without view and registers
abbrev pub plain : Hart → Hart
plain h = record { view = []; regs = record { pc = 0; x = [] }; number = h.number; status = h.status }

-- a record of the same thread and number
abbrev pub other_record : Record → Registers → Kept → Record
other_record r start kept = record { thread = r.thread; number = r.number; start = start; kept = kept }

-- two machines that are near each other: outside of a set of steps, given by thread and number, registers are the same,
-- and outside of some pages memory is, and so are the bytes of their views that thunks outside of the set read
pub record IsNear (reads : ℕ → ℕ → List ℕ) (among : ℕ → ℕ → Bool) (taint : ℕ → Bool) (m n : Machine) : Type 0 where
  pub frame : n.frame ≡ m.frame
  pub steps : n.steps ≡ m.steps
  pub objects : n.objects ≡ m.objects
  pub size : length n.memory ≡ length m.memory
  pub memory : (p : ℕ) → taint p ≡ false → page_of n.memory p ≡ page_of m.memory p
  pub count : length n.harts ≡ length m.harts
  pub harts : (u : ℕ) → plain (hart_of n u) ≡ plain (hart_of m u)
  pub regs : (u : ℕ) → among u (hart_of m u).number ≡ false → (hart_of n u).regs ≡ (hart_of m u).regs
  pub views :
      (u p : ℕ) → is_ready (hart_of m u).status ≡ true → among u (hart_of m u).number ≡ false
      → is_in p (reads u (hart_of m u).number) ≡ true → page_of (hart_of n u).view p ≡ page_of (hart_of m u).view p

-- a record of a step outside the set fits on one machine if it fits on the other: so executed steps are in the set
pub near-fits :
    (reads : ℕ → ℕ → List ℕ) (among : ℕ → ℕ → Bool) (taint : ℕ → Bool) (m n : Machine) (r : Record)
    → IsNear reads among taint m n → reads r.thread r.number ≡ read_slots r → fits m r ≡ true
    → among r.thread r.number ≡ false → fits n r ≡ true
near-fits reads among taint m n r near slots fit out =
    let parts = fits-parts m r fit in
    let same : plain (hart_of n r.thread) ≡ plain (hart_of m r.thread) = near.harts r.thread in
    let out_now : among r.thread (hart_of m r.thread).number ≡ false = ap (among r.thread) (sym parts.number) ∙ out in
    fits-from n r
    (record {
      ready = ap (λ (h : Hart). is_ready h.status) same ∙ parts.ready;
      number = parts.number ∙ sym (ap (λ (h : Hart). h.number) same);
      start = ap (same_registers r.start) (near.regs r.thread out_now) ∙ parts.start;
      reads =
          has-like r.kept.reads (hart_of m r.thread).view (hart_of n r.thread).view
          (λ p there.
          near.views r.thread p parts.ready out_now
          (subst (λ (ks : List ℕ). is_in p ks ≡ true) (sym (sym (ap (reads r.thread) parts.number) ∙ slots)) there))
          ∙ parts.reads;
      ends = ap (λ (f : Frame). may_end f.fuel r.kept.end r.kept.count) near.frame ∙ parts.ends;
    })

plain-cond :
    (b : Bool) (x y g h : Hart) → plain x ≡ plain y → plain g ≡ plain h → plain (cond b x g) ≡ plain (cond b y h)
plain-cond true x y g h same rest = same
plain-cond false x y g h same rest = rest

plain-returned :
    (mem other : Memory) (a : ℕ) (reported : Option ℕ) (g h : Hart) → plain g ≡ plain h
    → plain (returned mem a reported g) ≡ plain (returned other a reported h)
plain-returned mem other a reported g h same = ap (λ (x : Hart). plain (returned [] a reported x)) same

plain-fated :
    (f : Fate) (mem other : Memory) (g h : Hart) → plain g ≡ plain h → plain (fated f mem g) ≡ plain (fated f other h)
plain-fated (Returns a b) mem other g h same = plain-returned mem other a b g h same
plain-fated Blocks mem other g h same = ap (λ (x : Hart). plain (fated Blocks [] x)) same
plain-fated (Ends v) mem other g h same = ap (λ (x : Hart). plain (fated (Ends v) [] x)) same
plain-fated (Exits code) mem other g h same = same

plain-woken :
    (mem other : Memory) (reported : Option ℕ) (us : List ℕ) (u : ℕ) (g h : Hart) → plain g ≡ plain h
    → plain (woken_at mem reported us u g) ≡ plain (woken_at other reported us u h)
plain-woken mem other reported [] u g h same = same
plain-woken mem other reported (v ∷ us) u g h same =
    plain-woken mem other reported us u (cond (eqb v u) (returned mem 0 reported g) g)
    (cond (eqb v u) (returned other 0 reported h) h)
    (plain-cond (eqb v u) (returned mem 0 reported g) (returned other 0 reported h) g h
    (plain-returned mem other 0 reported g h same) same)

plain-created :
    (mem other : Memory) (c : Option (ℕ × ℕ)) (n u : ℕ) (g h : Hart) → plain g ≡ plain h
    → plain (created_at mem c n u g) ≡ plain (created_at other c n u h)
plain-created mem other None n u g h same = same
plain-created mem other (Some c) n u g h same =
    plain-cond (eqb n u) (first_hart mem n c.0 c.1) (first_hart other n c.0 c.1) g h refl same

plain-ran :
    (r : Record) (start : Registers) (kept : Kept) (u : ℕ) (g h : Hart) → plain g ≡ plain h
    → plain (ran_at (other_record r start kept) u g) ≡ plain (ran_at r u h)
plain-ran r start kept u g h same =
    plain-cond (eqb r.thread u) (record { view = g.view; regs = kept.finish; number = suc g.number; status = g.status })
    (record { view = h.view; regs = r.kept.finish; number = suc h.number; status = h.status }) g h
    (ap (λ (x : Hart). plain (record { view = []; regs = x.regs; number = suc x.number; status = x.status })) same) same

pub plain-after :
    (e : Effect) (mem other : Memory) (r : Record) (start : Registers) (kept : Kept) (n u : ℕ) (g h : Hart)
    → plain g ≡ plain h → plain (after_at e mem (other_record r start kept) n u g) ≡ plain (after_at e other r n u h)
plain-after e mem other r start kept n u g h same =
    let q : Record = other_record r start kept in
    let ran : plain (ran_at (other_record r start kept) u g) ≡ plain (ran_at r u h) =
    plain-ran r start kept u g h same in
    plain-created mem other e.created n u (settled_at e mem r.thread u (ran_at (other_record r start kept) u g))
    (settled_at e other r.thread u (ran_at r u h))
    (plain-woken mem other e.reported e.woken u
    (cond (eqb r.thread u) (fated e.fate mem (ran_at (other_record r start kept) u g))
    (ran_at (other_record r start kept) u g))
    (cond (eqb r.thread u) (fated e.fate other (ran_at r u h)) (ran_at r u h))
    (plain-cond (eqb r.thread u) (fated e.fate mem (ran_at (other_record r start kept) u g))
    (fated e.fate other (ran_at r u h))
    (ran_at (other_record r start kept) u g) (ran_at r u h)
    (plain-fated e.fate mem other (ran_at (other_record r start kept) u g) (ran_at r u h) ran) ran))

-- registers follow from registers

regs-cond : (b : Bool) (x y g h : Hart) → x.regs ≡ y.regs → g.regs ≡ h.regs → (cond b x g).regs ≡ (cond b y h).regs
regs-cond true x y g h same rest = same
regs-cond false x y g h same rest = rest

regs-returned :
    (mem other : Memory) (a : ℕ) (reported : Option ℕ) (g h : Hart) → g.regs ≡ h.regs
    → (returned mem a reported g).regs ≡ (returned other a reported h).regs
regs-returned mem other a reported g h same =
    ap (λ (r : Registers). Rattle.machine_spec.specs.Performing.answered r a reported) same

regs-fated :
    (f : Fate) (mem other : Memory) (g h : Hart) → g.regs ≡ h.regs → (fated f mem g).regs ≡ (fated f other h).regs
regs-fated (Returns a b) mem other g h same = regs-returned mem other a b g h same
regs-fated Blocks mem other g h same = same
regs-fated (Ends v) mem other g h same = same
regs-fated (Exits code) mem other g h same = same

regs-woken :
    (mem other : Memory) (reported : Option ℕ) (us : List ℕ) (u : ℕ) (g h : Hart) → g.regs ≡ h.regs
    → (woken_at mem reported us u g).regs ≡ (woken_at other reported us u h).regs
regs-woken mem other reported [] u g h same = same
regs-woken mem other reported (v ∷ us) u g h same =
    regs-woken mem other reported us u (cond (eqb v u) (returned mem 0 reported g) g)
    (cond (eqb v u) (returned other 0 reported h) h)
    (regs-cond (eqb v u) (returned mem 0 reported g) (returned other 0 reported h) g h
    (regs-returned mem other 0 reported g h same) same)

regs-created :
    (mem other : Memory) (c : Option (ℕ × ℕ)) (n u : ℕ) (g h : Hart) → g.regs ≡ h.regs
    → (created_at mem c n u g).regs ≡ (created_at other c n u h).regs
regs-created mem other None n u g h same = same
regs-created mem other (Some c) n u g h same =
    regs-cond (eqb n u) (first_hart mem n c.0 c.1) (first_hart other n c.0 c.1) g h refl same

regs-after :
    (e : Effect) (mem other : Memory) (r q : Record) (n u : ℕ) (g h : Hart)
    → q.thread ≡ r.thread → (ran_at q u g).regs ≡ (ran_at r u h).regs
    → (after_at e mem q n u g).regs ≡ (after_at e other r n u h).regs
regs-after e mem other r q n u g h thread same =
    regs-created mem other e.created n u (settled_at e mem q.thread u (ran_at q u g))
    (settled_at e other r.thread u (ran_at r u h))
    (regs-woken mem other e.reported e.woken u
    (cond (eqb q.thread u) (fated e.fate mem (ran_at q u g)) (ran_at q u g))
    (cond (eqb r.thread u) (fated e.fate other (ran_at r u h)) (ran_at r u h))
    (ap (λ (t : ℕ). (cond (eqb t u) (fated e.fate mem (ran_at q u g)) (ran_at q u g)).regs) thread
    ∙ regs-cond (eqb r.thread u) (fated e.fate mem (ran_at q u g)) (fated e.fate other (ran_at r u h)) (ran_at q u g)
    (ran_at r u h)
    (regs-fated e.fate mem other (ran_at q u g) (ran_at r u h) same) same))

-- one step on both sides

-- the pages that may differ, after a step
abbrev pub taint_after : (ℕ → ℕ → Bool) → (ℕ → Bool) → Record → ℕ → Bool
taint_after among taint r p = taint p || (among r.thread r.number && is_in p (written_slots r))

-- the step of the other run: it requests the same and writes no other pages, and outside of the set it is the same
pub record IsStepLike (among : ℕ → ℕ → Bool) (r : Record) (start : Registers) (kept : Kept) : Type 0 where
  pub ask : ask_of (other_record r start kept) ≡ ask_of r
  pub written : (p : ℕ) → is_in p (written_slots (other_record r start kept)) ≡ true → is_in p (written_slots r) ≡ true
  pub same : among r.thread r.number ≡ false → kept ≡ r.kept

-- the set is closed at this step: it has the next step of its thread, and each thunk that is given a page that may
-- differ, and reads it
pub record IsClosedAt (reads : ℕ → ℕ → List ℕ) (among : ℕ → ℕ → Bool) (taint : ℕ → Bool) (m : Machine)
    (r : Record) : Type 0 where
  pub next : among r.thread r.number ≡ true → among r.thread (suc r.number) ≡ true
  pub spread :
      (u p : ℕ) → is_in u (served_by m r) ≡ true → is_in p (reads u (hart_of (apply m r) u).number) ≡ true
      → taint_after among taint r p ≡ true → among u (hart_of (apply m r) u).number ≡ true

module _
    (reads : ℕ → ℕ → List ℕ) (among : ℕ → ℕ → Bool) (taint : ℕ → Bool) (m n : Machine) (r : Record) (start : Registers)
    (kept : Kept)
    (near : IsNear reads among taint m n) (whole_m : IsWhole m) (whole_n : IsWhole n)
    (fit_m : fits m r ≡ true) (fit_n : fits n (other_record r start kept) ≡ true)
    (going : is_none (apply m r).ending ≡ true) (like : IsStepLike among r start kept)
    (closed : IsClosedAt reads among taint m r) where
  ready_m : is_ready (hart_of m r.thread).status ≡ true
  ready_m = (fits-parts m r fit_m).ready

  number_m : r.number ≡ (hart_of m r.thread).number
  number_m = (fits-parts m r fit_m).number

  same_act : acted n r.thread (ask_of (other_record r start kept)) ≡ acted m r.thread (ask_of r)
  same_act = ap (acted n r.thread) like.ask ∙ acted-like m n r.thread (ask_of r) near.frame near.objects

  at_m :
      (u : ℕ) → hart_of (apply m r) u
      ≡ after_at (effect_of m r) (masked m.memory r.kept.delta) r (length m.harts) u (hart_of m u)
  at_m u = apply-at m r u whole_m.tied ready_m

  at_n :
      (u : ℕ) → hart_of (apply n (other_record r start kept)) u
      ≡ after_at (effect_of m r) (masked n.memory kept.delta) (other_record r start kept) (length m.harts) u
      (hart_of n u)
  at_n u =
      apply-at n (other_record r start kept) u whole_n.tied (fits-parts n (other_record r start kept) fit_n).ready
      ∙ ap₂ (λ (x : Effect × Objects) (k : ℕ).
      after_at x.0 (masked n.memory kept.delta) (other_record r start kept) k u (hart_of n u)) same_act near.count

  fate : fate_end (effect_of m r).fate ≡ None
  fate =
      fate-none m r.thread (ask_of r)
      (end_after-none (own_end_of m r) (apply m r).harts m.limit (suc m.steps)
      (sym (apply-ending m r) ∙ none-is (apply m r).ending going)).0

  harts : (u : ℕ) → plain (hart_of (apply n (other_record r start kept)) u) ≡ plain (hart_of (apply m r) u)
  harts u =
      ap plain (at_n u)
      ∙ plain-after (effect_of m r) (masked n.memory kept.delta) (masked m.memory r.kept.delta) r start kept
      (length m.harts) u (hart_of n u) (hart_of m u) (near.harts u)
      ∙ sym (ap plain (at_m u))

  pages :
      (p : ℕ) → taint_after among taint r p ≡ false
      → page_of (masked n.memory kept.delta) p ≡ page_of (masked m.memory r.kept.delta) p
  pages p clean =
      let old : page_of n.memory p ≡ page_of m.memory p =
      near.memory p (or-left (taint p) (among r.thread r.number && is_in p (written_slots r)) clean) in
      elim (is_or_not (among r.thread r.number)) [
        | inl is ↦
            let unwritten : is_in p (written_slots r) ≡ false =
            here (among r.thread r.number) (is_in p (written_slots r)) is
            (or-right (taint p) (among r.thread r.number && is_in p (written_slots r)) clean) in
            masked-other kept.delta n.memory p
            (elim (is_or_not (is_in p (written_slots (other_record r start kept)))) [
              | inl writes ↦ absurd (let there = like.written p writes in cc)
              | inr none ↦ none
            ])
            ∙ old
            ∙ sym (masked-other r.kept.delta m.memory p unwritten)
        | inr isnt ↦ ap (λ (k : Kept). page_of (masked n.memory k.delta) p) (like.same isnt)
            ∙ masked-same r.kept.delta m.memory n.memory p near.size old
      ]
    where
      here : (a b : Bool) → a ≡ true → (a && b) ≡ false → b ≡ false
      here true b is h = h
      here false b is h = cc

  number_of : (u : ℕ) → (hart_of (apply m r) u).number ≡ (hart_of m u).number + one_for u r.thread
  number_of u = apply-number m r u ready_m

  regs :
      (u : ℕ) → among u (hart_of (apply m r) u).number ≡ false
      → (hart_of (apply n (other_record r start kept)) u).regs ≡ (hart_of (apply m r) u).regs
  regs u out =
      ap (λ (h : Hart). h.regs) (at_n u)
      ∙ regs-after (effect_of m r) (masked n.memory kept.delta) (masked m.memory r.kept.delta) r
      (other_record r start kept) (length m.harts) u (hart_of n u) (hart_of m u) refl (ran (cases_eq r.thread u))
      ∙ sym (ap (λ (h : Hart). h.regs) (at_m u))
    where
      ran :
          (r.thread ≡ u) ⊎ (r.thread ≢ u)
          → (ran_at (other_record r start kept) u (hart_of n u)).regs ≡ (ran_at r u (hart_of m u)).regs
      ran (inl own) =
          let is : eqb r.thread u ≡ true = eq-eqb r.thread u own in
          let number : (hart_of (apply m r) u).number ≡ suc r.number =
          number_of u
          ∙ (let one : one_for u r.thread ≡ 1 = (rw is refl) in let k : r.number ≡ (hart_of m u).number = number_m
          ∙ ap (λ (t : ℕ). (hart_of m t).number) own in omega arith) in
          let later : among r.thread (suc r.number) ≡ false = ap₂ among own (sym number) ∙ out in
          let isnt : among r.thread r.number ≡ false =
          (elim (is_or_not (among r.thread r.number)) [
            | inl there ↦ absurd (let then = closed.next there in cc)
            | inr none ↦ none
          ]) in
          rw is (ap (λ (k : Kept). k.finish) (like.same isnt))
      ran (inr other) =
          let is : eqb r.thread u ≡ false = grind (arith, nat_tests) in
          let number : (hart_of (apply m r) u).number ≡ (hart_of m u).number =
          number_of u ∙ (let none : one_for u r.thread ≡ 0 = (rw is refl) in omega arith) in
          rw is (near.regs u (ap (among u) (sym number) ∙ out))

  views :
      (u p : ℕ) → is_ready (hart_of (apply m r) u).status ≡ true → among u (hart_of (apply m r) u).number ≡ false
      → is_in p (reads u (hart_of (apply m r) u).number) ≡ true
      → page_of (hart_of (apply n (other_record r start kept)) u).view p ≡ page_of (hart_of (apply m r) u).view p
  views u p ready out read =
      let ready_at : is_ready
      (after_at (effect_of m r) (masked m.memory r.kept.delta) r (length m.harts) u (hart_of m u)).status ≡ true =
      ap (λ (h : Hart). is_ready h.status) (sym (at_m u)) ∙ ready in
      let ready_at_n : is_ready
      (after_at (effect_of m r) (masked n.memory kept.delta) (other_record r start kept) (length m.harts) u
      (hart_of n u)).status ≡ true =
      ap (λ (h : Hart). is_ready h.status) (sym (at_n u)) ∙ ap (λ (h : Hart). is_ready h.status) (harts u) ∙ ready in
      elim (is_or_not (touched (effect_of m r) r.thread (length m.harts) u)) [
        | inl is ↦
            let served_m =
            touched-served (effect_of m r) (masked m.memory r.kept.delta) r (length m.harts) u
            (hart_of m u) is fate ready_at in
            let served_n =
            touched-served (effect_of m r) (masked n.memory kept.delta) (other_record r start kept) (length m.harts) u
            (hart_of n u) is fate ready_at_n in
            let clean : taint_after among taint r p ≡ false =
            (elim (is_or_not (taint_after among taint r p)) [
              | inl dirty ↦ absurd (let there = closed.spread u p served_m.there read dirty in cc)
              | inr none ↦ none
            ]) in
            ap (λ (h : Hart). page_of h.view p) (at_n u)
            ∙ ap (λ (v : Memory). page_of v p) served_n.view
            ∙ pages p clean
            ∙ sym (ap (λ (h : Hart). page_of h.view p) (at_m u) ∙ ap (λ (v : Memory). page_of v p) served_m.view)
        | inr isnt ↦
            let stays_m : hart_of (apply m r) u ≡ hart_of m u =
            at_m u ∙ untouched-after (effect_of m r) (masked m.memory r.kept.delta) r (length m.harts) u
            (hart_of m u) isnt in
            let stays_n : hart_of (apply n (other_record r start kept)) u ≡ hart_of n u =
            at_n u ∙ untouched-after (effect_of m r) (masked n.memory kept.delta) (other_record r start kept)
            (length m.harts) u (hart_of n u) isnt in
            ap (λ (h : Hart). page_of h.view p) stays_n
            ∙ near.views u p (ap (λ (h : Hart). is_ready h.status) (sym stays_m) ∙ ready)
            (subst (λ (h : Hart). among u h.number ≡ false) stays_m out)
            (subst (λ (h : Hart). is_in p (reads u h.number) ≡ true) stays_m read)
            ∙ ap (λ (h : Hart). page_of h.view p) (sym stays_m)
      ]

  -- the machines stay near each other
  pub near-apply : IsNear reads among (taint_after among taint r) (apply m r) (apply n (other_record r start kept))
  near-apply =
      record {
        frame = apply-frame n (other_record r start kept) ∙ near.frame ∙ sym (apply-frame m r);
        steps = apply-steps n (other_record r start kept) ∙ ap suc near.steps ∙ sym (apply-steps m r);
        objects =
            apply-objects n (other_record r start kept) ∙ ap (λ (x : Effect × Objects). x.1) same_act
            ∙ sym (apply-objects m r);
        size =
            ap (λ (x : Memory). length x) (apply-memory n (other_record r start kept)) ∙ length-masked kept.delta n.memory
            ∙ near.size
            ∙ sym (ap (λ (x : Memory). length x) (apply-memory m r) ∙ length-masked r.kept.delta m.memory);
        memory = λ p clean.
            ap (λ (x : Memory). page_of x p) (apply-memory n (other_record r start kept)) ∙ pages p clean
            ∙ sym (ap (λ (x : Memory). page_of x p) (apply-memory m r));
        count =
            apply-length n (other_record r start kept)
            ∙ ap₂ (λ (k : ℕ) (x : Effect × Objects). k + created_count x.0.created) near.count same_act
            ∙ sym (apply-length m r);
        harts = harts;
        regs = regs;
        views = views;
      }
