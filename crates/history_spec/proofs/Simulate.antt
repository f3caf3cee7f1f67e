-- Applying records keeps machines alike.
use Rattle.std.proofs.Common.{◌≡◌, ◌+◌, ℕ, suc, Bool, true, ◌&&◌, List, [], ◌∷◌, ◌++◌, length, Option, Some, None, is_none, is_some, refl, ap, ap₂, sym, ◌∙◌, subst, inl, inr}
use Rattle.std.specs.List.{AllByRecursion}
use Rattle.memory_spec.specs.Pages.{Memory, page_of}
use Rattle.guest_call.specs.Effect.{Effect}
use Rattle.guest_call.specs.Objects.{Objects}
use Rattle.guest_call.specs.declared.Object.{Object}
use Rattle.thunk_spec.specs.Thunk.{Frame}
use Rattle.thunk_spec.specs.Delta.{masked}
use Rattle.isa_spec.specs.Registers.{same_registers}
use Rattle.thunk_spec.specs.Record.{Record, put_of, may_end}
use Rattle.machine_spec.specs.declared.states.Asked.{Asked}
use Rattle.machine_spec.specs.declared.states.Asked.TheVariants.{Asks, Stops}
use Rattle.machine_spec.specs.declared.states.End.{End}
use Rattle.machine_spec.specs.Machine.{Hart, Machine, hart_of, is_ready}
use Rattle.machine_spec.specs.Step.{apply, fits, fate_end, end_after, state_end}
use Rattle.machine_spec.specs.Whole.{IsWhole}
use Rattle.history_spec.specs.History.{applied_from, can_apply_from}
use Rattle.history_spec.proofs.Applying.{fits-can_step, apply-frame, apply-whole}
use Rattle.history_spec.specs.Facts.{Fact, ask_of, acted, effect_of, objects_of, served, served_by, read_by, written_slots, fact_of, facts_from}
use Rattle.history_spec.specs.Before.{is_in}
use Rattle.history_spec.proofs.Lists.{and-left, and-right, is_or_not}
use Rattle.history_spec.proofs.After.{after_at, apply-at, apply-length, apply-memory, apply-objects, apply-output, apply-steps, apply-limit, apply-ending, own_end, own_end_of}
use Rattle.history_spec.proofs.Local.{acted-like, objects-like, own_end-like}
use Rattle.history_spec.proofs.Alike.{bare, IsAlike, IsReading, bare-after, touched, untouched-after, touched-served, read_by-on, end_after-like, has-like, put-like, view-of, fits-parts, fits-from}

pub none-is : {A : Type 0} (e : Option A) → is_none e ≡ true → e ≡ None
none-is (Some x) h = cc
none-is None h = refl

pub end_after-none :
    (e : Option End) (hs : List Hart) (limit steps : ℕ) → end_after e hs limit steps ≡ None
    → (e ≡ None) × (state_end hs limit steps ≡ None)
end_after-none (Some x) hs limit steps h = cc
end_after-none None hs limit steps h = (refl, h)

pub fate-none : (m : Machine) (t : ℕ) (a : Asked) → own_end m t a ≡ None → fate_end (acted m t a).0.fate ≡ None
fate-none m t (Asks call) h = h
fate-none m t (Stops e) h = cc

pub fits-like :
    (reads : ℕ → ℕ → List ℕ) (m n : Machine) (r : Record)
    → IsAlike reads m n → is_none m.ending ≡ true → IsReading reads m.frame r → fits m r ≡ true
    → fits n r ≡ true
fits-like reads m n r alike none reading fit =
    let parts = fits-parts m r fit in
    let same : bare (hart_of n r.thread) ≡ bare (hart_of m r.thread) = alike.harts r.thread in
    fits-from n r
    (record {
      ready = ap (λ (h : Hart). is_ready h.status) same ∙ parts.ready;
      number = parts.number ∙ sym (ap (λ (h : Hart). h.number) same);
      start = ap (λ (h : Hart). same_registers r.start h.regs) same ∙ parts.start;
      reads =
          has-like r.kept.reads (hart_of m r.thread).view (hart_of n r.thread).view
          (λ p there.
          alike.views none r.thread p parts.ready
          (subst (λ (ks : List ℕ). is_in p ks ≡ true) (sym (sym (ap (reads r.thread) parts.number) ∙ reading.slots))
          there))
          ∙ parts.reads;
      ends = ap (λ (f : Frame). may_end f.fuel r.kept.end r.kept.count) alike.frame ∙ parts.ends;
    })

pub apply-at_like :
    (reads : ℕ → ℕ → List ℕ) (m n : Machine) (r : Record) (u : ℕ)
    → IsAlike reads m n → IsWhole n → is_ready (hart_of n r.thread).status ≡ true
    → hart_of (apply n r) u ≡ after_at (effect_of m r) (masked m.memory r.kept.delta) r (length m.harts) u (hart_of n u)
apply-at_like reads m n r u alike whole ready =
    apply-at n r u whole.tied ready
    ∙ ap (λ (x : Effect × Objects). after_at x.0 (masked n.memory r.kept.delta) r (length n.harts) u (hart_of n u))
    (acted-like m n r.thread (ask_of r) alike.frame alike.objects)
    ∙ ap₂ (λ (mem : Memory) (k : ℕ). after_at (effect_of m r) (masked mem r.kept.delta) r k u (hart_of n u))
    alike.memory alike.count

pub apply-like :
    (reads : ℕ → ℕ → List ℕ) (m n : Machine) (r : Record)
    → IsAlike reads m n → IsWhole m → IsWhole n → is_none m.ending ≡ true → IsReading reads m.frame r → fits m r ≡ true
    → IsAlike reads (apply m r) (apply n r)
apply-like reads m n r alike whole_m whole_n none reading fit =
    let fit_n : fits n r ≡ true = fits-like reads m n r alike none reading fit in
    let parts = fits-parts m r fit in
    let parts_n = fits-parts n r fit_n in
    let e : Effect = effect_of m r in
    let mem : Memory = masked m.memory r.kept.delta in
    let at_m : (u : ℕ)
    → hart_of (apply m r) u ≡ after_at (effect_of m r) (masked m.memory r.kept.delta) r (length m.harts) u (hart_of m u) =
    λ u. apply-at m r u whole_m.tied parts.ready in
    let at_n : (u : ℕ)
    → hart_of (apply n r) u ≡ after_at (effect_of m r) (masked m.memory r.kept.delta) r (length m.harts) u (hart_of n u) =
    λ u. apply-at_like reads m n r u alike whole_n parts_n.ready in
    let same_act : acted n r.thread (ask_of r) ≡ acted m r.thread (ask_of r) =
    acted-like m n r.thread (ask_of r) alike.frame alike.objects in
    let count : length (apply n r).harts ≡ length (apply m r).harts =
    apply-length n r
    ∙ ap₂ (λ (k : ℕ) (x : Effect × Objects). k + Rattle.guest_call.specs.Objects.created_count x.0.created) alike.count
    same_act ∙ sym (apply-length m r) in
    let harts : (u : ℕ) → bare (hart_of (apply n r) u) ≡ bare (hart_of (apply m r) u) =
    λ u. ap bare (at_n u)
    ∙ bare-after (effect_of m r) (masked m.memory r.kept.delta) (masked m.memory r.kept.delta) r (length m.harts) u
    (hart_of n u) (hart_of m u) (alike.harts u) ∙ sym (ap bare (at_m u)) in
    record {
      frame = apply-frame n r ∙ alike.frame ∙ sym (apply-frame m r);
      limit = apply-limit n r ∙ alike.limit ∙ sym (apply-limit m r);
      memory = apply-memory n r ∙ ap (λ (x : Memory). masked x r.kept.delta) alike.memory ∙ sym (apply-memory m r);
      objects = apply-objects n r ∙ ap (λ (x : Effect × Objects). x.1) same_act ∙ sym (apply-objects m r);
      output =
          apply-output n r
          ∙ ap₂ (λ (o : List ℕ) (p : List ℕ). o ++ p) alike.output
          (ap (λ (f : Frame). put_of f.map (hart_of n r.thread).view r.kept) alike.frame
          ∙ put-like m.frame (hart_of m r.thread).view (hart_of n r.thread).view r.start r.kept reading.honest
          (view-of m r.thread whole_m parts.ready)
          (subst (λ (f : Frame). Rattle.memory_spec.specs.Pages.IsMemory f.map (hart_of n r.thread).view) alike.frame
          (view-of n r.thread whole_n parts_n.ready))
          parts.reads parts_n.reads)
          ∙ sym (apply-output m r);
      steps = apply-steps n r ∙ ap suc alike.steps ∙ sym (apply-steps m r);
      ending =
          apply-ending n r
          ∙ end_after-like (own_end_of n r) (apply m r).harts (apply n r).harts n.limit (suc n.steps) count harts
          ∙ ap (λ (x : Option End). end_after x (apply m r).harts n.limit (suc n.steps))
          (own_end-like m n r.thread (ask_of r) alike.frame alike.objects)
          ∙ ap₂ (λ (l s : ℕ). end_after (own_end_of m r) (apply m r).harts l (suc s)) alike.limit alike.steps
          ∙ sym (apply-ending m r);
      count = count;
      harts = harts;
      views = λ on u p ready read.
          let own : own_end_of m r ≡ None =
          (end_after-none (own_end_of m r) (apply m r).harts m.limit (suc m.steps)
          (sym (apply-ending m r) ∙ none-is (apply m r).ending on)).0 in
          let fate : fate_end (effect_of m r).fate ≡ None = fate-none m r.thread (ask_of r) own in
          let ready_m = ap (λ (h : Hart). is_ready h.status) (sym (at_m u)) ∙ ready in
          let ready_n =
          ap (λ (h : Hart). is_ready h.status) (sym (at_n u)) ∙ ap (λ (h : Hart). is_ready h.status) (harts u)
          ∙ ready in
          elim (is_or_not (touched (effect_of m r) r.thread (length m.harts) u)) [
            | inl is ↦
                let served_m =
                touched-served (effect_of m r) (masked m.memory r.kept.delta) r (length m.harts) u
                (hart_of m u) is fate ready_m in
                let served_n =
                touched-served (effect_of m r) (masked m.memory r.kept.delta) r (length m.harts) u
                (hart_of n u) is fate ready_n in
                ap (λ (h : Hart). page_of h.view p) (at_n u)
                ∙ ap (λ (v : Memory). page_of v p) (served_n.view ∙ sym served_m.view)
                ∙ ap (λ (h : Hart). page_of h.view p) (sym (at_m u))
            | inr not_touched ↦
                let stays_m : hart_of (apply m r) u ≡ hart_of m u =
                at_m u ∙ untouched-after (effect_of m r) (masked m.memory r.kept.delta) r (length m.harts) u
                (hart_of m u) not_touched in
                let stays_n : hart_of (apply n r) u ≡ hart_of n u =
                at_n u ∙ untouched-after (effect_of m r) (masked m.memory r.kept.delta) r (length m.harts) u
                (hart_of n u) not_touched in
                ap (λ (h : Hart). page_of h.view p) stays_n
                ∙ alike.views none u p (ap (λ (h : Hart). is_ready h.status) (sym stays_m) ∙ ready)
                (subst (λ (h : Hart). is_in p (reads u h.number) ≡ true) stays_m read)
                ∙ ap (λ (h : Hart). page_of h.view p) (sym stays_m)
          ];
    }

pub same-fact :
    (t : ℕ) (os qs : List Object) (gs hs : List ℕ) (ws : List ℕ) (ps qs2 : List ℕ) (l k : Bool)
    → os ≡ qs → gs ≡ hs → ps ≡ qs2 → l ≡ k
    → Path Fact (record { thread = t; objects = os; given = gs; written = ws; opened = ps; last = l })
    (record { thread = t; objects = qs; given = hs; written = ws; opened = qs2; last = k })
same-fact t os qs gs hs ws ps qs2 l k a b c d = rw (a, b, c, d) refl

served-like : (reads : ℕ → ℕ → List ℕ) (m n : Machine) (r : Record) → IsAlike reads m n → served_by n r ≡ served_by m r
served-like reads m n r alike =
    ap₂ (λ (x : Effect × Objects) (k : ℕ). served x.0 r.thread k)
    (acted-like m n r.thread (ask_of r) alike.frame alike.objects) alike.count

pub fact-like :
    (reads : ℕ → ℕ → List ℕ) (m n : Machine) (r : Record)
    → IsAlike reads m n → IsAlike reads (apply m r) (apply n r)
    → fact_of reads n r ≡ fact_of reads m r
fact-like reads m n r alike after =
    same-fact r.thread (objects_of n r) (objects_of m r) _ _ (written_slots r) _ _ _ _
    (objects-like m n (ask_of r) alike.frame alike.objects)
    (served-like reads m n r alike)
    (read_by-on reads (apply m r) (apply n r) (served_by n r) (λ u there. after.harts u)
    ∙ ap (read_by reads (apply m r)) (served-like reads m n r alike))
    (ap (λ (e : Option End). is_some e) after.ending)

-- what follows on one machine follows on the other
pub record IsFollowing (reads : ℕ → ℕ → List ℕ) (m : Machine) (rs : List Record) (n : Machine)
    (qs : List Record) : Type 0 where
  pub can : can_apply_from n qs ≡ true
  pub alike : IsAlike reads (applied_from m rs) (applied_from n qs)

pub reading-apply :
    (reads : ℕ → ℕ → List ℕ) (m : Machine) (r : Record) (rs : List Record)
    → AllByRecursion (IsReading reads m.frame) rs → AllByRecursion (IsReading reads (apply m r).frame) rs
reading-apply reads m r rs all = subst (λ (f : Frame). AllByRecursion (IsReading reads f) rs) (sym (apply-frame m r)) all

pub all-like :
    (reads : ℕ → ℕ → List ℕ) (rs : List Record) (m n : Machine)
    → IsAlike reads m n → IsWhole m → IsWhole n → AllByRecursion (IsReading reads m.frame) rs → can_apply_from m rs ≡ true
    → IsFollowing reads m rs n rs × (facts_from reads n rs ≡ facts_from reads m rs)
all-like reads [] m n alike whole_m whole_n reading can = (record { can = refl; alike = alike }, refl)
all-like reads (r ∷ rs) m n alike whole_m whole_n reading can =
    let here : (is_none m.ending && fits m r) ≡ true =
    and-left (is_none m.ending && fits m r) (can_apply_from (apply m r) rs) can in
    let later : can_apply_from (apply m r) rs ≡ true =
    and-right (is_none m.ending && fits m r) (can_apply_from (apply m r) rs) can in
    let none : is_none m.ending ≡ true = and-left (is_none m.ending) (fits m r) here in
    let fit : fits m r ≡ true = and-right (is_none m.ending) (fits m r) here in
    let none_n : is_none n.ending ≡ true = ap (λ (e : Option End). is_none e) alike.ending ∙ none in
    let fit_n : fits n r ≡ true = fits-like reads m n r alike none reading.0 fit in
    let here_n : (is_none n.ending && fits n r) ≡ true = rw (none_n, fit_n) refl in
    let next : IsAlike reads (apply m r) (apply n r) = apply-like reads m n r alike whole_m whole_n none reading.0 fit in
    let rest =
    all-like reads rs (apply m r) (apply n r) next (apply-whole m r whole_m (fits-can_step m r none fit))
    (apply-whole n r whole_n (fits-can_step n r none_n fit_n))
    (reading-apply reads m r rs reading.1) later in (
      record { can = rw (none_n, fit_n, rest.0.can) refl; alike = rest.0.alike },
      rw (here, here_n) (ap₂ (λ (f : Fact) (fs : List Fact). f ∷ fs) (fact-like reads m n r alike next) rest.1),
    )
