-- Answers to the goals that the check of `Round::fits_by_versions` leaves open.
use Rattle.std.proofs.Common.{◌≡◌, ◌&&◌, ℕ, Bool, List, ap, ap₂, sym, subst, ◌∙◌}
use Rattle.isa_spec.specs.Registers.{same_registers}
use Rattle.memory_spec.specs.Pages.{Memory}
use Rattle.thunk_spec.specs.Reads.{ReadPage, has}
use Rattle.machine_spec.specs.Machine.{hart_of}
use Rattle.round_spec.specs.Rounds.{RoundState}
use Rattle.round_spec.specs.Due.{place_in}
use Rattle.known_pages.specs.declared.versions.Versions.{Versions}
use Rattle.known_pages.specs.Versions.{AreRight, HasKnown, unboxed}
use Rattle.known_pages.proofs.KnownPages.{known-next-of}
use Rattle.propagate.proofs.round.Round.fits_by_versions.Goals as goal

pub has_reads-requires : goal.has_reads-requires
has_reads-requires c =
    let w = c.args.self.now in
    let v = c.in-Some.versions.value in
    let next =
    known-next-of w v c.args.t c.args.rec.now
    (subst (λ o. AreRight w (unboxed o)) c.in-Some.is
    (subst (λ (x : RoundState). AreRight x (unboxed c.self.inside.versions)) c.self.view_is c.self.invariant.right))
    c.requires.begins c.requires.record in
    let pages : c.pages.result.now ≡ c.args.rec.now.kept.reads = c.pages.ensures.pages ∙ c.reads.ensures in
    let view : c.view.result.now ≡ (hart_of w.machine c.args.t).view =
    c.view.ensures ∙ ap (λ (x : RoundState). (hart_of x.machine c.args.t).view) c.self.view_is in
    record {
      known =
          subst (λ (x : Versions). HasKnown x c.place.result c.args.t c.view.result.now c.pages.result.now)
          (sym c.deref.ensures)
          (subst (λ (k : ℕ). HasKnown v k c.args.t c.view.result.now c.pages.result.now) (sym c.place.ensures)
          (subst (λ (m : Memory). HasKnown v (place_in w.past w.machine c.args.t) c.args.t m c.pages.result.now) (sym view)
          (subst
          (λ (l : List ReadPage).
          HasKnown v (place_in w.past w.machine c.args.t) c.args.t (hart_of w.machine c.args.t).view l)
          (sym pages) next.known)));
    }

pub returns-then-eq-clause-fits : goal.returns-then-eq-clause-fits
returns-then-eq-clause-fits c =
    let w = c.args.self.now in
    let v = c.in-Some.versions.value in
    let next =
    known-next-of w v c.args.t c.args.rec.now
    (subst (λ o. AreRight w (unboxed o)) c.in-Some.is
    (subst (λ (x : RoundState). AreRight x (unboxed c.self.inside.versions)) c.self.view_is c.self.invariant.right))
    c.requires.begins c.requires.record in
    let pages : c.pages.result.now ≡ c.args.rec.now.kept.reads = c.pages.ensures.pages ∙ c.reads.ensures in
    let view : c.view.result.now ≡ (hart_of w.machine c.args.t).view =
    c.view.ensures ∙ ap (λ (x : RoundState). (hart_of x.machine c.args.t).view) c.self.view_is in
    let regs : c.eq.result ≡ same_registers c.args.rec.now.start (hart_of w.machine c.args.t).regs =
    c.eq.ensures
    ∙ ap₂ same_registers c.start.ensures
    (c.regs.ensures ∙ ap (λ (x : RoundState). (hart_of x.machine c.args.t).regs) c.self.view_is) in
    c.has_reads.ensures.has
    ∙ ap₂ has view pages
    ∙ sym
    (next.fit
    ∙ ap (λ (b : Bool). b && has (hart_of w.machine c.args.t).view c.args.rec.now.kept.reads)
    (sym regs ∙ c.if-eq.true))

pub returns-else-eq-clause-fits : goal.returns-else-eq-clause-fits
returns-else-eq-clause-fits c =
    let w = c.args.self.now in
    let v = c.in-Some.versions.value in
    let next =
    known-next-of w v c.args.t c.args.rec.now
    (subst (λ o. AreRight w (unboxed o)) c.in-Some.is
    (subst (λ (x : RoundState). AreRight x (unboxed c.self.inside.versions)) c.self.view_is c.self.invariant.right))
    c.requires.begins c.requires.record in
    let regs : c.eq.result ≡ same_registers c.args.rec.now.start (hart_of w.machine c.args.t).regs =
    c.eq.ensures
    ∙ ap₂ same_registers c.start.ensures
    (c.regs.ensures ∙ ap (λ (x : RoundState). (hart_of x.machine c.args.t).regs) c.self.view_is) in
    c.if-eq.false
    ∙ sym
    (next.fit
    ∙ ap (λ (b : Bool). b && has (hart_of w.machine c.args.t).view c.args.rec.now.kept.reads)
    (sym regs ∙ c.if-eq.false))
