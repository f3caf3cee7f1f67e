-- Answers to the goals that the check of `after_reuse` leaves open.
use Rattle.std.proofs.Common.{Some, ℕ, sym, subst}
use Rattle.known_pages.specs.declared.versions.Versions.{Versions}
use Rattle.known_pages.specs.Versions.{AreReused, AreGiven, MayBeMadeAgain, unboxed}
use Rattle.known_pages.proofs.versions.after_reuse.Goals as goal

pub returns-in-Some : goal.returns-in-Some
returns-in-Some c =
    let new = c.give_views.new.self in
    subst
    (λ o. MayBeMadeAgain (unboxed o) c.args.core.now c.args.place c.args.rec.now c.args.now (Some new))
    (sym c.in-Some.is)
    (record {
      made = c.reuse.new.self;
      reused =
          subst (λ (v : Versions). AreReused v c.args.place c.args.rec.now c.args.now c.reuse.new.self) c.deref_mut.ensures.value
          c.reuse.ensures;
      given =
          subst (λ (t : ℕ). AreGiven c.args.core.now t c.args.now c.reuse.new.self new) c.thread.ensures
          (subst (λ (v : Versions). AreGiven c.args.core.now c.thread.result c.args.now v new) c.deref_mut-in-Some.ensures.value
          c.give_views.ensures);
    })
