-- Answers to the goals that the check of `after_execution` leaves open.
use Rattle.std.proofs.Common.{Some, ℕ, sym, subst}
use Rattle.known_pages.specs.declared.versions.Versions.{Versions}
use Rattle.known_pages.specs.Versions.{AreExecuted, AreGiven, MayBeMadeAnew, unboxed}
use Rattle.known_pages.proofs.versions.after_execution.Goals as goal

pub returns-in-Some : goal.returns-in-Some
returns-in-Some c =
    let new = c.give_views.new.self in
    subst (λ o. MayBeMadeAnew (unboxed o) c.args.core.now c.args.rec.now c.args.now (Some new)) (sym c.in-Some.is)
    (record {
      made = c.execute.new.self;
      executed =
          subst (λ (v : Versions). AreExecuted v c.args.rec.now c.args.now c.execute.new.self) c.deref_mut.ensures.value
          c.execute.ensures;
      given =
          subst (λ (t : ℕ). AreGiven c.args.core.now t c.args.now c.execute.new.self new) c.thread.ensures
          (subst (λ (v : Versions). AreGiven c.args.core.now c.thread.result c.args.now v new) c.deref_mut-in-Some.ensures.value
          c.give_views.ensures);
    })
