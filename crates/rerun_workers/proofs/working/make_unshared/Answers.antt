-- Answers to the goals that the check of `make_unshared` leaves open.
use Rattle.std.proofs.Common.{◌≡◌, Some, sym, subst, arith}
use Rattle.std.specs.Arc.{arc_value}
use Rattle.machine_spec.specs.Setup.{first}
use Rattle.rerun_workers.specs.declared.begun.Begun.{Begun}
use Rattle.rerun_workers.specs.Tickets.{IsNamed}
use Rattle.rerun_workers.proofs.working.make_unshared.Goals as goal

-- what is true of the one step is true of it by another name
of_some : (P : Begun → Type 0) (a b : Begun) → Some a ≡ Some b → P a → P b
of_some P a b is says = let same : a ≡ b = cc (is) in subst P same says

pub invariant_of-pass : goal.invariant_of-pass
invariant_of-pass g c =
    let pass = c.next_task.new.pass in
    let told = c.in-Begin.ensures in
    let ticketed = subst (IsNamed g.J.Naming.tickets) (sym c.take-ticket.ensures.value) pass.ticketed in
    record {
      one = pass.one;
      counted = pass.counted;
      own = λ b is. of_some (λ x. arc_value x.job.frame ≡ (first g.J.Naming.setup).frame) _ b is told.own;
      named = λ b is. of_some (λ x. IsNamed g.J.Naming.tickets x.ticket) _ b is ticketed;
      ticketed = subst (IsNamed g.J.Naming.tickets) (sym c.take-ticket.ensures.after) tt;
      edited = λ b is. told.unedited;
      once = let ready = told.ready in omega (arith, ready);
      idle = pass.idle;
      spares = pass.spares;
    }
