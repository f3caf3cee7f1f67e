-- Answers to the goals that the check of `Round::reads_no_marked_page` leaves open.
use Rattle.std.proofs.Common.{◌≡◌, Bool, List, length, ap, sym, subst, ◌∙◌}
use Rattle.std.proofs.lemmas.Bool.{eqb-true}
use Rattle.round_spec.specs.Rounds.{RoundState}
use Rattle.round_spec.specs.Due.{place_in}
use Rattle.known_pages.specs.Alike.{IsAsMarked, IsAsBefore, AreClean, IsClean, all_unmarked}
use Rattle.propagate.proofs.Keeping.{record_count}
use Rattle.known_pages.proofs.Alike.{next-fits-of, clean-unmarked}
use Rattle.propagate.proofs.round.Round.reads_no_marked_page.Goals as goal

pub returns-then-is_next-clause-next : goal.returns-then-is_next-clause-next
returns-then-is_next-clause-next c =
    let w = c.args.self.now in
    let as_before : IsAsBefore w c.self.inside.marks =
    subst (λ (x : RoundState). IsAsBefore x c.self.inside.marks) c.self.view_is c.self.invariant.as_before in
    let count = record_count _ c.self.invariant.counted in
    λ same.
    next-fits-of w c.in-Some.marks c.args.t c.args.rec.now
    (subst (IsAsMarked w) c.in-Some.is as_before.marked)
    (subst (λ (x : RoundState). length x.records ≡ length x.schedule) c.self.view_is count)
    (eqb-true (place_in w.past w.machine c.args.t) (length w.schedule) (sym c.is_next.ensures ∙ c.if-is_next.true))
    c.requires.record
    (ap (all_unmarked c.in-Some.marks.items) (sym (c.pages.ensures.pages ∙ c.reads.ensures))
    ∙ ap (λ (l : List Bool). all_unmarked l c.pages.result.now) (sym c.deref.ensures.value)
    ∙ sym c.all_unmarked.ensures ∙ same)

pub returns-then-is_next-clause-repeated : goal.returns-then-is_next-clause-repeated
returns-then-is_next-clause-repeated c =
    let w = c.args.self.now in
    let as_before : IsAsBefore w c.self.inside.marks =
    subst (λ (x : RoundState). IsAsBefore x c.self.inside.marks) c.self.view_is c.self.invariant.as_before in
    λ repeated.
    let clean : IsClean c.in-Some.marks.items =
    subst AreClean c.in-Some.is (as_before.clean repeated.history repeated.coherent repeated.reused) in
    c.all_unmarked.ensures
    ∙ ap (λ (l : List Bool). all_unmarked l c.pages.result.now) c.deref.ensures.value
    ∙ clean-unmarked c.in-Some.marks.items c.pages.result.now clean
