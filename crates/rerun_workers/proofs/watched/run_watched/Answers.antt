-- Answers to the goals that the check of `run_watched` leaves open.
use Rattle.std.proofs.Common.{◌≡◌, ◌≤◌, ℕ, List, [], ◌∷◌, ◌++◌, Some, None, length, ap, sym, ◌∙◌, subst, arith}
use Rattle.std.specs.Prelude.{All}
use Rattle.std.specs.List.{last_or}
use Rattle.std.proofs.lemmas.List.{nil_from_length}
use Rattle.std.proofs.lemmas.List.Elements.{All-weaker, All-head, All-same}
use Rattle.rerun_workers.proofs.watched.run_watched.Goals as goal

pub with_watches-requires : goal.with_watches-requires
with_watches-requires g c =
    record {
      name = c.requires.name;
      parts = c.requires.parts;
      workers = (c.requires.workers.0, sym c.requires.watches);
      table = c.requires.table;
      opening = c.requires.opening;
    }

pub close_watched-worked-requires : goal.close_watched-worked-requires
close_watched-worked-requires g c =
    let made = c.in_ok-board.ensures.count in
    let passes = c.work_watched-seat.ensures.count in
    let left = c.remove-seat.ensures.len in
    let seats = c.push_reserved.ensures.len in
    record {
      all = omega (arith, made.0, passes, c.requires.parts.1);
      workers = (omega (arith, made.0, passes, c.requires.workers.0), omega (arith, made.0, passes, c.requires.workers.1));
      watches = (omega (arith, made.1, left, seats, c.requires.watches), omega (arith, seats));
    }

pub note-requires : goal.note-requires
note-requires g c =
    record {
      room =
          omega (
            arith,
            c.work_watched-seat.ensures.few,
            c.work_watched-seat.ensures.room,
            c.in_ok-numbers.ensures.capacity,
          );
      ascends = c.work_watched-seat.ensures.ascends;
    }

pub returns-clause-few : goal.returns-clause-few
returns-clause-few g c = omega (arith, c.note.ensures.few, c.work_watched-seat.ensures.few)

pub returns-clause-last : goal.returns-clause-last
returns-clause-last g c =
    let steps : ℕ = length c.close_watched-worked.result.0.round.schedule in
    let seat = c.work_watched-seat.result.0 in
    let numbers : List ℕ = c.work_watched-seat.result.1.items in
    let left = c.remove-seat.ensures.len in
    let one = c.in_ok-board.ensures.count.1 in
    let none : c.remove-seat.new.self.items ≡ [] =
    nil_from_length c.remove-seat.new.self.items (omega (arith, left, one)) in
    let watches : c.push_reserved.new.self.items ≡ seat ∷ [] =
    c.push_reserved.ensures.items ∙ ap (λ xs. xs ++ seat ∷ []) none in
    let seen : seat.reader.seen ≤ steps =
    All-head (λ watch. watch.reader.seen ≤ steps) seat []
    (All-same (λ watch. watch.reader.seen ≤ steps) (seat ∷ []) c.push_reserved.new.self.items (sym watches)
    c.close_watched-worked.ensures.seen) in
    let read : All (λ n. n ≤ seat.reader.seen) numbers = c.work_watched-seat.ensures.seen in
    let last = c.close_watched-worked.result.1 in
    let number : last ≡ steps = c.close_watched-worked.ensures.number in
    let below : All (λ n. n ≤ last) numbers =
    All-weaker (λ n. n ≤ seat.reader.seen) (λ n. n ≤ last)
    (λ n under. omega (arith, under, seen, number)) numbers read in
    subst (λ (n : ℕ). last_or None c.note.new.numbers.items ≡ Some n) number (c.note.ensures.last below)
