-- Answers to the goals that the check of `append` leaves open.
use Rattle.std.proofs.Common.{◌≡◌, sym, ◌∙◌, ap, length, ◌++◌, ◌∷◌, []}
use Rattle.shared_words.proofs.Appending.{appends, appended}
use Rattle.shared_words.proofs.Issuing.{at_end}
use Rattle.shared_words.proofs.log.Log.append.Goals as goal

pub compare_exchange-found-requires : goal.compare_exchange-found-requires
compare_exchange-found-requires c =
    let head = c.self.invariant.0 in
    let seen = c.again-seen.ensures in
    let offer = c.plain-offer.ensures in
    let pen = c.no_pen-pen.ensures in
    let book = ap (λ s. s.book) seen ∙ sym (ap (λ w. w.book) head) in
    let len : length c.again-seen.result.log ≡ c.self.inside.count =
    ap (λ s. length s.log) seen ∙ sym c.self.invariant.1 in (
      ap (λ w. w.tracked) head,
      book,
      pen.0 ∙ book,
      offer.0,
      rw (ap (λ w. w.key) head, pen.1, offer.1, offer.3)
          (appends c.again-seen.result.log c.args.job.now c.self.inside.count len),
    )

pub returns-clause-appended : goal.returns-clause-appended
returns-clause-appended c =
    let log = c.compare_exchange-found.new.seen.log in
    let jobs = c.args.self.now.jobs in
    let before : c.again-seen.result.log ≡ jobs = ap (λ s. s.log) c.again-seen.ensures ∙ ap (λ v. v.jobs) c.self.view_is in
    let count : c.self.inside.count ≡ length jobs = c.self.invariant.1 ∙ ap (λ v. length v.jobs) c.self.view_is in
    let grown : log ≡ jobs ++ c.args.job.now ∷ [] =
    appended c.compare_exchange-found.result c.self.inside.count c.plain-offer.result.ask c.again-seen.result.log log
    c.compare_exchange-found.ensures.7 c.if-found-number.false
    ∙ ap (λ l. l ++ c.plain-offer.result.ask ∷ []) before
    ∙ ap (λ j. jobs ++ j ∷ []) c.plain-offer.ensures.1 in (
      count,
      ap (λ s. s.log) c.again.ensures ∙ grown,
      rw (grown, count) (at_end jobs c.args.job.now),
    )
