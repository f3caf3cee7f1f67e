-- Answers to the goals that the check of `find_races` leaves open.
use Rattle.std.proofs.Common.{◌≡◌, ◌∙◌, inl, inr}
use Rattle.std.proofs.lemmas.Result.{err_from_is_err_and}
use Rattle.memo_reports.specs.RacesText.{races_listing}
use Rattle.ith_commands.specs.declared.racing.TheConstants.{MOST_RACES}
use Rattle.ith_words.specs.Words.{Line, FindsRaces}
use Rattle.ith_words.specs.Said.{races_said}
use Rattle.ith_commands.specs.Files.{files_named}
use Rattle.ith_commands.specs.Ends.{HasHistory, Prints, RacesEnd}
use Rattle.ith_commands.specs.Refusals.{WhyUnprinted}
use Rattle.ith_commands.proofs.Ending.{cut_ends}
use Rattle.ith_commands.proofs.OneText.{has_history, reported, unstated}
use Rattle.ith_commands.proofs.racing.find_races.Goals as goal

pub returns-in_err-history : goal.returns-in_err-history
returns-in_err-history g c =
    let p = err_from_is_err_and c.from_residual.result c.from_residual.ensures.1 in
    rw (p.1, p.2) (inl c.in_err-history.ensures.refused)

pub returns-in_err-text : goal.returns-in_err-text
returns-in_err-text g c =
    let w = g.H.Host.world in
    let p = err_from_is_err_and c.from_residual-in_err-text.result c.from_residual-in_err-text.ensures.1 in
    rw (p.1, p.2)
    (inl (cut_ends (files_named (FindsRaces (races_said c.args.line.now))) (w c.args.host.now) (w c.remember.new.host)
    c.in_ok-history.ensures.reads))

pub returns-in_err-print_text : goal.returns-in_err-print_text
returns-in_err-print_text g c =
    let w = g.H.Host.world in let a = w c.args.host.now in let b = w c.remember.new.host in
    let line : Line = FindsRaces (races_said c.args.line.now) in let name = c.args.line.now.memo.now in
    let h = c.in_ok-history.history in
    let text : c.as_slice.result.now ≡ races_listing MOST_RACES h = c.as_slice.ensures.value ∙ c.in_ok-text.ensures in
    let why : WhyUnprinted (races_listing MOST_RACES h) b (w c.print_text.new.host) c.in_err-print_text.field-0.0 =
    rw (← text) c.in_err-print_text.ensures.refused in
    let p = err_from_is_err_and c.from_residual-in_err-print_text.result c.from_residual-in_err-print_text.ensures.1 in
    rw (p.1, p.2)
    (unstated line (HasHistory name a) (λ has. races_listing MOST_RACES has.history) (has_history name a h c.in_ok-history.ensures.history)
    (λ s. RacesEnd (races_said c.args.line.now) a (w c.print_text.new.host) s) a b (w c.print_text.new.host) c.in_err-print_text.field-0.0
    c.in_ok-history.ensures.reads c.print_text.ensures.asked (λ part. part) why)

pub returns : goal.returns
returns g c =
    let w = g.H.Host.world in let a = w c.args.host.now in let b = w c.remember.new.host in
    let line : Line = FindsRaces (races_said c.args.line.now) in let name = c.args.line.now.memo.now in
    let h = c.in_ok-history.history in
    let text : c.as_slice.result.now ≡ races_listing MOST_RACES h = c.as_slice.ensures.value ∙ c.in_ok-text.ensures in
    let prints : Prints b (w c.print_text.new.host) (races_listing MOST_RACES h) = rw (← text) c.in_ok-print_text.ensures.printed in
    inr
    (reported line (HasHistory name a) (λ has. races_listing MOST_RACES has.history) (has_history name a h c.in_ok-history.ensures.history)
    a b (w c.print_text.new.host) c.in_ok-history.ensures.reads c.print_text.ensures.asked prints)
