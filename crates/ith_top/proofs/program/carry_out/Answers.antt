-- Answers to the goals that the check of `carry_out` leaves open.
use Rattle.std.proofs.Common.{◌∙◌, sym, subst, inl}
use Rattle.std.proofs.lemmas.Result.{err_from_is_err_and}
use Rattle.memo_spec.specs.Encoding.{IsEncodable}
use Rattle.ith_commands.specs.Playing.{plan_said}
use Rattle.ith_top.proofs.Promises.{last_encoded}
use Rattle.ith_top.proofs.program.carry_out.Goals as goal

pub write_memo-requires : goal.write_memo-requires
write_memo-requires g c =
    let played = c.in_ok-exits.ensures.played in
    subst IsEncodable (sym (c.deref.ensures ∙ played.is_last))
    (last_encoded c.args.crew.now.workers (plan_said c.args.plan) played.found c.requires.playable c.requires.encoded
    played.made played.all)

pub returns-in_err-exits-clause-refused : goal.returns-in_err-exits-clause-refused
returns-in_err-exits-clause-refused g c =
    let p = err_from_is_err_and c.from_residual.result c.from_residual.ensures.1 in
    rw (p.1, p.2) (inl c.in_err-exits.ensures.refused)
