-- Answers to the goals that the check of `do_as_asked` leaves open.
use Rattle.std.proofs.Common.{◌≡◌, length, inl, inr, ap, arith}
use Rattle.std.proofs.lemmas.Result.{err_from_is_err_and}
use Rattle.thunk_spec.specs.Put.{is_readable}
use Rattle.guest_call.specs.Objects.{act, created_count}
use Rattle.machine_calls.specs.Views.{most_views}
use Rattle.machine_calls.proofs.Asking.{few}
use Rattle.machine_calls.proofs.Giving.{gives_few}
use Rattle.machine_calls.proofs.doing.do_as_asked.Goals as goal

pub settle-requires-clause-few : goal.settle-requires-clause-few
settle-requires-clause-few g c =
    let readable = is_readable c.args.written.now.map.now in
    let created : created_count c.effect_of-effect.result.created
    ≡ created_count (act readable c.args.objects.now c.args.t c.in-Asks.call).0.created =
    ap (λ r. created_count r.0.created) c.effect_of-effect.ensures in
    let room =
    few readable c.args.objects.now c.args.harts.now.items c.args.t c.in-Asks.call c.requires.tied c.requires.ready in
    omega (arith, created, room)

pub returns-in_err-settle-in-Asks-clause-full : goal.returns-in_err-settle-in-Asks-clause-full
returns-in_err-settle-in-Asks-clause-full g c =
    let woken : length c.effect_of-effect.result.woken
    ≡ length (act (is_readable c.args.written.now.map.now) c.args.objects.now c.args.t c.in-Asks.call).0.woken =
    ap (λ r. length r.0.woken) c.effect_of-effect.ensures in
    let most = ap most_views c.in-Asks.is in
    let failed = err_from_is_err_and c.from_residual.result c.from_residual.ensures.1 in
    rw failed.1 (elim c.in_err-settle-in-Asks.ensures.full [
      | inl full ↦ inl full
      | inr fewer ↦ inr (omega (
        arith,
        most,
        gives_few (is_readable c.args.written.now.map.now) c.args.objects.now c.args.t c.in-Asks.call _
            (omega (arith, woken, fewer.0)) fewer.1,
      ))
    ])
