-- Answers to the goals that the check of `read_lists` leaves open.
use Rattle.std.proofs.Common.{refl}
use Rattle.std.proofs.lemmas.Result.{err_from_is_err_and}
use Rattle.ith_commands.proofs.Worlds.{stays_same, none_fell_same}
use Rattle.ith_commands.proofs.Reading.{all_reads, one_dropped, none_read, one_read, all_read, one_unread}
use Rattle.ith_commands.proofs.files.read_lists.Goals as goal

pub loop-name-init : goal.loop-name-init
loop-name-init g c =
    let world = g.H.Host.world in
    none_read (world c.args.host.now) c.args.names.now c.new-lists.result.items c.new-lists.ensures.items
    (stays_same (world c.args.host.now)) (none_fell_same (world c.args.host.now))

pub returns-in_err-list-clause-refused : goal.returns-in_err-list-clause-refused
returns-in_err-list-clause-refused g c =
    let world = g.H.Host.world in
    let p = err_from_is_err_and c.from_residual.result c.from_residual.ensures.1 in
    rw (p.1, p.2)
    (one_unread (world c.args.host.now) (world c.loop-name.host)
    (world c.read_file.new.host) c.args.names.now c.loop-name.name-index _ _ c.loop-name.lists.items
    c.in_err-list.field-0.0 c.loop-name.invariant c.loop-name-test.true refl c.in_err-list.ensures.refused)

pub returns-in_err-push-clause-refused : goal.returns-in_err-push-clause-refused
returns-in_err-push-clause-refused g c =
    let world = g.H.Host.world in
    let p = err_from_is_err_and c.from_residual-in_err-push.result c.from_residual-in_err-push.ensures.1 in
    rw (p.1, p.2)
    (one_dropped (world c.args.host.now) (world c.loop-name.host) (world c.read_file.new.host)
    c.args.names.now c.loop-name.name-index _ _
    c.loop-name.lists.items c.loop-name.invariant c.loop-name-test.true refl c.in_ok-list.ensures.reads)

pub returns-clause-reads : goal.returns-clause-reads
returns-clause-reads g c =
    let world = g.H.Host.world in
    all_reads (world c.args.host.now)
    (world c.loop-name.host) c.args.names.now c.loop-name.name-index c.loop-name.lists.items c.loop-name.invariant
    c.loop-name-test.false

pub loop-name-preserved : goal.loop-name-preserved
loop-name-preserved g c =
    let world = g.H.Host.world in
    rw c.in_ok-push.ensures.items
    (one_read (world c.args.host.now) (world c.loop-name.host)
    (world c.read_file.new.host) c.args.names.now c.loop-name.name-index _ _ c.loop-name.lists.items c.in_ok-list.list
    c.loop-name.invariant c.loop-name-test.true refl c.in_ok-list.ensures.content c.in_ok-list.ensures.within
    c.in_ok-list.ensures.reads)

pub returns-clause-contents : goal.returns-clause-contents
returns-clause-contents g c =
    let world = g.H.Host.world in
    all_read (world c.args.host.now)
    (world c.loop-name.host) c.args.names.now c.loop-name.name-index c.loop-name.lists.items c.loop-name.invariant
    c.loop-name-test.false
