-- The page is one of those after the first.
use Rattle.std.proofs.Common.{◌<◌, length, sym, subst, arith}
use Rattle.thunk_spec.specs.Reads.{ReadPage}
use Rattle.memo_reports.proofs.Entries.{address_next, addresses_whole, later_in_range}
use Rattle.memo_reports.proofs.listing.pages.append_reads.Goals as goal

pub append_address-requires-in-loop-page : goal.append_address-requires-in-loop-page
append_address-requires-in-loop-page c =
    let inside =
    later_in_range (λ (page : ReadPage). page.slot) _ _ _ _ c.loop-page.page-index c.page-item.result c.requires
    c.in-Some.ensures.cases.0 (omega arith) c.page-item.is in
    subst (λ slot. slot < length c.args.addresses.now) (sym c.slot-in-loop-page.ensures) inside

pub loop-page-preserved : goal.loop-page-preserved
loop-page-preserved c =
    address_next c.args.addresses.now (λ (page : ReadPage). page.slot) c.in-Some.others.now c.loop-page.page-index
    c.page-item.result c.slot-in-loop-page.result c.append_address.new.into.items c.loop-page.into.items
    c.push-in-loop-page.new.self.items c.append_address-in-loop-page.new.into.items (omega arith) c.page-item.is
    c.slot-in-loop-page.ensures c.loop-page.invariant c.in_ok-push-in-Some.ensures.items
    c.in_ok-append_address-in-Some-2.ensures

pub returns-after-loop-page : goal.returns-after-loop-page
returns-after-loop-page c =
    addresses_whole c.args.addresses.now (λ (page : ReadPage). page.slot) c.args.reads.now c.in-Some.first.now
    c.in-Some.others.now c.loop-page.page-index c.slot.result c.args.into.now.items c.append_address.new.into.items
    c.loop-page.into.items c.in-Some.ensures.cases.0 c.slot.ensures c.in_ok-append_address-in-Some.ensures
    c.loop-page-test.false c.loop-page.invariant
