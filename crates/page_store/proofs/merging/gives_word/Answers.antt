-- Answers to the goals that the check of `gives_word` leaves open.
use Rattle.std.proofs.Common.{refl, nat_eq, bit_and, w64}
use Rattle.std.specs.Int.{bit_not}
use Rattle.page_store.proofs.Giving.{given_all, given_marked}
use Rattle.page_store.proofs.merging.gives_word.Goals as goal

pub returns-then-word-eq18446744073709551615 : goal.returns-then-word-eq18446744073709551615
returns-then-word-eq18446744073709551615 c = (
  λ yes. given_all c.args.page.now c.args.written.now c.args.first c.args.word c.if-word-eq18446744073709551615.true,
  λ gives. refl,
)

pub returns : goal.returns
returns c =
    given_marked c.args.page.now c.args.written.now c.args.first c.args.word c.differing.result
    (nat_eq (bit_and c.differing.result (bit_not w64 c.args.word)) 0) c.differing.ensures c.ranges.word.fits
    c.differing.type_inv refl
