-- Answers to the goals that the check of `bytes_of` leaves open.
use Rattle.std.proofs.Common.{◌≡◌, ◌==◌, length, false, sym, ◌∙◌, arith}
use Rattle.std.proofs.lemmas.Bool.Decides.{nat_tests}
use Rattle.edit_list.proofs.Digits.{decoded_is_encoded, refused_by_decoder, some_bytes}
use Rattle.edit_list.proofs.line.bytes_of.Goals as goal

pub returns-in-Err : goal.returns-in-Err
returns-in-Err c = record {
  encoded = tt;
  some = tt;
  refused =
      refused_by_decoder c.args.digits.now c.in-Err.error c.fault_of.result c.fault_of.ensures c.in-Err.ensures.err;
}

pub returns-in-Ok-clause-encoded : goal.returns-in-Ok-clause-encoded
returns-in-Ok-clause-encoded c = decoded_is_encoded c.args.digits.now c.in-Ok.bytes.items c.in-Ok.ensures.ok

pub returns-in-Ok-clause-some : goal.returns-in-Ok-clause-some
returns-in-Ok-clause-some c =
    let not_none : (length c.args.digits.now == 0) ≡ false = sym c.is_empty.ensures ∙ c.if-is_empty.false in
    some_bytes c.args.digits.now c.in-Ok.bytes.items (grind (arith, nat_tests, not_none))
    (decoded_is_encoded c.args.digits.now c.in-Ok.bytes.items c.in-Ok.ensures.ok)
