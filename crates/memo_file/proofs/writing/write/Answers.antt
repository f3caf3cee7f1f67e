-- The size that was found is the memo's length.
use Rattle.std.proofs.Common.{◌≡◌, length, rules, sym, ap, ◌∙◌, arith}
use Rattle.memo_file.proofs.WritingSizes.{second_is, size_found}
use Rattle.memo_file.proofs.writing.write.Goals as goal

pub returns-then-size-clause-too_long : goal.returns-then-size-clause-too_long
returns-then-size-clause-too_long c =
    let n : c.len-2.result ≡ length c.in_ok-pool.pool.pages.items = search rules in (
      c.size_of_memo-size.ensures
          ∙ size_found c.args.history.now c.in_ok-pool.pool.pages.items c.in_ok-pool.pool.places.items c.len-2.result
          c.requires n c.in_ok-pool.ensures,
      c.if-size.true,
    )

pub returns-then-size-clause-fits : goal.returns-then-size-clause-fits
returns-then-size-clause-fits c = λ le.
    let n : c.len-2.result ≡ length c.in_ok-pool.pool.pages.items = search rules in
    let is = c.size_of_memo-size.ensures
    ∙ size_found c.args.history.now c.in_ok-pool.pool.pages.items c.in_ok-pool.pool.places.items c.len-2.result
    c.requires n c.in_ok-pool.ensures in
    absurd (omega (arith, is, le, c.if-size.true))

pub returns-clause-within : goal.returns-clause-within
returns-clause-within c =
    let n : c.len-2.result ≡ length c.in_ok-pool.pool.pages.items = search rules in
    let is = c.size_of_memo-size.ensures
    ∙ size_found c.args.history.now c.in_ok-pool.pool.pages.items c.in_ok-pool.pool.places.items c.len-2.result
    c.requires n c.in_ok-pool.ensures in
    omega (arith, is, ap length c.in_ok-bytes.ensures, c.if-size.false)

pub returns-then-size-clause-again : goal.returns-then-size-clause-again
returns-then-size-clause-again c = λ bytes s le.
    let n : c.len-2.result ≡ length c.in_ok-pool.pool.pages.items = search rules in
    let is = c.size_of_memo-size.ensures
    ∙ size_found c.args.history.now c.in_ok-pool.pool.pages.items c.in_ok-pool.pool.places.items c.len-2.result
    c.requires n c.in_ok-pool.ensures in
    absurd (omega (arith, is, ap length (second_is bytes c.args.history.now s), le, c.if-size.true))

pub returns-clause-again : goal.returns-clause-again
returns-clause-again c = λ bytes s le. (c.in_ok-bytes.ensures ∙ sym (second_is bytes c.args.history.now s), tt)
