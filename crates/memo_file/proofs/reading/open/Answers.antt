-- Answers to the goals that the check of `open` leaves open.
use Rattle.std.proofs.Common.{sym, ◌∙◌}
use Rattle.memo_file.proofs.Refusing.{too_short, other_magic, by_version, other_version, by_digest}
use Rattle.memo_file.proofs.reading.open.Goals as goal

pub returns-then-bytes-lt40-clause-refused : goal.returns-then-bytes-lt40-clause-refused
returns-then-bytes-lt40-clause-refused c = too_short c.args.bytes.now c.if-bytes-lt40.true

pub returns-then-ne-clause-refused : goal.returns-then-ne-clause-refused
returns-then-ne-clause-refused c =
    other_magic c.args.bytes.now c.if-bytes-lt40.false (sym (rw c.as_slice.ensures at c.ne.ensures) ∙ c.if-ne.true)

pub returns-in_default-clause-refused : goal.returns-in_default-clause-refused
returns-in_default-clause-refused c =
    other_version c.args.bytes.now c.read_u32-version.result c.format_of.result c.if-bytes-lt40.false
    (sym (rw c.as_slice.ensures at c.ne.ensures) ∙ c.if-ne.false) c.read_u32-version.ensures c.format_of.ensures
    c.in_default.is

pub returns-then-ne-2-clause-refused : goal.returns-then-ne-2-clause-refused
returns-then-ne-2-clause-refused c =
    let read = by_version c.args.bytes.now c.read_u32-version.result c.format_of.result c.if-bytes-lt40.false
    (sym (rw c.as_slice.ensures at c.ne.ensures) ∙ c.if-ne.false) c.read_u32-version.ensures c.format_of.ensures in
    by_digest c.args.bytes.now c.split_at.result.0.now c.split_at.result.1.now c.as_slice-2.result.now c.in-Some.format
    c.format_of.result _ read c.in-Some.is c.split_at.ensures.front c.split_at.ensures.back
    (c.as_slice-2.ensures ∙ c.digest.ensures) (sym c.ne-2.ensures ∙ c.if-ne-2.true)

pub returns-clause-taken : goal.returns-clause-taken
returns-clause-taken c =
    let read = by_version c.args.bytes.now c.read_u32-version.result c.format_of.result c.if-bytes-lt40.false
    (sym (rw c.as_slice.ensures at c.ne.ensures) ∙ c.if-ne.false) c.read_u32-version.ensures c.format_of.ensures in
    by_digest c.args.bytes.now c.split_at.result.0.now c.split_at.result.1.now c.as_slice-2.result.now c.in-Some.format
    c.format_of.result _ read c.in-Some.is c.split_at.ensures.front c.split_at.ensures.back
    (c.as_slice-2.ensures ∙ c.digest.ensures) (sym c.ne-2.ensures ∙ c.if-ne-2.false)
