-- The negative answers of the calls. The names are those of POSIX.1-2017, <errno.h>; the numbers are Linux's.
use Rattle.std.specs.Prelude.{ℕ, ◌-◌, ◌^◌}

-- the answer for an error: its number negated, as a word of 32 bits
abbrev pub negated : ℕ → ℕ
negated number = 2 ^ 32 - number

-- operation not permitted (POSIX.1-2017, <errno.h>, EPERM)
abbrev pub answer_eperm : ℕ
answer_eperm = negated 1

-- no such thread (POSIX.1-2017, <errno.h>, ESRCH)
abbrev pub answer_esrch : ℕ
answer_esrch = negated 3

-- no room for one more, try again (POSIX.1-2017, <errno.h>, EAGAIN)
abbrev pub answer_eagain : ℕ
answer_eagain = negated 11

-- bad address (POSIX.1-2017, <errno.h>, EFAULT)
abbrev pub answer_efault : ℕ
answer_efault = negated 14

-- the object is in use (POSIX.1-2017, <errno.h>, EBUSY)
abbrev pub answer_ebusy : ℕ
answer_ebusy = negated 16

-- invalid argument (POSIX.1-2017, <errno.h>, EINVAL)
abbrev pub answer_einval : ℕ
answer_einval = negated 22

-- a number would pass its largest value (POSIX.1-2017, <errno.h>, EOVERFLOW)
abbrev pub answer_eoverflow : ℕ
answer_eoverflow = negated 75

-- the caller would wait for itself (POSIX.1-2017, <errno.h>, EDEADLK)
abbrev pub answer_edeadlk : ℕ
answer_edeadlk = negated 35
