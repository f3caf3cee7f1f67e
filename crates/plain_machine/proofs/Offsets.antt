-- Where an access lies in its page.
use Rattle.std.proofs.Common.{◌≡◌, ◌≤◌, ◌+◌, ◌%◌, ℕ, arith}
use Rattle.memory_spec.specs.Access.{byte_count}
use Rattle.memory_spec.specs.declared.TheConstants.{PAGE_SIZE}
use Rattle.memory_spec.specs.declared.Size.{Size}
use Rattle.memory_spec.specs.declared.Size.TheVariants.{One, Two, Four}

-- an access that begins at a multiple of its size has all its bytes in one page
pub inside : (address : ℕ) (size : Size) → address % byte_count size ≡ 0 → address % PAGE_SIZE + byte_count size ≤ PAGE_SIZE
inside address One aligned = omega arith
inside address Two aligned = omega arith
inside address Four aligned = omega arith
