-- The result of an operation on two words.
use Rattle.std.specs.Prelude.{ℕ, ◌%◌, ◌^◌}
use Rattle.isa_spec.specs.Words.{word_of_test}
use Rattle.isa_spec.specs.Operations.{branch_taken, immediate_result, shift_result, register_result}
use Rattle.rv_calculate.specs.declared.operation.Operation.{Operation}
use Rattle.rv_calculate.specs.declared.operation.Operation.TheVariants.{Branch, Immediate, Shift, Register}

-- The result. Only the low byte of a shift's amount counts (RISC-V unprivileged ISA 20191213, 2.4, 2.5, 7.1 and 7.2).
abbrev pub result_of : Operation → ℕ → ℕ → ℕ
result_of (Branch test) a b = word_of_test (branch_taken test a b)
result_of (Immediate operation) a b = immediate_result operation a b
result_of (Shift shift) a b = shift_result shift a (b % 2 ^ 8)
result_of (Register operation) a b = register_result operation a b
