-- One more word that was read has its operation, and the others keep theirs.
use Rattle.std.proofs.Common.{◌<◌, ◌+◌, ◌*◌, ℕ, List, length, get_or, set, refl, sym, subst, ◌∙◌, inl, inr, arith}
use Rattle.std.proofs.lemmas.Bool.{cases_eq}
use Rattle.std.proofs.lemmas.List.{length-set, get_or-set_same, get_or-set_other}
use Rattle.memory_spec.specs.Access.{number_in}
use Rattle.memory_spec.specs.declared.Size.TheVariants.{Four}
use Rattle.rv_code.specs.declared.operation.Operation.{Operation}
use Rattle.rv_code.specs.Meaning.{StandsFor, other}
use Rattle.rv_code.proofs.page.operations_of.Goals as goal

words_more :
    (start i : ℕ) (bytes : List ℕ) (operations : List Operation) (o : Operation)
    → i < length operations
    → ((k : ℕ) → k < i → StandsFor (start + 4 * k) (number_in bytes (4 * k) Four) (get_or operations k other))
    → StandsFor (start + 4 * i) (number_in bytes (4 * i) Four) o
    → (k : ℕ) → k < i + 1
    → StandsFor (start + 4 * k) (number_in bytes (4 * k) Four) (get_or (set operations i o) k other)
words_more start i bytes operations o inside before here k below = elim (cases_eq i k) [
  | inl same ↦
      subst (λ n. StandsFor (start + 4 * n) (number_in bytes (4 * n) Four) (get_or (set operations i o) n other)) same
      (rw (get_or-set_same operations i o other inside) here)
  | inr apart ↦
      rw (get_or-set_other operations i k o other (λ same. apart (sym same))) (before k (omega arith))
]

pub loop-index-preserved : goal.loop-index-preserved
loop-index-preserved c =
    let operations = c.loop-index.operations in
    let i = c.loop-index.index in
    let o = c.operation_of.result in
    record {
      start = refl;
      count = length-set operations i o ∙ c.loop-index.invariant.count;
      last = get_or-set_other operations i 1024 o other (λ same. omega arith) ∙ c.loop-index.invariant.last;
      words = words_more (c.args.number * 4096) i c.args.bytes.now operations o (omega arith) c.loop-index.invariant.words
          (rw c.word_at.ensures at c.operation_of.ensures);
    }
