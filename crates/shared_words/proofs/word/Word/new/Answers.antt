-- The word begins at 0, with the view of a writer that has added nothing.
use Rattle.shared_words.proofs.Steps.{begins}
use Rattle.shared_words.proofs.word.Word.new.Goals as goal

pub of_words-requires : goal.of_words-requires
of_words-requires c = begins
