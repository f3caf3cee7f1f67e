-- One more number was written.
use Rattle.std.proofs.Common.{◌≡◌, ◌<◌, ◌≤◌, ◌+◌, ◌++◌, ℕ, List, [], ◌∷◌, length, take, drop, set, get_or, append_assoc, sym, ap, ◌∙◌, arith}
use Rattle.std.specs.List.{flat_map}
use Rattle.std.proofs.lemmas.List.{take_more, take_all, drop-set, length-set}
use Rattle.std.proofs.lemmas.List.Concat.{flat_map-append}
use Rattle.memo_spec.specs.Encoding.{word}
use Rattle.memo_file.proofs.writing.record.write_registers.Goals as goal

-- the first numbers with one more
word-next :
    (xs before out new : List ℕ) (k : ℕ) → k < length xs → out ≡ before ++ flat_map word (take k xs)
    → new ≡ out ++ word (get_or xs k 0) → new ≡ before ++ flat_map word (take (k + 1) xs)
word-next xs before out new k below is written =
    written
    ∙ ap (λ (l : List ℕ). l ++ word (get_or xs k 0)) is
    ∙ append_assoc before (flat_map word (take k xs)) (word (get_or xs k 0))
    ∙ ap (λ (l : List ℕ). before ++ l)
    (sym (ap (flat_map word) (take_more xs k 0 below) ∙ flat_map-append word (take k xs) (get_or xs k 0 ∷ [])))

-- all of them
all-words :
    (xs before out x : List ℕ) (k pc : ℕ) → length xs ≤ k → xs ≡ set x 0 pc → 0 < length xs
    → out ≡ before ++ flat_map word (take k xs) → out ≡ before ++ flat_map word (pc ∷ drop 1 x)
all-words xs before out x k pc end words some is =
    let same = ap (λ (l : List ℕ). length l) words in
    let long = length-set x 0 pc in
    is ∙ ap (λ (l : List ℕ). before ++ flat_map word l) (take_all k xs end ∙ words ∙ drop-set x 0 pc (omega arith))

pub loop-number-preserved : goal.loop-number-preserved
loop-number-preserved c =
    word-next c.to_words-words.result c.args.out.now.items c.loop-number.out.items c.put_word.new.out.items
    c.loop-number.number-index (omega arith) c.loop-number.invariant c.in_ok-put_word.ensures

pub returns : goal.returns
returns c =
    all-words c.to_words-words.result c.args.out.now.items c.loop-number.out.items c.args.regs.now.x
    c.loop-number.number-index c.args.regs.now.pc (omega arith) c.to_words-words.ensures.value (omega arith)
    c.loop-number.invariant
