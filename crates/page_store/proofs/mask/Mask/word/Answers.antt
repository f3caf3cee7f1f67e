-- The word that is kept is the number whose bits are its marks.
use Rattle.std.proofs.Common.{◌*◌, take, drop, ap, ◌∙◌, rules}
use Rattle.std.specs.Simd.Lanes.{mask_l}
use Rattle.page_store.proofs.Marks.{length-flags_of, word_is}
use Rattle.page_store.proofs.mask.Mask.word.Goals as goal

pub returns-clause-marks : goal.returns-clause-marks
returns-clause-marks c =
    word_is c.self.inside.words c.args.number c.self.invariant c.requires (search rules)
    ∙ ap (λ marks. mask_l (take 64 (drop (64 * c.args.number) marks))) c.self.view_is

pub returns-clause-whole : goal.returns-clause-whole
returns-clause-whole c = rw (← c.self.view_is) (length-flags_of c.self.inside.words)
