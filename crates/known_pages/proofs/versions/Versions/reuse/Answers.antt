-- Answers to the goals that the check of `Versions::reuse` leaves open.
use Rattle.std.proofs.Common.{◌≡◌, ◌+◌, suc, List, Option, ℕ, length, ap, sym, refl, ◌∙◌, arith}
use Rattle.std.proofs.lemmas.Option.{slice_get_read}
use Rattle.std.proofs.lemmas.List.{with_items_is}
use Rattle.known_pages.specs.Versions.{learned, rewritten}
use Rattle.known_pages.proofs.KnownPages.{length-again}
use Rattle.known_pages.proofs.versions.Versions.reuse.Goals as goal

pub returns : goal.returns
returns c =
    let v = c.args.self.now in
    let next : c.args.place + 1 ≡ suc c.args.place = omega arith in
    let made : c.make_again.new.pages
    ≡ rewritten (learned v.times.written.items v.times.viewed v.pages.items c.args.rec.now.thread c.index.result.now.read.items)
    (suc c.args.place) c.index.result.now.written.items =
    rw (c.make_again.ensures, c.as_mut_slice.ensures.value, c.thread.ensures, next) refl in
    record {
      step = c.index.result.now;
      there = slice_get_read v.steps.items (length v.steps.items) c.args.place c.index.result.now refl c.requires.there c.index.ensures;
      steps = refl;
      written = c.write.ensures.written;
      viewed = c.write.ensures.viewed;
      pages =
          with_items_is v.pages c.make_again.new.pages
          (ap (λ (l : List (Option ℕ)). length l) made
          ∙ length-again v.times.written.items v.times.viewed v.pages.items c.args.rec.now.thread (suc c.args.place)
          c.index.result.now
          ∙ sym v.pages.ok.0)
          ∙ made;
    }
