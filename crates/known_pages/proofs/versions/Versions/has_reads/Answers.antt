-- Answers to the goals that the check of `Versions::has_reads` leaves open.
use Rattle.std.proofs.Common.{◌≡◌, ◌+◌, ◌&&◌, suc, Bool, true, cond, drop, ℕ, Some, ap, sym, ◌∙◌, arith}
use Rattle.std.specs.Prelude.{slice_get}
use Rattle.std.specs.Str.{bytes_eq}
use Rattle.std.proofs.lemmas.Grind.{common_steps}
use Rattle.std.proofs.lemmas.Option.{gets}
use Rattle.memory_spec.specs.Pages.{page_of}
use Rattle.thunk_spec.specs.Reads.{has}
use Rattle.known_pages.specs.Versions.{knows_read, unknown_in}
use Rattle.known_pages.proofs.KnownPages.{has-more, unknown-more}
use Rattle.known_pages.proofs.versions.Versions.has_reads.Goals as goal

pub loop-k-preserved-then-knows_read : goal.loop-k-preserved-then-knows_read
loop-k-preserved-then-knows_read c =
    let k = c.loop-k.k in
    let r = c.index-reads-k.result in
    let view = c.args.view.now in
    let reads = c.args.reads.now in
    let knows = knows_read c.args.self.now c.args.place c.args.t in
    let at : slice_get reads k ≡ Some r = grind (arith, common_steps, gets) in
    let known : knows k ≡ true = sym c.knows_read.ensures ∙ c.if-knows_read.true in
    let here : bytes_eq (page_of view r.slot) r.bytes ≡ true = c.requires.known k r at known in
    let next : k + 1 ≡ suc k = omega arith in
    let rest = unknown_in knows (suc k) view (drop (suc k) reads) in
    rw next record {
      has =
          sym (has-more view reads k r at ∙ ap (λ (b : Bool). b && has view (drop (suc k) reads)) here)
          ∙ c.loop-k.invariant.has;
      counted =
          ap (λ (n : ℕ). c.loop-k.compared + n)
          (sym
          (unknown-more knows k view reads k r at
          ∙ ap (λ (b : Bool). cond b rest (1 + cond (bytes_eq (page_of view r.slot) r.bytes) rest 0)) known))
          ∙ c.loop-k.invariant.counted;
    }
