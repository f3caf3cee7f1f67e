-- Answers to the goals that the check of `touched_pages` leaves open.
use Rattle.std.proofs.Common.{◌≡◌, ◌<◌, ◌+◌, ◌++◌, length, take, drop, sym, ap, ◌∙◌, arith, subst}
use Rattle.std.proofs.Math.Seq.{take-append_seam}
use Rattle.elf_spec.specs.Header.{segments}
use Rattle.elf_spec.specs.Segments.{highest_page}
use Rattle.elf_load.specs.Touched.{MarksTouched}
use Rattle.elf_load.proofs.pages.touched_pages.Goals as goal

pub returns : goal.returns
returns c =
    let marks = c.mark_all.new.marks in
    let same : length marks ≡ length c.in_ok-marks.marks.items =
    c.mark_all.ensures.same ∙ ap length c.deref_mut.ensures.value in
    let full : c.in_ok-marks.marks.len ≡ length marks = omega (arith, same) in
    let whole =
    ap (λ n. take n (marks ++ drop (length marks) c.in_ok-marks.marks.items)) full
    ∙ take-append_seam marks (drop (length marks) c.in_ok-marks.marks.items) in
    let count : length marks ≡ highest_page (segments c.args.bytes.now) + 1 =
    omega (arith, same, c.in_ok-marks.ensures.len, c.highest_page.ensures.page) in
    subst (MarksTouched c.args.bytes.now) (sym whole)
    (record {
      count = count;
      each = λ k below. c.mark_all.ensures.each k
          (subst (λ n. k < n) c.mark_all.ensures.same below);
    })
