-- Answers to the goals that the check of `marks_between` leaves open.
use Rattle.std.proofs.Common.{◌≡◌, ℕ, List, length, ap, sym, ◌∙◌, arith}
use Rattle.std.proofs.lemmas.Slice.Eq.{bytes_eq-Decides}
use Rattle.memory_spec.specs.Pages.{Memory}
use Rattle.elf_spec.specs.Image.{image_memory}
use Rattle.machine_spec.specs.Setup.{start_memory, input_page}
use Rattle.known_pages.proofs.Alike.{no-marks, first-memory}
use Rattle.known_pages.proofs.Starts.{start-size, marks-parts}
use Rattle.known_pages.proofs.marks.marks_between.Goals as goal

pub returns-then-eq-clause-marks : goal.returns-then-eq-clause-marks
returns-then-eq-clause-marks c =
    let old = c.args.old.now in
    let new = c.args.new.now in
    let memory : c.args.memory.now ≡ start_memory new = c.requires.memory ∙ first-memory new in
    let long : length c.in_ok-marks.marks.items ≡ length (start_memory new) =
    sym c.in_ok-marks.marks.ok.0 ∙ c.in_ok-marks.ensures.len
    ∙ c.len.ensures.count ∙ ap (λ (m : Memory). length m) memory in
    no-marks old new c.in_ok-marks.marks.items c.requires.same
    (sym c.input.ensures.input
    ∙ (bytes_eq-Decides c.input.result.now c.input-2.result.now).0 (sym c.eq.ensures ∙ c.if-eq.true)
    ∙ c.input-2.ensures.input)
    long

pub with_input-requires : goal.with_input-requires
with_input-requires c =
    let new = c.args.new.now in
    let memory : c.args.memory.now ≡ start_memory new = c.requires.memory ∙ first-memory new in
    let long : length c.in_ok-marks.marks.items ≡ length (start_memory new) =
    sym c.in_ok-marks.marks.ok.0 ∙ c.in_ok-marks.ensures.len
    ∙ c.len.ensures.count ∙ ap (λ (m : Memory). length m) memory in
    let header : c.len-header.result ≡ length (image_memory new.elf) =
    c.len-header.ensures.count ∙ ap (λ (m : Memory). length m) c.image.ensures.pages in
    omega (arith, long, header, start-size new)

pub returns-clause-marks : goal.returns-clause-marks
returns-clause-marks c =
    let old = c.args.old.now in
    let new = c.args.new.now in
    let memory : c.args.memory.now ≡ start_memory new = c.requires.memory ∙ first-memory new in
    let long : length c.in_ok-marks.marks.items ≡ length (start_memory new) =
    sym c.in_ok-marks.marks.ok.0 ∙ c.in_ok-marks.ensures.len
    ∙ c.len.ensures.count ∙ ap (λ (m : Memory). length m) memory in
    let header : c.len-header.result ≡ length (image_memory new.elf) =
    c.len-header.ensures.count ∙ ap (λ (m : Memory). length m) c.image.ensures.pages in
    marks-parts old new c.with_input.result.items c.len-header.result c.requires.same
    (c.with_input.ensures.count ∙ long) header
    (λ clean.
    ap (λ (input : List ℕ). length input) (sym c.input-3.ensures.input)
    ∙ c.with_input.ensures.header clean
    ∙ ap (λ (input : List ℕ). length input) c.input-4.ensures.input)
    (λ k below clean.
    ap (λ (input : List ℕ). input_page input k) (sym c.input-4.ensures.input)
    ∙ c.with_input.ensures.same k below clean
    ∙ ap (λ (input : List ℕ). input_page input k) c.input-3.ensures.input)
