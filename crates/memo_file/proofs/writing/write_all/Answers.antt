-- The digest is after the rest.
use Rattle.std.proofs.Common.{◌≡◌, ◌++◌, ℕ, List, ap, ◌∙◌}
use Rattle.sha2.specs.Sha256.{sha256}
use Rattle.memo_spec.specs.Encoding.{body, memo_in, memo}
use Rattle.memo_spec.specs.declared.Format.TheVariants.{Version2}
use Rattle.memo_file.proofs.writing.write_all.Goals as goal

pub returns : goal.returns
unfolding memo memo_in
returns c =
    let b : c.write_body.new.out.items ≡ body Version2 c.args.history.now = c.in_ok-write_body.ensures in
    let d : c.digest-digest.result ≡ sha256 c.as_slice.result.now = c.digest-digest.ensures in
    c.in_ok-extend_from_slice.ensures.items
    ∙ ap (λ (l : List ℕ). l ++ c.digest-digest.result) b
    ∙ ap (λ (l : List ℕ). body Version2 c.args.history.now ++ l) (d ∙ ap sha256 (c.as_slice.ensures.value ∙ b))
