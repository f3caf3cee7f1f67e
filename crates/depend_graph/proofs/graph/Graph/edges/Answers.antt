-- The place of a step is added if it comes directly before.
use Rattle.std.proofs.Common.{◌≡◌, ◌+◌, ℕ, zero, suc, Bool, true, false, cond, [], ◌∷◌, ◌++◌, filter, append-nil, ap, sym, ◌∙◌, arith}
use Rattle.std.specs.List.{range_with_len}
use Rattle.std.proofs.lemmas.List.Elements.{filter-append}
use Rattle.history_spec.specs.Before.{before_at}
use Rattle.depend_graph.proofs.graph.Graph.edges.Goals as goal
use Rattle.depend_graph.proofs.graph.Graph.edges.Goals.{then-is_before+in_ok-push, else-is_before}

range-push : (a n : ℕ) → range_with_len a (suc n) ≡ range_with_len a n ++ (a + n) ∷ []
range-push a zero = ap (λ (x : ℕ). x ∷ []) (omega arith)
range-push a (suc n) =
    let rest = range-push (a + 1) n in
    let last : a + 1 + n ≡ a + suc n = omega arith in
    ap (λ xs. a ∷ xs) (rest ∙ ap (λ (x : ℕ). range_with_len (a + 1) n ++ x ∷ []) last)

filter-more :
    (test : ℕ → Bool) (n : ℕ) (b : Bool) → test n ≡ b
    → filter test (range_with_len 0 (n + 1)) ≡ filter test (range_with_len 0 n) ++ cond b (n ∷ []) []
filter-more test n b is =
    let next : n + 1 ≡ suc n = omega arith in
    let last : 0 + n ≡ n = omega arith in
    ap (λ (m : ℕ). filter test (range_with_len 0 m)) next
    ∙ ap (filter test) (range-push 0 n ∙ ap (λ (x : ℕ). range_with_len 0 n ++ x ∷ []) last)
    ∙ filter-append test (range_with_len 0 n) (n ∷ [])
    ∙ ap (λ (x : Bool). filter test (range_with_len 0 n) ++ cond x (n ∷ []) []) is

pub loop-j-preserved : goal.loop-j-preserved
loop-j-preserved c =
    let list = c.deref.ensures.value ∙ c.self.view_is in
    let reported : before_at c.args.self.now c.loop-j.j c.args.i ≡ c.is_before.result =
    ap (λ fs. before_at fs c.loop-j.j c.args.i) (sym list) ∙ sym c.is_before.ensures in
    elim c.if-is_before.branch [
      | then-is_before+in_ok-push w ↦
          let more =
          filter-more (λ j. before_at c.args.self.now j c.args.i) c.loop-j.j true (reported ∙ w.if-is_before.true) in
          rw w.places-is
          (w.in_ok-push.ensures.items ∙ ap (λ xs. xs ++ c.loop-j.j ∷ []) c.loop-j.invariant ∙ sym more)
      | else-is_before w ↦
          let more =
          filter-more (λ j. before_at c.args.self.now j c.args.i) c.loop-j.j false (reported ∙ w.if-is_before.false) in
          rw w.places-is
          (c.loop-j.invariant
          ∙ sym (append-nil (filter (λ j. before_at c.args.self.now j c.args.i) (range_with_len 0 c.loop-j.j)))
          ∙ sym more)
    ]
