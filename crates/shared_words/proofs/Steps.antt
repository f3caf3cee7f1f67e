-- Each step keeps the rule of the word, and returns what its contract says.
use Rattle.std.proofs.Common.{◌≡◌, ◌≢◌, ℕ, zero, suc, ◌+◌, ◌%◌, ◌^◌, ◌<◌, ◌≤◌, Bool, true, false, true≢false, List, [], ◌∷◌, ◌++◌, length, set, refl, sym, ap, ◌∙◌, subst, ⊎_elim, arith}
use Rattle.std.specs.Prelude.{slice_index}
use mathlib.Core.Option.{some, some-injective, some-ne-none}
use lib.ListN.{get_elem?}
use Rattle.atomic_table.specs.Table.{State, Me, Step, Allows, Splits, Joins, opening, keeps}
use Rattle.atomic_table.proofs.Lists.{at_set, at_snoc, at_longer, set_again, set_else}
use Rattle.machine_spec.specs.declared.TheConstants.{MOST_STEPS}
use Rattle.shared_words.specs.declared.view.View.{View}
use Rattle.shared_words.specs.Counting.{starter, spent, informed, joined, raised, loaded, Fits, IsCounted, Adds, Loads}

-- No truth value is both.
off : {b : Bool} → b ≡ true → b ≡ false → ⊥
off is isnt = true≢false (sym is ∙ isnt)

-- The element at a place after it is written.
set_at : {A : Type 0} (xs : List A) (i : ℕ) (a b : A) → get_elem? xs i ≡ some a → get_elem? (set xs i b) i ≡ some b
set_at [] i a b e = absurd (some-ne-none a (sym e))
set_at (x ∷ xs) zero a b e = refl
set_at (x ∷ xs) (suc i) a b e = set_at xs i a b e

word_set : (ws : List ℕ) (n : ℕ) → length ws ≡ 1 → (length (set ws 0 n) ≡ 1) × (slice_index (set ws 0 n) 0 ≡ n)
word_set [] n one = absurd (omega (arith, one))
word_set (w ∷ ws) n one = (one, refl)

-- The table after a step: the word has become n, and the views are these.
abbrev after : State (Unit {0}) View → ℕ → List View → State (Unit {0}) View
after s n views = record { words = set s.words 0 n; homes = s.homes; views = views }

-- The rule after a step of the writer's seat, if it has now added n, and n is the word.
writer_steps :
    (s : State (Unit {0}) View) (id n : ℕ) (v w : View) → IsCounted s → get_elem? s.views id ≡ some v
    → v.writer ≡ true → w.writer ≡ true → w.added ≡ n → w.seen ≤ n → slice_index s.words 0 ≤ n → n ≤ MOST_STEPS
    → IsCounted (after s n (set s.views id w))
writer_steps s id n v w rule at was is all below rose few =
    let word = word_set s.words n rule.one_word in
    record {
      one_word = word.0;
      few = subst (λ k. k ≤ MOST_STEPS) (sym word.1) few;
      writer = id;
      writers = (w, set_at s.views id v w at, is);
      fits = λ j u e. subst (λ k. Fits id k j u) (sym word.1) (⊎_elim
          (λ (x : (j ≡ id) × (w ≡ u)). subst (λ (y : View). Fits id n j y) x.1 record {
            own = λ _. (x.0, all);
            others = λ p. absurd (off is p);
            below = below;
          })
          (λ (x : (j ≢ id) × (get_elem? s.views j ≡ some u)).
          let fit = rule.fits j u x.1 in
          record {
            own = λ p. absurd (x.0 ((fit.own p).0 ∙ sym ((rule.fits id v at).own was).0));
            others = fit.others;
            below = omega (arith, fit.below, rose);
          })
          (at_set s.views id j w u e));
    }

-- The rule after a step of another seat, with the word as it was.
reader_steps :
    (s : State (Unit {0}) View) (id : ℕ) (v w : View) → IsCounted s → get_elem? s.views id ≡ some v
    → v.writer ≡ false → w.writer ≡ false → w.added ≡ 0 → w.seen ≤ slice_index s.words 0
    → IsCounted record { words = s.words; homes = s.homes; views = set s.views id w }
reader_steps s id v w rule at was is none below =
    let apart : rule.writer ≢ id = λ same.
    let one : rule.writers.0 ≡ v = some-injective _ _ (sym rule.writers.1 ∙ ap (get_elem? s.views) same ∙ at) in
    off rule.writers.2 (ap (λ (u : View). u.writer) one ∙ was)
    in
    record {
      one_word = rule.one_word;
      few = rule.few;
      writer = rule.writer;
      writers = (rule.writers.0, set_else s.views id rule.writer w apart ∙ rule.writers.1, rule.writers.2);
      fits = λ j u e. ⊎_elim
          (λ (x : (j ≡ id) × (w ≡ u)). subst (λ (y : View). Fits rule.writer (slice_index s.words 0) j y) x.1 record {
            own = λ p. absurd (off p is);
            others = λ _. none;
            below = below;
          })
          (λ (x : (j ≢ id) × (get_elem? s.views j ≡ some u)). rule.fits j u x.1)
          (at_set s.views id j w u e);
    }

pub begins : IsCounted (opening (0 ∷ []) [] starter)
begins = record {
  one_word = refl;
  few = omega arith;
  writer = 0;
  writers = (starter, refl, refl);
  fits = one;
}
  where
    one : (seat : ℕ) (v : View) → get_elem? (starter ∷ []) seat ≡ some v → Fits 0 0 seat v
    one zero v e = subst (Fits 0 0 0) (some-injective _ _ e) record { own = λ _. (refl, refl); others = λ _. refl; below = omega arith }
    one (suc seat) v e = absurd (some-ne-none v (sym e))

same_word : (ws : List ℕ) → length ws ≡ 1 → set ws 0 (slice_index ws 0) ≡ ws
same_word [] one = refl
same_word (w ∷ ws) one = refl

small : (n : ℕ) → n < MOST_STEPS → (n + 1) % 2 ^ 64 ≡ n + 1
small n room = omega arith

pub adds :
    (slots id : ℕ) (me : Me (Unit {0}) View) (st : Step (Unit {0})) → me.0.writer ≡ true → me.0.added < MOST_STEPS
    → Allows IsCounted slots id me 0 (λ n. (n + 1) % 2 ^ 64) (Adds st me)
adds slots id me st is room s rule homes at fits =
    let n = slice_index s.words 0 in
    let all = ((rule.fits id me.0 at).own is).1 in
    let room' : n < MOST_STEPS = subst (λ k. k < MOST_STEPS) all room in
    let w = raised (n + 1) me.0 in (
      w,
      keeps,
      tt,
      subst (λ k. IsCounted (after s k (set s.views id w))) (sym (small n room'))
          (writer_steps s id (n + 1) me.0 w rule at is is (ap (λ k. k + 1) all) (omega arith) (omega arith) (omega (arith, room'))),
      record { knows = refl; own = all },
    )

pub loads :
    (slots id : ℕ) (me : Me (Unit {0}) View) (st : Step (Unit {0}))
    → Allows IsCounted slots id me 0 (λ n. n) (Loads st me)
loads slots id me st s rule homes at fits =
    (w, keeps, tt, kept me.0.writer refl, record { knows = refl; rises = fit.below; few = rule.few; own = λ is. (fit.own is).1 })
  where
    n : ℕ
    n = slice_index s.words 0

    w : View
    w = loaded n me.0

    fit : Fits rule.writer n id me.0
    fit = rule.fits id me.0 at

    kept : (b : Bool) → me.0.writer ≡ b → IsCounted (after s n (set s.views id w))
    kept true is = writer_steps s id n me.0 w rule at is is (fit.own is).1 (omega arith) (omega arith) rule.few
    kept false is =
        subst (λ ws. IsCounted record { words = ws; homes = s.homes; views = set s.views id w })
        (sym (same_word s.words rule.one_word))
        (reader_steps s id me.0 w rule at is is (fit.others is) (omega arith))

pub splits : (id : ℕ) (v : View) → Splits IsCounted id v v (informed v)
splits id v s rule at =
    let same = set_again s.views id v at in
    subst (λ (vs : List View). IsCounted record { words = s.words; homes = s.homes; views = vs ++ informed v ∷ [] }) (sym same) record {
      one_word = rule.one_word;
      few = rule.few;
      writer = rule.writer;
      writers = (rule.writers.0, at_longer s.views (informed v ∷ []) rule.writer rule.writers.0 rule.writers.1, rule.writers.2);
      fits = λ j u e. ⊎_elim
          (λ was. rule.fits j u was)
          (λ (is : informed v ≡ u). subst (λ (y : View). Fits rule.writer (slice_index s.words 0) j y) is record {
            own = λ e. absurd (true≢false (sym e));
            others = λ _. refl;
            below = (rule.fits id v at).below;
          })
          (at_snoc s.views (informed v) u j e);
    }

pub joins :
    (id : ℕ) (v : View) (other : ℕ) (w : View) → v.writer ≡ true → w.writer ≡ false
    → Joins IsCounted id v other w (joined v w) spent
joins id v other w is isnt s rule at apart there =
    let n = slice_index s.words 0 in
    let u = joined v w in
    let views = set s.views id u in
    let fit = rule.fits id v at in
    let theirs : get_elem? s.views other ≡ some w = sym (set_else s.views id other u apart) ∙ there in
    let below = (rule.fits other w theirs).below in
    let first = subst (λ ws. IsCounted record { words = ws; homes = s.homes; views = views })
    (same_word s.words rule.one_word)
    (writer_steps s id n v u rule at is is (fit.own is).1 (omega (arith, fit.below, below)) (omega arith) rule.few)
    in
    reader_steps record { words = s.words; homes = s.homes; views = views } other w spent first there isnt refl refl
    (omega arith)
