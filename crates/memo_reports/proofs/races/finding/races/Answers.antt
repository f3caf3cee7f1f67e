-- One more page, and one more step.
use Rattle.std.proofs.Common.{◌≡◌, ◌<◌, ◌≤◌, ◌+◌, ◌⊎◌, ℕ, false, ◌++◌, List, [], length, take, get_or, append-nil, ap, sym, ◌∙◌, subst, inl, inr, arith}
use Rattle.std.specs.List.{filter, flat_map, range_with_len, count_by}
use Rattle.std.proofs.lemmas.List.{length-set, get_or_default}
use Rattle.memory_spec.specs.Pages.{Mapped}
use Rattle.machine_spec.specs.Setup.{Setup, map_of}
use Rattle.history_spec.specs.History.{History}
use Rattle.history_spec.specs.Facts.{facts}
use Rattle.round_spec.specs.Reach.{reads_of}
use Rattle.round_spec.specs.declared.Race.{Race}
use Rattle.round_spec.specs.Races.{is_race, races_between}
use Rattle.memo_reports.specs.declared.races.touches.Touch.{Touch}
use Rattle.memo_reports.specs.declared.races.past.Access.{Access}
use Rattle.memo_reports.specs.Past.{accesses_of, races_with, is_misplaced}
use Rattle.memo_reports.specs.Rows.{races_in}
use Rattle.round_spec.proofs.Placed.{facts-length}
use Rattle.memo_reports.proofs.Tally.{bit, tally-few}
use Rattle.memo_reports.proofs.Bounds.{few-pages, races-summed, whole-races}
use Rattle.memo_reports.proofs.Between.{so_far}
use Rattle.memo_reports.proofs.Earlier.{racing-counted, row-reported, none-misplaced, past-few, past-next, past-none}
use Rattle.memo_reports.proofs.Adding as adding
use Rattle.memo_reports.proofs.races.finding.races.Goals as goal

-- the stand-in for a page past the end
abbrev none : Touch
none = record { slot = 0; writes = false }

few-steps : (h : History) (n k : ℕ) → n ≡ k → k ≡ length (facts h) → length h.records ≤ 65536 → n ≤ 65536
few-steps h n k end many few = omega (arith, facts-length h)

pub loop-place-init : goal.loop-place-init
loop-place-init c =
    let fs = facts c.args.history.now in
    let reads = reads_of c.args.history.now in
    record {
      long = c.in_ok-past.ensures.count;
      past = λ p s page below.
          past-none fs reads p s (get_or c.in_ok-past.past.items p page)
          (let long = c.in_ok-past.ensures.count in c.in_ok-past.ensures.none p page (omega arith));
      total = Rattle.std.proofs.Common.refl;
      few = (let none = ap (λ (rs : List (List Race)). length rs) c.new-first.ensures.rows in omega arith);
      rows = λ i less. absurd (let none = ap (λ (rs : List (List Race)). length rs) c.new-first.ensures.rows in omega arith);
      counted =
          c.new-first.ensures.many
          ∙ sym (ap (λ (rs : List (List Race)). length (flat_map (λ (row : List Race). row) rs)) c.new-first.ensures.rows);
      enough = inl (ap (λ (rs : List (List Race)). length rs) c.new-first.ensures.rows);
      most = c.new-first.ensures.most;
    }

pub loop-touch-init : goal.loop-touch-init
loop-touch-init c =
    let fs = facts c.args.history.now in
    let reads = reads_of c.args.history.now in
    let j = c.loop-place.place in
    let inv = c.loop-place.invariant in
    record {
      long = inv.long;
      past = λ p page below. inv.past p c.index-step.result.now page below;
      total =
          (let zero = adding.none-now fs reads c.len-place-end.result j c.deref-touch-items.result.now in
          let before = inv.total in
          omega arith);
      few = inv.few;
      rows = λ i less. inv.rows i less
          ∙ sym (append-nil (flat_map (races_between fs reads c.len-pages.result i) (range_with_len 0 j)));
      counted = inv.counted;
      enough = inv.enough;
      most = inv.most;
    }

pub index_mut-page-requires : goal.index_mut-page-requires
index_mut-page-requires c =
    let fs = facts c.args.history.now in
    let reads = reads_of c.args.history.now in
    let pages = c.len-pages.result in
    let j = c.loop-place.place in
    let s = c.index-step.result.now in
    let t = get_or c.deref-touch-items.result.now c.loop-touch.touch-index none in
    let is =
    adding.step-is fs reads pages j c.len-place-end.result c.in_ok-steps.steps.items s c.in_ok-steps.ensures.steps
    c.loop-place-test.true (c.len-place-end.ensures ∙ c.in_ok-steps.steps.ok.0) c.index-step.ensures in
    let touched = adding.touch-is fs reads pages j s is c.deref-touch-items.result.now c.loop-touch.touch-index none
    c.deref-touch-items.ensures.value c.loop-touch-test.true in
    subst (λ (k : ℕ). t.slot < k) (sym (c.loop-touch.past.ok.0 ∙ c.loop-touch.invariant.long)) touched.below

pub add-requires-clause-past : goal.add-requires-clause-past
add-requires-clause-past c =
    let fs = facts c.args.history.now in
    let reads = reads_of c.args.history.now in
    let pages = c.len-pages.result in
    let j = c.loop-place.place in
    let n = c.len-place-end.result in
    let s = c.index-step.result.now in
    let is =
    adding.step-is fs reads pages j c.len-place-end.result c.in_ok-steps.steps.items s c.in_ok-steps.ensures.steps
    c.loop-place-test.true (c.len-place-end.ensures ∙ c.in_ok-steps.steps.ok.0) c.index-step.ensures in
    let m = c.loop-touch.touch-index in
    let t = get_or c.deref-touch-items.result.now m none in
    let touched =
    adding.touch-is fs reads pages j s is c.deref-touch-items.result.now m none c.deref-touch-items.ensures.value
    c.loop-touch-test.true in
    let page = c.index_mut-page.result.now in
    let has =
    adding.page-has fs reads t.slot j m s c.loop-touch.past.items page (c.loop-touch.invariant.past t.slot page touched.below)
    c.index_mut-page.ensures.value in
    has.past

pub add-requires-in-loop-touch-clause-past : goal.add-requires-in-loop-touch-clause-past
add-requires-in-loop-touch-clause-past c =
    let fs = facts c.args.history.now in
    let reads = reads_of c.args.history.now in
    let pages = c.len-pages.result in
    let j = c.loop-place.place in
    let n = c.len-place-end.result in
    let s = c.index-step.result.now in
    let is =
    adding.step-is fs reads pages j c.len-place-end.result c.in_ok-steps.steps.items s c.in_ok-steps.ensures.steps
    c.loop-place-test.true (c.len-place-end.ensures ∙ c.in_ok-steps.steps.ok.0) c.index-step.ensures in
    let m = c.loop-touch.touch-index in
    let t = get_or c.deref-touch-items.result.now m none in
    let touched =
    adding.touch-is fs reads pages j s is c.deref-touch-items.result.now m none c.deref-touch-items.ensures.value
    c.loop-touch-test.true in
    let page = c.index_mut-page.result.now in
    let has =
    adding.page-has fs reads t.slot j m s c.loop-touch.past.items page (c.loop-touch.invariant.past t.slot page touched.below)
    c.index_mut-page.ensures.value in
    has.past

pub overflow_add-total : goal.overflow_add-total
overflow_add-total c =
    let fs = facts c.args.history.now in
    let reads = reads_of c.args.history.now in
    let pages = c.len-pages.result in
    let j = c.loop-place.place in
    let n = c.len-place-end.result in
    let s = c.index-step.result.now in
    let is =
    adding.step-is fs reads pages j c.len-place-end.result c.in_ok-steps.steps.items s c.in_ok-steps.ensures.steps
    c.loop-place-test.true (c.len-place-end.ensures ∙ c.in_ok-steps.steps.ok.0) c.index-step.ensures in
    let known =
    adding.threads-known fs reads pages j c.len-place-end.result c.in_ok-steps.steps.items s c.in_ok-steps.ensures.steps
    c.loop-place-test.true (c.len-place-end.ensures ∙ c.in_ok-steps.steps.ok.0) in
    let m = c.loop-touch.touch-index in
    let t = get_or c.deref-touch-items.result.now m none in
    let touched =
    adding.touch-is fs reads pages j s is c.deref-touch-items.result.now m none c.deref-touch-items.ensures.value
    c.loop-touch-test.true in
    let page = c.index_mut-page.result.now in
    let has =
    adding.page-has fs reads t.slot j m s c.loop-touch.past.items page (c.loop-touch.invariant.past t.slot page touched.below)
    c.index_mut-page.ensures.value in
    let steps_few =
    few-steps c.args.history.now n _ (c.len-place-end.ensures ∙ c.in_ok-steps.steps.ok.0) c.in_ok-steps.ensures.steps.many
    c.in_ok-steps.ensures.of_run.few in
    let pages_few =
    subst (λ (k : ℕ). k ≤ 1048576) (sym c.len-pages.ensures.count)
    (few-pages c.setup-setup.result.now c.in_ok-map.map c.in_ok-map.ensures.sound c.in_ok-map.ensures.map c.len-pages.ensures.ascending) in
    let low : j < n = c.loop-place-test.true in
    let count = c.in_ok-total.ensures.count ∙ racing-counted fs reads pages j s is known t m page touched has in
    let at_most = tally-few (λ i. is_race fs reads i j t.slot) j in
    let fits =
    adding.total-fits fs reads pages n j s is low m c.loop-touch.total c.in_ok-total.field-0 steps_few pages_few (omega arith)
    (c.loop-touch.invariant.total
    ∙ ap (λ (ts : List Touch). adding.races_before fs reads pages n j + adding.races_now fs reads n j ts m)
    c.deref-touch-items.ensures.value) in
    omega arith

pub add-requires-clause-room : goal.add-requires-clause-room
add-requires-clause-room c =
    let fs = facts c.args.history.now in
    let reads = reads_of c.args.history.now in
    let pages = c.len-pages.result in
    let j = c.loop-place.place in
    let n = c.len-place-end.result in
    let s = c.index-step.result.now in
    let is =
    adding.step-is fs reads pages j c.len-place-end.result c.in_ok-steps.steps.items s c.in_ok-steps.ensures.steps
    c.loop-place-test.true (c.len-place-end.ensures ∙ c.in_ok-steps.steps.ok.0) c.index-step.ensures in
    let known =
    adding.threads-known fs reads pages j c.len-place-end.result c.in_ok-steps.steps.items s c.in_ok-steps.ensures.steps
    c.loop-place-test.true (c.len-place-end.ensures ∙ c.in_ok-steps.steps.ok.0) in
    let m = c.loop-touch.touch-index in
    let t = get_or c.deref-touch-items.result.now m none in
    let touched =
    adding.touch-is fs reads pages j s is c.deref-touch-items.result.now m none c.deref-touch-items.ensures.value
    c.loop-touch-test.true in
    let page = c.index_mut-page.result.now in
    let has =
    adding.page-has fs reads t.slot j m s c.loop-touch.past.items page (c.loop-touch.invariant.past t.slot page touched.below)
    c.index_mut-page.ensures.value in
    let steps_few =
    few-steps c.args.history.now n _ (c.len-place-end.ensures ∙ c.in_ok-steps.steps.ok.0) c.in_ok-steps.ensures.steps.many
    c.in_ok-steps.ensures.of_run.few in
    let pages_few =
    subst (λ (k : ℕ). k ≤ 1048576) (sym c.len-pages.ensures.count)
    (few-pages c.setup-setup.result.now c.in_ok-map.map c.in_ok-map.ensures.sound c.in_ok-map.ensures.map c.len-pages.ensures.ascending) in
    let low : j < n = c.loop-place-test.true in
    let rows = c.loop-touch.first.rows.items in
    adding.many-fits fs reads pages n j s is low m c.loop-touch.first.many (length (accesses_of page)) rows steps_few pages_few
    c.loop-touch.invariant.few (past-few fs reads pages j s is known t.slot m page has)
    (λ i less. c.loop-touch.invariant.rows i less
    ∙ ap (λ (ts : List Touch). flat_map (races_between fs reads pages i) (range_with_len 0 j) ++ so_far fs reads i j ts m)
    c.deref-touch-items.ensures.value)
    c.loop-touch.invariant.counted

pub add-requires-in-loop-touch-clause-known : goal.add-requires-in-loop-touch-clause-known
add-requires-in-loop-touch-clause-known c =
    let fs = facts c.args.history.now in
    let reads = reads_of c.args.history.now in
    let pages = c.len-pages.result in
    let j = c.loop-place.place in
    let n = c.len-place-end.result in
    let s = c.index-step.result.now in
    let is =
    adding.step-is fs reads pages j c.len-place-end.result c.in_ok-steps.steps.items s c.in_ok-steps.ensures.steps
    c.loop-place-test.true (c.len-place-end.ensures ∙ c.in_ok-steps.steps.ok.0) c.index-step.ensures in
    subst (λ (thread : ℕ). thread < 32) (sym (ap (λ (a : Access). a.thread) c.of.ensures)) is.known

pub add-requires-in-loop-touch-clause-after : goal.add-requires-in-loop-touch-clause-after
add-requires-in-loop-touch-clause-after c =
    let fs = facts c.args.history.now in
    let reads = reads_of c.args.history.now in
    let pages = c.len-pages.result in
    let j = c.loop-place.place in
    let n = c.len-place-end.result in
    let s = c.index-step.result.now in
    let is =
    adding.step-is fs reads pages j c.len-place-end.result c.in_ok-steps.steps.items s c.in_ok-steps.ensures.steps
    c.loop-place-test.true (c.len-place-end.ensures ∙ c.in_ok-steps.steps.ok.0) c.index-step.ensures in
    let known =
    adding.threads-known fs reads pages j c.len-place-end.result c.in_ok-steps.steps.items s c.in_ok-steps.ensures.steps
    c.loop-place-test.true (c.len-place-end.ensures ∙ c.in_ok-steps.steps.ok.0) in
    let m = c.loop-touch.touch-index in
    let t = get_or c.deref-touch-items.result.now m none in
    let touched =
    adding.touch-is fs reads pages j s is c.deref-touch-items.result.now m none c.deref-touch-items.ensures.value
    c.loop-touch-test.true in
    let page = c.index_mut-page.result.now in
    let has =
    adding.page-has fs reads t.slot j m s c.loop-touch.past.items page (c.loop-touch.invariant.past t.slot page touched.below)
    c.index_mut-page.ensures.value in
    ap (λ (a : Access). count_by (is_misplaced a) (accesses_of page)) c.of.ensures
    ∙ none-misplaced fs reads pages j s is known t t.slot m page has

pub loop-touch-preserved : goal.loop-touch-preserved
loop-touch-preserved c =
    let fs = facts c.args.history.now in
    let reads = reads_of c.args.history.now in
    let pages = c.len-pages.result in
    let j = c.loop-place.place in
    let n = c.len-place-end.result in
    let s = c.index-step.result.now in
    let is =
    adding.step-is fs reads pages j c.len-place-end.result c.in_ok-steps.steps.items s c.in_ok-steps.ensures.steps
    c.loop-place-test.true (c.len-place-end.ensures ∙ c.in_ok-steps.steps.ok.0) c.index-step.ensures in
    let known =
    adding.threads-known fs reads pages j c.len-place-end.result c.in_ok-steps.steps.items s c.in_ok-steps.ensures.steps
    c.loop-place-test.true (c.len-place-end.ensures ∙ c.in_ok-steps.steps.ok.0) in
    let m = c.loop-touch.touch-index in
    let t = get_or c.deref-touch-items.result.now m none in
    let touched =
    adding.touch-is fs reads pages j s is c.deref-touch-items.result.now m none c.deref-touch-items.ensures.value
    c.loop-touch-test.true in
    let at = adding.touch-at s c.deref-touch-items.result.now m none c.deref-touch-items.ensures.value c.loop-touch-test.true in
    let within : m < length s.touches.items =
    subst (λ (ts : List Touch). m < length ts) c.deref-touch-items.ensures.value c.loop-touch-test.true in
    let page = c.index_mut-page.result.now in
    let has =
    adding.page-has fs reads t.slot j m s c.loop-touch.past.items page (c.loop-touch.invariant.past t.slot page touched.below)
    c.index_mut-page.ensures.value in
    let low : j < n = c.loop-place-test.true in
    let inv = c.loop-touch.invariant in
    let same = c.deref-touch-items.ensures.value in
    record {
      long = length-set c.loop-touch.past.items t.slot c.add-in-loop-touch.new.self ∙ inv.long;
      past = λ p d below.
          adding.past-more fs reads pages j m s is known t c.loop-touch.past.items page c.add-in-loop-touch.new.self within at
          (subst (λ (k : ℕ). t.slot < k) (sym inv.long) touched.below) c.index_mut-page.ensures.value
          c.in_ok-add.ensures.past
          (λ q. c.in_ok-add.ensures.counts q ∙ ap (λ (a : Access). count_by q (accesses_of page) + bit (q a)) c.of.ensures)
          p d (inv.past p d below);
      total =
          (let more = adding.now-more fs reads pages n j s is low m t within at in
          let count = c.in_ok-total.ensures.count ∙ racing-counted fs reads pages j s is known t m page touched has in
          let before = inv.total in
          let one = ap (λ (ts : List Touch). adding.races_now fs reads n j ts m) same in
          let two = ap (λ (ts : List Touch). adding.races_now fs reads n j ts (m + 1)) same in
          omega arith);
      few = subst (λ (k : ℕ). k ≤ j) (sym c.in_ok-total.ensures.long) inv.few;
      rows = λ i less.
          (let few = inv.few in
          let there = subst (λ (k : ℕ). i < k) c.in_ok-total.ensures.long less in
          adding.row-next fs reads i j m c.deref-touch-items.result.now t (get_or c.loop-touch.first.rows.items i [])
          (get_or c.add.new.self.rows.items i []) (flat_map (races_between fs reads pages i) (range_with_len 0 j))
          (races_in i j t (filter (races_with s t.writes) (accesses_of page))) c.loop-touch-test.true
          (get_or_default c.deref-touch-items.result.now m none t c.loop-touch-test.true) (inv.rows i there)
          (c.in_ok-total.ensures.rows i there) (row-reported fs reads pages j s is known t m page touched has i (omega arith)));
      counted = c.in_ok-total.ensures.counted;
      enough = (elim inv.enough [
        | inl all ↦ inl (c.in_ok-total.ensures.long ∙ all)
        | inr much ↦ inr (let more = c.in_ok-total.ensures.more in omega arith)
      ]);
      most = c.in_ok-total.ensures.most ∙ inv.most;
    }

pub loop-place-preserved : goal.loop-place-preserved
loop-place-preserved c =
    let fs = facts c.args.history.now in
    let reads = reads_of c.args.history.now in
    let pages = c.len-pages.result in
    let j = c.loop-place.place in
    let n = c.len-place-end.result in
    let s = c.index-step.result.now in
    let is =
    adding.step-is fs reads pages j c.len-place-end.result c.in_ok-steps.steps.items s c.in_ok-steps.ensures.steps
    c.loop-place-test.true (c.len-place-end.ensures ∙ c.in_ok-steps.steps.ok.0) c.index-step.ensures in
    let known =
    adding.threads-known fs reads pages j c.len-place-end.result c.in_ok-steps.steps.items s c.in_ok-steps.ensures.steps
    c.loop-place-test.true (c.len-place-end.ensures ∙ c.in_ok-steps.steps.ok.0) in
    let m = c.loop-touch.touch-index in
    let low : j < n = c.loop-place-test.true in
    let inv = c.loop-touch.invariant in
    let same = c.deref-touch-items.ensures.value in
    let long = ap (λ (ts : List Touch). length ts) same in
    let end : length s.touches.items ≤ m = let past = c.loop-touch-test.false in omega arith in
    let rows = c.loop-touch.first.rows.items in
    let kept = c.trim.new.self.rows.items in
    let opened = c.open.new.self.rows.items in
    let each = λ (i : ℕ) (less : i < length rows). inv.rows i less
    ∙ ap (λ (ts : List Touch). flat_map (races_between fs reads pages i) (range_with_len 0 j) ++ so_far fs reads i j ts m) same in
    record {
      long = inv.long;
      past = λ p s' page below. past-next fs reads pages j s is known p m (get_or c.loop-touch.past.items p page) s' below end
          (inv.past p page below);
      total =
          inv.total
          ∙ ap (λ (ts : List Touch). adding.races_before fs reads pages n j + adding.races_now fs reads n j ts m) same
          ∙ adding.before-next fs reads pages n j s is low m end;
      few = adding.rows-few j rows kept opened inv.few c.trim.ensures.rows c.in_ok-open.ensures.rows;
      rows = adding.rows-next fs reads pages j m s is rows kept opened end inv.few each c.trim.ensures.rows
          c.in_ok-open.ensures.rows;
      counted = c.in_ok-open.ensures.counted;
      enough = (let many = c.in_ok-open.ensures.many in
          subst (λ (k : ℕ). (length opened ≡ j + 1) ⊎ (c.args.most ≤ k)) (sym many)
          (adding.rows-enough j c.args.most c.loop-touch.first.many c.trim.new.self.many rows kept opened inv.enough inv.counted
          c.trim.ensures.counted
          (subst (λ (k : ℕ). (kept ≡ rows) ⊎ (k ≤ c.trim.new.self.many)) inv.most c.trim.ensures.enough)
          c.in_ok-open.ensures.rows));
      most = c.in_ok-open.ensures.most ∙ c.trim.ensures.most ∙ inv.most;
    }

pub returns-clause-total : goal.returns-clause-total
returns-clause-total c =
    let h = c.args.history.now in
    let fs = facts h in
    let reads = reads_of h in
    let pages = c.len-pages.result in
    let n = c.len-place-end.result in
    let end : c.loop-place.place ≡ n =
    (let past = c.loop-place-test.false in let within = c.loop-place.auto.place-end in omega arith) in
    c.loop-place.invariant.total
    ∙ ap (adding.races_before fs reads pages n) end
    ∙ races-summed fs reads pages n
    ∙ ap (λ (rs : List Race). length rs)
    (whole-races h pages n
    (c.len-pages.ensures.count ∙ ap (λ (ps : List Mapped). length ps) c.in_ok-map.ensures.map
    ∙ ap (λ (x : Setup). length (map_of x)) c.setup-setup.ensures.setup)
    (let long = c.len-place-end.ensures in
    let many = c.in_ok-steps.ensures.steps.many in
    let count = facts-length h in
    omega arith))

pub returns-clause-first : goal.returns-clause-first
returns-clause-first c =
    let h = c.args.history.now in
    let fs = facts h in
    let reads = reads_of h in
    let pages = c.len-pages.result in
    let n = c.len-place-end.result in
    let inv = c.loop-place.invariant in
    let end : c.loop-place.place ≡ n =
    (let past = c.loop-place-test.false in let within = c.loop-place.auto.place-end in omega arith) in
    let rows = c.loop-place.first.rows.items in
    c.new.ensures
    ∙ c.in_ok-listed.ensures
    ∙ ap (λ (k : ℕ). take k (flat_map (λ (row : List Race). row) rows)) inv.most
    ∙ adding.rows-listed fs reads pages n c.args.most c.loop-place.first.many rows (let few = inv.few in omega arith)
    (λ i less. inv.rows i less
    ∙ ap (λ (k : ℕ). flat_map (races_between fs reads pages i) (range_with_len 0 k)) end)
    inv.counted
    (elim inv.enough [
      | inl all ↦ inl (all ∙ end)
      | inr much ↦ inr much
    ])
    ∙ ap (take c.args.most)
    (whole-races h pages n
    (c.len-pages.ensures.count ∙ ap (λ (ps : List Mapped). length ps) c.in_ok-map.ensures.map
    ∙ ap (λ (x : Setup). length (map_of x)) c.setup-setup.ensures.setup)
    (let long = c.len-place-end.ensures in
    let many = c.in_ok-steps.ensures.steps.many in
    let count = facts-length h in
    omega arith))
