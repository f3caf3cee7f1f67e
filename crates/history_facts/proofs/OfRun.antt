-- The facts of a history are as many as its records, and of their threads.
use Rattle.std.proofs.Common.{◌≡◌, ◌<◌, ◌≤◌, ltb, List, [], ◌∷◌, All, length, map, ap, sym, subst, arith}
use Rattle.std.specs.List.{AllByRecursion, list_all}
use Rattle.std.proofs.lemmas.Bool.{and_parts, ltb-true}
use Rattle.std.proofs.lemmas.List.Elements.{All-from_recursion}
use Rattle.thunk_spec.specs.Record.{Record}
use Rattle.history_spec.specs.History.{History}
use Rattle.history_spec.specs.Facts.{Fact, facts}
use Rattle.history_spec.specs.Keeping.{fact_thread, record_thread}
use Rattle.round_spec.proofs.Placed.{facts-of, facts-length}
use Rattle.run_history.specs.Records.{HaveThreads, AreOfRun}

pub few-facts : (fs : List Fact) (h : History) → fs ≡ facts h → AreOfRun h.records → length fs ≤ 65536
few-facts fs h is run =
    let many = ap (λ (x : List Fact). length x) is in omega (arith, facts-length h, run.few)

of-threads :
    (fs : List Fact) (rs : List Record)
    → map fact_thread fs ≡ map record_thread rs → HaveThreads rs → AllByRecursion (λ (f : Fact). f.thread < 32) fs
of-threads [] rs same have = tt
of-threads (f ∷ fs) [] same have = cc
of-threads (f ∷ fs) (r ∷ rs) same have =
    let first : f.thread ≡ r.thread = cc in
    let rest : map fact_thread fs ≡ map record_thread rs = cc in
    let parts = and_parts (ltb r.thread 32) (list_all (λ (q : Record). ltb q.thread 32) rs) have in
    let below : r.thread < 32 = ltb-true r.thread 32 parts.0 in
    (omega arith, of-threads fs rs rest parts.1)

pub have-threads :
    (fs : List Fact) (h : History) → fs ≡ facts h → AreOfRun h.records → All (λ (f : Fact). f.thread < 32) fs
have-threads fs h is run =
    subst (All (λ (f : Fact). f.thread < 32)) (sym is)
    (All-from_recursion (λ (f : Fact). f.thread < 32) (facts h)
    (of-threads (facts h) h.records (facts-of h) run.threads))
