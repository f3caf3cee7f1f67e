-- What a read leaves of a host in memory, and what it returns.
use Rattle.std.proofs.Common.{◌≡◌, ◌+◌, ◌-◌, ◌^◌, ◌≤◌, ℕ, min, List, [], ◌∷◌, ◌++◌, Option, Some, None, refl, sym, ap, ◌∙◌, inl, inr, arith}
use Rattle.std.proofs.lemmas.Bool.{false≢true}
use Rattle.ith_host.specs.declared.host.Got.{Got}
use Rattle.ith_host.specs.declared.host.Got.TheVariants.{Ok, Failed, TooLong}
use Rattle.ith_host.specs.declared.asked.Asked.{Asked}
use Rattle.ith_host.specs.declared.memory.MemHost.{MemHost}
use Rattle.ith_host.specs.MemHost.{memory_world, files_of, IsNumbered}
use Rattle.ith_host.specs.World.{AsksFor, Stays, NoneFell, Rose}
use Rattle.ith_host.proofs.memory.MemHostHost.read.Goals as goal

-- the call was numbered, the name was noted, and the count of faults may have risen
record IsRead (name : List ℕ) (old new : MemHost) : Type 0 where
  numbered : IsNumbered old new
  rest : new ≡ record old { calls = new.calls; asked = new.asked; read_faults = new.read_faults }
  asked : AsksFor (name ∷ []) (memory_world old) (memory_world new)
  stays : Stays (memory_world old) (memory_world new)
  counts : NoneFell (memory_world old) (memory_world new)

read_as :
    (name bytes : List ℕ) (old new : MemHost) (asked : Asked) (calls faults : ℕ)
    → new ≡ record old { calls = calls; asked = asked; read_faults = faults }
    → calls ≡ min (old.calls + 1) (2 ^ 64 - 1) → asked.names ≡ old.asked.names ++ bytes ∷ [] → bytes ≡ name
    → old.read_faults ≤ faults
    → IsRead name old new
read_as name bytes old new asked calls faults is counted noted same more =
    rw is record {
      numbered = record { calls = counted; failing = refl; part = refl };
      rest = refl;
      asked = noted ∙ ap (λ last. old.asked.names ++ last ∷ []) same;
      stays = record { is_stated = refl; files = refl; printed = refl };
      counts = record { reads = λ _. more; writes = λ _. omega arith; prints = omega arith };
    }

-- a host of which one more read failed
abbrev faulted : MemHost → MemHost
faulted host = record host { read_faults = min (host.read_faults + 1) (2 ^ 64 - 1) }

failed_as :
    (name bytes : List ℕ) (old numbered new : MemHost) (asked : Asked)
    → numbered ≡ record old { calls = numbered.calls; asked = asked } → new ≡ faulted numbered
    → numbered.calls ≡ min (old.calls + 1) (2 ^ 64 - 1) → asked.names ≡ old.asked.names ++ bytes ∷ [] → bytes ≡ name
    → numbered.read_faults ≤ new.read_faults
    → IsRead name old new × Rose old.read_faults new.read_faults
failed_as name bytes old numbered new asked others is counted noted same more =
    let whole = is ∙ ap faulted others in
    let before = ap (λ (host : MemHost). host.read_faults) others in
    let after = ap (λ (host : MemHost). host.read_faults) whole in (
      read_as name bytes old new asked numbered.calls _ whole counted noted same (omega (arith, more, before, after)),
      omega (arith, after),
    )

-- an answer or an option isn't two at once
not_ok : {r : Got} → r ≡ Failed → r ≡ Ok → ⊥
not_ok failed ok = let clash = sym failed ∙ ok in cc

not_long : {r : Got} → r ≡ Failed → r ≡ TooLong → ⊥
not_long failed long = let clash = sym failed ∙ long in cc

not_none : {X : Type 0} {o : Option X} {x : X} → o ≡ Some x → o ≡ None → ⊥
not_none some none = let clash = sym some ∙ none in cc

same : (n : ℕ) → n ≤ n
same n = omega arith

pub returns-then-is_failing : goal.returns-then-is_failing
returns-then-is_failing c =
    let answer = c.fail_read.ensures.answer in
    let read = failed_as c.args.name.now c.as_bytes.result.now c.args.self.now c.is_failing.new.self c.fail_read.new.self
    c.note.new.self c.is_failing.ensures.others c.fail_read.ensures.count c.is_failing.ensures.numbered.calls
    c.note.ensures c.as_bytes.ensures.value c.fail_read.ensures.not_fewer in
    record {
      listed = λ _. answer;
      absent = λ _. answer;
      unlisted = λ _. inl (sym c.is_failing.ensures.said ∙ c.if-is_failing.true);
      numbered = read.0.numbered;
      quiet = λ other. absurd (other answer);
      rest = read.0.rest;
      content = λ ok. absurd (not_ok answer ok);
      within = λ ok. absurd (not_ok answer ok);
      failed = λ _. read.1;
      too_long = λ long. absurd (not_long answer long);
      emptied = λ _. c.requires;
      asked = read.0.asked;
      stays = read.0.stays;
      counts = read.0.counts;
    }

pub returns-in-None : goal.returns-in-None
returns-in-None c =
    let answer = c.fail_read-in-None.ensures.answer in
    let read = failed_as c.args.name.now c.as_bytes.result.now c.args.self.now c.is_failing.new.self c.fail_read-in-None.new.self
    c.note.new.self c.is_failing.ensures.others c.fail_read-in-None.ensures.count c.is_failing.ensures.numbered.calls
    c.note.ensures c.as_bytes.ensures.value c.fail_read-in-None.ensures.not_fewer in
    record {
      listed = λ _. answer;
      absent = λ _. answer;
      unlisted = λ _. inr (ap (λ (host : MemHost). files_of host.files c.args.name.now) (sym c.is_failing.ensures.others) ∙ sym c.in-None.ensures);
      numbered = read.0.numbered;
      quiet = λ other. absurd (other answer);
      rest = read.0.rest;
      content = λ ok. absurd (not_ok answer ok);
      within = λ ok. absurd (not_ok answer ok);
      failed = λ _. read.1;
      too_long = λ long. absurd (not_long answer long);
      emptied = λ _. c.requires;
      asked = read.0.asked;
      stays = read.0.stays;
      counts = read.0.counts;
    }

pub returns-in-Some : goal.returns-in-Some
returns-in-Some c =
    let old = c.args.self.now in
    let is = c.is_failing.ensures.others in
    let known : files_of old.files c.args.name.now ≡ Some c.in-Some.content.now =
    ap (λ (host : MemHost). files_of host.files c.args.name.now) (sym is) ∙ sym c.in-Some.ensures in
    let read = read_as c.args.name.now c.as_bytes.result.now old c.is_failing.new.self c.note.new.self
    c.is_failing.new.self.calls old.read_faults is c.is_failing.ensures.numbered.calls c.note.ensures
    c.as_bytes.ensures.value (same old.read_faults) in
    let took = c.take_content.ensures in
    record {
      listed = λ fails. absurd (false≢true (sym c.if-is_failing.false ∙ c.is_failing.ensures.said ∙ fails));
      absent = λ none. absurd (not_none known none);
      unlisted = λ failed. absurd (took.no_fault failed);
      numbered = read.numbered;
      quiet = λ _. ap (λ (host : MemHost). host.read_faults) is;
      rest = read.rest;
      content = λ ok. rw known (sym (took.taken ok));
      within = λ ok. rw (took.taken ok) (took.within ok);
      failed = λ failed. absurd (took.no_fault failed);
      too_long = λ long. rw known (took.too_long long);
      emptied = took.emptied;
      asked = read.asked;
      stays = read.stays;
      counts = read.counts;
    }
