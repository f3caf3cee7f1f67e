-- Bytes are accepted as the coherent history that they encode.
use Rattle.std.proofs.Common.{◌≡◌, ℕ, ◌+◌, ◌-◌, ◌≤◌, Bool, true, false, not, cond, ltb, List, [], ◌∷◌, ◌++◌, length, take, drop, Option, Some, None, Result, Ok, Err, refl, sym, ap, subst, ◌∙◌, arith, inl, inr}
use Rattle.std.specs.Prelude.{◌==◌, ◌&&◌, bytes_eq, is_none, is_some}
use Rattle.std.proofs.lemmas.Bool.{ltb-false, le-ltb, eqb-true}
use Rattle.std.proofs.lemmas.List.{append-nil, length-append, nil_from_length, take_at, drop_at, take-append-drop, length-take, length-drop, take-append-le, drop-append-le, drop-drop}
use Rattle.sha2.specs.Sha256.{sha256}
use Rattle.sha2.proofs.Facts256.{length-sha256}
use Rattle.thunk_spec.specs.Record.{Record}
use Rattle.machine_spec.specs.Machine.{Machine}
use Rattle.machine_spec.specs.Step.{apply, fits}
use Rattle.machine_spec.specs.Setup.{first}
use Rattle.history_spec.specs.History.{History, can_apply_from, applied_from, is_coherent}
use Rattle.ith_text.specs.Place.{Place}
use Rattle.memo_spec.specs.declared.Format.{Format}
use Rattle.memo_spec.specs.declared.Format.TheVariants.{Version1, Version2}
use Rattle.memo_spec.specs.declared.Refusal.{Refusal}
use Rattle.memo_spec.specs.declared.Refusal.TheVariants.{Short, Magic, Digest, Field, Old}
use Rattle.memo_spec.specs.Encoding.{magic, word, body, memo_in, memo, IsEncodable, EncodesIn, Encodes}
use Rattle.memo_spec.specs.Old.{last_number}
use Rattle.memo_spec.specs.Reading.{behind_version, incoherent_from, coherent_or, is_old_in, todays, ended, taken_as, version_of, format_of, reading_in, reading, IsTaken}
use Rattle.memo_spec.proofs.Formats.{IsBytes, IsBytes-drop, IsBytes-take, wide32, behind, ok_is}
use Rattle.memo_spec.proofs.Pool.{bytes_determine}
use Rattle.memo_spec.proofs.Top.{number, first_eight, rest_bytes, body_is, agrees_behind}

abbrev opens : List ℕ → Place
opens left = record { taken = 8; left = left }

read_again : (format : Format) (h : History) → IsEncodable h
    → behind_version format (opens (rest_bytes format h))
    ≡ Ok (h, behind (opens (rest_bytes format h)) (rest_bytes format h) [])
read_again format h fit = (agrees_behind format).again (opens (rest_bytes format h)) h [] fit
    (sym (append-nil (rest_bytes format h)))

rest_is : (format : Format) (h : History) → drop 8 (body format h) ≡ rest_bytes format h
rest_is format h = ap (drop 8) (body_is format h) ∙ drop_at (first_eight format) (rest_bytes format h) 8 refl

body_taken : (format : Format) (h : History) → IsEncodable h → taken_as format (body format h) ≡ todays format h
unfolding taken_as
body_taken format h fit =
    ap (λ (l : List ℕ). ended format (behind_version format (opens l))) (rest_is format h)
    ∙ ap (ended format) (read_again format h fit)

same_bytes : (xs : List ℕ) → bytes_eq xs xs ≡ true
same_bytes xs = elim (bytes_determine xs xs) [ inl h ↦ h.0 | inr h ↦ absurd (h.1 refl) ]

digest_parts : (text : List ℕ) → (take (length (text ++ sha256 text) - 32) (text ++ sha256 text) ≡ text)
    × (drop (length (text ++ sha256 text) - 32) (text ++ sha256 text) ≡ sha256 text)
digest_parts text =
    let n : length text ≡ length (text ++ sha256 text) - 32 =
    omega (arith, length-append text (sha256 text), length-sha256 text) in
    (take_at text (sha256 text) _ n, drop_at text (sha256 text) _ n)

-- The four tests of a file that is a memo, up to its fields.
pass : (format : Format) (bytes text : List ℕ) → 40 ≤ length bytes → take 4 bytes ≡ magic
    → format_of (version_of bytes) ≡ Some format
    → take (length bytes - 32) bytes ≡ text → drop (length bytes - 32) bytes ≡ sha256 text
    → reading bytes ≡ taken_as format text
unfolding reading
pass format bytes text long m v t d = rw (le-ltb _ _ long, m, v, t, d, same_bytes (sha256 text)) refl

-- The first eight bytes of a memo.
opens_so : (format : Format) (h : History) → (take 4 (memo_in format h) ≡ magic)
    × (format_of (version_of (memo_in format h)) ≡ Some format)
unfolding memo_in
opens_so Version1 h = (refl, refl)
opens_so Version2 h = (refl, refl)

memo_read : (format : Format) (h : History) → IsEncodable h → reading (memo_in format h) ≡ todays format h
unfolding memo_in
memo_read format h fit =
    let text = body format h in
    let k = digest_parts text in
    let n : length text ≡ 8 + length (rest_bytes format h) =
    ap length (body_is format h) ∙ length-append (first_eight format) (rest_bytes format h) in
    let long : 40 ≤ length (text ++ sha256 text) =
    omega (arith, length-append text (sha256 text), length-sha256 text, n) in
    let o = opens_so format h in
    pass format (text ++ sha256 text) text long o.0 o.1 k.0 k.1 ∙ body_taken format h fit

-- The history that bytes encode can be read from them.
text_of : (format : Format) (h : History) → IsEncodable h
    → behind_version format (opens (drop 8 (take (length (memo_in format h) - 32) (memo_in format h))))
    ≡ Ok (h, behind (opens (rest_bytes format h)) (rest_bytes format h) [])
unfolding memo_in
text_of format h fit =
    let left = ap (drop 8) (digest_parts (body format h)).0 ∙ rest_is format h in
    ap (λ (l : List ℕ). behind_version format (opens l)) left ∙ read_again format h fit

abbrev found : History × Place → Result (History × Place) Refusal
found x = Ok x

one_in : (format : Format) (bytes : List ℕ) (a b : History) → EncodesIn format bytes a → EncodesIn format bytes b → a ≡ b
one_in format bytes a b p q =
    let e : memo_in format a ≡ memo_in format b = sym p.is ∙ q.is in
    let both : found (a, behind (opens (rest_bytes format a)) (rest_bytes format a) [])
    ≡ found (b, behind (opens (rest_bytes format b)) (rest_bytes format b) []) =
    sym (text_of format a p.fits)
    ∙ ap (λ (l : List ℕ). behind_version format (opens (drop 8 (take (length l - 32) l)))) e
    ∙ text_of format b q.fits in
    ap (λ (x : History × Place). x.0) (ok_is _ _ both)

-- The bytes determine the format.
one_format : (f g : Format) (bytes : List ℕ) (a b : History) → EncodesIn f bytes a → EncodesIn g bytes b → f ≡ g
one_format f g bytes a b p q =
    let e : Some f ≡ Some g = sym (opens_so f a).1 ∙ ap (λ (l : List ℕ). format_of (version_of l)) (sym p.is ∙ q.is)
    ∙ (opens_so g b).1 in
    cc

pub one_history : (bytes : List ℕ) (a b : History) → Encodes bytes a → Encodes bytes b → a ≡ b
one_history bytes a b p q =
    let same = one_format p.0 q.0 bytes a b p.1 q.1 in
    one_in q.0 bytes a b (subst (λ (f : Format). EncodesIn f bytes a) same p.1) q.1

-- ---- coherence

none_of_cond : (b : Bool) (i : ℕ) → is_none (cond b None (Some i)) ≡ b
none_of_cond true i = refl
none_of_cond false i = refl

none_of_step : (b c d : Bool) (i : ℕ) (o : Option ℕ) → is_none o ≡ (c && d)
    → is_none (cond b o (Some i)) ≡ ((b && c) && d)
none_of_step true c d i o e = e
none_of_step false c d i o e = refl

coherent_is : (rs : List Record) (m : Machine) (i : ℕ)
    → is_none (incoherent_from i m rs) ≡ (can_apply_from m rs && is_some (applied_from m rs).ending)
coherent_is [] m i = none_of_cond (is_some m.ending) i
coherent_is (r ∷ rs) m i = none_of_step (is_none m.ending && fits m r) (can_apply_from (apply m r) rs)
    (is_some (applied_from (apply m r) rs).ending) i (incoherent_from (i + 1) (apply m r) rs)
    (coherent_is rs (apply m r) (i + 1))

taken_whole : (o : Option ℕ) (h : History) → is_none o ≡ true → coherent_or o h ≡ Ok h
taken_whole None h e = refl
taken_whole (Some i) h e = absurd cc

whole_taken : (o : Option ℕ) (h k : History) → coherent_or o h ≡ Ok k → (is_none o ≡ true) × (h ≡ k)
whole_taken None h k e = (refl, cc)
whole_taken (Some i) h k e = absurd cc

abbrev HoldsTogether : History → Type 0
HoldsTogether h = is_none (incoherent_from 0 (first h.setup) h.records) ≡ true

todays_taken : (format : Format) (h : History) → is_old_in format h ≡ false → HoldsTogether h → todays format h ≡ Ok h
todays_taken format h new whole =
    ap (λ b. cond b (Err (Old (last_number h))) (coherent_or (incoherent_from 0 (first h.setup) h.records) h)) new
    ∙ taken_whole (incoherent_from 0 (first h.setup) h.records) h whole

pub encoded_is_read : (bytes : List ℕ) (h : History) → IsTaken bytes h → reading bytes ≡ Ok h
encoded_is_read bytes h t =
    ap reading t.encodes.is ∙ memo_read t.format h t.encodes.fits
    ∙ todays_taken t.format h t.of_today (coherent_is h.records (first h.setup) 0 ∙ t.coherent)

-- The memo of a coherent history is accepted as that history.
pub memo_taken : (h : History) → IsEncodable h → is_coherent h ≡ true → IsTaken (memo h) h
unfolding memo
memo_taken h fit coherent = record {
  format = Version2;
  encodes = record { fits = fit; is = refl };
  of_today = refl;
  coherent = coherent;
}

-- ---- what is read is encoded so

test_ok : (b : Bool) (e : Refusal) (x : Result History Refusal) (h : History) → cond b (Err e) x ≡ Ok h → (b ≡ false)
    × (x ≡ Ok h)
test_ok true e x h p = absurd cc
test_ok false e x h p = (refl, p)

todays_ok : (format : Format) (h k : History) → todays format h ≡ Ok k → (is_old_in format h ≡ false)
    × HoldsTogether h × (h ≡ k)
todays_ok format h k e =
    let whole = incoherent_from 0 (first h.setup) h.records in
    let new = test_ok (is_old_in format h) (Old (last_number h)) (coherent_or whole h) k e in
    let taken = whole_taken whole h k new.1 in
    (new.0, taken.0, taken.1)

ended_ok : (format : Format) (r : Result (History × Place) Refusal) (h : History) → ended format r ≡ Ok h
    → (x : History × Place) × (r ≡ Ok x)
    × (x.0 ≡ h) × (x.1.left ≡ []) × HoldsTogether x.0 × (is_old_in format x.0 ≡ false)
ended_ok format (Err e) h p = absurd cc
ended_ok format (Ok x) h p = at_end (length x.1.left == 0) refl p
  where
    at_end : (b : Bool) → (length x.1.left == 0) ≡ b → cond b (todays format x.0) (Err (Field x.1.taken)) ≡ Ok h
        → (y : History × Place) × (found x ≡ Ok y) × (y.0 ≡ h) × (y.1.left ≡ []) × HoldsTogether y.0
        × (is_old_in format y.0 ≡ false)
    at_end true e p = let k = todays_ok format x.0 h p in
        (x, refl, k.2, nil_from_length x.1.left (eqb-true _ _ e), k.1, k.0)
    at_end false e p = absurd cc

equal_bytes : (xs ys : List ℕ) → not (bytes_eq xs ys) ≡ false → xs ≡ ys
equal_bytes xs ys e = elim (bytes_determine xs ys) [ inl h ↦ h.1 | inr h ↦ absurd (differ (bytes_eq xs ys) h.0 e) ]
  where
    differ : (b : Bool) → b ≡ false → not b ≡ false → ⊥
    differ true p q = absurd cc
    differ false p q = absurd cc

-- If a version has a format, the version is that format's number.
version_is : (v : ℕ) (format : Format) → format_of v ≡ Some format → v ≡ number format
version_is v format e = first_of_two (v == 1) refl e
  where
    second : (b : Bool) → (v == 2) ≡ b → cond b (Some Version2) None ≡ Some format → v ≡ number format
    second true is e = let f : Version2 ≡ format = cc in eqb-true v 2 is ∙ ap number f
    second false is e = absurd cc

    first_of_two : (b : Bool) → (v == 1) ≡ b
        → cond b (Some Version1) (cond (v == 2) (Some Version2) None) ≡ Some format → v ≡ number format
    first_of_two true is e = let f : Version1 ≡ format = cc in eqb-true v 1 is ∙ ap number f
    first_of_two false is e = second (v == 2) refl e

eight : (v : ℕ) (bytes text tail : List ℕ) → IsBytes bytes → bytes ≡ text ++ tail → 8 ≤ length text
    → take 4 bytes ≡ magic → version_of bytes ≡ v → text ≡ magic ++ word v ++ drop 8 text
eight v bytes text tail fits e le m is =
    let whole : length bytes ≡ length text + length tail = ap length e ∙ length-append text tail in
    let word_is : word v ≡ take 4 (drop 4 bytes) = ap word (sym is)
    ∙ wide32.back (drop 4 bytes) (omega (arith, length-drop 4 bytes, whole)) (IsBytes-drop 4 bytes fits) in
    let first_four : take 4 text ≡ magic = sym (take-append-le 4 text tail (omega arith)) ∙ ap (take 4) (sym e) ∙ m in
    let rest_is : drop 4 bytes ≡ drop 4 text ++ tail = ap (drop 4) e ∙ drop-append-le 4 text tail (omega arith) in
    let second_four : take 4 (drop 4 text) ≡ word v =
    sym (take-append-le 4 (drop 4 text) tail (omega (arith, length-drop 4 text))) ∙ ap (take 4) (sym rest_is)
    ∙ sym word_is in
    sym (take-append-drop 4 text) ∙ ap (λ (l : List ℕ). l ++ drop 4 text) first_four
    ∙ ap (λ (l : List ℕ). magic ++ l)
    (sym (take-append-drop 4 (drop 4 text)) ∙ ap (λ (l : List ℕ). l ++ drop 4 (drop 4 text)) second_four
    ∙ ap (λ (l : List ℕ). word v ++ l) (drop-drop 4 4 text))

taken_ok : (format : Format) (text : List ℕ) (h : History) → IsBytes (drop 8 text)
    → text ≡ first_eight format ++ drop 8 text → taken_as format text ≡ Ok h
    → IsEncodable h × (text ≡ body format h) × (is_old_in format h ≡ false) × (is_coherent h ≡ true)
unfolding taken_as
taken_ok format text h fits opening p =
    let x = ended_ok format (behind_version format (opens (drop 8 text))) h p in
    let t = (agrees_behind format).takes (opens (drop 8 text)) x.0.0 x.0.1 fits x.1 in
    let left : drop 8 text ≡ rest_bytes format x.0.0 =
    t.0.takes.front ∙ ap (λ (l : List ℕ). rest_bytes format x.0.0 ++ l) x.3
    ∙ append-nil (rest_bytes format x.0.0) in
    let whole : text ≡ body format x.0.0 =
    opening ∙ ap (λ (l : List ℕ). first_eight format ++ l) left ∙ sym (body_is format x.0.0) in
    let coherent : is_coherent x.0.0 ≡ true = sym (coherent_is x.0.0.records (first x.0.0.setup) 0) ∙ x.4 in
    subst (λ (k : History). IsEncodable k × (text ≡ body format k) × (is_old_in format k ≡ false)
    × (is_coherent k ≡ true)) x.2 (t.1, whole, x.5, coherent)

format_ok : (o : Option Format) (bytes : List ℕ) (h : History) → reading_in o bytes ≡ Ok h
    → (format : Format) × (o ≡ Some format) × (reading_in (Some format) bytes ≡ Ok h)
format_ok None bytes h p = absurd cc
format_ok (Some format) bytes h p = (format, refl, p)

pub read_is_encoded : (bytes : List ℕ) (h : History) → IsBytes bytes → reading bytes ≡ Ok h → IsTaken bytes h
unfolding reading memo_in
read_is_encoded bytes h fits p =
    let n = length bytes - 32 in
    let text = take n bytes in
    let tail = drop n bytes in
    let a = test_ok (ltb (length bytes) 40) Short _ h p in
    let b = test_ok (not (bytes_eq (take 4 bytes) magic)) Magic _ h a.1 in
    let c = format_ok (format_of (version_of bytes)) bytes h b.1 in
    let d = test_ok (not (bytes_eq tail (sha256 text))) Digest _ h c.2 in
    let long : 40 ≤ length bytes = ltb-false _ _ a.0 in
    let e : bytes ≡ text ++ tail = sym (take-append-drop n bytes) in
    let size : 8 ≤ length text = omega (arith, length-take n bytes) in
    let opening = eight (number c.0) bytes text tail fits e size (equal_bytes _ _ b.0)
    (version_is (version_of bytes) c.0 c.1) in
    let t = taken_ok c.0 text h (IsBytes-drop 8 text (IsBytes-take n bytes fits)) opening d.1 in
    record {
      format = c.0;
      encodes = record {
        fits = t.0;
        is = e ∙ ap (λ (l : List ℕ). text ++ l) (equal_bytes _ _ d.0) ∙ ap (λ (l : List ℕ). l ++ sha256 l) t.1;
      };
      of_today = t.2;
      coherent = t.3;
    }
