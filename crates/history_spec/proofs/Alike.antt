-- Machines that are the same but for bytes of views that no thunk reads: applying a record keeps them alike.
use Rattle.std.proofs.Common.{◌≡◌, ◌≢◌, ℕ, suc, Bool, true, false, ◌&&◌, ◌||◌, eqb, cond, List, [], ◌∷◌, ◌++◌, length, map, Option, Some, None, is_none, refl, ap, ap₂, sym, ◌∙◌, subst, inl, inr, ◌⊎◌, arith}
use Rattle.std.proofs.lemmas.Bool.{cases_eq, eq-eqb, eqb-true}
use Rattle.std.proofs.lemmas.Bool.Decides.{nat_tests}
use Rattle.std.specs.List.{list_all, list_any}
use Rattle.std.specs.Str.{bytes_eq}
use Rattle.isa_spec.specs.Registers.{Registers, same_registers}
use Rattle.memory_spec.specs.Pages.{Memory, IsMemory, page_of}
use Rattle.guest_call.specs.declared.Fate.{Fate}
use Rattle.guest_call.specs.declared.Fate.TheVariants.{Returns, Blocks, Ends, Exits}
use Rattle.guest_call.specs.Effect.{Effect}
use Rattle.thunk_spec.specs.Thunk.{Frame, Thunk, thunk}
use Rattle.thunk_spec.proofs.ThunkLocality.{thunk-same}
use Rattle.thunk_spec.specs.Reads.{ReadPage, reads_of, has}
use Rattle.thunk_spec.specs.Record.{Record, Kept, kept_thunk, put_of, IsTrue, fits_at, may_end}
use Rattle.thunk_spec.proofs.Truth.{agree-has, StandsFor-true}
use Rattle.machine_spec.specs.declared.states.Status.{Status}
use Rattle.machine_spec.specs.declared.states.End.{End}
use Rattle.machine_spec.specs.Machine.{Hart, Machine, hart_of, hart_in, is_ready, is_ended}
use Rattle.machine_spec.specs.Performing.{returned, fated, first_hart}
use Rattle.machine_spec.specs.Step.{fits, fate_end, end_after, state_end}
use Rattle.machine_spec.specs.Whole.{IsWhole}
use Rattle.machine_spec.proofs.Harts.{ready-below}
use Rattle.machine_spec.proofs.Steps.{hart-at}
use Rattle.history_spec.specs.Facts.{returning, starting, served, read_by, read_slots}
use Rattle.history_spec.specs.Before.{is_in}
use Rattle.history_spec.proofs.Lists.{is_or_not, or-left, or-right, or-in_left, or-in_right, is_in-append}
use Rattle.history_spec.proofs.After.{woken_at, settled_at, created_at, ran_at, after_at, woken_at-none}

-- a hart without its view
abbrev pub bare : Hart → Hart
bare h = record { view = []; regs = h.regs; number = h.number; status = h.status }

-- two machines that are alike: they differ in views alone, and while there is no end, only on pages that the next old
-- thunk of a ready thread doesn't read
pub record IsAlike (reads : ℕ → ℕ → List ℕ) (m n : Machine) : Type 0 where
  pub frame : n.frame ≡ m.frame
  pub limit : n.limit ≡ m.limit
  pub memory : n.memory ≡ m.memory
  pub objects : n.objects ≡ m.objects
  pub output : n.output ≡ m.output
  pub steps : n.steps ≡ m.steps
  pub ending : n.ending ≡ m.ending
  pub count : length n.harts ≡ length m.harts
  pub harts : (u : ℕ) → bare (hart_of n u) ≡ bare (hart_of m u)
  pub views :
      is_none m.ending ≡ true → (u p : ℕ) → is_ready (hart_of m u).status ≡ true
      → is_in p (reads u (hart_of m u).number) ≡ true
      → page_of (hart_of n u).view p ≡ page_of (hart_of m u).view p

-- a record that is true, and whose read pages are those given for its thunk
pub record IsReading (reads : ℕ → ℕ → List ℕ) (f : Frame) (r : Record) : Type 0 where
  pub honest : IsTrue f r.start r.kept
  pub slots : reads r.thread r.number ≡ read_slots r

-- without views

bare-cond : (b : Bool) (x y g h : Hart) → bare x ≡ bare y → bare g ≡ bare h → bare (cond b x g) ≡ bare (cond b y h)
bare-cond true x y g h same rest = same
bare-cond false x y g h same rest = rest

bare-returned :
    (mem other : Memory) (a : ℕ) (reported : Option ℕ) (g h : Hart) → bare g ≡ bare h
    → bare (returned mem a reported g) ≡ bare (returned other a reported h)
bare-returned mem other a reported g h same = ap (λ (x : Hart). returned [] a reported x) same

bare-fated :
    (f : Fate) (mem other : Memory) (g h : Hart) → bare g ≡ bare h → bare (fated f mem g) ≡ bare (fated f other h)
bare-fated (Returns a b) mem other g h same = bare-returned mem other a b g h same
bare-fated Blocks mem other g h same = ap (λ (x : Hart). fated Blocks [] x) same
bare-fated (Ends v) mem other g h same = ap (λ (x : Hart). fated (Ends v) [] x) same
bare-fated (Exits code) mem other g h same = same

bare-woken :
    (mem other : Memory) (reported : Option ℕ) (us : List ℕ) (u : ℕ) (g h : Hart) → bare g ≡ bare h
    → bare (woken_at mem reported us u g) ≡ bare (woken_at other reported us u h)
bare-woken mem other reported [] u g h same = same
bare-woken mem other reported (v ∷ us) u g h same =
    bare-woken mem other reported us u (cond (eqb v u) (returned mem 0 reported g) g)
    (cond (eqb v u) (returned other 0 reported h) h)
    (bare-cond (eqb v u) (returned mem 0 reported g) (returned other 0 reported h) g h
    (bare-returned mem other 0 reported g h same) same)

bare-created :
    (mem other : Memory) (c : Option (ℕ × ℕ)) (n u : ℕ) (g h : Hart) → bare g ≡ bare h
    → bare (created_at mem c n u g) ≡ bare (created_at other c n u h)
bare-created mem other None n u g h same = same
bare-created mem other (Some c) n u g h same =
    bare-cond (eqb n u) (first_hart mem n c.0 c.1) (first_hart other n c.0 c.1) g h refl same

bare-ran : (r : Record) (u : ℕ) (g h : Hart) → bare g ≡ bare h → bare (ran_at r u g) ≡ bare (ran_at r u h)
bare-ran r u g h same =
    bare-cond (eqb r.thread u)
    (record { view = g.view; regs = r.kept.finish; number = suc g.number; status = g.status })
    (record { view = h.view; regs = r.kept.finish; number = suc h.number; status = h.status }) g h
    (ap (λ (x : Hart). record { view = []; regs = r.kept.finish; number = suc x.number; status = x.status }) same) same

pub bare-after :
    (e : Effect) (mem other : Memory) (r : Record) (n u : ℕ) (g h : Hart)
    → bare g ≡ bare h → bare (after_at e mem r n u g) ≡ bare (after_at e other r n u h)
bare-after e mem other r n u g h same =
    let ran : bare (ran_at r u g) ≡ bare (ran_at r u h) = bare-ran r u g h same in
    let called : bare (cond (eqb r.thread u) (fated e.fate mem (ran_at r u g)) (ran_at r u g))
    ≡ bare (cond (eqb r.thread u) (fated e.fate other (ran_at r u h)) (ran_at r u h)) =
    bare-cond (eqb r.thread u) (fated e.fate mem (ran_at r u g)) (fated e.fate other (ran_at r u h)) (ran_at r u g)
    (ran_at r u h)
    (bare-fated e.fate mem other (ran_at r u g) (ran_at r u h) ran) ran in
    bare-created mem other e.created n u (settled_at e mem r.thread u (ran_at r u g))
    (settled_at e other r.thread u (ran_at r u h))
    (bare-woken mem other e.reported e.woken u
    (cond (eqb r.thread u) (fated e.fate mem (ran_at r u g)) (ran_at r u g))
    (cond (eqb r.thread u) (fated e.fate other (ran_at r u h)) (ran_at r u h)) called)

-- which threads a step touches
abbrev pub touched : Effect → ℕ → ℕ → ℕ → Bool
touched e t n u = eqb t u || (is_in u e.woken || is_in u (starting n e.created))

uncreated-at :
    (mem : Memory) (c : Option (ℕ × ℕ)) (n u : ℕ) (h : Hart) → is_in u (starting n c) ≡ false
    → created_at mem c n u h ≡ h
uncreated-at mem None n u h none = refl
uncreated-at mem (Some c) n u h none = let is : eqb n u ≡ false = or-left (eqb n u) false none in rw is refl

pub untouched-after :
    (e : Effect) (mem : Memory) (r : Record) (n u : ℕ) (h : Hart) → touched e r.thread n u ≡ false
    → after_at e mem r n u h ≡ h
untouched-after e mem r n u h none =
    let own : eqb r.thread u ≡ false =
    or-left (eqb r.thread u) (is_in u e.woken || is_in u (starting n e.created)) none in
    let rest = or-right (eqb r.thread u) (is_in u e.woken || is_in u (starting n e.created)) none in
    let quiet : is_in u e.woken ≡ false = or-left (is_in u e.woken) (is_in u (starting n e.created)) rest in
    let old : is_in u (starting n e.created) ≡ false =
    or-right (is_in u e.woken) (is_in u (starting n e.created)) rest in
    let ran : ran_at r u h ≡ h = rw own refl in
    let called : cond (eqb r.thread u) (fated e.fate mem h) h ≡ h = rw own refl in
    uncreated-at mem e.created n u (settled_at e mem r.thread u (ran_at r u h)) old
    ∙ ap (settled_at e mem r.thread u) ran
    ∙ ap (woken_at mem e.reported e.woken u) called
    ∙ woken_at-none mem e.reported e.woken u h quiet

woken-stays_new :
    (mem : Memory) (reported : Option ℕ) (us : List ℕ) (u : ℕ) (h : Hart) → h.view ≡ mem
    → (woken_at mem reported us u h).view ≡ mem
woken-stays_new mem reported [] u h new = new
woken-stays_new mem reported (v ∷ us) u h new =
    woken-stays_new mem reported us u (cond (eqb v u) (returned mem 0 reported h) h) (here (eqb v u))
  where
    here : (b : Bool) → (cond b (returned mem 0 reported h) h).view ≡ mem
    here true = refl
    here false = new

woken-new :
    (mem : Memory) (reported : Option ℕ) (us : List ℕ) (u : ℕ) (h : Hart) → is_in u us ≡ true
    → (woken_at mem reported us u h).view ≡ mem
woken-new mem reported [] u h there = cc
woken-new mem reported (v ∷ us) u h there = here (woken-new mem reported us u h) (eqb v u) there
  where
    here :
        (is_in u us ≡ true → (woken_at mem reported us u h).view ≡ mem) → (b : Bool) → (b || is_in u us) ≡ true
        → (woken_at mem reported us u (cond b (returned mem 0 reported h) h)).view ≡ mem
    here later true h1 = woken-stays_new mem reported us u (returned mem 0 reported h) refl
    here later false h1 = later h1

-- a thread to which an effect gives a view has it
pub record IsServed (e : Effect) (mem : Memory) (t n u : ℕ) (h : Hart) : Type 0 where
  pub there : is_in u (served e t n) ≡ true
  pub view : h.view ≡ mem

in-served_fate : (e : Effect) (t n u : ℕ) → is_in u (returning t e.fate) ≡ true → is_in u (served e t n) ≡ true
in-served_fate e t n u h =
    is_in-append u (returning t e.fate) (e.woken ++ starting n e.created)
    ∙ or-in_left (is_in u (returning t e.fate)) (is_in u (e.woken ++ starting n e.created)) h

in-served_rest :
    (e : Effect) (t n u : ℕ) → (is_in u e.woken || is_in u (starting n e.created)) ≡ true
    → is_in u (served e t n) ≡ true
in-served_rest e t n u h =
    is_in-append u (returning t e.fate) (e.woken ++ starting n e.created)
    ∙ or-in_right (is_in u (returning t e.fate)) (is_in u (e.woken ++ starting n e.created))
    (is_in-append u e.woken (starting n e.created) ∙ h)

fated-served :
    (f : Fate) (mem : Memory) (t u : ℕ) (h : Hart)
    → eqb t u ≡ true → fate_end f ≡ None → is_ready (fated f mem h).status ≡ true
    → (is_in u (returning t f) ≡ true) × ((fated f mem h).view ≡ mem)
fated-served (Returns a b) mem t u h own none ready = (or-in_left (eqb t u) false own, refl)
fated-served Blocks mem t u h own none ready = cc
fated-served (Ends v) mem t u h own none ready = cc
fated-served (Exits code) mem t u h own none ready = cc

created-served :
    (e : Effect) (mem : Memory) (t u n : ℕ) (c : Option (ℕ × ℕ)) (h : Hart)
    → e.created ≡ c → is_in u (starting n c) ≡ true → IsServed e mem t n u (created_at mem c n u h)
created-served e mem t u n None h is there = cc
created-served e mem t u n (Some c) h is there =
    let own : eqb n u ≡ true = here (eqb n u) there in
    record {
      there = in-served_rest e t n u (or-in_right (is_in u e.woken) (is_in u (starting n e.created)) (rw is there));
      view = rw own refl;
    }
  where
    here : (b : Bool) → (b || false) ≡ true → b ≡ true
    here true h1 = refl
    here false h1 = h1

-- a thread that is touched, and ready after a step without an end, was given its view
pub touched-served :
    (e : Effect) (mem : Memory) (r : Record) (n u : ℕ) (h : Hart)
    → touched e r.thread n u ≡ true → fate_end e.fate ≡ None → is_ready (after_at e mem r n u h).status ≡ true
    → IsServed e mem r.thread n u (after_at e mem r n u h)
touched-served e mem r n u h is none ready =
    elim (is_or_not (is_in u (starting n e.created))) [
      | inl new ↦ created-served e mem r.thread u n e.created (settled_at e mem r.thread u (ran_at r u h)) refl new
      | inr old ↦
          let same : after_at e mem r n u h ≡ settled_at e mem r.thread u (ran_at r u h) =
          uncreated-at mem e.created n u (settled_at e mem r.thread u (ran_at r u h)) old in
          subst (IsServed e mem r.thread n u) (sym same)
          (elim (is_or_not (is_in u e.woken)) [
            | inl woke ↦
                record {
                  there =
                      in-served_rest e r.thread n u
                      (or-in_left (is_in u e.woken) (is_in u (starting n e.created)) woke);
                  view =
                      woken-new mem e.reported e.woken u
                      (cond (eqb r.thread u) (fated e.fate mem (ran_at r u h)) (ran_at r u h)) woke;
                }
            | inr quiet ↦
                let own : eqb r.thread u ≡ true =
                here (eqb r.thread u) (is_in u e.woken) (is_in u (starting n e.created)) quiet old is in
                let settled : settled_at e mem r.thread u (ran_at r u h) ≡ fated e.fate mem (ran_at r u h) =
                woken_at-none mem e.reported e.woken u
                (cond (eqb r.thread u) (fated e.fate mem (ran_at r u h)) (ran_at r u h)) quiet ∙ rw own refl in
                let served =
                fated-served e.fate mem r.thread u (ran_at r u h) own none
                (ap (λ (x : Hart). is_ready x.status) (sym settled) ∙ ap (λ (x : Hart). is_ready x.status) (sym same)
                ∙ ready) in
                record {
                  there = in-served_fate e r.thread n u served.0;
                  view = ap (λ (x : Hart). x.view) settled
                      ∙ served.1;
                }
          ])
    ]
  where
    here : (a b c : Bool) → b ≡ false → c ≡ false → (a || (b || c)) ≡ true → a ≡ true
    here true b c p q h1 = refl
    here false false false p q h1 = h1
    here false true c p q h1 = cc
    here false false true p q h1 = cc

-- what is opened, and what is given

pub read_by-in :
    (reads : ℕ → ℕ → List ℕ) (m : Machine) (us : List ℕ) (u p : ℕ)
    → is_in u us ≡ true → is_in p (reads u (hart_of m u).number) ≡ true → is_in p (read_by reads m us) ≡ true
read_by-in reads m [] u p there read = cc
read_by-in reads m (v ∷ us) u p there read =
    is_in-append p (reads v (hart_of m v).number) (read_by reads m us) ∙ here (read_by-in reads m us u p) (cases_eq v u)
  where
    here :
        (is_in u us ≡ true → is_in p (reads u (hart_of m u).number) ≡ true → is_in p (read_by reads m us) ≡ true)
        → (v ≡ u) ⊎ (v ≢ u) → (is_in p (reads v (hart_of m v).number) || is_in p (read_by reads m us)) ≡ true
    here later (inl same) =
        or-in_left (is_in p (reads v (hart_of m v).number)) (is_in p (read_by reads m us))
        (subst (λ (w : ℕ). is_in p (reads w (hart_of m w).number) ≡ true) (sym same) read)
    here later (inr other) =
        or-in_right (is_in p (reads v (hart_of m v).number)) (is_in p (read_by reads m us))
        (later (let none : eqb v u ≡ false = grind (arith, nat_tests) in rw none at there) read)

pub read_by-on :
    (reads : ℕ → ℕ → List ℕ) (m n : Machine) (us : List ℕ)
    → ((u : ℕ) → is_in u us ≡ true → bare (hart_of n u) ≡ bare (hart_of m u)) → read_by reads n us ≡ read_by reads m us
read_by-on reads m n [] same = refl
read_by-on reads m n (u ∷ us) same =
    ap₂ (λ (k : ℕ) (rest : List ℕ). reads u k ++ rest)
    (ap (λ (h : Hart). h.number) (same u (or-in_left (eqb u u) (is_in u us) (eq-eqb u u refl))))
    (read_by-on reads m n us (λ v there. same v (or-in_right (eqb u v) (is_in v us) there)))

pub served-touched : (e : Effect) (t n u : ℕ) → is_in u (served e t n) ≡ true → touched e t n u ≡ true
served-touched e t n u there =
    here (is_in u (returning t e.fate)) (eqb t u) (is_in u (e.woken ++ starting n e.created))
    (is_in u e.woken || is_in u (starting n e.created))
    (own e.fate) (is_in-append u e.woken (starting n e.created))
    (sym (is_in-append u (returning t e.fate) (e.woken ++ starting n e.created)) ∙ there)
  where
    own : (f : Fate) → is_in u (returning t f) ≡ true → eqb t u ≡ true
    own (Returns x y) h = only (eqb t u) h
      where
        only : (b : Bool) → (b || false) ≡ true → b ≡ true
        only true g = refl
        only false g = g
    own Blocks h = cc
    own (Ends v) h = cc
    own (Exits code) h = cc

    here : (x y c d : Bool) → (x ≡ true → y ≡ true) → c ≡ d → (x || c) ≡ true → (y || d) ≡ true
    here true y c d one two h = or-in_left y d (one refl)
    here false y c d one two h = or-in_right y d (sym two ∙ h)

-- the end by the state

all-like : (hs gs : List Hart) → length gs ≡ length hs → ((u : ℕ) → bare (hart_in gs u) ≡ bare (hart_in hs u))
    → (list_all (λ (h : Hart). is_ended h.status) gs ≡ list_all (λ (h : Hart). is_ended h.status) hs)
    × (list_any (λ (h : Hart). is_ready h.status) gs ≡ list_any (λ (h : Hart). is_ready h.status) hs)
all-like [] [] count same = (refl, refl)
all-like [] (g ∷ gs) count same = absurd (omega arith)
all-like (h ∷ hs) [] count same = absurd (omega arith)
all-like (h ∷ hs) (g ∷ gs) count same =
    let rest = all-like hs gs (omega arith) (λ u. same (suc u)) in
    let status : g.status ≡ h.status = ap (λ (x : Hart). x.status) (same 0) in (
      ap₂ (λ (s : Status) (b : Bool). is_ended s && b) status rest.0,
      ap₂ (λ (s : Status) (b : Bool). is_ready s || b) status rest.1,
    )

pub state_end-like :
    (hs gs : List Hart) (limit steps : ℕ) → length gs ≡ length hs
    → ((u : ℕ) → bare (hart_in gs u) ≡ bare (hart_in hs u))
    → state_end gs limit steps ≡ state_end hs limit steps
state_end-like hs gs limit steps count same =
    let both = all-like hs gs count same in rw (both.0, both.1) refl

pub end_after-like :
    (e : Option End) (hs gs : List Hart) (limit steps : ℕ) → length gs ≡ length hs
    → ((u : ℕ) → bare (hart_in gs u) ≡ bare (hart_in hs u))
    → end_after e gs limit steps ≡ end_after e hs limit steps
end_after-like (Some x) hs gs limit steps count same = refl
end_after-like None hs gs limit steps count same = state_end-like hs gs limit steps count same

-- fitting, and the bytes of a put

pub has-like :
    (reads : List ReadPage) (v w : Memory)
    → ((p : ℕ) → is_in p (map (λ (x : ReadPage). x.slot) reads) ≡ true → page_of w p ≡ page_of v p)
    → has w reads ≡ has v reads
has-like [] v w same = refl
has-like (x ∷ reads) v w same =
    let own : eqb x.slot x.slot ≡ true = eq-eqb x.slot x.slot refl in
    ap₂ (λ (page : List ℕ) (b : Bool). bytes_eq page x.bytes && b)
    (same x.slot (or-in_left (eqb x.slot x.slot) (is_in x.slot (map (λ (y : ReadPage). y.slot) reads)) own))
    (has-like reads v w
    (λ p there. same p (or-in_right (eqb x.slot p) (is_in p (map (λ (y : ReadPage). y.slot) reads)) there)))

pub put-like :
    (f : Frame) (v w : Memory) (start : Registers) (k : Kept)
    → IsTrue f start k → IsMemory f.map v → IsMemory f.map w → has v k.reads ≡ true → has w k.reads ≡ true
    → put_of f.map w k ≡ put_of f.map v k
unfolding kept_thunk
put-like f v w start k honest whole_v whole_w has_v has_w =
    let kept : kept_thunk f v start ≡ k = honest.same v whole_v has_v in
    let reads : reads_of f.map v (thunk f v start).taken ≡ k.reads = ap (λ (x : Kept). x.reads) kept in
    let agree = agree-has f.map v w (thunk f v start).taken whole_v whole_w (rw reads has_w) in
    let same : thunk f w start ≡ thunk f v start = thunk-same f v w start agree in
    (StandsFor-true f w w start k honest has_w whole_w whole_w).put_is
    ∙ ap (λ (t : Thunk). t.put) same
    ∙ sym (StandsFor-true f v v start k honest has_v whole_v whole_v).put_is

pub view-of :
    (m : Machine) (t : ℕ) → IsWhole m → is_ready (hart_of m t).status ≡ true → IsMemory m.frame.map (hart_of m t).view
view-of m t whole ready = (hart-at m.frame.map m.steps m.harts t (ready-below m.harts t ready) whole.harts).view

-- what it is for a record to fit, in parts
pub record IsFitting (m : Machine) (r : Record) : Type 0 where
  pub ready : is_ready (hart_of m r.thread).status ≡ true
  pub number : r.number ≡ (hart_of m r.thread).number
  pub start : same_registers r.start (hart_of m r.thread).regs ≡ true
  pub reads : has (hart_of m r.thread).view r.kept.reads ≡ true
  pub ends : may_end m.frame.fuel r.kept.end r.kept.count ≡ true

fitting-of :
    (ready number regs reads ends : Bool)
    → (ready && (number && regs && reads && ends)) ≡ true
    → (ready ≡ true) × (number ≡ true) × (regs ≡ true) × (reads ≡ true) × (ends ≡ true)
fitting-of true true true true true fit = (refl, refl, refl, refl, refl)
fitting-of true true true true false fit = cc
fitting-of true true true false ends fit = cc
fitting-of true true false reads ends fit = cc
fitting-of true false regs reads ends fit = cc
fitting-of false number regs reads ends fit = cc

pub fits-parts : (m : Machine) (r : Record) → fits m r ≡ true → IsFitting m r
unfolding fits fits_at
fits-parts m r fit =
    let parts =
    fitting-of (is_ready (hart_of m r.thread).status) (eqb r.number (hart_of m r.thread).number)
    (same_registers r.start (hart_of m r.thread).regs) (has (hart_of m r.thread).view r.kept.reads)
    (may_end m.frame.fuel r.kept.end r.kept.count) fit in
    record {
      ready = parts.0;
      number = eqb-true r.number (hart_of m r.thread).number parts.1;
      start = parts.2;
      reads = parts.3;
      ends = parts.4;
    }

pub fits-from : (m : Machine) (r : Record) → IsFitting m r → fits m r ≡ true
unfolding fits fits_at
fits-from m r fit =
    let is : eqb r.number (hart_of m r.thread).number ≡ true =
    eq-eqb r.number (hart_of m r.thread).number fit.number in
    let ready : is_ready (hart_of m r.thread).status ≡ true = fit.ready in
    let start : same_registers r.start (hart_of m r.thread).regs ≡ true = fit.start in
    let reads : has (hart_of m r.thread).view r.kept.reads ≡ true = fit.reads in
    let ends : may_end m.frame.fuel r.kept.end r.kept.count ≡ true = fit.ends in
    rw (ready, is, start, reads, ends) refl
