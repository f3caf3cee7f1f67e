-- Edit lists that are read one after the other.
use Rattle.std.proofs.Common.{◌≡◌, ◌<◌, ◌≤◌, ◌+◌, ℕ, List, [], ◌∷◌, ◌++◌, length, take, map, get_or, Bor, Vec, ap, sym, subst, ◌∙◌, arith}
use Rattle.std.specs.Global.{Global}
use Rattle.std.proofs.lemmas.List.{append-nil, map_push, map-append, length-map, take_all, take_more, get_or-map}
use Rattle.std.proofs.lemmas.List.Elements.{all_zip_more}
use Rattle.edit_spec.specs.declared.TheConstants.{MOST_LIST_BYTES}
use Rattle.edit_list.specs.Lists.{bytes_of_each}
use Rattle.ith_host.specs.World.{World, NoneFell, Stays, AsksFor, IsContent}
use Rattle.ith_commands.specs.declared.status.Status.{Status}
use Rattle.ith_commands.specs.declared.status.Status.TheVariants as status
use Rattle.ith_words.specs.Words.{Text}
use Rattle.ith_commands.specs.Files.{Named, Reads, lists_named}
use Rattle.ith_commands.specs.Contents.{AreLists}
use Rattle.ith_commands.specs.Refusals.{WhyUnread}
use Rattle.ith_commands.proofs.Worlds.{stays_trans, none_fell_trans, content_before}
use Rattle.ith_commands.proofs.Asking.{unbegun, asked_both, lists_asked, lists_within, split_at, unread_front, unread_more}

-- the texts of names
abbrev pub texts_of : List (Bor (List ℕ)) → List Text
texts_of names = map (λ name. name.now) names

-- the first of the lists were read
pub record IsReading (a w : World) (names : List (Bor (List ℕ))) (place : ℕ) (lists : List (Vec ℕ Global)) :
    Type 0 where
  pub are : AreLists a (take place (texts_of names)) (bytes_of_each lists)
  pub stays : Stays a w
  pub counts : NoneFell a w
  pub asked : AsksFor (take place (texts_of names)) a w

pub none_read : (a : World) (names : List (Bor (List ℕ))) (lists : List (Vec ℕ Global)) → lists ≡ [] → Stays a a
    → NoneFell a a → IsReading a a names 0 lists
none_read a names lists none stays counts =
    rw none (record { are = tt; stays = stays; counts = counts; asked = sym (append-nil a.asked) })

name_at : (names : List (Bor (List ℕ))) (place : ℕ) (name d : Bor (List ℕ)) → place < length names
    → name ≡ get_or names place d → name.now ≡ get_or (texts_of names) place name.now
name_at names place name d within at = ap (λ (n : Bor (List ℕ)). n.now) at
    ∙ sym (get_or-map (λ (n : Bor (List ℕ)). n.now) names place d name.now within)

-- the names up to a place, and the one there
next_name : (names : List (Bor (List ℕ))) (place : ℕ) (name d : Bor (List ℕ)) → place < length names
    → name ≡ get_or names place d
    → take (place + 1) (texts_of names) ≡ take place (texts_of names) ++ name.now ∷ []
next_name names place name d within at =
    let inside : place < length (texts_of names) = let same =
    length-map names (λ (n : Bor (List ℕ)). n.now) in omega arith in
    take_more (texts_of names) place name.now inside
    ∙ ap (λ (t : Text). take place (texts_of names) ++ t ∷ []) (sym (name_at names place name d within at))

-- one more list was read
pub one_read :
    (a w v : World) (names : List (Bor (List ℕ))) (place : ℕ) (name d : Bor (List ℕ)) (lists : List (Vec ℕ Global))
    (list : Vec ℕ Global)
    → IsReading a w names place lists → place < length names → name ≡ get_or names place d
    → IsContent w name.now list.items → length list.items ≤ MOST_LIST_BYTES
    → Reads (record { name = name.now; most = MOST_LIST_BYTES } ∷ []) w v
    → IsReading a v names (place + 1) (lists ++ list ∷ [])
one_read a w v names place name d lists list reading within at content short more =
    let inside : place < length (texts_of names) = let same =
    length-map names (λ (n : Bor (List ℕ)). n.now) in omega arith in
    let all =
    all_zip_more (λ name list. IsContent a name list × (length list ≤ MOST_LIST_BYTES)) (texts_of names)
    (bytes_of_each lists) place name.now list.items inside
    (name_at names place name d within at) reading.are
    (content_before a w name.now list.items reading.stays content, short) in
    record {
      are = rw (map_push (λ (v : Vec ℕ Global). v.items) lists list) all;
      stays = stays_trans a w v reading.stays more.stays;
      counts = none_fell_trans a w v reading.counts more.counts;
      asked = subst (λ (ns : List Text). AsksFor ns a v) (sym (next_name names place name d within at))
          (asked_both (take place (texts_of names)) (name.now ∷ []) a w v reading.asked more.asked);
    }

-- all were read
pub all_reads :
    (a w : World) (names : List (Bor (List ℕ))) (place : ℕ) (lists : List (Vec ℕ Global))
    → IsReading a w names place lists → length names ≤ place → Reads (lists_named (texts_of names)) a w
all_reads a w names place lists reading over =
    let past : length (texts_of names) ≤ place = let same =
    length-map names (λ (n : Bor (List ℕ)). n.now) in omega arith in
    record {
      asked = lists_asked (texts_of names) a w
          (subst (λ (ns : List Text). AsksFor ns a w) (take_all place (texts_of names) past) reading.asked);
      stays = reading.stays;
      counts = reading.counts;
    }

-- and the contents of the lists are those that were read
pub all_read :
    (a w : World) (names : List (Bor (List ℕ))) (place : ℕ) (lists : List (Vec ℕ Global))
    → IsReading a w names place lists → length names ≤ place → AreLists a (texts_of names) (bytes_of_each lists)
all_read a w names place lists reading over =
    let past : length (texts_of names) ≤ place = let same =
    length-map names (λ (n : Bor (List ℕ)). n.now) in omega arith in
    subst (λ (ns : List Text). AreLists a ns (bytes_of_each lists)) (take_all place (texts_of names) past) reading.are

-- one wasn't read, after the first of the lists were
pub one_unread :
    (a w v : World) (names : List (Bor (List ℕ))) (place : ℕ) (name d : Bor (List ℕ)) (lists : List (Vec ℕ Global))
    (s : Status)
    → IsReading a w names place lists → place < length names → name ≡ get_or names place d
    → WhyUnread (record { name = name.now; most = MOST_LIST_BYTES } ∷ []) w v s
    → WhyUnread (lists_named (texts_of names)) a v s
one_unread a w v names place name d lists s reading within at why =
    let all = texts_of names in let front = take place all in
    let inside : place < length all = let same = length-map names (λ (n : Bor (List ℕ)). n.now) in omega arith in
    let split = split_at all place name.now inside (name_at names place name d within at) in
    let here : Named = record { name = name.now; most = MOST_LIST_BYTES } in
    let are : lists_named all ≡ lists_named front ++ here ∷ lists_named split.0 =
    ap lists_named split.1 ∙ map-append (λ (n : Text). record { name = n; most = MOST_LIST_BYTES }) front
    (name.now ∷ split.0) in
    subst (λ (files : List Named). WhyUnread files a v s) (sym are)
    (unread_more (lists_named front) (here ∷ lists_named split.0) a w v s
    (record { asked = lists_asked front a w reading.asked; stays = reading.stays; counts = reading.counts })
    (lists_within a front (bytes_of_each lists) reading.are)
    (unread_front (here ∷ []) (lists_named split.0) w v s why))

-- one was read, and then there was no memory for it
pub one_dropped :
    (a w v : World) (names : List (Bor (List ℕ))) (place : ℕ) (name d : Bor (List ℕ)) (lists : List (Vec ℕ Global))
    → IsReading a w names place lists → place < length names → name ≡ get_or names place d
    → Reads (record { name = name.now; most = MOST_LIST_BYTES } ∷ []) w v
    → WhyUnread (lists_named (texts_of names)) a v status.NoMemory
one_dropped a w v names place name d lists reading within at reads =
    one_unread a w v names place name d lists status.NoMemory reading within at
    (unbegun (record { name = name.now; most = MOST_LIST_BYTES } ∷ []) w v reads.asked reads.stays)
