-- What a cursor knows of the library that it reads.
use Rattle.std.proofs.Common.{◌≡◌, ◌≢◌, ℕ, zero, suc, ◌+◌, ◌-◌, ◌<◌, ◌≤◌, nat_le, Bool, true, false, List, [], ◌∷◌, ◌++◌, reverse}
use Rattle.std.proofs.Common.{length, take, Option, Some, None, Err, refl, sym, ap, subst, ◌∙◌, arith, length-append}
use Rattle.std.proofs.lemmas.Bool.Decides.{nat_tests}
use Rattle.std.specs.Option.{option_to_list}
use Rattle.std.proofs.lemmas.List.{append_assoc, append-nil, take_all, reverse-reverse, reverse-append}
use Rattle.std.proofs.Math.Seq.{take-append-add, take-append_seam}
use Rattle.grammar_rules.specs.Reading.{read}
use Rattle.liberty_text.specs.declared.token.Token.{Token}
use Rattle.liberty_text.specs.declared.scanner.Mode.{Mode}
use Rattle.liberty_text.specs.declared.scanner.Mode.TheVariants.{Between}
use Rattle.liberty_groups.specs.declared.fault.LibraryFault.{LibraryFault}
use Rattle.liberty_groups.specs.declared.fault.Refusal.{Refusal}
use Rattle.liberty_groups.specs.declared.read.End.{End}
use Rattle.liberty_groups.specs.declared.read.End.TheVariants.{Whole, Cut, Fault}
use Rattle.liberty_groups.specs.Lexeme.{Lexeme, lexemes_behind, LieInside}
use Rattle.liberty_groups.specs.Fault.{fault_at}
use Rattle.liberty_groups.specs.Answer.{end_of_bytes}
use Rattle.cell_cursor.specs.declared.cursor.Answer.{Answer}
use Rattle.cell_cursor.specs.declared.cursor.Answer.TheVariants as answer
use Rattle.cell_cursor.specs.declared.cursor.CellCursor.{CellCursor}
use Rattle.cell_cursor.specs.declared.item.LibraryItem.{LibraryItem}
use Rattle.cell_cursor.specs.declared.item.LibraryItem.TheVariants as item
use Rattle.cell_cursor.specs.declared.part.Place.{Place}
use Rattle.cell_cursor.specs.declared.part.Place.TheVariants as place
use Rattle.cell_cursor.specs.Ends.{end_within, items_within, ReadsSo, AreFirst}
use Rattle.cell_cursor.specs.Braces.{has_outer, LastMayBeOuter, LastIsNotOuter, kinds_of, lexeme_kinds}
use Rattle.cell_cursor.specs.Finish.{part_outcome, answer_at}
use Rattle.cell_cursor.specs.Given.{closed_items, IsFrontOf, HasSeen, HasGiven}
use Rattle.cell_cursor.specs.Items.{rest_at, items_in, items_of_bytes}
use Rattle.cell_cursor.specs.Leads.{LeadTo, is_start}
use Rattle.cell_cursor.specs.declared.statements.Reached.{Reached}
use Rattle.cell_cursor.specs.declared.statements.Reached.TheVariants as reached
use Rattle.cell_cursor.specs.Reached.{Comes, is_settled}
use Rattle.cell_cursor.specs.Scanned.{Scanned, AreScanned}
use Rattle.cell_cursor.specs.Stands.{Keeps, Goes, MayTake, GoesBy, Knows, Stands}
use Rattle.cell_cursor.proofs.EndsLemmas.{refused_reads, part_items, part_answers, answer_for, never_cut, never_whole}
use Rattle.cell_cursor.specs.Part.{all_scanned}
use Rattle.cell_cursor.specs.Progress.{scanned_by}
use Rattle.cell_cursor.proofs.Depths.{lexeme_kinds_behind}
use Rattle.cell_cursor.proofs.GivenLemmas.{seen_more, seen_items, seen_next, given_items, given_seen, place_closed, none_closed}
use Rattle.cell_cursor.proofs.GivenLemmas.{keeps_front, front_same, goes_open}
use Rattle.cell_cursor.proofs.LeadsLemmas.{leads_on, leads_first, leads_here}

-- the first bytes of a library, up to a limit that is behind them
take_within : (limit : ℕ) (bytes more : List ℕ) → length bytes ≤ limit
    → take limit (bytes ++ more) ≡ bytes ++ take (limit - length bytes) more
take_within limit bytes more h =
    let e : limit ≡ length bytes + (limit - length bytes) = omega (arith, h) in
    ap (λ (n : ℕ). take n (bytes ++ more)) e ∙ take-append-add bytes more (limit - length bytes)

pub are_first : (limit : ℕ) (before tail : List ℕ) (here : Place) (items : List LibraryItem)
    → ((more : List ℕ) → LeadTo before (tail ++ more) here items) → length (before ++ tail) ≤ limit
    → AreFirst limit (before ++ tail) items
unfolding items_within
are_first limit before tail here items leads h more =
    let rest = take (limit - length (before ++ tail)) more in (
      items_in (part_outcome here (length before) (tail ++ rest)),
      part_items before (tail ++ rest) here items (leads rest)
          ∙ ap items_of_bytes (sym (append_assoc before tail rest))
          ∙ ap items_of_bytes (sym (take_within limit (before ++ tail) more h)),
    )

pub first_more : (limit : ℕ) (bytes xs : List ℕ) (items : List LibraryItem) → AreFirst limit bytes items
    → AreFirst limit (bytes ++ xs) items
first_more limit bytes xs items h more =
    let k = h (xs ++ more) in
    (k.0, k.1 ∙ ap (items_within limit) (sym (append_assoc bytes xs more)))

reads_by : (limit : ℕ) (file front : List ℕ) (items : List LibraryItem) (end : End) → take limit file ≡ front
    → items ≡ items_of_bytes front → end_of_bytes front (nat_le (length file) limit) ≡ end → ReadsSo limit file items end
unfolding items_within end_within
reads_by limit file front items end e h i = record {
  items_are = h ∙ ap items_of_bytes (sym e);
  end_is = ap (λ (b : List ℕ). end_of_bytes b (nat_le (length file) limit)) e ∙ i;
}

pub reads_refused : (limit : ℕ) (before bytes piece : List ℕ) (tokens : List Token) (mode : Mode) (here : Place)
    (items all : List LibraryItem) (k : Refusal) (x : Lexeme) (m : List Lexeme) →
    ((tail : List ℕ) → LeadTo before (bytes ++ tail) here items) → AreScanned bytes tokens mode → LieInside bytes tokens
    → read (rest_at here []) (lexemes_behind (length before) bytes tokens) ≡ Err ((all, k), x ∷ m) →
    is_settled (length before + length bytes) x m ≡ true → length (before ++ (bytes ++ piece)) ≤ limit →
    (more : List ℕ) → ReadsSo limit ((before ++ (bytes ++ piece)) ++ more) (items ++ all) (Fault (fault_at k x.token.at))
reads_refused limit before bytes piece tokens mode here items all k x m leads scanned inside e f h more =
    let rest = take (limit - length (before ++ (bytes ++ piece))) more in
    let r = refused_reads before bytes tokens mode here items all k x m (piece ++ rest) leads scanned inside e f in
    let same : (before ++ (bytes ++ piece)) ++ rest ≡ before ++ (bytes ++ (piece ++ rest)) =
    append_assoc before (bytes ++ piece) rest ∙ ap (λ (b : List ℕ). before ++ b) (append_assoc bytes piece rest) in
    reads_by limit ((before ++ (bytes ++ piece)) ++ more) (before ++ (bytes ++ (piece ++ rest))) (items ++ all)
    (Fault (fault_at k x.token.at))
    (take_within limit (before ++ (bytes ++ piece)) more h ∙ same) r.0
    (r.1 (nat_le (length ((before ++ (bytes ++ piece)) ++ more)) limit))

pub reads_end : (limit : ℕ) (before bytes : List ℕ) (here : Place) (items : List LibraryItem) → LeadTo before bytes here items
    → length (before ++ bytes) ≤ limit →
    ReadsSo limit (before ++ bytes) (items ++ items_in (part_outcome here (length before) bytes))
    (end_of_bytes (before ++ bytes) true)
reads_end limit before bytes here items leads h =
    reads_by limit (before ++ bytes) (before ++ bytes) (items ++ items_in (part_outcome here (length before) bytes))
    (end_of_bytes (before ++ bytes) true)
    (take_all limit (before ++ bytes) h) (part_items before bytes here items leads)
    (ap (end_of_bytes (before ++ bytes)) (inside (length (before ++ bytes)) limit h))
  where
    inside : (n limit : ℕ) → n ≤ limit → nat_le n limit ≡ true
    inside n limit h = grind (arith, nat_tests, h)

pub reads_limit : (limit : ℕ) (before bytes : List ℕ) (y : ℕ) (here : Place) (items : List LibraryItem)
    → LeadTo before bytes here items → length (before ++ bytes) ≡ limit →
    (more : List ℕ) → ReadsSo limit (((before ++ bytes) ++ y ∷ []) ++ more)
    (items ++ items_in (part_outcome here (length before) bytes)) (end_of_bytes (before ++ bytes) false)
reads_limit limit before bytes y here items leads h more =
    reads_by limit (((before ++ bytes) ++ y ∷ []) ++ more) (before ++ bytes)
    (items ++ items_in (part_outcome here (length before) bytes)) (end_of_bytes (before ++ bytes) false)
    (ap (take limit) (append_assoc (before ++ bytes) (y ∷ []) more)
    ∙ ap (λ (n : ℕ). take n ((before ++ bytes) ++ (y ∷ more))) (sym h) ∙ take-append_seam (before ++ bytes) (y ∷ more))
    (part_items before bytes here items leads)
    (ap (end_of_bytes (before ++ bytes)) (outside (length (((before ++ bytes) ++ y ∷ []) ++ more)) limit
    (omega (arith, length-append ((before ++ bytes) ++ y ∷ []) more, length-append (before ++ bytes) (y ∷ []), h))))
  where
    outside : (n limit : ℕ) → limit + 1 ≤ n → nat_le n limit ≡ false
    outside n limit h = grind (arith, nat_tests, h)

-- what a cursor knows that has no answer and no item that waits
pub goes_of : (c : CellCursor) (bytes : List ℕ) (items : List LibraryItem) → c.answer ≡ None → c.waiting.items ≡ []
    → Stands c bytes items → Goes c bytes items
goes_of c bytes items e w s =
    subst (λ (l : List LibraryItem). Goes c bytes l) (ap (λ (l : List LibraryItem). items ++ reverse l) w ∙ append-nil items)
    (subst (λ (a : Option Answer). Knows a c bytes (items ++ reverse c.waiting.items)) e s.known)

all_given : (items all : List LibraryItem) (waiting : List LibraryItem) → waiting ≡ reverse all
    → items ++ all ≡ items ++ reverse waiting
all_given items all waiting e = ap (λ (l : List LibraryItem). items ++ l) (sym (reverse-reverse all) ∙ ap reverse (sym e))

-- an answer, with the items up to it
pub stands_by : (n : CellCursor) (a : Option Answer) (bytes : List ℕ) (items all : List LibraryItem) → n.answer ≡ a
    → n.waiting.items ≡ reverse all →
    Knows a n bytes (items ++ all) → length bytes ≤ n.limit + 1 → HasGiven bytes items → Stands n bytes items
stands_by n a bytes items all e w h l i = record {
  known =
      subst (λ (b : Option Answer). Knows b n bytes (items ++ reverse n.waiting.items)) (sym e)
      (subst (λ (m : List LibraryItem). Knows a n bytes m) (all_given items all n.waiting.items w) h);
  within = l;
  given = i;
}

keeps_on : (o n : CellCursor) (there : Place) (all : List LibraryItem) (bytes : List ℕ) (items : List LibraryItem)
    → Keeps o bytes items →
    AreScanned o.part.bytes o.part.tokens o.part.mode → o.part.mode ≡ Between false → LieInside o.part.bytes o.part.tokens →
    is_start there ≡ false → ((more : List Lexeme)
    → read (rest_at o.place []) (lexemes_behind o.part.before o.part.bytes o.part.tokens ++ more) ≡ read
    (rest_at there all) more) →
    n.place ≡ there → n.piece ≡ o.piece → n.part.bytes ≡ [] → n.part.before ≡ o.part.before + length o.part.bytes
    → Keeps n bytes (items ++ all)
keeps_on o n there all bytes items g scanned mode inside not_start comes place_is piece_is bytes_are before_is =
    let scanned' : AreScanned o.part.bytes o.part.tokens (Between false) =
    subst (λ (m : Mode). AreScanned o.part.bytes o.part.tokens m) mode scanned in
    let comes' : (more : List Lexeme)
    → read (rest_at o.place []) (lexemes_behind (length g.before) o.part.bytes o.part.tokens ++ more) ≡ read
    (rest_at there all) more =
    λ more. ap (λ (k : ℕ). read (rest_at o.place []) (lexemes_behind k o.part.bytes o.part.tokens ++ more)) (sym g.size)
    ∙ comes more in
    record {
      before = g.before ++ o.part.bytes;
      split =
          g.split ∙ sym (append_assoc g.before o.part.bytes o.piece)
          ∙ ap (λ (s : List ℕ). (g.before ++ o.part.bytes) ++ s) (sym piece_is)
          ∙ ap (λ (s : List ℕ). (g.before ++ o.part.bytes) ++ (s ++ n.piece)) (sym bytes_are);
      size = before_is ∙ ap (λ (k : ℕ). k + length o.part.bytes) g.size ∙ sym (length-append g.before o.part.bytes);
      leads = λ more.
          subst (λ (p : Place). LeadTo (g.before ++ o.part.bytes) (n.part.bytes ++ more) p (items ++ all)) (sym place_is)
          (subst (λ (b : List ℕ). LeadTo (g.before ++ o.part.bytes) (b ++ more) there (items ++ all)) (sym bytes_are)
          (leads_on g.before o.part.bytes o.part.tokens o.place there items all more (g.leads more) scanned' inside not_start
          comes'));
    }

none_inner : (n : CellCursor) → n.part.tokens ≡ [] → has_outer n.place (kinds_of n.part.tokens) ≡ false
none_inner n e = ap (λ (ts : List Token). has_outer n.place (kinds_of ts)) e

-- the cells that are closed where statements have ended
seen_there : (n : CellCursor) (there : Place) (bytes : List ℕ) (items : List LibraryItem) → n.place ≡ there
    → is_start there ≡ false → n.part.bytes ≡ [] → Keeps n bytes items
    → IsFrontOf (closed_items (take (scanned_by n) bytes)) items
seen_there n there bytes items place_is not_start bytes_are k =
    front_same (take (scanned_by n) bytes) items
    (ap closed_items (keeps_front n bytes items k ∙ ap (λ (b : List ℕ). k.before ++ b) bytes_are ∙ append-nil k.before)
    ∙ place_closed k.before n.place items
    (subst (λ (b : List ℕ). LeadTo k.before b n.place items) bytes_are
    (leads_here k.before n.part.bytes n.place items k.leads)) (ap is_start place_is ∙ not_start))

pub goes_on : (o n : CellCursor) (there : Place) (all : List LibraryItem) (bytes : List ℕ) (items : List LibraryItem)
    → MayTake o bytes items →
    AreScanned o.part.bytes o.part.tokens o.part.mode → o.part.mode ≡ Between false → LieInside o.part.bytes o.part.tokens →
    is_start there ≡ false → ((more : List Lexeme)
    → read (rest_at o.place []) (lexemes_behind o.part.before o.part.bytes o.part.tokens ++ more) ≡ read
    (rest_at there all) more) →
    n.place ≡ there → n.piece ≡ o.piece → n.part.bytes ≡ [] → n.part.tokens ≡ []
    → n.part.before ≡ o.part.before + length o.part.bytes → Goes n bytes (items ++ all)
goes_on o n there all bytes items g scanned mode inside not_start comes place_is piece_is bytes_are no_tokens before_is =
    let k = keeps_on o n there all bytes items g.keeps scanned mode inside not_start comes place_is piece_is bytes_are before_is
    in
    let none = ap length bytes_are in
    let same : scanned_by o ≡ scanned_by n = omega (arith, before_is, none) in
    record {
      keeps = k;
      inner = none_inner n no_tokens;
      seen = seen_next (scanned_by n) bytes (items ++ all)
          (subst (λ (m : ℕ). HasSeen m bytes (items ++ all)) same (seen_items (scanned_by o) bytes items all g.seen))
          (seen_there n there bytes (items ++ all) place_is not_start bytes_are k);
    }

-- how many bytes were taken
pub taken_within : (c : CellCursor) (bytes : List ℕ) (items : List LibraryItem) (limit : ℕ) → Keeps c bytes items
    → c.part.before + (length c.part.bytes + length c.piece) ≤ limit → length bytes ≤ limit
taken_within c bytes items limit g h =
    let k = ap length g.split in
    omega (arith, k, h, g.size, length-append g.before (c.part.bytes ++ c.piece), length-append c.part.bytes c.piece)

pub going_size : (o : CellCursor) (bytes : List ℕ) (items : List LibraryItem) → Keeps o bytes items
    → length bytes ≡ o.part.before + (length o.part.bytes + length o.piece)
going_size o bytes items g =
    let k = ap length g.split in
    omega (arith, k, g.size, length-append g.before (o.part.bytes ++ o.piece), length-append o.part.bytes o.piece)

-- what was given, and a little that was taken since
given_by_now : (o : CellCursor) (bytes xs : List ℕ) (items : List LibraryItem) → Keeps o bytes items
    → HasSeen (scanned_by o) bytes items → length xs ≤ 16384 → HasGiven (bytes ++ xs) items
given_by_now o bytes xs items k h most =
    let size = going_size o bytes items k in
    let l : scanned_by o ≤ length bytes + 1 = omega (arith, size) in
    let few : length (bytes ++ xs) < scanned_by o + 65536 = omega (arith, size, length-append bytes xs, most, o.at_once) in
    given_seen (scanned_by o) (bytes ++ xs) items (seen_more (scanned_by o) bytes xs items l h) few

seen_before : (n : ℕ) (bytes : List ℕ) (items : List LibraryItem) → HasSeen (n + 1) bytes items → HasSeen n bytes items
seen_before n bytes items h e less = h e (omega (arith, less))

pub given_of_going : (o : CellCursor) (bytes xs : List ℕ) (items : List LibraryItem) → length xs ≤ 16384 → Goes o bytes items
    → HasGiven (bytes ++ xs) items
given_of_going o bytes xs items most g =
    given_by_now o bytes xs items g.keeps (seen_before (scanned_by o) bytes items g.seen) most

given_still : (o : CellCursor) (bytes : List ℕ) (items : List LibraryItem) → Keeps o bytes items
    → HasSeen (scanned_by o) bytes items → HasGiven bytes items
given_still o bytes items k h = subst (λ (b : List ℕ). HasGiven b items) (append-nil bytes)
    (given_by_now o bytes [] items k h (omega arith))

-- statements were taken
pub stands_to : (o n : CellCursor) (there : Place) (all : List LibraryItem) → o.answer ≡ None →
    AreScanned o.part.bytes o.part.tokens o.part.mode → o.part.mode ≡ Between false → LieInside o.part.bytes o.part.tokens →
    is_start there ≡ false → ((more : List Lexeme)
    → read (rest_at o.place []) (lexemes_behind o.part.before o.part.bytes o.part.tokens ++ more) ≡ read
    (rest_at there all) more) →
    n.limit ≡ o.limit → n.answer ≡ o.answer → n.place ≡ there → n.piece ≡ o.piece → n.part.bytes ≡ [] → n.part.tokens ≡ []
    → n.part.before ≡ o.part.before + length o.part.bytes → n.waiting.items ≡ reverse all →
    (bytes : List ℕ) (items : List LibraryItem) → MayTake o bytes items → Stands n bytes items
stands_to o n there all going scanned mode inside not_start comes limit_is answer_is place_is piece_is bytes_are no_tokens
    before_is waits bytes items g =
    let k = taken_within o bytes items o.limit g.keeps o.within in
    let l : length bytes ≤ n.limit + 1 = omega (arith, k, limit_is) in
    stands_by n None bytes items all (answer_is ∙ going) waits
    (goes_on o n there all bytes items g scanned mode inside not_start comes place_is piece_is bytes_are no_tokens before_is) l
    (given_still o bytes items g.keeps g.seen)

-- a token was refused
pub stands_refused : (o n : CellCursor) (f : LibraryFault) (all : List LibraryItem) (k : Refusal) (x : Lexeme) (m : List Lexeme) →
    AreScanned o.part.bytes o.part.tokens o.part.mode → LieInside o.part.bytes o.part.tokens → f ≡ fault_at k x.token.at →
    read (rest_at o.place []) (lexemes_behind o.part.before o.part.bytes o.part.tokens) ≡ Err ((all, k), x ∷ m)
    → is_settled (o.part.before + length o.part.bytes) x m ≡ true →
    n.limit ≡ o.limit → n.answer ≡ Some (answer.Refused f) → n.waiting.items ≡ reverse all →
    (bytes : List ℕ) (items : List LibraryItem) → Keeps o bytes items → HasSeen (scanned_by o) bytes items → Stands n bytes items
stands_refused o n f all k x m scanned inside fault_is e final limit_is answer_is waits bytes items g seen =
    let e' : read (rest_at o.place []) (lexemes_behind (length g.before) o.part.bytes o.part.tokens) ≡ Err ((all, k), x ∷ m) =
    ap (λ (i : ℕ). read (rest_at o.place []) (lexemes_behind i o.part.bytes o.part.tokens)) (sym g.size) ∙ e in
    let final' : is_settled (length g.before + length o.part.bytes) x m ≡ true =
    ap (λ (i : ℕ). is_settled (i + length o.part.bytes) x m) (sym g.size) ∙ final in
    let h : length (g.before ++ (o.part.bytes ++ o.piece)) ≤ o.limit =
    subst (λ (b : List ℕ). length b ≤ o.limit) g.split (taken_within o bytes items o.limit g o.within) in
    let known : (more : List ℕ) → ReadsSo o.limit (bytes ++ more) (items ++ all) (Fault f) = λ more.
    subst (λ (b : List ℕ). ReadsSo o.limit (b ++ more) (items ++ all) (Fault f)) (sym g.split)
    (subst (λ (v : LibraryFault). ReadsSo o.limit ((g.before ++ (o.part.bytes ++ o.piece)) ++ more) (items ++ all) (Fault v))
    (sym fault_is)
    (reads_refused o.limit g.before o.part.bytes o.piece o.part.tokens o.part.mode o.place items all k x m g.leads scanned inside
    e' final' h more)) in
    let j = taken_within o bytes items o.limit g o.within in
    let l : length bytes ≤ n.limit + 1 = omega (arith, j, limit_is) in
    stands_by n (Some (answer.Refused f)) bytes items all answer_is waits
    (λ more. subst (λ (i : ℕ). ReadsSo i (bytes ++ more) (items ++ all) (Fault f)) (sym limit_is) (known more)) l
    (given_still o bytes items g seen)

-- the items that were given are the first ones
first_of_kept : (o : CellCursor) (bytes : List ℕ) (items : List LibraryItem) (limit : ℕ) → limit ≡ o.limit → Keeps o bytes items
    → AreFirst limit bytes items
first_of_kept o bytes items limit limit_is g =
    let h : length (g.before ++ (o.part.bytes ++ o.piece)) ≤ limit =
    subst (λ (b : List ℕ). length b ≤ limit) g.split
    (taken_within o bytes items limit g
    (subst (λ (l : ℕ). o.part.before + (length o.part.bytes + length o.piece) ≤ l) (sym limit_is) o.within)) in
    subst (λ (b : List ℕ). AreFirst limit b items) (sym g.split) (are_first limit g.before (o.part.bytes ++ o.piece) o.place items
    (λ more. subst (λ (b : List ℕ). LeadTo g.before b o.place items) (sym (append_assoc o.part.bytes o.piece more))
    (g.leads (o.piece ++ more))) h)

pub first_of_going : (o : CellCursor) (bytes : List ℕ) (items : List LibraryItem) (limit : ℕ) → limit ≡ o.limit
    → Goes o bytes items → AreFirst limit bytes items
first_of_going o bytes items limit limit_is g = first_of_kept o bytes items limit limit_is g.keeps

-- a piece was read
keeps_read : (o n : CellCursor) (bytes xs : List ℕ) (items : List LibraryItem) → o.piece ≡ [] → n.part ≡ o.part
    → n.place ≡ o.place → n.piece ≡ xs → Keeps o bytes items → Keeps n (bytes ++ xs) items
keeps_read o n bytes xs items none part_is place_is piece_is g = record {
  before = g.before;
  split =
      ap (λ (s : List ℕ). s ++ xs) g.split ∙ append_assoc g.before (o.part.bytes ++ o.piece) xs
      ∙ ap (λ (s : List ℕ). g.before ++ ((o.part.bytes ++ s) ++ xs)) none
      ∙ ap (λ (s : List ℕ). g.before ++ (s ++ xs)) (append-nil o.part.bytes)
      ∙ ap (λ (p : Scanned). g.before ++ (p.bytes ++ xs)) (sym part_is)
      ∙ ap (λ (s : List ℕ). g.before ++ (n.part.bytes ++ s)) (sym piece_is);
  size = ap (λ (p : Scanned). p.before) part_is ∙ g.size;
  leads = λ more.
      subst (λ (p : Place). LeadTo g.before (n.part.bytes ++ more) p items) (sym place_is)
      (subst (λ (v : Scanned). LeadTo g.before (v.bytes ++ more) o.place items) (sym part_is) (g.leads more));
}

inner_same : (o n : CellCursor) → n.part ≡ o.part → n.place ≡ o.place → has_outer o.place (kinds_of o.part.tokens) ≡ false
    → has_outer n.place (kinds_of n.part.tokens) ≡ false
inner_same o n part_is place_is h = ap (λ (p : Place). has_outer p (kinds_of n.part.tokens)) place_is
    ∙ ap (λ (p : Scanned). has_outer o.place (kinds_of p.tokens)) part_is ∙ h

scanned_same : (o n : CellCursor) → n.part ≡ o.part → scanned_by o ≡ scanned_by n
scanned_same o n part_is = sym (ap (λ (p : Scanned). p.before + length p.bytes) part_is)

pub goes_read : (o n : CellCursor) (bytes xs : List ℕ) (items : List LibraryItem) → o.piece ≡ [] → n.part ≡ o.part
    → n.place ≡ o.place → n.piece ≡ xs → Goes o bytes items → Goes n (bytes ++ xs) items
goes_read o n bytes xs items none part_is place_is piece_is g =
    let size = going_size o bytes items g.keeps in
    let l : scanned_by o + 1 ≤ length bytes + 1 = omega (arith, size) in
    record {
      keeps = keeps_read o n bytes xs items none part_is place_is piece_is g.keeps;
      inner = inner_same o n part_is place_is g.inner;
      seen = subst (λ (k : ℕ). HasSeen (k + 1) (bytes ++ xs) items) (scanned_same o n part_is)
          (seen_more (scanned_by o + 1) bytes xs items l g.seen);
    }

by_end : (c : CellCursor) (e : End) (bytes : List ℕ) (all : List LibraryItem) → e ≢ Cut → ReadsSo c.limit bytes all e
    → Knows (Some (answer_for true e)) c bytes all
by_end c Whole bytes all never h = h
by_end c Cut bytes all never h = absurd (never refl)
by_end c (Fault f) bytes all never h = h

by_front : (c : CellCursor) (e : End) (bytes : List ℕ) (all : List LibraryItem) → e ≢ Whole
    → ((more : List ℕ) → ReadsSo c.limit (bytes ++ more) all e) → Knows (Some (answer_for false e)) c bytes all
by_front c Whole bytes all never h = absurd (never refl)
by_front c Cut bytes all never h = h
by_front c (Fault f) bytes all never h = h

no_piece : (o : CellCursor) (bytes : List ℕ) (items : List LibraryItem) → o.piece ≡ [] → (g : Keeps o bytes items)
    → bytes ≡ g.before ++ o.part.bytes
no_piece o bytes items none g =
    g.split ∙ ap (λ (s : List ℕ). g.before ++ (o.part.bytes ++ s)) none
    ∙ ap (λ (s : List ℕ). g.before ++ s) (append-nil o.part.bytes)

-- the library ended with its last byte
pub knows_end : (o n : CellCursor) (bytes : List ℕ) (items : List LibraryItem) → o.piece ≡ [] → n.limit ≡ o.limit
    → Keeps o bytes items →
    Knows (Some (answer_at o.place o.part.before o.part.bytes true)) n bytes
    (items ++ items_in (part_outcome o.place o.part.before o.part.bytes))
knows_end o n bytes items none limit_is g =
    let b_is : bytes ≡ g.before ++ o.part.bytes = no_piece o bytes items none g in
    let h : length (g.before ++ o.part.bytes) ≤ o.limit =
    subst (λ (b : List ℕ). length b ≤ o.limit) b_is (taken_within o bytes items o.limit g o.within) in
    let end : End = end_of_bytes (g.before ++ o.part.bytes) true in
    let all : ℕ → List LibraryItem = λ i. items ++ items_in (part_outcome o.place i o.part.bytes) in
    let r : ReadsSo n.limit (g.before ++ o.part.bytes) (all (length g.before)) end =
    subst (λ (l : ℕ). ReadsSo l (g.before ++ o.part.bytes) (all (length g.before)) end) (sym limit_is)
    (reads_end o.limit g.before o.part.bytes o.place items (leads_here g.before o.part.bytes o.place items g.leads) h) in
    let k = by_end n end (g.before ++ o.part.bytes) (all (length g.before)) (never_cut (g.before ++ o.part.bytes)) r in
    subst (λ (b : List ℕ). Knows (Some (answer_at o.place o.part.before o.part.bytes true)) n b (all o.part.before)) (sym b_is)
    (subst (λ (i : ℕ). Knows (Some (answer_at o.place i o.part.bytes true)) n (g.before ++ o.part.bytes) (all i)) (sym g.size)
    (subst (λ (v : Answer). Knows (Some v) n (g.before ++ o.part.bytes) (all (length g.before)))
    (sym (part_answers g.before o.part.bytes o.place items true g.leads)) k))

-- it goes on behind the limit
pub knows_limit : (o n : CellCursor) (bytes : List ℕ) (y : ℕ) (items : List LibraryItem) → o.piece ≡ [] → n.limit ≡ o.limit
    → o.part.before + length o.part.bytes ≡ o.limit → Keeps o bytes items →
    Knows (Some (answer_at o.place o.part.before o.part.bytes false)) n (bytes ++ y ∷ [])
    (items ++ items_in (part_outcome o.place o.part.before o.part.bytes))
knows_limit o n bytes y items none limit_is full g =
    let b_is : bytes ≡ g.before ++ o.part.bytes = no_piece o bytes items none g in
    let h : length (g.before ++ o.part.bytes) ≡ o.limit = length-append g.before o.part.bytes
    ∙ ap (λ (i : ℕ). i + length o.part.bytes) (sym g.size) ∙ full in
    let end : End = end_of_bytes (g.before ++ o.part.bytes) false in
    let all : ℕ → List LibraryItem = λ i. items ++ items_in (part_outcome o.place i o.part.bytes) in
    let r : (more : List ℕ) → ReadsSo n.limit (((g.before ++ o.part.bytes) ++ y ∷ []) ++ more) (all (length g.before)) end =
    λ more.
    subst (λ (l : ℕ). ReadsSo l (((g.before ++ o.part.bytes) ++ y ∷ []) ++ more) (all (length g.before)) end) (sym limit_is)
    (reads_limit o.limit g.before o.part.bytes y o.place items (leads_here g.before o.part.bytes o.place items g.leads) h
    more) in
    let k = by_front n end ((g.before ++ o.part.bytes) ++ y ∷ []) (all (length g.before)) (never_whole (g.before ++ o.part.bytes))
    r in
    subst (λ (b : List ℕ). Knows (Some (answer_at o.place o.part.before o.part.bytes false)) n (b ++ y ∷ []) (all o.part.before))
    (sym b_is)
    (subst (λ (i : ℕ). Knows (Some (answer_at o.place i o.part.bytes false)) n ((g.before ++ o.part.bytes) ++ y ∷ []) (all i))
    (sym g.size)
    (subst (λ (v : Answer). Knows (Some v) n ((g.before ++ o.part.bytes) ++ y ∷ []) (all (length g.before)))
    (sym (part_answers g.before o.part.bytes o.place items false g.leads)) k))

-- a cursor that goes on stands, where no item waits
pub stands_going : (c : CellCursor) (bytes : List ℕ) (items : List LibraryItem) → c.answer ≡ None → c.waiting.items ≡ []
    → Goes c bytes items → length bytes ≤ c.limit + 1 → Stands c bytes items
stands_going c bytes items e w g l =
    stands_by c None bytes items [] e w (subst (λ (m : List LibraryItem). Goes c bytes m) (sym (append-nil items)) g) l
    (given_still c bytes items g.keeps (seen_before (scanned_by c) bytes items g.seen))

popped_given : (items old new : List LibraryItem) (x : LibraryItem) → old ≡ new ++ option_to_list (Some x)
    → items ++ reverse old ≡ (items ++ x ∷ []) ++ reverse new
popped_given items old new x popped =
    ap (λ (l : List LibraryItem). items ++ reverse l) popped
    ∙ ap (λ (l : List LibraryItem). items ++ l) (reverse-append new (x ∷ []))
    ∙ sym (append_assoc items (x ∷ []) (reverse new))

keeps_same : (o n : CellCursor) → n.place ≡ o.place → n.piece ≡ o.piece → n.part ≡ o.part
    → (bytes : List ℕ) (all : List LibraryItem) → Keeps o bytes all → Keeps n bytes all
keeps_same o n place_is piece_is part_is bytes all g = record {
  before = g.before;
  split = g.split ∙ ap (λ (p : Scanned). g.before ++ (p.bytes ++ o.piece)) (sym part_is)
      ∙ ap (λ (b : List ℕ). g.before ++ (n.part.bytes ++ b)) (sym piece_is);
  size = ap (λ (p : Scanned). p.before) part_is ∙ g.size;
  leads = λ more.
      subst (λ (p : Place). LeadTo g.before (n.part.bytes ++ more) p all) (sym place_is)
      (subst (λ (v : Scanned). LeadTo g.before (v.bytes ++ more) o.place all) (sym part_is) (g.leads more));
}

pub goes_same : (o n : CellCursor) → n.place ≡ o.place → n.piece ≡ o.piece → n.part ≡ o.part
    → (bytes : List ℕ) (all : List LibraryItem) → Goes o bytes all → Goes n bytes all
goes_same o n place_is piece_is part_is bytes all g = record {
  keeps = keeps_same o n place_is piece_is part_is bytes all g.keeps;
  inner = inner_same o n part_is place_is g.inner;
  seen = subst (λ (k : ℕ). HasSeen (k + 1) bytes all) (scanned_same o n part_is) g.seen;
}

knows_on : (o n : CellCursor) → n.limit ≡ o.limit → n.place ≡ o.place → n.piece ≡ o.piece → n.part ≡ o.part
    → (a : Option Answer) (bytes : List ℕ) (all : List LibraryItem) → Knows a o bytes all → Knows a n bytes all
knows_on o n limit_is place_is piece_is part_is None bytes all g = goes_same o n place_is piece_is part_is bytes all g
knows_on o n limit_is place_is piece_is part_is (Some answer.Over) bytes all k =
    λ more. subst (λ (l : ℕ). ReadsSo l (bytes ++ more) all Cut) (sym limit_is) (k more)
knows_on o n limit_is place_is piece_is part_is (Some answer.End) bytes all k =
    subst (λ (l : ℕ). ReadsSo l bytes all Whole) (sym limit_is) k
knows_on o n limit_is place_is piece_is part_is (Some (answer.Refused f)) bytes all k =
    λ more. subst (λ (l : ℕ). ReadsSo l (bytes ++ more) all (Fault f)) (sym limit_is) (k more)
knows_on o n limit_is place_is piece_is part_is (Some (answer.Fault f)) bytes all k =
    subst (λ (l : ℕ). ReadsSo l bytes all (Fault f)) (sym limit_is) k
knows_on o n limit_is place_is piece_is part_is (Some (answer.Stopped stop)) bytes all k =
    subst (λ (l : ℕ). AreFirst l bytes all) (sym limit_is) k

pub stands_same : (o n : CellCursor) (bytes : List ℕ) (items : List LibraryItem) → n.limit ≡ o.limit → n.place ≡ o.place
    → n.piece ≡ o.piece → n.part ≡ o.part → n.answer ≡ o.answer → n.waiting.items ≡ o.waiting.items → Stands o bytes items
    → Stands n bytes items
stands_same o n bytes items a b c d e w st = record {
  known =
      subst (λ (l : List LibraryItem). Knows n.answer n bytes (items ++ reverse l)) (sym w)
      (subst (λ (v : Option Answer). Knows v n bytes (items ++ reverse o.waiting.items)) (sym e)
      (knows_on o n a b c d o.answer bytes (items ++ reverse o.waiting.items) st.known));
  within = (let k = st.within in omega (arith, k, a));
  given = st.given;
}

-- an item that waited was given
pub stands_popped : (o n : CellCursor) (x : LibraryItem) → o.waiting.items ≡ n.waiting.items ++ option_to_list (Some x)
    → n.limit ≡ o.limit → n.answer ≡ o.answer → n.place ≡ o.place → n.piece ≡ o.piece → n.part ≡ o.part →
    (bytes : List ℕ) (items : List LibraryItem) → Stands o bytes items → Stands n bytes (items ++ x ∷ [])
stands_popped o n x popped limit_is answer_is place_is piece_is part_is bytes items st = record {
  known =
      subst (λ (v : Option Answer). Knows v n bytes ((items ++ x ∷ []) ++ reverse n.waiting.items))
      (sym answer_is)
      (subst (λ (l : List LibraryItem). Knows o.answer n bytes l) (popped_given items o.waiting.items n.waiting.items x popped)
      (knows_on o n limit_is place_is piece_is part_is o.answer bytes (items ++ reverse o.waiting.items) st.known));
  within = (let k = st.within in omega (arith, k, limit_is));
  given = given_items bytes items (x ∷ []) st.given;
}

-- a cursor that has read nothing
pub stands_first : (c : CellCursor) → c.answer ≡ None → c.waiting.items ≡ [] → c.place ≡ place.Start → c.part.before ≡ 0
    → c.part.bytes ≡ [] → c.part.tokens ≡ [] → c.piece ≡ [] → Stands c [] []
stands_first c going none place_is before_is bytes_are no_tokens piece_is =
    stands_going c [] [] going none
    (record {
      keeps = record {
        before = [];
        split = ap (λ (b : List ℕ). b ++ []) (sym bytes_are) ∙ ap (λ (b : List ℕ). c.part.bytes ++ b) (sym piece_is);
        size = before_is;
        leads = λ more. subst (λ (p : Place). LeadTo [] (c.part.bytes ++ more) p []) (sym place_is)
            (leads_first (c.part.bytes ++ more));
      };
      inner = none_inner c no_tokens;
      seen = λ e less. subst (λ (b : List ℕ). IsFrontOf (closed_items b) []) (sym (no_bytes e))
          (subst (λ (l : List LibraryItem). IsFrontOf l []) (sym none_closed) ([], refl));
    })
    (omega arith)
  where
    no_bytes : (e : ℕ) → ◌≡◌ {A = List ℕ} (take e []) []
    no_bytes zero = refl
    no_bytes (suc e) = refl

-- what the code finds in a part: a token is refused
refused_kept : (o n : CellCursor) (r : Reached) (f : LibraryFault) (s : List Lexeme) (fresh all : List LibraryItem)
    (end before : ℕ) (bytes : List ℕ) (tokens : List Token) →
    r ≡ reached.Refused f → Comes r o.place fresh s all end → fresh ≡ [] → s ≡ lexemes_behind before bytes tokens
    → before ≡ o.part.before → bytes ≡ o.part.bytes → tokens ≡ o.part.tokens →
    end ≡ o.part.before + length o.part.bytes → AreScanned o.part.bytes o.part.tokens o.part.mode → LieInside o.part.bytes tokens
    →
    n.limit ≡ o.limit → n.answer ≡ Some (answer.Refused f) → n.waiting.items ≡ reverse all
    → (given : List ℕ) (items : List LibraryItem) → Keeps o given items → HasSeen (scanned_by o) given items
    → Stands n given items
refused_kept o n r f s fresh all end before bytes tokens is comes none s_is before_is bytes_are tokens_are end_is scanned inside
    limit_is answer_is waits given items kept seen =
    let h : Comes (reached.Refused f) o.place [] s all (o.part.before + length o.part.bytes) =
    subst (λ (e : ℕ). Comes (reached.Refused f) o.place [] s all e) end_is
    (subst (λ (l : List LibraryItem). Comes (reached.Refused f) o.place l s all end) none
    (subst (λ (v : Reached). Comes v o.place fresh s all end) is comes)) in
    let same : s ≡ lexemes_behind o.part.before o.part.bytes o.part.tokens =
    s_is ∙ ap (λ (k : ℕ). lexemes_behind k bytes tokens) before_is
    ∙ ap (λ (b : List ℕ). lexemes_behind o.part.before b tokens) bytes_are
    ∙ ap (lexemes_behind o.part.before o.part.bytes) tokens_are in
    stands_refused o n f all h.0 h.1 h.2 scanned (subst (λ (ts : List Token). LieInside o.part.bytes ts) tokens_are inside) h.3
    (ap (read (rest_at o.place [])) (sym same) ∙ h.4) h.5 limit_is answer_is waits given items kept seen

pub part_refused : (may_have_ended : Bool) (o n : CellCursor) (r : Reached) (f : LibraryFault) (s : List Lexeme)
    (fresh all : List LibraryItem) (end before : ℕ) (bytes : List ℕ) (tokens : List Token) →
    r ≡ reached.Refused f → Comes r o.place fresh s all end → fresh ≡ [] → s ≡ lexemes_behind before bytes tokens
    → before ≡ o.part.before → bytes ≡ o.part.bytes → tokens ≡ o.part.tokens →
    end ≡ o.part.before + length o.part.bytes → AreScanned o.part.bytes o.part.tokens o.part.mode → LieInside o.part.bytes tokens
    →
    n.limit ≡ o.limit → n.answer ≡ Some (answer.Refused f) → n.waiting.items ≡ reverse all →
    (given : List ℕ) (items : List LibraryItem) → GoesBy may_have_ended o given items → Stands n given items
part_refused true o n r f s fresh all end before bytes tokens is comes none s_is before_is bytes_are tokens_are end_is scanned
    inside limit_is answer_is waits given items t =
    refused_kept o n r f s fresh all end before bytes tokens is comes none s_is before_is bytes_are tokens_are end_is scanned
    inside limit_is answer_is waits given items t.keeps t.seen
part_refused false o n r f s fresh all end before bytes tokens is comes none s_is before_is bytes_are tokens_are end_is scanned
    inside limit_is answer_is waits given items g =
    refused_kept o n r f s fresh all end before bytes tokens is comes none s_is before_is bytes_are tokens_are end_is scanned
    inside limit_is answer_is waits given items g.keeps (seen_before (scanned_by o) given items g.seen)

-- a cursor that goes on stands where it stood
pub going_still : (o : CellCursor) → o.answer ≡ None → o.waiting.items ≡ [] → (given : List ℕ) (items : List LibraryItem)
    → Goes o given items → Stands o given items
going_still o going no_item given items g =
    let k = taken_within o given items o.limit g.keeps o.within in
    stands_going o given items going no_item g (omega (arith, k))

-- it was only to be seen whether a token is refused
pub part_seen : (may_have_ended : Bool) (o : CellCursor) → may_have_ended ≡ false → o.answer ≡ None → o.waiting.items ≡ [] →
    (given : List ℕ) (items : List LibraryItem) → GoesBy may_have_ended o given items → Stands o given items
part_seen true o found going no_item given items g = absurd cc
part_seen false o found going no_item given items g = going_still o going no_item given items g

-- statements have ended
pub part_to : (may_have_ended : Bool) (o n : CellCursor) (r : Reached) (there : Place) (s : List Lexeme)
    (fresh all : List LibraryItem) (end before : ℕ) (bytes : List ℕ) (tokens : List Token) →
    may_have_ended ≡ true → r ≡ reached.To there → Comes r o.place fresh s all end → fresh ≡ []
    → s ≡ lexemes_behind before bytes tokens → before ≡ o.part.before → bytes ≡ o.part.bytes → tokens ≡ o.part.tokens →
    end ≡ o.part.before + length o.part.bytes → o.answer ≡ None → AreScanned o.part.bytes o.part.tokens o.part.mode
    → o.part.mode ≡ Between false → LieInside o.part.bytes tokens →
    n.limit ≡ o.limit → n.answer ≡ o.answer → n.place ≡ there → n.piece ≡ o.piece → n.part.bytes ≡ [] → n.part.tokens ≡ []
    → n.part.before ≡ end → n.waiting.items ≡ reverse all →
    (given : List ℕ) (items : List LibraryItem) → GoesBy may_have_ended o given items → Stands n given items
part_to false o n r there s fresh all end before bytes tokens found is comes none s_is before_is bytes_are tokens_are end_is going
    scanned mode inside limit_is answer_is place_is piece_is no_bytes no_tokens at_end waits given items g =
    absurd cc
part_to true o n r there s fresh all end before bytes tokens found is comes none s_is before_is bytes_are tokens_are end_is going
    scanned mode inside limit_is answer_is place_is piece_is no_bytes no_tokens at_end waits given items st =
    let h : Comes (reached.To there) o.place [] s all end =
    subst (λ (l : List LibraryItem). Comes (reached.To there) o.place l s all end) none
    (subst (λ (v : Reached). Comes v o.place fresh s all end) is comes) in
    let same : s ≡ lexemes_behind o.part.before o.part.bytes o.part.tokens =
    s_is ∙ ap (λ (k : ℕ). lexemes_behind k bytes tokens) before_is
    ∙ ap (λ (b : List ℕ). lexemes_behind o.part.before b tokens) bytes_are
    ∙ ap (lexemes_behind o.part.before o.part.bytes) tokens_are in
    stands_to o n there all going scanned mode (subst (λ (ts : List Token). LieInside o.part.bytes ts) tokens_are inside) h.0
    (λ more. ap (λ (l : List Lexeme). read (rest_at o.place []) (l ++ more)) (sym same) ∙ h.1 more) limit_is answer_is place_is
    piece_is no_bytes no_tokens (at_end ∙ end_is) waits given items st

-- a statement goes on
pub part_waits : (may_have_ended : Bool) (o : CellCursor) (r : Reached) (s : List Lexeme) (fresh all : List LibraryItem)
    (end before : ℕ) (bytes : List ℕ) (tokens : List Token) →
    r ≡ reached.Unfinished → Comes r o.place fresh s all end → s ≡ lexemes_behind before bytes tokens → tokens ≡ o.part.tokens →
    o.answer ≡ None → o.waiting.items ≡ [] → AreScanned o.part.bytes o.part.tokens o.part.mode →
    (given : List ℕ) (items : List LibraryItem) → GoesBy may_have_ended o given items → Stands o given items
part_waits false o r s fresh all end before bytes tokens is comes s_is tokens_are going no_item scanned given items g =
    going_still o going no_item given items g
part_waits true o r s fresh all end before bytes tokens is comes s_is tokens_are going no_item scanned given items t =
    let h : LastIsNotOuter o.place (lexeme_kinds s) = subst (λ (v : Reached). Comes v o.place fresh s all end) is comes in
    let same : kinds_of o.part.tokens ≡ lexeme_kinds s =
    ap kinds_of (sym tokens_are) ∙ sym (lexeme_kinds_behind before bytes tokens) ∙ ap lexeme_kinds (sym s_is) in
    let last : LastMayBeOuter o.place (kinds_of o.part.tokens) = t.last in
    let none : has_outer o.place (kinds_of o.part.tokens) ≡ false =
    ap (has_outer o.place) same ∙ h last.0 last.1 (sym same ∙ last.2) last.3 in
    let k = taken_within o given items o.limit t.keeps o.within in
    stands_going o given items going no_item (goes_open o given items t.keeps scanned none t.seen) (omega (arith, k))

-- a part that was taken apart
pub record Opened (part : Scanned) (bytes : List ℕ) (tokens : List Token) : Type 0 where
  pub bytes_are : bytes ≡ part.bytes
  pub tokens_are : tokens ≡ part.tokens
  pub scanned : AreScanned part.bytes part.tokens part.mode
  pub inside : LieInside part.bytes tokens
  pub all : part ≡ all_scanned part.before bytes

pub opened : (part taken : Scanned) (bytes : List ℕ) (tokens : List Token) → taken ≡ part → bytes ≡ taken.bytes →
    tokens ≡ taken.tokens → LieInside taken.bytes taken.tokens → AreScanned taken.bytes taken.tokens taken.mode →
    taken ≡ all_scanned taken.before taken.bytes → Opened part bytes tokens
opened part taken bytes tokens e f g h i j =
    subst (λ (p : Scanned). Opened p bytes tokens) e
    (record {
      bytes_are = f;
      tokens_are = g;
      scanned = i;
      inside = subst (λ (ts : List Token). LieInside taken.bytes ts) (sym g) h;
      all = j ∙ ap (all_scanned taken.before) (sym f);
    })

-- its bytes were scanned anew
pub part_back : (part new : Scanned) (before : ℕ) (bytes again : List ℕ) (tokens : List Token) → Opened part bytes tokens →
    before ≡ part.before → again ≡ bytes → new ≡ all_scanned before again → new ≡ part
part_back part new before bytes again tokens o e f g =
    g ∙ ap (λ (k : ℕ). all_scanned k again) e ∙ ap (all_scanned part.before) f ∙ sym o.all
