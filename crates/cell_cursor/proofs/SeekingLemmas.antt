-- What a call of a cursor has read and has still to do.
use Rattle.std.proofs.Common.{◌≡◌, ℕ, ◌+◌, ◌-◌, ◌*◌, ◌<◌, ◌≤◌, Bool, true, false, not, ◌&&◌, cond, List, [], length, Option, Some}
use Rattle.std.specs.Prelude.{OnOk}
use Rattle.std.proofs.Common.{None, Result, Ok, Err, refl, sym, ap, subst, ◌∙◌, arith}
use Rattle.text_io.specs.Desk.{Rose}
use Rattle.text_io.specs.declared.stop.Stop.{Stop}
use Rattle.liberty_groups.specs.declared.fault.LibraryFault.{LibraryFault}
use Rattle.liberty_groups.specs.Answer.{fault_of}
use Rattle.liberty_text.specs.Scanner.{scan_of}
use Rattle.cell_cursor.specs.declared.cursor.Answer.{Answer}
use Rattle.cell_cursor.specs.declared.cursor.Answer.TheVariants as answer
use Rattle.cell_cursor.specs.declared.cursor.CellCursor.{CellCursor}
use Rattle.cell_cursor.specs.declared.part.Place.{Place}
use Rattle.cell_cursor.specs.Finish.{part_halt, may_go_on, answer_by, answer_at}
use Rattle.cell_cursor.specs.Progress.{taken_by, to_do, is_whole, may_have_ended}
use Rattle.cell_cursor.specs.declared.seeking.Scanned.{Scanned}
use Rattle.cell_cursor.specs.declared.seeking.Scanned.TheVariants as scanned
use Rattle.cell_cursor.specs.Scanned.{stop_behind}
use Rattle.cell_cursor.specs.declared.item.LibraryItem.{LibraryItem}
use Rattle.cell_cursor.specs.declared.item.Next.TheVariants as next
use Rattle.cell_cursor.specs.Stands.{given_next, is_going, is_failed, is_ended, Goes, GoesBy}

-- a byte was scanned, and the rest of the piece is shorter
pub less_to_do : (o m n : CellCursor) → m.limit ≡ o.limit → taken_by m ≡ taken_by o → length m.piece < length o.piece
    → n.limit ≡ m.limit → taken_by n ≡ taken_by m → n.piece ≡ m.piece → to_do n < to_do o
unfolding to_do
less_to_do o m n a b c d e f =
    let size = ap length f in
    let taken : taken_by n ≡ taken_by o = e ∙ b in
    let limit : n.limit ≡ o.limit = d ∙ a in
    let same : 2 * (n.limit - taken_by n) ≡ 2 * (o.limit - taken_by o) = ap (λ (l : ℕ). 2 * (l - taken_by n)) limit
    ∙ ap (λ (t : ℕ). 2 * (o.limit - t)) taken in
    omega (arith, same, size, c)

-- nothing was read, and nothing is left to scan
pub to_do_scanned : (o m : CellCursor) → m.limit ≡ o.limit → taken_by m ≡ taken_by o → m.piece ≡ [] → to_do m ≤ to_do o
unfolding to_do
to_do_scanned o m a b c =
    let none = ap length c in
    let same : 2 * (m.limit - taken_by m) ≡ 2 * (o.limit - taken_by o) = ap (λ (l : ℕ). 2 * (l - taken_by m)) a
    ∙ ap (λ (t : ℕ). 2 * (o.limit - t)) b in
    omega (arith, same, none)

-- less than what was not more
pub less_before : (P : Type 0) (r : Result (Unit {0}) Stop) (first between last : ℕ) → between ≤ first
    → OnOk r (P → last < between) → OnOk r (P → last < first)
less_before P (Ok u) first between last most less = λ p. (let k = less p in omega (arith, k, most))
less_before P (Err stop) first between last most less = tt

-- where all is scanned, no statement may have ended
pub going_whole : (s : Scanned) (o m : CellCursor) → is_whole s ≡ true
    → ((bytes : List ℕ) (items : List LibraryItem) → Goes o bytes items → GoesBy (may_have_ended s) m bytes items)
    → (bytes : List ℕ) (items : List LibraryItem) → Goes o bytes items → Goes m bytes items
going_whole scanned.All o m e h = h
going_whole scanned.MayEnd o m e h = absurd cc
going_whole scanned.Misfit o m e h = absurd cc
going_whole scanned.Name o m e h = absurd cc

-- a piece was read
pub read_to_do : (o m n : CellCursor) (count : ℕ) → m.limit ≡ o.limit → taken_by m ≡ taken_by o → m.piece ≡ [] → n.limit ≡ m.limit
    → n.part ≡ m.part → length n.piece ≡ count → 0 < count →
    count ≤ m.limit - (m.part.before + length m.part.bytes) → to_do n < to_do o
unfolding to_do
read_to_do o m n count a b c d e f some most =
    let none = ap length c in
    let before = ap (λ p. p.before + length p.bytes) e in
    omega (arith, a, b, none, d, before, f, some, most)

to_do_same : (o m : CellCursor) → m.limit ≡ o.limit → m.part ≡ o.part → m.piece ≡ o.piece → to_do m ≡ to_do o
unfolding to_do
to_do_same o m a b c =
    let limit : 2 * (m.limit - taken_by m) ≡ 2 * (o.limit - taken_by m) = ap (λ (l : ℕ). 2 * (l - taken_by m)) a in
    let part = ap (λ p. p.before + length p.bytes) b in
    let piece = ap length c in
    let taken : taken_by m ≡ taken_by o = omega (arith, part, piece) in
    let left : 2 * (o.limit - taken_by m) ≡ 2 * (o.limit - taken_by o) = ap (λ (t : ℕ). 2 * (o.limit - t)) taken in
    omega (arith, limit, left, piece)

smaller_by : (n : CellCursor) (b : Bool) (k : ℕ) → is_going n.answer ≡ b → (is_going n.answer ≡ true → to_do n < k)
    → cond b (to_do n + 1) 0 < k + 1
smaller_by n true k e h = let i = h e in omega (arith, i)
smaller_by n false k e h = omega arith

pub smaller : (o m n : CellCursor) → m.limit ≡ o.limit → m.part ≡ o.part → m.piece ≡ o.piece → o.answer ≡ None
    → (is_going n.answer ≡ true → to_do n < to_do m) →
    cond (is_going n.answer) (to_do n + 1) 0 < cond (is_going o.answer) (to_do o + 1) 0
smaller o m n a b c e h =
    subst (λ (v : Option Answer). cond (is_going n.answer) (to_do n + 1) 0 < cond (is_going v) (to_do o + 1) 0) (sym e)
    (smaller_by n (is_going n.answer) (to_do o) refl (λ f. subst (λ (k : ℕ). to_do n < k) (to_do_same o m a b c) (h f)))

pub no_answer : {P : Type 0} (v : Option Answer) (a : Answer) → v ≡ None → v ≡ Some a → P
no_answer v a e f = let k : None ≡ Some a = sym e ∙ f in absurd cc

answered_never : (w : Bool) (o : Option LibraryFault) → is_failed (Some (answer_by w o)) ≡ false
answered_never true None = refl
answered_never false None = refl
answered_never true (Some f) = refl
answered_never false (Some f) = refl

choice_never : (x : Bool) (a : Answer) → is_failed (Some a) ≡ false → is_failed (Some (cond x answer.Over a)) ≡ false
choice_never true a e = refl
choice_never false a e = e

-- the end of a library is no failed read
pub never_failed : (here : Place) (n : ℕ) (bytes : List ℕ) (w : Bool) → is_failed (Some (answer_at here n bytes w)) ≡ false
unfolding answer_at
never_failed here n bytes w =
    choice_never (not w && may_go_on here n bytes (part_halt here n bytes) (scan_of bytes).1)
    (answer_by w (fault_of (n + length bytes) (part_halt here n bytes) (stop_behind n (scan_of bytes).1)))
    (answered_never w (fault_of (n + length bytes) (part_halt here n bytes) (stop_behind n (scan_of bytes).1)))

front_answered : (o : Option LibraryFault) → is_ended (Some (answer_by false o)) ≡ false
front_answered None = refl
front_answered (Some f) = refl

front_choice : (x : Bool) (a : Answer) → is_ended (Some a) ≡ false → is_ended (Some (cond x answer.Over a)) ≡ false
front_choice true a e = refl
front_choice false a e = e

-- at its limit a library does not end
pub front_goes : (here : Place) (n : ℕ) (bytes : List ℕ) → is_ended (Some (answer_at here n bytes false)) ≡ false
unfolding answer_at
front_goes here n bytes =
    front_choice (not false && may_go_on here n bytes (part_halt here n bytes) (scan_of bytes).1)
    (answer_by false (fault_of (n + length bytes) (part_halt here n bytes) (stop_behind n (scan_of bytes).1)))
    (front_answered (fault_of (n + length bytes) (part_halt here n bytes) (stop_behind n (scan_of bytes).1)))

pub never_by : (a : Option Answer) (here : Place) (n : ℕ) (bytes : List ℕ) (w : Bool) → a ≡ Some (answer_at here n bytes w)
    → is_failed a ≡ false
never_by a here n bytes w e = ap is_failed e ∙ never_failed here n bytes w

-- a count that stood still before it rose
pub rose_since : (a b c : ℕ) → b ≡ a → Rose b c → Rose a c
rose_since a b c same rose = subst (λ n. Rose n c) same rose

-- a cursor that had an answer does not go on
pub not_going : {B : Type 0} (now first : Option Answer) → now ≡ None → is_going first ≡ false → now ≡ first → B
not_going now first e g k = absurd (let h : true ≡ false = sym (ap is_going (sym k ∙ e)) ∙ g in cc)

-- an item is given
pub item_given : (x : LibraryItem) → given_next (next.Item x) ≡ [] → ⊥
item_given x e = cc
