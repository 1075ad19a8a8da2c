-- Laws of gathering bytes before they are written.
use Rattle.std.proofs.Common.{◌≡◌, ℕ, ◌+◌, ◌<◌, ◌≤◌, IsTrue, subst, List, [], ◌++◌, take, drop, get_or, length, Result, Ok, Err}
use Rattle.std.proofs.Common.{IsErr, sym, ◌∙◌, ap, append_assoc}
use Rattle.std.specs.List.{flat_map}
use Rattle.std.proofs.lemmas.List.{append-nil, take_all}
use Rattle.text_io.specs.declared.outside.Failed.{Failed}
use Rattle.text_io.specs.declared.slots.OutSlot.{OutSlot}
use Rattle.text_io.specs.declared.slots.Slot.{Slot}
use Rattle.text_io.specs.Desk.{DeskState, is_bound, wrote, WritesText}
use Rattle.text_io.specs.Line.{Gathers, StopsWithin, PutsText}
use Rattle.text_io.proofs.Wrote.{wrote-nil, still_bound, wrote_more, IsPrefix-append, IsPrefix-front, flat_map-split}
use Rattle.text_io.proofs.Wrote.{flat_map-take_more}

-- no text
pub Gathers-nil : (s : DeskState) (slot : OutSlot) (line : List ℕ) → Gathers s s slot line [] line
Gathers-nil s slot line = record { written = []; state = sym (wrote-nil s slot); joined = append-nil line }

-- one text, and then another
pub Gathers-Gathers : (s t u : DeskState) (slot : OutSlot) (l m n a b : List ℕ) → Gathers s t slot l a m → Gathers t u slot m b n
    → Gathers s u slot l (a ++ b) n
Gathers-Gathers s t u slot l m n a b p q = record {
  written = p.written ++ q.written;
  state = wrote_more s t u slot p.written q.written p.state q.state;
  joined = sym (append_assoc l a b) ∙ ap (λ x. x ++ b) p.joined ∙ append_assoc p.written m b ∙ ap (λ x. p.written ++ x) q.joined
      ∙ sym (append_assoc p.written q.written n);
}

-- a fault within the second of two texts
pub Gathers-stops : (s t u : DeskState) (slot : OutSlot) (l m a b : List ℕ) → Gathers s t slot l a m
    → StopsWithin t u slot (m ++ b) → StopsWithin s u slot (l ++ (a ++ b))
Gathers-stops s t u slot l m a b p q =
    let joined : p.written ++ (m ++ b) ≡ l ++ (a ++ b) = sym (append_assoc p.written m b) ∙ ap (λ x. x ++ b) (sym p.joined)
    ∙ append_assoc l a b in
    record {
      part = p.written ++ q.part;
      front = rw (← joined) (IsPrefix-append p.written q.part (m ++ b) q.front);
      state = wrote_more s t u slot p.written q.part p.state q.state;
    }

-- a fault within the first of two texts
pub StopsWithin-more : (s t : DeskState) (slot : OutSlot) (l a b : List ℕ) → StopsWithin s t slot (l ++ a)
    → StopsWithin s t slot (l ++ (a ++ b))
StopsWithin-more s t slot l a b q =
    record { part = q.part; front = rw (← append_assoc l a b) (IsPrefix-front q.part (l ++ a) b q.front); state = q.state }

-- after one text, another
pub puts_on : {T : Type 0} (s t u : DeskState) (slot : OutSlot) (l m n a b : List ℕ) (r : Result T Failed)
    → Gathers s t slot l a m → PutsText t u slot m b n r → PutsText s u slot l (a ++ b) n r
puts_on s t u slot l m n a b (Ok x) p q = record { whole = Gathers-Gathers s t u slot l m n a b p q.whole; part = tt }
puts_on s t u slot l m n a b (Err y) p q = record { whole = tt; part = Gathers-stops s t u slot l m a b p q.part }

-- a call that ends with a fault, within the first of two texts
pub put_stops : {S T : Type 0} (s t : DeskState) (slot : OutSlot) (l m n a b : List ℕ) (y : Failed) (r : Result T Failed)
    → PutsText {T = S} s t slot l a m (Err y) → IsErr r → PutsText s t slot l (a ++ b) n r
put_stops s t slot l m n a b y (Ok x) w e = absurd cc
put_stops s t slot l m n a b y (Err z) w e = record { whole = tt; part = StopsWithin-more s t slot l a b w.part }

-- a text that was put, and then the bytes that wait were written
pub flushes : {T : Type 0} (s t u : DeskState) (slot : OutSlot) (m a : List ℕ) (r : Result T Failed)
    → Gathers s t slot [] a m → WritesText t u slot m r → WritesText s u slot a r
flushes s t u slot m a (Ok x) p w =
    record { whole = wrote_more s t u slot p.written m p.state w.whole ∙ ap (wrote s slot) (sym p.joined); part = tt }
flushes s t u slot m a (Err y) p w = record {
  whole = tt;
  part = (
    p.written ++ w.part.0,
    rw p.joined (IsPrefix-append p.written w.part.0 m w.part.1),
    wrote_more s t u slot p.written
        w.part.0 p.state w.part.2,
  );
}

-- a fault while the text was put
pub put_fails : {S T : Type 0} (s t : DeskState) (slot : OutSlot) (m a : List ℕ) (y : Failed) (r : Result T Failed)
    → PutsText {T = S} s t slot [] a m (Err y) → IsErr r → WritesText s t slot a r
put_fails s t slot m a y (Ok x) w e = absurd cc
put_fails s t slot m a y (Err z) w e = record { whole = tt; part = (w.part.part, w.part.front, w.part.state) }

-- a turn of a loop that puts an item's text
pub put_item_as : {X : Type 0} (f : X → List ℕ) (xs : List X) (i : ℕ) (x : X) (s t u : DeskState) (slot : OutSlot)
    (l m n : List ℕ)
    → i < length xs → x ≡ get_or xs i x → Gathers s t slot l (flat_map f (take i xs)) m → Gathers t u slot m (f x) n
    → Gathers s u slot l (flat_map f (take (i + 1) xs)) n
put_item_as f xs i x s t u slot l m n h e p q =
    rw (← flat_map-take_more f xs i x h e) (Gathers-Gathers s t u slot l m n (flat_map f (take i xs)) (f x) p q)

-- a fault within an item's text
pub part_of_put_item_as : {X S T : Type 0} (f : X → List ℕ) (xs : List X) (i : ℕ) (x : X) (s t u : DeskState) (slot : OutSlot)
    (l m n k : List ℕ) (y : Failed) (r : Result T Failed)
    → i < length xs → x ≡ get_or xs i x → Gathers s t slot l (flat_map f (take i xs)) m
    → PutsText {T = S} t u slot m (f x) n (Err y) → IsErr r
    → PutsText s u slot l (flat_map f xs) k r
part_of_put_item_as f xs i x s t u slot l m n k y r h e p q failed =
    rw (flat_map-split f xs i x h e)
    (puts_on s t u slot l m k (flat_map f (take i xs)) (f x ++ flat_map f (drop (i + 1) xs)) r p
    (put_stops t u slot m n k (f x) (flat_map f (drop (i + 1) xs)) y r q failed))

-- what is bound stays bound
pub gathered_bound : (s t : DeskState) (slot : OutSlot) (l a m : List ℕ) (other : Slot) → Gathers s t slot l a m
    → IsTrue (is_bound s other) → IsTrue (is_bound t other)
gathered_bound s t slot l a m other p h = still_bound s t slot p.written other p.state h

-- a loop that has put every item's text
pub put_items : {X : Type 0} (f : X → List ℕ) (xs : List X) (i : ℕ) (s t : DeskState) (slot : OutSlot) (l m : List ℕ)
    → length xs ≤ i → Gathers s t slot l (flat_map f (take i xs)) m → Gathers s t slot l (flat_map f xs) m
put_items f xs i s t slot l m h p = subst (λ ys. Gathers s t slot l (flat_map f ys) m) (take_all i xs h) p
