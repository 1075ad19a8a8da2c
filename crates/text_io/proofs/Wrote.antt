-- Laws of appending to a slot, for every proof that writes.
use Rattle.std.proofs.Common.{◌≡◌, ℕ, ◌+◌, ◌-◌, ◌<◌, ◌≤◌, List, [], ◌∷◌, ◌++◌, get_or, take, drop, length, Result, Ok, Err, refl}
use Rattle.std.proofs.Common.{sym, ◌∙◌, ap, IsTrue, IsErr, append_assoc}
use Rattle.std.specs.Option.{option_map}
use Rattle.std.specs.List.{flat_map}
use Rattle.std.proofs.lemmas.List.{append-nil, take_more, take_rest, take-append-drop, drop_more, take_all}
use Rattle.std.proofs.Math.Seq.{take-add}
use Rattle.std.proofs.lemmas.List.Concat.{flat_map-append}
use Rattle.text_io.specs.declared.outside.Failed.{Failed}
use Rattle.text_io.specs.declared.slots.OutSlot.{OutSlot}
use Rattle.text_io.specs.declared.slots.Slot.{Slot}
use Rattle.text_io.specs.declared.slots.Slot.TheVariants.{Output}
use Rattle.text_io.specs.Slots.{slot_number}
use Rattle.text_io.specs.Desk.{DeskState, is_bound, wrote, IsPrefix, WritesText}
use Rattle.text_io.proofs.PutLemmas.{option_map-same, put_out-same, put_at-twice}

-- nothing known changes where what is written stays as it is
pub wrote-same : (s : DeskState) (slot : OutSlot) (text : List ℕ)
    → option_map (λ before. before ++ text) (s.written slot) ≡ s.written slot → wrote s slot text ≡ s
unfolding wrote
wrote-same s slot text same =
    λ i. record s { written = λ t. put_out-same s.written slot t (option_map (λ before. before ++ text) (s.written slot)) same i }

-- nothing appended
pub wrote-nil : (s : DeskState) (slot : OutSlot) → wrote s slot [] ≡ s
wrote-nil s slot = wrote-same s slot [] (option_map-same (λ before. before ++ []) append-nil (s.written slot))

-- one text appended after another
pub wrote-wrote : (s : DeskState) (slot : OutSlot) (a b : List ℕ) → wrote (wrote s slot a) slot b ≡ wrote s slot (a ++ b)
unfolding wrote
wrote-wrote s slot a b = λ i. record s {
  written = λ t. put_at-twice (λ x. slot_number (Output x)) (λ before. before ++ a) (λ before. before ++ b)
      (λ before. before ++ (a ++ b)) (λ before. append_assoc before a b) s.written slot t i;
}

-- what is bound stays bound
pub is_bound-wrote : (s : DeskState) (slot : OutSlot) (text : List ℕ) (other : Slot)
    → is_bound (wrote s slot text) other ≡ is_bound s other
unfolding wrote
is_bound-wrote s slot text other = refl

-- a slot that was bound is so after more was appended to another slot or to itself
pub still_bound : (s now : DeskState) (slot : OutSlot) (text : List ℕ) (other : Slot) → now ≡ wrote s slot text
    → IsTrue (is_bound s other) → IsTrue (is_bound now other)
still_bound s now slot text other e h = rw (e, is_bound-wrote s slot text other) h

-- a text, and then more
pub wrote_more : (s now next : DeskState) (slot : OutSlot) (a b : List ℕ) → now ≡ wrote s slot a → next ≡ wrote now slot b
    → next ≡ wrote s slot (a ++ b)
wrote_more s now next slot a b first second = second ∙ ap (λ t. wrote t slot b) first ∙ wrote-wrote s slot a b

-- a front of a list is a prefix of it
pub IsPrefix-take : (n : ℕ) (xs : List ℕ) → IsPrefix (take n xs) xs
IsPrefix-take n xs = (drop n xs, take-append-drop n xs)

-- what comes before a prefix of the rest, with it, is a prefix of the whole
pub IsPrefix-append : (a part b : List ℕ) → IsPrefix part b → IsPrefix (a ++ part) (a ++ b)
IsPrefix-append a part b p = (p.0, append_assoc a part p.0 ∙ ap (λ t. a ++ t) p.1)

-- a prefix of the front is a prefix of the whole
pub IsPrefix-front : (part a b : List ℕ) → IsPrefix part a → IsPrefix part (a ++ b)
IsPrefix-front part a b p = (p.0 ++ b, sym (append_assoc part p.0 b) ∙ ap (λ t. t ++ b) p.1)

-- a call that ends with a fault after a prefix of its text
pub WritesText-stopped : {T : Type 0} (old new : DeskState) (slot : OutSlot) (text part : List ℕ) (r : Result T Failed)
    → IsErr r → IsPrefix part text → new ≡ wrote old slot part → WritesText old new slot text r
WritesText-stopped old new slot text part (Ok x) e p h = absurd (cc)
WritesText-stopped old new slot text part (Err y) e p h = record { whole = tt; part = (part, p, h) }

-- after one text, another
pub goes_on : {T : Type 0} (old now new : DeskState) (slot : OutSlot) (a b : List ℕ) (r : Result T Failed)
    → now ≡ wrote old slot a → WritesText now new slot b r → WritesText old new slot (a ++ b) r
goes_on old now new slot a b (Ok x) e w = record { whole = wrote_more old now new slot a b e w.whole; part = tt }
goes_on old now new slot a b (Err y) e w = record {
  whole = tt;
  part = (a ++ w.part.0, IsPrefix-append a w.part.0 b w.part.1, wrote_more old now new slot a w.part.0 e w.part.2);
}

-- a fault within the first of two texts
pub stops : {S T : Type 0} (old new : DeskState) (slot : OutSlot) (a b : List ℕ) (y : Failed) (r : Result T Failed)
    → WritesText {T = S} old new slot a (Err y) → IsErr r → WritesText old new slot (a ++ b) r
stops old new slot a b y r w e = WritesText-stopped old new slot (a ++ b) w.part.0 r e (IsPrefix-front w.part.0 a b w.part.1)
    w.part.2

-- one more part of a list, taken from what is left of it
pub take_part : (done n : ℕ) (xs : List ℕ) → take done xs ++ take n (take (length xs - done) (drop done xs)) ≡ take (done + n) xs
take_part done n xs = ap (λ t. take done xs ++ take n t) (take_rest xs done) ∙ sym (take-add done n xs)

-- the texts of a list's items, split at one of them
pub flat_map-split : {X : Type 0} (f : X → List ℕ) (xs : List X) (i : ℕ) (x : X) → i < length xs → x ≡ get_or xs i x
    → flat_map f xs ≡ flat_map f (take i xs) ++ (f x ++ flat_map f (drop (i + 1) xs))
flat_map-split f xs i x h e =
    let rest = ap (flat_map f) (drop_more xs i x h) ∙ ap (λ y. f y ++ flat_map f (drop (i + 1) xs)) (sym e) in
    ap (flat_map f) (sym (take-append-drop i xs)) ∙ flat_map-append f (take i xs) (drop i xs)
    ∙ ap (λ t. flat_map f (take i xs) ++ t) rest

-- the texts of one item more
pub flat_map-take_more : {X : Type 0} (f : X → List ℕ) (xs : List X) (i : ℕ) (x : X) → i < length xs → x ≡ get_or xs i x
    → flat_map f (take i xs) ++ f x ≡ flat_map f (take (i + 1) xs)
flat_map-take_more f xs i x h e =
    let last = ap (λ t. flat_map f (take i xs) ++ t) (sym (append-nil (f x))) ∙ ap (λ y. flat_map f (take i xs) ++ (f y ++ [])) e
    in
    last ∙ sym (ap (flat_map f) (take_more xs i x h) ∙ flat_map-append f (take i xs) (get_or xs i x ∷ []))

-- a turn of a loop that writes an item's text
pub wrote_item_as : {X : Type 0} (f : X → List ℕ) (xs : List X) (i : ℕ) (x : X) (s now next : DeskState) (slot : OutSlot)
    → i < length xs → x ≡ get_or xs i x → now ≡ wrote s slot (flat_map f (take i xs)) → next ≡ wrote now slot (f x)
    → next ≡ wrote s slot (flat_map f (take (i + 1) xs))
wrote_item_as f xs i x s now next slot h e before item =
    wrote_more s now next slot (flat_map f (take i xs)) (f x) before item ∙ ap (wrote s slot) (flat_map-take_more f xs i x h e)

-- a loop that has written every item's text
pub wrote_items : {X : Type 0} (f : X → List ℕ) (xs : List X) (i : ℕ) (s now : DeskState) (slot : OutSlot)
    → length xs ≤ i → now ≡ wrote s slot (flat_map f (take i xs)) → now ≡ wrote s slot (flat_map f xs)
wrote_items f xs i s now slot h e = e ∙ ap (λ t. wrote s slot (flat_map f t)) (take_all i xs h)

-- the laws that a loop which writes needs at its start and at its end
pub ruleset desk_laws = (wrote-nil, is_bound-wrote)
