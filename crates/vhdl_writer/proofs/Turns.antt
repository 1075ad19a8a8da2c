-- A loop that puts the texts of numbered items.
use Rattle.std.proofs.Common.{◌≡◌, ℕ, ◌+◌, ◌<◌, ◌≤◌, List, [], ◌∷◌, ◌++◌, get_or, take, drop, length, Result, Err, IsErr, sym}
use Rattle.std.proofs.Common.{◌∙◌, ap, subst, append_assoc, arith}
use Rattle.std.proofs.lemmas.List.{append-nil, take_more, take-append-drop, drop_more, take_all, length-take}
use Rattle.text_io.specs.declared.outside.Failed.{Failed}
use Rattle.text_io.specs.declared.slots.OutSlot.{OutSlot}
use Rattle.text_io.specs.Desk.{DeskState}
use Rattle.text_io.specs.Line.{Gathers, PutsText}
use Rattle.text_io.proofs.LineLaws.{Gathers-Gathers, puts_on, put_stops}
use Rattle.vhdl_writer.specs.Joined.{numbered_texts}

-- the texts of some items, and then of others
numbered-append : {X : Type 0} (f : ℕ → X → List ℕ) (n : ℕ) (xs ys : List X)
    → numbered_texts f n (xs ++ ys) ≡ numbered_texts f n xs ++ numbered_texts f (n + length xs) ys
numbered-append f n [] ys = ap (λ m. numbered_texts f m ys) (omega arith)
numbered-append f n (x ∷ xs) ys =
    ap (λ t. f n x ++ t) (numbered-append f (n + 1) xs ys ∙ ap (λ m. numbered_texts f (n + 1) xs ++ numbered_texts f m ys)
    (omega arith))
    ∙ sym (append_assoc (f n x) (numbered_texts f (n + 1) xs) (numbered_texts f (n + length (x ∷ xs)) ys))

-- how many items stand before one of them
before_one : {X : Type 0} (xs : List X) (i : ℕ) → i < length xs → 1 + length (take i xs) ≡ i + 1
before_one xs i h = let e = length-take i xs in omega (arith, e, h)

-- the texts of one item more
numbered-take_more : {X : Type 0} (f : ℕ → X → List ℕ) (xs : List X) (i : ℕ) (x : X) → i < length xs → x ≡ get_or xs i x
    → numbered_texts f 1 (take i xs) ++ f (i + 1) x ≡ numbered_texts f 1 (take (i + 1) xs)
numbered-take_more f xs i x h e =
    let before = numbered_texts f 1 (take i xs) in
    let last = ap (λ t. before ++ t) (sym (append-nil (f (i + 1) x)) ∙ ap (λ y. f (i + 1) y ++ []) e) in
    let placed = ap (λ m. before ++ (f m (get_or xs i x) ++ [])) (sym (before_one xs i h)) in
    last ∙ placed ∙ sym (ap (numbered_texts f 1) (take_more xs i x h) ∙ numbered-append f 1 (take i xs) (get_or xs i x ∷ []))

-- the texts of a list's items, split at one of them
numbered-split : {X : Type 0} (f : ℕ → X → List ℕ) (xs : List X) (i : ℕ) (x : X) → i < length xs → x ≡ get_or xs i x
    → numbered_texts f 1 xs ≡ numbered_texts f 1 (take i xs) ++ (f (i + 1) x ++ numbered_texts f (i + 1 + 1) (drop (i + 1) xs))
numbered-split f xs i x h e =
    let before = numbered_texts f 1 (take i xs) in
    let rest = ap (numbered_texts f (i + 1)) (drop_more xs i x h)
    ∙ ap (λ y. f (i + 1) y ++ numbered_texts f (i + 1 + 1) (drop (i + 1) xs)) (sym e) in
    ap (numbered_texts f 1) (sym (take-append-drop i xs)) ∙ numbered-append f 1 (take i xs) (drop i xs)
    ∙ ap (λ m. before ++ numbered_texts f m (drop i xs)) (before_one xs i h) ∙ ap (λ t. before ++ t) rest

-- a turn of the loop
pub put_turn : {X : Type 0} (f : ℕ → X → List ℕ) (xs : List X) (i : ℕ) (x : X) (s t u : DeskState) (slot : OutSlot)
    (l m n : List ℕ)
    → i < length xs → x ≡ get_or xs i x → Gathers s t slot l (numbered_texts f 1 (take i xs)) m
    → Gathers t u slot m (f (i + 1) x) n
    → Gathers s u slot l (numbered_texts f 1 (take (i + 1) xs)) n
put_turn f xs i x s t u slot l m n h e p q =
    rw (← numbered-take_more f xs i x h e) (Gathers-Gathers s t u slot l m n (numbered_texts f 1 (take i xs)) (f (i + 1) x) p q)

-- a fault within a turn
pub part_of_turn : {X S T : Type 0} (f : ℕ → X → List ℕ) (xs : List X) (i : ℕ) (x : X) (s t u : DeskState) (slot : OutSlot)
    (l m n k : List ℕ) (y : Failed) (r : Result T Failed)
    → i < length xs → x ≡ get_or xs i x → Gathers s t slot l (numbered_texts f 1 (take i xs)) m
    → PutsText {T = S} t u slot m (f (i + 1) x) n (Err y) → IsErr r
    → PutsText s u slot l (numbered_texts f 1 xs) k r
part_of_turn f xs i x s t u slot l m n k y r h e p q failed =
    let rest = numbered_texts f (i + 1 + 1) (drop (i + 1) xs) in
    rw (numbered-split f xs i x h e)
    (puts_on s t u slot l m k (numbered_texts f 1 (take i xs)) (f (i + 1) x ++ rest) r p
    (put_stops t u slot m n k (f (i + 1) x) rest y r q failed))

-- after the last turn
pub put_turns : {X : Type 0} (f : ℕ → X → List ℕ) (xs : List X) (i : ℕ) (s t : DeskState) (slot : OutSlot) (l m : List ℕ)
    → length xs ≤ i → Gathers s t slot l (numbered_texts f 1 (take i xs)) m → Gathers s t slot l (numbered_texts f 1 xs) m
put_turns f xs i s t slot l m h p = subst (λ ys. Gathers s t slot l (numbered_texts f 1 ys) m) (take_all i xs h) p
