-- Going through numbers in order.
use Rattle.std.proofs.Common.{◌≡◌, ℕ, suc, ◌+◌, ◌-◌, ◌<◌, ◌≤◌, Bool, List, [], ◌∷◌, ◌++◌, length, map, filter, Option, None}
use Rattle.std.proofs.Common.{sym, subst, ◌∙◌, ap, arith, append_assoc, append-nil, length-append}
use Rattle.std.proofs.lemmas.List.Elements.{filter-append}
use Rattle.std.specs.List.{range_with_len}
use Rattle.cell_machine.specs.declared.outputs.Source.{Source}
use Rattle.scan_cells.specs.Comparison.{or_else, first_some}

one_less : (i n : ℕ) → i < n → n - i ≡ suc (n - (i + 1))
one_less i n h = omega arith

none_left : (i n : ℕ) → n ≤ i → n - i ≡ 0
none_left i n h = omega arith

-- the numbers from i on are i and those after it
pub range_turn : (i n : ℕ) → i < n → range_with_len i (n - i) ≡ i ∷ range_with_len (i + 1) (n - (i + 1))
range_turn i n h = ap (range_with_len i) (one_less i n h)

pub range_end : (i n : ℕ) → n ≤ i → range_with_len i (n - i) ≡ []
range_end i n h = ap (range_with_len i) (none_left i n h)

-- the first answer from i on
pub first_turn :
    {B : Type 0} (f : ℕ → Option B) (i n : ℕ) → i < n
    → first_some f (range_with_len i (n - i)) ≡ or_else (f i) (first_some f (range_with_len (i + 1) (n - (i + 1))))
first_turn f i n h = ap (first_some f) (range_turn i n h)

pub first_end : {B : Type 0} (f : ℕ → Option B) (i n : ℕ) → n ≤ i → first_some f (range_with_len i (n - i)) ≡ None
first_end f i n h = ap (first_some f) (range_end i n h)

-- one more source gone through
pub place_turn :
    (f : ℕ → Source) (p : Source → Bool) (i n : ℕ) (places whole : List Source) → i < n
    → places ++ filter p (map f (range_with_len i (n - i))) ≡ whole
    → (places ++ filter p (f i ∷ [])) ++ filter p (map f (range_with_len (i + 1) (n - (i + 1)))) ≡ whole
place_turn f p i n places whole h e =
    append_assoc places (filter p (f i ∷ [])) (filter p (map f (range_with_len (i + 1) (n - (i + 1)))))
    ∙ ap (λ xs. places ++ xs) (sym (filter-append p (f i ∷ []) (map f (range_with_len (i + 1) (n - (i + 1))))))
    ∙ ap (λ xs. places ++ filter p (map f xs)) (sym (range_turn i n h))
    ∙ e

-- the same of what the places become
pub place_more :
    (f : ℕ → Source) (p : Source → Bool) (i n : ℕ) (places whole : List Source) {next : List Source}
    → i < n → next ≡ places ++ filter p (f i ∷ []) → places ++ filter p (map f (range_with_len i (n - i))) ≡ whole
    → next ++ filter p (map f (range_with_len (i + 1) (n - (i + 1)))) ≡ whole
place_more f p i n places whole h is e =
    ap (λ xs. xs ++ filter p (map f (range_with_len (i + 1) (n - (i + 1))))) is ∙ place_turn f p i n places whole h e

pub front_few : (front rest whole : List Source) → front ++ rest ≡ whole → length front ≤ length whole
front_few front rest whole e = subst (λ n. length front ≤ n) (sym (length-append front rest) ∙ ap length e) (omega arith)

pub place_room :
    (f : ℕ → Source) (p : Source → Bool) (i n : ℕ) (places whole : List Source) → i < n
    → places ++ filter p (map f (range_with_len i (n - i))) ≡ whole → length (places ++ filter p (f i ∷ [])) ≤ length whole
place_room f p i n places whole h e =
    front_few (places ++ filter p (f i ∷ [])) (filter p (map f (range_with_len (i + 1) (n - (i + 1))))) whole
    (place_turn f p i n places whole h e)

pub place_end :
    (f : ℕ → Source) (p : Source → Bool) (i n : ℕ) (places whole : List Source) → n ≤ i
    → places ++ filter p (map f (range_with_len i (n - i))) ≡ whole → places ≡ whole
place_end f p i n places whole h e =
    sym (append-nil places) ∙ ap (λ xs. places ++ filter p (map f xs)) (sym (range_end i n h)) ∙ e
