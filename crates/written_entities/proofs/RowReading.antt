-- The rows of written tables are read from their tokens.
use Rattle.std.proofs.Common.{◌≡◌, ℕ, ◌+◌, ◌-◌, ◌≤◌, Bool, true, false, ◌&&◌, cond, nat_lt, if◌then◌else◌, List, [], ◌∷◌, ◌++◌}
use Rattle.std.proofs.Common.{length, take, slice_get, inl, inr, Option, Some, None, refl, sym, ap, ◌∙◌, arith, subst, codes}
use Rattle.std.proofs.Common.{append_assoc, length-append}
use Rattle.std.specs.Prelude.{count_by}
use Rattle.std.specs.List.{list_any}
use Rattle.std.specs.Option.{option_and_then}
use Rattle.std.proofs.lemmas.Bool.{cases_Bool}
use Rattle.std.proofs.lemmas.Bool.Decides.{nat_tests}
use Rattle.std.proofs.lemmas.List.Sums.{sum_by-append, sum_by-cons}
use Rattle.std.proofs.Math.Seq.{take-append_seam}
use Rattle.std.proofs.Math.Bool.{and-false as and_false}
use Rattle.grammar_rules.specs.Rule.{Fits}
use Rattle.grammar_rules.specs.Rule as r
use Rattle.grammar_reader.specs.declared.refusal.Refusal.TheVariants.{Syntax}
use Rattle.grammar_reader.specs.Words.{valued}
use Rattle.trit_cubes.specs.declared.trits.Trit.{Trit}
use Rattle.trit_cubes.specs.declared.trits.Trit.TheVariants as trit
use Rattle.vital_models.specs.declared.table.Trits.{Trits}
use Rattle.vital_models.specs.declared.table.Trits.TheVariants as trits
use Rattle.vital_models.specs.declared.table.TruthRow.{TruthRow}
use Rattle.vital_models.specs.declared.table.VSymbol.{VSymbol}
use Rattle.vital_models.specs.declared.table.VSymbol.TheVariants as symbol
use Rattle.vital_models.specs.declared.table.VNext.{VNext}
use Rattle.vital_models.specs.declared.table.VNext.TheVariants as next
use Rattle.vital_models.specs.declared.table.VStateRow.{VStateRow}
use Rattle.vhdl_tokens.specs.Spelling.{is_same}
use Rattle.vhdl_grammar.specs.VhdlRules.{expect, begins}
use Rattle.vhdl_grammar.specs.VhdlTables.{level_of, symbol_of, is_edge, next_by, next_symbol, symbols, state_in, next_in}
use Rattle.vhdl_grammar.specs.VhdlTables.{state_row_with, state_row_of, row_end, is_as_long_as_state_rows, state_row, next_level}
use Rattle.vhdl_grammar.specs.VhdlTables.{levels, value_of, truth_row_with, truth_row_of, is_as_long_as_truth_rows, truth_row}
use Rattle.vhdl_writer.specs.Tables.{level_text, symbol_text, next_text, value_text}
use Rattle.grammar_reader.proofs.Fronts.{each}
use Rattle.grammar_reader.proofs.Derivations.{Reads, from_same, to_same, gives, token, in_turn, turn, turns, no_turn}
use Rattle.grammar_reader.proofs.ItemPlaces.{get_at}
use Rattle.written_entities.proofs.TableTokens.{value_level, as_level, next_symbol_of, as_symbol, level_front, symbol_front}
use Rattle.written_entities.proofs.TableTokens.{truth_row_front, state_row_front}

-- a token that must stand here
pub expected : {text : List ℕ} {s : List (List ℕ)} → is_same text text ≡ true → Reads (expect text) (text ∷ s) tt s
expected e = token (rw e refl)

-- The end of a list.

one_less : {A : Type 0} (xs : List A) (v : A) → length (xs ++ v ∷ []) - 1 ≡ length xs
one_less xs v = omega (arith, length-append xs (v ∷ []))

two_less : {A : Type 0} (xs : List A) (v w : A) → length (xs ++ v ∷ w ∷ []) - 2 ≡ length xs
two_less xs v w = omega (arith, length-append xs (v ∷ w ∷ []))

last_of : {A : Type 0} (xs : List A) (v : A) → slice_get (xs ++ v ∷ []) (length (xs ++ v ∷ []) - 1) ≡ Some v
last_of xs v = ap (λ (k : ℕ). slice_get (xs ++ v ∷ []) k) (one_less xs v) ∙ get_at xs v []

front_of : {A : Type 0} (xs : List A) (v : A) → take (length (xs ++ v ∷ []) - 1) (xs ++ v ∷ []) ≡ xs
front_of xs v = ap (λ (k : ℕ). take k (xs ++ v ∷ [])) (one_less xs v) ∙ take-append_seam xs (v ∷ [])

last_but_one : {A : Type 0} (xs : List A) (v w : A) → slice_get (xs ++ v ∷ w ∷ []) (length (xs ++ v ∷ w ∷ []) - 2) ≡ Some v
last_but_one xs v w = ap (λ (k : ℕ). slice_get (xs ++ v ∷ w ∷ []) k) (two_less xs v w) ∙ get_at xs v (w ∷ [])

last_of_two : {A : Type 0} (xs : List A) (v w : A) → slice_get (xs ++ v ∷ w ∷ []) (length (xs ++ v ∷ w ∷ []) - 1) ≡ Some w
last_of_two {A = A} xs v w = subst (λ (l : List A). slice_get l (length l - 1) ≡ Some w) (append_assoc xs (v ∷ []) (w ∷ []))
    (last_of (xs ++ v ∷ []) w)

front_of_two : {A : Type 0} (xs : List A) (v w : A) → take (length (xs ++ v ∷ w ∷ []) - 2) (xs ++ v ∷ w ∷ []) ≡ xs
front_of_two xs v w = ap (λ (k : ℕ). take k (xs ++ v ∷ w ∷ [])) (two_less xs v w) ∙ take-append_seam xs (v ∷ w ∷ [])

-- Levels.

level_read : (l : Trits) {s : List (List ℕ)} → Reads (valued level_of) (level_text l ∷ s) l s
level_read trits.Zero = token refl
level_read trits.One = token refl
level_read trits.Unknown = token refl
level_read trits.Any = token refl
level_read trits.Binary = token refl

next_level_read : (before : List Trits) (l : Trits) {s : List (List ℕ)}
    → Reads (next_level before) (level_text l ∷ s) (before ++ l ∷ []) s
unfolding next_level
next_level_read before l = in_turn (level_read l) gives

more_levels : (before xs : List Trits) (v : Trits) (s : List (List ℕ))
    → Reads (r.Many (λ _. begins (codes ",")) (λ found _. next_level found) before)
    (codes "," ∷ each level_front xs (level_text v ∷ codes ")" ∷ s)) (before ++ (xs ++ v ∷ [])) (codes ")" ∷ s)
more_levels before [] v s = turns (turn refl (next_level_read before v)) (no_turn refl)
more_levels before (x ∷ xs) v s =
    turns (turn refl (next_level_read before x))
    (to_same (append_assoc before (x ∷ []) (xs ++ v ∷ [])) (more_levels (before ++ x ∷ []) xs v s))

levels_read : (x : Trits) (xs : List Trits) (v : Trits) (s : List (List ℕ))
    → Reads levels (each level_front (x ∷ xs) (level_text v ∷ codes ")" ∷ s)) ((x ∷ xs) ++ v ∷ []) (codes ")" ∷ s)
unfolding levels
levels_read x xs v s = in_turn (next_level_read [] x) (more_levels (x ∷ []) xs v s)

-- The row at its end.

row_fits : {R : Type 0} (fit : R → Bool) (found : Option R) (row : R) → found ≡ Some row → fit row ≡ true
    → row_end fit found (codes ")") ≡ Fits row
row_fits fit found row e f = rw (e, f) refl

value_back : (v : Trit) → value_of (value_level v) ≡ Some v
value_back trit.Zero = refl
value_back trit.One = refl
value_back trit.Unknown = refl

truth_by : (long : Bool) (front inputs : List Trits) (got : Option Trits) (l : Trits) (v : Trit) → long ≡ true → front ≡ inputs
    → got ≡ Some l → value_of l ≡ Some v
    → (if long then truth_row_with front (option_and_then value_of got) else None) ≡ Some (record { inputs = inputs; result = v })
truth_by long front inputs got l v a b c d = rw (a, b, c, d) refl

truth_row_back : (x : Trits) (xs : List Trits) (v : Trit)
    → truth_row_of ((x ∷ xs) ++ value_level v ∷ []) ≡ Some (record { inputs = x ∷ xs; result = v })
truth_row_back x xs v =
    let l : Trits = value_level v in
    let all : List Trits = (x ∷ xs) ++ l ∷ [] in
    let n : length all ≡ length xs + 2 = omega (arith, length-append (x ∷ xs) (l ∷ [])) in
    let long : nat_lt 1 (length all) ≡ true = grind (arith, nat_tests, n) in
    truth_by (nat_lt 1 (length all)) (take (length all - 1) all) (x ∷ xs) (slice_get all (length all - 1)) l v long
    (front_of (x ∷ xs) l) (last_of (x ∷ xs) l) (value_back v)

truth_parts_read : (before : List TruthRow) (inputs : List Trits) (v : Trit) (s : List (List ℕ)) → 1 ≤ length inputs
    → is_as_long_as_truth_rows before (record { inputs = inputs; result = v }) ≡ true
    → Reads (truth_row before) (codes "(" ∷ each level_front inputs (value_text v ∷ codes ")" ∷ s))
    (before ++ (record { inputs = inputs; result = v }) ∷ []) s
unfolding truth_row
truth_parts_read before [] v s some long = absurd (omega (arith, some))
truth_parts_read before (x ∷ xs) v s some long =
    in_turn (expected refl)
    (in_turn (from_same (ap (λ (t : List ℕ). each level_front (x ∷ xs) (t ∷ codes ")" ∷ s)) (as_level v))
    (levels_read x xs (value_level v) s))
    (in_turn (token (row_fits (is_as_long_as_truth_rows before) (truth_row_of ((x ∷ xs) ++ value_level v ∷ []))
    (record { inputs = x ∷ xs; result = v }) (truth_row_back x xs v) long)) gives))

-- a row of a truth table behind others
pub truth_row_read : (before : List TruthRow) (row : TruthRow) (s : List (List ℕ)) → 1 ≤ length row.inputs
    → is_as_long_as_truth_rows before row ≡ true
    → Reads (truth_row before) (codes "(" ∷ truth_row_front row s) (before ++ row ∷ []) s
truth_row_read before row s some long = truth_parts_read before row.inputs row.result s some long

-- Symbols.

level_back : (l : Trits) → symbol_of (level_text l) ≡ Some (symbol.Level l)
level_back trits.Zero = refl
level_back _ = refl

symbol_back : (y : VSymbol) → symbol_of (symbol_text y) ≡ Some y
symbol_back (symbol.Level l) = level_back l
symbol_back _ = refl

symbol_fits : (before : List VSymbol) (y : VSymbol) → (is_edge y && list_any is_edge before) ≡ false
    → next_by before (Some y) ≡ Fits y
symbol_fits before y e = rw e refl

symbol_read : (before : List VSymbol) (y : VSymbol) {s : List (List ℕ)} → (is_edge y && list_any is_edge before) ≡ false
    → Reads (r.Token (λ (x : List ℕ). next_by before (symbol_of x)) Syntax) (symbol_text y ∷ s) y s
symbol_read before y e = token (ap (next_by before) (symbol_back y) ∙ symbol_fits before y e)

next_symbol_read : (before : List VSymbol) (y : VSymbol) {s : List (List ℕ)} → (is_edge y && list_any is_edge before) ≡ false
    → Reads (next_symbol before) (symbol_text y ∷ s) (before ++ y ∷ []) s
unfolding next_symbol
next_symbol_read before y e = in_turn (symbol_read before y e) gives

-- At most one symbol of a row is an edge.

some_edge : (ys : List VSymbol) → list_any is_edge ys ≡ true → 1 ≤ count_by is_edge ys
some_edge [] h = absurd cc
some_edge (y ∷ ys) h = elim (cases_Bool (is_edge y)) [
  | inl t ↦ (let here : ◌≡◌ {A = ℕ} (cond (is_edge y) 1 0) 1 = rw t refl
      in omega (arith, here, sum_by-cons (λ e. cond (is_edge e) 1 0) y ys))
  | inr f ↦ (let rest = some_edge ys (rw f at h) in omega (arith, rest, sum_by-cons (λ e. cond (is_edge e) 1 0) y ys))
]

second_edge : (before : List VSymbol) (y : VSymbol) (after : List VSymbol) → count_by is_edge (before ++ y ∷ after) ≤ 1
    → list_any is_edge before ≡ true → is_edge y ≡ false
second_edge before y after h c = elim (cases_Bool (is_edge y)) [
  | inl t ↦ (let some = some_edge before c in
      let here : ◌≡◌ {A = ℕ} (cond (is_edge y) 1 0) 1 = rw t refl in
      let cons = sum_by-cons (λ e. cond (is_edge e) 1 0) y after in
      let split = sum_by-append (λ e. cond (is_edge e) 1 0) before (y ∷ after) in
      absurd (omega (arith, some, here, cons, split, h)))
  | inr f ↦ f
]

no_second : (before : List VSymbol) (y : VSymbol) (after : List VSymbol) → count_by is_edge (before ++ y ∷ after) ≤ 1
    → (is_edge y && list_any is_edge before) ≡ false
no_second before y after h = elim (cases_Bool (list_any is_edge before)) [
  | inl t ↦ rw (second_edge before y after h t) refl
  | inr f ↦ rw f (and_false (is_edge y))
]

next_back : (n : VNext) → next_in (next_symbol_of n) ≡ Some n
next_back next.Zero = refl
next_back next.One = refl
next_back next.Unknown = refl
next_back next.Keep = refl

no_edge : (n : VNext) (before : List VSymbol) → (is_edge (next_symbol_of n) && list_any is_edge before) ≡ false
no_edge next.Zero before = refl
no_edge next.One before = refl
no_edge next.Unknown before = refl
no_edge next.Keep before = refl

-- the symbols behind the first
more_symbols : (before xs : List VSymbol) (state : Trits) (n : VNext) (s : List (List ℕ)) → count_by is_edge (before ++ xs) ≤ 1
    → Reads (r.Many (λ _. begins (codes ",")) (λ found _. next_symbol found) before)
    (codes "," ∷ each symbol_front xs (level_text state ∷ codes "," ∷ symbol_text (next_symbol_of n) ∷ codes ")" ∷ s))
    (before ++ (xs ++ symbol.Level state ∷ next_symbol_of n ∷ [])) (codes ")" ∷ s)
more_symbols before [] state n s h =
    turns (turn refl (next_symbol_read before (symbol.Level state) refl))
    (to_same (append_assoc before (symbol.Level state ∷ []) (next_symbol_of n ∷ []))
    (turns (turn refl (next_symbol_read (before ++ symbol.Level state ∷ []) (next_symbol_of n)
    (no_edge n (before ++ symbol.Level state ∷ [])))) (no_turn refl)))
more_symbols before (x ∷ xs) state n s h =
    let same : (before ++ x ∷ []) ++ xs ≡ before ++ x ∷ xs = append_assoc before (x ∷ []) xs in
    turns (turn refl (next_symbol_read before x (no_second before x xs h)))
    (to_same (append_assoc before (x ∷ []) (xs ++ symbol.Level state ∷ next_symbol_of n ∷ []))
    (more_symbols (before ++ x ∷ []) xs state n s (subst (λ (l : List VSymbol). count_by is_edge l ≤ 1) (sym same) h)))

symbols_read : (x : VSymbol) (xs : List VSymbol) (state : Trits) (n : VNext) (s : List (List ℕ)) → count_by is_edge (x ∷ xs) ≤ 1
    → Reads symbols (each symbol_front (x ∷ xs) (level_text state ∷ codes "," ∷ symbol_text (next_symbol_of n) ∷ codes ")" ∷ s))
    ((x ∷ xs) ++ symbol.Level state ∷ next_symbol_of n ∷ []) (codes ")" ∷ s)
unfolding symbols
symbols_read x xs state n s h = in_turn (next_symbol_read [] x (and_false (is_edge x))) (more_symbols (x ∷ []) xs state n s h)

state_by : (long : Bool) (front inputs : List VSymbol) (one two : Option VSymbol) (state : Trits) (y : VSymbol) (n : VNext)
    → long ≡ true → front ≡ inputs → one ≡ Some (symbol.Level state) → two ≡ Some y → next_in y ≡ Some n
    → (if long then state_row_with front (option_and_then state_in one) (option_and_then next_in two) else None) ≡ Some
    (record { inputs = inputs; state = state; result = n })
state_by long front inputs one two state y n a b c d e = rw (a, b, c, d, e) refl

state_row_back : (x : VSymbol) (xs : List VSymbol) (state : Trits) (n : VNext)
    → state_row_of ((x ∷ xs) ++ symbol.Level state ∷ next_symbol_of n ∷ []) ≡ Some
    (record { inputs = x ∷ xs; state = state; result = n })
state_row_back x xs state n =
    let l : VSymbol = symbol.Level state in
    let y : VSymbol = next_symbol_of n in
    let all : List VSymbol = (x ∷ xs) ++ l ∷ y ∷ [] in
    let k : length all ≡ length xs + 3 = omega (arith, length-append (x ∷ xs) (l ∷ y ∷ [])) in
    let long : nat_lt 2 (length all) ≡ true = grind (arith, nat_tests, k) in
    state_by (nat_lt 2 (length all)) (take (length all - 2) all) (x ∷ xs) (slice_get all (length all - 2))
    (slice_get all (length all - 1)) state y n long
    (front_of_two (x ∷ xs) l y) (last_but_one (x ∷ xs) l y) (last_of_two (x ∷ xs) l y) (next_back n)

state_parts_read : (before : List VStateRow) (inputs : List VSymbol) (state : Trits) (n : VNext) (s : List (List ℕ))
    → 1 ≤ length inputs → count_by is_edge inputs ≤ 1
    → is_as_long_as_state_rows before (record { inputs = inputs; state = state; result = n }) ≡ true
    → Reads (state_row before) (codes "(" ∷ each symbol_front inputs (level_text state ∷ codes "," ∷ next_text n ∷ codes ")" ∷ s))
    (before ++ (record { inputs = inputs; state = state; result = n }) ∷ []) s
unfolding state_row
state_parts_read before [] state n s some h long = absurd (omega (arith, some))
state_parts_read before (x ∷ xs) state n s some h long =
    in_turn (expected refl)
    (in_turn (from_same (ap (λ (t : List ℕ). each symbol_front (x ∷ xs) (level_text state ∷ codes "," ∷ t ∷ codes ")" ∷ s))
    (as_symbol n)) (symbols_read x xs state n s h))
    (in_turn (token (row_fits (is_as_long_as_state_rows before)
    (state_row_of ((x ∷ xs) ++ symbol.Level state ∷ next_symbol_of n ∷ []))
    (record { inputs = x ∷ xs; state = state; result = n }) (state_row_back x xs state n) long)) gives))

-- a row of the table of a state behind others
pub state_row_read : (before : List VStateRow) (row : VStateRow) (s : List (List ℕ)) → 1 ≤ length row.inputs
    → count_by is_edge row.inputs ≤ 1
    → is_as_long_as_state_rows before row ≡ true
    → Reads (state_row before) (codes "(" ∷ state_row_front row s) (before ++ row ∷ []) s
state_row_read before row s some h long = state_parts_read before row.inputs row.state row.result s some h long
