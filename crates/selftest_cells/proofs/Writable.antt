-- The cells of the library and the library itself can be written.
use Rattle.std.proofs.Common.{◌≡◌, ℕ, zero, suc, ◌-◌, ◌/◌, ◌%◌, ◌<◌, ◌^◌, ◌==◌, ◌&&◌, Bool, true, false, not, List, [], ◌∷◌, ◌++◌}
use Rattle.std.proofs.Common.{codes, decimal, refl, ap, ◌∙◌, arith, if◌then◌else◌, IsTrue}
use Rattle.std.specs.List.{list_all, list_any}
use Rattle.std.specs.Str.Parse.{AllDigits}
use Rattle.std.proofs.lemmas.Bool.{ne_eqb, and_parts, and_from}
use Rattle.std.proofs.lemmas.Fmt.{decimal_is_IsNumeral}
use Rattle.std.proofs.lemmas.List.Folds.{list_all-append}
use Rattle.std.proofs.lemmas.Str.Parse.{digit_from_value}
use Rattle.liberty_text.specs.TextValue.{quoted, ends_in_backslash}
use Rattle.liberty_groups.specs.declared.tree.Item.{Item}
use Rattle.liberty_groups.specs.declared.tree.Item.TheVariants as item
use Rattle.liberty_groups.specs.declared.tree.Value.{Value}
use Rattle.liberty_groups.proofs.WritesBack.{writable_parts}
use Rattle.liberty_groups.specs.Writing.{is_name, is_quotable, is_writable, item_is_writable}
use Rattle.selftest_cells.specs.Draws.{next, pick}
use Rattle.selftest_cells.specs.Statements.{text, simple, complex, group, inner, pin, table, timing}
use Rattle.selftest_cells.specs.Sums.{literal, product, bits_from, plus, sum_below, or_zero, function_text}
use Rattle.selftest_cells.specs.Library.{input, function_items, setup, arc, flip_flop, flip_flop_items, latch, latch_items}
use Rattle.selftest_cells.specs.Library.{state_rows, state_table, clock_gate_items, items_by, cell_group, cells, library}

-- neither a line feed nor a backslash, and no quote
abbrev is_plain : ℕ → Bool
is_plain b = not (b == 10) && (not (b == 92) && not (b == 34))

abbrev are_plain : List ℕ → Bool
are_plain = list_all is_plain

plain_parts : (b : ℕ) → IsTrue (is_plain b) → (b == 10) ≡ false × (b == 92) ≡ false × (b == 34) ≡ false
plain_parts b h = by (b == 10) (b == 92) (b == 34) h
  where
    by : (line back quote : Bool) → IsTrue (not line && (not back && not quote)) → (line ≡ false) × (back ≡ false)
        × (quote ≡ false)
    by true back quote h = absurd cc
    by false true quote h = absurd cc
    by false false true h = absurd cc
    by false false false h = (refl, refl, refl)

no_line : (bs : List ℕ) → IsTrue (are_plain bs) → list_any (λ b. b == 10) bs ≡ false
no_line [] h = refl
no_line (b ∷ bs) h =
    let parts = and_parts (is_plain b) (are_plain bs) h in
    rw (plain_parts b parts.0).0 (no_line bs parts.1)

no_backslash : (before : Bool) (bs : List ℕ) → before ≡ false → IsTrue (are_plain bs) → ends_in_backslash before bs ≡ false
no_backslash before [] e h = e
no_backslash before (b ∷ bs) e h =
    let parts = and_parts (is_plain b) (are_plain bs) h in
    no_backslash (b == 92) bs (plain_parts b parts.0).1 parts.1

-- such bytes stand for themselves between quotes
plain_quoted : (bs : List ℕ) → IsTrue (are_plain bs) → quoted bs ≡ bs
plain_quoted [] h = refl
plain_quoted (b ∷ bs) h =
    let parts = and_parts (is_plain b) (are_plain bs) h in
    rw (plain_parts b parts.0).2 (ap (λ (t : List ℕ). b ∷ t) (plain_quoted bs parts.1))

plain_quotable : (bs : List ℕ) → IsTrue (are_plain bs) → is_quotable (text bs) ≡ true
plain_quotable bs h = rw (no_line bs h) (rw (no_backslash false bs refl h) refl)

plain_append : (xs ys : List ℕ) → IsTrue (are_plain xs) → IsTrue (are_plain ys) → IsTrue (are_plain (xs ++ ys))
plain_append xs ys h k = list_all-append is_plain xs ys ∙ and_from (are_plain xs) (are_plain ys) h k

digits_plain : (ds : List ℕ) → AllDigits 10 ds → IsTrue (are_plain ds)
digits_plain [] h = refl
digits_plain (d ∷ ds) h =
    let bounds = digit_from_value d h.0 in
    and_from (is_plain d) (are_plain ds)
    (rw (ne_eqb d 10 (λ e. omega (arith, bounds, e)))
    (rw (ne_eqb d 92 (λ e. omega (arith, bounds, e))) (rw (ne_eqb d 34 (λ e. omega (arith, bounds, e))) refl)))
    (digits_plain ds h.1)

name_plain : (n : ℕ) → n < 2 ^ 64 → IsTrue (are_plain (codes "G" ++ decimal n))
name_plain n h = digits_plain (decimal n) (decimal_is_IsNumeral n h).0.1

-- the function texts
literal_plain : (name : ℕ) (one : Bool) → IsTrue (is_plain name) → IsTrue (are_plain (if one then name ∷ [] else 33 ∷ name ∷ []))
literal_plain name true h = and_from (is_plain name) true h refl
literal_plain name false h = and_from (is_plain name) true h refl

product_plain : (i : ℕ) → IsTrue (are_plain (product i))
unfolding product
product_plain i =
    plain_append (literal 65 (i % 2) ++ 42 ∷ literal 66 ((i / 2) % 2)) (42 ∷ literal 67 ((i / 4) % 2))
    (plain_append (literal 65 (i % 2)) (42 ∷ literal 66 ((i / 2) % 2)) (literal_plain 65 (i % 2 == 1) refl)
    (literal_plain 66 ((i / 2) % 2 == 1) refl))
    (literal_plain 67 ((i / 4) % 2 == 1) refl)

plus_plain : (sum product : List ℕ) → IsTrue (are_plain sum) → IsTrue (are_plain product) → IsTrue (are_plain (plus sum product))
plus_plain [] product h k = k
plus_plain (b ∷ bs) product h k = plain_append (b ∷ bs) (43 ∷ product) h k

either_plain : (b : Bool) (xs ys : List ℕ) → IsTrue (are_plain xs) → IsTrue (are_plain ys)
    → IsTrue (are_plain (if b then xs else ys))
either_plain true xs ys h k = h
either_plain false xs ys h k = k

sum_plain : (number i : ℕ) → IsTrue (are_plain (sum_below number i))
sum_plain number zero = refl
sum_plain number (suc i) =
    either_plain (bits_from number i % 2 == 1) (plus (sum_below number i) (product i)) (sum_below number i)
    (plus_plain (sum_below number i) (product i) (sum_plain number i) (product_plain i)) (sum_plain number i)

or_zero_plain : (bs : List ℕ) → IsTrue (are_plain bs) → IsTrue (are_plain (or_zero bs))
or_zero_plain [] h = refl
or_zero_plain (b ∷ bs) h = h

function_plain : (number : ℕ) → IsTrue (are_plain (function_text number))
unfolding function_text
function_plain number = or_zero_plain (sum_below number 8) (sum_plain number 8)

pub quoted_function : (number : ℕ) → quoted (function_text number) ≡ function_text number
quoted_function number = plain_quoted (function_text number) (function_plain number)

pub quoted_name : (n : ℕ) → n < 2 ^ 64 → quoted (codes "G" ++ decimal n) ≡ codes "G" ++ decimal n
quoted_name n h = plain_quoted (codes "G" ++ decimal n) (name_plain n h)

-- a statement, a group and a pin that can be written
simple_writable : (l : ℕ) (name value : List ℕ) → is_name name ≡ true → is_quotable (text value) ≡ true
    → item_is_writable l (simple name value) ≡ true
simple_writable l name value h k = writable_parts.simple l name (text value ∷ []) 0 ∙ rw h (rw k refl)

complex_writable : (l : ℕ) (name value : List ℕ) → is_name name ≡ true → is_quotable (text value) ≡ true
    → item_is_writable l (complex name value) ≡ true
complex_writable l name value h k = writable_parts.complex l name (text value ∷ []) 0 ∙ rw h (rw k refl)

group_writable :
    (l : ℕ) (name : List ℕ) (arguments : List Value) (items : List Item) → is_name name ≡ true
    → list_all is_quotable arguments ≡ true
    → list_all (item_is_writable l) items ≡ true → is_writable (suc l) (group name arguments items) ≡ true
group_writable l name arguments items h k m =
    let below : suc l - 1 ≡ l = omega (arith) in
    let some : (suc l == 0) ≡ false = ne_eqb (suc l) 0 (λ e. omega (arith, e)) in
    writable_parts.group (suc l) name arguments items 0
    ∙ rw some (rw h (rw k (ap (λ (n : ℕ). list_all (item_is_writable n) items) below ∙ m)))

inner_writable :
    (l : ℕ) (name : List ℕ) (arguments : List Value) (items : List Item) → is_name name ≡ true
    → list_all is_quotable arguments ≡ true
    → list_all (item_is_writable l) items ≡ true → item_is_writable (suc l) (inner name arguments items) ≡ true
inner_writable l name arguments items h k m =
    writable_parts.inner (suc l) (group name arguments items) ∙ group_writable l name arguments items h k m

-- one statement before others
before :
    (l : ℕ) (x : Item) (xs : List Item) → item_is_writable l x ≡ true → list_all (item_is_writable l) xs ≡ true
    → list_all (item_is_writable l) (x ∷ xs) ≡ true
before l x xs h k = rw h k

pin_writable :
    (l : ℕ) (name direction : List ℕ) (more : List Item) → is_quotable (text name) ≡ true → is_quotable (text direction) ≡ true
    → list_all (item_is_writable l) more ≡ true → item_is_writable (suc l) (pin name direction more) ≡ true
unfolding pin
pin_writable l name direction more h k m =
    inner_writable l (codes "pin") (text name ∷ []) (simple (codes "direction") direction ∷ more) refl (rw h refl)
    (before l (simple (codes "direction") direction) more (simple_writable l (codes "direction") direction refl k) m)

table_writable : (l : ℕ) (name entry : List ℕ) → is_name name ≡ true → is_quotable (text entry) ≡ true
    → item_is_writable (suc l) (table name entry) ≡ true
unfolding table
table_writable l name entry h k =
    inner_writable l name (text (codes "scalar") ∷ []) (complex (codes "values") entry ∷ []) h refl
    (before l (complex (codes "values") entry) [] (complex_writable l (codes "values") entry refl k) refl)

timing_writable :
    (l : ℕ) (related kind : List ℕ) (rise fall : Item) → is_quotable (text related) ≡ true → is_quotable (text kind) ≡ true
    → item_is_writable l rise ≡ true → item_is_writable l fall ≡ true
    → item_is_writable (suc l) (timing related kind rise fall) ≡ true
unfolding timing
timing_writable l related kind rise fall h k m n =
    inner_writable l (codes "timing") []
    (simple (codes "related_pin") related ∷ simple (codes "timing_type") kind ∷ rise ∷ fall ∷ []) refl refl
    (before l (simple (codes "related_pin") related) (simple (codes "timing_type") kind ∷ rise ∷ fall ∷ [])
    (simple_writable l (codes "related_pin") related refl h)
    (before l (simple (codes "timing_type") kind) (rise ∷ fall ∷ []) (simple_writable l (codes "timing_type") kind refl k)
    (before l rise (fall ∷ []) m (before l fall [] n refl))))

-- the statements of a cell, three levels above its innermost ones
abbrev three_above : ℕ → ℕ
three_above l = suc (suc (suc l))

plain_input : (l : ℕ) (name : List ℕ) → is_quotable (text name) ≡ true → item_is_writable (three_above l) (input name []) ≡ true
plain_input l name h = pin_writable (suc (suc l)) name (codes "input") [] h refl refl

-- a pin with one statement behind its direction
stated_pin :
    (l : ℕ) (name direction key value : List ℕ) → is_quotable (text name) ≡ true → is_quotable (text direction) ≡ true
    → is_name key ≡ true → is_quotable (text value) ≡ true
    → item_is_writable (three_above l) (pin name direction (simple key value ∷ [])) ≡ true
stated_pin l name direction key value h k n q =
    pin_writable (suc (suc l)) name direction (simple key value ∷ []) h k
    (before (suc (suc l)) (simple key value) [] (simple_writable (suc (suc l)) key value n q) refl)

function_items_writable :
    (l : ℕ) (f : List ℕ) → is_quotable (text f) ≡ true → list_all (item_is_writable (three_above l)) (function_items f) ≡ true
unfolding function_items
function_items_writable l f h =
    rw (plain_input l (codes "A") refl) (rw (plain_input l (codes "B") refl) (rw (plain_input l (codes "C") refl)
    (rw (stated_pin l (codes "Y") (codes "output") (codes "function") f refl refl refl h) refl)))

setup_writable : (l : ℕ) → item_is_writable (suc (suc l)) setup ≡ true
unfolding setup
setup_writable l =
    timing_writable (suc l) (codes "CK") (codes "setup_rising") (table (codes "rise_constraint") (codes "20"))
    (table (codes "fall_constraint") (codes "20")) refl refl (table_writable l (codes "rise_constraint") (codes "20") refl refl)
    (table_writable l (codes "fall_constraint") (codes "20") refl refl)

arc_writable : (l : ℕ) → item_is_writable (suc (suc l)) arc ≡ true
unfolding arc
arc_writable l =
    timing_writable (suc l) (codes "CK") (codes "rising_edge") (table (codes "cell_rise") (codes "5"))
    (table (codes "cell_fall") (codes "7"))
    refl refl (table_writable l (codes "cell_rise") (codes "5") refl refl)
    (table_writable l (codes "cell_fall") (codes "7") refl refl)

ff_writable : (l : ℕ) → item_is_writable (suc l) flip_flop ≡ true
unfolding flip_flop
ff_writable l =
    inner_writable l (codes "ff") (text (codes "IQ") ∷ text (codes "IQN") ∷ [])
    (simple (codes "next_state") (codes "D") ∷ simple (codes "clocked_on") (codes "CK") ∷ simple (codes "clear") (codes "R") ∷ [])
    refl refl
    (rw (simple_writable l (codes "next_state") (codes "D") refl refl)
    (rw (simple_writable l (codes "clocked_on") (codes "CK") refl refl)
    (rw (simple_writable l (codes "clear") (codes "R") refl refl) refl)))

flip_flop_writable : (l : ℕ) → list_all (item_is_writable (three_above l)) flip_flop_items ≡ true
unfolding flip_flop_items
flip_flop_writable l =
    let check = before (suc (suc l)) setup [] (setup_writable l) refl in
    let value =
    before (suc (suc l)) (simple (codes "function") (codes "IQ")) (arc ∷ [])
    (simple_writable (suc (suc l)) (codes "function") (codes "IQ") refl refl)
    (before (suc (suc l)) arc [] (arc_writable l) refl) in
    rw (ff_writable (suc (suc l))) (rw (plain_input l (codes "CK") refl)
    (rw (pin_writable (suc (suc l)) (codes "D") (codes "input") (setup ∷ []) refl refl check) (rw (plain_input l (codes "R") refl)
    (rw (pin_writable (suc (suc l)) (codes "Q") (codes "output") (simple (codes "function") (codes "IQ") ∷ arc ∷ []) refl refl
    value) refl))))

the_latch_writable : (l : ℕ) → item_is_writable (suc l) latch ≡ true
unfolding latch
the_latch_writable l =
    inner_writable l (codes "latch") (text (codes "IQ") ∷ text (codes "IQN") ∷ [])
    (simple (codes "data_in") (codes "D") ∷ simple (codes "enable") (codes "EN") ∷ []) refl refl
    (rw (simple_writable l (codes "data_in") (codes "D") refl refl)
    (rw (simple_writable l (codes "enable") (codes "EN") refl refl) refl))

latch_writable : (l : ℕ) → list_all (item_is_writable (three_above l)) latch_items ≡ true
unfolding latch_items
latch_writable l =
    rw (the_latch_writable (suc (suc l)))
    (rw (stated_pin l (codes "EN") (codes "input") (codes "min_pulse_width_high") (codes "15") refl refl refl refl)
    (rw (plain_input l (codes "D") refl)
    (rw (stated_pin l (codes "Q") (codes "output") (codes "function") (codes "IQ") refl refl refl refl) refl)))

state_rows_quotable : is_quotable (text state_rows) ≡ true
unfolding state_rows
state_rows_quotable = refl

the_table_writable : (l : ℕ) → item_is_writable (suc l) state_table ≡ true
unfolding state_table
the_table_writable l =
    inner_writable l (codes "statetable") (text (codes "CK E SE") ∷ text (codes "IQ") ∷ [])
    (simple (codes "table") state_rows ∷ []) refl refl
    (rw (simple_writable l (codes "table") state_rows refl state_rows_quotable) refl)

clock_gate_writable : (l : ℕ) → list_all (item_is_writable (three_above l)) clock_gate_items ≡ true
unfolding clock_gate_items
clock_gate_writable l =
    rw (the_table_writable (suc (suc l)))
    (rw (plain_input l (codes "CK") refl) (rw (plain_input l (codes "E") refl) (rw (plain_input l (codes "SE") refl)
    (rw (stated_pin l (codes "IQ") (codes "internal") (codes "internal_node") (codes "IQ") refl refl refl refl)
    (rw (stated_pin l (codes "GCK") (codes "output") (codes "state_function") (codes "CK * IQ") refl refl refl refl) refl)))))

-- those of the cell with this number
items_writable : (l kind number : ℕ) → list_all (item_is_writable (three_above l)) (items_by kind number) ≡ true
items_writable l zero number =
    function_items_writable l (function_text (pick (next number) 256))
    (plain_quotable (function_text (pick (next number) 256)) (function_plain (pick (next number) 256)))
items_writable l (suc zero) number = flip_flop_writable l
items_writable l (suc (suc zero)) number = latch_writable l
items_writable l (suc (suc (suc n))) number = clock_gate_writable l

-- a cell can be written
pub cell_writable : (l number : ℕ) → number < 2 ^ 64 → is_writable (suc (three_above l)) (cell_group number) ≡ true
unfolding cell_group
cell_writable l number h =
    group_writable (three_above l) (codes "cell") (text (codes "G" ++ decimal number) ∷ []) (items_by (number % 4) number) refl
    (rw (plain_quotable (codes "G" ++ decimal number) (name_plain number h)) refl) (items_writable l (number % 4) number)

cells_writable : (n : ℕ) → n < 2 ^ 64 → list_all (item_is_writable 31) (cells n) ≡ true
cells_writable zero h = refl
cells_writable (suc n) h =
    list_all-append (item_is_writable 31) (cells n) (item.Inner (cell_group (suc n)) ∷ [])
    ∙ and_from (list_all (item_is_writable 31) (cells n)) (list_all (item_is_writable 31) (item.Inner (cell_group (suc n)) ∷ []))
    (cells_writable n (omega (arith, h)))
    (before 31 (item.Inner (cell_group (suc n))) [] (writable_parts.inner 31 (cell_group (suc n)) ∙ cell_writable 27 (suc n) h)
    refl)

-- so can the library
pub library_writable : (n : ℕ) → n < 2 ^ 64 → is_writable 32 (library n) ≡ true
unfolding library
library_writable n h =
    group_writable 31 (codes "library") (text (codes "selftest") ∷ []) (simple (codes "time_unit") (codes "1ps") ∷ cells n) refl
    refl
    (before 31 (simple (codes "time_unit") (codes "1ps")) (cells n)
    (simple_writable 31 (codes "time_unit") (codes "1ps") refl refl)
    (cells_writable n h))
