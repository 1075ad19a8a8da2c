-- The texts of the cells of the library.
use Rattle.std.proofs.Common.{◌≡◌, ℕ, ◌%◌, ◌<◌, ◌^◌, List, [], ◌∷◌, ◌++◌, codes, decimal, refl, sym, ap, ◌∙◌, append_assoc}
use Rattle.liberty_text.specs.TextValue.{quoted}
use Rattle.liberty_groups.specs.declared.tree.Value.{Value}
use Rattle.liberty_groups.specs.declared.tree.Item.{Item}
use Rattle.liberty_groups.specs.Writing.{simple_text, complex_text, head_text, item_text, items_text, group_text}
use Rattle.selftest_cells.specs.Draws.{next, pick}
use Rattle.selftest_cells.specs.Statements.{text, simple, complex, group, inner, pin, table, timing}
use Rattle.selftest_cells.specs.Sums.{function_text}
use Rattle.selftest_cells.specs.Library.{function_items, setup, arc, flip_flop, flip_flop_items}
use Rattle.selftest_cells.specs.Library.{latch, latch_items, state_rows, state_table, clock_gate_items, items_by, cell_group}
use Rattle.selftest_cells.proofs.LibraryText.{inner_text, statement_text, complex_statement_text, text_of_group}
use Rattle.selftest_cells.proofs.Writable.{quoted_function, quoted_name}

-- these statements have this text
record HaveText (items : List Item) (t : List ℕ) : Type 0 where
  same : items_text items ≡ t

nothing : HaveText [] []
nothing = record { same = refl }

-- one statement before others
before : (x : Item) (xs : List Item) (s t : List ℕ) → item_text x ≡ s → HaveText xs t → HaveText (x ∷ xs) (s ++ t)
before x xs s t h k = record { same = rw h (rw k.same refl) }

-- a simple attribute before others
simple_before :
    (xs : List Item) (t : List ℕ) (name value : List ℕ) → HaveText xs t
    → HaveText (simple name value ∷ xs) (simple_text name (text value ∷ []) ++ t)
simple_before xs t name value h =
    before (simple name value) xs (simple_text name (text value ∷ [])) t (statement_text name (text value ∷ []) 0) h

-- a group whose statements have this text
abbrev group_around : List ℕ → List Value → List ℕ → List ℕ
group_around name arguments inside = head_text name arguments ++ inside ++ 125 ∷ 10 ∷ []

-- a group before others
inner_before :
    (items xs : List Item) (s t : List ℕ) (name : List ℕ) (arguments : List Value) → HaveText items s → HaveText xs t
    → HaveText (inner name arguments items ∷ xs) (group_around name arguments s ++ t)
inner_before items xs s t name arguments h k =
    before (inner name arguments items) xs (group_around name arguments s) t
    (inner_text (group name arguments items) ∙ text_of_group name arguments items
    ∙ ap (λ (inside : List ℕ). group_around name arguments inside) h.same)
    k

-- a pin before others
pin_before :
    (more xs : List Item) (s t : List ℕ) (name direction : List ℕ) → HaveText more s → HaveText xs t
    → HaveText (pin name direction more ∷ xs)
    (group_around (codes "pin") (text name ∷ []) (simple_text (codes "direction") (text direction ∷ []) ++ s) ++ t)
unfolding pin
pin_before more xs s t name direction h k =
    inner_before _ _ _ _ (codes "pin") (text name ∷ []) (simple_before _ _ (codes "direction") direction h) k

-- a table with one entry, before others
table_before :
    (xs : List Item) (t : List ℕ) (name entry : List ℕ) → HaveText xs t
    → HaveText (table name entry ∷ xs)
    (group_around name (text (codes "scalar") ∷ []) (complex_text (codes "values") (text entry ∷ []) ++ []) ++ t)
unfolding table
table_before xs t name entry h =
    inner_before _ _ _ _ name (text (codes "scalar") ∷ [])
    (before (complex (codes "values") entry) [] (complex_text (codes "values") (text entry ∷ [])) []
    (complex_statement_text (codes "values") (text entry ∷ []) 0) nothing)
    h

-- a timing group of the clock before others
timing_before :
    (xs : List Item) (t : List ℕ) (kind rise first fall second : List ℕ) → HaveText xs t
    → HaveText (timing (codes "CK") kind (table rise first) (table fall second) ∷ xs)
    (group_around (codes "timing") []
    (simple_text (codes "related_pin") (text (codes "CK") ∷ [])
    ++ (simple_text (codes "timing_type") (text kind ∷ [])
    ++ (group_around rise (text (codes "scalar") ∷ []) (complex_text (codes "values") (text first ∷ []) ++ [])
    ++ (group_around fall (text (codes "scalar") ∷ []) (complex_text (codes "values") (text second ∷ []) ++ []) ++ []))))
    ++ t)
unfolding timing
timing_before xs t kind rise first fall second h =
    inner_before _ _ _ _ (codes "timing") []
    (simple_before _ _ (codes "related_pin") (codes "CK")
    (simple_before _ _ (codes "timing_type") kind (table_before _ _ rise first (table_before _ _ fall second nothing))))
    h

-- a cell with a flip-flop
pub flip_flop_statements :
    items_text flip_flop_items
    ≡ codes "ff (\"IQ\", \"IQN\") {\nnext_state : \"D\";\nclocked_on : \"CK\";\nclear : \"R\";\n}\n"
    ++ (codes "pin (\"CK\") {\ndirection : \"input\";\n}\npin (\"D\") {\ndirection : \"input\";\ntiming () {\n"
    ++ (codes "related_pin : \"CK\";\ntiming_type : \"setup_rising\";\nrise_constraint (\"scalar\") {\n"
    ++ (codes "values (\"20\");\n}\nfall_constraint (\"scalar\") {\nvalues (\"20\");\n}\n}\n}\npin (\"R\") {\n"
    ++ (codes "direction : \"input\";\n}\npin (\"Q\") {\ndirection : \"output\";\nfunction : \"IQ\";\ntiming () {\n"
    ++ (codes "related_pin : \"CK\";\ntiming_type : \"rising_edge\";\ncell_rise (\"scalar\") {\nvalues (\"5\");\n"
    ++ codes "}\ncell_fall (\"scalar\") {\nvalues (\"7\");\n}\n}\n}\n")))))
unfolding flip_flop_items flip_flop setup arc
flip_flop_statements =
    let state =
    simple_before _ _ (codes "next_state") (codes "D")
    (simple_before _ _ (codes "clocked_on") (codes "CK") (simple_before _ _ (codes "clear") (codes "R") nothing)) in
    let check =
    timing_before _ _ (codes "setup_rising") (codes "rise_constraint") (codes "20") (codes "fall_constraint") (codes "20") nothing
    in
    let delayed =
    simple_before _ _ (codes "function") (codes "IQ")
    (timing_before _ _ (codes "rising_edge") (codes "cell_rise") (codes "5") (codes "cell_fall") (codes "7") nothing) in
    let all =
    inner_before _ _ _ _ (codes "ff") (text (codes "IQ") ∷ text (codes "IQN") ∷ []) state
    (pin_before _ _ _ _ (codes "CK") (codes "input") nothing
    (pin_before _ _ _ _ (codes "D") (codes "input") check
    (pin_before _ _ _ _ (codes "R") (codes "input") nothing (pin_before _ _ _ _ (codes "Q") (codes "output") delayed nothing))))
    in
    all.same

-- a cell with a latch
pub latch_statements :
    items_text latch_items
    ≡ codes "latch (\"IQ\", \"IQN\") {\ndata_in : \"D\";\nenable : \"EN\";\n}\npin (\"EN\") {\n"
    ++ (codes "direction : \"input\";\nmin_pulse_width_high : \"15\";\n}\npin (\"D\") {\ndirection : \"input\";\n"
    ++ codes "}\npin (\"Q\") {\ndirection : \"output\";\nfunction : \"IQ\";\n}\n")
unfolding latch_items latch
latch_statements =
    let state = simple_before _ _ (codes "data_in") (codes "D") (simple_before _ _ (codes "enable") (codes "EN") nothing) in
    let all =
    inner_before _ _ _ _ (codes "latch") (text (codes "IQ") ∷ text (codes "IQN") ∷ []) state
    (pin_before _ _ _ _ (codes "EN") (codes "input") (simple_before _ _ (codes "min_pulse_width_high") (codes "15") nothing)
    (pin_before _ _ _ _ (codes "D") (codes "input") nothing
    (pin_before _ _ _ _ (codes "Q") (codes "output") (simple_before _ _ (codes "function") (codes "IQ") nothing) nothing))) in
    all.same

-- a cell with a clock gate
pub clock_gate_statements :
    items_text clock_gate_items
    ≡ codes "statetable (\"CK E SE\", \"IQ\") {\n"
    ++ (codes "table : \"L L L : - : L, L L H : - : H, L H L : - : H, L H H : - : H, H - - : - : N\";\n}\n"
    ++ (codes "pin (\"CK\") {\ndirection : \"input\";\n}\npin (\"E\") {\ndirection : \"input\";\n}\n"
    ++ (codes "pin (\"SE\") {\ndirection : \"input\";\n}\npin (\"IQ\") {\ndirection : \"internal\";\n"
    ++ (codes "internal_node : \"IQ\";\n}\npin (\"GCK\") {\ndirection : \"output\";\n"
    ++ codes "state_function : \"CK * IQ\";\n}\n"))))
unfolding clock_gate_items state_table state_rows
clock_gate_statements =
    let all =
    inner_before _ _ _ _ (codes "statetable") (text (codes "CK E SE") ∷ text (codes "IQ") ∷ [])
    (simple_before _ _ (codes "table") state_rows nothing)
    (pin_before _ _ _ _ (codes "CK") (codes "input") nothing
    (pin_before _ _ _ _ (codes "E") (codes "input") nothing
    (pin_before _ _ _ _ (codes "SE") (codes "input") nothing
    (pin_before _ _ _ _ (codes "IQ") (codes "internal") (simple_before _ _ (codes "internal_node") (codes "IQ") nothing)
    (pin_before _ _ _ _ (codes "GCK") (codes "output") (simple_before _ _ (codes "state_function") (codes "CK * IQ") nothing)
    nothing))))) in
    all.same

-- what stands behind a function text, joined from the inside out
behind_function :
    (f : List ℕ)
    → ((((f ++ 34 ∷ []) ++ []) ++ 59 ∷ 10 ∷ []) ++ []) ++ 125 ∷ 10 ∷ []
    ≡ f ++ codes "\";\n}\n"
behind_function [] = refl
behind_function (b ∷ bs) = ap (λ (t : List ℕ). b ∷ t) (behind_function bs)

no_more : (s : List ℕ) → s ++ [] ≡ s
no_more [] = refl
no_more (b ∷ bs) = ap (λ (t : List ℕ). b ∷ t) (no_more bs)

-- a cell with this function
of_function :
    (f : List ℕ) → quoted f ≡ f
    → items_text (function_items f)
    ≡ (codes "pin (\"A\") {\ndirection : \"input\";\n}\npin (\"B\") {\ndirection : \"input\";\n}\npin (\"C\") {\n"
    ++ codes "direction : \"input\";\n}\npin (\"Y\") {\ndirection : \"output\";\nfunction : \"") ++ (f ++ codes "\";\n}\n")
unfolding function_items
of_function f h =
    let all =
    pin_before _ _ _ _ (codes "A") (codes "input") nothing
    (pin_before _ _ _ _ (codes "B") (codes "input") nothing
    (pin_before _ _ _ _ (codes "C") (codes "input") nothing
    (pin_before _ _ _ _ (codes "Y") (codes "output") (simple_before _ _ (codes "function") f nothing) nothing))) in
    all.same
    ∙ ap
    (λ (q : List ℕ). (codes "pin (\"A\") {\ndirection : \"input\";\n}\npin (\"B\") {\ndirection : \"input\";\n}\npin (\"C\") {\n"
    ++ codes "direction : \"input\";\n}\npin (\"Y\") {\ndirection : \"output\";\nfunction : \"")
    ++ ((((((q ++ 34 ∷ []) ++ []) ++ 59 ∷ 10 ∷ []) ++ []) ++ 125 ∷ 10 ∷ []) ++ []))
    h
    ∙ ap
    (λ (t : List ℕ). (codes "pin (\"A\") {\ndirection : \"input\";\n}\npin (\"B\") {\ndirection : \"input\";\n}\npin (\"C\") {\n"
    ++ codes "direction : \"input\";\n}\npin (\"Y\") {\ndirection : \"output\";\nfunction : \"") ++ t)
    (no_more (((((f ++ 34 ∷ []) ++ []) ++ 59 ∷ 10 ∷ []) ++ []) ++ 125 ∷ 10 ∷ []) ∙ behind_function f)

-- what a text is once the statements of a cell with a function that is drawn from its number stand behind it
pub pushed_function :
    (number : ℕ) (text front function all : List ℕ)
    → front ≡ text ++ (codes "pin (\"A\") {\ndirection : \"input\";\n}\npin (\"B\") {\ndirection : \"input\";\n}\npin (\"C\") {\n"
    ++ codes "direction : \"input\";\n}\npin (\"Y\") {\ndirection : \"output\";\nfunction : \"")
    → function ≡ front ++ function_text (pick (next number) 256)
    → all ≡ function ++ codes "\";\n}\n"
    → all ≡ text ++ items_text (function_items (function_text (pick (next number) 256)))
pushed_function number text front function all h k m =
    let drawn = function_text (pick (next number) 256) in
    m ∙ ap (λ (t : List ℕ). t ++ codes "\";\n}\n") (k ∙ ap (λ (t : List ℕ). t ++ drawn) h)
    ∙ append_assoc (text ++ (codes "pin (\"A\") {\ndirection : \"input\";\n}\npin (\"B\") {\ndirection : \"input\";\n}\npin (\"C\") {\n"
    ++ codes "direction : \"input\";\n}\npin (\"Y\") {\ndirection : \"output\";\nfunction : \"")) drawn (codes "\";\n}\n")
    ∙ append_assoc text (codes "pin (\"A\") {\ndirection : \"input\";\n}\npin (\"B\") {\ndirection : \"input\";\n}\npin (\"C\") {\n"
    ++ codes "direction : \"input\";\n}\npin (\"Y\") {\ndirection : \"output\";\nfunction : \"") (drawn ++ codes "\";\n}\n")
    ∙ ap (λ (t : List ℕ). text ++ t) (sym (of_function drawn (quoted_function (pick (next number) 256))))

-- what stands behind the number in a cell's name, joined from the inside out
behind_name : (f : List ℕ) → ((f ++ 34 ∷ []) ++ []) ++ 41 ∷ 32 ∷ 123 ∷ 10 ∷ [] ≡ f ++ codes "\") {\n"
behind_name [] = refl
behind_name (b ∷ bs) = ap (λ (t : List ℕ). b ∷ t) (behind_name bs)

-- what stands before the statements of a cell with this name
of_name :
    (name : List ℕ) → quoted name ≡ name
    → head_text (codes "cell") (text name ∷ []) ≡ codes "cell (\"" ++ (((name ++ 34 ∷ []) ++ []) ++ 41 ∷ 32 ∷ 123 ∷ 10 ∷ [])
of_name name h = ap (λ (q : List ℕ). codes "cell (\"" ++ (((q ++ 34 ∷ []) ++ []) ++ 41 ∷ 32 ∷ 123 ∷ 10 ∷ [])) h

of_number :
    (number : ℕ) → number < 2 ^ 64
    → head_text (codes "cell") (text (codes "G" ++ decimal number) ∷ []) ≡ codes
    "cell (\"G" ++ (decimal number ++ codes "\") {\n")
of_number number h =
    of_name (codes "G" ++ decimal number) (quoted_name number h)
    ∙ ap (λ (t : List ℕ). codes "cell (\"G" ++ t) (behind_name (decimal number))

-- a cell
pub text_of_cell :
    (number : ℕ) → number < 2 ^ 64
    → group_text (cell_group number)
    ≡ ((codes "cell (\"G" ++ (decimal number ++ codes "\") {\n")) ++ items_text (items_by (number % 4) number)) ++ 125 ∷ 10 ∷ []
unfolding cell_group
text_of_cell number h =
    text_of_group (codes "cell") (text (codes "G" ++ decimal number) ∷ []) (items_by (number % 4) number)
    ∙ ap (λ (t : List ℕ). (t ++ items_text (items_by (number % 4) number)) ++ 125 ∷ 10 ∷ []) (of_number number h)
