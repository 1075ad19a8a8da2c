-- The declarations of a value change dump: a scope for each section, with its inputs, and in it a scope for each trace. (IEEE
-- 1364-2005, 18.2.3.)
use Rattle.std.specs.Prelude.{ℕ, ◌==◌, List, [], ◌∷◌, ◌++◌, codes, decimal, if◌then◌else◌}
use Rattle.std.specs.List.{flat_map}

-- what a signal is by its mark
abbrev pub kind : ℕ → List ℕ
kind mark = if mark == 61 then codes "wire" else codes "event"

-- a name that begins as a keyword does is escaped
abbrev pub escape : List ℕ → List ℕ
escape [] = []
escape (b ∷ rest) = if b == 36 then codes "\\" else []

-- the word of an event: a check's, ahead of its number, or that of the event that two lines differ
abbrev pub event_word : List ℕ → List ℕ
event_word [] = codes "differs"
event_word (b ∷ rest) = codes "check"

-- what stands ahead of a name in its declaration
abbrev pub front : ℕ → List ℕ → List ℕ
front mark name = if mark == 61 then escape name else event_word name

-- A declaration of this kind, with a name in two parts. Its identifier code is the number of the line where the section begins,
-- and the signal's key.
unfoldable pub declaration : ℕ → List ℕ → List ℕ → List ℕ → List ℕ → List ℕ
declaration section key kind front name =
    codes "$var " ++ (kind ++ (codes " 1 " ++ (decimal section ++ (key ++ (codes " " ++ (front ++ (name ++ codes " $end\n")))))))

-- by its key, in the scope that the key's first byte names
abbrev pub signal_text : ℕ → ℕ → List ℕ → List ℕ
signal_text section scope (first ∷ (mark ∷ name)) =
    if first == scope then declaration section (first ∷ mark ∷ name) (kind mark) (front mark name) name else []
signal_text section scope _ = []

abbrev pub signals_text : ℕ → ℕ → List (List ℕ) → List ℕ
signals_text section scope keys = flat_map (signal_text section scope) keys

-- a scope around declarations
unfoldable pub around : ℕ → List ℕ → List ℕ
around scope signals = codes "$scope module " ++ ((scope ∷ []) ++ (codes " $end\n" ++ (signals ++ codes "$upscope $end\n")))

-- where there are any
abbrev pub within : ℕ → List ℕ → List ℕ
within scope [] = []
within scope (b ∷ rest) = around scope (b ∷ rest)

-- the scope of a section begins: `s`, the number of its line, `_` and the name of the cell
unfoldable pub section_begin : ℕ → List ℕ → List ℕ
section_begin section name = codes "$scope module s" ++ (decimal section ++ (codes "_" ++ (name ++ codes " $end\n")))

-- what is declared in it, and its end: its own signals, and those of the cell, of the module and of the entity
unfoldable pub section_end : ℕ → List (List ℕ) → List ℕ
section_end section keys =
    signals_text section 46 keys
    ++ (within 76 (signals_text section 76 keys)
    ++ (within 86 (signals_text section 86 keys) ++ (within 72 (signals_text section 72 keys) ++ codes "$upscope $end\n")))
