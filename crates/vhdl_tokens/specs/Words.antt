-- The words that are no names in VHDL text, upper and lower case alike (IEEE 1076-1993, 13.9: reserved words). The lists are this
-- project's.
use Rattle.std.specs.Prelude.{ℕ, Bool, ◌||◌, List, [], ◌∷◌, codes}
use Rattle.std.specs.List.{list_any}
use Rattle.std.specs.Str.{str_eq_ignore_ascii_case}

-- the reserved words of VHDL
unfoldable pub vhdl_words : List (List ℕ)
vhdl_words =
    codes "abs" ∷ codes "access" ∷ codes "after" ∷ codes "alias" ∷ codes "all" ∷ codes "and" ∷ codes "architecture"
    ∷ codes "array" ∷ codes "assert" ∷ codes "attribute" ∷ codes "begin" ∷ codes "block" ∷ codes "body"
    ∷ codes "buffer" ∷ codes "bus" ∷ codes "case" ∷ codes "component" ∷ codes "configuration" ∷ codes "constant"
    ∷ codes "disconnect" ∷ codes "downto" ∷ codes "else" ∷ codes "elsif" ∷ codes "end" ∷ codes "entity" ∷ codes "exit"
    ∷ codes "file" ∷ codes "for" ∷ codes "function" ∷ codes "generate" ∷ codes "generic" ∷ codes "group"
    ∷ codes "guarded" ∷ codes "if" ∷ codes "impure" ∷ codes "in" ∷ codes "inertial" ∷ codes "inout" ∷ codes "is"
    ∷ codes "label" ∷ codes "library" ∷ codes "linkage" ∷ codes "literal" ∷ codes "loop" ∷ codes "map" ∷ codes "mod"
    ∷ codes "nand" ∷ codes "new" ∷ codes "next" ∷ codes "nor" ∷ codes "not" ∷ codes "null" ∷ codes "of" ∷ codes "on"
    ∷ codes "open" ∷ codes "or" ∷ codes "others" ∷ codes "out" ∷ codes "package" ∷ codes "port" ∷ codes "postponed"
    ∷ codes "procedure" ∷ codes "process" ∷ codes "pure" ∷ codes "range" ∷ codes "record" ∷ codes "register"
    ∷ codes "reject" ∷ codes "rem" ∷ codes "report" ∷ codes "return" ∷ codes "rol" ∷ codes "ror" ∷ codes "select"
    ∷ codes "severity" ∷ codes "shared" ∷ codes "signal" ∷ codes "sla" ∷ codes "sll" ∷ codes "sra" ∷ codes "srl"
    ∷ codes "subtype" ∷ codes "then" ∷ codes "to" ∷ codes "transport" ∷ codes "type" ∷ codes "unaffected"
    ∷ codes "units" ∷ codes "until" ∷ codes "use" ∷ codes "variable" ∷ codes "wait" ∷ codes "when" ∷ codes "while"
    ∷ codes "with" ∷ codes "xnor" ∷ codes "xor" ∷ []

-- the other words that the text of an entity uses
unfoldable pub used_words : List (List ℕ)
used_words =
    codes "boolean" ∷ codes "false" ∷ codes "ieee" ∷ codes "ps" ∷ codes "std" ∷ codes "std_logic"
    ∷ codes "std_logic_1164" ∷ codes "std_logic_vector" ∷ codes "std_ulogic" ∷ codes "string" ∷ codes "time"
    ∷ codes "true" ∷ codes "viol" ∷ codes "work" ∷ codes "x01" ∷ []

-- the bytes are one of these words, whatever the case of their letters
abbrev pub is_word : List (List ℕ) → List ℕ → Bool
is_word words name = list_any (str_eq_ignore_ascii_case name) words

-- the bytes are a reserved word of VHDL
unfoldable pub is_reserved : List ℕ → Bool
is_reserved = is_word vhdl_words

-- the bytes are another word that the text of an entity uses
unfoldable pub is_used : List ℕ → Bool
is_used = is_word used_words

-- the bytes are a word that is no name
abbrev pub is_vhdl_word : List ℕ → Bool
is_vhdl_word name = is_reserved name || is_used name
