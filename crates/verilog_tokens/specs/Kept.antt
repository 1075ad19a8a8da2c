-- Which names of a cell library are kept in Verilog text. This project's rule.
use Rattle.std.specs.Prelude.{ℕ, Bool, false, not, ◌&&◌, ◌||◌, ◌==◌, List, [], ◌∷◌, codes, drop, length, nat_eq}
use Rattle.std.specs.Char.{is_ascii_alphabetic}
use Rattle.std.specs.List.{list_all, starts_with}
pub use Rattle.lexer.specs.Tokens.{is_name_byte}
use Rattle.verilog_tokens.specs.Numbers.{is_number}
use Rattle.verilog_tokens.specs.Words.{is_verilog_word}

-- a letter or `_`, followed by letters, digits and `_`: a simple identifier of IEEE 1364-2005, 3.7, without `$`
abbrev pub is_identifier : List ℕ → Bool
is_identifier [] = false
is_identifier (first ∷ others) = (is_ascii_alphabetic first || first == 95) && list_all is_name_byte others

-- this word, followed by a number alone
abbrev pub is_numbered : List ℕ → List ℕ → Bool
is_numbered word name = starts_with nat_eq name word && is_number (drop (length word) name)

-- A name is kept where it is an identifier and no word of Verilog, and could be none of the names that this project gives:
-- those that begin with `lib_`, and the given word followed by a number.
unfoldable pub is_kept_name : List ℕ → List ℕ → Bool
is_kept_name given name =
    is_identifier name && (not (is_verilog_word name)
    && (not (starts_with nat_eq name (codes "lib_")) && not (is_numbered given name)))

-- a cell's name is kept
abbrev pub is_kept_cell_name : List ℕ → Bool
is_kept_cell_name = is_kept_name (codes "cell")

-- a port's name is kept
abbrev pub is_kept_port_name : List ℕ → Bool
is_kept_port_name = is_kept_name (codes "pin")
