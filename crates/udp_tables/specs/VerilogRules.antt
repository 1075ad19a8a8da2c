-- The words with which the grammar of Verilog text is written: a token stands for a word where it is spelled so, and names are
-- those of Verilog. Which forms of IEEE 1364-2005 are read, and which name stands at which place, is this project's subset.
use Rattle.std.specs.Prelude.{ℕ, Bool, List, Option, drop}
use Rattle.std.specs.List.{position_from}
use Rattle.std.specs.Str.{bytes_eq}
use Rattle.grammar_reader.specs.grammar_rules.Rule.{Verdict}
use Rattle.grammar_reader.specs.declared.refusal.Refusal.{Refusal}
use Rattle.grammar_reader.specs.Words.{Grammar}
use Rattle.grammar_reader.specs.Words as words
use Rattle.verilog_tokens.specs.Tokens.{is_name}

-- a token that must stand here
abbrev pub expect : List ℕ → Grammar (Unit {0})
expect text = words.expect bytes_eq text

-- a part that begins with this token
abbrev pub begins : List ℕ → List ℕ → Option (Verdict (Unit {0}) Refusal)
begins text = words.begins bytes_eq text

-- a token that must stand here, and breaks a strict rule of this kind unless the condition holds
abbrev pub expect_where : Bool → Refusal → List ℕ → Grammar (Unit {0})
expect_where holds k text = words.expect_where bytes_eq holds k text

-- a part that begins with this token, which breaks a strict rule of this kind unless the condition holds
abbrev pub begins_where : Bool → Refusal → List ℕ → List ℕ → Option (Verdict (Unit {0}) Refusal)
begins_where holds k text = words.begins_where bytes_eq holds k text

-- the place of a name, which has this to say of a name
abbrev pub named : {A : Type 0} → (List ℕ → Verdict A Refusal) → Grammar A
named judge = words.named is_name judge

-- any name
abbrev pub any_name : Grammar (List ℕ)
any_name = words.any_name is_name

-- the name is one of these
abbrev pub is_among : List (List ℕ) → List ℕ → Bool
is_among names x = words.is_among bytes_eq names x

-- a name that stands for a value at its place
abbrev pub known : {A : Type 0} → (List ℕ → Option A) → Grammar A
known find = words.known is_name find

-- a name that is declared here, and was none of these before
abbrev pub new_name : List (List ℕ) → Grammar (List ℕ)
new_name names = words.new_name is_name bytes_eq names

-- This name. Where there is none, no name is allowed.
abbrev pub this_name : Option (List ℕ) → Grammar (Unit {0})
this_name name = words.this_name is_name bytes_eq name

-- the first place, from this one on, of an item of which the test holds
abbrev pub place_from : {A : Type 0} → (A → Bool) → ℕ → List A → Option ℕ
place_from test from items = position_from test from (drop from items)
