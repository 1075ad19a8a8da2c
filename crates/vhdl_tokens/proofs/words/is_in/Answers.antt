use Rattle.std.proofs.Common.{◌∙◌, List, ℕ, Bor, arith}
use Rattle.std.specs.Str.{str_to_ascii_lowercase}
use Rattle.lexer.specs.WordGroups.{joined}
use Rattle.lexer.proofs.WordGroups.{nothing}
use Rattle.vhdl_tokens.proofs.GroupWords.{whatever_case, no_bytes}
use Rattle.vhdl_tokens.proofs.words.is_in.Goals as goal

-- the words of a group, and a word in lower case
abbrev words-of : Bor (List (Bor (List ℕ))) → List (Bor (List ℕ))
words-of group = group.now

abbrev lower : Bor (List ℕ) → List ℕ
lower word = str_to_ascii_lowercase word.now

pub returns-then-name-lt1 : goal.returns-then-name-lt1
returns-then-name-lt1 c e =
    no_bytes (joined c.args.groups.now words-of lower) c.args.name.now (omega arith) (nothing words-of lower 97 c.args.groups.now e)

pub returns : goal.returns
returns c e =
    c.is_among.ensures
    ∙ whatever_case (joined c.args.groups.now words-of lower) c.group_of.result.now c.args.name.now c.to_ascii_lowercase.result
    (omega arith) c.to_ascii_lowercase.ensures.value (λ rest. c.group_of.ensures str_to_ascii_lowercase rest e)
