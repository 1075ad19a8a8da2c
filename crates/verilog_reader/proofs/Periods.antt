-- The number of the second line of a period, at the next token.
use Rattle.std.proofs.Common.{◌≡◌, ℕ, List, refl}
use Rattle.grammar_rules.specs.Reading.{read}
use Rattle.grammar_reader.specs.Next.{next_bytes}
use Rattle.grammar_reader.specs.Reading.{number_at}
use Rattle.grammar_reader.proofs.Values as values
use Rattle.verilog_tokens.specs.Numbers.{number_of}
use Rattle.verilog_grammar.specs.VerilogBlocks.{same_number}

-- what is read at a token that has to stand for the same number as before
pub number_found : (limit : ℕ) (s : List (List ℕ)) → read (same_number limit) s ≡ number_at limit (number_of (next_bytes s)) s
unfolding same_number
number_found limit s = values.number_found number_of limit s refl
