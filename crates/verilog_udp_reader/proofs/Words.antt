-- Words and names of Verilog at the next token.
use Rattle.std.proofs.Common.{◌≡◌, ℕ, true, List, Option, Some, None, Ok, Err, refl}
use Rattle.grammar_rules.specs.Reading.{read}
use Rattle.grammar_reader.specs.declared.refusal.Refusal.TheVariants.{Undefined}
use Rattle.grammar_reader.specs.Next.{next_bytes, rest}
use Rattle.grammar_reader.proofs.Values as values
use Rattle.verilog_tokens.specs.Tokens.{is_name}
use Rattle.udp_tables.specs.VerilogRules.{known}

-- a name that stands for this value
pub known_some : {A : Type 0} (find : List ℕ → Option A) (s : List (List ℕ)) (a : A) → is_name (next_bytes s) ≡ true
    → find (next_bytes s) ≡ Some a → read (known find) s ≡ Ok (a, rest s)
known_some find s a e f = values.known_some is_name refl find s a e f

-- a name that stands for no value
pub known_none : {A : Type 0} (find : List ℕ → Option A) (s : List (List ℕ)) → is_name (next_bytes s) ≡ true
    → find (next_bytes s) ≡ None → read (known find) s ≡ Err (Undefined, s)
known_none find s e f = values.known_none is_name refl find s e f
