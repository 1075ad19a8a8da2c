-- A row of a table of any kind, by how its entries are read, what they are as a row, and how many inputs a row has.
use Rattle.std.specs.Prelude.{ℕ, List, [], ◌∷◌, ◌++◌, Option, Ok, codes}
use Rattle.grammar_rules.specs.Rule.{Token}
use Rattle.grammar_rules.specs.Reading.{Outcome, and_then, read}
use Rattle.grammar_reader.specs.declared.refusal.Refusal.{Refusal}
use Rattle.grammar_reader.specs.declared.refusal.Refusal.TheVariants.{Syntax}
use Rattle.grammar_reader.specs.Repeated.{Part, one_or_more}
use Rattle.vhdl_tokens.specs.Spelling.{is_same}
use Rattle.vhdl_grammar.specs.Aggregates.{elements}
use Rattle.vhdl_grammar.specs.VhdlRules.{expect}
use Rattle.vhdl_grammar.specs.VhdlTables.{row_end, is_as_long}

-- ENTRY { "," ENTRY }
abbrev pub entries : {E : Type 0} → Part (List E) → List (List ℕ) → Outcome (List ℕ) Refusal (List E)
entries entry s = one_or_more is_same (codes ",") entry [] s

module _ {E R : Type 0} (entry : Part (List E)) (row_of : List E → Option R) (input_count : R → ℕ) where
  -- "(" ENTRIES ")" behind these rows
  abbrev pub row : Part (List R)
  row rows s =
      and_then (read (expect (codes "(")) s) (λ _ r. and_then (entries entry r) (λ all q.
      and_then (read (Token (row_end (is_as_long input_count rows) (row_of all)) Syntax) q)
      (λ whole t. Ok (rows ++ whole ∷ [], t))))

  -- "(" ROWS ")"
  abbrev pub rows_of : List (List ℕ) → Outcome (List ℕ) Refusal (List R)
  rows_of s = and_then (read (expect (codes "(")) s) (λ _ r. and_then (elements row [] r) (λ all q.
      and_then (read (expect (codes ")")) q) (λ _ t. Ok (all, t))))
