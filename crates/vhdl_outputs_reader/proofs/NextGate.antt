-- When the next path counts, by its first token.
use Rattle.std.proofs.Common.{◌≡◌, ℕ, true, false, List, codes}
use Rattle.grammar_rules.specs.Reading.{read}
use Rattle.grammar_reader.specs.Next.{is_next, rest}
use Rattle.vhdl_tokens.specs.Spelling.{is_same}
use Rattle.vhdl_grammar.specs.declared.scope.Scope.{Scope}
use Rattle.vhdl_grammar.specs.VhdlNames.{Uses}
use Rattle.vhdl_grammar.specs.VhdlOutputs.{gate_of, gate_of_conditions, always}
use Rattle.grammar_reader.proofs.Repeats.{choose_begun, choose_other}

pub gated : (scope : Scope) (uses : Uses) (s : List (List ℕ)) → is_next is_same (codes "VitalTruthTable") s ≡ true →
    read (gate_of scope uses) s ≡ read (gate_of_conditions scope uses) (rest s)
unfolding gate_of
gated scope uses s e = choose_begun is_same (codes "VitalTruthTable") s (λ _ r. read (gate_of_conditions scope uses) r)
    (read (always uses) s) e

pub ungated : (scope : Scope) (uses : Uses) (s : List (List ℕ)) → is_next is_same (codes "VitalTruthTable") s ≡ false →
    read (gate_of scope uses) s ≡ read (always uses) s
unfolding gate_of
ungated scope uses s e = choose_other is_same (codes "VitalTruthTable") s (λ _ r. read (gate_of_conditions scope uses) r)
    (read (always uses) s) e
