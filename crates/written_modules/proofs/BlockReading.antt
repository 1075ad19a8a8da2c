-- The specify block of a written module is read from its tokens.
use Rattle.std.proofs.Common.{◌≡◌, ℕ, Bool, true, false, nat_lt, List, [], ◌∷◌, length, None, refl, sym, ap, ◌∙◌, arith, codes}
use Rattle.std.specs.List.{AllByRecursion}
use Rattle.std.proofs.lemmas.Bool.Decides.{nat_tests}
use Rattle.std.proofs.lemmas.Bool.{or_parts as both_no}
use Rattle.grammar_rules.specs.Rule.{Stops}
use Rattle.cell_machine.specs.declared.checks.CheckKind.{CheckKind}
use Rattle.cell_machine.specs.declared.checks.CheckKind.TheVariants as check_kind
use Rattle.verilog_grammar.specs.specify_blocks.declared.model.VPath.{VPath}
use Rattle.udp_tables.specs.declared.timing_checks.TimingCheck.{TimingCheck}
use Rattle.verilog_grammar.specs.specify_blocks.declared.model.VModule.{VModule}
use Rattle.verilog_grammar.specs.specify_blocks.Sound.{IsPath, IsCheck}
use Rattle.verilog_grammar.specs.WellFormed.{HasNumbers}
use Rattle.verilog_grammar.specs.VerilogBlocks.{is_path_start, paths, checks, block, specify}
use Rattle.grammar_reader.specs.Words.{begins_by}
use Rattle.verilog_writer.specs.Timing.{has_block}
use Rattle.grammar_reader.proofs.Fronts.{each}
use Rattle.written_modules.proofs.TimingTokens.{check_word, path_tokens, check_tokens, block_by}
use Rattle.grammar_reader.proofs.Derivations.{Reads, to_same, gives, in_turn, chosen, passed, through}
use Rattle.written_modules.proofs.NameReading.{expected}
use Rattle.written_modules.proofs.InstanceReading.{IsWritten}
use Rattle.written_modules.proofs.PathReading.{joined, path_turn}
use Rattle.written_modules.proofs.CheckReading.{HasNumber, check_turn}

-- the paths and checks of a module, and their numbers
pub record AreTimed (m : VModule) : Type 0 where
  pub paths : AllByRecursion (IsPath m) m.paths
  pub checks : AllByRecursion (IsCheck m) m.checks
  pub delays : AllByRecursion HasNumbers m.paths
  pub limits : AllByRecursion HasNumber m.checks

no_path : (kind : CheckKind) → begins_by is_path_start (check_word kind) ≡ None
no_path check_kind.Setup = refl
no_path _ = refl

paths_end : (m : VModule) (all : List TimingCheck) (s : List (List ℕ))
    → Stops (begins_by is_path_start) (each (check_tokens m) all (codes "endspecify" ∷ s))
paths_end m [] s = refl
paths_end m (k ∷ all) s = no_path k.kind

empty_if : {A : Type 0} (xs : List A) → nat_lt 0 (length xs) ≡ false → xs ≡ []
empty_if [] h = refl
empty_if (x ∷ xs) h = absurd (grind (arith, nat_tests))

-- a module without a block is the same before and after it
without_block : (m : VModule) → has_block m ≡ false → joined m ≡ m
without_block m h =
    let parts = both_no (nat_lt 0 (length m.paths)) (nat_lt 0 (length m.checks)) h in
    ap (λ (p : List VPath). record m { paths = p; checks = [] }) (sym (empty_if m.paths parts.0))
    ∙ ap (λ (c : List TimingCheck). record m { checks = c }) (sym (empty_if m.checks parts.1))

block_read : (m : VModule) → IsWritten m → AreTimed m → (b : Bool) → has_block m ≡ b → (s : List (List ℕ))
    → Reads (specify (joined m)) (block_by b m (codes "endmodule" ∷ s)) m (codes "endmodule" ∷ s)
unfolding specify block paths checks
block_read m w t true e s =
    chosen refl
    (in_turn (through (λ (l : List VPath). l) (path_tokens m) [] m.paths (path_turn m w m.paths t.paths t.delays)
    (each (check_tokens m) m.checks (codes "endspecify" ∷ codes "endmodule" ∷ s))
    (paths_end m m.checks (codes "endmodule" ∷ s)))
    (in_turn (through (λ (l : List TimingCheck). l) (check_tokens m) [] m.checks (check_turn m w m.checks t.checks t.limits)
    (codes "endspecify" ∷ codes "endmodule" ∷ s) refl)
    (in_turn expected gives)))
block_read m w t false e s = to_same (without_block m e) (passed refl gives)

pub specify_read : (m : VModule) → IsWritten m → AreTimed m → (s : List (List ℕ))
    → Reads (specify (joined m)) (block_by (has_block m) m (codes "endmodule" ∷ s)) m (codes "endmodule" ∷ s)
specify_read m w t s = block_read m w t (has_block m) refl s
