-- The faults of texts of models, in each language: the fault of a refusal at an offset, and which of two faults counts.
use Rattle.std.specs.Prelude.{ℕ}
use Rattle.grammar_reader.specs.declared.refusal.Refusal.{Refusal}
use Rattle.grammar_reader.specs.declared.refusal.Refusal.TheVariants as refusal
use Rattle.grammar_reader.specs.Texts.{Faults}
use Rattle.udp_tables.specs.declared.models.ModelFault.{ModelFault}
use Rattle.udp_tables.specs.declared.models.ModelFault.TheVariants as fault

-- the fault of a refusal at an offset
abbrev pub fault_at : Refusal → ℕ → ModelFault
fault_at refusal.Syntax at = fault.Syntax at
fault_at refusal.TwoEdges at = fault.TwoEdges at
fault_at refusal.Width at = fault.Width at
fault_at refusal.Undefined at = fault.Undefined at
fault_at refusal.Twice at = fault.Twice at
fault_at refusal.Undriven at = fault.Undriven at
fault_at refusal.Unequal at = fault.Unequal at

-- the offset of a fault
abbrev pub fault_place : ModelFault → ℕ
fault_place (fault.Lexical at) = at
fault_place (fault.Syntax at) = at
fault_place (fault.TwoEdges at) = at
fault_place (fault.Width at) = at
fault_place (fault.Undefined at) = at
fault_place (fault.Twice at) = at
fault_place (fault.Undriven at) = at
fault_place (fault.Unequal at) = at
fault_place fault.Memory = 0

-- the number of a kind of fault, in the order in which they count at one offset
abbrev pub fault_rank : ModelFault → ℕ
fault_rank (fault.Lexical at) = 0
fault_rank (fault.Syntax at) = 1
fault_rank (fault.TwoEdges at) = 2
fault_rank (fault.Width at) = 3
fault_rank (fault.Undefined at) = 4
fault_rank (fault.Twice at) = 5
fault_rank (fault.Undriven at) = 6
fault_rank (fault.Unequal at) = 7
fault_rank fault.Memory = 8

-- the faults of texts of models
abbrev pub model_faults : Faults ModelFault
model_faults = record { lexical = fault.Lexical; of_refusal = fault_at; place = fault_place; rank = fault_rank }
