-- The next check, by its words.
use Rattle.std.proofs.Common.{◌≡◌, ℕ, zero, suc, List, Some, None, Ok, Err, refl, sym}
use Rattle.std.specs.Option.{option_map}
use Rattle.grammar_rules.specs.Reading.{Outcome, choose, read}
use Rattle.grammar_reader.specs.declared.refusal.Refusal.{Refusal}
use Rattle.grammar_reader.specs.declared.refusal.Refusal.TheVariants.{Syntax}
use Rattle.grammar_reader.specs.Words.{valued, begins_as}
use Rattle.grammar_reader.specs.Next.{next_bytes, rest}
use Rattle.grammar_reader.proofs.Choices as choices
use Rattle.grammar_reader.proofs.Values as values
use Rattle.vhdl_grammar.specs.VhdlChecks.{pulse_of, procedure_of, violation, any_report}
use Rattle.vhdl_grammar.specs.VhdlChecks as spec
use Rattle.vhdl_statements_reader.specs.declared.pulses.Pulse.{Pulse}
use Rattle.vhdl_statements_reader.specs.declared.checks.Procedure.{Procedure}
use Rattle.vhdl_statements_reader.specs.Checked.{pulse_as, procedure_kind}

pub pulse_some : (s : List (List ℕ)) (p : Pulse) → option_map pulse_as (Some p) ≡ pulse_of (next_bytes s)
    → read (valued pulse_of) s ≡ Ok (pulse_as p, rest s)
pulse_some s p e = values.valued_some pulse_of s (pulse_as p) (sym e) refl

pub pulse_none : (s : List (List ℕ)) → option_map pulse_as None ≡ pulse_of (next_bytes s)
    → read (valued pulse_of) s ≡ Err (Syntax, s)
pulse_none s e = values.valued_none pulse_of s (sym e)

module _ {B : Type 0} (s : List (List ℕ)) (other : Outcome (List ℕ) Refusal B) where
  pub procedure_begun : (go : spec.Procedure → List (List ℕ) → Outcome (List ℕ) Refusal B) (p : Procedure)
      → option_map procedure_kind (Some p) ≡ procedure_of (next_bytes s) →
      choose (begins_as procedure_of) s go other ≡ go (procedure_kind p) (rest s)
  procedure_begun go p e = choices.choose_as procedure_of s go other (procedure_kind p) (sym e) refl

  pub no_procedure : (go : spec.Procedure → List (List ℕ) → Outcome (List ℕ) Refusal B)
      → option_map procedure_kind None ≡ procedure_of (next_bytes s) →
      choose (begins_as procedure_of) s go other ≡ other
  no_procedure go e = choices.choose_not_as procedure_of s go other (sym e)

-- what the violation is, where there are checks
pub violation_some : (n : ℕ) (s : List (List ℕ)) → (n ≡ 0 → ⊥) → read (violation n) s ≡ read (any_report n) s
violation_some zero s h = absurd (h refl)
violation_some (suc n) s h = refl
