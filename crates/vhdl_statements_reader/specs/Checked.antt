-- What is read of checks, as the grammar names it.
use Rattle.std.specs.Prelude.{ℕ}
use Rattle.grammar_rules.specs.Rule as r
use Rattle.cell_machine.specs.declared.checks.CheckKind.{CheckKind}
use Rattle.cell_machine.specs.declared.checks.Event.{Event}
use Rattle.grammar_reader.specs.Words.{Grammar, ◌>>=◌}
use Rattle.vhdl_grammar.specs.declared.scope.Scope.{Scope}
use Rattle.vhdl_grammar.specs.VhdlChecks as spec
use Rattle.vhdl_statements_reader.specs.declared.checks.Checks.{Checks}
use Rattle.vhdl_statements_reader.specs.declared.pulses.Pulse.{Pulse}
use Rattle.vhdl_statements_reader.specs.declared.checks.Procedure.{Procedure}
use Rattle.vhdl_statements_reader.specs.declared.checks.Procedure.TheVariants as procedure

abbrev pub checks_of : Checks → spec.Checks
checks_of c = record { checks = c.checks; uses = c.uses }

abbrev pub pulse_as : Pulse → spec.Pulse
pulse_as p = record { kind = p.kind; first = p.first; second = p.second }

abbrev pub procedure_kind : Procedure → spec.Procedure
procedure_kind procedure.SetupHold = spec.SetupHold
procedure_kind procedure.RecoveryRemoval = spec.RecoveryRemoval
procedure_kind procedure.PeriodPulse = spec.PeriodPulse

-- when a check counts, and the transition of the reference: the rest of a call whose test signal has this event
unfoldable pub timed : Scope → spec.Checks → CheckKind → Event → ℕ → ℕ → Grammar spec.Checks
timed scope before kind test reference limit = do
  when ← spec.enabled scope before.uses
  e ← spec.transition
  r.Gives (spec.with_check before (spec.check_with kind test (record { pin = reference; edge = e }) limit when.0) when.1)
