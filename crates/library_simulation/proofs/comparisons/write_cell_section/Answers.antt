use Rattle.std.proofs.lemmas.Result.{IfOk-at_ok}
use Rattle.stimulus.proofs.Runs.{appends_nothing}
use Rattle.library_simulation.proofs.BesideLemmas.{have_ports, text_is, unlike_is}
use Rattle.library_simulation.proofs.comparisons.write_cell_section.Goals as goal

pub write_three_traces-requires-clause-ports : goal.write_three_traces-requires-clause-ports
write_three_traces-requires-clause-ports g c =
    have_ports c.args.known.now.beside _ _ _ (IfOk-at_ok _ c.in-Ok.ensures.0 c.start_cell-liberty.ensures.machine)
    (IfOk-at_ok _ c.in-Ok.ensures.1.0 c.start_module-verilog.ensures.machine)
    (IfOk-at_ok _ c.in-Ok.ensures.1.1 c.start_entity-vital.ensures.machine) c.requires.have_ports

pub write_three_traces-requires-clause-liberty : goal.write_three_traces-requires-clause-liberty
write_three_traces-requires-clause-liberty g c = IfOk-at_ok _ c.in-Ok.ensures.0 c.start_cell-liberty.ensures.stands

pub write_three_traces-requires-clause-verilog : goal.write_three_traces-requires-clause-verilog
write_three_traces-requires-clause-verilog g c = IfOk-at_ok _ c.in-Ok.ensures.1.0 c.start_module-verilog.ensures.stands

pub write_three_traces-requires-clause-vital : goal.write_three_traces-requires-clause-vital
write_three_traces-requires-clause-vital g c = IfOk-at_ok _ c.in-Ok.ensures.1.1 c.start_entity-vital.ensures.stands

pub returns-in-Ok-clause-text : goal.returns-in-Ok-clause-text
returns-in-Ok-clause-text g c =
    text_is c.args.known.now.beside _ _ _ _ _ c.args.section.now.changes _ _ _ c.as_slice-name.ensures c.as_slice-changes.ensures
    (IfOk-at_ok _ c.in-Ok.ensures.0 c.start_cell-liberty.ensures.machine)
    (IfOk-at_ok _ c.in-Ok.ensures.1.0 c.start_module-verilog.ensures.machine)
    (IfOk-at_ok _ c.in-Ok.ensures.1.1 c.start_entity-vital.ensures.machine) c.write_three_traces.ensures.text

pub returns-in-Ok-clause-differs : goal.returns-in-Ok-clause-differs
returns-in-Ok-clause-differs g c =
    unlike_is c.args.known.now.beside _ _ _ _ c.args.section.now.changes _ c.as_slice-changes.ensures
    (IfOk-at_ok _ c.in-Ok.ensures.0 c.start_cell-liberty.ensures.machine)
    (IfOk-at_ok _ c.in-Ok.ensures.1.0 c.start_module-verilog.ensures.machine)
    (IfOk-at_ok _ c.in-Ok.ensures.1.1 c.start_entity-vital.ensures.machine) c.write_three_traces.ensures.differs

pub returns-in-Err-clause-text : goal.returns-in-Err-clause-text
returns-in-Err-clause-text g c = appends_nothing _ _ _ cc
