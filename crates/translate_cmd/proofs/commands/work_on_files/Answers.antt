use Rattle.translate_cmd.proofs.AskedRuns.{named_files, files_run, translation_run}
use Rattle.translate_cmd.proofs.commands.work_on_files.Goals as goal

pub translate_library-requires : goal.translate_library-requires
translate_library-requires g c = named_files (g.D.Desk.state c.args.desk.now).words _ _ c.requires c.in-Translate.is

pub simulate_library-requires : goal.simulate_library-requires
simulate_library-requires g c = named_files (g.D.Desk.state c.args.desk.now).words _ _ c.requires c.in-Simulate.is

pub replay_models-requires : goal.replay_models-requires
replay_models-requires g c = named_files (g.D.Desk.state c.args.desk.now).words _ _ c.requires c.in-ReplayVerilog.is

pub replay_models-requires-in-ReplayVital : goal.replay_models-requires-in-ReplayVital
replay_models-requires-in-ReplayVital g c = named_files (g.D.Desk.state c.args.desk.now).words _ _ c.requires c.in-ReplayVital.is

pub returns-in-Translate-clause-writes : goal.returns-in-Translate-clause-writes
returns-in-Translate-clause-writes g c = translation_run _ _ _ _ c.requires c.in-Translate.is c.translate_library.ensures.writes

pub returns-in-Simulate-clause-writes : goal.returns-in-Simulate-clause-writes
returns-in-Simulate-clause-writes g c = files_run _ _ _ _ _ (λ same. cc) c.requires c.in-Simulate.is c.simulate_library.ensures.writes

pub returns-in-ReplayVerilog-clause-writes : goal.returns-in-ReplayVerilog-clause-writes
returns-in-ReplayVerilog-clause-writes g c = files_run _ _ _ _ _ (λ same. cc) c.requires c.in-ReplayVerilog.is c.replay_models.ensures.writes

pub returns-in-ReplayVital-clause-writes : goal.returns-in-ReplayVital-clause-writes
returns-in-ReplayVital-clause-writes g c = files_run _ _ _ _ _ (λ same. cc) c.requires c.in-ReplayVital.is c.replay_models-in-ReplayVital.ensures.writes

pub audit_library-requires : goal.audit_library-requires
audit_library-requires g c = named_files (g.D.Desk.state c.args.desk.now).words _ _ c.requires c.in-Audit.is

pub returns-in-Audit-clause-writes : goal.returns-in-Audit-clause-writes
returns-in-Audit-clause-writes g c = files_run _ _ _ _ _ (λ same. cc) c.requires c.in-Audit.is c.audit_library.ensures.writes
