use Rattle.model_replay.proofs.SectionTexts.{section_written}
use Rattle.model_replay.proofs.printing.write_found_section.Goals as goal

pub write_model_trace-requires-clause-proper : goal.write_model_trace-requires-clause-proper
write_model_trace-requires-clause-proper g c = rw c.as_slice.ensures c.requires.found.proper

pub returns-clause-text : goal.returns-clause-text
returns-clause-text g c =
    section_written g.L.ModelLanguage.language _ _ c.args.replay.now.models c.args.section.now c.args.model.now c.args.ports.now _ _
    c.requires.found c.as_slice.ensures c.write_model_trace.ensures.text
