use Rattle.verilog_udp_reader.proofs.NearNames.{added}
use Rattle.verilog_udp_reader.proofs.text_names.add_far.Goals as goal

pub returns-in-Ok-clause-more : goal.returns-in-Ok-clause-more
returns-in-Ok-clause-more c =
    added c.args.far.now c.args.name.now c.in-Ok.field-0 c.add.new.self c.in-Ok.ensures.added c.requires
