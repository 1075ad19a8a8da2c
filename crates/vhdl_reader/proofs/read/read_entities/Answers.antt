use Rattle.std.proofs.Common.{◌<◌, ◌^◌, length, rules}
use Rattle.vhdl_reader.proofs.WellRead.{well_formed}
use Rattle.vhdl_reader.proofs.read.read_entities.Goals as goal

pub returns-clause-well_formed : goal.returns-clause-well_formed
returns-clause-well_formed c =
    let few : length c.args.text.now < 2 ^ 64 = search rules in
    well_formed c.vhdl_text_has_one_answer.ensures c.texts_are_well_formed.ensures c.args.text.now c.entities_of.result c.entities_of.ensures.entities few
