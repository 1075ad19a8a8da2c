use Rattle.vhdl_writer.proofs.checks.ReferredPart.put.Goals as goal

pub returns-clause-text : goal.returns-clause-text
returns-clause-text g c =
    let transition = rw c.transition_text.ensures at c.put.ensures.text in
    rw c.reference_of-reference.ensures at transition
