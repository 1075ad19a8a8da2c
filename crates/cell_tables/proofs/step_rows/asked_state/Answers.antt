use Rattle.std.proofs.Common.{sym, ◌∙◌, ap, arith}
use Rattle.trit_cubes.specs.declared.trits.Trit.TheVariants.{Unknown}
use Rattle.udp_tables.proofs.SymbolLemmas.{get-last}
use Rattle.cell_tables.specs.Cubes.{asked_state}
use Rattle.cell_tables.proofs.step_rows.asked_state.Goals as goal

pub returns-in-Some : goal.returns-in-Some
returns-in-Some c =
    get-last c.args.change.now.cube _ Unknown c.place.result (omega (arith, c.len.ensures.value, c.requires)) c.place.ensures
    ∙ sym (ap (asked_state c.args.change.now.cube) c.in-Some.is)
