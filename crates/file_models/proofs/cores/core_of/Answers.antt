use Rattle.std.proofs.Common.{sym, ◌∙◌}
use Rattle.file_models.proofs.FoundCores.{core_found}
use Rattle.file_models.proofs.cores.core_of.Goals as goal

pub returns-in_default : goal.returns-in_default
returns-in_default g c =
    core_found g.L.SectionLanguage.language g.L.Drivers.DriverLanguage.fold c.args.name.now
    (λ y. c.requires.same c.args.name.now y ∙ g.met.L.Drivers.DriverLanguage.same c.args.name.now y c.requires.is_name) c.args.cores.now c.args.names.now c.deref.result.now _
    c.requires.folded (c.deref.ensures.value ∙ c.in_ok-folded.ensures) (sym c.in_default.is ∙ c.number.ensures)

pub returns : goal.returns
returns g c =
    c.at.ensures
    ∙ core_found g.L.SectionLanguage.language g.L.Drivers.DriverLanguage.fold c.args.name.now
    (λ y. c.requires.same c.args.name.now y ∙ g.met.L.Drivers.DriverLanguage.same c.args.name.now y c.requires.is_name) c.args.cores.now c.args.names.now c.deref.result.now _
    c.requires.folded (c.deref.ensures.value ∙ c.in_ok-folded.ensures) (sym c.in-Some.is ∙ c.number.ensures)
