use Rattle.std.proofs.Common.{refl, sym, ◌∙◌}
use Rattle.first_names.proofs.PlaceLemmas.{set_old, set_new, where_both}
use Rattle.first_names.proofs.places.FirstNames.set.Goals as goal

pub returns-in-Some-clause-set : goal.returns-in-Some-clause-set
returns-in-Some-clause-set c = set_old _ _ c.args.name.now c.args.place c.in-Some.number c.requires (sym c.number.ensures ∙ c.in-Some.is) refl c.set.ensures

pub returns-in-None-clause-set : goal.returns-in-None-clause-set
returns-in-None-clause-set c =
    where_both c.append.result (set_new c.args.self.now c.append.new.self c.args.name.now c.args.place c.requires (sym c.number.ensures ∙ c.in-None.is))
    c.append.ensures.names c.append.ensures.places
