use Rattle.std.proofs.Common.{ap, refl, sym, set, ◌∙◌}
use Rattle.first_names.specs.PutOnce.{with_place}
use Rattle.first_names.proofs.AllPlaceLemmas.{put_old, put_new, where_ok}
use Rattle.first_names.proofs.PlaceLemmas.{where_both}
use Rattle.first_names.proofs.all_places.AllPlaces.put.Goals as goal

pub returns-in-Some : goal.returns-in-Some
returns-in-Some c =
    let number = c.in-Some.number in
    where_ok c.put_once.result
    (λ made. put_old c.args.self.now _ c.args.name.now c.args.place number _ (sym c.number.ensures ∙ c.in-Some.is) refl
    (ap (set c.args.self.now.places.items number) (made ∙ ap (λ places. with_place places c.args.place) c.index_mut.ensures.value)))
    c.put_once.ensures

pub returns-in-None : goal.returns-in-None
returns-in-None c =
    where_both c.append.result (put_new c.args.self.now c.append.new.self c.args.name.now c.args.place (sym c.number.ensures ∙ c.in-None.is))
    c.append.ensures.names c.append.ensures.places
