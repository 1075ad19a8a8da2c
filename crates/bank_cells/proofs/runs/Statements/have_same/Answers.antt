use Rattle.std.proofs.Common.{◌&&◌, sym, ◌∙◌}
use Rattle.std.specs.Prelude.{bytes_eq}
use Rattle.std.specs.List.{list_all}
use Rattle.bank_cells.specs.Runs.{shown_member, stays_at}
use Rattle.bank_cells.proofs.PlaceLemmas.{same_by_places}
use Rattle.bank_cells.proofs.runs.Statements.have_same.Goals as goal

pub returns : goal.returns
returns c =
    let stays = c.deref.ensures.value ∙ c.requires.group.pins_stay in
    let first = c.deref-2.ensures.value ∙ c.requires.first in
    let second = c.deref-3.ensures.value ∙ c.requires.second in
    c.same_places.ensures
    ∙ (λ i. c.requires.group.stay i && (bytes_eq (first i) (second i) && list_all (stays_at (stays i)) (first i)))
    ∙ sym (same_by_places c.args.self.now.vectors.now c.args.self.now.group.now (shown_member c.args.one.now.member)
    (shown_member c.args.other.now.member))
