use Rattle.std.proofs.Common.{subst, Ok, Err}
use Rattle.std.specs.Ordering.{nat_cmp}
use Rattle.std.specs.List.Sorted.{IsBinarySearchResult}
use Rattle.cell_machine.proofs.StepLemmas.{ascending}
use Rattle.driven_traces.proofs.DrivePlaces.{number_found, number_absent}
use Rattle.driven_traces.proofs.drivers.Driver.number.Goals as goal

pub returns-in-Ok : goal.returns-in-Ok
returns-in-Ok c =
    let drives = c.args.self.now.drives in
    number_found drives c.args.place c.in-Ok.number (ascending drives c.requires.ascending)
    (subst (λ xs. IsBinarySearchResult (λ y. nat_cmp y c.args.place) xs (Ok c.in-Ok.number)) c.as_slice.ensures c.in-Ok.ensures.position)

pub returns-in-Err : goal.returns-in-Err
returns-in-Err c =
    let drives = c.args.self.now.drives in
    number_absent drives c.args.place c.in-Err.field-0 (ascending drives c.requires.ascending)
    (subst (λ xs. IsBinarySearchResult (λ y. nat_cmp y c.args.place) xs (Err c.in-Err.field-0)) c.as_slice.ensures c.in-Err.ensures.position)
