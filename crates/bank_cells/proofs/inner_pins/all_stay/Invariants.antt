use Rattle.std.proofs.Common.{◌≡◌, drop}
use Rattle.std.specs.List.{list_all}
use Rattle.bank_cells.specs.Runs.{stays_at}
use Rattle.bank_cells.proofs.inner_pins.all_stay.Given as goal

abbrev pub invariant-loop-place : goal.invariant-loop-place
invariant-loop-place l = list_all (stays_at l.stays) (drop l.place-index l.places) ≡ list_all (stays_at l.stays) l.places
