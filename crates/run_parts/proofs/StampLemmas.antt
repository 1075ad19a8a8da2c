-- The times that a check keeps at a change of another port than those of its events.
use Rattle.std.proofs.Common.{◌≡◌, ◌∙◌, ap, sym, ℕ, false, ◌&&◌, List, get_or, set, nat_eq}
use Rattle.std.proofs.lemmas.List.{set-get_or}
use Rattle.trit_cubes.specs.declared.trits.Trit.{Trit}
use Rattle.cell_machine.specs.declared.changes.Change.{Change}
use Rattle.cell_machine.specs.declared.times.Times.{Times}
use Rattle.cell_machine.specs.declared.checks.Edge.TheVariants as edge
use Rattle.cell_machine.specs.Edges.{moves}
use Rattle.cell_machine.specs.Times.{no_times, renewed}
use Rattle.udp_tables.specs.declared.models.VPort.{VPort}
use Rattle.udp_tables.specs.declared.timing_checks.TimingCheck.{TimingCheck}
use Rattle.run_parts.specs.PortNumbers.{input_number}
use Rattle.run_parts.specs.CheckTimes.{stamped}

unstamped : (ports : List VPort) (a : Trit) (c : Change) (k : TimingCheck) (s : Times)
    → nat_eq c.pin (input_number ports k.first.pin) ≡ false → nat_eq c.pin (input_number ports k.second.pin) ≡ false
    → stamped ports a c k s ≡ s
unstamped ports a c k s first second =
    λ i. record {
      event = renewed (first i && moves k.first.edge a c.to) c.at s.event;
      rise = renewed (second i && moves edge.Rise a c.to) c.at s.rise;
      fall = renewed (second i && moves edge.Fall a c.to) c.at s.fall;
    }

-- so these times stay where they stand
pub left_unstamped : (ports : List VPort) (a : Trit) (c : Change) (k : TimingCheck) (stamps : List Times) (i : ℕ)
    → nat_eq c.pin (input_number ports k.first.pin) ≡ false → nat_eq c.pin (input_number ports k.second.pin) ≡ false
    → stamps ≡ set stamps i (stamped ports a c k (get_or stamps i no_times))
left_unstamped ports a c k stamps i first second =
    sym (ap (set stamps i) (unstamped ports a c k (get_or stamps i no_times) first second) ∙ set-get_or stamps i no_times)
