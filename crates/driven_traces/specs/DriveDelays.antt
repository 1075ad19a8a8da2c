-- The delay of a driven output's change. (IEEE 1364-2005, clause 14.3, and IEEE 1076.4-2000, VitalPathDelay01, as this project
-- reads them for outputs that may float.)
use Rattle.std.specs.Prelude.{ℕ, min, max, Bool, ◌&&◌, nat_eq, List, map, filter, unwrap_or}
use Rattle.cell_machine.specs.Delay.{least}
use Rattle.stimulus.specs.declared.drives.Drive.{Drive}
use Rattle.stimulus.specs.declared.drives.Drive.TheVariants.{Zero, One, Unknown, Floating}
use Rattle.driven_traces.specs.declared.delays.DrivePath.{DrivePath}
use Rattle.driven_traces.specs.declared.delays.DriveChange.{DriveChange}

-- A path's delay of a change: its rise from 0 or to 1; the greater of rise and fall from x to z, the lesser from z to x; else
-- its fall.
abbrev pub drive_delay : Drive → Drive → DrivePath → ℕ
drive_delay Zero b path = path.rise
drive_delay a One path = path.rise
drive_delay Unknown Floating path = max path.rise path.fall
drive_delay Floating Unknown path = min path.rise path.fall
drive_delay a b path = path.fall

-- whether a path leads from the input to the output
abbrev pub leads : DriveChange → DrivePath → Bool
leads change path = nat_eq path.from change.input && nat_eq path.drive change.number

-- the delays of the paths that lead there
abbrev pub leading_delays : DriveChange → List DrivePath → List ℕ
leading_delays change paths = map (drive_delay change.from change.to) (filter (leads change) paths)

-- The delay of a change: the least over the paths from the changed input to the output, 0 where there is none.
abbrev pub least_delay : DriveChange → List DrivePath → ℕ
least_delay change paths = unwrap_or (least (leading_delays change paths)) 0
