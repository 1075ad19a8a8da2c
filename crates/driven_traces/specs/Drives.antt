-- What a three-state buffer drives. (IEEE 1364-2005, clause 7.4: bufif1. Under an unknown enable real buffers may show weaker
-- values; x is this project's rule.)
use Rattle.trit_cubes.specs.declared.trits.Trit.{Trit}
use Rattle.trit_cubes.specs.declared.trits.Trit.TheVariants.{Zero, One, Unknown}
use Rattle.stimulus.specs.declared.drives.Drive.{Drive}
use Rattle.stimulus.specs.declared.drives.Drive.TheVariants as drives
use Rattle.stimulus.specs.DriveLines.{drive_of}

-- what is shown of a value under an enable
abbrev pub drive : Trit → Trit → Drive
drive value Zero = drives.Floating
drive value One = drive_of value
drive value Unknown = drives.Unknown
