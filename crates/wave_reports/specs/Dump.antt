-- A value change dump. (IEEE 1364-2005, 18.2.)
use Rattle.std.specs.Prelude.{List, ℕ, ◌++◌, codes}

-- times are in picoseconds
unfoldable pub dump_head : List ℕ
dump_head = codes "$version report_waves of lib2sim $end\n$timescale 1 ps $end\n"

unfoldable pub dump_middle : List ℕ
dump_middle = codes "$enddefinitions $end\n"

-- what is drawn, as a file
unfoldable pub dump_text : List ℕ → List ℕ → List ℕ
dump_text definitions changes = dump_head ++ (definitions ++ (dump_middle ++ changes))
