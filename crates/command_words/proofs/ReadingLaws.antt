-- Words ask for 10,000 test cells at most, and for a command of files where they have its form.
use Rattle.std.proofs.Common.{◌≡◌, ◌≤◌, ℕ, Bool, true, false, ◌&&◌, List, [], ◌∷◌, nat_le, Option, Some, None, codes}
use Rattle.std.proofs.Common.{if◌then◌else◌, arith, refl, subst}
use Rattle.std.proofs.lemmas.Bool.Decides.{nat_tests}
use Rattle.std.specs.Str.{bytes_eq}
use Rattle.std.specs.Str.Parse.{digits_value}
use Rattle.text_io.specs.declared.file_commands.FileCommand.{FileCommand}
use Rattle.text_io.specs.Plan.{asked_files}
use Rattle.udp_tables.specs.declared.table.Udp.{Udp}
use Rattle.command_words.specs.declared.commands.Command.{Command}
use Rattle.command_words.specs.declared.commands.Command.TheVariants as command
use Rattle.command_words.specs.Numerals.{is_numeral, cells_within, asked_cells}
use Rattle.command_words.specs.Reading.{reading, asked_primitive, udp_command, udp_reading, selftest_command, selftest_reading}
use Rattle.command_words.specs.Reading.{files_command}

-- the command makes 10,000 test cells at most, and where it is one of files this is what is asked of files
abbrev Fits : Option FileCommand → Command → Type 0
Fits files (command.Selftest cells) = cells ≤ 10000
Fits files (command.Files asked) = files ≡ Some asked
Fits files (command.Udp udp) = Unit {0}
Fits files command.Usage = Unit {0}

either : (files : Option FileCommand) (b : Bool) (one other : Command) → Fits files one → Fits files other
    → Fits files (if b then one else other)
either files true one other h k = h
either files false one other h k = k

within : (files : Option FileCommand) (fits : Bool) (cells : ℕ) → nat_le 1 cells && nat_le cells 10000 ≡ fits
    → Fits files (selftest_command (if fits then Some cells else None))
within files true cells e = grind (arith, nat_tests, e)
within files false cells e = tt

numbered : (files : Option FileCommand) (numeral : Bool) (word : List ℕ)
    → Fits files (selftest_command (if numeral then cells_within (digits_value 10 word) else None))
numbered files true word = within files _ (digits_value 10 word) refl
numbered files false word = tt

tested : (files : Option FileCommand) (words : List (List ℕ)) → Fits files (selftest_reading words)
unfolding asked_cells
tested files [] = tt
tested files (number ∷ []) = numbered files (is_numeral number) number
tested files (number ∷ (more ∷ others)) = tt

of_udp : (files : Option FileCommand) (udp : Option Udp) → Fits files (udp_command udp)
of_udp files None = tt
of_udp files (Some udp) = tt

printed : (files : Option FileCommand) (words : List (List ℕ)) → Fits files (udp_reading words)
printed files [] = tt
printed files (name ∷ []) = tt
printed files (name ∷ (text ∷ [])) = of_udp files (asked_primitive name text)
printed files (name ∷ (text ∷ (more ∷ others))) = tt

of_files : (files : Option FileCommand) → Fits files (files_command files)
of_files None = tt
of_files (Some asked) = refl

fits : (words : List (List ℕ)) → Fits (asked_files words) (reading words)
fits [] = tt
fits (first ∷ words) =
    let files = asked_files (first ∷ words) in
    either files (bytes_eq first (codes "udp")) _ _ (printed files words)
    (either files (bytes_eq first (codes "selftest")) _ _ (tested files words) (of_files files))

pub few_cells : (words : List (List ℕ)) (cells : ℕ) → reading words ≡ command.Selftest cells → cells ≤ 10000
few_cells words cells e = subst (Fits (asked_files words)) e (fits words)

pub files_asked : (words : List (List ℕ)) (asked : FileCommand) → reading words ≡ command.Files asked
    → asked_files words ≡ Some asked
files_asked words asked e = subst (Fits (asked_files words)) e (fits words)
