-- Lines that show the same are printed the same, but for their tags.
use Rattle.std.proofs.Common.{◌≡◌, ℕ, ◌+◌, Bool, true, false, ◌&&◌, List, [], ◌∷◌, ◌++◌, ◌∙◌, codes, Option, refl}
use Rattle.std.proofs.lemmas.Bool.{and_parts}
use Rattle.cell_machine.specs.declared.changes.Change.{Change}
use Rattle.stimulus.specs.declared.ports.Ports.{Ports}
use Rattle.stimulus.specs.DriveLines.{DriveLine}
use Rattle.stimulus.specs.TraceLine.{head_text, outputs_text, report_text, reports_text, shown_text, drive_line_text}
use Rattle.stimulus.specs.Differences.{same_values, same_delays, same_fact, same_reports, same_line}
use Rattle.stimulus.specs.Comparison.{Lines, lines_text, all_show, tagged_thrice, are_alike}
use Rattle.stimulus.proofs.Compared.{values-are, delays-are, same_fact-is}
use Rattle.stimulus.proofs.TraceTexts.{three_tagged}

-- a check that is not there is printed as one that does not report: not at all
reports_print : (n : ℕ) (xs ys : List Bool) → same_reports xs ys ≡ true → reports_text n xs ≡ reports_text n ys
unfolding report_text
reports_print n [] [] e = refl
reports_print n (x ∷ xs) [] e =
    let p = and_parts (same_fact x false) (same_reports xs []) e in
    λ i. report_text n (same_fact-is x false p.0 i) ++ reports_print (n + 1) xs [] p.1 i
reports_print n [] (y ∷ ys) e =
    let p = and_parts (same_fact false y) (same_reports [] ys) e in
    λ i. report_text n (same_fact-is false y p.0 i) ++ reports_print (n + 1) [] ys p.1 i
reports_print n (x ∷ xs) (y ∷ ys) e =
    let p = and_parts (same_fact x y) (same_reports xs ys) e in
    λ i. report_text n (same_fact-is x y p.0 i) ++ reports_print (n + 1) xs ys p.1 i

line_prints : (tag : ℕ) (change : Option Change) (inputs outputs : List (List ℕ)) (one other : DriveLine)
    → same_line one other ≡ true
    → drive_line_text tag change inputs outputs one ≡ drive_line_text tag change inputs outputs other
unfolding drive_line_text
line_prints tag change inputs outputs one other e =
    let p = and_parts (same_values one.values other.values)
    (same_delays one.delays other.delays && same_reports one.reports other.reports) e in
    let q = and_parts (same_delays one.delays other.delays) (same_reports one.reports other.reports) p.1 in
    let values = values-are one.values other.values p.0 in
    let delays = delays-are one.delays other.delays q.0 in
    let reports = reports_print 1 one.reports other.reports q.1 in
    λ i. (tag ∷ []) ++ (head_text inputs change ++ (outputs_text outputs (values i) (delays i) ++ (reports i ++ codes "\n")))

-- three lines that are alike are printed as the first of them
alike_print : (change : Option Change) (ports : Ports) (lines : Lines) → are_alike lines ≡ true
    → lines_text change ports (all_show lines.liberty) ≡ lines_text change ports lines
unfolding lines_text
alike_print change ports lines e =
    let p = and_parts (same_line lines.liberty lines.verilog) (same_line lines.liberty lines.vital) e in
    let verilog = line_prints 86 change ports.inputs ports.outputs lines.liberty lines.verilog p.0 in
    let vital = line_prints 72 change ports.inputs ports.outputs lines.liberty lines.vital p.1 in
    λ i. drive_line_text 76 change ports.inputs ports.outputs lines.liberty ++ (verilog i ++ vital i)

-- the lines of three that are alike, whose common rest was made in two parts
pub alike_tagged : (change : Option Change) (ports : Ports) (lines : Lines) (front made pieces : List ℕ)
    → front ≡ made → made ++ pieces ≡ shown_text change ports.inputs ports.outputs lines.liberty → are_alike lines ≡ true
    → tagged_thrice (front ++ pieces) ≡ lines_text change ports lines
alike_tagged change ports lines front made pieces same is alike =
    three_tagged change ports lines.liberty front made pieces same is ∙ alike_print change ports lines alike
