-- The parts of a line of a trace.
use Rattle.std.proofs.Common.{◌≡◌, ℕ, suc, ◌+◌, ◌<◌, List, [], ◌∷◌, ◌++◌, length, drop, get_or, sym, ap, ◌∙◌, add-one, arith}
use Rattle.std.proofs.Common.{drop-cons, append_assoc, Bool, false}
use Rattle.std.proofs.lemmas.List.{append-nil}
use Rattle.std.specs.Prelude.{Option, Some, None, slice_get}
use Rattle.std.proofs.lemmas.Option.{get_or_from_slice_get}
use Rattle.cell_machine.specs.declared.changes.Change.{Change}
use Rattle.stimulus.specs.declared.drives.Drive.{Drive}
use Rattle.stimulus.specs.declared.drives.Drive.TheVariants.{Unknown}
use Rattle.stimulus.specs.declared.ports.Ports.{Ports}
use Rattle.stimulus.specs.DriveLines.{DriveLine}
use Rattle.stimulus.specs.Comparison.{tagged_thrice, lines_text, all_show}
use Rattle.stimulus.specs.TraceLine.{head_text, output_text, outputs_text, report_text, reports_text, shown_text, drive_line_text}

-- an entry and those behind it
drop_at : {A : Type 0} (xs : List A) (place : ℕ) (x d : A) → place < length xs → x ≡ get_or xs place d
    → drop place xs ≡ x ∷ drop (place + 1) xs
drop_at xs place x d h e = rw (add-one) (drop-cons xs place d h ∙ ap (λ y. y ∷ drop (suc place) xs) (sym e))

-- the outputs from a place on: the one there, and those behind it
pub outputs_at : (names : List (List ℕ)) (values : List Drive) (delays : List (Option ℕ)) (place : ℕ) (name : List ℕ)
    (value : Drive) (delay : Option ℕ)
    → place < length names → length values ≡ length names → length delays ≡ length names
    → slice_get names place ≡ Some name → value ≡ get_or values place Unknown → delay ≡ get_or delays place None
    → outputs_text (drop place names) (drop place values) (drop place delays) ≡ output_text name value delay
    ++ outputs_text (drop (place + 1) names) (drop (place + 1) values) (drop (place + 1) delays)
outputs_at names values delays place name value delay h lv ld n v d =
    let hv : place < length values = omega arith in
    let hd : place < length delays = omega arith in
    let en : drop place names ≡ name ∷ drop (place + 1) names =
    drop_at names place name [] h (sym (get_or_from_slice_get names place name [] n)) in
    let ev : drop place values ≡ value ∷ drop (place + 1) values = drop_at values place value Unknown hv v in
    let ed : drop place delays ≡ delay ∷ drop (place + 1) delays = drop_at delays place delay None hd d in
    λ i. outputs_text (en i) (ev i) (ed i)

-- the reports from a check on: its own, and those behind it
pub reports_at : (reports : List Bool) (check : ℕ) (reported : Bool) → check < length reports → reported ≡ get_or reports check false
    → reports_text (check + 1) (drop check reports)
    ≡ report_text (check + 1) reported ++ reports_text (check + 1 + 1) (drop (check + 1) reports)
reports_at reports check reported below is = ap (reports_text (check + 1)) (drop_at reports check reported false below is)

-- a text that grows by the first of what is left
pub grown : (text more piece rest all whole : List ℕ) → more ≡ text ++ piece → all ≡ piece ++ rest → text ++ all ≡ whole
    → more ++ rest ≡ whole
grown text more piece rest all whole e s h = ap (λ t. t ++ rest) e ∙ append_assoc text piece rest ∙ ap (λ t. text ++ t) (sym s)
    ∙ h

-- a text with what stands behind a line's tag, from its parts
pub put_together : (text : List ℕ) (change : Option Change) (inputs outputs : List (List ℕ)) (line : DriveLine)
    (t1 t2 t3 t4 : List ℕ)
    → t1 ≡ text ++ head_text inputs change
    → t2 ≡ t1 ++ outputs_text outputs line.values line.delays
    → t3 ≡ t2 ++ reports_text 1 line.reports
    → t4 ≡ t3 ++ 10 ∷ []
    → t4 ≡ text ++ shown_text change inputs outputs line
put_together text change inputs outputs line t1 t2 t3 t4 e1 e2 e3 e4 =
    let a : List ℕ = head_text inputs change in
    let b : List ℕ = outputs_text outputs line.values line.delays in
    let c : List ℕ = reports_text 1 line.reports in
    e4 ∙ ap (λ t. t ++ 10 ∷ []) (e3 ∙ ap (λ t. t ++ c) (e2 ∙ ap (λ t. t ++ b) e1))
    ∙ append_assoc ((text ++ a) ++ b) c (10 ∷ []) ∙ append_assoc (text ++ a) b (c ++ 10 ∷ [])
    ∙ append_assoc text a (b ++ (c ++ 10 ∷ []))

-- what was put behind nothing
pub behind_nothing : (text pieces shown whole : List ℕ) → text ≡ [] → pieces ≡ [] → whole ≡ (text ++ pieces) ++ shown → whole ≡ shown
behind_nothing text pieces shown whole e f g = g ∙ (λ i. (e i ++ f i) ++ shown)

-- a line whose rest was made in two parts
pub tagged_parts : (tag : ℕ) (change : Option Change) (inputs outputs : List (List ℕ)) (line : DriveLine)
    (front made pieces : List ℕ)
    → front ≡ made → made ++ pieces ≡ shown_text change inputs outputs line
    → tag ∷ (front ++ pieces) ≡ drive_line_text tag change inputs outputs line
unfolding drive_line_text
tagged_parts tag change inputs outputs line front made pieces same is =
    ap (λ t. tag ∷ (t ++ pieces)) same ∙ ap (λ t. tag ∷ t) is

-- the lines of three that show the same, whose rest was made in two parts
pub three_tagged : (change : Option Change) (ports : Ports) (line : DriveLine) (front made pieces : List ℕ)
    → front ≡ made → made ++ pieces ≡ shown_text change ports.inputs ports.outputs line
    → tagged_thrice (front ++ pieces) ≡ lines_text change ports (all_show line)
unfolding lines_text
three_tagged change ports line front made pieces same is =
    let with_tag : (tag : ℕ) → tag ∷ (front ++ pieces) ≡ drive_line_text tag change ports.inputs ports.outputs line =
    λ tag. tagged_parts tag change ports.inputs ports.outputs line front made pieces same is in
    λ i. with_tag 76 i ++ (with_tag 86 i ++ with_tag 72 i)

-- a piece behind those that wait
pub gathered_next : (text pieces more piece : List ℕ) → more ≡ pieces ++ piece → text ++ more ≡ (text ++ pieces) ++ piece
gathered_next text pieces more piece e = ap (λ t. text ++ t) e ∙ sym (append_assoc text pieces piece)

-- a piece that waits where all others were appended
pub gathered_first : (text pieces whole none more piece : List ℕ) → whole ≡ text ++ pieces → none ≡ [] → more ≡ none ++ piece
    → whole ++ more ≡ (text ++ pieces) ++ piece
gathered_first text pieces whole none more piece e n m =
    (λ i. e i ++ m i) ∙ ap (λ t. (text ++ pieces) ++ (t ++ piece)) n

-- a piece that was appended behind all others
pub gathered_all : (text pieces whole none more piece : List ℕ) → whole ≡ text ++ pieces → none ≡ [] → more ≡ whole ++ piece
    → more ++ none ≡ (text ++ pieces) ++ piece
gathered_all text pieces whole none more piece e n m =
    (λ i. (m ∙ ap (λ t. t ++ piece) e) i ++ n i) ∙ append-nil ((text ++ pieces) ++ piece)
