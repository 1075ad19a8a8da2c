-- Three traces compared line by line.
use Rattle.std.proofs.Common.{◌≡◌, ℕ, ◌+◌, true, ◌&&◌, if◌then◌else◌, List, [], ◌∷◌, length, Some, None, refl, sym, ap, ◌∙◌}
use Rattle.std.proofs.lemmas.Bool.{and_parts, and_from}
use Rattle.cell_machine.specs.declared.changes.Change.{Change}
use Rattle.stimulus.specs.DriveLines.{DriveLine, lines_after, lines_along, DriveMachine, IsSized}
use Rattle.stimulus.specs.Differences.{same_line}
use Rattle.stimulus.specs.Comparison.{Lines, are_alike, unlike_from, first_unlike, NoneUnlikeIsEqual}
use Rattle.stimulus.proofs.Compared.{cons_path, line-is, line-self, none_here}

-- what three show after a history
abbrev shown : (liberty verilog vital : List Change → DriveLine) → List Change → Lines
shown liberty verilog vital h = record { liberty = liberty h; verilog = verilog h; vital = vital h }

-- Equal traces have no lines that differ.

-- three lines that are one are alike
one_line : (liberty verilog vital : DriveLine) → verilog ≡ liberty → vital ≡ liberty
    → are_alike (record { liberty = liberty; verilog = verilog; vital = vital }) ≡ true
one_line liberty verilog vital e f =
    (λ i. same_line liberty (e i) && same_line liberty (f i))
    ∙ and_from (same_line liberty liberty) (same_line liberty liberty) (line-self liberty) (line-self liberty)

none_from : (liberty verilog vital : List Change → DriveLine) (n : ℕ) (h cs : List Change)
    → lines_after verilog h cs ≡ lines_after liberty h cs → lines_after vital h cs ≡ lines_after liberty h cs
    → unlike_from n (lines_after (shown liberty verilog vital) h cs) ≡ None
none_from liberty verilog vital n h [] e f = refl
none_from liberty verilog vital n h (c ∷ cs) e f =
    let here : verilog (c ∷ h) ≡ liberty (c ∷ h) = cc in
    let here_too : vital (c ∷ h) ≡ liberty (c ∷ h) = cc in
    let more : lines_after verilog (c ∷ h) cs ≡ lines_after liberty (c ∷ h) cs = cc in
    let more_too : lines_after vital (c ∷ h) cs ≡ lines_after liberty (c ∷ h) cs = cc in
    ap (λ b. if b then unlike_from (n + 1) (lines_after (shown liberty verilog vital) (c ∷ h) cs) else Some n)
    (one_line (liberty (c ∷ h)) (verilog (c ∷ h)) (vital (c ∷ h)) here here_too)
    ∙ none_from liberty verilog vital (n + 1) (c ∷ h) cs more more_too

pub none_unlike : (liberty verilog vital : List Change → DriveLine) (cs : List Change)
    → lines_along verilog cs ≡ lines_along liberty cs → lines_along vital cs ≡ lines_along liberty cs
    → first_unlike cs (shown liberty verilog vital) ≡ None
none_unlike liberty verilog vital cs e f =
    let here : verilog [] ≡ liberty [] = cc in
    let here_too : vital [] ≡ liberty [] = cc in
    let more : lines_after verilog [] cs ≡ lines_after liberty [] cs = cc in
    let more_too : lines_after vital [] cs ≡ lines_after liberty [] cs = cc in
    ap (λ b. if b then unlike_from 1 (lines_after (shown liberty verilog vital) [] cs) else Some 0)
    (one_line (liberty []) (verilog []) (vital []) here here_too)
    ∙ none_from liberty verilog vital 1 [] cs more more_too

-- Where no lines differ the traces are equal.

-- the lines of two machines have as many reports
abbrev AsMany : (one other : List Change → DriveLine) → Type 0
AsMany one other = (h : List Change) → length (one h).reports ≡ length (other h).reports

both_lines : (liberty verilog vital : DriveLine) → length liberty.reports ≡ length verilog.reports
    → length liberty.reports ≡ length vital.reports
    → are_alike (record { liberty = liberty; verilog = verilog; vital = vital }) ≡ true → (liberty ≡ verilog) × (liberty ≡ vital)
both_lines liberty verilog vital e f h =
    let both = and_parts (same_line liberty verilog) (same_line liberty vital) h
    in (line-is liberty verilog e both.0, line-is liberty vital f both.1)

equal_from : (liberty verilog vital : List Change → DriveLine) (n : ℕ) (h cs : List Change) → AsMany liberty verilog
    → AsMany liberty vital
    → unlike_from n (lines_after (shown liberty verilog vital) h cs) ≡ None
    → (lines_after liberty h cs ≡ lines_after verilog h cs) × (lines_after liberty h cs ≡ lines_after vital h cs)
equal_from liberty verilog vital n h [] v w e = (refl, refl)
equal_from liberty verilog vital n h (c ∷ cs) v w e =
    let p = none_here (are_alike (shown liberty verilog vital (c ∷ h))) n
    (unlike_from (n + 1) (lines_after (shown liberty verilog vital) (c ∷ h) cs)) e in
    let here = both_lines (liberty (c ∷ h)) (verilog (c ∷ h)) (vital (c ∷ h)) (v (c ∷ h)) (w (c ∷ h)) p.0 in
    let more = equal_from liberty verilog vital (n + 1) (c ∷ h) cs v w p.1 in
    (cons_path _ _ _ _ here.0 more.0, cons_path _ _ _ _ here.1 more.1)

all_equal : (liberty verilog vital : List Change → DriveLine) (cs : List Change) → AsMany liberty verilog → AsMany liberty vital
    → first_unlike cs (shown liberty verilog vital) ≡ None → (lines_along liberty cs ≡ lines_along verilog cs)
    × (lines_along liberty cs ≡ lines_along vital cs)
all_equal liberty verilog vital cs v w e =
    let p = none_here (are_alike (shown liberty verilog vital [])) 0
    (unlike_from 1 (lines_after (shown liberty verilog vital) [] cs)) e in
    let here = both_lines (liberty []) (verilog []) (vital []) (v []) (w []) p.0 in
    let more = equal_from liberty verilog vital 1 [] cs v w p.1 in
    (cons_path _ _ _ _ here.0 more.0, cons_path _ _ _ _ here.1 more.1)

as_many : (m n : DriveMachine) → IsSized m → IsSized n → m.checks ≡ n.checks → AsMany m.line n.line
as_many m n sm sn e h = sm.reports h ∙ e ∙ sym (sn.reports h)

pub none_unlike_is_equal : NoneUnlikeIsEqual
none_unlike_is_equal liberty verilog vital cs sl sv sh verilog_checks vital_checks = (
  λ e. all_equal liberty.line verilog.line vital.line cs (as_many liberty verilog sl sv verilog_checks)
      (as_many liberty vital sl sh vital_checks) e,
  λ p. none_unlike liberty.line verilog.line vital.line cs (sym p.0) (sym p.1),
)
