-- Waves that are drawn, or a part of them.
use Rattle.std.proofs.Common.{◌≡◌, ◌≤◌, ℕ, ◌+◌, Bool, true, false, List, [], take, length, nat_lt, Option, Some, None, Result, Ok}
use Rattle.std.proofs.Common.{Err, IsErr, IfOk, IfSome, refl, sym, ap, subst, ◌∙◌, arith}
use Rattle.std.specs.Prelude.{if◌then◌else◌}
use Rattle.std.proofs.lemmas.List.{take_all}
use Rattle.std.proofs.lemmas.Bool.Decides.{nat_tests}
use Rattle.text_io.specs.declared.reading.Taken.{Taken}
use Rattle.text_io.specs.declared.slots.InSlot.TheVariants.{Library}
use Rattle.text_io.specs.declared.slots.OutSlot.TheVariants.{VerilogText, Faults}
use Rattle.text_io.specs.declared.outside.Failed.{Failed}
use Rattle.text_io.specs.declared.stop.Stop.{Stop}
use Rattle.text_io.specs.Desk.{DeskState, took, wrote, IsPrefix, WritesText}
use Rattle.text_io.specs.Read.{IsRead}
use Rattle.text_io.proofs.Wrote.{wrote-nil}
use Rattle.run_outcome.specs.declared.status.Status.{Status}
use Rattle.run_outcome.specs.declared.status.Status.TheVariants.{TooLong}
use Rattle.run_outcome.specs.Written.{Written, nothing_written, in_verilog, wrote_all}
use Rattle.run_outcome.specs.Outcome.{Outcome, IsPartOf, IsAllOf}
use Rattle.run_outcome.proofs.WrittenLaws.{wrote_all-nothing, wrote_all-verilog, IsPart-nothing, IsPart-all}
use Rattle.run_outcome.proofs.RunsLaws.{nothing, whole_prefix}
use Rattle.wave_reports.specs.Waves.{drawing_of}
use Rattle.wave_reports.specs.Dump.{dump_text}
use Rattle.wave_reports.specs.Outcome.{report_limit, drawn_outcome, outcome_where, report_outcome, too_long_line, status_behind}
use Rattle.wave_reports.specs.Draws.{Draws}

-- what is known of the bytes taken, by whether more came
known : (more : Bool) (bytes all : List ℕ) → bytes ≡ take report_limit all → more ≡ nat_lt report_limit (length all)
    → report_outcome all ≡ outcome_where more bytes
known true bytes all b m = ap (λ over. outcome_where over all) (sym m)
known false bytes all b m =
    let short : length all ≤ report_limit = grind (arith, nat_tests, m) in
    ap (λ over. outcome_where over all) (sym m)
    ∙ ap (λ t. drawn_outcome (drawing_of t)) (sym (b ∙ take_all report_limit all short))

-- what holds of what the bytes taken come to holds of what the report comes to, where the desk tells it
of_report : (P : Outcome → Type 0) (left : Option (List ℕ)) (taken : Taken)
    → IfSome left (λ all. taken.bytes.items ≡ take report_limit all)
    → IfSome left (λ all. taken.more ≡ nat_lt report_limit (length all)) → P (outcome_where taken.more taken.bytes.items)
    → IfSome left (λ all. P (report_outcome all))
of_report P None taken b m h = tt
of_report P (Some all) taken b m h = subst P (sym (known taken.more taken.bytes.items all b m)) h

whole_of_report : (old : DeskState) (taken : Taken) (text : Written) (faults : List ℕ) (r : Result Status Stop)
    → IfSome (old.left Library) (λ all. taken.bytes.items ≡ take report_limit all)
    → IfSome (old.left Library) (λ all. taken.more ≡ nat_lt report_limit (length all))
    → IfOk r (λ status. IsAllOf status text faults (outcome_where taken.more taken.bytes.items))
    → IfOk r (λ status. IfSome (old.left Library) (λ bytes. IsAllOf status text faults (report_outcome bytes)))
whole_of_report old taken text faults (Ok status) b m h = of_report (IsAllOf status text faults) (old.left Library) taken b m h
whole_of_report old taken text faults (Err y) b m h = tt

-- the report was read, and this was appended
pub draws_so : (old now new : DeskState) (taken : Taken) (text : Written) (faults : List ℕ) (r : Result Status Stop)
    → IsRead old now Library report_limit taken
    → new ≡ wrote (wrote_all now text) Faults faults → IsPartOf text faults (outcome_where taken.more taken.bytes.items)
    → IfOk r (λ status. IsAllOf status text faults (outcome_where taken.more taken.bytes.items)) → Draws old new r
draws_so old now new taken text faults r read state part whole = record {
  taken = length taken.bytes.items + (if taken.more then 1 else 0);
  text = text;
  faults = faults;
  state = state ∙ ap (λ s. wrote (wrote_all s text) Faults faults) read.state;
  part = of_report (IsPartOf text faults) (old.left Library) taken read.bytes read.more part;
  whole = whole_of_report old taken text faults r read.bytes read.more whole;
}

no_status : (r : Result Status Stop) (P : Status → Type 0) → IsErr r → IfOk r P
no_status (Ok x) P e = absurd cc
no_status (Err y) P e = tt

untouched : (s : DeskState) → s ≡ wrote (wrote_all s nothing_written) Faults []
untouched s = sym (wrote_all-nothing s) ∙ sym (wrote-nil (wrote_all s nothing_written) Faults)

anything : (left : Option (List ℕ)) → IfSome left (λ bytes. IsPartOf nothing_written [] (report_outcome bytes))
anything None = tt
anything (Some all) = record { text_part = IsPart-nothing _; faults_part = nothing _ }

-- the report could not be read
pub unread : (old new : DeskState) (n : ℕ) (r : Result Status Stop) → IsErr r → new ≡ took old Library n → Draws old new r
unread old new n r e h = record {
  taken = n;
  text = nothing_written;
  faults = [];
  state = h ∙ untouched (took old Library n);
  part = anything (old.left Library);
  whole = no_status r _ e;
}

-- it was read, and there was no memory
pub undrawn : (old now : DeskState) (taken : Taken) (r : Result Status Stop) → IsErr r → IsRead old now Library report_limit taken
    → Draws old now r
undrawn old now taken r e read =
    draws_so old now now taken nothing_written [] r read (untouched now)
    (record { text_part = IsPart-nothing _; faults_part = nothing _ }) (no_status r _ e)

faulted : (s : DeskState) (line : List ℕ) → wrote s Faults line ≡ wrote (wrote_all s nothing_written) Faults line
faulted s line = ap (λ t. wrote t Faults line) (sym (wrote_all-nothing s))

-- it has too many bytes, which was told
pub too_long : (old now new : DeskState) (taken : Taken) → IsRead old now Library report_limit taken → taken.more ≡ true
    → new ≡ wrote now Faults too_long_line → Draws old new (Ok TooLong)
too_long old now new taken read more w =
    draws_so old now new taken nothing_written too_long_line (Ok TooLong) read (w ∙ faulted now too_long_line)
    (rw more (record { text_part = IsPart-nothing _; faults_part = whole_prefix too_long_line }))
    (rw more (record { same_status = refl; same_text = refl; same_faults = refl }))

-- or a part of the line was told
pub long_stops : {T : Type 0} (old now new : DeskState) (taken : Taken) (y : Failed) (r : Result Status Stop) → IsErr r
    → IsRead old now Library report_limit taken → taken.more ≡ true
    → WritesText {T = T} now new Faults too_long_line (Err y) → Draws old new r
long_stops old now new taken y r e read more w =
    draws_so old now new taken nothing_written w.part.0 r read (w.part.2 ∙ faulted now w.part.0)
    (rw more (record { text_part = IsPart-nothing _; faults_part = w.part.1 })) (no_status r _ e)

dumped : (s : DeskState) (text line : List ℕ)
    → wrote (wrote s VerilogText text) Faults line ≡ wrote (wrote_all s (in_verilog text)) Faults line
dumped s text line = ap (λ t. wrote t Faults line) (sym (wrote_all-verilog s text))

-- a part of the dump was written
pub dump_stops : {T : Type 0} (old now new : DeskState) (taken : Taken) (definitions changes : List ℕ) (y : Failed)
    (r : Result Status Stop) → IsErr r → IsRead old now Library report_limit taken
    → taken.more ≡ false → definitions ≡ (drawing_of taken.bytes.items).definitions
    → changes ≡ (drawing_of taken.bytes.items).changes
    → WritesText {T = T} now new VerilogText (dump_text definitions changes) (Err y) → Draws old new r
dump_stops old now new taken definitions changes y r e read more d c w =
    let front = subst (λ whole. IsPrefix w.part.0 whole) (λ i. dump_text (d i) (c i)) w.part.1 in
    draws_so old now new taken (in_verilog w.part.0) [] r read (w.part.2 ∙ sym (wrote-nil (wrote now VerilogText w.part.0) Faults)
    ∙ dumped now w.part.0 [])
    (rw more (record { text_part = record { verilog = front; vital = nothing _; report = nothing _ }; faults_part = nothing _ }))
    (no_status r _ e)

-- all of it was written, and a part of the lines on bad lines was told
pub faults_stop : {T : Type 0} (old now put new : DeskState) (taken : Taken) (definitions changes faults : List ℕ) (y : Failed)
    (r : Result Status Stop) → IsErr r
    → IsRead old now Library report_limit taken → taken.more ≡ false → definitions ≡ (drawing_of taken.bytes.items).definitions
    → changes ≡ (drawing_of taken.bytes.items).changes
    → faults ≡ (drawing_of taken.bytes.items).faults → put ≡ wrote now VerilogText (dump_text definitions changes)
    → WritesText {T = T} put new Faults faults (Err y) → Draws old new r
faults_stop old now put new taken definitions changes faults y r e read more d c f dump w =
    let text : List ℕ = dump_text definitions changes in
    let same : text ≡ dump_text (drawing_of taken.bytes.items).definitions (drawing_of taken.bytes.items).changes =
    λ i. dump_text (d i) (c i) in
    let front = subst (λ whole. IsPrefix w.part.0 whole) f w.part.1 in
    draws_so old now new taken (in_verilog text) w.part.0 r read
    (w.part.2 ∙ ap (λ s. wrote s Faults w.part.0) dump ∙ dumped now text w.part.0)
    (rw (more, same) (record { text_part = IsPart-all _; faults_part = front })) (no_status r _ e)

-- all was told
pub all_written : (old now put new : DeskState) (taken : Taken) (definitions changes faults : List ℕ) (status : Status)
    → IsRead old now Library report_limit taken → taken.more ≡ false → definitions ≡ (drawing_of taken.bytes.items).definitions
    → changes ≡ (drawing_of taken.bytes.items).changes
    → faults ≡ (drawing_of taken.bytes.items).faults → put ≡ wrote now VerilogText (dump_text definitions changes)
    → new ≡ wrote put Faults faults
    → status ≡ status_behind faults → Draws old new (Ok status)
all_written old now put new taken definitions changes faults status read more d c f dump w s =
    let text : List ℕ = dump_text definitions changes in
    let same : text ≡ dump_text (drawing_of taken.bytes.items).definitions (drawing_of taken.bytes.items).changes =
    λ i. dump_text (d i) (c i) in
    draws_so old now new taken (in_verilog text) faults (Ok status) read
    (w ∙ ap (λ t. wrote t Faults faults) dump ∙ dumped now text faults)
    (rw (more, same, f) (record { text_part = IsPart-all _; faults_part = whole_prefix _ }))
    (rw more (record { same_status = s ∙ ap status_behind f; same_text = ap in_verilog same; same_faults = f }))
