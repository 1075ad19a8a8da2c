use Rattle.std.proofs.Common.{sym, ◌∙◌}
use Rattle.stimulus.specs.Comparison.{three_lines, lines_text}
use Rattle.stimulus.proofs.AlikeLines.{alike_tagged}
use Rattle.stimulus.proofs.TraceTexts.{behind_nothing}
use Rattle.stimulus.proofs.Runs.{puts_nothing, put_whole, put_stopped, stays_stopped, trace_on, trace_put_stops}
use Rattle.stimulus.proofs.comparison.put_lines.Goals as goal

-- the lines are alike: one was made

pub returns-in_err-push_shown-clause-text : goal.returns-in_err-push_shown-clause-text
returns-in_err-push_shown-clause-text g c = λ h l v k. puts_nothing _ _ _ _ _ c.from_residual.ensures.0

pub returns-in_err-put_tags-clause-text : goal.returns-in_err-put_tags-clause-text
returns-in_err-put_tags-clause-text g c = λ h l v k.
    let three = c.args.three.now in
    let lines = three_lines (g.L.TraceSim.machine three.liberty) (g.V.TraceSim.machine three.verilog) (g.H.TraceSim.machine three.vital) in
    let shown = behind_nothing _ _ _ _ c.clear.ensures.items c.new-pieces.ensures (c.in_ok-push_shown.ensures h l) in
    put_stopped _ _ _ _ _ _ _ _ _
    (alike_tagged _ c.args.ports.now (lines h) c.as_slice.result.now c.push_shown.new.text.items
    c.push_shown.new.pieces c.as_slice.ensures.value shown (sym (c.are_alike-alike.ensures h l v k) ∙ c.if-alike.true))
    c.in_err-put_tags.ensures.text c.from_residual-in_err-put_tags.ensures.0

pub returns-then-alike-clause-text : goal.returns-then-alike-clause-text
returns-then-alike-clause-text g c = λ h l v k.
    let three = c.args.three.now in
    let lines = three_lines (g.L.TraceSim.machine three.liberty) (g.V.TraceSim.machine three.verilog) (g.H.TraceSim.machine three.vital) in
    let shown = behind_nothing _ _ _ _ c.clear.ensures.items c.new-pieces.ensures (c.in_ok-push_shown.ensures h l) in
    put_whole _ _ _ _ _ _ _ _
    (alike_tagged _ c.args.ports.now (lines h) c.as_slice.result.now c.push_shown.new.text.items
    c.push_shown.new.pieces c.as_slice.ensures.value shown (sym (c.are_alike-alike.ensures h l v k) ∙ c.if-alike.true))
    c.in_ok-put_tags.ensures.text

-- else three were made

pub returns-in_err-put_line-clause-text : goal.returns-in_err-put_line-clause-text
unfolding lines_text
returns-in_err-put_line-clause-text g c = λ h l v k.
    trace_put_stops _ _ _ _ _ _ _ _ _ (c.in_err-put_line.ensures.text h l) c.from_residual-in_err-put_line.ensures.0

pub returns-in_err-put_line-2-clause-text : goal.returns-in_err-put_line-2-clause-text
unfolding lines_text
returns-in_err-put_line-2-clause-text g c = λ h l v k.
    trace_on _ _ _ _ _ _ _ _ _ (c.in_ok-put_line.ensures.text h l).whole
    (trace_put_stops _ _ _ _ _ _ _ _ _ (c.in_err-put_line-2.ensures.text h v) c.from_residual-in_err-put_line-2.ensures.0)

pub returns-in_err-put_line-3-clause-text : goal.returns-in_err-put_line-3-clause-text
unfolding lines_text
returns-in_err-put_line-3-clause-text g c = λ h l v k.
    trace_on _ _ _ _ _ _ _ _ _ (c.in_ok-put_line.ensures.text h l).whole
    (trace_on _ _ _ _ _ _ _ _ _ (c.in_ok-put_line-2.ensures.text h v).whole
    (stays_stopped _ _ _ _ _ _ _ _ (c.in_err-put_line-3.ensures.text h k) c.from_residual-in_err-put_line-3.ensures.0))

pub returns-clause-text : goal.returns-clause-text
unfolding lines_text
returns-clause-text g c = λ h l v k.
    trace_on _ _ _ _ _ _ _ _ _ (c.in_ok-put_line.ensures.text h l).whole
    (trace_on _ _ _ _ _ _ _ _ _ (c.in_ok-put_line-2.ensures.text h v).whole
    (record { whole = (c.in_ok-put_line-3.ensures.text h k).whole; part = tt }))
