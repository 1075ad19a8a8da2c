use Rattle.std.proofs.Common.{ℕ, List, sym, ap, subst, ◌∙◌, slice_index_or}
use Rattle.bool_functions.specs.NameList.{Adds}
use Rattle.bool_functions.specs.Token.{span, is_name, bytes_at}
use Rattle.bool_functions.proofs.Appearances.{begins_fresh, moved_names, by_name, by_other}
use Rattle.bool_functions.proofs.words.names_in.Goals as goal
use Rattle.bool_functions.proofs.words.names_in.Goals.{then-is_name+in_ok-add, else-is_name}

pub loop-token-init : goal.loop-token-init
loop-token-init c = begins_fresh _ _ c.new-names.ensures

pub loop-token-preserved : goal.loop-token-preserved
loop-token-preserved c =
    let t = slice_index_or c.args.tokens.now c.loop-token.token-index (span 0 0) in
    let tested = sym (ap is_name c.bytes_at-bytes.ensures) ∙ sym c.is_name.ensures in
    moved_names c.args.text.now c.args.tokens.now c.loop-token.token-index (span 0 0) c.loop-token.names c.if-is_name.names _ c.loop-token-test.true c.loop-token.invariant
    (elim c.if-is_name.branch [
      | then-is_name+in_ok-add w ↦
          by_name c.args.text.now t c.loop-token.names c.if-is_name.names w.in_ok-add.field-0 (tested ∙ w.if-is_name.true)
          (subst (λ (l : List (List ℕ)). Adds c.loop-token.names (bytes_at c.args.text.now t) w.in_ok-add.field-0 l) (sym w.names-is)
          (subst (λ (b : List ℕ). Adds c.loop-token.names b w.in_ok-add.field-0 w.add.new.self) c.bytes_at-bytes.ensures w.in_ok-add.ensures.added))
      | else-is_name w ↦ by_other c.args.text.now t c.loop-token.names c.if-is_name.names (tested ∙ w.if-is_name.false) w.names-is
    ])
