use Rattle.std.proofs.Common.{List, sym, subst}
use Rattle.liberty_text.specs.declared.token.Token.{Token}
use Rattle.liberty_groups.specs.Lexeme.{LieInside}
use Rattle.cell_cursor.specs.Scanned.{Scanned, AreScanned}
use Rattle.cell_cursor.proofs.ScannedLemmas.{all_are_scanned, scanned_inside}
use Rattle.cell_cursor.proofs.part.Part.tokens.Goals as goal

pub returns-clause-inside : goal.returns-clause-inside
returns-clause-inside c =
    subst (λ (v : Scanned). LieInside v.bytes c.tokens.result.now) c.self.view_is
    (subst (λ (ts : List Token). LieInside c.self.inside.bytes.items ts) (sym c.tokens.ensures)
    (scanned_inside c.self.inside.bytes.items c.self.inside.scanner.tokens.items c.self.inside.scanner.mode (all_are_scanned c.self.inside.bytes.items c.self.inside.scanner.tokens.items c.self.inside.scanner.mode c.self.invariant.tokens_are c.self.invariant.open_is)))

pub returns-clause-scanned : goal.returns-clause-scanned
returns-clause-scanned c = subst (λ (v : Scanned). AreScanned v.bytes v.tokens v.mode) c.self.view_is (all_are_scanned c.self.inside.bytes.items c.self.inside.scanner.tokens.items c.self.inside.scanner.mode c.self.invariant.tokens_are c.self.invariant.open_is)
