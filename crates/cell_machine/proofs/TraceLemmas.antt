-- The lines of a trace, by its changes.
use Rattle.std.proofs.Common.{◌≡◌, ℕ, zero, suc, List, [], ◌∷◌, ◌++◌, take, refl, sym, ap, ◌∙◌}
use Rattle.std.specs.Prelude.{reverse}
use Rattle.std.proofs.lemmas.List.{append-nil, append_assoc, reverse-append}
use Rattle.cell_machine.specs.declared.changes.Change.{Change}
use Rattle.cell_machine.specs.Machine.{last}
use Rattle.cell_machine.specs.Lines.{Line, lines_from}
use Rattle.cell_machine.specs.Laws.{LastLineIsOfHistory, FrontsHaveFronts}

-- the last of the lines that go on from a history
last-from :
    (line : List Change → Line) (h cs : List Change) (d : Line)
    → last d (line h ∷ lines_from line h cs) ≡ line (reverse cs ++ h)
last-from line h [] d = refl
last-from line h (c ∷ cs) d =
    last-from line (c ∷ h) cs d
    ∙ ap line (sym (append_assoc (reverse cs) (c ∷ []) h) ∙ ap (λ r. r ++ h) (sym (reverse-append (c ∷ []) cs)))

pub last_line-lem : LastLineIsOfHistory
last_line-lem line cs d = last-from line [] cs d ∙ ap line (append-nil (reverse cs))

-- the lines of a front of the changes are a front of the lines
front-from :
    (line : List Change → Line) (h cs : List Change) (n : ℕ) → lines_from line h (take n cs) ≡ take n (lines_from line h cs)
front-from line h [] zero = refl
front-from line h [] (suc n) = refl
front-from line h (c ∷ cs) zero = refl
front-from line h (c ∷ cs) (suc n) = ap (λ r. line (c ∷ h) ∷ r) (front-from line (c ∷ h) cs n)

pub fronts-lem : FrontsHaveFronts
fronts-lem line cs n = ap (λ r. line [] ∷ r) (front-from line [] cs n)
