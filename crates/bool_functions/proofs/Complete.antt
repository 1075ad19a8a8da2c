-- The reader goes over a phrase of the grammar, and has its tree afterwards.
use Rattle.std.proofs.Common.{◌≡◌, ℕ, true, nat_lt, List, [], ◌∷◌, None, Some, Ok, refl, ap, ◌∙◌, arith, lit<}
use Rattle.std.proofs.lemmas.Bool.Decides.{nat_tests}
use Rattle.bool_functions.specs.declared.symbol.Symbol.{Symbol}
use Rattle.bool_functions.specs.declared.symbol.Symbol.TheVariants as symbol
use Rattle.bool_functions.specs.declared.tree.Node.{Node}
use Rattle.bool_functions.specs.declared.tree.Node.TheVariants as node
use Rattle.bool_functions.specs.declared.reader.Pending.{Pending}
use Rattle.bool_functions.specs.declared.reader.Pending.TheVariants as pending
use Rattle.bool_functions.specs.Grammar.{Rule, AtOr, AtAnd, AtXor, AtNot, AtPost, Takes, IsText}
use Rattle.bool_functions.specs.Machine.{binds, settled, Holds, held, run, start}

-- what is innermost on the pile binds looser than the rule's operators
abbrev pub Under : Rule → List Pending → Type 0
Under AtOr ps = Holds 1 ps
Under AtAnd ps = Holds 2 ps
Under AtXor ps = Holds 3 ps
Under AtNot ps = Unit {0}
Under AtPost ps = Unit {0}

-- the next symbol goes on with no operator that binds tighter than the rule's
abbrev pub Ends : Rule → List Symbol → Type 0
Ends AtPost s = Unit {0}
Ends AtNot (symbol.Quote ∷ s) = ⊥
Ends AtNot _ = Unit {0}
Ends AtXor (symbol.Quote ∷ s) = ⊥
Ends AtXor _ = Unit {0}
Ends AtAnd (symbol.Quote ∷ s) = ⊥
Ends AtAnd (symbol.Caret ∷ s) = ⊥
Ends AtAnd _ = Unit {0}
Ends AtOr [] = Unit {0}
Ends AtOr (symbol.Plus ∷ s) = Unit {0}
Ends AtOr (symbol.Close ∷ s) = Unit {0}
Ends AtOr (symbol.Stray ∷ s) = Unit {0}
Ends AtOr _ = ⊥

-- what follows a phrase gives the operand to what waits
pub skip_not : (ps : List Pending) (f : Node) (s : List Symbol) → Ends AtNot s
    → run (pending.Not ∷ ps, Some f) s ≡ run (ps, Some (node.Not f)) s
skip_not ps f (symbol.Quote ∷ s) e = absurd e
skip_not ps f _ e = refl

-- what follows a phrase gives the operand to what waits
pub skip_xor : (ps : List Pending) (h f : Node) (s : List Symbol) → Ends AtXor s
    → run (pending.Xor h ∷ ps, Some f) s ≡ run (ps, Some (node.Xor h f)) s
skip_xor ps h f (symbol.Quote ∷ s) e = absurd e
skip_xor ps h f _ e = refl

-- what follows a phrase gives the operand to what waits
pub skip_and : (ps : List Pending) (h f : Node) (s : List Symbol) → Ends AtAnd s
    → run (pending.And h ∷ ps, Some f) s ≡ run (ps, Some (node.And h f)) s
skip_and ps h f (symbol.Quote ∷ s) e = absurd e
skip_and ps h f (symbol.Caret ∷ s) e = absurd e
skip_and ps h f _ e = refl

-- what follows a phrase gives the operand to what waits
pub skip_or : (ps : List Pending) (h f : Node) (s : List Symbol) → Ends AtOr s
    → run (pending.Or h ∷ ps, Some f) s ≡ run (ps, Some (node.Or h f)) s
skip_or ps h f [] e = refl
skip_or ps h f (symbol.Plus ∷ s) e = refl
skip_or ps h f (symbol.Close ∷ s) e = refl
skip_or ps h f (symbol.Stray ∷ s) e = refl
skip_or ps h f _ e = absurd e

-- all that binds looser stays on the pile
pub settled_under : (least : ℕ) (ps : List Pending) (f : Node) → Holds least ps → settled least ps f ≡ (ps, f)
settled_under least [] f h = refl
settled_under least (p ∷ ps) f h = let e : nat_lt (binds p) least ≡ true = grind (arith, nat_tests) in rw e refl

-- where a looser rule ends, a tighter one does
pub ends_and : (s : List Symbol) → Ends AtOr s → Ends AtAnd s
ends_and [] e = tt
ends_and (symbol.Plus ∷ s) e = tt
ends_and (symbol.Close ∷ s) e = tt
ends_and (symbol.Stray ∷ s) e = tt
ends_and _ e = absurd e

pub ends_xor : (s : List Symbol) → Ends AtAnd s → Ends AtXor s
ends_xor (symbol.Quote ∷ s) e = absurd e
ends_xor (symbol.Caret ∷ s) e = absurd e
ends_xor _ e = tt

pub ends_not : (s : List Symbol) → Ends AtXor s → Ends AtNot s
ends_not (symbol.Quote ∷ s) e = absurd e
ends_not _ e = tt

-- an operand begins
abbrev Starts : List Symbol → Type 0
Starts (symbol.Name i ∷ s) = Unit {0}
Starts (symbol.Zero ∷ s) = Unit {0}
Starts (symbol.One ∷ s) = Unit {0}
Starts (symbol.Bang ∷ s) = Unit {0}
Starts (symbol.Open ∷ s) = Unit {0}
Starts _ = ⊥

ends_before_start : (s : List Symbol) → Starts s → Ends AtAnd s
ends_before_start (symbol.Quote ∷ s) e = absurd e
ends_before_start (symbol.Caret ∷ s) e = absurd e
ends_before_start _ e = tt

-- where an operand begins after another one, that one waits for it
go_beside : (ps : List Pending) (f : Node) (s : List Symbol) → Starts s
    → run (ps, Some f) s ≡ run (held pending.And (settled 2 ps f), None) s
go_beside ps f (symbol.Name i ∷ s) e = refl
go_beside ps f (symbol.Zero ∷ s) e = refl
go_beside ps f (symbol.One ∷ s) e = refl
go_beside ps f (symbol.Bang ∷ s) e = refl
go_beside ps f (symbol.Open ∷ s) e = refl
go_beside ps f _ e = absurd e

starts : {l : Rule} {s rest : List Symbol} {f : Node} → Takes l s f rest → Starts s
starts Takes.name = tt
starts Takes.zero = tt
starts Takes.one = tt
starts (Takes.group t) = tt
starts (Takes.quote t) = starts t
starts (Takes.post t) = starts t
starts (Takes.bang t) = tt
starts (Takes.not t) = starts t
starts (Takes.caret t u) = starts t
starts (Takes.xor t) = starts t
starts (Takes.times t u) = starts t
starts (Takes.beside t u) = starts t
starts (Takes.and t) = starts t
starts (Takes.plus t u) = starts t

under_and : (ps : List Pending) → Under AtOr ps → Under AtAnd ps
under_and [] h = tt
under_and (p ∷ ps) h = omega arith

under_xor : (ps : List Pending) → Under AtAnd ps → Under AtXor ps
under_xor [] h = tt
under_xor (p ∷ ps) h = omega arith

-- The reader that begins a phrase has its tree for the operand after it, with the same pile.
pub complete : {l : Rule} {s rest : List Symbol} {f : Node} → Takes l s f rest → (ps : List Pending) → Under l ps → Ends l rest
    → run (ps, None) s ≡ run (ps, Some f) rest
complete Takes.name ps h e = refl
complete Takes.zero ps h e = refl
complete Takes.one ps h e = refl
complete (Takes.group t) ps h e = complete t (pending.Group ∷ ps) (lit< tt) tt
complete (Takes.quote t) ps h e = complete t ps tt tt
complete (Takes.post t) ps h e = complete t ps tt tt
complete (Takes.bang {rest = rest} {f = f} t) ps h e = complete t (pending.Not ∷ ps) tt e ∙ skip_not ps f rest e
complete (Takes.not {rest = rest} t) ps h e = complete t ps tt (ends_not rest e)
complete (Takes.caret {t = u} {rest = rest} {f = f} {g = g} t k) ps h e =
    complete t ps h tt ∙ ap (λ p. run (held pending.Xor p, None) u) (settled_under 3 ps f h)
    ∙ complete k (pending.Xor f ∷ ps) tt (ends_not rest e) ∙ skip_xor ps f g rest e
complete (Takes.xor {rest = rest} t) ps h e = complete t ps (under_xor ps h) (ends_xor rest e)
complete (Takes.times {t = u} {rest = rest} {f = f} {g = g} t k) ps h e =
    complete t ps h tt ∙ ap (λ p. run (held pending.And p, None) u) (settled_under 2 ps f h)
    ∙ complete k (pending.And f ∷ ps) (lit< tt) (ends_xor rest e) ∙ skip_and ps f g rest e
complete (Takes.beside {t = u} {rest = rest} {f = f} {g = g} t k) ps h e =
    complete t ps h (ends_before_start u (starts k)) ∙ go_beside ps f u (starts k)
    ∙ ap (λ p. run (held pending.And p, None) u) (settled_under 2 ps f h)
    ∙ complete k (pending.And f ∷ ps) (lit< tt) (ends_xor rest e) ∙ skip_and ps f g rest e
complete (Takes.and {rest = rest} t) ps h e = complete t ps (under_and ps h) (ends_and rest e)
complete (Takes.plus {t = u} {rest = rest} {f = f} {g = g} t k) ps h e =
    complete t ps h tt ∙ ap (λ p. run (held pending.Or p, None) u) (settled_under 1 ps f h)
    ∙ complete k (pending.Or f ∷ ps) (lit< tt) (ends_and rest e) ∙ skip_or ps f g rest e

-- a text is read to its tree
pub text_read : (s : List Symbol) (f : Node) → IsText s f → run start s ≡ Ok f
text_read s f t = complete t [] tt tt

-- and so has one tree at most
pub text_tree : (s : List Symbol) (f g : Node) → IsText s f → IsText s g → f ≡ g
text_tree s f g t u = let e : run start s ≡ Ok f = text_read s f t in let k : run start s ≡ Ok g = text_read s g u in cc
