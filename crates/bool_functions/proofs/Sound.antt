-- What the reader takes for a text is one, with this tree.
use Rattle.std.proofs.Common.{◌≡◌, ℕ, List, [], ◌∷◌, None, Some, Ok, refl, sym, subst, arith, lit<, ◌⊎◌, inl, inr}
use Rattle.bool_functions.specs.declared.symbol.Symbol.{Symbol}
use Rattle.bool_functions.specs.declared.symbol.Symbol.TheVariants as symbol
use Rattle.bool_functions.specs.declared.tree.Node.{Node}
use Rattle.bool_functions.specs.declared.tree.Node.TheVariants as node
use Rattle.bool_functions.specs.declared.reader.Pending.{Pending}
use Rattle.bool_functions.specs.declared.reader.Pending.TheVariants as pending
use Rattle.bool_functions.specs.Grammar.{Rule, AtOr, AtAnd, AtXor, AtNot, AtPost, Takes, IsText}
use Rattle.bool_functions.specs.Machine.{settled, Holds, held, closed, alone, ended, next, State, run, start}
use Rattle.bool_functions.proofs.Complete.{settled_under}

-- A phrase may begin at t, where what was taken of a before waits on the pile.
abbrev pub Stands : List Symbol → List Pending → List Symbol → Type 0
Stands a [] t = a ≡ t
Stands a (pending.Group ∷ ps) t = Stands a ps (symbol.Open ∷ t)
Stands a (pending.Not ∷ ps) t = Stands a ps (symbol.Bang ∷ t)
Stands a (pending.Xor f ∷ ps) t = (u : List Symbol) × Stands a ps u × Takes AtXor u f (symbol.Caret ∷ t) × Holds 3 ps
Stands a (pending.And f ∷ ps) t = (u : List Symbol) × Stands a ps u × (Takes AtAnd u f (symbol.Times ∷ t) ⊎ Takes AtAnd u f t)
    × Holds 2 ps
Stands a (pending.Or f ∷ ps) t = (u : List Symbol) × Stands a ps u × Takes AtOr u f (symbol.Plus ∷ t) × Holds 1 ps

-- A phrase of the rule ends at t, and the pile before it holds what binds looser.
abbrev Ended : List Symbol → Rule → ℕ → List Pending × Node → List Symbol → Type 0
Ended a l least p t = (u : List Symbol) × Stands a p.0 u × Takes l u p.1 t × Holds least p.0

with_and : {u v t : List Symbol} {h f : Node} → Takes AtAnd v h (symbol.Times ∷ u) ⊎ Takes AtAnd v h u → Takes AtXor u f t
    → Takes AtAnd v (node.And h f) t
with_and (inl k) x = Takes.times k x
with_and (inr k) x = Takes.beside k x

module _ (a t : List Symbol) where
  -- the or before a phrase of ands takes it
  or_1 : (ps : List Pending) (u : List Symbol) (f : Node) → Holds 2 ps → Stands a ps u → Takes AtAnd u f t
      → Ended a AtOr 1 (settled 1 ps f) t
  or_1 [] u f h s x = (u, s, Takes.and x, tt)
  or_1 (pending.Group ∷ ps) u f h s x = (u, s, Takes.and x, lit< tt)
  or_1 (pending.Or k ∷ ps) u f h (v, s, y, l) x = rw (settled_under 1 ps (node.Or k f) l) (v, s, Takes.plus y x, l)
  or_1 (pending.And k ∷ ps) u f h s x = absurd (omega arith)
  or_1 (pending.Xor k ∷ ps) u f h s x = absurd (omega arith)
  or_1 (pending.Not ∷ ps) u f h s x = absurd (omega arith)

  -- what binds as an and takes a phrase of xors
  and_2 : (ps : List Pending) (u : List Symbol) (f : Node) → Holds 3 ps → Stands a ps u → Takes AtXor u f t
      → Ended a AtAnd 2 (settled 2 ps f) t
  and_2 [] u f h s x = (u, s, Takes.xor x, tt)
  and_2 (pending.Group ∷ ps) u f h s x = (u, s, Takes.xor x, lit< tt)
  and_2 (pending.Or k ∷ ps) u f h s x = (u, s, Takes.xor x, lit< tt)
  and_2 (pending.And k ∷ ps) u f h (v, s, y, l) x = rw (settled_under 2 ps (node.And k f) l) (v, s, with_and y x, l)
  and_2 (pending.Xor k ∷ ps) u f h s x = absurd (omega arith)
  and_2 (pending.Not ∷ ps) u f h s x = absurd (omega arith)

  and_1 : (ps : List Pending) (u : List Symbol) (f : Node) → Holds 3 ps → Stands a ps u → Takes AtXor u f t
      → Ended a AtOr 1 (settled 1 ps f) t
  and_1 [] u f h s x = or_1 [] u f tt s (Takes.xor x)
  and_1 (pending.Group ∷ ps) u f h s x = or_1 (pending.Group ∷ ps) u f (lit< tt) s (Takes.xor x)
  and_1 (pending.Or k ∷ ps) u f h s x = or_1 (pending.Or k ∷ ps) u f (lit< tt) s (Takes.xor x)
  and_1 (pending.And k ∷ ps) u f h (v, s, y, l) x = or_1 ps v (node.And k f) l s (with_and y x)
  and_1 (pending.Xor k ∷ ps) u f h s x = absurd (omega arith)
  and_1 (pending.Not ∷ ps) u f h s x = absurd (omega arith)

  -- inversions and a xor take a phrase of inversions
  xor_3 : (ps : List Pending) (u : List Symbol) (f : Node) → Stands a ps u → Takes AtNot u f t
      → Ended a AtXor 3 (settled 3 ps f) t
  xor_3 [] u f s x = (u, s, Takes.not x, tt)
  xor_3 (pending.Group ∷ ps) u f s x = (u, s, Takes.not x, lit< tt)
  xor_3 (pending.Or k ∷ ps) u f s x = (u, s, Takes.not x, lit< tt)
  xor_3 (pending.And k ∷ ps) u f s x = (u, s, Takes.not x, lit< tt)
  xor_3 (pending.Xor k ∷ ps) u f (v, s, y, l) x = rw (settled_under 3 ps (node.Xor k f) l) (v, s, Takes.caret y x, l)
  xor_3 (pending.Not ∷ ps) u f s x = xor_3 ps (symbol.Bang ∷ u) (node.Not f) s (Takes.bang x)

  -- and so does what takes a phrase of xors and lets both through
  through_xor : (P : List Pending → Node → Type 0)
      → ((ps : List Pending) (k f : Node) → P ps (node.Xor k f) → P (pending.Xor k ∷ ps) f)
      → ((ps : List Pending) (f : Node) → P ps (node.Not f) → P (pending.Not ∷ ps) f)
      → ((ps : List Pending) (u : List Symbol) (f : Node) → Holds 3 ps → Stands a ps u → Takes AtXor u f t → P ps f)
      → (ps : List Pending) (u : List Symbol) (f : Node) → Stands a ps u → Takes AtNot u f t → P ps f
  through_xor P past_xor past_not takes [] u f s x = takes [] u f tt s (Takes.not x)
  through_xor P past_xor past_not takes (pending.Xor k ∷ ps) u f (v, s, y, l) x =
      past_xor ps k f (takes ps v (node.Xor k f) l s (Takes.caret y x))
  through_xor P past_xor past_not takes (pending.Not ∷ ps) u f s x =
      past_not ps f (through_xor P past_xor past_not takes ps (symbol.Bang ∷ u) (node.Not f) s (Takes.bang x))
  through_xor P past_xor past_not takes (p ∷ ps) u f s x = takes (p ∷ ps) u f (lit< tt) s (Takes.not x)

  xor_2 : (ps : List Pending) (u : List Symbol) (f : Node) → Stands a ps u → Takes AtNot u f t
      → Ended a AtAnd 2 (settled 2 ps f) t
  xor_2 = through_xor (λ ps f. Ended a AtAnd 2 (settled 2 ps f) t) (λ ps k f p. p) (λ ps f p. p) and_2

  xor_1 : (ps : List Pending) (u : List Symbol) (f : Node) → Stands a ps u → Takes AtNot u f t → Ended a AtOr 1 (settled 1 ps f) t
  xor_1 = through_xor (λ ps f. Ended a AtOr 1 (settled 1 ps f) t) (λ ps k f p. p) (λ ps f p. p) and_1

-- what the reader has taken of a, where t is left
abbrev pub Reached : List Symbol → State → List Symbol → Type 0
Reached a (ps, None) t = Stands a ps t
Reached a (ps, Some f) t = (u : List Symbol) × Stands a ps u × Takes AtPost u f t

module _ (a : List Symbol) (f : Node) where
  -- at the end
  whole : (p : List Pending × Node) → Ended a AtOr 1 p [] → ended (alone p) ≡ Ok f → IsText a f
  whole ([], g) (u, s, x, h) e = let k : g ≡ f = cc in subst (λ n. IsText a n) k (subst (λ z. Takes AtOr z g []) (sym s) x)
  whole (p ∷ ps, g) r e = absurd cc

  -- at a closing bracket
  closes : (p : List Pending × Node) (s : List Symbol) → Ended a AtOr 1 p (symbol.Close ∷ s)
      → next (closed p) (symbol.Close ∷ s) (λ after. run after s) ≡ Ok f
      → ((st : State) → Reached a st s → run st s ≡ Ok f → IsText a f) → IsText a f
  closes ([], g) s r e k = absurd cc
  closes (pending.Group ∷ ps, g) s (u, stands, x, h) e k = k (ps, Some g) (symbol.Open ∷ u, stands, Takes.group x) e
  closes (pending.Or q ∷ ps, g) s (u, stands, x, h) e k = absurd (omega arith)
  closes (pending.And q ∷ ps, g) s (u, stands, x, h) e k = absurd (omega arith)
  closes (pending.Xor q ∷ ps, g) s (u, stands, x, h) e k = absurd (omega arith)
  closes (pending.Not ∷ ps, g) s (u, stands, x, h) e k = absurd (omega arith)

  -- an operand that begins after an and
  after_and : (p : List Pending × Node) (s : List Symbol) → Ended a AtAnd 2 p s → Reached a (held pending.And p, None) s
  after_and p s (u, stands, x, h) = (u, stands, inr x, h)

  pub sound : (st : State) (t : List Symbol) → Reached a st t → run st t ≡ Ok f → IsText a f
  sound (ps, None) [] r e = absurd cc
  sound (ps, None) (symbol.Name i ∷ s) r e = sound (ps, Some (node.Name i)) s (symbol.Name i ∷ s, r, Takes.name) e
  sound (ps, None) (symbol.Zero ∷ s) r e = sound (ps, Some node.Zero) s (symbol.Zero ∷ s, r, Takes.zero) e
  sound (ps, None) (symbol.One ∷ s) r e = sound (ps, Some node.One) s (symbol.One ∷ s, r, Takes.one) e
  sound (ps, None) (symbol.Bang ∷ s) r e = sound (pending.Not ∷ ps, None) s r e
  sound (ps, None) (symbol.Open ∷ s) r e = sound (pending.Group ∷ ps, None) s r e
  sound (ps, None) (symbol.Quote ∷ s) r e = absurd cc
  sound (ps, None) (symbol.Caret ∷ s) r e = absurd cc
  sound (ps, None) (symbol.Times ∷ s) r e = absurd cc
  sound (ps, None) (symbol.Plus ∷ s) r e = absurd cc
  sound (ps, None) (symbol.Close ∷ s) r e = absurd cc
  sound (ps, None) (symbol.Stray ∷ s) r e = absurd cc
  sound (ps, Some g) [] (u, r, x) e = whole (settled 1 ps g) (xor_1 a [] ps u g r (Takes.post x)) e
  sound (ps, Some g) (symbol.Quote ∷ s) (u, r, x) e = sound (ps, Some (node.Not g)) s (u, r, Takes.quote x) e
  sound (ps, Some g) (symbol.Caret ∷ s) (u, r, x) e =
      sound (held pending.Xor (settled 3 ps g), None) s (xor_3 a (symbol.Caret ∷ s) ps u g r (Takes.post x)) e
  sound (ps, Some g) (symbol.Times ∷ s) (u, r, x) e =
      let (v, stands, y, h) = xor_2 a (symbol.Times ∷ s) ps u g r (Takes.post x) in
      sound (held pending.And (settled 2 ps g), None) s (v, stands, inl y, h) e
  sound (ps, Some g) (symbol.Plus ∷ s) (u, r, x) e =
      sound (held pending.Or (settled 1 ps g), None) s (xor_1 a (symbol.Plus ∷ s) ps u g r (Takes.post x)) e
  sound (ps, Some g) (symbol.Close ∷ s) (u, r, x) e =
      closes (settled 1 ps g) s (xor_1 a (symbol.Close ∷ s) ps u g r (Takes.post x)) e (λ st q i. sound st s q i)
  sound (ps, Some g) (symbol.Stray ∷ s) (u, r, x) e = absurd cc
  sound (ps, Some g) (symbol.Name i ∷ s) (u, r, x) e =
      sound (held pending.And (settled 2 ps g), Some (node.Name i)) s (
        symbol.Name i ∷ s,
        after_and (settled 2 ps g) (symbol.Name i ∷ s) (xor_2 a (symbol.Name i ∷ s) ps u g r (Takes.post x)),
        Takes.name,
      ) e
  sound (ps, Some g) (symbol.Zero ∷ s) (u, r, x) e =
      sound (held pending.And (settled 2 ps g), Some node.Zero) s (
        symbol.Zero ∷ s,
        after_and (settled 2 ps g) (symbol.Zero ∷ s) (xor_2 a (symbol.Zero ∷ s) ps u g r (Takes.post x)),
        Takes.zero,
      ) e
  sound (ps, Some g) (symbol.One ∷ s) (u, r, x) e =
      sound (held pending.And (settled 2 ps g), Some node.One) s
      (symbol.One ∷ s, after_and (settled 2 ps g) (symbol.One ∷ s) (xor_2 a (symbol.One ∷ s) ps u g r (Takes.post x)), Takes.one)
      e
  sound (ps, Some g) (symbol.Bang ∷ s) (u, r, x) e =
      sound (pending.Not ∷ held pending.And (settled 2 ps g), None) s
      (after_and (settled 2 ps g) (symbol.Bang ∷ s) (xor_2 a (symbol.Bang ∷ s) ps u g r (Takes.post x))) e
  sound (ps, Some g) (symbol.Open ∷ s) (u, r, x) e =
      sound (pending.Group ∷ held pending.And (settled 2 ps g), None) s
      (after_and (settled 2 ps g) (symbol.Open ∷ s) (xor_2 a (symbol.Open ∷ s) ps u g r (Takes.post x))) e

-- what is read to a tree is a text with this tree
pub read_text : (s : List Symbol) (f : Node) → run start s ≡ Ok f → IsText s f
read_text s f e = sound s f start s refl e
