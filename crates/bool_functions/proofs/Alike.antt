-- Which symbols make a text does not hang on the numbers of the names.
use Rattle.std.proofs.Common.{◌≡◌, ℕ, zero, suc, ◌+◌, ◌<◌, ◌≤◌, List, [], ◌∷◌, ◌++◌, length, take, refl, sym, ap, subst, ◌∙◌}
use Rattle.bool_functions.specs.declared.symbol.Symbol.{Symbol}
use Rattle.bool_functions.specs.declared.symbol.Symbol.TheVariants as symbol
use Rattle.bool_functions.specs.declared.tree.Node.{Node}
use Rattle.bool_functions.specs.Grammar.{Rule, AtOr, AtAnd, AtXor, AtNot, AtPost, Takes, IsText, IsFront, IsFault}

-- the same symbols, but for the numbers of the names
pub data Alike : List Symbol → List Symbol → Type 0 where
  none : Alike [] []
  names : {i j : ℕ} {s t : List Symbol} → Alike s t → Alike (symbol.Name i ∷ s) (symbol.Name j ∷ t)
  equal : {x : Symbol} {s t : List Symbol} → Alike s t → Alike (x ∷ s) (x ∷ t)

pub alike_back : {s t : List Symbol} → Alike s t → Alike t s
alike_back Alike.none = Alike.none
alike_back (Alike.names a) = Alike.names (alike_back a)
alike_back (Alike.equal a) = Alike.equal (alike_back a)

pub alike_length : {s t : List Symbol} → Alike s t → length s ≡ length t
alike_length Alike.none = refl
alike_length (Alike.names a) = ap suc (alike_length a)
alike_length (Alike.equal a) = ap suc (alike_length a)

itself : (s : List Symbol) → Alike s s
itself [] = Alike.none
itself (x ∷ s) = Alike.equal (itself s)

alike_append : {s t : List Symbol} (more : List Symbol) → Alike s t → Alike (s ++ more) (t ++ more)
alike_append more Alike.none = itself more
alike_append more (Alike.names a) = Alike.names (alike_append more a)
alike_append more (Alike.equal a) = Alike.equal (alike_append more a)

alike_take : (n : ℕ) {s t : List Symbol} → Alike s t → Alike (take n s) (take n t)
alike_take zero a = Alike.none
alike_take (suc n) Alike.none = Alike.none
alike_take (suc n) (Alike.names a) = Alike.names (alike_take n a)
alike_take (suc n) (Alike.equal a) = Alike.equal (alike_take n a)

-- what a phrase of symbols alike leaves
record Left (l : Rule) (s rest : List Symbol) : Type 0 where
  pub tree : Node
  pub others : List Symbol
  pub takes : Takes l s tree others
  pub alike : Alike rest others

grouped : {s rest o : List Symbol} {f : Node} → Takes AtOr s f o → Alike (symbol.Close ∷ rest) o
    → Left AtPost (symbol.Open ∷ s) rest
grouped t (Alike.equal a) = record { tree = _; others = _; takes = Takes.group t; alike = a }

quoted : {s rest o : List Symbol} {f : Node} → Takes AtPost s f o → Alike (symbol.Quote ∷ rest) o → Left AtPost s rest
quoted t (Alike.equal a) = record { tree = _; others = _; takes = Takes.quote t; alike = a }

-- what stands after an operator, and the phrase before it
record Before (l : Rule) (s : List Symbol) (x : Symbol) (rest : List Symbol) : Type 0 where
  pub tree : Node
  pub others : List Symbol
  pub takes : Takes l s tree (x ∷ others)
  pub alike : Alike rest others

careted : {s rest o : List Symbol} {f : Node} → Takes AtXor s f o → Alike (symbol.Caret ∷ rest) o
    → Before AtXor s symbol.Caret rest
careted t (Alike.equal a) = record { tree = _; others = _; takes = t; alike = a }

timed : {s rest o : List Symbol} {f : Node} → Takes AtAnd s f o → Alike (symbol.Times ∷ rest) o → Before AtAnd s symbol.Times rest
timed t (Alike.equal a) = record { tree = _; others = _; takes = t; alike = a }

added : {s rest o : List Symbol} {f : Node} → Takes AtOr s f o → Alike (symbol.Plus ∷ rest) o → Before AtOr s symbol.Plus rest
added t (Alike.equal a) = record { tree = _; others = _; takes = t; alike = a }

with_xor : {s t rest : List Symbol} (b : Before AtXor s symbol.Caret t) → Left AtNot b.others rest → Left AtXor s rest
with_xor b r = record { tree = _; others = r.others; takes = Takes.caret b.takes r.takes; alike = r.alike }

with_times : {s t rest : List Symbol} (b : Before AtAnd s symbol.Times t) → Left AtXor b.others rest → Left AtAnd s rest
with_times b r = record { tree = _; others = r.others; takes = Takes.times b.takes r.takes; alike = r.alike }

with_beside : {s t rest : List Symbol} (b : Left AtAnd s t) → Left AtXor b.others rest → Left AtAnd s rest
with_beside b r = record { tree = _; others = r.others; takes = Takes.beside b.takes r.takes; alike = r.alike }

with_plus : {s t rest : List Symbol} (b : Before AtOr s symbol.Plus t) → Left AtAnd b.others rest → Left AtOr s rest
with_plus b r = record { tree = _; others = r.others; takes = Takes.plus b.takes r.takes; alike = r.alike }

left : {l : Rule} {s rest : List Symbol} {f : Node} → Takes l s f rest → {t : List Symbol} → Alike s t → Left l t rest
left Takes.name (Alike.names a) = record { tree = _; others = _; takes = Takes.name; alike = a }
left Takes.name (Alike.equal a) = record { tree = _; others = _; takes = Takes.name; alike = a }
left Takes.zero (Alike.equal a) = record { tree = _; others = _; takes = Takes.zero; alike = a }
left Takes.one (Alike.equal a) = record { tree = _; others = _; takes = Takes.one; alike = a }
left (Takes.group k) (Alike.equal a) = let r = left k a in grouped r.takes r.alike
left (Takes.quote k) a = let r = left k a in quoted r.takes r.alike
left (Takes.post k) a = let r = left k a in record { tree = _; others = _; takes = Takes.post r.takes; alike = r.alike }
left (Takes.bang k) (Alike.equal a) = let r = left k a
    in record { tree = _; others = _; takes = Takes.bang r.takes; alike = r.alike }
left (Takes.not k) a = let r = left k a in record { tree = _; others = _; takes = Takes.not r.takes; alike = r.alike }
left (Takes.caret k m) a = let r = left k a in let b = careted r.takes r.alike in with_xor b (left m b.alike)
left (Takes.xor k) a = let r = left k a in record { tree = _; others = _; takes = Takes.xor r.takes; alike = r.alike }
left (Takes.times k m) a = let r = left k a in let b = timed r.takes r.alike in with_times b (left m b.alike)
left (Takes.beside k m) a = let r = left k a in with_beside r (left m r.alike)
left (Takes.and k) a = let r = left k a in record { tree = _; others = _; takes = Takes.and r.takes; alike = r.alike }
left (Takes.plus k m) a = let r = left k a in let b = added r.takes r.alike in with_plus b (left m b.alike)

whole : {t o : List Symbol} {f : Node} → Takes AtOr t f o → Alike [] o → (g : Node) × IsText t g
whole k Alike.none = (_, k)

-- symbols alike are texts together
pub alike_text : {s t : List Symbol} → Alike s t → (f : Node) → IsText s f → (g : Node) × IsText t g
alike_text a f k = let r = left k a in whole r.takes r.alike

pub alike_front : {s t : List Symbol} → Alike s t → IsFront s → IsFront t
alike_front a (more, f, k) = let (g, m) = alike_text (alike_append more a) f k in (more, g, m)

-- and have their fault at the same place
pub alike_fault : {s t : List Symbol} (at : ℕ) → Alike s t → IsFault s at → IsFault t at
alike_fault {s} {t} at a e = record {
  within = subst (λ n. at ≤ n) (alike_length a) e.within;
  before = alike_front (alike_take at a) e.before;
  first = λ lt front. e.first (subst (λ n. at < n) (sym (alike_length a)) lt)
      (alike_front (alike_take (at + 1) (alike_back a)) front);
  short = λ is f k. let (g, m) = alike_text (alike_back a) f k in e.short (is ∙ sym (alike_length a)) g m;
}
