-- The tree of symbols whose names have other numbers.
use Rattle.std.proofs.Common.{◌≡◌, ℕ, List, map, sym, subst}
use Rattle.bool_functions.specs.declared.symbol.Symbol.{Symbol}
use Rattle.bool_functions.specs.declared.tree.Node.{Node}
use Rattle.bool_functions.specs.Grammar.{Rule, Takes, IsText}
use Rattle.bool_functions.specs.Tree.{renamed_step, renamed_by}
use Rattle.bool_functions.specs.Laws.{renamed_symbol}
use Rattle.bool_functions.proofs.Trees.{fold-Zero, fold-One, fold-Name, fold-Not, fold-Xor, fold-And, fold-Or}

module _ (to : List ℕ) where
  with_tree : {l : Rule} {s rest : List Symbol} {f g : Node} → g ≡ f → Takes l s f rest → Takes l s g rest
  with_tree {l} {s} {rest} e t = subst (λ f. Takes l s f rest) (sym e) t

  renamed_takes : {l : Rule} {s rest : List Symbol} {f : Node} → Takes l s f rest
      → Takes l (map (renamed_symbol to) s) (renamed_by to f) (map (renamed_symbol to) rest)
  renamed_takes Takes.name = with_tree (fold-Name Node (renamed_step to) _) Takes.name
  renamed_takes Takes.zero = with_tree (fold-Zero Node (renamed_step to)) Takes.zero
  renamed_takes Takes.one = with_tree (fold-One Node (renamed_step to)) Takes.one
  renamed_takes (Takes.group t) = Takes.group (renamed_takes t)
  renamed_takes (Takes.quote t) = with_tree (fold-Not Node (renamed_step to) _) (Takes.quote (renamed_takes t))
  renamed_takes (Takes.post t) = Takes.post (renamed_takes t)
  renamed_takes (Takes.bang t) = with_tree (fold-Not Node (renamed_step to) _) (Takes.bang (renamed_takes t))
  renamed_takes (Takes.not t) = Takes.not (renamed_takes t)
  renamed_takes (Takes.caret t u) =
      with_tree (fold-Xor Node (renamed_step to) _ _) (Takes.caret (renamed_takes t) (renamed_takes u))
  renamed_takes (Takes.xor t) = Takes.xor (renamed_takes t)
  renamed_takes (Takes.times t u) =
      with_tree (fold-And Node (renamed_step to) _ _) (Takes.times (renamed_takes t) (renamed_takes u))
  renamed_takes (Takes.beside t u) =
      with_tree (fold-And Node (renamed_step to) _ _) (Takes.beside (renamed_takes t) (renamed_takes u))
  renamed_takes (Takes.and t) = Takes.and (renamed_takes t)
  renamed_takes (Takes.plus t u) = with_tree (fold-Or Node (renamed_step to) _ _) (Takes.plus (renamed_takes t) (renamed_takes u))

  pub renamed_text : (s : List Symbol) (f : Node) → IsText s f → IsText (map (renamed_symbol to) s) (renamed_by to f)
  renamed_text s f t = renamed_takes t
