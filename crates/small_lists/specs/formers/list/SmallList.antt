-- `SmallList` as a type that may hold the type that holds it.
use Rattle.std.specs.Prelude.{ℕ}
use mathlib.Core.Path.{◌≡◌, refl, sym}
use mathlib.Core.List.{List, [], map}
use mathlib.Core.Logic.{inl, inr}
use mathlib.Core.Former.{Former, this, const, or, list, via, children}
use base.Stored.{code_map}
use denote.RattleType.{RattleType}
use denote.Array.{Array}
use denote.HoleLaws.{Alike}
use denote.HolePlaces.{Mapss, Recodes, struct_places, enum_places, eachs, laid, Array-places}
use denote.Hole.Carrier.{listed, list-listed}
use denote.Hole.Fix.{over}
use denote.Param.Weighed.{Weighed, w_list}
use denote.Model.Placed.{held, view_places}
use Rattle.sqlite_items.specs.formers.boxed.Boxed as boxed
use Rattle.sqlite_items.specs.formers.items.Items as items
use Rattle.sqlite_items.specs.contracts.boxed.Boxed as box_of
use Rattle.sqlite_items.specs.contracts.items.Items as list_of
use Rattle.small_lists.specs.declared.list.Held.{Held}
use Rattle.small_lists.specs.declared.list.Held.TheVariants.{Nothing, One, Two, Three, Four, Five, Six, Seven, Eight, Many}
use Rattle.small_lists.specs.declared.list.SmallList.TheInside.{Inside}
use Rattle.small_lists.specs.declared.list.SmallList.TheView.{view, invariant}
use Rattle.small_lists.specs.contracts.list.Held as H
use Rattle.small_lists.specs.contracts.list.SmallList as C
use Rattle.small_lists.specs.contracts.list.SmallList.TheInside as I

abbrev pub the_former : Former {0} → Former {0}
the_former g = list g

abbrev pub the_weighed : {g : Former {0}} → Weighed g → Weighed (the_former g)
the_weighed w = w_list w

pub the_empty : List ⊥
the_empty = []

abbrev pub the_items : (X : Type 0) → List X → List X
the_items X d = d

pub the_items_listed : (X : Type 0) (d : List X) → listed _ (children (the_former this) X d) ≡ the_items X d
the_items_listed X d = list-listed X d

abbrev Cases : Former {0}
Cases = or (const (Unit {0})) (or (list this) (or (list this) (or (list this) (or (list this) (or (list this) (or (list this) (or (list this) (or (list this) (list this)))))))))

module _ (X : Type 0) where
  abbrev split : Held X → Cases.Of X
  split Nothing = inl tt
  split (One xs) = inr (inl xs)
  split (Two xs) = inr (inr (inl xs))
  split (Three xs) = inr (inr (inr (inl xs)))
  split (Four xs) = inr (inr (inr (inr (inl xs))))
  split (Five xs) = inr (inr (inr (inr (inr (inl xs)))))
  split (Six xs) = inr (inr (inr (inr (inr (inr (inl xs))))))
  split (Seven xs) = inr (inr (inr (inr (inr (inr (inr (inl xs)))))))
  split (Eight xs) = inr (inr (inr (inr (inr (inr (inr (inr (inl xs))))))))
  split (Many xs) = inr (inr (inr (inr (inr (inr (inr (inr (inr xs))))))))

  abbrev join : Cases.Of X → Held X
  join (inl u) = Nothing
  join (inr (inl xs)) = One xs
  join (inr (inr (inl xs))) = Two xs
  join (inr (inr (inr (inl xs)))) = Three xs
  join (inr (inr (inr (inr (inl xs))))) = Four xs
  join (inr (inr (inr (inr (inr (inl xs)))))) = Five xs
  join (inr (inr (inr (inr (inr (inr (inl xs))))))) = Six xs
  join (inr (inr (inr (inr (inr (inr (inr (inl xs)))))))) = Seven xs
  join (inr (inr (inr (inr (inr (inr (inr (inr (inl xs))))))))) = Eight xs
  join (inr (inr (inr (inr (inr (inr (inr (inr (inr xs))))))))) = Many xs

  join-split : (h : Held X) → join (split h) ≡ h
  join-split Nothing = refl
  join-split (One xs) = refl
  join-split (Two xs) = refl
  join-split (Three xs) = refl
  join-split (Four xs) = refl
  join-split (Five xs) = refl
  join-split (Six xs) = refl
  join-split (Seven xs) = refl
  join-split (Eight xs) = refl
  join-split (Many xs) = refl

  split-join : (c : Cases.Of X) → split (join c) ≡ c
  split-join (inl u) = refl
  split-join (inr (inl xs)) = refl
  split-join (inr (inr (inl xs))) = refl
  split-join (inr (inr (inr (inl xs)))) = refl
  split-join (inr (inr (inr (inr (inl xs))))) = refl
  split-join (inr (inr (inr (inr (inr (inl xs)))))) = refl
  split-join (inr (inr (inr (inr (inr (inr (inl xs))))))) = refl
  split-join (inr (inr (inr (inr (inr (inr (inr (inl xs)))))))) = refl
  split-join (inr (inr (inr (inr (inr (inr (inr (inr (inl xs))))))))) = refl
  split-join (inr (inr (inr (inr (inr (inr (inr (inr (inr xs))))))))) = refl

abbrev cases : Former {0}
cases = via Cases Held split join join-split split-join

abbrev fields : Former {0}
fields = via cases Inside (λ X a. a.held) (λ X v. record { held = v }) (λ X a. refl) (λ X v. refl)

abbrev with_held : {X : Type 0} → Held X → Inside X
with_held h = record { held = h }

keeps : (X : Type 0) (h : Held X) → held (the_former this) X (view X (with_held h)) ≡ held fields X (with_held h)
keeps X Nothing = refl
keeps X (One xs) = refl
keeps X (Two xs) = refl
keeps X (Three xs) = refl
keeps X (Four xs) = refl
keeps X (Five xs) = refl
keeps X (Six xs) = refl
keeps X (Seven xs) = refl
keeps X (Eight xs) = refl
keeps X (Many xs) = refl

natural : (X Y : Type 0) (k : X → Y) (h : Held X) → view Y (fields.map X Y k (with_held h)) ≡ map k (view X (with_held h))
natural X Y k Nothing = refl
natural X Y k (One xs) = refl
natural X Y k (Two xs) = refl
natural X Y k (Three xs) = refl
natural X Y k (Four xs) = refl
natural X Y k (Five xs) = refl
natural X Y k (Six xs) = refl
natural X Y k (Seven xs) = refl
natural X Y k (Eight xs) = refl
natural X Y k (Many xs) = refl

module _ (R S : RattleType) (h : R.Denot → S.Denot) where
  abbrev maps : Mapss (H.enum R).parts (H.enum S).parts
  maps = (tt, ((map h, tt), ((map h, tt), ((map h, tt), ((map h, tt), ((map h, tt), ((map h, tt), ((map h, tt), ((map h, tt), ((map h, tt), tt))))))))))

  variant : (c : Held R.Denot)
      → (H.enum S).as_values (cases.map R.Denot S.Denot h c) ≡ eachs (H.enum R).parts (H.enum S).parts maps ((H.enum R).as_values c)
  variant Nothing = refl
  variant (One xs) = refl
  variant (Two xs) = refl
  variant (Three xs) = refl
  variant (Four xs) = refl
  variant (Five xs) = refl
  variant (Six xs) = refl
  variant (Seven xs) = refl
  variant (Eight xs) = refl
  variant (Many xs) = refl

  in_block : Alike R S h → (n : ℕ) → Alike (box_of.the_row (Array R n)) (box_of.the_row (Array S n)) (map h)
  in_block a n = boxed.the_places (Array R n) (Array S n) (map h) (Array-places R S h a n)

  held_places : Alike R S h → Alike (H.the_row R) (H.the_row S) (cases.map R.Denot S.Denot h)
  held_places a = enum_places (H.enum R) (H.enum S) maps (cases.map R.Denot S.Denot h) variant refl (
    tt,
    (
      (laid _ _ _ (in_block a 1), tt),
      (
        (laid _ _ _ (in_block a 2), tt),
        (
          (laid _ _ _ (in_block a 3), tt),
          (
            (laid _ _ _ (in_block a 4), tt),
            (
              (laid _ _ _ (in_block a 5), tt),
              (
                (laid _ _ _ (in_block a 6), tt),
                (
                  (laid _ _ _ (in_block a 7), tt),
                  (
                    (laid _ _ _ (in_block a 8), tt),
                    ((laid _ _ _ (boxed.the_places (list_of.the_row R) (list_of.the_row S) (map h) (items.the_places R S h a)), tt), tt),
                  ),
                ),
              ),
            ),
          ),
        ),
      ),
    ),
  )

  pub the_places : Alike R S h → Alike (C.the_row R) (C.the_row S) ((the_former this).map R.Denot S.Denot h)
  the_places a = view_places fields (list this) view (λ X Y k u. natural X Y k u.held) (λ X u. keeps X u.held) R.Denot S.Denot h (C.the_row R).coded (C.the_row S).coded
      (invariant R.Denot) (invariant S.Denot) (λ u p q. refl) (λ u p q. refl) (λ u e. tt) (λ u e. tt)
      (over (I.the_row R)) (over (I.the_row S))
      (struct_places (I.the_type R) (I.the_type S) (cases.map R.Denot S.Denot h, tt) _ (λ d. refl) refl (laid _ _ _ (held_places a), tt))

  pub the_codes_placed : Recodes R S h → Recodes (C.the_row R) (C.the_row S) ((the_former this).map R.Denot S.Denot h)
  the_codes_placed e d = sym (code_map R.coded.code S.coded.code h (λ x. sym (e x)) d)
