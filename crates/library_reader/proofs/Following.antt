-- Going over the items of a library one after another.
use Rattle.std.proofs.Common.{◌≡◌, ℕ, ◌+◌, ◌≤◌, Bool, true, false, List, [], ◌∷◌, ◌++◌, reverse, take, drop, length}
use Rattle.std.proofs.Common.{length-append, Option, Some, None, Result, Ok, Err, ◌⊎◌, inl, inr, refl, sym, ap, subst, ◌∙◌}
use Rattle.std.proofs.Common.{append_assoc}
use Rattle.std.proofs.Common.{arith}
use Rattle.std.proofs.lemmas.List.{append-nil, length-take}
use Rattle.std.specs.Option.{option_map}
use Rattle.text_io.specs.declared.slots.InSlot.TheVariants.{Library}
use Rattle.text_io.specs.Desk.{DeskState, Rose, StopsWithCause}
use Rattle.cell_cursor.specs.declared.item.LibraryItem.{LibraryItem}
use Rattle.cell_cursor.specs.declared.item.LibraryItem.TheVariants as item
use Rattle.cell_cursor.specs.declared.cursor.Answer.{Answer}
use Rattle.cell_cursor.specs.declared.cursor.Answer.TheVariants as answer
use Rattle.cell_cursor.specs.declared.cursor.CellCursor.{CellCursor}
use Rattle.cell_cursor.specs.declared.item.Next.{Next}
use Rattle.cell_cursor.specs.declared.item.Next.TheVariants as nexts
use Rattle.cell_cursor.specs.Ends.{items_within, end_within}
use Rattle.cell_cursor.specs.Stands.{Knows, Stands, Moves, IsAnswered, answered, is_ended, is_going}
use Rattle.liberty_groups.specs.declared.read.End.{End}
use Rattle.liberty_groups.specs.declared.read.End.TheVariants as ends
use Rattle.cell_cursor.proofs.StandsLemmas.{first_of_going}
use Rattle.cell_cursor.proofs.Ascending.{items_few}
use Rattle.cell_attributes.specs.Groups.{cell_name}
use Rattle.library_reader.specs.declared.progress.Progress.{Progress}
use Rattle.library_reader.specs.declared.ending.Ending.{Ending}
use Rattle.text_io.specs.declared.stop.Stop.{Stop}
use Rattle.text_io.specs.declared.stop.Stop.TheVariants as stops
use Rattle.library_reader.specs.Progress.{next_refusal, entity_by, after_cell, after_item, progress_after}
use Rattle.library_reader.specs.Endings.{ending_by, ending_of}
use Rattle.library_reader.specs.Steps.{IsAtEnd}
use Rattle.library_reader.specs.Reached.{IsFront, Follows}
use Rattle.library_reader.proofs.Fronts.{front-nil, front_moved, left-zero, left_moved, still_ended, rest_of, nothing_more}

-- What counts.

-- how many cells are counted
cell_counted : (p : Progress) (name : List ℕ) (entity : Option (List ℕ))
    → (after_cell p name entity).accepted + (after_cell p name entity).refused ≤ p.accepted + p.refused + 1
cell_counted p name (Some entity) = omega arith
cell_counted p name None = omega arith

item_counted : (p : Progress) (x : LibraryItem)
    → (after_item p x).accepted + (after_item p x).refused ≤ p.accepted + p.refused + 1
item_counted p (item.Cell group) = cell_counted p (cell_name group) (entity_by p group (next_refusal p group))
item_counted p (item.Unit line) = omega arith
item_counted p (item.LeftOut at) = omega arith
item_counted p (item.BusType group) = omega arith

pub room_kept : (p q : Progress) (x : LibraryItem) (turn : ℕ) → q ≡ after_item p x → p.accepted + p.refused ≤ turn
    → q.accepted + q.refused ≤ turn + 1
room_kept p q x turn e h = rw e (omega (arith, item_counted p x))

progress_after-append : (p : Progress) (xs ys : List LibraryItem)
    → progress_after p (xs ++ ys) ≡ progress_after (progress_after p xs) ys
progress_after-append p [] ys = refl
progress_after-append p (x ∷ xs) ys = progress_after-append (after_item p x) xs ys

-- one item more
pub progress_after-more : (p q r : Progress) (xs : List LibraryItem) (x : LibraryItem) → q ≡ progress_after p xs
    → r ≡ after_item q x
    → r ≡ progress_after p (xs ++ x ∷ [])
progress_after-more p q r xs x e f = f ∙ ap (λ s. after_item s x) e ∙ sym (progress_after-append p xs (x ∷ []))

-- What the cursor knows.

going_or : (o : Option Answer) → (is_going o ≡ true) ⊎ (is_going o ≡ false)
going_or None = inl refl
going_or (Some a) = inr refl

-- a step that comes to the end leaves nothing
pub ends_on : (c d : CellCursor) (before after : DeskState) (given : List LibraryItem) → Moves c d before after given
    → (is_going c.answer ≡ false → d.answer ≡ c.answer) → IsAtEnd c before → IsAtEnd d after
ends_on c d before after given m kept h =
    elim (going_or c.answer) [
      | inl going ↦ (λ ended. m.ended going ended)
      | inr not_going ↦ (λ ended. still_ended before after (length m.taken) m.takes.state
          (h (ap is_ended (sym (kept not_going)) ∙ ended)))
    ]

-- what is known of all the bytes of a library that begins with those that were taken
first_known : (o : Option Answer) (c : CellCursor) (bytes more : List ℕ) (items : List LibraryItem) → Knows o c bytes items
    → (is_ended o ≡ true → more ≡ []) → (others : List LibraryItem) × (items ++ others ≡ items_within c.limit (bytes ++ more))
first_known None c bytes more items k ended = first_of_going c bytes items c.limit refl k more
first_known (Some answer.Over) c bytes more items k ended = ([], append-nil items ∙ (k more).items_are)
first_known (Some answer.End) c bytes more items k ended =
    let none = ended refl in
    ([], append-nil items ∙ k.items_are ∙ ap (items_within c.limit) (sym (ap (λ t. bytes ++ t) none ∙ append-nil bytes)))
first_known (Some (answer.Refused f)) c bytes more items k ended = ([], append-nil items ∙ (k more).items_are)
first_known (Some (answer.Fault f)) c bytes more items k ended =
    let none = ended refl in
    ([], append-nil items ∙ k.items_are ∙ ap (items_within c.limit) (sym (ap (λ t. bytes ++ t) none ∙ append-nil bytes)))
first_known (Some (answer.Stopped stop)) c bytes more items k ended = k more

-- these items are the first ones of the library
first_items : (limit : ℕ) (left : Option (List ℕ)) (now : DeskState) (taken : List ℕ) (items : List LibraryItem) (c : CellCursor)
    (all : List ℕ)
    → Stands c taken items → c.limit ≡ limit → IsAtEnd c now → now.left Library ≡ option_map (drop (length taken)) left
    → IsFront left taken → left ≡ Some all → (others : List LibraryItem) × (items ++ others ≡ items_within limit all)
first_items limit left now taken items c all stands at_limit at_end rest told e =
    let front = rw e at told in
    let ended : is_ended c.answer ≡ true
    → drop (length taken) all ≡ [] = λ is. nothing_more left taken all e (rw rest at (at_end is)) in
    let known = first_known c.answer c taken (drop (length taken) all) (items ++ reverse c.waiting.items) stands.known ended in (
      reverse c.waiting.items ++ known.0,
      sym (append_assoc items (reverse c.waiting.items) known.0) ∙ known.1
          ∙ ap (items_within c.limit) (rest_of taken all front.0) ∙ ap (λ n. items_within n all) at_limit,
    )

-- the end that a settled cursor tells is that of its answer
told_end : (e f : End) → ◌≡◌ {A = Result Next Stop} (Ok (nexts.Ended e)) (Ok (nexts.Ended f)) → e ≡ f
told_end e f t = cc

-- what an answer tells of the whole library
end_known : (a : Answer) (c : CellCursor) (bytes more : List ℕ) (items : List LibraryItem) (e : End)
    → Knows (Some a) c bytes items
    → (is_ended (Some a) ≡ true → more ≡ []) → ◌≡◌ {A = Result Next Stop} (Ok (nexts.Ended e)) (answered a)
    → (items ≡ items_within c.limit (bytes ++ more)) × (e ≡ end_within c.limit (bytes ++ more))
end_known answer.Over c bytes more items e k ended t =
    let known = k more in (known.items_are, told_end e ends.Cut t ∙ sym known.end_is)
end_known answer.End c bytes more items e k ended t =
    let same : bytes ≡ bytes ++ more = sym (ap (λ u. bytes ++ u) (ended refl) ∙ append-nil bytes) in (
      k.items_are ∙ ap (items_within c.limit) same,
      told_end e ends.Whole t ∙ sym k.end_is ∙ ap (end_within c.limit) same,
    )
end_known (answer.Refused f) c bytes more items e k ended t =
    let known = k more in (known.items_are, told_end e (ends.Fault f) t ∙ sym known.end_is)
end_known (answer.Fault f) c bytes more items e k ended t =
    let same : bytes ≡ bytes ++ more = sym (ap (λ u. bytes ++ u) (ended refl) ∙ append-nil bytes) in (
      k.items_are ∙ ap (items_within c.limit) same,
      told_end e (ends.Fault f) t ∙ sym k.end_is ∙ ap (end_within c.limit) same,
    )
end_known (answer.Stopped stop) c bytes more items e k ended t =
    absurd (let s : ◌≡◌ {A = Result Next Stop} (Ok (nexts.Ended e)) (Err stop) = t in cc)

end_stands : (d : CellCursor) (bytes more : List ℕ) (items : List LibraryItem) (e : End) → Stands d bytes (items ++ [])
    → IsAnswered d (Ok (nexts.Ended e))
    → (is_ended d.answer ≡ true → more ≡ [])
    → (items ≡ items_within d.limit (bytes ++ more)) × (e ≡ end_within d.limit (bytes ++ more))
end_stands d bytes more items e h (a, at, told) ended =
    let settled : Knows (Some a) d bytes ((items ++ []) ++ reverse d.waiting.items) =
    subst (λ o. Knows o d bytes ((items ++ []) ++ reverse d.waiting.items)) at.settled h.known in
    let none_waits : Knows (Some a) d bytes ((items ++ []) ++ []) =
    subst (λ (waiting : List LibraryItem). Knows (Some a) d bytes ((items ++ []) ++ reverse waiting)) at.none_waits settled in
    let known : Knows (Some a) d bytes items =
    subst (λ all. Knows (Some a) d bytes all) (append-nil (items ++ []) ∙ append-nil items) none_waits in
    end_known a d bytes more items e known (λ is. ended (ap is_ended at.settled ∙ is)) told

-- at the end these are all of them
all_items : (limit : ℕ) (left : Option (List ℕ)) (desk : DeskState) (taken : List ℕ) (items : List LibraryItem) (d : CellCursor)
    (e : End) (all : List ℕ)
    → Stands d taken (items ++ []) → d.limit ≡ limit → IsAtEnd d desk → desk.left Library ≡ option_map (drop (length taken)) left
    → IsFront left taken → IsAnswered d (Ok (nexts.Ended e)) → left ≡ Some all
    → (items ≡ items_within limit all) × (ending_by e ≡ ending_of limit all)
all_items limit left desk taken items d e all stands at_limit at_end rest told t is =
    let front = rw is at told in
    let after_all : is_ended d.answer ≡ true
    → drop (length taken) all ≡ [] = λ ended. nothing_more left taken all is (rw rest at (at_end ended)) in
    let known = end_stands d taken (drop (length taken) all) items e stands t after_all in
    let whole = rest_of taken all front.0 in (
      known.0 ∙ ap (items_within d.limit) whole ∙ ap (λ n. items_within n all) at_limit,
      ap ending_by (known.1 ∙ ap (end_within d.limit) whole ∙ ap (λ n. end_within n all) at_limit),
    )

-- The steps.

-- before the first item
unfoldable pub follows_start : (limit : ℕ) (base : DeskState) (p : Progress) (c : CellCursor) → c.limit ≡ limit → Stands c [] []
    → c.answer ≡ None
    → Follows limit (base.left Library) base p p c
follows_start limit base p c l h e = record {
  taken = [];
  items = [];
  stands = h;
  limit_is = l;
  at_end = λ ended. let going = rw e at ended in cc;
  told = front-nil (base.left Library);
  rest = sym (left-zero (base.left Library));
  progress = refl;
}

-- after one more item, with which nothing more was read
unfoldable pub follows_next : (limit : ℕ) (left : Option (List ℕ)) (now next new : DeskState) (p q r : Progress)
    (c d : CellCursor) (x : LibraryItem)
    → Follows limit left now p q c → Moves c d now next (x ∷ []) → (IsAtEnd c now → IsAtEnd d next)
    → new.left Library ≡ next.left Library → r ≡ after_item q x
    → Follows limit left new p r d
follows_next limit left now next new p q r c d x h m a same e = record {
  taken = h.taken ++ m.taken;
  items = h.items ++ x ∷ [];
  stands = m.stands h.taken h.items h.stands;
  limit_is = m.limit ∙ h.limit_is;
  at_end = λ ended. rw same (a h.at_end ended);
  told = front_moved left now next h.taken m.taken h.rest h.told m.takes;
  rest = same ∙ left_moved left now next h.taken m.taken h.rest m.takes;
  progress = progress_after-more p q r h.items x h.progress e;
}

-- the items that were given are the first ones of the library
pub first_given : (limit : ℕ) (left : Option (List ℕ)) (now : DeskState) (p q : Progress) (c : CellCursor) (all : List ℕ)
    (h : Follows limit left now p q c)
    → left ≡ Some all → (others : List LibraryItem) × (h.items ++ others ≡ items_within limit all)
first_given limit left now p q c all h e =
    first_items limit left now h.taken h.items c all h.stands h.limit_is h.at_end h.rest h.told e

-- the item that comes next is the next one of the library
pub next_given : (limit : ℕ) (left : Option (List ℕ)) (now next : DeskState) (p q : Progress) (c d : CellCursor) (x : LibraryItem)
    (all : List ℕ)
    (h : Follows limit left now p q c) → Moves c d now next (x ∷ []) → (IsAtEnd c now → IsAtEnd d next) → left ≡ Some all
    → (others : List LibraryItem) × ((h.items ++ x ∷ []) ++ others ≡ items_within limit all)
next_given limit left now next p q c d x all h m a e =
    first_items limit left next (h.taken ++ m.taken) (h.items ++ x ∷ []) d all (m.stands h.taken h.items h.stands)
    (m.limit ∙ h.limit_is) (a h.at_end) (left_moved left now next h.taken m.taken h.rest m.takes)
    (front_moved left now next h.taken m.taken h.rest h.told m.takes) e

-- at the end these are all the items, and the end is that of the library
pub all_given : (limit : ℕ) (left : Option (List ℕ)) (now after : DeskState) (p q : Progress) (c d : CellCursor) (e : End)
    (all : List ℕ)
    (h : Follows limit left now p q c) → Moves c d now after [] → (IsAtEnd c now → IsAtEnd d after) → IsAnswered d (Ok (nexts.Ended e))
    → left ≡ Some all → (h.items ≡ items_within limit all) × (ending_by e ≡ ending_of limit all)
all_given limit left now after p q c d e all h m a t is =
    all_items limit left after (h.taken ++ m.taken) h.items d e all (m.stands h.taken h.items h.stands)
    (m.limit ∙ h.limit_is) (a h.at_end) (left_moved left now after h.taken m.taken h.rest m.takes)
    (front_moved left now after h.taken m.taken h.rest h.told m.takes) t is

-- No more items were given than the limit has bytes: each has a byte of its own.
pub few_given : (limit : ℕ) (left : Option (List ℕ)) (now : DeskState) (p q : Progress) (c : CellCursor)
    (h : Follows limit left now p q c) → length h.items ≤ limit
unfolding items_within
few_given limit left now p q c h =
    let all = h.items ++ reverse c.waiting.items in
    let known = first_known c.answer c h.taken [] all h.stands.known (λ ended. refl) in
    let few = items_few (take c.limit (h.taken ++ [])) in
    let short = length-take c.limit (h.taken ++ []) in
    let first = length-append h.items (reverse c.waiting.items) in
    let parts = length-append all known.0 in
    let same = ap length known.1 in
    omega (arith, few, short, first, parts, same, h.limit_is)

-- where a read failed in a step, and none before it
pub failed_now : (first old new : ℕ) (failed : Bool) → old ≡ first → failed ≡ false → (failed ≡ true) ⊎ Rose old new
    → Rose first new
failed_now first old new failed same not w =
    elim w [ inl was ↦ absurd (let h : false ≡ true = sym not ∙ was in cc) | inr rose ↦ omega (arith, same, rose) ]

-- a command that stops at a step, before which no fault was counted
pub stops_at_step : (first old new : ℕ) (failed : Bool) (stop : Stop) → old ≡ first → failed ≡ false → old ≤ new →
    (stop ≡ stops.Memory → failed ≡ false → new ≡ old) → (stop ≡ stops.Failed → (failed ≡ true) ⊎ Rose old new)
    → StopsWithCause {T = Ending} first new (Err stop)
stops_at_step first old new failed stop same not later memory rises = record {
  later = omega arith;
  kept = λ e. memory e not ∙ same;
  failed = λ e. failed_now first old new failed same not (rises e);
}
