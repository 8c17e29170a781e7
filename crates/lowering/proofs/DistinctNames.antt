-- No two temporaries that the walk makes have one name, wherever they are made: not in one rewriting, where the positions in the names
-- differ, nor in two, where the paths do. So it is also where one key is copied and both copies are walked.
-- Assumes nothing.
use mathlib.Core.Path.{◌≡◌, refl, sym, ap, ◌∙◌, subst}
use mathlib.Core.Bool.{Bool, cond}
use mathlib.Core.List.{List, [], ◌∷◌, ◌++◌}
use Prim.Native.Nat.{ℕ, zero, suc, ◌+◌, ◌≤◌, ◌<◌}
use native.Mathlib.Omega.{arith}
use lib.ListN.{length, length-append}
use Rattle.tree.specs.Tree.{Node, Fields, Piece, Items}
use Rattle.tree.specs.Tree.Node.{node}
use Rattle.lowering.specs.Parts.{same_numbers, ◌+++◌}
use Rattle.lowering.specs.Made.{Context}
use Rattle.lowering.specs.Walk.{Note, Walked, each_item_of, each_piece, each_field, inside, rewrite, within, walk}
use Rattle.lowering.specs.Weight.{weight, walked}
use Rattle.lowering.specs.Collect.{Visit, new_in, new_in_piece, is_container, mark_of, marked, visits, visits_fields, visits_piece, visits_items, made_in_of, Name}
use Rattle.lowering.specs.Answer.{top}
use Rattle.tree.specs.Grammar.Stage.{input}
use Rattle.tree.specs.Read.{read_tree}
use Rattle.tree.specs.Read.Got.{got}
use Rattle.lowering.proofs.All.{AllItems, AllPiece, AllFields, Each}
use Rattle.lowering.proofs.Cases.{by_test}
use Rattle.lowering.proofs.Accepted.{accepted_sites}
use Rattle.lowering.proofs.Appearance.{same_numbers_lem}
use Rattle.lowering.proofs.Sites.{sites, AtMost}
use Rattle.lowering.proofs.SiteRules.{kept}
use Rattle.lowering.proofs.MadeAtSites.{times, times_append, makes_once}
use Rattle.lowering.proofs.Paths.{made_from, not_made}
use Rattle.lowering.proofs.ItemLaws.{items_assoc}

-- ---- paths

-- q goes through the node at p: the nodes nearest to the root come last
pub record Under (p q : List ℕ) : Type 0 where
  pub below : List ℕ
  pub whole : q ≡ below ++ p

tail_same : (r s p q : List ℕ) → length p ≡ length q → r ++ p ≡ s ++ q → p ≡ q
tail_same [] [] p q l e = e
tail_same [] (b ∷ s) p q l e = let m = ap length e in let n = length-append s q in absurd (omega arith)
tail_same (a ∷ r) [] p q l e = let m = ap length e in let n = length-append r p in absurd (omega arith)
tail_same (a ∷ r) (b ∷ s) p q l e = let z : r ++ p ≡ s ++ q = cc in tail_same r s p q l z

-- which part of a node a path goes through is told by the path
one_part : (p q : List ℕ) (i j k l : ℕ) → Under (j ∷ i ∷ p) q → Under (l ∷ k ∷ p) q → (i ≡ k) × (j ≡ l)
one_part p q i j k l u v =
    let e = tail_same u.below v.below (j ∷ i ∷ p) (l ∷ k ∷ p) refl (sym u.whole ∙ v.whole) in
    (cc, cc)

not_itself : (p q : List ℕ) (i j : ℕ) → q ≡ p → Under (j ∷ i ∷ p) q → ⊥
not_itself p q i j e u =
    let m = ap length (sym e ∙ u.whole) in
    let n = length-append u.below (j ∷ i ∷ p) in
    omega arith

through : (p q : List ℕ) (i j : ℕ) → Under (j ∷ i ∷ p) q → Under p q
through p q i j u = record { below = u.below ++ (j ∷ i ∷ []); whole = u.whole ∙ step u.below }
  where
    step : (r : List ℕ) → r ++ (j ∷ i ∷ p) ≡ (r ++ (j ∷ i ∷ [])) ++ p
    step [] = refl
    step (a ∷ r) = ap (λ (x : List ℕ). a ∷ x) (step r)

-- ---- a number of finds, one at most, and where

pub record Once (t : ℕ) (Where : Type 0) : Type 0 where
  pub most : t ≤ 1
  pub found : 0 < t → Where

never : {A : Type 0} → Once 0 A
never = record { most = omega arith; found = λ h. absurd (omega arith) }

sum_most : (s t : ℕ) → s ≤ 1 → t ≤ 1 → (0 < s → 0 < t → ⊥) → s + t ≤ 1
sum_most zero t h k apart = omega arith
sum_most (suc s) zero h k apart = omega arith
sum_most (suc s) (suc t) h k apart = absurd (apart (omega arith) (omega arith))

sum_found : {C : Type 0} (s t : ℕ) → (0 < s → C) → (0 < t → C) → 0 < s + t → C
sum_found zero t f g h = g (omega arith)
sum_found (suc s) t f g h = f (omega arith)

join : {A B C : Type 0} (s t : ℕ) → Once s A → Once t B → (A → B → ⊥) → (A → C) → (B → C) → Once (s + t) C
join s t u v apart f g =
    record {
      most = sum_most s t u.most v.most (λ h k. apart (u.found h) (v.found k));
      found = sum_found s t (λ h. f (u.found h)) (λ k. g (v.found k));
    }

once_as : {A : Type 0} (s t : ℕ) → s ≡ t → Once t A → Once s A
once_as {A} s t e o = subst (λ (m : ℕ). Once m A) (sym e) o

-- ---- the walk

module _ (a : Name) where
  -- how often the name is made in visits
  abbrev pub total : List Visit → ℕ
  total vs = times a (made_in_of vs)

  made_append : (us vs : List Visit) → made_in_of (us ++ vs) ≡ made_in_of us +++ made_in_of vs
  unfolding made_in_of ◌+++◌
  made_append [] vs = refl
  made_append (u ∷ us) vs = ap (λ (x : Items). u.note.made +++ x) (made_append us vs) ∙ sym (items_assoc u.note.made (made_in_of us) (made_in_of vs))

  pub total_append : (us vs : List Visit) → total (us ++ vs) ≡ total us + total vs
  total_append us vs = ap (times a) (made_append us vs) ∙ times_append a (made_in_of us) (made_in_of vs)

  module _ (p : List ℕ) where
    -- the path goes through an item, from one on, of a field; through a field, from one on
    record InItems (i first : ℕ) : Type 0 where
      j : ℕ
      after : first ≤ j
      under : Under (j ∷ i ∷ p) a.path

    record InFields (first : ℕ) : Type 0 where
      i : ℕ
      j : ℕ
      after : first ≤ i
      under : Under (j ∷ i ∷ p) a.path

    module _ (w : ℕ → ℕ → Node → Walked)
        (part : (i j : ℕ) (n : Node) → sites a.place n ≤ 1 → (next m : ℕ) → Once (total (visits next m (w i j n))) (Under (j ∷ i ∷ p) a.path)) where
      items_once : (i : ℕ) (is : Items) (j : ℕ) (l : Bool) (next m : ℕ) → AllItems (AtMost a.place 1) is
          → Once (total (visits_items l next m (each_item_of (w i) j is))) (InItems i j)
      unfolding each_item_of visits made_in_of times
      items_once i Items.none j l next m h = never
      items_once i (Items.hole is) j l next m h =
          let o = items_once i is (suc j) l next m h in
          record { most = o.most; found = λ z. let f = o.found z in record { j = f.j; after = (let g = f.after in omega arith); under = f.under } }
      items_once i (Items.item n is) j l next m h =
          let here = visits next (cond l (marked next (mark_of (w i j n))) m) (w i j n) in
          let there = visits_items l (next + new_in (w i j n)) m (each_item_of (w i) (suc j) is) in
          once_as (total (here ++ there)) (total here + total there) (total_append here there)
          (join (total here) (total there)
          (part i j n h.0 next (cond l (marked next (mark_of (w i j n))) m))
          (items_once i is (suc j) l (next + new_in (w i j n)) m h.1)
          (λ u v. let e : j ≡ v.j = (one_part p a.path i j i v.j u v.under).1 in let g = v.after in omega arith)
          (λ u. record { j = j; after = omega arith; under = u })
          (λ v. record { j = v.j; after = (let g = v.after in omega arith); under = v.under }))

      piece_once : (i : ℕ) (q : Piece) (l : Bool) (next m : ℕ) → AllPiece (AtMost a.place 1) q
          → Once (total (visits_piece l next m (each_piece (w i) q))) (InItems i 0)
      unfolding each_piece visits made_in_of times
      piece_once i (Piece.one n) l next m h =
          let o = part i 0 n h next m in
          record { most = o.most; found = λ z. record { j = 0; after = omega arith; under = o.found z } }
      piece_once i (Piece.list is) l next m h = items_once i is 0 l next m h
      piece_once i (Piece.text bs) l next m h = never
      piece_once i (Piece.byte b) l next m h = never
      piece_once i (Piece.mark b) l next m h = never
      piece_once i (Piece.number b) l next m h = never

      fields_once : (fs : Fields) (i : ℕ) (l : Bool) (next m : ℕ) → AllFields (AtMost a.place 1) fs
          → Once (total (visits_fields l next m (each_field w i fs))) (InFields i)
      unfolding each_field visits made_in_of times
      fields_once Fields.done i l next m h = never
      fields_once (Fields.absent fs) i l next m h =
          let o = fields_once fs (suc i) l next m h in
          record { most = o.most; found = λ z. let f = o.found z in record { i = f.i; j = f.j; after = (let g = f.after in omega arith); under = f.under } }
      fields_once (Fields.field q fs) i l next m h =
          let here = visits_piece l next m (each_piece (w i) q) in
          let there = visits_fields l (next + new_in_piece (each_piece (w i) q)) m (each_field w (suc i) fs) in
          once_as (total (here ++ there)) (total here + total there) (total_append here there)
          (join (total here) (total there)
          (piece_once i q l next m h.0)
          (fields_once fs (suc i) l (next + new_in_piece (each_piece (w i) q)) m h.1)
          (λ u v. let e : i ≡ v.i = (one_part p a.path i u.j v.i v.j u.under v.under).0 in let g = v.after in omega arith)
          (λ u. record { i = i; j = u.j; after = omega arith; under = u.under })
          (λ v. record { i = v.i; j = v.j; after = (let g = v.after in omega arith); under = v.under }))

      -- what is made at a node, whose note makes the name once at most and only with its own path, and what is made below it
      node_once : (note : Note) (n : Node) (next m : ℕ) → Once (times a note.made) (a.path ≡ p) → Each (AtMost a.place 1) n
          → Once (total (visits next m (inside note w n))) (Under p a.path)
      unfolding inside visits made_in_of
      node_once note (node at k fs) next m o h =
          let below = visits_fields (is_container k) next m (each_field w 0 fs) in
          once_as (times a (note.made +++ made_in_of below)) (times a note.made + total below) (times_append a note.made (made_in_of below))
          (join (times a note.made) (total below) o (fields_once fs 0 (is_container k) next m h)
          (λ e v. not_itself p a.path v.i v.j e v.under)
          (λ e. record { below = []; whole = e })
          (λ v. through p a.path v.i v.j v.under))

  step_once : (c : Context) (n : Node) → sites a.place n ≤ 1 → Once (times a (rewrite c n).note.made) (a.path ≡ c.path)
  step_once c n h =
      let o = makes_once a c n in
      record {
        most = omega arith;
        found = λ z.
            by_test (same_numbers a.path c.path)
            (λ e. same_numbers_lem a.path c.path e)
            (λ e. let y = not_made a c.path e (rewrite c n).note.made (made_from c n) in absurd (omega arith));
      }

  walk_once : (f : ℕ) (c : Context) (n : Node) → sites a.place n ≤ 1 → (next m : ℕ) → Once (total (visits next m (walk f c n))) (Under c.path a.path)
  unfolding walk within visits made_in_of times ◌+++◌
  walk_once zero c n h next m = never
  walk_once (suc f) c n h next m =
      let s = rewrite c n in
      let r = s.result in
      node_once c.path (λ i j k. walk f (within c r i j) k)
      (λ i j k l. walk_once f (within c r i j) k l)
      s.note r next m (step_once c n h) (kept a.place c n h)

  -- each name is made once at most
  pub names_apart : (c : Context) (n : Node) → sites a.place n ≤ 1 → (next m : ℕ) → times a (made_in_of (visits next m (walked c n))) ≤ 1
  unfolding walked
  names_apart c n h next m = (walk_once (weight n) c n h next m).most

-- so it is for every tree that is accepted
pub accepted_names_apart : (limit : ℕ) (tree : List ℕ) (n : Node) (q next : ℕ) → read_tree input limit tree ≡ got n q next
    → (a : Name) → times a (made_in_of (visits next 0 (walked top n))) ≤ 1
accepted_names_apart limit tree n q next e a = names_apart a top n (accepted_sites limit tree n q next e a.place) next 0
