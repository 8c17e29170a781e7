-- The law for each declaration of the class of an accepted tree.
-- Assumes nothing.
use mathlib.Core.Path.{◌≡◌, refl, sym, ap, subst, ◌∙◌}
use mathlib.Core.Bool.{true, ◌||◌}
use mathlib.Core.List.{List, [], ◌∷◌, ◌++◌}
use Prim.Native.Nat.{ℕ}
use lib.ListN.{length}
use Rattle.tree.specs.Tree.{Node, Items, wide_bytes, count, encode_items}
use Rattle.tree.specs.Grammar.Stage.{input}
use Rattle.tree.specs.WellFormed.{WellFormed}
use Rattle.tree.proofs.Sound.{sound}
use Rattle.lowering.specs.Parts.{position, is, node_at_of}
use Rattle.lowering.specs.Made.{Context, declares, excluded_of, array}
use Rattle.lowering.specs.Keys.{excluded_keys}
use Rattle.lowering.specs.Rests.{is_hoisted, excluded_for}
use Rattle.lowering.specs.Walk.{rewrite}
use Rattle.lowering.specs.Weight.{walked}
use Rattle.lowering.specs.Collect.{over, bare, entries, excluded_in, declarator_bytes, entry_bytes, list_bytes}
use Rattle.lowering.specs.Answer.{top}
use Rattle.lowering.proofs.DistinctNames.{accepted_names_apart}
use Rattle.lowering.proofs.Cases.{by_test, and_left}
use Rattle.lowering.specs.Visits.{ItemAt, Visits}
use Rattle.overlay.specs.Whole.{leaves, Comes}
use Rattle.overlay.proofs.TreesCompared.{same, same_is}
use Rattle.overlay.proofs.LoweredInPlace.{left, call_writes}
use Rattle.overlay.proofs.LiteralsReached.{visit_noted, comes_to}
use Rattle.packing.specs.Unpack.{Form}
use Rattle.packing.specs.Class.{is_shaped, fits, apart, unpacking_of, pattern_of, declarator_of}
use Rattle.packing.specs.Law.{Unpacked}
use Rattle.packing.specs.Whole.{Accepted, notes, names, handed_out_of, LandsThere, Unpacks, OneSide, Whole, Placed, Everywhere, Writes}
use Rattle.packing.proofs.DeclarationLeft.{Shaped, shaped, excluded_is, excludes_are, packing}
use Rattle.packing.proofs.Clean.{accepted_clean}
use Rattle.packing.proofs.WrittenReads.{Hands}
use Rattle.packing.proofs.WrittenReads.{written as reads_as}
use Rattle.packing.proofs.ExcludedArrays.{Item, in_list, array_given}

well_formed_lem : (a : Accepted) → WellFormed input a.limit a.tree a.next
well_formed_lem a = (sound input a.limit a.bytes a.tree a.end a.next a.are_bytes a.read).well_formed

shape_of : (n : Node) → fits n ≡ true → Shaped n
unfolding fits
shape_of n e = shaped n (and_left (is_shaped n) (apart (unpacking_of n)) e)

-- the keys that are handed out for the declaration
keys_handed : (d : Context) (n : Node) → Shaped n → is_hoisted d (pattern_of n) ≡ true → Item (declares (excluded_of d (pattern_of n)) (array (excluded_keys d (pattern_of n)))) (rewrite d n).note.excluded
unfolding excluded_for
keys_handed d n s h =
    subst (λ (xs : Items). Item (declares (excluded_of d (pattern_of n)) (array (excluded_keys d (pattern_of n)))) xs)
    (sym (excluded_is d n (declarator_of n) s.declares_it s.lone s.begun s.named s.opens s.rests s.takes_all
    ∙ excludes_are d n (declarator_of n) s.declares_it s.lone s.begun s.named s.opens s.rests s.takes_all))
    (rw h (0, ItemAt.first))

module _ (a : Accepted) where
  list_hands : (d : Context) (n : Node) → Visits top a.tree d n → fits n ≡ true → Hands (names a) d n (handed_out_of a)
  list_hands d n v e h =
      array_given top a.tree (bare a.next (walked top a.tree)) a.next 0 (entries (notes a)) d.path 2 (position (pattern_of n)) (excluded_keys d (pattern_of n))
      (accepted_names_apart a.limit a.bytes a.tree a.end a.next a.read)
      (visit_noted (λ n. (y : Node) → Item y n.excluded → Item y (excluded_in (notes a))) v a.next 0 (in_list (notes a))
      (declares (excluded_of d (pattern_of n)) (array (excluded_keys d (pattern_of n)))) (keys_handed d n (shape_of n e) h))

pub lands : LandsThere
lands a d n D next W it P =
    let c = accepted_clean a.limit a.next a.tree (well_formed_lem a) D.place n D.stands D.of_class in
    subst (λ (fs : List Form). Unpacked W (unpacking_of n) it fs)
    (sym (reads_as (names a) next d n D.of_class c.0 c.1 (handed_out_of a) (list_hands a d n D.visited D.of_class)))
    (packing d n D.of_class W it P)

pub unpacks : Unpacks
unpacks a d n D next W it P = let l = lands a d n D next W it P in (l.end, l.ends, l.still)

pub one_side : OneSide
one_side a d n D next W it P = let l = lands a d n D next W it P in (l.end, l.left, l.ends, l.rests, l.one_side_of, l.no_other_of)

pub whole : Whole
whole a d n D next W it P = let l = lands a d n D next W it P in (l.end, l.ends, l.read, l.packed, l.packing, l.whole)

-- ---- every declaration of the class

pub everywhere : Everywhere
everywhere a p n s e u =
    go (comes_to a.limit a.next a.tree (well_formed_lem a) a.unrefused p n s
    (λ q f t l d. by_test (same n (node_at_of 1 f)) (λ y. absurd (u q f t l (sym (same_is n (node_at_of 1 f) y)))) (λ y. y))
    (declares_it n (shape_of n e)))
  where
    declares_it : (n : Node) → Shaped n → (is 24 n || is 4 n) ≡ true
    declares_it n s = by_test (is 24 n) (λ y. rw y refl) (λ y. rw y s.declares_it)

    go : Comes n top a.tree → Placed a n
    go (Comes.visited {d = d} v) = let r = left (names a) a.next top d a.tree n v in Placed.in_tree r.0 (record { place = p; stands = s; visited = v; of_class = e }) r.1
    go (Comes.in_entry v i t) = Placed.in_list_of v i t
    go (Comes.in_excluded v i t) = Placed.in_keys v i t

-- ---- a call

pub writes : Writes
unfolding leaves list_bytes declarator_bytes
writes limit options bytes s helpers mask t l b e =
    let x = call_writes limit options bytes s helpers mask t l e in
    let a : Accepted = record { limit = limit; bytes = bytes; tree = x.0; end = x.1; next = x.2; are_bytes = b; read = x.3; unrefused = x.4.0 } in
    let es = entries (notes a) in
    let last = wide_bytes (count (excluded_in (notes a))) ++ encode_items (handed_out_of a) in
    (a, refl, x.4.1, wide_bytes (length es) ++ over (entry_bytes (names a)) es, x.4.2 ∙ assoc (wide_bytes (length es)) (over (entry_bytes (names a)) es) last)
  where
    assoc : (us vs ws : List ℕ) → us ++ (vs ++ ws) ≡ (us ++ vs) ++ ws
    assoc [] vs ws = refl
    assoc (u ∷ us) vs ws = ap (λ (x : List ℕ). u ∷ x) (assoc us vs ws)
