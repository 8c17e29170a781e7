-- The notes of an accepted tree: the slice that holds the tree and the notes that the pass writes makes the decoder give that tree; for each node of it
-- skipping gives its end, and it is quiet exactly if nothing is to be lowered in it.
-- Assumes nothing.
use mathlib.Core.Path.{◌≡◌, sym, ap, ◌∙◌, subst}
use mathlib.Core.Bool.{Bool, false, cond}
use mathlib.Core.List.{List, ◌++◌}
use Prim.Native.Nat.{ℕ, ◌+◌, ◌-◌, ◌/◌, ◌%◌, ◌<◌, ◌≤◌}
use native.Mathlib.Omega.{arith}
use lib.Dec.{leb, ltb}
use lib.ListN.{length, drop, length-append, length-drop, get_or-append}
use lib.Seq.{get_or-append-add}
use borrow.Author.Tests.{lt-ltb, leb-true, eq-eqb}
use Rattle.tree.specs.Tree.{Node}
use Rattle.tree.specs.Grammar.{Stage, root}
use Rattle.tree.specs.Grammar.Stage.{input}
use Rattle.tree.specs.Read.{Got, byte_at, wide_at, whole, longest, read_node, read_tree}
use Rattle.tree.specs.Read.Got.{got}
use Rattle.tree.specs.Look.{seen, note_at, end_at, quiet_at, look_node}
use Rattle.tree.specs.Note.{Note, Noting, noted, loud, word, notes_of, put_all, note_node, filled}
use Rattle.tree.specs.WellFormed.{Bytes}
use Rattle.tree.proofs.HoldsOfRead.{Holds, holds, of_accepted}
use Rattle.tree.proofs.Look.{tree_node}
use Rattle.tree.proofs.Sound.{bytes_at}
use Rattle.tree.proofs.Laid.{All, all_join, Laid, Read, Between, length_all}
use Rattle.tree.proofs.Passed.{PassesNode, node_passes}
use Rattle.tree.proofs.Further.{read_further}
use Rattle.tree.proofs.EndsTold.{Known, stands_deeper, word_end, word_quiet}

-- ---- an accepted tree

pub record Noted (d : ℕ) (s : List ℕ) (n : Node) (q j : ℕ) : Type 0 where
  pub reads : read_node s input d root 0 1 ≡ got n q j  -- the reader gives the tree of the slice's first half, whatever is behind it
  pub told : All (Known s) (notes_of n)  -- of each node of the tree: where it ends, and whether something is to be lowered in it
  pub within : All (Between 0 q) (notes_of n)  -- each node of it stands, and ends, within the tree
  pub looks : (e : ℕ) → look_node s (d + e) 0 ≡ seen n q  -- the decoder gives the tree, also with more levels than the reader had

pub within_limit : (stage : Stage) (d : ℕ) (l : List ℕ) (n : Node) (q j : ℕ) → read_tree stage d l ≡ got n q j → length l ≤ longest stage
unfolding read_tree
within_limit stage d l n q j e =
    let g : Got Node = whole l (read_node l stage d root 0 1) in
    holds (λ n q j. length l ≤ longest stage) (read_tree stage d l) n q j (of_accepted (λ n q j. length l ≤ longest stage) (leb (length l) (longest stage)) g (λ t. always g (leb-true _ _ t))) e
  where
    always : (g : Got Node) → length l ≤ longest stage → Holds (λ n q j. length l ≤ longest stage) g
    always (got n q j) h = h
    always (Got.refused r) h = tt

-- a note that was written behind the tree is known
module _ (l notes : List ℕ) (long : length notes ≡ length l) where
  note_wide : (at : ℕ) → wide_at (l ++ notes) (length l + at) ≡ wide_at notes at
  unfolding wide_at byte_at
  note_wide at =
      let e : length l + at + 1 ≡ length l + (at + 1) = omega arith in
      rw (e, get_or-append-add l notes at 256, get_or-append-add l notes (at + 1) 256)

  note_told : (at : ℕ) → at + 2 ≤ length l → note_at (l ++ notes) at ≡ wide_at notes at
  unfolding note_at
  note_told at h =
      let n : length (l ++ notes) ≡ length l + length notes = length-append l notes in
      let half : length (l ++ notes) / 2 ≡ length l = omega (arith, long) in
      rw (half, lt-ltb (at + 1) (length l) (omega arith)) (note_wide at)

  pub read_known : (x : Note) → length l < 32768 → Between 0 (length l) x → Read notes x → Known (l ++ notes) x
  unfolding end_at quiet_at
  read_known x h v e =
      let t : note_at (l ++ notes) x.at ≡ word x.end x.loud = note_told x.at (omega (arith, v.1)) ∙ e in
      record {
        ends = ap (λ (n : ℕ). n % 32768) t ∙ word_end x.end x.loud (omega (arith, v.2));
        quiet = ap (λ (n : ℕ). ltb n 32768) t ∙ word_quiet x.end x.loud;
      }

-- the notes of an accepted tree, written over any bytes
module _ (d : ℕ) (l room : List ℕ) (n : Node) (q j : ℕ) (long : length room ≡ length l) (read : read_tree input d l ≡ got n q j) (bytes : Bytes (l ++ (note_node l d (noted room 0 false)).notes)) where
  abbrev slice : List ℕ
  slice = l ++ (note_node l d (noted room 0 false)).notes

  slice_byte : (i : ℕ) → i < length slice → byte_at slice i < 256
  slice_byte i h = bytes_at slice bytes i h

  tree_byte : (i : ℕ) → i < length l → byte_at l i < 256
  unfolding byte_at
  tree_byte i h =
      let n : length slice ≡ length l + length (note_node l d (noted room 0 false)).notes = length-append l (note_node l d (noted room 0 false)).notes in
      subst (λ (b : ℕ). b < 256) (get_or-append l (note_node l d (noted room 0 false)).notes 256 i h) (slice_byte i (omega arith))

  read_here : read_node l input d root 0 1 ≡ got n q j
  read_here = (tree_node l input d n q j read).0

  passes : PassesNode l (note_node l d) 0 n q j
  passes = holds (PassesNode l (note_node l d) 0) (read_node l input d root 0 1) n q j (node_passes l input tree_byte d root 0 1) read_here

  -- what the pass leaves: the notes of the tree, one after the other
  pub written : note_node l d (noted room 0 false) ≡ noted (put_all room (notes_of n)) q (loud n)
  written = passes.passes.steps room false

  told_by : (notes : List ℕ) → notes ≡ put_all room (notes_of n) → All (Known (l ++ notes)) (notes_of n)
  told_by notes e =
      let p : Laid 0 q (notes_of n) = passes.passes.laid in
      let c : q ≡ length l = (tree_node l input d n q j read).1 in
      let small : length l ≤ 16384 = within_limit input d l n q j read in
      let o : length notes ≡ length l = ap length e ∙ length_all room (notes_of n) ∙ long in
      all_join (Between 0 q) (Read (put_all room (notes_of n))) (Known (l ++ notes))
      (λ x v w. read_known l notes o x (omega arith) (omega (arith, v.0), omega (arith, v.1), omega (arith, v.2)) (ap (λ (z : List ℕ). wide_at z x.at) e ∙ w)) (notes_of n)
      p.within (p.reads room (omega (arith, long)))

  pub noted_law : Noted d slice n q j
  noted_law =
      let t : All (Known slice) (notes_of n) = told_by (note_node l d (noted room 0 false)).notes (ap (λ (z : Noting). z.notes) written) in
      let r : read_node slice input d root 0 1 ≡ got n q j = read_further l (note_node l d (noted room 0 false)).notes input d root 0 1 n q j read_here in
      record { reads = r; told = t; within = passes.passes.laid.within; looks = λ e. stands_deeper slice input slice_byte e d root 0 1 n q j t r }

-- the law: what `fill` leaves in a slice of twice the tree's length
pub filled_law : (d : ℕ) (l room : List ℕ) (n : Node) (q j : ℕ) → length room ≡ length l + length l → read_tree input d l ≡ got n q j → Bytes (filled d l room) → Noted d (filled d l room) n q j
unfolding filled
filled_law d l room n q j long read =
    let e : length (drop (length l) room) ≡ length room - length l = length-drop (length l) room in
    let x : List ℕ = (note_node l d (noted (drop (length l) room) 0 false)).notes in
    subst (λ (t : Bool). Bytes (cond t (l ++ x) room) → Noted d (cond t (l ++ x) room) n q j) (sym (eq-eqb (length room) (length l + length l) long))
    (noted_law d l (drop (length l) room) n q j (omega arith) read)
