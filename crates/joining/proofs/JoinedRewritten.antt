-- joined-rewritten: the reader takes the joined tree, and its marks are distinct.
-- Assumes nothing.
use Prim.Native.Nat.{ℕ, ◌<◌, ◌≤◌}
use mathlib.Core.Path.{◌≡◌, refl}
use mathlib.Core.List.{List}
use mathlib.Core.Bool.{true}
use native.Mathlib.Omega.{arith}
use lib.ListN.{length}
use Rattle.tree.specs.Tree.{Node, encode, placed}
use Rattle.tree.specs.WellFormed.{Bytes}
use Rattle.tree.specs.Read.Got.{got}
use Rattle.rewritten.specs.Rewritten.{distinct, read_rewritten, Rewritten}
use Rattle.rewritten.proofs.RewrittenExact.{rewritten_sound, rewritten_complete}
use Rattle.joining.specs.List.{Handed, read_handed}
use Rattle.joining.specs.Answer.{taken}
use Rattle.joining.specs.Join.{fresh, joined_tree}
use Rattle.joining.proofs.JoinedWritten.{fresh_most}
use Rattle.joining.proofs.Exact.{list_sound}
use Rattle.joining.proofs.DeclaratorsOnce.{declarators_once}
use Rattle.joining.proofs.Formed.{joined_fits}
use Rattle.joining.proofs.JoinedMarksApart.{joined_apart}

pub record JoinedRewritten (n : Node) (h : Handed) : Type 0 where
  pub tree : Rewritten (joined_tree (taken n h) n h)
  pub read : read_rewritten (encode (joined_tree (taken n h) n h)) ≡ got (placed (joined_tree (taken n h) n h) 0) (length (encode (joined_tree (taken n h) n h))) 1

-- the law: of a tree and a list that are read and have no mark in common, where the joined tree is not too long
pub joined_rewritten : (bytes l : List ℕ) (n : Node) (q k : ℕ) (h : Handed) (p j : ℕ) → Bytes bytes → Bytes l → read_rewritten bytes ≡ got n q k → read_handed l ≡ got h p j → distinct (taken n h) ≡ true → length (encode (joined_tree (taken n h) n h)) ≤ 32768 → JoinedRewritten n h
unfolding joined_tree
joined_rewritten bytes l n q k h p j x y e f d s =
    let a = rewritten_sound bytes n q k x e in
    let b = list_sound l y h p j f in
    let c = declarators_once bytes l n q k h p j x y e f in
    let small : (i : ℕ) → fresh (taken n h) i < 65536 = λ i. let m : fresh (taken n h) i ≤ 65535 = fresh_most (taken n h) i in omega arith in
    let whole : Rewritten (joined_tree (taken n h) n h) = record {
      formed = record {
        fits = joined_fits (fresh (taken n h)) h.entries small b.fits.entries n c.program a.tree.formed.fits h.excluded b.fits.excluded s;
        marked = refl;
        level = omega arith;
        short = s;
      };
      apart = joined_apart n h c.program c.enough c.once d;
    } in
    record { tree = whole; read = rewritten_complete (joined_tree (taken n h) n h) whole }
