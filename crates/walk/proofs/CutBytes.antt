-- Bytes cut out of others.
-- Assumes nothing.
use mathlib.Core.Path.{◌≡◌, refl, sym, ap, ◌∙◌}
use mathlib.Core.List.{List, [], ◌∷◌, ◌++◌}
use Prim.Native.Nat.{ℕ, ◌+◌, ◌-◌, ◌≤◌, ◌<◌}
use native.Mathlib.Nat.{add-zero}
use native.Mathlib.Omega.{arith}
use lib.ListN.{length, take, drop, length-append, length-drop}
use lib.Seq.{take-add, take-append_seam, drop-append_seam, length-take-le, slice_empty}
use Rattle.tree.specs.Read.{Got}
use Rattle.tree.specs.Read.Got.{got, refused}
use Rattle.tree.proofs.HoldsOfRead.{Holds}
use Rattle.sink.specs.Machine.{part}

pub read_self : {A : Type 0} (g : Got A) → Holds (λ a q j. g ≡ got a q j) g
read_self (got a q j) = refl
read_self (refused n) = tt

-- ---- bytes cut out of others

pub part_cut : (l : List ℕ) (at : ℕ) (xs zs : List ℕ) → drop at l ≡ xs ++ zs → part at (at + length xs) l ≡ xs
unfolding part
part_cut l at [] zs cut = ap (λ (n : ℕ). drop at (take n l)) (add-zero at) ∙ slice_empty at l
part_cut l at (x ∷ xs) zs cut =
    let n : ℕ = length (x ∷ xs) in
    let some : 0 < n = omega arith in
    let room : length l - at ≡ n + length zs = sym (length-drop at l) ∙ ap length cut ∙ length-append (x ∷ xs) zs in
    let inside : at ≤ length l = omega arith in
    ap (drop at) (take-add at n l)
    ∙ ap (λ (k : ℕ). drop k (take at l ++ take n (drop at l))) (sym (length-take-le at l inside))
    ∙ drop-append_seam (take at l) (take n (drop at l))
    ∙ ap (take n) cut ∙ take-append_seam (x ∷ xs) zs
