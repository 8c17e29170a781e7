-- The table of name bytes: its rule over all entries, and names read by it.
-- Assumes nothing.
use mathlib.Core.Path.{◌≡◌, refl, sym, ap, ◌∙◌}
use mathlib.Core.Bool.{Bool, true, false, cond, not, ◌&&◌}
use mathlib.Core.List.{List, [], ◌∷◌}
use Prim.Native.Nat.{ℕ, suc, ◌+◌, ◌-◌, ◌*◌, ◌/◌, ◌%◌, ◌<◌, ◌≤◌}
use native.Mathlib.Omega.{arith}
use lib.Dec.{T, eqb, eqb→eq}
use native.Mathlib.Decide.{dec_lt}
use lib.ListN.{length, get_or, set, take, drop, get_or-eq_default}
use lib.Seq.{get_or-set_same, get_or-set_other}
use borrow.Author.Tests.{eq-eqb, ne_eqb}
use Rattle.std.specs.List.{list_all}
use Rattle.std.proofs.lemmas.List.{get_or-take, get_or-drop, length-take}
use Rattle.tree.proofs.Table.{below, below_at}
use Rattle.printer.specs.Names.{name_bytes, entry_in_of, may_begin, may_follow, all_follow, bare, bits_of, rule_bits, table_byte, table_from}
use Rattle.printer.specs.Stacks.{EndIs}
use Rattle.printer.proofs.PiecesWritten.{part_step, part_end}

-- ---- the table

entry_right : ℕ → Bool
entry_right b = eqb (entry_in_of name_bytes b) (bits_of b)

entries_right : T (below 256 entry_right)
unfolding entry_right entry_in_of name_bytes bits_of may_begin may_follow
entries_right = tt

-- the rule: letters, `$` and `_` have both bits, digits the second, others none
pub table_rule : (b : ℕ) → b < 256 → entry_in_of name_bytes b ≡ bits_of b
unfolding entry_right
table_rule b h = eqb→eq (entry_in_of name_bytes b) (bits_of b) (below_at entry_right 256 entries_right b h)

-- the table is what the rule makes
pub table_generated : table_from 64 0 ≡ name_bytes
unfolding table_from table_byte name_bytes bits_of may_begin may_follow
table_generated = refl

bits_first : (a c : Bool) → eqb (cond a 3 (cond c 2 0) % 2) 1 ≡ a
bits_first true c = refl
bits_first false true = refl
bits_first false false = refl

begins_by : (b : ℕ) → eqb (bits_of b % 2) 1 ≡ may_begin b
unfolding bits_of
begins_by b = bits_first (may_begin b) (may_follow b)

follow_right : ℕ → Bool
follow_right b = cond (eqb (bits_of b / 2) 1) (may_follow b) (not (may_follow b))

follows_right : T (below 256 follow_right)
unfolding follow_right bits_of may_begin may_follow
follows_right = tt

follows_by : (t : List ℕ) (b : ℕ) → t ≡ name_bytes → b < 256 → eqb (entry_in_of t b / 2) 1 ≡ may_follow b
unfolding follow_right
follows_by t b e h =
    ap (λ (l : List ℕ). eqb (entry_in_of l b / 2) 1) e
    ∙ ap (λ (x : ℕ). eqb (x / 2) 1) (table_rule b h)
    ∙ go (eqb (bits_of b / 2) 1) (may_follow b) (below_at follow_right 256 follows_right b h)
  where
    go : (x y : Bool) → T (cond x y (not y)) → x ≡ y
    go true true u = refl
    go true false u = absurd u
    go false true u = absurd u
    go false false u = refl

pub first_so : (t : List ℕ) (b : ℕ) → t ≡ name_bytes → b < 256 → entry_in_of t b % 2 ≡ 1 → may_begin b ≡ true
first_so t b e h o =
    let y : bits_of b % 2 ≡ 1 = ap (λ (x : ℕ). x % 2) (sym (table_rule b h)) ∙ ap (λ (l : List ℕ). entry_in_of l b % 2) (sym e) ∙ o in
    sym (begins_by b) ∙ eq-eqb (bits_of b % 2) 1 y

pub first_not : (t : List ℕ) (b : ℕ) → t ≡ name_bytes → b < 256 → (entry_in_of t b % 2 ≡ 1 → ⊥) → may_begin b ≡ false
first_not t b e h n =
    let y : bits_of b % 2 ≡ 1 → ⊥ = λ z. n (ap (λ (l : List ℕ). entry_in_of l b % 2) e ∙ ap (λ (x : ℕ). x % 2) (table_rule b h) ∙ z) in
    sym (begins_by b) ∙ ne_eqb (bits_of b % 2) 1 y

-- ---- a part of the tree

module _ (l : List ℕ) (i e : ℕ) where
  pub follow_end : e ≤ i → all_follow (take (e - i) (drop i l)) ≡ true
  unfolding all_follow
  follow_end h = ap all_follow (part_end l i e h)

part_small : (l : List ℕ) (i n : ℕ) → ((k : ℕ) → get_or l k 0 < 256) → (k : ℕ) → get_or (take n (drop i l)) k 0 < 256
part_small l i n f k = elim (dec_lt k n) [
  | yes h ↦ rw (get_or-take n (drop i l) k 0 h, get_or-drop i l k 0) (f (i + k))
  | no h ↦ let z : get_or (take n (drop i l)) k 0 ≡ 0 = get_or-eq_default (take n (drop i l)) 0 {n = k} (omega (arith, h, length-take n (drop i l))) in omega arith
]

follow_all : (t : List ℕ) → t ≡ name_bytes → (xs : List ℕ) → ((k : ℕ) → get_or xs k 0 < 256) → list_all (λ x. eqb (entry_in_of t x / 2) 1) xs ≡ all_follow xs
unfolding all_follow
follow_all t e [] f = refl
follow_all t e (b ∷ bs) f = rw (follows_by t b e (f 0)) (go (may_follow b) (follow_all t e bs (λ k. f (suc k))))
  where
    go : (m : Bool) → list_all (λ x. eqb (entry_in_of t x / 2) 1) bs ≡ all_follow bs → (m && list_all (λ x. eqb (entry_in_of t x / 2) 1) bs) ≡ cond m (all_follow bs) false
    go true h = h
    go false h = refl

-- of a part of a list of bytes
pub part_follows : (t : List ℕ) → t ≡ name_bytes → (l : List ℕ) → ((k : ℕ) → get_or l k 0 < 256) → (i n : ℕ) → list_all (λ x. eqb (entry_in_of t x / 2) 1) (take n (drop i l)) ≡ all_follow (take n (drop i l))
part_follows t e l f i n = follow_all t e (take n (drop i l)) (part_small l i n f)

module _ (l : List ℕ) (at n e : ℕ) (w : EndIs l at n e) where
  pub bare_none : e ≤ at → bare (take n (drop at l)) ≡ false
  unfolding bare
  bare_none h = ap bare (sym w.same ∙ part_end l at e h)

  pub bare_first_not : at < e → may_begin (get_or l at 0) ≡ false → bare (take n (drop at l)) ≡ false
  unfolding bare
  bare_first_not h f = ap bare (sym w.same ∙ part_step l at e h (w.inside h)) ∙ rw f

  pub bare_first : at < e → may_begin (get_or l at 0) ≡ true → bare (take n (drop at l)) ≡ all_follow (take (e - (at + 1)) (drop (at + 1) l))
  unfolding bare
  bare_first h f = ap bare (sym w.same ∙ part_step l at e h (w.inside h)) ∙ rw f

-- ---- the table as the generator makes it

rule_right : ℕ → Bool
rule_right i = eqb ((rule_bits (4 * i) + 4 * rule_bits (4 * i + 1)) + (16 * rule_bits (4 * i + 2) + 64 * rule_bits (4 * i + 3))) (get_or name_bytes i 0)

rules_right : T (below 64 rule_right)
unfolding rule_right rule_bits name_bytes
rules_right = tt

pub rule_made : (i : ℕ) → i < 64 → (rule_bits (4 * i) + 4 * rule_bits (4 * i + 1)) + (16 * rule_bits (4 * i + 2) + 64 * rule_bits (4 * i + 3)) ≡ get_or name_bytes i 0
unfolding rule_right
rule_made i h = eqb→eq ((rule_bits (4 * i) + 4 * rule_bits (4 * i + 1)) + (16 * rule_bits (4 * i + 2) + 64 * rule_bits (4 * i + 3))) (get_or name_bytes i 0) (below_at rule_right 64 rules_right i h)

pub one_more : (t : List ℕ) (i v : ℕ) → i < length t → ((k : ℕ) → k < i → get_or t k 0 ≡ get_or name_bytes k 0) → v ≡ get_or name_bytes i 0 → (k : ℕ) → k < i + 1 → get_or (set t i v) k 0 ≡ get_or name_bytes k 0
one_more t i v h f e k l = elim (dec_lt k i) [
  | yes g ↦ get_or-set_other t i k v 0 (λ z. absurd (omega arith)) ∙ f k g
  | no g ↦ let z : k ≡ i = omega arith in ap (λ (j : ℕ). get_or (set t i v) j 0) z ∙ get_or-set_same t i v 0 h ∙ e ∙ ap (λ (j : ℕ). get_or name_bytes j 0) (sym z)
]

same_get_d : (s t : List ℕ) → length s ≡ length t → ((k : ℕ) → k < length s → get_or s k 0 ≡ get_or t k 0) → s ≡ t
same_get_d [] [] e f = refl
same_get_d [] (y ∷ t) e f = absurd (omega arith)
same_get_d (x ∷ s) [] e f = absurd (omega arith)
same_get_d (x ∷ s) (y ∷ t) e f =
    ap (λ (z : ℕ). z ∷ s) (f 0 (omega arith))
    ∙ ap (λ (r : List ℕ). y ∷ r) (same_get_d s t (omega arith) (λ k h. f (suc k) (omega arith)))

-- an array of 64 entries with these bytes is the table
pub same_table : (t : List ℕ) → length t ≡ 64 → ((k : ℕ) → k < 64 → get_or t k 0 ≡ get_or name_bytes k 0) → t ≡ name_bytes
unfolding name_bytes
same_table t e f = same_get_d t name_bytes e (λ k h. f k (omega arith))
