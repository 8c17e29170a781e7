-- What the literal rule makes has as many nested calls as the pattern says.
-- Assumes nothing.
use mathlib.Core.Path.{◌≡◌, refl, sym, ap, ◌∙◌}
use mathlib.Core.Bool.{Bool, true, false}
use mathlib.Core.List.{[], ◌∷◌}
use Prim.Native.Nat.{ℕ, suc, ◌+◌}
use native.Mathlib.Omega.{arith}
use borrow.Author.Tests.{eqb-true, ne_eqb}
use Rattle.tree.specs.Tree.{Node, Items}
use Rattle.tree.specs.Tree.Node.{node}
use Rattle.tree.specs.Tree.Items.{none, hole, item}
use Rattle.lowering.specs.Parts.{is, node_at_of, number_at, items_at_of, piece_in, only, any, ◌+++◌}
use Rattle.lowering.specs.Made.{S}
use Rattle.lowering.specs.Literals.{opened, closed, scan, literal}
use Rattle.lowering.specs.Literals.Call.{no_call, call}
use Rattle.lowering.proofs.Cases.{by_test, or_left, or_right}
use Rattle.counting.specs.Patterns.{Pattern, number, pattern_of, pattern}
use Rattle.counting.specs.Calls.{calls_s, nested, properties, sample, calls}

-- the calls that are still to come behind a call, with or without pending properties
unfoldable pub more : Bool → Pattern → ℕ
more b [] = number b
more b (true ∷ p) = suc (more false p)
more b (false ∷ p) = more true p

-- all of them
unfoldable pub starting : Pattern → ℕ
starting [] = 0
starting (true ∷ p) = suc (more false p)
starting (false ∷ p) = starting p

abbrev waits : Items → Bool
waits none = false
waits (hole ps) = false
waits (item p ps) = true

-- pending properties do not begin with a hole
abbrev whole : Items → Bool
whole none = true
whole (hole ps) = false
whole (item p ps) = true

waits_more : (pending : Items) (p : Node) → whole pending ≡ true → waits (pending +++ only p) ≡ true
unfolding ◌+++◌
waits_more none p h = refl
waits_more (hole ps) p h = h
waits_more (item q ps) p h = refl

whole_more : (pending : Items) (p : Node) → whole pending ≡ true → whole (pending +++ only p) ≡ true
unfolding ◌+++◌
whole_more none p h = refl
whole_more (hole ps) p h = h
whole_more (item q ps) p h = refl

one_more : (c : Node) (pending : Items) (a : Node) → nested (S (opened (call c) pending +++ only a)) ≡ suc (nested c)
unfolding nested calls_s is node_at_of number_at piece_in opened ◌+++◌
one_more c none a = refl
one_more c (hole ps) a = refl
one_more c (item p ps) a = refl

first_one : (pending : Items) (a : Node) → nested (S (opened no_call pending +++ only a)) ≡ 1
unfolding nested calls_s is node_at_of number_at piece_in opened ◌+++◌
first_one pending a = refl

closed_calls : (c : Node) (pending : Items) → nested (closed (call c) pending) ≡ nested c + number (waits pending)
unfolding nested calls_s is node_at_of number_at piece_in opened closed
closed_calls c none = omega arith
closed_calls c (hole ps) = omega arith
closed_calls c (item p ps) = omega arith

scan_called : (c : Node) (pending ps : Items) → whole pending ≡ true → nested (scan (call c) pending ps) ≡ nested c + more (waits pending) (pattern_of ps)
unfolding scan pattern_of more
scan_called c pending none h = closed_calls c pending
scan_called c pending (hole ps) h = scan_called c pending ps h
scan_called c pending (item p ps) h =
    by_test (is 26 p)
    (λ e.
    let r = scan_called (S (opened (call c) pending +++ only (node_at_of 0 p))) none ps refl in
    let o = one_more c pending (node_at_of 0 p) in
    rw (e, scan, more) (omega arith))
    (λ e.
    let w = waits_more pending p h in
    let r = scan_called c (pending +++ only p) ps (whole_more pending p h) in
    rw (e, scan, more) (r ∙ ap (λ (b : Bool). nested c + more b (pattern_of ps)) w))

scan_free : (pending ps : Items) → nested (scan no_call pending ps) ≡ starting (pattern_of ps)
unfolding scan closed pattern_of starting nested calls_s is
scan_free pending none = refl
scan_free pending (hole ps) = scan_free pending ps
scan_free pending (item p ps) =
    by_test (is 26 p)
    (λ e.
    let r = scan_called (S (opened no_call pending +++ only (node_at_of 0 p))) none ps refl in
    let o = first_one pending (node_at_of 0 p) in
    rw (e, scan, starting) (omega arith))
    (λ e. rw (e, scan, starting) (scan_free (pending +++ only p) ps))

no_spread : (ps : Items) → any (λ p. is 26 p) ps ≡ false → starting (pattern_of ps) ≡ 0
unfolding any pattern_of starting
no_spread none h = refl
no_spread (hole ps) h = no_spread ps h
no_spread (item p ps) h = rw (or_left (is 26 p) (any (λ q. is 26 q) ps) h) (no_spread ps (or_right (is 26 p) (any (λ q. is 26 q) ps) h))

object_free : (n : Node) → is 24 n ≡ true → nested n ≡ 0
unfolding nested calls_s is
object_free (node at k fs) h =
    let e : k ≡ 24 = eqb-true k 24 h in
    rw (ne_eqb k 29 (λ (z : k ≡ 29). omega arith)) refl

pub literal_calls : (n : Node) → is 24 n ≡ true → nested (literal n) ≡ starting (pattern n)
unfolding literal pattern
literal_calls n h =
    by_test (any (λ p. is 26 p) (items_at_of 0 n))
    (λ e. rw e (scan_free none (items_at_of 0 n)))
    (λ e. rw e (object_free n h ∙ sym (no_spread (items_at_of 0 n) e)))

-- every pattern is a literal's
properties_pattern : (p : Pattern) → pattern_of (properties p) ≡ p
unfolding pattern_of properties is
properties_pattern [] = refl
properties_pattern (true ∷ p) = ap (λ (q : Pattern). true ∷ q) (properties_pattern p)
properties_pattern (false ∷ p) = ap (λ (q : Pattern). false ∷ q) (properties_pattern p)

pub sample_pattern : (p : Pattern) → pattern (sample p) ≡ p
unfolding pattern items_at_of piece_in
sample_pattern p = properties_pattern p

pub calls_start : (p : Pattern) → calls p ≡ starting p
unfolding calls is
calls_start p = literal_calls (sample p) refl ∙ ap (λ (q : Pattern). starting q) (sample_pattern p)

-- what a literal gives depends on its pattern alone
pub calls_by_pattern : (n : Node) → is 24 n ≡ true → nested (literal n) ≡ calls (pattern n)
calls_by_pattern n h = literal_calls n h ∙ sym (calls_start (pattern n))

pub alike_literals : (m n : Node) → is 24 m ≡ true → is 24 n ≡ true → pattern m ≡ pattern n → nested (literal m) ≡ nested (literal n)
alike_literals m n h k e = calls_by_pattern m h ∙ ap (λ (q : Pattern). calls q) e ∙ sym (calls_by_pattern n k)
