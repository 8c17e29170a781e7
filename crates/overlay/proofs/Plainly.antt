-- The plain class as rules, for inductions.
-- Assumes nothing.
use mathlib.Core.Path.{◌≡◌, refl, sym, subst}
use mathlib.Core.Bool.{true, false, ◌&&◌}
use Prim.Native.Nat.{ℕ}
use lib.Dec.{eqb}
use borrow.Author.Tests.{eqb-true}
use Rattle.tree.specs.Tree.{Node, Fields, Piece, Items}
use Rattle.tree.specs.Tree.Node.{node}
use Rattle.tree.specs.Tree.Fields.{done, absent, field}
use Rattle.tree.specs.Tree.Piece.{one, list, text, byte, mark, number}
use Rattle.tree.specs.Tree.Items.{none, hole, item}
use Rattle.lowering.specs.Parts.{is, node_at_of, piece_in}
use Rattle.overlay.specs.Run.{makes}
use Rattle.overlay.specs.Plain.{free, free_fields, free_piece, free_items, is_object, is_foreign, bare, fine_key, fine_method, is_done, is_node, is_flags, plain, plain_object, plain_list, plain_parts, plain_part, plain_spread, plain_property, plain_value_of, plain_one}
use Rattle.overlay.specs.Law.{literal_of}
use Rattle.overlay.proofs.LaidOn.{differ}
use Rattle.overlay.proofs.Free.{free_below}
use Rattle.lowering.proofs.Cases.{by_test, and_left, and_right}

abbrev pub spread_of : ℕ → Node → Node
spread_of at n = node at 26 (field (one n) done)

abbrev pub property_of : ℕ → Node → Node → ℕ → Node
property_of at k v f = node at 25 (field (one k) (field (one v) (field (byte f) done)))

-- an expression of an accepted tree that holds no object literal or pattern
pub record Opaque (n : Node) : Type 0 where
  pub without : free is_object n ≡ true
  pub accepted : free is_foreign n ≡ true

mutual
  pub data Plain : Node → Type 0 where
    opaque : {n : Node} → Opaque n → Plain n
    literal : {at : ℕ} {ps : Items} → PlainParts ps → Plain (literal_of at ps)

  pub data PlainParts : Items → Type 0 where
    no_part : PlainParts none
    next_part : {p : Node} {ps : Items} → PlainPart p → PlainParts ps → PlainParts (item p ps)

  pub data PlainPart : Node → Type 0 where
    spread : {at : ℕ} {n : Node} → Plain n → PlainPart (spread_of at n)
    property : {at : ℕ} {k v : Node} {f : ℕ} → makes (property_of at k v f) ≡ true → fine_key (property_of at k v f) ≡ true → Opaque k → Plain v → PlainPart (property_of at k v f)

-- ---- from the test

abbrev Given : Node → Type 0
Given n = free is_foreign n ≡ true

key_bare : (at : ℕ) (k v : Node) (f : ℕ) → fine_key (property_of at k v f) ≡ true → free is_object k ≡ true
unfolding fine_key bare node_at_of piece_in
key_bare at k v f e = and_left (free is_object k) _ e

makes_kind : (at k : ℕ) (fs : Fields) → makes (node at k fs) ≡ true → eqb k 25 ≡ true
unfolding makes is
makes_kind at k fs e = and_left (eqb k 25) _ e

plain_literal : (at k : ℕ) (fs : Fields) → eqb k 24 ≡ true → plain (node at k fs) ≡ true → plain_object fs ≡ true
unfolding plain
plain_literal at k fs p e = simp p at e

plain_bare : (at k : ℕ) (fs : Fields) → eqb k 24 ≡ false → plain (node at k fs) ≡ true → free is_object (node at k fs) ≡ true
unfolding plain bare
plain_bare at k fs p e = simp p at e

part_spread : (at k : ℕ) (fs : Fields) → eqb k 26 ≡ true → plain_part (node at k fs) ≡ true → plain_spread fs ≡ true
unfolding plain
part_spread at k fs p e = simp p at e

part_other : (at k : ℕ) (fs : Fields) → eqb k 26 ≡ false → plain_part (node at k fs) ≡ true
    → (makes (node at k fs) && (fine_key (node at k fs) && (fine_method (node at k fs) && plain_property fs))) ≡ true
unfolding plain
part_other at k fs p e = simp p at e

done_is : (fs : Fields) → is_done fs ≡ true → fs ≡ done
done_is done e = refl
done_is (absent fs) e = differ (sym e)
done_is (field p fs) e = differ (sym e)

-- a node, and the value and flags of a property
data PlainOne : Piece → Type 0 where
  plain_one_lem : {n : Node} → Plain n → PlainOne (one n)

data PlainValue : Fields → Type 0 where
  plain_value : {v : Node} {f : ℕ} → Plain v → PlainValue (field (one v) (field (byte f) done))

spread_from : (at : ℕ) {p : Piece} (fs : Fields) → PlainOne p → is_done fs ≡ true → PlainPart (node at 26 (field p fs))
spread_from at fs (plain_one_lem r) e = rw (done_is fs e) (spread r)

value_from_lem : {p : Piece} (fs : Fields) → PlainOne p → is_flags fs ≡ true → PlainValue (field p fs)
value_from_lem done r e = differ (sym e)
value_from_lem (absent fs) r e = differ (sym e)
value_from_lem (field (one n) fs) r e = differ (sym e)
value_from_lem (field (list n) fs) r e = differ (sym e)
value_from_lem (field (text n) fs) r e = differ (sym e)
value_from_lem (field (byte n) fs) (plain_one_lem r) e = rw (done_is fs e) (plain_value r)
value_from_lem (field (mark n) fs) r e = differ (sym e)
value_from_lem (field (number n) fs) r e = differ (sym e)

property_from : (at : ℕ) (p : Piece) {fs : Fields} → is_node p ≡ true → PlainValue fs → makes (node at 25 (field p fs)) ≡ true → fine_key (node at 25 (field p fs)) ≡ true
    → free_piece is_foreign p ≡ true → PlainPart (node at 25 (field p fs))
property_from at (one k) e (plain_value {v = v} {f = f} r) m y g = property m y (record { without = key_bare at k v f y; accepted = g }) r
property_from at (list k) e r m y g = differ (sym e)
property_from at (text k) e r m y g = differ (sym e)
property_from at (byte k) e r m y g = differ (sym e)
property_from at (mark k) e r m y g = differ (sym e)
property_from at (number k) e r m y g = differ (sym e)

mutual
  unfolding plain

  pub plain_rule : (n : Node) → plain n ≡ true → Given n → Plain n
  plain_rule (node at k fs) e g =
      by_test (eqb k 24)
      (λ p. let q : k ≡ 24 = eqb-true k 24 p in
      subst (λ (x : ℕ). Plain (node at x fs)) (sym q) (object_rule at fs (plain_literal at k fs p e) (free_below is_foreign at k fs g)))
      (λ p. opaque (record { without = plain_bare at k fs p e; accepted = g }))

  object_rule : (at : ℕ) (fs : Fields) → plain_object fs ≡ true → free_fields is_foreign fs ≡ true → Plain (node at 24 fs)
  object_rule at done e g = differ (sym e)
  object_rule at (absent fs) e g = differ (sym e)
  object_rule at (field p fs) e g =
      rw (done_is fs (and_right (plain_list p) (is_done fs) e)) (list_rule at p (and_left (plain_list p) (is_done fs) e) (and_left (free_piece is_foreign p) (free_fields is_foreign fs) g))

  list_rule : (at : ℕ) (p : Piece) → plain_list p ≡ true → free_piece is_foreign p ≡ true → Plain (node at 24 (field p done))
  list_rule at (one n) e g = differ (sym e)
  list_rule at (list ps) e g = literal (parts_rule ps e g)
  list_rule at (text bs) e g = differ (sym e)
  list_rule at (byte b) e g = differ (sym e)
  list_rule at (mark b) e g = differ (sym e)
  list_rule at (number b) e g = differ (sym e)

  pub parts_rule : (ps : Items) → plain_parts ps ≡ true → free_items is_foreign ps ≡ true → PlainParts ps
  parts_rule none e g = no_part
  parts_rule (hole ps) e g = differ (sym e)
  parts_rule (item p ps) e g =
      next_part (part_rule p (and_left (plain_part p) (plain_parts ps) e) (and_left (free is_foreign p) (free_items is_foreign ps) g))
      (parts_rule ps (and_right (plain_part p) (plain_parts ps) e) (and_right (free is_foreign p) (free_items is_foreign ps) g))

  part_rule : (p : Node) → plain_part p ≡ true → Given p → PlainPart p
  part_rule (node at k fs) e g =
      by_test (eqb k 26)
      (λ p. let q : k ≡ 26 = eqb-true k 26 p in
      subst (λ (x : ℕ). PlainPart (node at x fs)) (sym q) (spread_rule at fs (part_spread at k fs p e) (free_below is_foreign at k fs g)))
      (λ p. let t = part_other at k fs p e in
      let t₁ = and_right (makes (node at k fs)) _ t in
      let m : makes (node at k fs) ≡ true = and_left (makes (node at k fs)) _ t in
      let q : k ≡ 25 = eqb-true k 25 (makes_kind at k fs m) in
      subst (λ (x : ℕ). makes (node at x fs) ≡ true → fine_key (node at x fs) ≡ true → PlainPart (node at x fs)) (sym q)
      (λ m y. property_rule at fs m y (and_right (fine_method (node at k fs)) _ (and_right (fine_key (node at k fs)) _ t₁)) (free_below is_foreign at k fs g))
      m (and_left (fine_key (node at k fs)) _ t₁))

  spread_rule : (at : ℕ) (fs : Fields) → plain_spread fs ≡ true → free_fields is_foreign fs ≡ true → PlainPart (node at 26 fs)
  spread_rule at done e g = differ (sym e)
  spread_rule at (absent fs) e g = differ (sym e)
  spread_rule at (field p fs) e g =
      spread_from at fs (one_rule p (and_left (plain_one p) (is_done fs) e) (and_left (free_piece is_foreign p) (free_fields is_foreign fs) g)) (and_right (plain_one p) (is_done fs) e)

  property_rule : (at : ℕ) (fs : Fields) → makes (node at 25 fs) ≡ true → fine_key (node at 25 fs) ≡ true → plain_property fs ≡ true → free_fields is_foreign fs ≡ true → PlainPart (node at 25 fs)
  property_rule at done m y e g = differ (sym e)
  property_rule at (absent fs) m y e g = differ (sym e)
  property_rule at (field p fs) m y e g =
      property_from at p (and_left (is_node p) (plain_value_of fs) e)
      (value_rule fs (and_right (is_node p) (plain_value_of fs) e) (and_right (free_piece is_foreign p) (free_fields is_foreign fs) g)) m y
      (and_left (free_piece is_foreign p) (free_fields is_foreign fs) g)

  value_rule : (fs : Fields) → plain_value_of fs ≡ true → free_fields is_foreign fs ≡ true → PlainValue fs
  value_rule done e g = differ (sym e)
  value_rule (absent fs) e g = differ (sym e)
  value_rule (field p fs) e g =
      value_from_lem fs (one_rule p (and_left (plain_one p) (is_flags fs) e) (and_left (free_piece is_foreign p) (free_fields is_foreign fs) g)) (and_right (plain_one p) (is_flags fs) e)

  one_rule : (p : Piece) → plain_one p ≡ true → free_piece is_foreign p ≡ true → PlainOne p
  one_rule (one n) e g = plain_one_lem (plain_rule n e g)
  one_rule (list ps) e g = differ (sym e)
  one_rule (text bs) e g = differ (sym e)
  one_rule (byte b) e g = differ (sym e)
  one_rule (mark b) e g = differ (sym e)
  one_rule (number b) e g = differ (sym e)
