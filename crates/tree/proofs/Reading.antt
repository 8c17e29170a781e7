-- The reader while it writes notes, case by case: what was read is what the definition gives, and the notes are those of the pass.
-- Assumes nothing.
use mathlib.Core.Path.{◌≡◌, refl, sym, ap, ap₂, ◌∙◌, subst}
use mathlib.Core.Bool.{Bool, true, false, ◌||◌}
use mathlib.Core.List.{List}
use Prim.Native.Nat.{ℕ, suc, ◌+◌, ◌-◌, ◌<◌, ◌≤◌}
use native.Mathlib.Omega.{arith}
use lib.Dec.{leb, ltb, eqb}
use lib.ListN.{length, replicate, length-replicate}
use borrow.Author.Tests.{ltb-true, leb-true, eq-eqb, ne_eqb}
use Rattle.tree.specs.Tree.{Node}
use Rattle.tree.specs.Grammar.{Field, kind_of, form_at, fields_of, map_ok}
use Rattle.tree.specs.Grammar.Stage.{input}
use Rattle.tree.specs.Rows.{fields_in_of}
use Rattle.tree.specs.Read.{Got, byte_at, wide_at, read_text, read_byte, read_mark, read_number, read_fields, read_node, read_tree}
use Rattle.tree.specs.Read.Got.{got, refused}
use Rattle.tree.specs.Look.{onward}
use Rattle.tree.specs.Note.{word, set_wide, rest_bit, Noting, noted, moved, closed, note_items, note_fields, note_node, zeros, filled}
use Rattle.tree.specs.Answer.{Answers, Peeked, Wide}
use Rattle.tree.specs.Reading.{leaf_of, plain, Told, ReadWhole, read_into}
use Rattle.tree.specs.declared.read.Reading.{Reading}
use Rattle.tree.specs.declared.read.Refusal.{Refusal}
use Rattle.std.proofs.Common.{Result, Ok, Err}
use Rattle.std.specs.Result.{is_err}
use Rattle.tree.specs.declared.read.Part.{Part}
use Rattle.tree.proofs.AnswerByNumber.{read_to, end_same, answer, answers_by, answer_is}
use Rattle.tree.proofs.HoldsOfRead.{Holds, of_accepted}
use Rattle.tree.proofs.Within.{wide_there, map_byte}
use Rattle.tree.proofs.Look.{layouts, form_alike, kind_at, on_fits, on_byte, on_wide}
use Rattle.tree.proofs.ReaderCycle.{node_fields}
use Rattle.tree.proofs.Noting.{fill_none}
use Rattle.tree.proofs.Passed.{fields_alike}

-- ---- what is told of a part

module _ {A : Type 0} where
  pub told_refused : (n : Refusal) (g : Got A) (notes : List ℕ) (t : Noting) → Err n ≡ answer g → Told (Err n) g notes t
  told_refused n g notes t e = record { answers = answers_by (Err n) g e; writes = λ p f. let w : ◌≡◌ {A = ℕ} 0 1 = cc in absurd (omega arith) }

  pub told_read : (p : Part) (g : Got A) (notes : List ℕ) (t : Noting) → read_to p.end p.mark ≡ answer g → noted notes p.end p.loud ≡ t → Told (Ok p) g notes t
  told_read p g notes t e f = record {
    answers = answers_by (read_to p.end p.mark) g e;
    writes = λ p' h.
        let x : p' ≡ p = cc in
        ap (λ (z : Part). noted notes z.end z.loud) x ∙ f;
  }

  pub told_as : {B : Type 0} (r : Result Part Refusal) (g : Got A) (h : Got B) (notes : List ℕ) (t u : Noting) → answer g ≡ answer h → t ≡ u → Told r g notes t → Told r h notes u
  told_as r g h notes t u e f v = record { answers = answers_by (plain r) h (answer_is (plain r) g v.answers ∙ e); writes = λ p z. v.writes p z ∙ f }

  module _ (r : Result Part Refusal) (g : Got A) (notes : List ℕ) (t : Noting) (v : Told r g notes t) where
    pub told_got : (p : Part) → r ≡ Ok p → read_to p.end p.mark ≡ answer g
    told_got p e = sym (ap plain e) ∙ answer_is (plain r) g v.answers

    pub told_not : (n : Refusal) → r ≡ Err n → Err n ≡ answer g
    told_not n e = sym (ap plain e) ∙ answer_is (plain r) g v.answers

  pub told_leaf : (a : Result Reading Refusal) (r : Result Part Refusal) (b : Bool) (g : Got A) (notes : List ℕ) (t : Noting) → r ≡ leaf_of a b → Answers a g → ((q k : ℕ) → read_to q k ≡ answer g → noted notes q b ≡ t) → Told r g notes t
  told_leaf (Ok x) r b g notes t e f h = subst (λ (z : Result Part Refusal). Told z g notes t) (sym e) (told_read _ g notes t (answer_is (Ok x) g f) (h x.end x.mark (answer_is (Ok x) g f)))
  told_leaf (Err n) r b g notes t e f h = subst (λ (z : Result Part Refusal). Told z g notes t) (sym e) (told_refused n g notes t (answer_is (Err n) g f))

  -- a property of the position that is read to
  gave : (P : ℕ → Type 0) (g : Got A) (q k : ℕ) → Holds (λ a q j. P q) g → read_to q k ≡ answer g → P q
  unfolding answer
  gave P (got a p j) q k h e = subst P (sym (end_same e)) h
  gave P (refused n) q k h e = let w : ◌≡◌ {A = ℕ} 0 1 = cc in absurd (omega arith)

module _ (l : List ℕ) where
  -- ---- fields without a node: n bytes on

  module _ (at k : ℕ) (notes : List ℕ) (b : Bool) where
    over : (n q : ℕ) → onward l at n ≡ q → noted notes q b ≡ moved l n (noted notes at b)
    over n q e = ap (λ (z : ℕ). noted notes z b) (sym e)

    pub text_moves : (q j : ℕ) → read_to q j ≡ answer (read_text l at k) → noted notes q b ≡ moved l (2 + wide_at l at) (noted notes at b)
    unfolding read_text
    text_moves q j e = over (2 + wide_at l at) q (gave (λ q. onward l at (2 + wide_at l at) ≡ q) (read_text l at k) q j (of_accepted (λ a q j. onward l at (2 + wide_at l at) ≡ q) (leb (at + 2 + wide_at l at) (length l)) _ λ t.
        let h : at + 2 + wide_at l at ≤ length l = leb-true _ _ t in
        let o : at + (2 + wide_at l at) ≡ at + 2 + wide_at l at = omega arith in
        on_fits l at (2 + wide_at l at) (omega arith) ∙ o) e)

    pub byte_moves : (low high q j : ℕ) → read_to q j ≡ answer (read_byte l low high at k) → noted notes q b ≡ moved l 1 (noted notes at b)
    unfolding read_byte
    byte_moves low high q j e = over 1 q (gave (λ q. onward l at 1 ≡ q) (read_byte l low high at k) q j
        (of_accepted (λ a q j. onward l at 1 ≡ q) (ltb (byte_at l at) 256) _ λ t.
        of_accepted (λ a q j. onward l at 1 ≡ q) (leb low (byte_at l at)) _ λ _.
        of_accepted (λ a q j. onward l at 1 ≡ q) (leb (byte_at l at) high) _ λ _. on_byte l at (ltb-true _ _ t)) e)

    pub mark_moves : (q j : ℕ) → read_to q j ≡ answer (read_mark l input at k) → noted notes q b ≡ moved l 2 (noted notes at b)
    unfolding read_mark
    mark_moves q j e = over 2 q (gave (λ q. onward l at 2 ≡ q) (read_mark l input at k) q j
        (of_accepted (λ a q j. onward l at 2 ≡ q) (ltb (wide_at l at) 65536) _ λ t.
        of_accepted (λ a q j. onward l at 2 ≡ q) (eqb (wide_at l at) k) _ λ _. on_wide l at (wide_there l at (ltb-true _ _ t))) e)

    pub number_moves : (q j : ℕ) → read_to q j ≡ answer (read_number l at k) → noted notes q b ≡ moved l 2 (noted notes at b)
    unfolding read_number
    number_moves q j e = over 2 q (gave (λ q. onward l at 2 ≡ q) (read_number l at k) q j
        (of_accepted (λ a q j. onward l at 2 ≡ q) (ltb (wide_at l at) 65536) _ λ t. on_wide l at (wide_there l at (ltb-true _ _ t))) e)

    -- a hole
    pub hole_moves : (kind : ℕ) → Peeked l at kind → kind ≡ 0 → noted notes (at + 1) b ≡ moved l 1 (noted notes at b)
    hole_moves kind p z = over 1 (at + 1) (on_byte l at (omega (arith, p.value)))

    -- the count of a list
    pub count_moves : (R : Noting → Noting) (lit h : Bool) (n : ℕ) → Wide l at n → n ≤ 65535 → note_items l R lit h n (noted notes (at + 2) b) ≡ note_items l R lit h (wide_at l at) (moved l 2 (noted notes at b))
    count_moves R lit h n w z =
        ap (λ (m : ℕ). note_items l R lit h m (noted notes (at + 2) b)) w.value
        ∙ ap (note_items l R lit h (wide_at l at)) (over 2 (at + 2) (on_wide l at (wide_there l at (omega (arith, w.value)))))

  -- ---- a node

  module _ (d p at k : ℕ) (loud : Bool) (notes : List ℕ) (kind form : ℕ) (look : Peeked l at kind) (found : form ≡ form_at input p kind)
      (stands : form ≡ 0 → ⊥) (deep : d ≡ 0 → ⊥) (map : ℕ) (next : Peeked l (at + 1) map) (ok : map_ok (fields_of form) map ≡ true)
      (row : ℕ) (rowed : fields_in_of row ≡ fields_of form) (rest : Bool) (rest_is : rest ≡ rest_bit kind map)
      (v : Result Part Refusal) (between : List ℕ) (below : Told v (read_fields l input (read_node l input (d - 1)) (fields_in_of row) map (at + 2) k) between (note_fields l (note_node l (d - 1)) (eqb kind 24) (fields_in_of row) map (noted notes (at + 2) rest)))
    where
      answered : answer (read_fields l input (read_node l input (d - 1)) (fields_in_of row) map (at + 2) k) ≡ answer (read_node l input d p at k)
      answered = node_fields l d p at k kind form look found map stands deep next ok row rowed

      pub node_not : (n : Refusal) (after : List ℕ) (t : Noting) → v ≡ Err n → Told (Err n) (read_node l input d p at k) after t
      node_not n after t e = told_refused n (read_node l input d p at k) after t (told_not v _ between _ below n e ∙ answered)

      -- the pass over the fields of the kind is that over the fields of the form
      entered : (t : Noting) → t ≡ note_fields l (note_node l (d - 1)) (eqb kind 24) (fields_in_of row) map (noted notes (at + 2) rest) → closed at loud t ≡ note_node l d (noted notes at loud)
      unfolding note_node
      entered t h =
          let inside : at + 1 < length l = next.within (omega (arith, map_byte form map ok)) in
          let b : kind ≡ byte_at l at = look.value in
          let z : d ≡ suc (d - 1) = omega arith in
          let alike : layouts (fields_of form) ≡ layouts (fields_of kind) =
          form_alike form ∙ ap (λ (x : ℕ). layouts (fields_of x)) (ap kind_of found ∙ kind_at input p kind (omega arith)) in
          ap (closed at loud)
          (h
          ∙ ap (λ (fs : List Field). note_fields l (note_node l (d - 1)) (eqb kind 24) fs map (noted notes (at + 2) rest)) rowed
          ∙ fields_alike l (note_node l (d - 1)) (eqb kind 24) (fields_of form) (fields_of kind) map (noted notes (at + 2) rest) alike
          ∙ rw (rest_is, next.value, b) refl)
          ∙ ap₂ (λ (x y : ℕ). closed at loud (note_fields l (note_node l (d - 1)) (eqb (byte_at l at) 24) (fields_of (byte_at l at)) (byte_at l x) (noted notes y (rest_bit (byte_at l at) (byte_at l x))))) (sym (on_fits l at 1 (omega arith))) (sym (on_fits l at 2 (omega arith)))
          ∙ ap (λ (x : ℕ). note_node l x (noted notes at loud)) (sym z)

      pub node_got : (x : Part) (w : ℕ) (y : Bool) (after : List ℕ) → v ≡ Ok x → w ≡ word x.end x.loud → after ≡ set_wide between at w → y ≡ (loud || x.loud)
          → Told (Ok (record { end = x.end; mark = x.mark; loud = y })) (read_node l input d p at k) after (note_node l d (noted notes at loud))
      node_got x w y after e f g h =
          told_read _ (read_node l input d p at k) after (note_node l d (noted notes at loud)) (told_got v _ between _ below x e ∙ answered)
          (ap₂ (λ (m : List ℕ) (c : Bool). noted m x.end c) (g ∙ ap (set_wide between at) f) h ∙ entered (noted between x.end x.loud) (below.writes x e))

  -- ---- the whole input

  module _ (d : ℕ) (before after : List ℕ) where
    pub whole_refused : (n : Refusal) → Err n ≡ answer (read_tree input d l) → ReadWhole d l (Err n) before after
    whole_refused n e = record { answers = answers_by (Err n) (read_tree input d l) e; writes = λ x f. let w : ◌≡◌ {A = ℕ} 0 1 = cc in absurd (omega arith) }

    pub whole_read : (q k : ℕ) (b : Bool) → read_to q k ≡ answer (read_tree input d l) → noted after q b ≡ note_node l d (noted before 0 false) → ReadWhole d l (read_to q k) before after
    whole_read q k b e f = record { answers = answers_by (read_to q k) (read_tree input d l) e; writes = λ _ _. ap (λ (t : Noting). t.notes) f }

-- ---- what the tree is read into

module _ (g : Got Node) (d : ℕ) (tree room x : List ℕ) where
  pub into_got : (q k : ℕ) → read_to q k ≡ answer g → x ≡ filled d tree room → x ≡ read_into g d tree room
  unfolding read_into answer
  into_got q k e f = go g e
    where
      go : (h : Got Node) → read_to q k ≡ answer h → x ≡ read_into h d tree room
      go (got n p j) e = f
      go (refused r) e = let w : ◌≡◌ {A = ℕ} 0 1 = cc in absurd (omega arith)

  pub into_not : (n : Refusal) (y : List ℕ) → Err n ≡ answer g → length tree ≤ length room → length room - length tree ≡ length tree → x ≡ zeros y → length x ≡ length room → x ≡ read_into g d tree room
  unfolding read_into answer zeros
  into_not n y e a b f h = go g e
    where
      go : (h : Got Node) → Err n ≡ answer h → x ≡ read_into h d tree room
      go (got a p j) e = let w : ◌≡◌ {A = ℕ} 0 1 = cc in absurd (omega arith)
      go (refused r) e =
          let o : length y ≡ length room = sym (length-replicate (length y) 0) ∙ sym (ap length f) ∙ h in
          rw (eq-eqb (length room) (length tree + length tree) (omega arith)) (f ∙ ap (λ (k : ℕ). replicate k 0) o)

  -- by the test of the answer r
  module _ (r : Result Reading Refusal) (is : r ≡ answer g) where
    pub into_read : is_err r ≡ false → ((y : Reading) → r ≡ Ok y → x ≡ filled d tree room) → x ≡ read_into g d tree room
    into_read = go r is
      where
        go : (r : Result Reading Refusal) → r ≡ answer g → is_err r ≡ false → ((y : Reading) → r ≡ Ok y → x ≡ filled d tree room) → x ≡ read_into g d tree room
        go (Ok y) e f h = into_got y.end y.mark e (h y refl)
        go (Err n) e f h = let w : ◌≡◌ {A = ℕ} 0 1 = cc in absurd (omega arith)

    pub into_refused : (y : List ℕ) → is_err r ≡ true → length tree ≤ length room → length room - length tree ≡ length tree → x ≡ zeros y → length x ≡ length room → x ≡ read_into g d tree room
    into_refused y = go r is
      where
        go : (r : Result Reading Refusal) → r ≡ answer g → is_err r ≡ true → length tree ≤ length room → length room - length tree ≡ length tree → x ≡ zeros y → length x ≡ length room → x ≡ read_into g d tree room
        go (Ok z) e f a b h v = let w : ◌≡◌ {A = ℕ} 0 1 = cc in absurd (omega arith)
        go (Err n) e f a b h v = into_not n y e a b h v

pub into_other : (g : Got Node) (d : ℕ) (tree room : List ℕ) → (length room ≡ length tree + length tree → ⊥) → room ≡ read_into g d tree room
unfolding read_into
into_other (got n q k) d tree room h = fill_none d tree room h
into_other (refused r) d tree room h = rw (ne_eqb (length room) (length tree + length tree) h)
