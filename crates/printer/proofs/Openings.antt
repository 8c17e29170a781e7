-- What stands before a node's fields, piece by piece; a leaf has fewer pieces.
-- Assumes nothing.
use mathlib.Core.Path.{◌≡◌, refl, sym, ap, subst, ◌∙◌}
use mathlib.Core.Bool.{Bool, true, false, cond, ◌||◌}
use mathlib.Core.List.{List, [], ◌∷◌, ◌++◌, append-nil}
use Prim.Native.Nat.{ℕ, ◌%◌, ◌<◌}
use native.Mathlib.Omega.{arith}
use lib.Dec.{eqb}
use borrow.Author.Tests.{eqb-true, ne_eqb}
use Rattle.tree.specs.Grammar.{among}
use Rattle.printer.specs.Layout.{word, words, layout, head_of, chosen_word, valued}
use Rattle.printer.specs.Places.{manner_in, is_statement, is_wrapped, in_method_form, wrapping, leading, joining, noted_at, Plain, begun, computed, opening, is_filled}
use Rattle.printer.specs.Entries.{is_leaf_of}
use Rattle.printer.specs.Stacks.{Buffer, write}
use Rattle.printer.specs.declared.frame.Frame.{Frame}
use Rattle.printer.proofs.Around.{no_joining}
use Rattle.printer.proofs.PiecesWritten.{write_append}

-- ---- a quasi and what joins a child stand at manners 6 to 8

pub no_joint : (b : Buffer) (p : Frame) (q : List ℕ) (kind note : ℕ) → (manner_in p ≡ 6 → ⊥) → (manner_in p ≡ 7 → ⊥) → (manner_in p ≡ 8 → ⊥) → b ≡ write b (cond (is_filled p) q [] ++ word (joining p kind note))
unfolding is_filled joining write word words
no_joint b p q kind note x y z = rw (ne_eqb (manner_in p) 6 x, ← no_joining (cond (is_statement kind note) 52 0) (cond (eqb kind 2) 71 52) (manner_in p) x y z) refl

-- ---- a node

-- a parenthesis, and the bracket of a computed key
round : (w : Bool) (x : ℕ) → cond w 1 0 ≡ x → cond w (40 ∷ []) [] ≡ word (cond (eqb x 1) 64 0)
unfolding word words
round true x e = rw (sym e) refl
round false x e = rw (sym e) refl

square : (k : Bool) (x : ℕ) → x ≡ cond k 67 0 → cond k (91 ∷ []) [] ≡ word x
unfolding word words
square true x e = rw e refl
square false x e = rw e refl

module _ (p f : Frame) (kind map note : ℕ) (e : f ≡ begun p kind map note) where
  pub kind_is : (k : ℕ) → k ≡ f.kind → k ≡ kind
  unfolding begun
  kind_is k h = h ∙ ap (λ (g : Frame). g.kind) e

  pub own_kind : kind ≡ f.kind
  unfolding begun
  own_kind = sym (ap (λ (g : Frame). g.kind) e)

  note_is : (n : ℕ) → n ≡ f.note → n ≡ note
  unfolding begun
  note_is n h = h ∙ ap (λ (g : Frame). g.note) e

  head_is : (head first method : ℕ) → method ≡ in_method_form p kind map → head ≡ head_of kind → first ≡ chosen_word head f.note f.map f.seen method → first ≡ chosen_word (head_of kind) note map (noted_at p kind) (in_method_form p kind map)
  unfolding begun
  head_is head first method m h c = c ∙ ap (λ (g : Frame). chosen_word head g.note g.map g.seen method) e ∙ ap (λ (x : ℕ). chosen_word x note map (noted_at p kind) method) h ∙ ap (chosen_word (head_of kind) note map (noted_at p kind)) m

  pub opened : (b : Buffer) {b₁ b₂ b₃ b₄ b₅ : Buffer} (q : List ℕ) (wrapped key : Bool) {lead head first method k k₂ n : ℕ} → lead ≡ leading p kind map → method ≡ in_method_form p kind map → head ≡ head_of kind → cond wrapped 1 0 ≡ wrapping p kind map note → k ≡ f.kind → k₂ ≡ f.kind → n ≡ f.note → first ≡ chosen_word head f.note f.map f.seen method → computed k₂ n ≡ cond key 67 0 → b₁ ≡ write b (word lead) → b₂ ≡ write b₁ (q ++ word (joining p k note)) → b₃ ≡ write b₂ (cond wrapped (40 ∷ []) []) → b₄ ≡ write b₃ (word first) → b₅ ≡ write b₄ (cond key (91 ∷ []) []) → b₅ ≡ write b (opening p kind map note q)
  unfolding opening
  opened b q wrapped key {head = head} {first} {method} {k} {k₂} {n} hl hm hh hw hk hk₂ hn hf hc e₁ e₂ e₃ e₄ e₅ =
      rw (e₅, e₄, e₃, e₂, e₁, hl, kind_is k hk, round wrapped _ hw, head_is head first method hm hh hf, square key _ hc, kind_is k₂ hk₂, note_is n hn) (simp write_append)

-- ---- a plain place

none : (b : Bool) → ◌≡◌ {A = ℕ} 0 (cond b 0 0)
none true = refl
none false = refl

module _ (p : Frame) (m kind map note : ℕ) (plain : Plain m kind) (e : m ≡ manner_in p) where
  off : (k : ℕ) → 4 < k → k < 11 → manner_in p ≡ k → ⊥
  off k a b h = absurd (omega (arith, plain.manner (omega arith)))

  pub plain_method : 0 ≡ in_method_form p kind map
  unfolding in_method_form
  plain_method = rw (ne_eqb kind 14 plain.other) (none (eqb (manner_in p) valued))

  pub plain_seen : 0 ≡ noted_at p kind
  unfolding noted_at
  plain_seen = rw (ne_eqb (manner_in p) 9 (off 9 (omega arith) (omega arith)), ne_eqb (manner_in p) 10 (off 10 (omega arith) (omega arith))) refl

  pub unfilled : is_filled p ≡ false
  unfolding is_filled
  unfilled = rw (ne_eqb (manner_in p) 6 (off 6 (omega arith) (omega arith))) refl

  pub plain_joint : (b : Buffer) (q : List ℕ) → b ≡ write b (cond (is_filled p) q [] ++ word (joining p kind note))
  plain_joint b q = no_joint b p q kind note (off 6 (omega arith) (omega arith)) (off 7 (omega arith) (omega arith)) (off 8 (omega arith) (omega arith))

-- ---- a leaf

abbrev All : (ℕ → Type 0) → List ℕ → Type 0
All P [] = Unit {0}
All P (g ∷ gs) = P g × All P gs

among_all : (P : ℕ → Type 0) (gs : List ℕ) (k : ℕ) → among gs k ≡ true → All P gs → P k
unfolding among
among_all P [] k e a = let z : ◌≡◌ {A = ℕ} 0 1 = cc in absurd (omega arith)
among_all P (g ∷ gs) k e a = go (eqb g k) refl e (λ d. among_all P gs k d a.1)
  where
    go : (t : Bool) → eqb g k ≡ t → (t || among gs k) ≡ true → (among gs k ≡ true → P k) → P k
    go true h d r = subst P (eqb-true g k h) a.0
    go false h d r = r d

-- what holds of 18, 19, 22 and 38
leaves : (P : ℕ → Type 0) (kind : ℕ) → is_leaf_of kind ≡ true → P 18 → P 19 → P 22 → P 38 → P kind
unfolding is_leaf_of
leaves P kind e a b c d = among_all P (18 ∷ 19 ∷ 22 ∷ 38 ∷ []) kind e (a, (b, (c, (d, tt))))

pub reference_leaf : is_leaf_of 18 ≡ true
unfolding is_leaf_of among
reference_leaf = refl

module _ (p : Frame) (kind map note : ℕ) (leaf : is_leaf_of kind ≡ true) where
  pub leaf_statement : false ≡ is_statement kind note
  unfolding is_statement among
  leaf_statement = leaves (λ (k : ℕ). false ≡ is_statement k note) kind leaf refl refl refl refl

  pub leaf_method : 0 ≡ in_method_form p kind map
  unfolding in_method_form
  leaf_method = let z = none (eqb (manner_in p) valued) in leaves (λ (k : ℕ). 0 ≡ in_method_form p k map) kind leaf z z z z

  pub leaf_wrapping : 0 ≡ wrapping p kind map note
  unfolding wrapping is_wrapped among
  leaf_wrapping = leaves (λ (k : ℕ). 0 ≡ wrapping p k map note) kind leaf (none (eqb (in_method_form p 18 map) 0)) (none (eqb (in_method_form p 19 map) 0)) (none (eqb (in_method_form p 22 map) 0)) (none (eqb (in_method_form p 38 map) 0))

  leaf_joining : joining p 18 note ≡ joining p kind note
  unfolding joining is_statement among
  leaf_joining = leaves (λ (k : ℕ). joining p 18 note ≡ joining p k note) kind leaf refl refl refl refl

  leaf_head : (s o : ℕ) → word (chosen_word (head_of kind) note map s o) ≡ []
  unfolding word words chosen_word head_of layout
  leaf_head s o = leaves (λ (k : ℕ). word (chosen_word (head_of k) note map s o) ≡ []) kind leaf refl refl refl refl

  leaf_computed : 0 ≡ computed kind note
  unfolding computed
  leaf_computed = let z = none (eqb (note % 2) 1) in leaves (λ (k : ℕ). 0 ≡ computed k note) kind leaf z z z z

  pub leaf_opened : (b : Buffer) {b₁ b₂ : Buffer} (q : List ℕ) {lead : ℕ} → lead ≡ leading p kind map → b₁ ≡ write b (word lead) → b₂ ≡ write b₁ (q ++ word (joining p 18 note)) → b₂ ≡ write b (opening p kind map note q)
  unfolding opening word words
  leaf_opened b q hl e₁ e₂ =
      rw (e₂, e₁, hl, leaf_joining, ← leaf_wrapping, leaf_head, ← leaf_computed, append-nil) (simp write_append)
