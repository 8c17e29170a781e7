-- Whatever is drawn fits the grammar, its marks count on, it has no more levels than were left, and few nodes and bytes.
-- Assumes nothing.
use Rattle.std.proofs.Common.{◌≡◌, ℕ, zero, suc, ◌+◌, ◌-◌, ◌*◌, ◌%◌, ◌<◌, ◌≤◌, max, Bool, true, false, cond, ◌||◌, T, eqb, ltb, leb, List, [], ◌∷◌, ◌++◌, length, sym, refl, ◌∙◌, mod-lt, arith, ltb→lt, leb→le, length-append, eq-eqb}
use native.Mathlib.Nat.{max-le}
use native.Mathlib.Decide.{dec_lt}
use borrow.Author.Tests.{lt-leb}
use Rattle.tree.specs.Tree.{Node, Fields, Piece, Items, encode, encode_fields, encode_piece, encode_items, count, depth, depth_fields, depth_piece, depth_items, marks, marks_fields, marks_piece, marks_items}
use Rattle.tree.specs.Tree.Node.{node}
use Rattle.tree.specs.Tree.Fields.{done, absent, field}
use Rattle.tree.specs.Tree.Piece.{one, list, text, byte, mark, number}
use Rattle.tree.specs.Tree.Items.{none, hole, item}
use Rattle.tree.specs.Grammar.{Sort, Field, form_at, fields_of}
use Rattle.tree.specs.Grammar.Sort.{child, chosen, many, gaps}
use Rattle.tree.specs.Grammar.Field.{must, may}
use Rattle.tree.specs.Grammar.Stage.{input}
use Rattle.tree.specs.Read.{sort_in}
use Rattle.tree.specs.WellFormed.{Bytes, byte_in, Fits, FitFields, FitPiece, FitItems, Counts}
use Rattle.tree.proofs.Table.{both_left, both_right}
use Rattle.tree.proofs.Sound.{counts_append, never}
use Rattle.drawing.specs.Xorshift.{step}
use Rattle.drawing.specs.Draw.{Drawn, mapped, before, draw_items, draw_list, draw_text, draw_number, draw_mark, draw_byte, draw_field, draw_fields, draw_node, ends, kind_at, state_at, stands_at_of, settled_state, rising}
use Rattle.drawing.specs.Draw.Drawn.{drawn}
use Rattle.drawing.proofs.Steps.{Live, never_zero}
use Rattle.drawing.proofs.HoldsOfDrawn.{Holds, weaker, turned, next, behind, either}
use Rattle.drawing.proofs.Asks.{sort_asks, asks, few, late, late_sort, own, own_sort, valid, ready, low_fields, low_right_lem, low_late, few_small, kind_stands, kind_low, kind_cut, fields_right, late_small, own_small}

-- ---- how many nodes

unfoldable mutual
  pub nodes : Node → ℕ
  nodes (node at kind fs) = suc (nodes_fields fs)

  pub nodes_fields : Fields → ℕ
  nodes_fields done = 0
  nodes_fields (absent fs) = nodes_fields fs
  nodes_fields (field p fs) = nodes_piece p + nodes_fields fs

  pub nodes_piece : Piece → ℕ
  nodes_piece (one n) = nodes n
  nodes_piece (list is) = nodes_items is
  nodes_piece (text bs) = 0
  nodes_piece (byte b) = 0
  nodes_piece (mark m) = 0
  nodes_piece (number m) = 0

  pub nodes_items : Items → ℕ
  nodes_items none = 0
  nodes_items (hole is) = nodes_items is
  nodes_items (item n is) = nodes n + nodes_items is

-- ---- what is said of a part: it fits, its marks count from k up to the next

pub record Fine (k k' : ℕ) (F : Type 0) (ms : List ℕ) : Type 0 where
  pub shape : F
  pub end : k' ≡ k + length ms
  pub counts : Counts k ms k'

-- From the state s, b nodes to be begun and the mark k. F is that it fits, ms are its marks, x its levels, n its nodes: at most w more
-- than were to be begun, and at most u where none were; len are its bytes: `rest`, and nine for each node.
pub record Good (d s b k s' b' k' : ℕ) (F : Type 0) (ms : List ℕ) (x n w u len rest : ℕ) : Type 0 where
  pub live : Live s → Live s'
  pub fit : k + length ms < 65536 → Fine k k' F ms
  pub level : x ≤ d
  pub spent : b' ≡ b - n
  pub over : n ≤ b + w
  pub cut : b ≡ 0 → n ≤ u
  pub size : len ≤ rest + 9 * n
  pub pairs : 2 * length ms ≤ len

-- nothing below it, no mark
plain : {d s b k s' : ℕ} {F : Type 0} {w u len rest : ℕ} → (Live s → Live s') → F → len ≤ rest → Good d s b k s' b k F [] 0 0 w u len rest
unfolding Counts
plain g f h = record {
  live = g;
  fit = λ _. record { shape = f; end = omega arith; counts = refl };
  level = omega arith;
  spent = omega arith;
  over = omega arith;
  cut = λ _. omega arith;
  size = omega arith;
  pairs = omega arith;
}

both_over : (b b₁ n m w₁ w₂ w u₂ : ℕ) → n ≤ b + w₁ → b₁ ≡ b - n → m ≤ b₁ + w₂ → (b₁ ≡ 0 → m ≤ u₂) → w₁ + u₂ ≤ w → w₂ ≤ w → n + m ≤ b + w
both_over b b₁ n m w₁ w₂ w u₂ p e q c h i = elim (dec_lt 0 b₁) [ yes g ↦ omega arith | no g ↦ let z : m ≤ u₂ = c (omega arith) in omega arith ]

both_fit : (k k₁ k₂ : ℕ) (F G : Type 0) (ms ns : List ℕ) → (k + length ms < 65536 → Fine k k₁ F ms) → (k₁ + length ns < 65536 → Fine k₁ k₂ G ns) → k + length (ms ++ ns) < 65536 → Fine k k₂ (F × G) (ms ++ ns)
both_fit k k₁ k₂ F G ms ns p q h =
    let l : length (ms ++ ns) ≡ length ms + length ns = length-append ms ns in
    let f : Fine k k₁ F ms = p (omega arith) in
    let e : k₁ ≡ k + length ms = f.end in
    let g : Fine k₁ k₂ G ns = q (omega arith) in
    let e' : k₂ ≡ k₁ + length ns = g.end in
    record { shape = (f.shape, g.shape); end = omega arith; counts = counts_append k ms ns k₁ k₂ f.counts g.counts }

-- one part after the other
both_good : {d s b k s₁ b₁ k₁ s₂ b₂ k₂ : ℕ} {F G : Type 0} {ms ns : List ℕ} {x y n m w₁ w₂ u₁ u₂ len₁ len₂ rest₁ rest₂ : ℕ} (w u : ℕ) → w₁ + u₂ ≤ w → w₂ ≤ w → u₁ + u₂ ≤ u
    → Good d s b k s₁ b₁ k₁ F ms x n w₁ u₁ len₁ rest₁ → Good d s₁ b₁ k₁ s₂ b₂ k₂ G ns y m w₂ u₂ len₂ rest₂
    → Good d s b k s₂ b₂ k₂ (F × G) (ms ++ ns) (max x y) (n + m) w u (len₁ + len₂) (rest₁ + rest₂)
both_good {d} {s} {b} {k} {s₁} {b₁} {k₁} {s₂} {b₂} {k₂} {F} {G} {ms} {ns} {x} {y} {n} {m} {w₁} {w₂} {u₁} {u₂} {len₁} {len₂} {rest₁} {rest₂} w u h i j g e = record {
  live = λ l. e.live (g.live l);
  fit = both_fit k k₁ k₂ F G ms ns g.fit e.fit;
  level = max-le g.level e.level;
  spent = omega (arith, g.spent, e.spent);
  over = both_over b b₁ n m w₁ w₂ w u₂ g.over g.spent e.over e.cut h i;
  cut = λ z. omega (arith, g.cut z, e.cut (omega (arith, g.spent)));
  size = omega (arith, g.size, e.size);
  pairs = omega (arith, g.pairs, e.pairs, length-append ms ns);
}

good_as : {d s b k s' b' k' : ℕ} {F G : Type 0} {ms : List ℕ} {x n w w' u u' len len' rest rest' : ℕ} → (F → G) → w ≤ w' → (b ≡ 0 → u ≤ u') → rest ≤ rest' → len' ≡ len
    → Good d s b k s' b' k' F ms x n w u len rest → Good d s b k s' b' k' G ms x n w' u' len' rest'
good_as f h i j e g = record {
  live = g.live;
  fit = λ l. record { shape = f (g.fit l).shape; end = (g.fit l).end; counts = (g.fit l).counts };
  level = g.level;
  spent = g.spent;
  over = omega (arith, g.over);
  cut = λ z. omega (arith, g.cut z, i z);
  size = omega (arith, g.size);
  pairs = omega (arith, g.pairs);
}

-- after a step of the state
stepped : {d s b k s' b' k' : ℕ} {F : Type 0} {ms : List ℕ} {x n w u len rest : ℕ} → Good d (step s) b k s' b' k' F ms x n w u len rest → Good d s b k s' b' k' F ms x n w u len rest
stepped {s = s} g = record { live = λ l. g.live (never_zero s l); fit = g.fit; level = g.level; spent = g.spent; over = g.over; cut = g.cut; size = g.size; pairs = g.pairs }

-- with two bytes before it
longer : {d s b k s' b' k' : ℕ} {F : Type 0} {ms : List ℕ} {x n w u len : ℕ} → Good d s b k s' b' k' F ms x n w u len 0 → Good d s b k s' b' k' F ms x n w u (suc (suc len)) 2
longer g = record { live = g.live; fit = g.fit; level = g.level; spent = g.spent; over = g.over; cut = g.cut; size = omega (arith, g.size); pairs = omega (arith, g.pairs) }

marked : (d s b k v : ℕ) → Good d s b k s b (suc k % 65536) (FitPiece input v Sort.mark (mark k)) (k ∷ []) 0 0 (13 * d + 9) 0 2 2
unfolding Counts
marked d s b k v = record {
  live = λ l. l;
  fit = λ h. record { shape = FitPiece.mark {m = k} (omega arith); end = omega arith; counts = (refl, omega arith) };
  level = omega arith;
  spent = omega arith;
  over = omega arith;
  cut = λ _. omega arith;
  size = omega arith;
  pairs = omega arith;
}

-- ---- the parts of a tree, whose nodes have d levels

abbrev pub GoodNode : ℕ → ℕ → ℕ → ℕ → ℕ → Node → ℕ → ℕ → ℕ → Type 0
GoodNode d p s b k n s' b' k' = Good d s b k s' b' k' (Fits input p n) (marks n) (depth n) (nodes n) (13 * d) (few p) (length (encode n)) 0

abbrev GoodItems : ℕ → ℕ → Bool → ℕ → ℕ → ℕ → ℕ → Items → ℕ → ℕ → ℕ → Type 0
GoodItems d p h m s b k is s' b' k' = Good d s b k s' b' k' (FitItems input p h is × (count is ≤ m)) (marks_items is) (depth_items is) (nodes_items is) (13 * d + 3 * m) (3 * m) (length (encode_items is)) 0

abbrev GoodList : ℕ → ℕ → Bool → ℕ → ℕ → ℕ → Items → ℕ → ℕ → ℕ → Type 0
GoodList d p h s b k is s' b' k' = Good d s b k s' b' k' (FitItems input p h is × (count is ≤ 3)) (marks_items is) (depth_items is) (nodes_items is) (13 * d + 9) 0 (length (encode_items is)) 0

abbrev GoodPiece : ℕ → ℕ → Sort → ℕ → ℕ → ℕ → Piece → ℕ → ℕ → ℕ → Type 0
GoodPiece d v t s b k p s' b' k' = Good d s b k s' b' k' (FitPiece input v t p) (marks_piece p) (depth_piece p) (nodes_piece p) (13 * d + 9) (late_sort t) (length (encode_piece p)) (own_sort t)

abbrev GoodFields : ℕ → ℕ → List Field → ℕ → ℕ → ℕ → Fields → ℕ → ℕ → ℕ → Type 0
GoodFields d v fs s b k gs s' b' k' = Good d s b k s' b' k' (FitFields input v fs gs) (marks_fields gs) (depth_fields gs) (nodes_fields gs) (13 * d + 9 + late fs) (late fs) (length (encode_fields gs)) (own fs)

-- ---- what is not cut short

-- some nodes are still to be begun
begun : (deep : Bool) (b : ℕ) → ends deep b ≡ false → b ≡ 0 → ⊥
unfolding ends
begun true b e z = never (sym e)
begun false b e z = never (sym e ∙ eq-eqb b 0 z)

-- it is not deep
shallow : (deep : Bool) (b : ℕ) (c : Bool) → ends deep b ≡ false → T (deep || c) → T c
unfolding ends
shallow true b c e t = never (sym e)
shallow false b c e t = t

-- ---- lists

module _ (d p : ℕ) (h : Bool) (small : few p ≤ 3) (r : ℕ → ℕ → ℕ → Drawn Node) (good : (s b k : ℕ) → Holds (GoodNode d p s b k) (r s b k)) where
  items_good : (n s b k : ℕ) → Holds (GoodItems d p h n s b k) (draw_items r n s b k)
  unfolding draw_items marks_items depth_items nodes_items encode_items count
  items_good zero s b k = plain (λ l. l) (FitItems.none, omega arith) (omega arith)
  items_good (suc n) s b k =
      next (GoodNode d p s b k) (GoodItems d p h (suc n) s b k) (λ x is. item x is) (r s b k) (λ s' b' k'. draw_items r n s' b' k')
      (λ x s' b' k' g. weaker (GoodItems d p h n s' b' k') (λ c s'' b'' k''. GoodItems d p h (suc n) s b k (item x c) s'' b'' k'') (draw_items r n s' b' k') (λ is s'' b'' k'' gs.
      good_as (λ f. (FitItems.item f.0 f.1.0, omega (arith, f.1.1))) (omega arith) (λ _. omega arith) (omega arith) (length-append (encode x) (encode_items is))
      (both_good (13 * d + 3 * suc n) (3 * suc n) (omega arith) (omega arith) (omega arith) g gs)) (items_good n s' b' k'))
      (good s b k)

  list_good : (deep : Bool) (s b k : ℕ) → Holds (GoodList d p h s b k) (draw_list r deep s b k)
  unfolding draw_list marks_items depth_items nodes_items encode_items count
  list_good deep s b k =
      either (GoodList d p h s b k) (ends deep b) (drawn none s b k) (draw_items r (step s % 4) (step s) b k)
      (λ e. plain (λ l. l) (FitItems.none, omega arith) (omega arith))
      (λ e. weaker (GoodItems d p h (step s % 4) (step s) b k) (GoodList d p h s b k) (draw_items r (step s % 4) (step s) b k)
      (λ is s' b' k' g. stepped (good_as (λ f. (f.0, omega (arith, f.1, mod-lt (step s) {m = 4} (omega arith)))) (omega (arith, mod-lt (step s) {m = 4} (omega arith))) (λ z. absurd (begun deep b e z)) (omega arith) refl g))
      (items_good (step s % 4) (step s) b k))

-- ---- pieces

-- d are the levels of the nodes below, r draws them, and is good where `ok` says so
module _ (d : ℕ) (deep : Bool) (ok : ℕ → Bool) (small : (p : ℕ) → T (ok p) → few p ≤ 3) (r : ℕ → ℕ → ℕ → ℕ → Drawn Node) (good : (p : ℕ) → T (ok p) → (s b k : ℕ) → Holds (GoodNode d p s b k) (r p s b k)) where
  -- a list has no items where it is deep
  any_list : (c : Bool) (p : ℕ) (h : Bool) (s b k : ℕ) → T (c || ok p) → Holds (GoodList d p h s b k) (draw_list (r p) c s b k)
  unfolding draw_list ends marks_items depth_items nodes_items encode_items count
  any_list true p h s b k t = plain (λ l. l) (FitItems.none, omega arith) (omega arith)
  any_list false p h s b k t = list_good d p h (small p t) (r p) (good p t) false s b k

  chosen_at : (v p q : ℕ) (c : Bool) → T (ok p) → T (ok q) → T (ok (cond c p q))
  chosen_at v p q true x y = x
  chosen_at v p q false x y = y

  chosen_few : (p q : ℕ) (c : Bool) → few (cond c p q) ≤ few p + few q
  chosen_few p q true = omega arith
  chosen_few p q false = omega arith

  byte_good : (low high v s b k : ℕ) → low ≤ high → high < 256 → Holds (GoodPiece d v (Sort.byte low high) s b k) (draw_byte low high s b k)
  unfolding draw_byte marks_piece depth_piece nodes_piece encode_piece own_sort
  byte_good low high v s b k h i =
      either (GoodPiece d v (Sort.byte low high) s b k) (leb high low) (drawn (byte low) s b k) (drawn (byte (low + step s % suc (high - low))) (step s) b k)
      (λ e. plain (λ l. l) (FitPiece.byte (omega arith) h (omega arith)) (omega arith))
      (λ e.
      let m : step s % suc (high - low) < suc (high - low) = mod-lt (step s) {m = suc (high - low)} (omega arith) in
      plain (never_zero s) (FitPiece.byte (omega arith) (omega arith) (omega arith)) (omega arith))

  piece_good : (t : Sort) (v s b k : ℕ) → T (sort_asks deep ok t) → Holds (GoodPiece d v t s b k) (draw_field r deep v t s b k)
  unfolding sort_asks draw_field draw_text draw_number draw_mark late_sort own_sort marks_piece depth_piece nodes_piece encode_piece Counts Bytes
  piece_good (child p) v s b k t =
      turned (GoodNode d p s b k) (GoodPiece d v (child p) s b k) one (r p s b k)
      (λ n s' b' k' g. good_as (λ f. FitPiece.child f) (omega arith) (λ _. omega arith) (omega arith) refl g) (good p t s b k)
  piece_good (chosen p q) v s b k t =
      turned (GoodNode d (cond (eqb v 1) p q) s b k) (GoodPiece d v (chosen p q) s b k) one (r (cond (eqb v 1) p q) s b k)
      (λ n s' b' k' g. good_as (λ f. FitPiece.chosen f) (omega arith) (λ _. chosen_few p q (eqb v 1)) (omega arith) refl g)
      (good (cond (eqb v 1) p q) (chosen_at v p q (eqb v 1) (both_left (ok p) (ok q) t) (both_right (ok p) (ok q) t)) s b k)
  piece_good (many p) v s b k t =
      turned (GoodList d p false s b k) (GoodPiece d v (many p) s b k) list (draw_list (r p) deep s b k)
      (λ is s' b' k' g. longer (good_as (λ f. FitPiece.many (omega (arith, f.1)) f.0) (omega arith) (λ _. omega arith) (omega arith) refl g)) (any_list deep p false s b k t)
  piece_good (gaps p) v s b k t =
      turned (GoodList d p true s b k) (GoodPiece d v (gaps p) s b k) list (draw_list (r p) deep s b k)
      (λ is s' b' k' g. longer (good_as (λ f. FitPiece.gaps (omega (arith, f.1)) f.0) (omega arith) (λ _. omega arith) (omega arith) refl g)) (any_list deep p true s b k t)
  piece_good Sort.text v s b k t =
      let m : step s % 26 < 26 = mod-lt (step s) {m = 26} (omega arith) in
      plain (never_zero s) (FitPiece.text (omega arith) (omega arith, tt)) (omega arith)
  piece_good (Sort.byte low high) v s b k t = byte_good low high v s b k (leb→le low high (both_left (leb low high) (ltb high 256) t)) (ltb→lt high 256 (both_right (leb low high) (ltb high 256) t))
  piece_good Sort.mark v s b k t = marked d s b k v
  piece_good Sort.number v s b k t = plain (never_zero s) (FitPiece.number (mod-lt (step s) {m = 65536} (omega arith))) (omega arith)

  -- ---- fields

  before_good : (f : Field) (fs : List Field) (v s b k much w u : ℕ) (g : Drawn Piece) (rest : ℕ → ℕ → ℕ → ℕ → Drawn Fields) → 13 * d + 9 + (much + late fs) ≤ w → much + late fs ≤ u
      → Holds (λ p s' b' k'. Good d s b k s' b' k' (FitPiece input v (sort_in f) p) (marks_piece p) (depth_piece p) (nodes_piece p) (13 * d + 9) much (length (encode_piece p)) (own_sort (sort_in f))) g
      → ((c s' b' k' : ℕ) → Holds (GoodFields d c fs s' b' k') (rest c s' b' k'))
      → Holds (λ gs s' b' k'. Good d s b k s' b' k' (FitFields input v (f ∷ fs) gs) (marks_fields gs) (depth_fields gs) (nodes_fields gs) w u (length (encode_fields gs)) (own_sort (sort_in f) + own fs)) (before g rest)
  unfolding marks_fields depth_fields nodes_fields encode_fields
  before_good f fs v s b k much w u g rest hw hu hg hr =
      behind (λ p s' b' k'. Good d s b k s' b' k' (FitPiece input v (sort_in f) p) (marks_piece p) (depth_piece p) (nodes_piece p) (13 * d + 9) much (length (encode_piece p)) (own_sort (sort_in f)))
      (λ gs s' b' k'. Good d s b k s' b' k' (FitFields input v (f ∷ fs) gs) (marks_fields gs) (depth_fields gs) (nodes_fields gs) w u (length (encode_fields gs)) (own_sort (sort_in f) + own fs)) g rest
      (λ p s' b' k' h. weaker (GoodFields d (byte_in p) fs s' b' k') (λ gs s'' b'' k''. Good d s b k s'' b'' k'' (FitFields input v (f ∷ fs) (field p gs)) (marks_piece p ++ marks_fields gs) (max (depth_piece p) (depth_fields gs)) (nodes_piece p + nodes_fields gs) w u (length (encode_piece p ++ encode_fields gs)) (own_sort (sort_in f) + own fs)) (rest (byte_in p) s' b' k')
      (λ gs s'' b'' k'' i. good_as (λ x. FitFields.field x.0 x.1) (omega arith) (λ _. omega arith) (omega arith) (length-append (encode_piece p) (encode_fields gs))
      (both_good w u (omega arith) (omega arith) (omega arith) h i))
      (hr (byte_in p) s' b' k')) hg

  absent_good : (t : Sort) (fs : List Field) (v s b k : ℕ) (g : Drawn Fields) → Holds (GoodFields d 0 fs s b k) g → Holds (GoodFields d v (may t ∷ fs) s b k) (mapped absent g)
  unfolding marks_fields depth_fields nodes_fields encode_fields late own
  absent_good t fs v s b k g h =
      turned (GoodFields d 0 fs s b k) (GoodFields d v (may t ∷ fs) s b k) absent g
      (λ gs s' b' k' i. good_as (λ x. FitFields.absent x) (omega arith) (λ _. omega arith) (omega arith) refl i) h

  stepped_fields : (fs : List Field) (v s b k : ℕ) (g : Drawn Fields) → Holds (GoodFields d v fs (step s) b k) g → Holds (GoodFields d v fs s b k) g
  stepped_fields fs v s b k g h = weaker (GoodFields d v fs (step s) b k) (GoodFields d v fs s b k) g (λ gs s' b' k' i. stepped i) h

  may_good : (t : Sort) (fs : List Field) (v s b k : ℕ) → T (deep || sort_asks deep ok t) → ((c s' b' k' : ℕ) → Holds (GoodFields d c fs s' b' k') (draw_fields r deep fs c s' b' k')) → (c : Bool) → ends deep b ≡ c
      → Holds (GoodFields d v (may t ∷ fs) s b k)
      (cond (cond c false (eqb (step s % 2) 1)) (before (draw_field r deep v t (cond c s (step s)) b k) (λ w s' b' k'. draw_fields r deep fs w s' b' k')) (mapped absent (draw_fields r deep fs 0 (cond c s (step s)) b k)))
  unfolding late own
  may_good t fs v s b k a ih true e = absent_good t fs v s b k (draw_fields r deep fs 0 s b k) (ih 0 s b k)
  may_good t fs v s b k a ih false e =
      stepped_fields (may t ∷ fs) v s b k (cond (eqb (step s % 2) 1) (before (draw_field r deep v t (step s) b k) (λ w s' b' k'. draw_fields r deep fs w s' b' k')) (mapped absent (draw_fields r deep fs 0 (step s) b k)))
      (either (GoodFields d v (may t ∷ fs) (step s) b k) (eqb (step s % 2) 1) (before (draw_field r deep v t (step s) b k) (λ w s' b' k'. draw_fields r deep fs w s' b' k')) (mapped absent (draw_fields r deep fs 0 (step s) b k))
      (λ _. before_good (may t) fs v (step s) b k 0 (13 * d + 9 + late fs) (late fs) (draw_field r deep v t (step s) b k) (λ w s' b' k'. draw_fields r deep fs w s' b' k') (omega arith) (omega arith)
      (weaker (GoodPiece d v t (step s) b k) (λ p s' b' k'. Good d (step s) b k s' b' k' (FitPiece input v t p) (marks_piece p) (depth_piece p) (nodes_piece p) (13 * d + 9) 0 (length (encode_piece p)) (own_sort t)) (draw_field r deep v t (step s) b k)
      (λ p s' b' k' g. good_as (λ x. x) (omega arith) (λ z. absurd (begun deep b e z)) (omega arith) refl g)
      (piece_good t v (step s) b k (shallow deep b (sort_asks deep ok t) e a))) ih)
      (λ _. absent_good t fs v (step s) b k (draw_fields r deep fs 0 (step s) b k) (ih 0 (step s) b k)))

  fields_good : (fs : List Field) (v s b k : ℕ) → T (asks deep ok fs) → Holds (GoodFields d v fs s b k) (draw_fields r deep fs v s b k)
  unfolding asks draw_fields stands_at_of settled_state late own marks_fields depth_fields nodes_fields encode_fields
  fields_good [] v s b k a = plain (λ l. l) FitFields.done (omega arith)
  fields_good (must t ∷ fs) v s b k a =
      before_good (must t) fs v s b k (late_sort t) (13 * d + 9 + (late_sort t + late fs)) (late_sort t + late fs) (draw_field r deep v t s b k) (λ w s' b' k'. draw_fields r deep fs w s' b' k') (omega arith) (omega arith)
      (piece_good t v s b k (both_left (sort_asks deep ok t) (asks deep ok fs) a))
      (λ c s' b' k'. fields_good fs c s' b' k' (both_right (sort_asks deep ok t) (asks deep ok fs) a))
  fields_good (may t ∷ fs) v s b k a =
      may_good t fs v s b k (both_left (deep || sort_asks deep ok t) (asks deep ok fs) a)
      (λ c s' b' k'. fields_good fs c s' b' k' (both_right (deep || sort_asks deep ok t) (asks deep ok fs) a)) (ends deep b) refl

-- ---- nodes

-- where a node may be drawn with so many levels left
unfoldable pub ok : ℕ → ℕ → Bool
ok zero p = false
ok (suc zero) p = ready p
ok (suc (suc d)) p = valid p

ok_valid : (d p : ℕ) → T (ok d p) → T (valid p)
unfolding ok ready
ok_valid zero p t = absurd t
ok_valid (suc zero) p t = both_left (valid p) (asks true (λ q. false) (low_fields p)) t
ok_valid (suc (suc d)) p t = t

asks_below : (d p s b : ℕ) → T (ok (suc d) p) → T (asks (leb d 1) (ok d) (fields_of (form_at input p (kind_at (leb d 1) p s b))))
unfolding ok ready low_fields
asks_below zero p s b t = rw (kind_low p s b) (both_right (valid p) (asks true (λ q. false) (low_fields p)) t)
asks_below (suc zero) p s b t = rw (kind_low p s b) (low_right_lem p t)
asks_below (suc (suc d)) p s b t = rw (lt-leb (suc (suc d)) 1 (omega arith)) (fields_right (form_at input p (kind_at false p s b)))

state_live : (deep : Bool) (p s b : ℕ) → Live s → Live (state_at deep p s b)
unfolding state_at
state_live deep p s b l = go (leb (length (rising p)) 1) (ends deep b)
  where
    go : (c e : Bool) → Live (cond c s (cond e s (step s)))
    go true e = l
    go false true = l
    go false false = never_zero s l

cut_late : (deep : Bool) (p s b : ℕ) → T (valid p) → b ≡ 0 → late (fields_of (form_at input p (kind_at deep p s b))) < few p
unfolding low_fields
cut_late deep p s b v z = rw (z, kind_cut deep p s) (low_late p v)

node_of : (d p s b k : ℕ) (deep : Bool) (gs : Fields) (s' b' k' : ℕ) → T (valid p)
    → GoodFields d 0 (fields_of (form_at input p (kind_at deep p s b))) (state_at deep p s b) (b - 1) k gs s' b' k' → GoodNode (suc d) p s b k (node 0 (kind_at deep p s b) gs) s' b' k'
unfolding marks depth nodes encode
node_of d p s b k deep gs s' b' k' v g = record {
  live = λ l. g.live (state_live deep p s b l);
  fit = λ h. record { shape = Fits.fits (kind_stands p v deep s b) (g.fit h).shape; end = (g.fit h).end; counts = (g.fit h).counts };
  level = omega (arith, g.level);
  spent = omega (arith, g.spent);
  over = omega (arith, g.over, late_small (form_at input p (kind_at deep p s b)));
  cut = λ z. omega (arith, g.cut (omega arith), cut_late deep p s b v z);
  size = omega (arith, g.size, own_small (form_at input p (kind_at deep p s b)));
  pairs = omega (arith, g.pairs);
}

no_level : (p : ℕ) → T (ok zero p) → ⊥
unfolding ok
no_level p t = t

pub node_good : (d p : ℕ) → T (ok d p) → (s b k : ℕ) → Holds (GoodNode d p s b k) (draw_node d p s b k)
unfolding draw_node
node_good zero p t s b k = absurd (no_level p t)
node_good (suc d) p t s b k =
    turned (GoodFields d 0 (fields_of (form_at input p (kind_at (leb d 1) p s b))) (state_at (leb d 1) p s b) (b - 1) k) (GoodNode (suc d) p s b k) (node 0 (kind_at (leb d 1) p s b))
    (draw_fields (λ p' s' b' k'. draw_node d p' s' b' k') (leb d 1) (fields_of (form_at input p (kind_at (leb d 1) p s b))) 0 (state_at (leb d 1) p s b) (b - 1) k)
    (λ gs s' b' k' g. node_of d p s b k (leb d 1) gs s' b' k' (ok_valid (suc d) p t) g)
    (fields_good d (leb d 1) (ok d) (λ q u. few_small q (ok_valid d q u)) (λ p' s' b' k'. draw_node d p' s' b' k') (λ q u s' b' k'. node_good d q u s' b' k')
    (fields_of (form_at input p (kind_at (leb d 1) p s b))) 0 (state_at (leb d 1) p s b) (b - 1) k (asks_below d p s b t))
