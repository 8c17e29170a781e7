-- Each entry to its statement: the tables count the entries of each list and of each statement.
-- Assumes nothing.
use Prim.Native.Nat.{ℕ, zero, suc, ◌+◌, ◌<◌, ◌≤◌}
use mathlib.Core.Path.{◌≡◌, refl, sym, ap, ◌∙◌}
use mathlib.Core.List.{List, [], ◌∷◌, ◌++◌}
use mathlib.Core.Bool.{Bool, true, false, cond}
use mathlib.Core.Option.{Option, none, some}
use mathlib.Core.Logic.{inl, inr}
use native.Mathlib.Omega.{arith}
use lib.Dec.{eqb, ltb}
use lib.ListN.{length, get_or, set}
use lib.Seq.{get_or-set_same, get_or-set_other}
use borrow.Author.Tests.{eq-eqb, ne_eqb, lt-ltb, le-ltb, eqb-true, eqb-false}
use Rattle.tree.specs.Tree.{Node, Fields, Piece, Items, encode, encode_piece, marks, marks_fields, marks_piece, marks_items}
use Rattle.tree.specs.Tree.Node.{node}
use Rattle.tree.specs.Tree.Fields.{done, absent, field}
use Rattle.tree.specs.Tree.Piece.{one, list, text, byte, mark, number}
use Rattle.tree.specs.Tree.Items.{hole, item}
use Rattle.tree.specs.Grammar.{among}
use Rattle.tree.specs.Read.{wide_at}
use Rattle.tree.proofs.Sound.{never}
use Rattle.rewritten.proofs.Marks.{by_same}
use Rattle.lowering.specs.Collect.{Entry}
use Rattle.joining.specs.Join.{is_container, piece_mark, first_mark, own_mark, found_by, as_list, found, found_fields, found_piece, found_items, handed_to}
use Rattle.joining.specs.Answer.{all_found_of}
use Rattle.joining.specs.Tables.{stored, chain, searched}
use Rattle.joining.specs.Spots.{Spot, spot, place_of, statement_of, spotted, owned, spots, spots_fields, spots_piece, spots_items, tally, shares}
use Rattle.joining.specs.Files.{In, Files, times}
use Rattle.joining.specs.Settle.{bumped, Settled, settled, place_at, placed, settles, Stand, names}
use Rattle.std.specs.Prelude as prelude
use Rattle.std.specs.Prelude.{Some, None}
use Rattle.joining.specs.declared.search.Place.{Place}
use Rattle.joining.proofs.FallingChains.{put_in, stored_length, Has, Lacks, Ended, search_ends}
use Rattle.joining.proofs.Times.{times_append, among_times}

-- ---- the loop

module _ (tree l earlier holds before : List ℕ) (latest : ℕ) (ends : List ℕ) where
  abbrev S : ℕ → ℕ → List ℕ → List ℕ → Settled
  S = settles tree l earlier holds before latest ends

  pub settle_none : (n at : ℕ) (more held : List ℕ) (v : Settled) → S n at more held ≡ v → n ≤ 0 → settled true more held ≡ v
  unfolding settles
  settle_none zero at more held v w h = w
  settle_none (suc n) at more held v w h = absurd (omega arith)

  module _ (n k at : ℕ) (more held : List ℕ) (v : Settled) (w : S n at more held ≡ v) (h : n ≡ suc k) (m : ℕ) (em : m ≡ wide_at l at) (o : prelude.Option Place) (eo : o ≡ searched tree earlier holds before m latest) where
    settle_first : placed o (settled false more held) (λ p. S k (get_or ends at 0) (bumped more p.list) (bumped held p.statement)) ≡ v
    unfolding settles
    settle_first = rw (eo, em) (rw h at w)

    pub settle_lost : o ≡ None → settled false more held ≡ v
    settle_lost z = (rw z at settle_first)

    pub settle_next : (p : Place) → o ≡ Some p → (more' held' : List ℕ) (q : ℕ) → more' ≡ bumped more p.list → held' ≡ bumped held p.statement → q ≡ get_or ends at 0 → S k q more' held' ≡ v
    settle_next p z more' held' q a b c = rw (a, b, c) (rw z at settle_first)

pub settle_count : (tree l earlier holds before : List ℕ) (latest : ℕ) (ends : List ℕ) (n m at : ℕ) (more held : List ℕ) → n ≡ m → settles tree l earlier holds before latest ends n at more held ≡ settles tree l earlier holds before latest ends m at more held
settle_count tree l earlier holds before latest ends n m at more held e = ap (λ (x : ℕ). settles tree l earlier holds before latest ends x at more held) e

pub bump_is : (t t' : List ℕ) (i n : ℕ) → n ≡ get_or t i 0 → t' ≡ stored t i (n + 1) → t' ≡ bumped t i
unfolding bumped
bump_is t t' i n e w = w ∙ ap (λ (x : ℕ). stored t i (x + 1)) e

bumped_length : (t : List ℕ) (i : ℕ) → length (bumped t i) ≡ length t
unfolding bumped
bumped_length t i = stored_length t i (get_or t i 0 + 1)

bumped_at : (t : List ℕ) (i x : ℕ) → i < length t → get_or t i 0 < 65535 → get_or (bumped t i) x 0 ≡ cond (eqb i x) 1 0 + get_or t x 0
unfolding bumped
bumped_at t i x h g =
    rw (← put_in t i (get_or t i 0 + 1) (omega arith))
    (by_same i x
    (λ e. rw (eq-eqb i x e) (ap (λ (y : ℕ). get_or (set t i (get_or t i 0 + 1)) y 0) (sym e) ∙ get_or-set_same t i (get_or t i 0 + 1) 0 h ∙ ap (λ (y : ℕ). get_or t y 0 + 1) e ∙ omega arith))
    (λ d. rw (ne_eqb i x d) (get_or-set_other t i x (get_or t i 0 + 1) 0 (λ w. d (sym w)) ∙ omega arith)))

-- ---- one entry more

in_times : (x : Spot) (ss : List Spot) → In x ss → 1 ≤ times x.named (names ss)
unfolding names times
in_times x [] i = absurd i
in_times x (s ∷ ss) (inl e) = rw (ap (λ (y : Spot). y.named) e, eq-eqb s.named s.named refl) (omega arith)
in_times x (s ∷ ss) (inr i) = let a : 1 ≤ times x.named (names ss) = in_times x ss i in omega arith

times_in_lem : (m : ℕ) (ss : List Spot) → 1 ≤ times m (names ss) → (x : Spot) × In x ss × (x.named ≡ m)
unfolding names times
times_in_lem m [] h = absurd (omega arith)
times_in_lem m (s ∷ ss) h = go (eqb s.named m) refl h (times_in_lem m ss)
  where
    go : (b : Bool) → eqb s.named m ≡ b → 1 ≤ cond b 1 0 + times m (names ss) → (1 ≤ times m (names ss) → (x : Spot) × In x ss × (x.named ≡ m)) → (x : Spot) × In x (s ∷ ss) × (x.named ≡ m)
    go true e g f = (s, inl refl, eqb-true s.named m e)
    go false e g f = let r = f (omega arith) in (r.0, inr r.1, r.2)

shares_other : (e : Entry) (es : List Entry) (m : ℕ) → (e.containing ≡ m → ⊥) → shares (e ∷ es) m ≡ shares es m
unfolding handed_to
shares_other e es m d = rw (ne_eqb e.containing m d) refl

shares_this : (e : Entry) (es : List Entry) (m : ℕ) → e.containing ≡ m → shares (e ∷ es) m ≡ suc (shares es m)
unfolding handed_to
shares_this e es m w = rw (eq-eqb e.containing m w) refl

module _ (key : Spot → ℕ) (e : Entry) (es : List Entry) where
  tally_none : (ss : List Spot) → times e.containing (names ss) ≡ 0 → (p : ℕ) → tally key (shares (e ∷ es)) ss p ≡ tally key (shares es) ss p
  unfolding tally names times
  tally_none [] h p = refl
  tally_none (s ∷ ss) h p = go (eqb s.named e.containing) refl h (λ z. tally_none ss z p)
    where
      go : (b : Bool) → eqb s.named e.containing ≡ b → cond b 1 0 + times e.containing (names ss) ≡ 0 → (times e.containing (names ss) ≡ 0 → tally key (shares (e ∷ es)) ss p ≡ tally key (shares es) ss p) → cond (eqb (key s) p) (shares (e ∷ es) s.named) 0 + tally key (shares (e ∷ es)) ss p ≡ cond (eqb (key s) p) (shares es s.named) 0 + tally key (shares es) ss p
      go true w g f = absurd (omega arith)
      go false w g f = rw (shares_other e es s.named (λ z. eqb-false s.named e.containing w (sym z)), f (omega arith)) refl

  pub tally_entry : (ss : List Spot) (x : Spot) → In x ss → x.named ≡ e.containing → times e.containing (names ss) ≤ 1 → (p : ℕ) → tally key (shares (e ∷ es)) ss p ≡ cond (eqb (key x) p) 1 0 + tally key (shares es) ss p
  unfolding tally names times
  tally_entry [] x i w h p = absurd i
  tally_entry (s ∷ ss) x (inl z) w h p = rw z (go (eqb (key s) p) same (tally_none ss rest p))
    where
      same : s.named ≡ e.containing
      same = ap (λ (y : Spot). y.named) (sym z) ∙ w

      rest : times e.containing (names ss) ≡ 0
      rest = less (eqb s.named e.containing) (eq-eqb s.named e.containing same) h
        where
          less : (b : Bool) → b ≡ true → cond b 1 0 + times e.containing (names ss) ≤ 1 → times e.containing (names ss) ≡ 0
          less true y g = omega arith
          less false y g = never y

      go : (b : Bool) → s.named ≡ e.containing → tally key (shares (e ∷ es)) ss p ≡ tally key (shares es) ss p → cond b (shares (e ∷ es) s.named) 0 + tally key (shares (e ∷ es)) ss p ≡ cond b 1 0 + (cond b (shares es s.named) 0 + tally key (shares es) ss p)
      go true y g = rw (shares_this e es s.named (sym y), g) (omega arith)
      go false y g = rw g (omega arith)
  tally_entry (s ∷ ss) x (inr i) w h p = go (eqb s.named e.containing) refl h (in_times x ss i) (λ z. tally_entry ss x i w z p)
    where
      go : (b : Bool) → eqb s.named e.containing ≡ b → cond b 1 0 + times e.containing (names ss) ≤ 1 → 1 ≤ times x.named (names ss) → (times e.containing (names ss) ≤ 1 → tally key (shares (e ∷ es)) ss p ≡ cond (eqb (key x) p) 1 0 + tally key (shares es) ss p) → cond (eqb (key s) p) (shares (e ∷ es) s.named) 0 + tally key (shares (e ∷ es)) ss p ≡ cond (eqb (key x) p) 1 0 + (cond (eqb (key s) p) (shares es s.named) 0 + tally key (shares es) ss p)
      go true y g o f = let z : 1 ≤ times e.containing (names ss) = rw (← w) o in absurd (omega arith)
      go false y g o f = rw (shares_other e es s.named (λ z. eqb-false s.named e.containing y (sym z)), f (omega arith)) (omega arith)

-- ---- all of them

-- without entries nothing is new
tally_nothing : (key : Spot → ℕ) (ss : List Spot) (p : ℕ) → tally key (shares []) ss p ≡ 0
unfolding tally handed_to
tally_nothing key [] p = refl
tally_nothing key (s ∷ ss) p = let z : tally key (shares []) ss p ≡ 0 = tally_nothing key ss p in go (eqb (key s) p) z
  where
    go : (b : Bool) → tally key (shares []) ss p ≡ 0 → cond b 0 0 + tally key (shares []) ss p ≡ 0
    go true e = omega arith
    go false e = omega arith

module _ (tree l earlier holds before : List ℕ) (latest : ℕ) (ends : List ℕ) (ss : List Spot) (ms : List ℕ) (f : Files tree earlier holds before latest ss) (once : (x : ℕ) → times x (names ss) ≤ 1) (known : (x : ℕ) → times x (names ss) ≡ times x ms) (short : (x : Spot) → In x ss → (x.place < 32768) × (x.statement < 32768)) where
  pub record Counted (more held : List ℕ) (es : List Entry) (r : Settled) : Type 0 where
    pub every : r.every ≡ all_found_of ms es
    pub more' : r.every ≡ true → (p : ℕ) → get_or r.more p 0 ≡ tally place_of (shares es) ss p + get_or more p 0
    pub held' : r.every ≡ true → (p : ℕ) → get_or r.held p 0 ≡ tally statement_of (shares es) ss p + get_or held p 0

  found_entry : (at : ℕ) (e : Entry) → wide_at l at ≡ e.containing → (p : Place) → Has tree holds before (wide_at l at) (chain earlier latest) p → In (spot p.list p.statement e.containing) ss
  found_entry at e w p h =
      let i : In (spot p.list p.statement (wide_at tree (p.statement + 2))) ss = f.filed p.list p.statement h.within h.stands in
      (rw (h.marked ∙ w) at i)

  pub counted : (es : List Entry) (at : ℕ) (more held : List ℕ) → Stand l ends at es → 32768 ≤ length more → 32768 ≤ length held → ((p : ℕ) → get_or more p 0 + length es < 65536) → ((p : ℕ) → get_or held p 0 + length es < 65536) → Counted more held es (settles tree l earlier holds before latest ends (length es) at more held)
  unfolding settles Stand all_found_of
  counted [] at more held s m h a b = record {
    every = refl;
    more' = λ z p. let t : tally place_of (shares []) ss p ≡ 0 = tally_nothing place_of ss p in omega arith;
    held' = λ z p. let t : tally statement_of (shares []) ss p ≡ 0 = tally_nothing statement_of ss p in omega arith;
  }
  counted (e ∷ es) at more held s m h a b = go (place_at tree l earlier holds before latest ends at) (search_ends tree holds before (wide_at l at) earlier latest) (λ x y more₁ held₁ m₁ h₁ a₁ b₁. counted es (get_or ends at 0) more₁ held₁ s.2 m₁ h₁ a₁ b₁)
    where
      bound : (t : List ℕ) (i : ℕ) → i < length t → ((p : ℕ) → get_or t p 0 + suc (length es) < 65536) → (p : ℕ) → get_or (bumped t i) p 0 + length es < 65536
      bound t i j u p =
          let v : get_or t p 0 + suc (length es) < 65536 = u p in
          let y : get_or t i 0 + suc (length es) < 65536 = u i in
          rw (bumped_at t i p j (omega arith)) (one (eqb i p) v)
        where
          one : (c : Bool) → get_or t p 0 + suc (length es) < 65536 → cond c 1 0 + get_or t p 0 + length es < 65536
          one true g = omega arith
          one false g = omega arith

      go : (o : prelude.Option Place) → Ended tree holds before (wide_at l at) (chain earlier latest) o
          → ((x y : ℕ) (more₁ held₁ : List ℕ) → 32768 ≤ length more₁ → 32768 ≤ length held₁ → ((p : ℕ) → get_or more₁ p 0 + length es < 65536) → ((p : ℕ) → get_or held₁ p 0 + length es < 65536) → Counted more₁ held₁ es (settles tree l earlier holds before latest ends (length es) (get_or ends at 0) more₁ held₁))
          → Counted more held (e ∷ es) (placed o (settled false more held) (λ p. settles tree l earlier holds before latest ends (length es) (get_or ends at 0) (bumped more p.list) (bumped held p.statement)))
      go o (Ended.found p z has) rest =
          let inside : In (spot p.list p.statement e.containing) ss = found_entry at e s.0 p has in
          let near = short (spot p.list p.statement e.containing) inside in
          let n₁ : p.list < 32768 = near.0 in
          let n₂ : p.statement < 32768 = near.1 in
          let there : among ms e.containing ≡ true = among_times e.containing ms ∙ lt-ltb 0 (times e.containing ms) (let o : 1 ≤ times e.containing (names ss) = in_times (spot p.list p.statement e.containing) ss inside in let k : times e.containing (names ss) ≡ times e.containing ms = known e.containing in omega arith) in
          let c = rest 0 0 (bumped more p.list) (bumped held p.statement) (omega (arith, bumped_length more p.list)) (omega (arith, bumped_length held p.statement)) (bound more p.list (omega arith) a) (bound held p.statement (omega arith) b) in
          rw z (record {
            every = rw there c.every;
            more' = λ y q.
                let k = tally_entry place_of e es ss (spot p.list p.statement e.containing) inside refl (once e.containing) q in
                let d = bumped_at more p.list q (omega arith) (let g : get_or more p.list 0 + suc (length es) < 65536 = a p.list in omega arith) in
                c.more' y q ∙ rw d (rw k (omega arith));
            held' = λ y q.
                let k = tally_entry statement_of e es ss (spot p.list p.statement e.containing) inside refl (once e.containing) q in
                let d = bumped_at held p.statement q (omega arith) (let g : get_or held p.statement 0 + suc (length es) < 65536 = b p.statement in omega arith) in
                c.held' y q ∙ rw d (rw k (omega arith));
          })
      go o (Ended.lost z lacks) rest =
          let none' : times e.containing (names ss) ≡ 0 = nobody (times e.containing (names ss)) refl lacks in
          let gone : among ms e.containing ≡ false = among_times e.containing ms ∙ le-ltb 0 (times e.containing ms) (let k : times e.containing (names ss) ≡ times e.containing ms = known e.containing in omega arith) in
          rw z (record { every = rw gone refl; more' = λ y. never y; held' = λ y. never y })
        where
          nobody : (k : ℕ) → times e.containing (names ss) ≡ k → Lacks tree holds before (wide_at l at) (chain earlier latest) → times e.containing (names ss) ≡ 0
          nobody zero y lk = y
          nobody (suc k) y lk =
              let r = times_in_lem e.containing ss (omega arith) in
              let g = f.found r.0 r.1 in
              absurd (lk r.0.place r.0.statement g.0 g.1 (g.2 ∙ r.2 ∙ sym s.0))

-- no list and no statement has more entries than there are
pub tally_most : (key : Spot → ℕ) (ss : List Spot) → ((x : ℕ) → times x (names ss) ≤ 1) → (es : List Entry) (p : ℕ) → tally key (shares es) ss p ≤ length es
tally_most key ss once [] p = let z : tally key (shares []) ss p ≡ 0 = tally_nothing key ss p in omega arith
tally_most key ss once (e ∷ es) p = go (times e.containing (names ss)) refl (tally_most key ss once es p)
  where
    one : (b : Bool) (k t : ℕ) → k ≤ length es → t ≡ cond b 1 0 + k → t ≤ suc (length es)
    one true k t h w = omega arith
    one false k t h w = omega arith

    go : (k : ℕ) → times e.containing (names ss) ≡ k → tally key (shares es) ss p ≤ length es → tally key (shares (e ∷ es)) ss p ≤ suc (length es)
    go zero w h = let z : tally key (shares (e ∷ es)) ss p ≡ tally key (shares es) ss p = tally_none key e es ss w p in omega arith
    go (suc k) w h =
        let r = times_in_lem e.containing ss (omega arith) in
        one (eqb (key r.0) p) (tally key (shares es) ss p) (tally key (shares (e ∷ es)) ss p) h (tally_entry key e es ss r.0 r.1 r.2 (once e.containing) p)

-- ---- the marks of statements are those that can be found, and no more than the tree has

names_append : (x : ℕ) (a b : List Spot) → times x (names (a ++ b)) ≡ times x (names a) + times x (names b)
unfolding names times
names_append x [] b = omega arith
names_append x (s ∷ a) b = let e : times x (names (a ++ b)) ≡ times x (names a) + times x (names b) = names_append x a b in omega arith

own_names_lem : (x p at : ℕ) (n : Node) → times x (names (owned p at n)) ≡ times x (as_list (found_by (ltb 1 p) n))
unfolding owned names times
own_names_lem x p at n = go (ltb 1 p) (own_mark n) refl
  where
    go : (b : Bool) (m : Option ℕ) → own_mark n ≡ m → times x (names (cond b (spotted p at (own_mark n)) [])) ≡ times x (as_list (found_by b n))
    go true none e = rw e refl
    go true (some m) e = rw e refl
    go false m e = refl

mutual
  unfolding spots spots_fields spots_piece spots_items found found_fields found_piece found_items names times

  pub node_names : (x : ℕ) (n : Node) (at : ℕ) → times x (names (spots at n)) ≡ times x (found n)
  node_names x (node old kind fs) at = fields_names x (is_container kind) fs (suc (suc at)) (omega arith)

  fields_names : (x : ℕ) (c : Bool) (fs : Fields) (at : ℕ) → 2 ≤ at → times x (names (spots_fields c at fs)) ≡ times x (found_fields c fs)
  fields_names x c done at g = refl
  fields_names x c (absent fs) at g = fields_names x c fs at g
  fields_names x c (field q fs) at g =
      let a : times x (names (spots_piece c at q)) ≡ times x (found_piece c q) = piece_names x c q at g in
      let b : times x (names (spots_fields c (at + length (encode_piece q)) fs)) ≡ times x (found_fields c fs) = fields_names x c fs (at + length (encode_piece q)) (omega arith) in
      omega (arith, names_append x (spots_fields c (at + length (encode_piece q)) fs) (spots_piece c at q), times_append x (found_piece c q) (found_fields c fs))

  piece_names : (x : ℕ) (c : Bool) (q : Piece) (at : ℕ) → 2 ≤ at → times x (names (spots_piece c at q)) ≡ times x (found_piece c q)
  piece_names x c (one n) at g = node_names x n at
  piece_names x c (list is) at g = items_names x c (cond c at 0) is (suc (suc at)) (chosen c)
    where
      chosen : (c : Bool) → c ≡ ltb 1 (cond c at 0)
      chosen true = sym (lt-ltb 1 at (omega arith))
      chosen false = refl
  piece_names x c (text bs) at g = refl
  piece_names x c (byte b) at g = refl
  piece_names x c (mark m) at g = refl
  piece_names x c (number m) at g = refl

  items_names : (x : ℕ) (c : Bool) (p : ℕ) (is : Items) (at : ℕ) → c ≡ ltb 1 p → times x (names (spots_items p at is)) ≡ times x (found_items c is)
  items_names x c p Items.none at k = refl
  items_names x c p (hole is) at k = items_names x c p is (suc at) k
  items_names x c p (item n is) at k =
      let a : times x (names (spots_items p (at + length (encode n)) is)) ≡ times x (found_items c is) = items_names x c p is (at + length (encode n)) k in
      let b : times x (names (spots at n)) ≡ times x (found n) = node_names x n at in
      let o : times x (names (owned p at n)) ≡ times x (as_list (found_by c n)) = own_names_lem x p at n ∙ ap (λ (t : Bool). times x (as_list (found_by t n))) (sym k) in
      let goal : times x (names (spots_items p (at + length (encode n)) is ++ (spots at n ++ owned p at n))) ≡ times x ((as_list (found_by c n) ++ found n) ++ found_items c is) = omega (arith, names_append x (spots_items p (at + length (encode n)) is) (spots at n ++ owned p at n), names_append x (spots at n) (owned p at n), times_append x (as_list (found_by c n) ++ found n) (found_items c is), times_append x (as_list (found_by c n)) (found n)) in
      goal

mutual
  unfolding found found_fields found_piece found_items marks marks_fields marks_piece marks_items times first_mark

  node_found : (x : ℕ) (n : Node) (c : Bool) → times x (as_list (found_by c n)) + times x (found n) ≤ times x (marks n)
  node_found x (node old kind fs) true = first_found x (is_container kind) fs
  node_found x (node old kind fs) false = let a : times x (found_fields (is_container kind) fs) ≤ times x (marks_fields fs) = fields_found x (is_container kind) fs in omega arith

  first_found : (x : ℕ) (c : Bool) (fs : Fields) → times x (as_list (first_mark fs)) + times x (found_fields c fs) ≤ times x (marks_fields fs)
  first_found x c done = omega arith
  first_found x c (absent fs) = first_found x c fs
  first_found x c (field q fs) =
      let a : times x (as_list (piece_mark q)) + times x (found_piece c q) ≤ times x (marks_piece q) = piece_found x c q in
      let b : times x (found_fields c fs) ≤ times x (marks_fields fs) = fields_found x c fs in
      omega (arith, times_append x (found_piece c q) (found_fields c fs), times_append x (marks_piece q) (marks_fields fs))

  fields_found : (x : ℕ) (c : Bool) (fs : Fields) → times x (found_fields c fs) ≤ times x (marks_fields fs)
  fields_found x c done = omega arith
  fields_found x c (absent fs) = fields_found x c fs
  fields_found x c (field q fs) =
      let a : times x (as_list (piece_mark q)) + times x (found_piece c q) ≤ times x (marks_piece q) = piece_found x c q in
      let b : times x (found_fields c fs) ≤ times x (marks_fields fs) = fields_found x c fs in
      omega (arith, times_append x (found_piece c q) (found_fields c fs), times_append x (marks_piece q) (marks_fields fs))

  piece_found : (x : ℕ) (c : Bool) (q : Piece) → times x (as_list (piece_mark q)) + times x (found_piece c q) ≤ times x (marks_piece q)
  piece_found x c (one n) = let a : times x (found n) ≤ times x (marks n) = all_found x n in omega arith
  piece_found x c (list is) = let a : times x (found_items c is) ≤ times x (marks_items is) = items_found x c is in omega arith
  piece_found x c (text bs) = omega arith
  piece_found x c (byte b) = omega arith
  piece_found x c (mark m) = omega arith
  piece_found x c (number m) = omega arith

  items_found : (x : ℕ) (c : Bool) (is : Items) → times x (found_items c is) ≤ times x (marks_items is)
  items_found x c Items.none = omega arith
  items_found x c (hole is) = items_found x c is
  items_found x c (item n is) =
      let a : times x (as_list (found_by c n)) + times x (found n) ≤ times x (marks n) = node_found x n c in
      let b : times x (found_items c is) ≤ times x (marks_items is) = items_found x c is in
      omega (arith, times_append x (as_list (found_by c n) ++ found n) (found_items c is), times_append x (as_list (found_by c n)) (found n), times_append x (marks n) (marks_items is))

  pub all_found : (x : ℕ) (n : Node) → times x (found n) ≤ times x (marks n)
  all_found x (node old kind fs) = fields_found x (is_container kind) fs
