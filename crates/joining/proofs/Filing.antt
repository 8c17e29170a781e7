-- The tables that are filled while the tree is toured.
-- Assumes nothing.
use Prim.Native.Nat.{ℕ, zero, suc, ◌+◌, ◌-◌, ◌*◌, ◌<◌, ◌≤◌}
use mathlib.Core.Path.{◌≡◌, refl, sym, ap, ◌∙◌}
use mathlib.Core.List.{List, [], ◌∷◌}
use mathlib.Core.Bool.{Bool, true, false, cond}
use mathlib.Core.Logic.{inl, inr}
use native.Mathlib.Omega.{arith}
use lib.Dec.{eqb, ltb}
use lib.ListN.{length, get_or, set, take, drop, length-set, length-take, length-drop}
use lib.Seq.{get_or-set_same, get_or-set_other}
use borrow.Author.Tests.{eq-eqb, ne_eqb, lt-ltb, le-ltb, ltb-true, eqb-true}
use Rattle.tree.specs.Read.{byte_at, wide_at}
use Rattle.rewritten.specs.declared.step.Event as told
use Rattle.rewritten.specs.declared.step.Event.TheVariants.{Begins, Ends, Opens, Closes, Hole, Text, Byte, Mark, Number}
use mir.Val.{bool_byte}
use Rattle.joining.specs.Join.{is_container}
use Rattle.joining.specs.Tables.{stored, chain}
use Rattle.joining.specs.Spots.{Spot, spot}
use Rattle.joining.specs.Files.{In, Shelf, shelf, passed_by, marked_in, opened_at, added, Files}
use Rattle.rewritten.specs.Steps.{Stands, deep_after, event_in}
use Rattle.rewritten.specs.Look.{event_for}
use Rattle.rewritten.proofs.Marks.{by_same}
use Rattle.joining.proofs.Walk.{Walk, walker, head_of, tail_of, walks}
use Rattle.joining.proofs.FallingChains.{put_in, chain_set, chain_add, chain_within, chain_end}

-- ---- the steps of the code

pub flag_number : (b c : Bool) (n : ℕ) → n ≡ bool_byte b → b ≡ c → n ≡ cond c 1 0
flag_number true c n e w = rw (← w) e
flag_number false c n e w = rw (← w) e

pub begun_item : (l : List ℕ) (deep at n : ℕ) → n ≡ get_or l deep 0 → 1 < n → at ≡ cond (ltb 1 (get_or l deep 0)) at 0
begun_item l deep at n e h = rw (← e, lt-ltb 1 n h) refl

pub begun_else : (l : List ℕ) (deep at n : ℕ) → n ≡ get_or l deep 0 → n ≤ 1 → 0 ≡ cond (ltb 1 (get_or l deep 0)) at 0
begun_else l deep at n e h = rw (← e, le-ltb 1 n h) refl

module _ (a e h b : List ℕ) (latest g at deep k : ℕ) where
  pub open_container : (n : ℕ) (a' e' h' : List ℕ) → n ≡ get_or a deep 0 → n ≡ 1 → a' ≡ stored a (deep + 1) at → e' ≡ stored e at latest → h' ≡ stored h at 0 → shelf a' e' h' b at 0 ≡ added (shelf a e h b latest g) at deep (Opens k)
  open_container n a' e' h' w o x y z = rw (← w, eq-eqb n 1 o) (λ i. shelf (x i) (y i) (z i) b at 0)

  pub open_else : (n : ℕ) (a' : List ℕ) → n ≡ get_or a deep 0 → (n ≡ 1 → ⊥) → a' ≡ stored a (deep + 1) 0 → shelf a' e h b latest 0 ≡ added (shelf a e h b latest g) at deep (Opens k)
  open_else n a' w o x = rw (← w, ne_eqb n 1 o) (λ i. shelf (x i) e h b latest 0)

  pub mark_item : (p n : ℕ) (h' b' : List ℕ) → 0 < g → 0 < deep → p ≡ get_or a (deep - 1) 0 → n ≡ get_or h p 0 → b' ≡ stored b g n → h' ≡ stored h p g → shelf a e h' b' latest 0 ≡ added (shelf a e h b latest g) at deep (Mark k)
  mark_item p n h' b' x y w v u t = rw (lt-ltb 0 g x, lt-ltb 0 deep y, ← w, ← v) (λ i. shelf a e (t i) (u i) latest 0)

  pub mark_root : 0 < g → deep ≤ 0 → shelf a e h b latest 0 ≡ added (shelf a e h b latest g) at deep (Mark k)
  mark_root x y = rw (lt-ltb 0 g x, le-ltb 0 deep y) refl

  pub mark_else : g ≤ 0 → shelf a e h b latest 0 ≡ added (shelf a e h b latest g) at deep (Mark k)
  mark_else x = rw (le-ltb 0 g x) refl

-- what was found is none of those that add something
pub added_none : (tree : List ℕ) (t : Shelf) (at deep n code : ℕ) → 3 ≤ code → (code ≡ 4 → ⊥) → passed_by t ≡ added t at deep (event_for tree at code n)
added_none tree t at deep n zero a b = absurd (omega arith)
added_none tree t at deep n (suc zero) a b = absurd (omega arith)
added_none tree t at deep n (suc (suc zero)) a b = absurd (omega arith)
added_none tree t at deep n (suc (suc (suc zero))) a b = refl
added_none tree t at deep n (suc (suc (suc (suc zero)))) a b = absurd (b refl)
added_none tree t at deep n (suc (suc (suc (suc (suc zero))))) a b = refl
added_none tree t at deep n (suc (suc (suc (suc (suc (suc zero)))))) a b = refl
added_none tree t at deep n (suc (suc (suc (suc (suc (suc (suc k))))))) a b = refl

pub added_found : (tree : List ℕ) (s t : Shelf) (at deep n code is : ℕ) → code ≡ is → s ≡ added t at deep (event_for tree at is n) → s ≡ added t at deep (event_for tree at code n)
added_found tree s t at deep n code is e x = rw e x

begin_added : (a e h b a' : List ℕ) (latest g at deep p kind map n : ℕ) → (a' ≡ stored a (deep + 1) (cond (is_container kind) 1 0)) × (n ≡ cond (ltb 1 (get_or a deep 0)) at 0) → shelf a' e h b latest n ≡ added (shelf a e h b latest g) at deep (Begins p kind map)
begin_added a e h b a' latest g at deep p kind map n w = λ i. shelf (w.0 i) e h b latest (w.1 i)

only : (code : ℕ) → code < 3 → (code ≡ 2 → ⊥) → (code ≡ 0 → ⊥) → code ≡ 1
only zero low two none = absurd (none refl)
only (suc zero) low two none = refl
only (suc (suc zero)) low two none = absurd (two refl)
only (suc (suc (suc k))) low two none = absurd (omega arith)

pub begin_found : (tree a e h b a' : List ℕ) (latest g at deep m kind n code : ℕ) → code < 3 → (code ≡ 2 → ⊥) → (code ≡ 0 → ⊥) → kind ≡ byte_at tree at → (a' ≡ stored a (deep + 1) (cond (is_container kind) 1 0)) × (n ≡ cond (ltb 1 (get_or a deep 0)) at 0) → shelf a' e h b latest n ≡ added (shelf a e h b latest g) at deep (event_for tree at code m)
begin_found tree a e h b a' latest g at deep m kind n code low two none k w =
    let is : code ≡ 1 = only code low two none in
    added_found tree (shelf a' e h b latest n) (shelf a e h b latest g) at deep m code 1 is (begin_added a e h b a' latest g at deep at (byte_at tree at) (byte_at tree (at + 1)) n (rw k at w))

-- ---- the stack

unfoldable pub stack_of : List ℕ → ℕ → List ℕ
stack_of a zero = get_or a 0 0 ∷ []
stack_of a (suc d) = get_or a (suc d) 0 ∷ stack_of a d

stack_head : (a : List ℕ) (d : ℕ) → head_of (stack_of a d) ≡ get_or a d 0
unfolding stack_of
stack_head a zero = refl
stack_head a (suc d) = refl

stack_tail : (a : List ℕ) (d : ℕ) → 0 < d → tail_of (stack_of a d) ≡ stack_of a (d - 1)
unfolding stack_of
stack_tail a zero h = absurd (omega arith)
stack_tail a (suc d) h = let e : d ≡ suc d - 1 = omega arith in ap (stack_of a) e

stack_set : (a : List ℕ) (d i v : ℕ) → d < i → stack_of (set a i v) d ≡ stack_of a d
unfolding stack_of
stack_set a zero i v h = rw (get_or-set_other a i 0 v 0 (λ e. omega arith)) refl
stack_set a (suc d) i v h = rw (get_or-set_other a i (suc d) v 0 (λ e. omega arith), stack_set a d i v (omega arith)) refl

stack_more : (a : List ℕ) (d : ℕ) → stack_of a (suc d) ≡ get_or a (suc d) 0 ∷ stack_of a d
unfolding stack_of
stack_more a d = refl

stack_push : (a : List ℕ) (d v : ℕ) → d + 1 < length a → v ∷ stack_of a d ≡ stack_of (set a (d + 1) v) (d + 1)
stack_push a d v h = rw one (go (omega arith))
  where
    one : d + 1 ≡ suc d
    one = omega arith

    go : suc d < length a → v ∷ stack_of a d ≡ stack_of (set a (suc d) v) (suc d)
    go g = last (get_or-set_same a (suc d) v 0 g) (stack_set a d (suc d) v (omega arith))
      where
        last : get_or (set a (suc d) v) (suc d) 0 ≡ v → stack_of (set a (suc d) v) d ≡ stack_of a d → v ∷ stack_of a d ≡ stack_of (set a (suc d) v) (suc d)
        last x y = (λ i. sym x i ∷ sym y i) ∙ sym (stack_more (set a (suc d) v) d)

-- ---- all of some numbers

abbrev Each : (ℕ → Type 0) → List ℕ → Type 0
Each P [] = Unit {0}
Each P (x ∷ xs) = P x × Each P xs

each_map : (P Q : ℕ → Type 0) → ((x : ℕ) → P x → Q x) → (xs : List ℕ) → Each P xs → Each Q xs
each_map P Q f [] a = tt
each_map P Q f (x ∷ xs) a = (f x a.0, each_map P Q f xs a.1)

each_tail : (P : ℕ → Type 0) (xs : List ℕ) → Each P xs → Each P (tail_of xs)
each_tail P [] a = tt
each_tail P (x ∷ xs) a = a.1

each_head : (P : ℕ → Type 0) (xs : List ℕ) → P 0 → Each P xs → P (head_of xs)
each_head P [] z a = z
each_head P (x ∷ xs) z a = a.0

-- ---- the lists and their statements

module _ (tree e h b : List ℕ) (latest : ℕ) (ss : List Spot) (f : Files tree e h b latest ss) where
  files_open : (at : ℕ) → 2 ≤ at → latest ≤ at - 1 → at < length e → at < length h → Files tree (set e at latest) (set h at 0) b at ss
  files_open at g l i j = record {
    filed = λ p s m n. go p s (rw (chain_add e at latest i (omega arith)) at m) n;
    found = λ x m. let k = f.found x m in (rw (chain_add e at latest i (omega arith)) (inr k.0), rw (kept x.place k.0) k.1, k.2);
  }
    where
      kept : (p : ℕ) → In p (chain e latest) → get_or (set h at 0) p 0 ≡ get_or h p 0
      kept p m = let k = chain_within e latest p m in let y : p ≤ latest = k.1 in get_or-set_other h at p 0 0 (λ w. omega arith)

      nothing : (s : ℕ) → In s (chain b (get_or (set h at 0) at 0)) → ⊥
      nothing s n = rw (get_or-set_same h at 0 0 j, chain_end b 0 (omega arith)) at n

      go : (p s : ℕ) → In p (at ∷ chain e latest) → In s (chain b (get_or (set h at 0) p 0)) → In (spot p s (wide_at tree (s + 2))) ss
      go p s (inl w) n = absurd (nothing s (rw w at n))
      go p s (inr m) n = f.filed p s m (rw (kept p m) at n)

  module _ (p begun m : ℕ) (stands : In p (chain e latest)) (some : 0 < begun) (low : (x : ℕ) → get_or h x 0 < begun) (i : begun < length b) (j : p < length h) (is : wide_at tree (begun + 2) ≡ m) where
    abbrev h' : List ℕ
    h' = set h p begun

    abbrev b' : List ℕ
    b' = set b begun (get_or h p 0)

    this : chain b' (get_or h' p 0) ≡ begun ∷ chain b (get_or h p 0)
    this = rw (get_or-set_same h p begun 0 j) (chain_add b begun (get_or h p 0) i (low p))

    that : (x : ℕ) → (x ≡ p → ⊥) → chain b' (get_or h' x 0) ≡ chain b (get_or h x 0)
    that x d = rw (get_or-set_other h p x begun 0 d) (chain_set b begun (get_or h p 0) (get_or h x 0) (low x))

    filed' : (x s : ℕ) → In x (chain e latest) → In s (chain b' (get_or h' x 0)) → In (spot x s (wide_at tree (s + 2))) (spot p begun m ∷ ss)
    filed' x s a n = by_same x p (λ w. here w s a (rw (ap (λ (y : ℕ). chain b' (get_or h' y 0)) w ∙ this) at n)) (λ d. inr (f.filed x s a (rw (that x d) at n)))
      where
        here : x ≡ p → (s : ℕ) → In x (chain e latest) → In s (begun ∷ chain b (get_or h p 0)) → In (spot x s (wide_at tree (s + 2))) (spot p begun m ∷ ss)
        here w s a (inl v) = inl (rw (v, is, w) refl)
        here w s a (inr n) = inr (f.filed x s a (rw (← w) at n))

    found' : (x : Spot) → In x (spot p begun m ∷ ss) → In x.place (chain e latest) × In x.statement (chain b' (get_or h' x.place 0)) × (wide_at tree (x.statement + 2) ≡ x.named)
    found' x (inl w) = rw w (stands, rw this (inl refl), is)
    found' x (inr a) =
        let k = f.found x a in
        (k.0, by_same x.place p (λ w. rw (ap (λ (y : ℕ). chain b' (get_or h' y 0)) w ∙ this) (inr (rw w at k.1))) (λ d. rw (that x.place d) k.1), k.2)

    files_mark : Files tree e h' b' latest (spot p begun m ∷ ss)
    files_mark = record { filed = filed'; found = found' }

-- ---- the tables against the pass

pub record Filed (tree : List ℕ) (t : Shelf) (at deep : ℕ) (w : Walk) : Type 0 where
  pub site : w.at ≡ at
  pub stacked : w.around ≡ stack_of t.around deep
  pub starts : w.begun ≡ t.begun
  pub tall : 16385 ≤ length t.around
  pub lists : 32768 ≤ length t.earlier
  pub lasts : 32768 ≤ length t.holds
  pub firsts : 32768 ≤ length t.before
  pub last : t.latest ≤ at - 1
  pub low : (p : ℕ) → get_or t.holds p 0 ≤ at - 1
  pub inside : Each (λ x. (0 < x → 2 ≤ at) × (1 < x → In x (chain t.earlier t.latest))) w.around
  pub item : 0 < t.begun → (0 < deep) × (t.begun + 2 ≡ at) × (1 < get_or t.around (deep - 1) 0) × ((p : ℕ) → get_or t.holds p 0 < t.begun)
  pub files : Files tree t.earlier t.holds t.before t.latest w.met

abbrev Stood : List ℕ → ℕ → ℕ → ℕ → Type 0
Stood e latest at x = (0 < x → 2 ≤ at) × (1 < x → In x (chain e latest))

stood_later : (e : List ℕ) (latest at at' : ℕ) → at ≤ at' → (x : ℕ) → Stood e latest at x → Stood e latest at' x
stood_later e latest at at' h x s = (λ g. let a : 2 ≤ at = s.0 g in omega arith, s.1)

module _ (tree : List ℕ) (t : Shelf) (at deep : ℕ) (w : Walk) (f : Filed tree t at deep w) where
  -- nothing but the position
  filed_pass : (q : ℕ) → at ≤ q → Filed tree (passed_by t) q deep (walker q w.around 0 w.met)
  filed_pass q h = record {
    site = refl;
    stacked = f.stacked;
    starts = refl;
    tall = f.tall;
    lists = f.lists;
    lasts = f.lasts;
    firsts = f.firsts;
    last = let a : t.latest ≤ at - 1 = f.last in omega arith;
    low = λ p. let a : get_or t.holds p 0 ≤ at - 1 = f.low p in omega arith;
    inside = each_map (Stood t.earlier t.latest at) (Stood t.earlier t.latest q) (stood_later t.earlier t.latest at q h) w.around f.inside;
    item = λ g. absurd (omega arith);
    files = f.files;
  }

  -- the end of a node or a list
  filed_pop : 0 < deep → Filed tree (passed_by t) at (deep - 1) (walker at (tail_of w.around) 0 w.met)
  filed_pop h = record {
    site = refl;
    stacked = ap tail_of f.stacked ∙ stack_tail t.around deep h;
    starts = refl;
    tall = f.tall;
    lists = f.lists;
    lasts = f.lasts;
    firsts = f.firsts;
    last = f.last;
    low = f.low;
    inside = each_tail (Stood t.earlier t.latest at) w.around f.inside;
    item = λ g. absurd (omega arith);
    files = f.files;
  }

  -- what stands innermost
  top : head_of w.around ≡ get_or t.around deep 0
  top = ap head_of f.stacked ∙ stack_head t.around deep

  top_stood : Stood t.earlier t.latest at (get_or t.around deep 0)
  top_stood = rw top at (each_head (Stood t.earlier t.latest at) w.around (λ g. absurd (omega arith), λ g. absurd (omega arith)) f.inside)

  -- a node
  filed_begin : (v : ℕ) → v ≤ 1 → deep + 1 < 16385 → Filed tree (shelf (stored t.around (deep + 1) v) t.earlier t.holds t.before t.latest (cond (ltb 1 (get_or t.around deep 0)) at 0)) (suc (suc at)) (deep + 1) (walker (suc (suc at)) (v ∷ w.around) (cond (ltb 1 (head_of w.around)) at 0) w.met)
  filed_begin v small d = rw (← put_in t.around (deep + 1) v (omega arith)) (record {
    site = refl;
    stacked = ap (λ (l : List ℕ). v ∷ l) f.stacked ∙ stack_push t.around deep v (let a : 16385 ≤ length t.around = f.tall in omega arith);
    starts = ap (λ (x : ℕ). cond (ltb 1 x) at 0) top;
    tall = let a : 16385 ≤ length t.around = f.tall in omega (arith, length-set t.around (deep + 1) v);
    lists = f.lists;
    lasts = f.lasts;
    firsts = f.firsts;
    last = let a : t.latest ≤ at - 1 = f.last in omega arith;
    low = λ p. let a : get_or t.holds p 0 ≤ at - 1 = f.low p in omega arith;
    inside = ((λ g. omega arith, λ g. absurd (omega arith)), each_map (Stood t.earlier t.latest at) (Stood t.earlier t.latest (suc (suc at))) (stood_later t.earlier t.latest at (suc (suc at)) (omega arith)) w.around f.inside);
    item = λ g. begun (get_or t.around deep 0) refl g;
    files = f.files;
  })
    where
      begun : (x : ℕ) → get_or t.around deep 0 ≡ x → 0 < cond (ltb 1 x) at 0 → (0 < deep + 1) × (cond (ltb 1 x) at 0 + 2 ≡ suc (suc at)) × (1 < get_or (set t.around (deep + 1) v) (deep + 1 - 1) 0) × ((p : ℕ) → get_or t.holds p 0 < cond (ltb 1 x) at 0)
      begun x e g = go (ltb 1 x) refl g
        where
          go : (b : Bool) → ltb 1 x ≡ b → 0 < cond b at 0 → (0 < deep + 1) × (cond b at 0 + 2 ≡ suc (suc at)) × (1 < get_or (set t.around (deep + 1) v) (deep + 1 - 1) 0) × ((p : ℕ) → get_or t.holds p 0 < cond b at 0)
          go true z h =
              let big : 1 < x = ltb-true 1 x z in
              let back : deep + 1 - 1 ≡ deep = omega arith in
              let same : get_or (set t.around (deep + 1) v) (deep + 1 - 1) 0 ≡ x = ap (λ (i : ℕ). get_or (set t.around (deep + 1) v) i 0) back ∙ get_or-set_other t.around (deep + 1) deep v 0 (λ y. omega arith) ∙ e in
              let far : 2 ≤ at = top_stood.0 (rw e (omega arith)) in
              (omega arith, omega arith, rw same big, λ p. let a : get_or t.holds p 0 ≤ at - 1 = f.low p in omega arith)
          go false z h = absurd (omega arith)

  -- a list that is no container's
  filed_plain : deep + 1 < 16385 → Filed tree (shelf (stored t.around (deep + 1) 0) t.earlier t.holds t.before t.latest 0) (suc (suc at)) (deep + 1) (walker (suc (suc at)) (0 ∷ w.around) 0 w.met)
  filed_plain d = rw (← put_in t.around (deep + 1) 0 (omega arith)) (record {
    site = refl;
    stacked = ap (λ (l : List ℕ). 0 ∷ l) f.stacked ∙ stack_push t.around deep 0 (let a : 16385 ≤ length t.around = f.tall in omega arith);
    starts = refl;
    tall = let a : 16385 ≤ length t.around = f.tall in omega (arith, length-set t.around (deep + 1) 0);
    lists = f.lists;
    lasts = f.lasts;
    firsts = f.firsts;
    last = let a : t.latest ≤ at - 1 = f.last in omega arith;
    low = λ p. let a : get_or t.holds p 0 ≤ at - 1 = f.low p in omega arith;
    inside = ((λ g. omega arith, λ g. absurd (omega arith)), each_map (Stood t.earlier t.latest at) (Stood t.earlier t.latest (suc (suc at))) (stood_later t.earlier t.latest at (suc (suc at)) (omega arith)) w.around f.inside);
    item = λ g. absurd (omega arith);
    files = f.files;
  })

  -- a container's list
  filed_open : get_or t.around deep 0 ≡ 1 → deep + 1 < 16385 → at + 2 ≤ 32768 → Filed tree (opened_at t at deep) (suc (suc at)) (deep + 1) (walker (suc (suc at)) (at ∷ w.around) 0 w.met)
  filed_open one d long =
      let far : 2 ≤ at = top_stood.0 (rw one (omega arith)) in
      let late : t.latest ≤ at - 1 = f.last in
      let e₁ : 32768 ≤ length t.earlier = f.lists in
      let e₂ : 32768 ≤ length t.holds = f.lasts in
      let grown : chain (set t.earlier at t.latest) at ≡ at ∷ chain t.earlier t.latest = chain_add t.earlier at t.latest (omega arith) (omega arith) in
      rw (← put_in t.around (deep + 1) at (omega arith), ← put_in t.earlier at t.latest (omega arith), ← put_in t.holds at 0 (omega arith)) (record {
        site = refl;
        stacked = ap (λ (l : List ℕ). at ∷ l) f.stacked ∙ stack_push t.around deep at (let a : 16385 ≤ length t.around = f.tall in omega arith);
        starts = refl;
        tall = let a : 16385 ≤ length t.around = f.tall in omega (arith, length-set t.around (deep + 1) at);
        lists = omega (arith, length-set t.earlier at t.latest);
        lasts = omega (arith, length-set t.holds at 0);
        firsts = f.firsts;
        last = omega arith;
        low = λ p. by_same p at (λ v. rw (v, get_or-set_same t.holds at 0 0 (omega arith)) (omega arith)) (λ v. rw (get_or-set_other t.holds at p 0 0 v) (let a : get_or t.holds p 0 ≤ at - 1 = f.low p in omega arith));
        inside = ((λ g. omega arith, λ g. rw grown (inl refl)), each_map (Stood t.earlier t.latest at) (Stood (set t.earlier at t.latest) at (suc (suc at))) (λ x s. (λ g. omega arith, λ g. rw grown (inr (s.1 g)))) w.around f.inside);
        item = λ g. absurd (omega arith);
        files = files_open tree t.earlier t.holds t.before t.latest w.met f.files at far late (omega arith) (omega arith);
      })

  -- the mark of an item of a container's list
  filed_mark : (m : ℕ) → m ≡ wide_at tree at → 0 < t.begun → at + 2 ≤ 32768 → Filed tree (marked_in t (get_or t.around (deep - 1) 0)) (suc (suc at)) deep (walker (suc (suc at)) w.around 0 (spot (head_of (tail_of w.around)) w.begun m ∷ w.met))
  filed_mark m is g long =
      let i = f.item g in
      let nested : 0 < deep = i.0 in
      let site' : t.begun + 2 ≡ at = i.1 in
      let big : 1 < get_or t.around (deep - 1) 0 = i.2 in
      let second : head_of (tail_of w.around) ≡ get_or t.around (deep - 1) 0 = ap (λ (l : List ℕ). head_of (tail_of l)) f.stacked ∙ ap head_of (stack_tail t.around deep nested) ∙ stack_head t.around (deep - 1) in
      let stood : Stood t.earlier t.latest at (get_or t.around (deep - 1) 0) = rw second at (each_head (Stood t.earlier t.latest at) (tail_of w.around) (λ z. absurd (omega arith), λ z. absurd (omega arith)) (each_tail (Stood t.earlier t.latest at) w.around f.inside)) in
      let there : In (get_or t.around (deep - 1) 0) (chain t.earlier t.latest) = stood.1 big in
      let most : get_or t.around (deep - 1) 0 ≤ t.latest = (chain_within t.earlier t.latest (get_or t.around (deep - 1) 0) there).1 in
      let late : t.latest ≤ at - 1 = f.last in
      let e₂ : 32768 ≤ length t.holds = f.lasts in
      let e₃ : 32768 ≤ length t.before = f.firsts in
      let under : (p : ℕ) → get_or t.holds p 0 < t.begun = i.3 in
      let small : get_or t.holds (get_or t.around (deep - 1) 0) 0 < t.begun = under (get_or t.around (deep - 1) 0) in
      rw (second, f.starts, ← put_in t.holds (get_or t.around (deep - 1) 0) t.begun (omega arith), ← put_in t.before t.begun (get_or t.holds (get_or t.around (deep - 1) 0) 0) (omega arith)) (record {
        site = refl;
        stacked = f.stacked;
        starts = refl;
        tall = f.tall;
        lists = f.lists;
        lasts = omega (arith, length-set t.holds (get_or t.around (deep - 1) 0) t.begun);
        firsts = omega (arith, length-set t.before t.begun (get_or t.holds (get_or t.around (deep - 1) 0) 0));
        last = omega arith;
        low = λ p. by_same p (get_or t.around (deep - 1) 0) (λ v. rw (v, get_or-set_same t.holds (get_or t.around (deep - 1) 0) t.begun 0 (omega arith)) (omega arith)) (λ v. rw (get_or-set_other t.holds (get_or t.around (deep - 1) 0) p t.begun 0 v) (let a : get_or t.holds p 0 ≤ at - 1 = f.low p in omega arith));
        inside = each_map (Stood t.earlier t.latest at) (Stood t.earlier t.latest (suc (suc at))) (stood_later t.earlier t.latest at (suc (suc at)) (omega arith)) w.around f.inside;
        item = λ z. absurd (omega arith);
        files = files_mark tree t.earlier t.holds t.before t.latest w.met f.files (get_or t.around (deep - 1) 0) t.begun m there g under (omega arith) (omega arith) (rw site' (sym is));
      })

-- ---- an event

module _ (tree : List ℕ) (t : Shelf) (at deep : ℕ) (w : Walk) (f : Filed tree t at deep w) where
  filed_as : (s : Shelf) (q q' d d' : ℕ) (v : Walk) → q ≡ q' → d ≡ d' → Filed tree s q d v → Filed tree s q' d' v
  filed_as s q q' d d' v e g x = rw (← e, ← g) x

  passing : (a q d : ℕ) → a ≡ q → at ≤ q → d ≡ deep → Filed tree (passed_by t) q d (walker a w.around 0 w.met)
  passing a q d e h l = rw (e, l) (filed_pass tree t at deep w f q h)

  pub filed_next : (e : told.Event) (q d : ℕ) → Stands tree at e q → d ≡ deep_after e deep → q ≤ length tree → q ≤ 32768 → 2 * d ≤ q → (length tree - q) + d < (length tree - at) + deep → Filed tree (added t at deep e) q d (walks w (event_in tree e))
  filed_next (Begins p kind map) q d s l i long room falls =
      let z : q ≡ at + 2 = s.5 in
      rw f.site (filed_as (added t at deep (Begins p kind map)) (suc (suc at)) q (deep + 1) d (walks (walker at w.around w.begun w.met) (event_in tree (Begins p kind map))) (omega arith) (sym l) (filed_begin tree t at deep w f (cond (is_container kind) 1 0) (small (is_container kind)) (omega arith)))
    where
      small : (b : Bool) → cond b 1 0 ≤ 1
      small true = omega arith
      small false = omega arith
  filed_next Ends q d s l i long room falls = rw f.site (filed_as (passed_by t) at q (deep - 1) d (walker at (tail_of w.around) 0 w.met) (sym s) (sym l) (filed_pop tree t at deep w f (omega arith)))
  filed_next (Opens n) q d s l i long room falls =
      let z : q ≡ at + 2 = s.2 in
      rw (f.site, top tree t at deep w f) (go (eqb (get_or t.around deep 0) 1) refl (omega arith) (omega arith) (omega arith))
    where
      go : (b : Bool) → eqb (get_or t.around deep 0) 1 ≡ b → suc (suc at) ≡ q → deep + 1 < 16385 → at + 2 ≤ 32768 → Filed tree (cond b (opened_at t at deep) (shelf (stored t.around (deep + 1) 0) t.earlier t.holds t.before t.latest 0)) q d (walker (suc (suc at)) (cond b at 0 ∷ w.around) 0 w.met)
      go true e z y x = filed_as (opened_at t at deep) (suc (suc at)) q (deep + 1) d (walker (suc (suc at)) (at ∷ w.around) 0 w.met) z (sym l) (filed_open tree t at deep w f (eqb-true (get_or t.around deep 0) 1 e) y x)
      go false e z y x = filed_as (shelf (stored t.around (deep + 1) 0) t.earlier t.holds t.before t.latest 0) (suc (suc at)) q (deep + 1) d (walker (suc (suc at)) (0 ∷ w.around) 0 w.met) z (sym l) (filed_plain tree t at deep w f y)
  filed_next Closes q d s l i long room falls = rw f.site (filed_as (passed_by t) at q (deep - 1) d (walker at (tail_of w.around) 0 w.met) (sym s) (sym l) (filed_pop tree t at deep w f (omega arith)))
  filed_next Hole q d s l i long room falls = let a : q ≡ at + 1 = s.1 in let b : w.at ≡ at = f.site in passing (suc w.at) q d (omega arith) (omega arith) l
  filed_next (Text p n) q d s l i long room falls =
      let a : p ≡ at + 2 = s.0 in
      let c : q ≡ p + n = s.3 in
      let b : w.at ≡ at = f.site in
      passing (suc (suc (w.at + length (take n (drop p tree))))) q d (omega (arith, length-take n (drop p tree), length-drop p tree)) (omega arith) l
  filed_next (Byte v) q d s l i long room falls = let a : q ≡ at + 1 = s.2 in let b : w.at ≡ at = f.site in passing (suc w.at) q d (omega arith) (omega arith) l
  filed_next (Mark m) q d s l i long room falls =
      let z : q ≡ at + 2 = s.2 in
      let b : w.at ≡ at = f.site in
      marking (ltb 0 t.begun) refl (omega arith) (omega arith)
    where
      marking : (b : Bool) → ltb 0 t.begun ≡ b → suc (suc at) ≡ q → at + 2 ≤ 32768 → Filed tree (cond (ltb 0 t.begun) (cond (ltb 0 deep) (marked_in t (get_or t.around (deep - 1) 0)) (passed_by t)) (passed_by t)) q d (walker (suc (suc w.at)) w.around 0 (cond (ltb 0 w.begun) (spot (head_of (tail_of w.around)) w.begun m ∷ w.met) w.met))
      marking true e y x =
          let some : 0 < t.begun = ltb-true 0 t.begun e in
          let other : ltb 0 w.begun ≡ true = ap (ltb 0) f.starts ∙ e in
          rw (e, other, lt-ltb 0 deep (f.item some).0, f.site) (filed_as (marked_in t (get_or t.around (deep - 1) 0)) (suc (suc at)) q deep d (walker (suc (suc at)) w.around 0 (spot (head_of (tail_of w.around)) w.begun m ∷ w.met)) y (sym l) (filed_mark tree t at deep w f m s.0 some x))
      marking false e y x =
          let other : ltb 0 w.begun ≡ false = ap (ltb 0) f.starts ∙ e in
          rw (e, other) (passing (suc (suc w.at)) q d (ap (λ (p : ℕ). suc (suc p)) f.site ∙ y) (omega arith) l)
  filed_next (Number n) q d s l i long room falls = let a : q ≡ at + 2 = s.2 in let b : w.at ≡ at = f.site in passing (suc (suc w.at)) q d (omega arith) (omega arith) l
