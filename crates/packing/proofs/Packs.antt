-- The literal that packs again, laid out by the overlay law's `lay_all`.
-- Assumes nothing.
use mathlib.Core.Path.{◌≡◌, refl, sym, ap, ◌∙◌}
use mathlib.Core.Bool.{Bool, true, false, cond, ◌&&◌}
use mathlib.Core.List.{List, [], ◌∷◌}
use Prim.Native.Nat.{ℕ, suc}
use Rattle.tree.specs.Tree.{Node, Items}
use Rattle.tree.specs.Tree.Items.{item}
use Rattle.lowering.specs.Parts.{is, node_at_of, text_at_of, number_at, piece_in}
use Rattle.lowering.proofs.Cases.{by_test}
use Rattle.overlay.specs.Objects.{Key, Value, Props, same_text, same, put, owns, keys_of}
use Rattle.overlay.specs.Objects.Key.{name, symbol}
use Rattle.overlay.specs.Objects.Value.{outer, inner}
use Rattle.overlay.specs.Objects.Props.{empty, entry}
use Rattle.overlay.specs.Run.{History, Outside, proto, is_written, spelled, makes, calls_s, is_blank, take, copy, keyed, defined, lay, lay_all}
use Rattle.overlay.specs.Run.Step.{evaluates, computes, names, converts, lists, reads}
use Rattle.overlay.specs.Run.Reply.{gives}
use Rattle.overlay.specs.Run.Out.{ok}
use Rattle.overlay.proofs.LaidOn.{differ, text_is, same_self}
use Rattle.packing.specs.World.{Slot, Own, Held, World, slot, stored, shown, seen, look}
use Rattle.packing.specs.World.Slot.{lacks, value, accessor}
use Rattle.packing.specs.World.Held.{lost, held}
use Rattle.packing.specs.Unpack.{Take, is_among}
use Rattle.packing.specs.Unpack.Take.{taking}
use Rattle.packing.specs.Pack.{property, reference, parts, since, spread_rest, outside, packs, numbered}
use Rattle.packing.specs.Class.{are_names, keys_taken}
use Rattle.packing.specs.Law.{Among}
use Rattle.packing.specs.Law.Among.{here, there}
use Rattle.packing.specs.World.{History as Steps}
use Rattle.packing.proofs.Objects.{or_later, held_not_lost, held_is, fill, gathered, or_else, look_gathered}

-- reading names stores nothing
pub since_stored : (x : List ℕ) (h : Steps) (g : History) → stored x (since h g) ≡ stored x h
since_stored x h [] = refl
since_stored x h (evaluates n ∷ g) = since_stored x h g
since_stored x h (computes n ∷ g) = since_stored x h g
since_stored x h (names f k n ∷ g) = since_stored x h g
since_stored x h (converts n ∷ g) = since_stored x h g
since_stored x h (lists v ∷ g) = since_stored x h g
since_stored x h (reads v k ∷ g) = since_stored x h g

-- what is seen of an object of the outside is a value of the outside
shown_outer : (s : Slot) (v : Value) → shown s ≡ held v → (n : ℕ) × (v ≡ outer n)
shown_outer lacks v e = held_not_lost (sym e)
shown_outer (value true n) v e = (n, sym (held_is e))
shown_outer (value false n) v e = held_not_lost (sym e)
shown_outer (accessor b) v e = held_not_lost (sym e)

-- ---- the keys of an object that was made

another : (k l : Key) (p : Props) → same k l ≡ false → is_among k (l ∷ keys_of p) ≡ is_among k (keys_of p)
another k l p t = simp t

key_owned : (k : Key) (p : Props) → is_among k (keys_of p) ≡ true → owns k p ≡ true
key_owned k empty e = differ (sym e)
key_owned k (entry l v p) e = by_test (same k l) (λ t. rw t refl) (λ t. rw t (key_owned k p (sym (another k l p t) ∙ e)))

key_held : (k : Key) (p : Props) → is_among k (keys_of p) ≡ true → (v : Value) × (look k p ≡ held v)
key_held k empty e = differ (sym e)
key_held k (entry l v p) e = by_test (same k l) (λ t. (v, rw t refl)) (λ t. onward t (key_held k p (sym (another k l p t) ∙ e)))
  where
    onward : same k l ≡ false → (w : Value) × (look k p ≡ held w) → (w : Value) × (look k (entry l v p) ≡ held w)
    onward t r = (r.0, rw t r.1)

key_gone : (k : Key) (p : Props) → is_among k (keys_of p) ≡ false → look k p ≡ lost
key_gone k empty e = refl
key_gone k (entry l v p) e = by_test (same k l)
    (λ t. differ (let z : is_among k (l ∷ keys_of p) ≡ true = simp t in sym z ∙ e))
    (λ t. rw t (key_gone k p (sym (another k l p t) ∙ e)))

-- ---- the literal, part by part

item_laid : (U : Outside) (n : Node) (ps : Items) (t : Props) (g : History) {g' : History} {t' : Props} → lay U n t g ≡ ok g' t' → lay_all U (item n ps) t g ≡ lay_all U ps t' g'
unfolding lay
item_laid U n ps t g e = rw e refl

module _ (W : World) (h : Steps) (m : Own) (left : Props) where
  -- what the literal has to show
  abbrev see : Key → Held
  see k = numbered (seen k m)

  -- a key of the rest, with its value
  abbrev Rests : Key → Type 0
  Rests k = (n : ℕ) × (owns k left ≡ true) × (look k left ≡ held (outer n)) × (seen k m ≡ held (outer n))

  -- `k: b`
  property_laid : (s b : List ℕ) (n : ℕ) (t : Props) (g : History) → same_text s proto ≡ false → W.named (since h g) b ≡ gives (outer n)
      → lay (outside W h) (property (name s) b) t g ≡ ok (names 0 (name s) (reference b) ∷ g) (put (name s) (outer (suc n)) t)
  unfolding lay defined keyed makes is_written spelled calls_s is node_at_of text_at_of number_at piece_in
  property_laid s b n t g e q = rw (e, q) refl

  -- `...r`, key by key
  taken_all : (ks : List Key) (t : Props) (g : History) → spread_rest W h g ≡ left → ((k : Key) → is_among k ks ≡ true → Rests k)
      → (g' : History) × (take (outside W h) 0 ks t g ≡ ok g' (gathered (λ k. true) see ks t))
  unfolding gathered
  taken_all [] t g e a = (g, refl)
  taken_all (k ∷ ks) t g e a =
      let x = a k (rw (same_self k) refl) in
      let r = taken_all ks (put k (outer (suc x.0)) t) (reads (outer 0) k ∷ g) e (λ j i. a j (or_later (same j k) (is_among j ks) i)) in
      (r.0, rw (e, x.1, x.2, x.3) r.1)

  rest_copied : (t : Props) (g : History) → spread_rest W h g ≡ left → ((k : Key) → is_among k (keys_of left) ≡ true → Rests k)
      → (g' : History) × (copy (outside W h) false (outer 0) t g ≡ ok g' (gathered (λ k. true) see (keys_of left) t))
  unfolding copy
  rest_copied t g e a = let x = taken_all (keys_of left) t (lists (outer 0) ∷ g) e a in (x.0, rw e x.1)

  rest_laid : (r : List ℕ) (t : Props) (g : History) → W.named (since h g) r ≡ gives (inner left) → ((k : Key) → is_among k (keys_of left) ≡ true → Rests k)
      → (g' : History) × (lay_all (outside W h) (parts m [] r) t g ≡ ok g' (gathered (λ k. true) see (keys_of left) t))
  unfolding lay is_blank calls_s is node_at_of text_at_of piece_in
  rest_laid r t g q a =
      let x = rest_copied t (evaluates (reference r) ∷ g) (rw q refl) a in
      (x.0, rw (q, x.1) refl)

  all_laid : (ts : List Take) (r : List ℕ) (t : Props) (g : History) → slot (name proto) m ≡ lacks → are_names ts ≡ true
      → ((g : History) (k : Key) (v : Value) (b : List ℕ) → seen k m ≡ held v → Among (taking k b) ts → W.named (since h g) b ≡ gives v)
      → ((g : History) → W.named (since h g) r ≡ gives (inner left)) → ((k : Key) → is_among k (keys_of left) ≡ true → Rests k)
      → (g' : History) × (lay_all (outside W h) (parts m ts r) t g ≡ ok g' (gathered (λ k. true) see (keys_of left) (gathered (λ k. true) see (keys_taken ts) t)))
  unfolding gathered
  all_laid [] r t g z n e q a = rest_laid r t g (q g) a
  all_laid (taking (symbol i) b ∷ ts) r t g z n e q a = differ (sym n)
  all_laid (taking (name s) b ∷ ts) r t g z n e q a = go (seen (name s) m) refl (λ t g. all_laid ts r t g z n (λ g k v b p i. e g k v b p (there i)) q a)
    where
      Onward : Type 0
      Onward = (t : Props) (g : History) → (g' : History) × (lay_all (outside W h) (parts m ts r) t g ≡ ok g' (gathered (λ k. true) see (keys_of left) (gathered (λ k. true) see (keys_taken ts) t)))

      Goal : Type 0
      Goal = (g' : History) × (lay_all (outside W h) (parts m (taking (name s) b ∷ ts) r) t g ≡ ok g' (gathered (λ k. true) see (keys_of left) (gathered (λ k. true) see (keys_taken ts) (fill (name s) (see (name s)) t))))

      step : (i : ℕ) → seen (name s) m ≡ held (outer i) → Onward → Goal
      step i p f =
          let far : same_text s proto ≡ false = by_test (same_text s proto)
          (λ y. held_not_lost (sym p ∙ ap (λ (x : List ℕ). seen (name x) m) (text_is s proto y) ∙ ap shown z)) (λ y. y) in
          let l = property_laid s b i t g far (e g (name s) (outer i) b p here) in
          let w = f (put (name s) (outer (suc i)) t) (names 0 (name s) (reference b) ∷ g) in
          (w.0, rw p (item_laid (outside W h) (property (name s) b) (parts m ts r) t g l ∙ w.1))

      go : (x : Held) → seen (name s) m ≡ x → Onward → Goal
      go lost p f = let w = f t g in (w.0, rw p w.1)
      go (held v) p f = let o = shown_outer (slot (name s) m) v p in step o.0 (p ∙ ap held o.1) f

-- a key is on one side at least
sides : (x y : Bool) (s : Held) → (s ≡ lost → x ≡ false) → (x ≡ false → y ≡ false → s ≡ lost)
    → cond (x && true) (or_else s (cond (y && true) (or_else s lost) lost)) (cond (y && true) (or_else s lost) lost) ≡ s
sides true y lost a b = differ (a refl)
sides true y (held v) a b = refl
sides false true lost a b = refl
sides false true (held v) a b = refl
sides false false s a b = sym (b refl refl)

-- ---- together: where the names give what they got, and the rest has what is not taken

module _ (W : World) (h : Steps) (m : Own) (left : Props) (ts : List Take) (r : List ℕ) (z : slot (name proto) m ≡ lacks) (n : are_names ts ≡ true)
    (e : (g : History) (k : Key) (v : Value) (b : List ℕ) → seen k m ≡ held v → Among (taking k b) ts → W.named (since h g) b ≡ gives v)
    (q : (g : History) → W.named (since h g) r ≡ gives (inner left))
    (looks : (k : Key) → look k left ≡ cond (is_among k (keys_taken ts)) lost (seen k m)) where
  -- a key that is in the rest is seen
  in_rest : (k : Key) (v : Value) → look k left ≡ held v → seen k m ≡ held v
  in_rest k v p = by_test (is_among k (keys_taken ts))
      (λ t. held_not_lost (sym p ∙ looks k ∙ rw t refl))
      (λ t. sym (looks k ∙ rw t refl) ∙ p)

  found : (k : Key) → is_among k (keys_of left) ≡ true → Rests W h m left k
  found k i =
      let p = key_held k left i in
      let x = shown_outer (slot k m) p.0 (in_rest k p.0 p.1) in
      (x.0, key_owned k left i, p.1 ∙ ap held x.1, in_rest k p.0 p.1 ∙ ap held x.1)

  unseen : (k : Key) → see W h m left k ≡ lost → is_among k (keys_of left) ≡ false
  unseen k g = by_test (is_among k (keys_of left)) (λ i. let x = found k i in held_not_lost (sym (ap numbered x.3) ∙ g)) (λ i. i)

  nowhere_seen : (k : Key) → is_among k (keys_of left) ≡ false → is_among k (keys_taken ts) ≡ false → see W h m left k ≡ lost
  nowhere_seen k i t = let p : look k left ≡ seen k m = looks k ∙ rw t refl in ap numbered (sym p ∙ key_gone k left i)

  pub packs_whole : (g : History) × (p : Props) × (packs W h m ts r ≡ ok g p) × ((k : Key) → look k p ≡ numbered (seen k m))
  unfolding packs
  packs_whole =
      let x = all_laid W h m left ts r empty [] z n e q found in
      let taken = gathered (λ k. true) (see W h m left) (keys_taken ts) empty in (
        x.0,
        gathered (λ k. true) (see W h m left) (keys_of left) taken,
        x.1,
        λ k. look_gathered (λ k. true) (see W h m left) k (keys_of left) taken
            ∙ ap (λ (y : Held). cond (is_among k (keys_of left) && true) (or_else (see W h m left k) y) y) (look_gathered (λ k. true) (see W h m left) k (keys_taken ts) empty)
            ∙ sides (is_among k (keys_of left)) (is_among k (keys_taken ts)) (see W h m left k) (unseen k) (nowhere_seen k),
      )
