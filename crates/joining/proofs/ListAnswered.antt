-- What is answered of the list is what the definition reads.
-- Assumes nothing.
use Prim.Native.Nat.{ℕ, zero, suc, ◌+◌, ◌-◌, ◌*◌, ◌≤◌}
use mathlib.Core.Path.{◌≡◌, refl, sym, ap, ◌∙◌}
use mathlib.Core.List.{List, [], ◌∷◌, ◌++◌}
use mathlib.Core.Bool.{Bool, true, false, cond}
use mathlib.Core.Option.{Option, none, some}
use native.Mathlib.Omega.{arith}
use lib.Dec.{eqb, ltb, leb}
use lib.ListN.{length, get_or, take, drop}
use lib.Seq.{take_at}
use borrow.Author.Tests.{eqb-true, leb-true}
use Rattle.tree.specs.Tree.{Items, encode_piece, marks_items}
use Rattle.tree.specs.Tree.Piece.{list}
use Rattle.tree.specs.Grammar.{declarator}
use Rattle.tree.specs.Grammar.Stage.{rewritten}
use Rattle.tree.specs.Grammar.Sort.{many}
use Rattle.tree.specs.WellFormed.{Bytes}
use Rattle.tree.specs.Read.{Got, mapped, joined, accepted, whole, wide_at, read_field}
use Rattle.tree.specs.Read.Got.{got, refused}
use Rattle.tree.proofs.HoldsOfRead.{holds}
use Rattle.tree.proofs.Sound.{never, SoundPiece, node_sound, field_sound, bytes_at}
use Rattle.rewritten.specs.Events.{events_items}
use Rattle.rewritten.specs.Pass.{folded}
use Rattle.rewritten.specs.Marks.{meet}
use Rattle.rewritten.specs.Pending.{node_in_of}
use Rattle.lowering.specs.Collect.{Entry, over}
use Rattle.joining.specs.List.{Handed, entry, handed, read_declarators, read_entry, read_entries, read_parts, read_handed, inner_marks, longest_list}
use Rattle.joining.specs.Writing.{part}
use Rattle.joining.specs.Files.{times}
use Rattle.joining.specs.Settle.{Stand}
use Rattle.joining.specs.Entries.{Told, tells, telling, onward, run_declarators, run_entries, run_head, run_list, Listed}
use Rattle.joining.specs.Entries.Told.{lost, told}
use Rattle.joining.proofs.Times.{times_append, items_times, meet_times, meet_once, meet_fails, times_in}

lost_told : {A : Type 0} {q : ℕ} {m : List ℕ} → lost ≡ told q m → A
lost_told e = let z : ◌≡◌ {A = ℕ} 0 1 = cc in absurd (omega arith)

told_lost : {A : Type 0} {q : ℕ} {m : List ℕ} → told q m ≡ lost → A
told_lost e = let z : ◌≡◌ {A = ℕ} 0 1 = cc in absurd (omega arith)

pub refused_got : {A B : Type 0} {r : _} {a : A} {q k : ℕ} → ◌≡◌ {A = Got A} (refused r) (got a q k) → B
refused_got e = let z : ◌≡◌ {A = ℕ} 0 1 = cc in absurd (omega arith)

module _ (l : List ℕ) (b : Bytes l) where
  -- ---- a declarator list

  pub declarators_sound : (at k : ℕ) (ds : Items) (q j : ℕ) → read_declarators l at k ≡ got ds q j → SoundPiece l rewritten (length l) 0 (many declarator) at k (list ds) q j
  unfolding read_declarators read_field node_in_of
  declarators_sound at k ds q j e =
      holds (SoundPiece l rewritten (length l) 0 (many declarator) at k) (read_field l rewritten (node_in_of l) (many declarator) at k) (list ds) q j
      (field_sound l rewritten (length l) (bytes_at l b) (node_in_of l) (λ p a i. node_sound l rewritten (bytes_at l b) (length l) p a i) (many declarator) 0 at k (λ z. never z))
      (ap (mapped list) e)

  -- its bytes, and where it ends
  pub record Laid (at : ℕ) (ds : Items) (q : ℕ) : Type 0 where
    pub bytes : part at q l ≡ encode_piece (list ds)
    pub cut : drop at l ≡ encode_piece (list ds) ++ drop q l
    pub longer : at + 2 ≤ q

  declarators_laid : (at k : ℕ) (ds : Items) (q j : ℕ) → read_declarators l at k ≡ got ds q j → Laid at ds q × (k ≡ j)
  unfolding part encode_piece
  declarators_laid at k ds q j e =
      let s = declarators_sound at k ds q j e in
      let cut : drop at l ≡ encode_piece (list ds) ++ drop q l = s.part.stands.cut in
      let end : q ≡ at + length (encode_piece (list ds)) = s.part.stands.end in (
        record {
          bytes = ap (take (q - at)) cut ∙ take_at (encode_piece (list ds)) (drop q l) (q - at) (omega arith);
          cut = cut;
          longer = omega arith;
        },
        s.part.marked,
      )

  -- what was told of it
  pub record Read (at : ℕ) (met : List ℕ) (q : ℕ) (m : List ℕ) : Type 0 where
    pub items : Items
    pub is : read_declarators l at 1 ≡ got items q 1
    pub laid : Laid at items q
    pub met' : (x : ℕ) → times x m ≡ times x met + times x (marks_items items)
    pub once : ((x : ℕ) → times x met ≤ 1) → (x : ℕ) → times x m ≤ 1

  read_told : (at : ℕ) (met : List ℕ) (q : ℕ) (m : List ℕ) → run_declarators l at met ≡ told q m → Read at met q m
  unfolding run_declarators
  read_told at met q m w = go (read_declarators l at 1) refl w
    where
      pick : (ds : Items) (p k : ℕ) → read_declarators l at 1 ≡ got ds p k → (o : Option (List ℕ)) → folded meet (some met) (events_items ds) ≡ o → tells o p ≡ told q m → Read at met q m
      pick ds p k e none f v = lost_told v
      pick ds p k e (some y) f v =
          let same : p ≡ q = cc in
          let same' : y ≡ m = cc in
          let s = declarators_laid at 1 ds p k e in
          let one : k ≡ 1 = sym s.1 in
          let g : folded meet (some met) (events_items ds) ≡ some m = f ∙ ap some same' in
          record {
            items = ds;
            is = e ∙ (λ i. got ds (same i) (one i));
            laid = rw (← same) s.0;
            met' = λ x. meet_times (events_items ds) met m g x ∙ ap (λ (n : ℕ). times x met + n) (items_times x ds);
            once = λ h x. meet_once (events_items ds) met m g h x;
          }

      go : (g : Got Items) → read_declarators l at 1 ≡ g → telling met (mapped events_items g) ≡ told q m → Read at met q m
      go (got ds p k) e v = pick ds p k e (folded meet (some met) (events_items ds)) refl v
      go (refused r) e v = lost_told v

  read_lost : (at : ℕ) (met : List ℕ) → run_declarators l at met ≡ lost → (ds : Items) (q k : ℕ) → read_declarators l at 1 ≡ got ds q k → (x : ℕ) × (2 ≤ times x met + times x (marks_items ds))
  unfolding run_declarators
  read_lost at met w ds q k e = go (folded meet (some met) (events_items ds)) refl (sym (ap (λ (g : Got Items). telling met (mapped events_items g)) e) ∙ w)
    where
      go : (o : Option (List ℕ)) → folded meet (some met) (events_items ds) ≡ o → tells o q ≡ lost → (x : ℕ) × (2 ≤ times x met + times x (marks_items ds))
      go none f v = let r = meet_fails (events_items ds) met f in let h : 2 ≤ times r.0 met + times_in r.0 (events_items ds) = r.1 in (r.0, let z : times_in r.0 (events_items ds) ≡ times r.0 (marks_items ds) = items_times r.0 ds in omega arith)
      go (some m) f v = told_lost v

  -- ---- entries

  abbrev inner : List Entry → List ℕ
  inner es = over (λ e. marks_items e.declarators) es

  pub record EntriesRead (n at : ℕ) (met : List ℕ) (q : ℕ) (m : List ℕ) : Type 0 where
    pub entries : List Entry
    pub is : read_entries l n at 1 ≡ got entries q 1
    pub size : length entries ≡ n
    pub met' : (x : ℕ) → times x m ≡ times x met + times x (inner entries)
    pub once : ((x : ℕ) → times x met ≤ 1) → (x : ℕ) → times x m ≤ 1
    pub long : at + 4 * n ≤ q
    pub stand : (ends : List ℕ) → Listed l ends n at → Stand l ends at entries

  entries_told : (n at : ℕ) (met : List ℕ) (q : ℕ) (m : List ℕ) → run_entries l n at met ≡ told q m → EntriesRead n at met q m
  unfolding run_entries read_entries read_entry over times Listed Stand
  entries_told zero at met q m w =
      let same : at ≡ q = cc in
      let same' : met ≡ m = cc in
      record {
        entries = [];
        is = ap (λ (p : ℕ). got [] p 1) same;
        size = refl;
        met' = λ x. rw (← same') (omega arith);
        once = λ h x. rw (← same') (h x);
        long = omega arith;
        stand = λ ends f. tt;
      }
  entries_told (suc n) at met q m w = go (ltb (wide_at l at) 65536) refl w (λ p y v. entries_told n p y q m v)
    where
      pick : ltb (wide_at l at) 65536 ≡ true → (t : Told) → run_declarators l (at + 2) met ≡ t → onward t (λ p y. run_entries l n p y) ≡ told q m → ((p : ℕ) (y : List ℕ) → run_entries l n p y ≡ told q m → EntriesRead n p y q m) → EntriesRead (suc n) at met q m
      pick e lost f v rest = lost_told v
      pick e (told p y) f v rest =
          let r = read_told (at + 2) met p y f in
          let i = rest p y v in
          let lo : at + 2 + 2 ≤ p = r.laid.longer in
          let hi : p + 4 * n ≤ q = i.long in
          record {
            entries = entry (wide_at l at) r.items ∷ i.entries;
            is = rw (e, r.is, i.is) refl;
            size = ap suc i.size;
            met' = λ x. let a : times x y ≡ times x met + times x (marks_items r.items) = r.met' x in let c : times x m ≡ times x y + times x (inner i.entries) = i.met' x in omega (arith, times_append x (marks_items r.items) (inner i.entries));
            once = λ h. i.once (r.once h);
            long = omega arith;
            stand = λ ends z. let there : get_or ends at 0 ≡ p = z.0 r.items p 1 r.is in (refl, rw there r.laid.bytes, rw there (i.stand ends (rw there at z.1)));
          }

      go : (c : Bool) → ltb (wide_at l at) 65536 ≡ c → cond c (onward (run_declarators l (at + 2) met) (λ p y. run_entries l n p y)) lost ≡ told q m → ((p : ℕ) (y : List ℕ) → run_entries l n p y ≡ told q m → EntriesRead n p y q m) → EntriesRead (suc n) at met q m
      go true e v rest = pick e (run_declarators l (at + 2) met) refl v rest
      go false e v rest = lost_told v

  pub mapped_got : {A B : Type 0} (f : A → B) (g : Got A) (c : B) (q k : ℕ) → mapped f g ≡ got c q k → (a : A) × (g ≡ got a q k) × (f a ≡ c)
  mapped_got f (got a p j) c q k e = let x : p ≡ q = cc in let y : j ≡ k = cc in (a, (λ i. got a (x i) (y i)), cc)
  mapped_got f (refused r) c q k e = refused_got e

  entries_lost : (n at : ℕ) (met : List ℕ) → run_entries l n at met ≡ lost → (es : List Entry) (q k : ℕ) → read_entries l n at 1 ≡ got es q k → (x : ℕ) × (2 ≤ times x met + times x (inner es))
  unfolding run_entries read_entries read_entry over times
  entries_lost zero at met w es q k e = told_lost w
  entries_lost (suc n) at met w es q k e = go (ltb (wide_at l at) 65536) w e (λ p y v fs g. entries_lost n p y v fs q k g)
    where
      moved : (a c : List Entry) → a ≡ c → ((x : ℕ) × (2 ≤ times x met + times x (inner a))) → (x : ℕ) × (2 ≤ times x met + times x (inner c))
      moved a c s r = rw (← s) r

      told_case : (ds : Items) (p j : ℕ) → read_declarators l (at + 2) 1 ≡ got ds p j → (fs : List Entry) → read_entries l n p 1 ≡ got fs q k → (t : Told) → run_declarators l (at + 2) met ≡ t → onward t (λ p' y. run_entries l n p' y) ≡ lost → ((p : ℕ) (y : List ℕ) → run_entries l n p y ≡ lost → (fs : List Entry) → read_entries l n p 1 ≡ got fs q k → (x : ℕ) × (2 ≤ times x y + times x (inner fs))) → (x : ℕ) × (2 ≤ times x met + times x (marks_items ds ++ inner fs))
      told_case ds p j f fs g lost u v rest = let r = read_lost (at + 2) met u ds p j f in let h : 2 ≤ times r.0 met + times r.0 (marks_items ds) = r.1 in (r.0, omega (arith, times_append r.0 (marks_items ds) (inner fs)))
      told_case ds p j f fs g (told p' y) u v rest =
          let r = read_told (at + 2) met p' y u in
          let both : got r.items p' 1 ≡ got ds p j = sym r.is ∙ f in
          let same : r.items ≡ ds = cc in
          let there : p' ≡ p = cc in
          let i = rest p' y v fs (ap (λ (z : ℕ). read_entries l n z 1) there ∙ g) in
          let h : 2 ≤ times i.0 y + times i.0 (inner fs) = i.1 in
          let c : times i.0 y ≡ times i.0 met + times i.0 (marks_items ds) = r.met' i.0 ∙ ap (λ (z : Items). times i.0 met + times i.0 (marks_items z)) same in
          (i.0, omega (arith, times_append i.0 (marks_items ds) (inner fs)))

      pick : (g : Got Items) → read_declarators l (at + 2) 1 ≡ g → onward (run_declarators l (at + 2) met) (λ p y. run_entries l n p y) ≡ lost → joined ◌∷◌ (mapped (entry (wide_at l at)) g) (λ p j. read_entries l n p j) ≡ got es q k → ((p : ℕ) (y : List ℕ) → run_entries l n p y ≡ lost → (fs : List Entry) → read_entries l n p 1 ≡ got fs q k → (x : ℕ) × (2 ≤ times x y + times x (inner fs))) → (x : ℕ) × (2 ≤ times x met + times x (inner es))
      pick (refused r) f v e' rest = refused_got e'
      pick (got ds p j) f v e' rest =
          let one : j ≡ 1 = sym (declarators_laid (at + 2) 1 ds p j f).1 in
          let m = mapped_got (λ (fs : List Entry). entry (wide_at l at) ds ∷ fs) (read_entries l n p j) es q k e' in
          let r = told_case ds p j f m.0 (ap (read_entries l n p) (sym one) ∙ m.1) (run_declarators l (at + 2) met) refl v rest in
          moved (entry (wide_at l at) ds ∷ m.0) es m.2 r

      go : (c : Bool) → cond c (onward (run_declarators l (at + 2) met) (λ p y. run_entries l n p y)) lost ≡ lost → joined ◌∷◌ (accepted c (mapped (entry (wide_at l at)) (read_declarators l (at + 2) 1))) (λ p j. read_entries l n p j) ≡ got es q k → ((p : ℕ) (y : List ℕ) → run_entries l n p y ≡ lost → (fs : List Entry) → read_entries l n p 1 ≡ got fs q k → (x : ℕ) × (2 ≤ times x y + times x (inner fs))) → (x : ℕ) × (2 ≤ times x met + times x (inner es))
      go true v e' rest = pick (read_declarators l (at + 2) 1) refl v e' rest
      go false v e' rest = refused_got e'

  -- ---- all of it

  pub record ListRead (met : List ℕ) (q : ℕ) (m : List ℕ) : Type 0 where
    pub entries : List Entry
    pub excluded : Items
    pub is : read_handed l ≡ got (handed entries excluded) (length l) 1
    pub size : length entries ≡ wide_at l 0
    pub met' : (x : ℕ) → times x m ≡ times x met + times x (inner_marks (handed entries excluded))
    pub once : ((x : ℕ) → times x met ≤ 1) → (x : ℕ) → times x m ≤ 1
    pub few : 4 * length entries ≤ 16384
    pub last : Laid q excluded (length l)
    pub stand : (ends : List ℕ) → Listed l ends (wide_at l 0) 2 → Stand l ends 2 entries

  pub list_told : (met : List ℕ) (q : ℕ) (m : List ℕ) → run_list l met ≡ told q m → ListRead met q m
  unfolding run_list run_head read_handed read_parts inner_marks
  list_told met q m w = short (leb (length l) longest_list) refl w
    where
      ended : leb (length l) longest_list ≡ true → ltb (wide_at l 0) 65536 ≡ true → (p : ℕ) (y : List ℕ) → EntriesRead (wide_at l 0) 2 met p y → (e : ℕ) (z : List ℕ) → Read p y e z → (c : Bool) → eqb e (length l) ≡ c → cond c (told p z) lost ≡ told q m → ListRead met q m
      ended a c p y r e z s true f v =
          let end : e ≡ length l = eqb-true e (length l) f in
          let here : p ≡ q = cc in
          let same : z ≡ m = cc in
          let hi : 2 + 4 * wide_at l 0 ≤ p = r.long in
          let lo : p + 2 ≤ e = s.laid.longer in
          let top : length l ≤ 16384 = leb-true (length l) longest_list a in
          record {
            entries = r.entries;
            excluded = s.items;
            is = rw (a, c, r.is, s.is, f) (ap (λ (i : ℕ). got (handed r.entries s.items) i 1) end);
            size = r.size;
            met' = λ x. let g : times x y ≡ times x met + times x (inner r.entries) = r.met' x in let h : times x z ≡ times x y + times x (marks_items s.items) = s.met' x in rw (← same) (omega (arith, times_append x (inner r.entries) (marks_items s.items)));
            once = λ h. rw (← same) (s.once (r.once h));
            few = rw r.size (omega arith);
            last = rw (← here, ← end) s.laid;
            stand = λ ends g. r.stand ends g;
          }
      ended a c p y r e z s false f v = lost_told v

      last : leb (length l) longest_list ≡ true → ltb (wide_at l 0) 65536 ≡ true → (p : ℕ) (y : List ℕ) → EntriesRead (wide_at l 0) 2 met p y → (t : Told) → run_declarators l p y ≡ t → onward t (λ e z. cond (eqb e (length l)) (told p z) lost) ≡ told q m → ListRead met q m
      last a c p y r lost f v = lost_told v
      last a c p y r (told e z) f v = ended a c p y r e z (read_told p y e z f) (eqb e (length l)) refl v

      head : leb (length l) longest_list ≡ true → ltb (wide_at l 0) 65536 ≡ true → (t : Told) → run_entries l (wide_at l 0) 2 met ≡ t → onward t (λ p y. onward (run_declarators l p y) (λ e z. cond (eqb e (length l)) (told p z) lost)) ≡ told q m → ListRead met q m
      head a c lost f v = lost_told v
      head a c (told p y) f v = last a c p y (entries_told (wide_at l 0) 2 met p y f) (run_declarators l p y) refl v

      wide : leb (length l) longest_list ≡ true → (c : Bool) → ltb (wide_at l 0) 65536 ≡ c → onward (cond c (run_entries l (wide_at l 0) 2 met) lost) (λ p y. onward (run_declarators l p y) (λ e z. cond (eqb e (length l)) (told p z) lost)) ≡ told q m → ListRead met q m
      wide a true c v = head a c (run_entries l (wide_at l 0) 2 met) refl v
      wide a false c v = lost_told v

      short : (a : Bool) → leb (length l) longest_list ≡ a → cond a (onward (cond (ltb (wide_at l 0) 65536) (run_entries l (wide_at l 0) 2 met) lost) (λ p y. onward (run_declarators l p y) (λ e z. cond (eqb e (length l)) (told p z) lost))) lost ≡ told q m → ListRead met q m
      short true a v = wide a (ltb (wide_at l 0) 65536) refl v
      short false a v = lost_told v

  pub whole_got : {A : Type 0} (g : Got A) (a : A) (q k : ℕ) → whole l g ≡ got a q k → (g ≡ got a q k) × (eqb q (length l) ≡ true)
  whole_got (got c p j) a q k e = go (eqb p (length l)) refl e
    where
      go : (t : Bool) → eqb p (length l) ≡ t → accepted t (got c p j) ≡ got a q k → (got c p j ≡ got a q k) × (eqb q (length l) ≡ true)
      go true f v = let same : p ≡ q = cc in (v, ap (λ (x : ℕ). eqb x (length l)) (sym same) ∙ f)
      go false f v = refused_got v
  whole_got (refused r) a q k e = refused_got e

  pub list_lost : (met : List ℕ) → run_list l met ≡ lost → (h : Handed) (q k : ℕ) → read_handed l ≡ got h q k → (x : ℕ) × (2 ≤ times x met + times x (inner_marks h))
  unfolding run_list run_head read_handed read_parts inner_marks
  list_lost met w h q k e = short (leb (length l) longest_list) w e
    where
      result : (es : List Entry) (ds : Items) → handed es ds ≡ h → (x : ℕ) → 2 ≤ times x met + (times x (inner es) + times x (marks_items ds)) → (x : ℕ) × (2 ≤ times x met + times x (inner h.entries ++ marks_items h.excluded))
      result es ds s x y = (x, rw (← s) (omega (arith, times_append x (inner es) (marks_items ds))))

      ended : (es : List Entry) (ds : Items) → handed es ds ≡ h → (p : ℕ) (y : List ℕ) → EntriesRead (wide_at l 0) 2 met p y → got es p 1 ≡ read_entries l (wide_at l 0) 2 1 → read_declarators l p 1 ≡ got ds q k → eqb q (length l) ≡ true → (t : Told) → run_declarators l p y ≡ t → onward t (λ e' z. cond (eqb e' (length l)) (told p z) lost) ≡ lost → (x : ℕ) × (2 ≤ times x met + times x (inner h.entries ++ marks_items h.excluded))
      ended es ds s p y r f g i lost u v =
          let both : got es p 1 ≡ got r.entries p 1 = f ∙ r.is in
          let same : es ≡ r.entries = cc in
          let c = read_lost p y u ds q k g in
          let o : 2 ≤ times c.0 y + times c.0 (marks_items ds) = c.1 in
          let a : times c.0 y ≡ times c.0 met + times c.0 (inner es) = r.met' c.0 ∙ ap (λ (z : List Entry). times c.0 met + times c.0 (inner z)) (sym same) in
          result es ds s c.0 (omega arith)
      ended es ds s p y r f g i (told e' z) u v =
          let c = read_told p y e' z u in
          let both : got c.items e' 1 ≡ got ds q k = sym c.is ∙ g in
          let there : e' ≡ q = cc in
          told_lost (sym (ap (λ (t : Bool). cond t (told p z) lost) (ap (λ (n : ℕ). eqb n (length l)) there ∙ i)) ∙ v)

      head : (es : List Entry) (p j : ℕ) → read_entries l (wide_at l 0) 2 1 ≡ got es p j → (ds : Items) → handed es ds ≡ h → read_declarators l p j ≡ got ds q k → eqb q (length l) ≡ true → (t : Told) → run_entries l (wide_at l 0) 2 met ≡ t → onward t (λ p' y. onward (run_declarators l p' y) (λ e' z. cond (eqb e' (length l)) (told p' z) lost)) ≡ lost → (x : ℕ) × (2 ≤ times x met + times x (inner h.entries ++ marks_items h.excluded))
      head es p j f ds s g i lost u v = let c = entries_lost (wide_at l 0) 2 met u es p j f in let o : 2 ≤ times c.0 met + times c.0 (inner es) = c.1 in result es ds s c.0 (omega arith)
      head es p j f ds s g i (told p' y) u v =
          let r = entries_told (wide_at l 0) 2 met p' y u in
          let both : got r.entries p' 1 ≡ got es p j = sym r.is ∙ f in
          let there : p' ≡ p = cc in
          let one : j ≡ 1 = cc in
          ended es ds s p' y r ((λ x. got es (there x) (sym one x)) ∙ sym f) ((λ x. read_declarators l (there x) (sym one x)) ∙ g) i (run_declarators l p' y) refl v

      parts : (g : Got (List Entry)) → read_entries l (wide_at l 0) 2 1 ≡ g → joined handed g (λ p j. read_declarators l p j) ≡ got h q k → eqb q (length l) ≡ true → onward (run_entries l (wide_at l 0) 2 met) (λ p' y. onward (run_declarators l p' y) (λ e' z. cond (eqb e' (length l)) (told p' z) lost)) ≡ lost → (x : ℕ) × (2 ≤ times x met + times x (inner h.entries ++ marks_items h.excluded))
      parts (refused r) f e' i v = refused_got e'
      parts (got es p j) f e' i v =
          let m = mapped_got (handed es) (read_declarators l p j) h q k e' in
          head es p j f m.0 m.2 m.1 i (run_entries l (wide_at l 0) 2 met) refl v

      wide : (c : Bool) → onward (cond c (run_entries l (wide_at l 0) 2 met) lost) (λ p' y. onward (run_declarators l p' y) (λ e' z. cond (eqb e' (length l)) (told p' z) lost)) ≡ lost → whole l (accepted c (joined handed (read_entries l (wide_at l 0) 2 1) (λ p j. read_declarators l p j))) ≡ got h q k → (x : ℕ) × (2 ≤ times x met + times x (inner h.entries ++ marks_items h.excluded))
      wide true v e' = let m = whole_got (joined handed (read_entries l (wide_at l 0) 2 1) (λ p j. read_declarators l p j)) h q k e' in parts (read_entries l (wide_at l 0) 2 1) refl m.0 m.1 v
      wide false v e' = refused_got e'

      short : (a : Bool) → cond a (onward (cond (ltb (wide_at l 0) 65536) (run_entries l (wide_at l 0) 2 met) lost) (λ p' y. onward (run_declarators l p' y) (λ e' z. cond (eqb e' (length l)) (told p' z) lost))) lost ≡ lost → accepted a (whole l (accepted (ltb (wide_at l 0) 65536) (joined handed (read_entries l (wide_at l 0) 2 1) (λ p j. read_declarators l p j)))) ≡ got h q k → (x : ℕ) × (2 ≤ times x met + times x (inner h.entries ++ marks_items h.excluded))
      short true v e' = wide (ltb (wide_at l 0) 65536) v e'
      short false v e' = refused_got e'
